-- The program of a description is found to show each field that it describes.
use Rattle.std.proofs.Common.{◌≡◌, ℕ, zero, suc, ◌+◌, ◌*◌, ◌<◌, ◌≤◌, Bool, true, false, not, ◌&&◌, ◌==◌, if◌then◌else◌, List, [], ◌∷◌, ◌++◌}
use Rattle.std.proofs.Common.{length, drop, map, Option, Some, None, option_map, Ok, Err, refl, sym, ap, ◌∙◌, arith, append-nil, eq-eqb}
use Rattle.std.proofs.Common.{ne_eqb, slice_index}
use Rattle.std.proofs.lemmas.Bool.{cond-false, cond-true}
use Rattle.std.proofs.Common.{mul-pos}
use Rattle.std.proofs.Math.Seq.{drop-append_seam}
use Rattle.risc_word.specs.declared.Code.{Code}
use Rattle.risc_word.specs.declared.Ctl.{Ctl}
use Rattle.risc_word.specs.declared.Instr.{Instr}
use Rattle.risc_word.specs.declared.Instr.TheVariants.{Write, Skip, WriteC, Jump, Sync, Write123, Skip123, Write1S23}
use Rattle.risc_word.specs.Parts.{instr_ends}
use Rattle.risc_word.specs.Words.{Reading, encoded}
use Rattle.fifo_model.specs.declared.Queue.{Queue}
use Rattle.fifo_model.specs.declared.Queue.TheVariants.{One, Two, Three}
use Rattle.machine_model.specs.Paths.{RiscProgram, fetch, is_data}
use Rattle.picture_model.specs.declared.PieceKind.{PieceKind}
use Rattle.picture_model.specs.declared.PieceKind.TheVariants as kinds
use Rattle.picture_model.specs.declared.Piece.{Piece}
use Rattle.picture_model.specs.Plans.{Cut, Follow, Strip, piece_of}
use Rattle.picture_model.specs.Programs.{instr_by, instr_of}
use Rattle.page_table.specs.Grants.{Chunk}
use Rattle.field_law.specs.Sections.{Ask, Await, Begin, GoOn, IsPlain, StandsFrom, ask, asked, asks, words_in}
use Rattle.field_law.specs.Trails.{next_at}
use Rattle.field_law.proofs.InSection.{plain_next}
use Rattle.capture_desc.specs.declared.desc.Desc.{Desc}
use Rattle.pixel_layout.specs.declared.Parity.{Parity}
use Rattle.picture_law.proofs.Program.{piece_plain}
use Rattle.check_model.specs.ByBytes.{by_bytes, bytes_asked}
use Rattle.check_model.specs.Checks.{Answer, Awaited, begins_field, behind, behind_at, ended, eol_by, eol_why, first_unlike, first_why}
use Rattle.check_model.specs.Checks.{goes_on, instr_asks, instr_why, is_none, is_vertical, left_by, none_left, one_more, order_why}
use Rattle.check_model.specs.Checks.{over_queues, queue_why, reach_at, same_ask, same_place, waiting_why, walked, walked_at, walked_by}
use Rattle.check_model.specs.Lines.{last_spot}
use Rattle.check_model.specs.declared.Why.{Why}
use Rattle.check_model.specs.declared.Why.TheVariants.{NothingAwaited, Unread}
use Rattle.check_law.proofs.Walked.{none_left_of}

-- ---- what begins with its own beginning

same_place_refl : (a : Option ℕ) → same_place a a ≡ true
same_place_refl None = refl
same_place_refl (Some a) = eq-eqb a a refl

both_true : (a b : Bool) → a ≡ true → b ≡ true → (a && b) ≡ true
both_true true true ea eb = refl
both_true true false ea eb = cc
both_true false b ea eb = cc

same_ask_refl : (a : Ask) → same_ask a a ≡ true
same_ask_refl (Await code) = eq-eqb _ _ refl
same_ask_refl (Begin n a) = both_true (n == n) (same_place a a) (eq-eqb n n refl) (same_place_refl a)
same_ask_refl (GoOn n a) = both_true (n == n) (same_place a a) (eq-eqb n n refl) (same_place_refl a)

like_itself : (first rest : List Ask) → first_unlike first (first ++ rest) ≡ None
like_itself [] rest = refl
like_itself (ask ∷ more) rest = cond-true (same_ask ask ask) _ _ (same_ask_refl ask) ∙ like_itself more rest

-- ---- instructions as they are awaited

-- an instruction has EOL exactly where the line ends, where it asks bytes of a queue
abbrev pub EndsRight : Queue → Instr → List Ask → Type 0
EndsRight q instr later = (is_data instr && not (is_none (instr_asks q instr))) ≡ true → (instr_ends instr).eol ≡ not (goes_on later)

-- the instruction is no beginning of a field, asks something of queue 1, and ends its line where its mark does
pub record IsNext (instr : Instr) (later : Queue → List Ask) : Type 0 where
  pub inner : begins_field instr ≡ false
  pub plain : IsPlain instr
  pub some : is_none (instr_asks One instr) ≡ false
  pub ends : (q : Queue) → EndsRight q instr (later q)

abbrev pub after_in : List Instr → Queue → List Ask
after_in instrs q = by_bytes (asks q instrs)

abbrev pub AreNext : List Instr → Type 0
AreNext [] = Unit {0}
AreNext (instr ∷ rest) = IsNext instr (after_in rest) × AreNext rest

-- no line is under way
abbrev pub IsFresh : List Instr → Type 0
IsFresh instrs = (q : Queue) → goes_on (after_in instrs q) ≡ false

no_first : (one other : Option Why) → one ≡ None → other ≡ None → first_why one other ≡ None
no_first one other first later = ap (λ (why : Option Why). first_why why other) first ∙ later

no_queue : (on : Queue → Option Why) → ((q : Queue) → on q ≡ None) → over_queues on ≡ None
no_queue on none = no_first (on One) (first_why (on Two) (on Three)) (none One) (no_first (on Two) (on Three) (none Two) (none Three))

if_either : (b : Bool) (one other : Option Why) → one ≡ None → other ≡ None → (if b then one else other) ≡ None
if_either true one other first later = first
if_either false one other first later = later

-- EOL and whether the line goes on are checked only where bytes are asked, and there they are right
right_end : (moves eol goes : Bool) (judged : Bool → Bool → Option Why) → judged true false ≡ None → judged false true ≡ None →
    (moves ≡ true → eol ≡ not goes) →
    (if moves then judged eol goes else None) ≡ None
right_end false eol goes judged ends inner right = refl
right_end true true false judged ends inner right = ends
right_end true false true judged ends inner right = inner
right_end true true true judged ends inner right = let never = right refl in cc
right_end true false false judged ends inner right = let never = right refl in cc

module _ (d : Desc) (field : Parity) (instr : Instr) (rest : List Instr) (left : Awaited) (is : IsNext instr (after_in rest))
    (same : (q : Queue) → left q ≡ by_bytes (asks q (instr ∷ rest))) where
  split : (q : Queue) → left q ≡ instr_asks q instr ++ after_in rest q
  split q = same q ∙ ap (λ (first : List Ask). first ++ after_in rest q) (sym (append-nil (bytes_asked (asked q instr))))

  left_then : (q : Queue) → left_by instr left q ≡ after_in rest q
  left_then q = ap (drop (length (instr_asks q instr))) (split q) ∙ drop-append_seam (instr_asks q instr) (after_in rest q)

  like : (q : Queue) → first_unlike (instr_asks q instr) (left q) ≡ None
  like q = ap (first_unlike (instr_asks q instr)) (split q) ∙ like_itself (instr_asks q instr) (after_in rest q)

  queue_fine : (q : Queue) → queue_why d field instr left q ≡ None
  queue_fine q = ap (option_map _) (like q)

  order_fine : order_why d field instr left ≡ None
  order_fine =
      let fine = no_queue (queue_why d field instr left) queue_fine in
      if_either (is_data instr) _ _ fine
      (no_first (over_queues (waiting_why d field instr left)) (over_queues (queue_why d field instr left))
      (no_queue (waiting_why d field instr left)
      (λ q. if_either (is_none (left q)) None (queue_why d field instr left q) refl (queue_fine q))) fine)

  eol_fine : (q : Queue) → eol_why d field instr left q ≡ None
  eol_fine q =
      right_end (is_data instr && not (is_none (instr_asks q instr))) (instr_ends instr).eol (goes_on (left_by instr left q))
      (λ eol goes. eol_by eol goes (last_spot q d field (reach_at q d field (left_by instr left q))) q d) refl refl
      (λ some. is.ends q some ∙ ap (λ (later : List Ask). not (goes_on later)) (sym (left_then q)))

  fine : first_why (order_why d field instr left) (over_queues (eol_why d field instr left)) ≡ None
  fine =
      no_first (order_why d field instr left) (over_queues (eol_why d field instr left)) order_fine
      (no_queue (eol_why d field instr left) eol_fine)

-- nothing is wrong with it
lanes_plain : (off : ℕ) (lanes other : Option Why) → off ≡ 0 → (if not (off == 0) then lanes else other) ≡ other
lanes_plain off lanes other e = by (off == 0) (eq-eqb off 0 e)
  where
    by : (zero : Bool) → zero ≡ true → (if not zero then lanes else other) ≡ other
    by true e = refl
    by false e = cc

no_why : (d : Desc) (field : Parity) (instr : Instr) (left : Awaited) → IsPlain instr → begins_field instr ≡ false →
    first_why (order_why d field instr left) (over_queues (eol_why d field instr left)) ≡ None → instr_why d field instr left ≡ None
no_why d field (WriteC ctl ends off count) left plain inner right = absurd plain
no_why d field (Jump ctl target) left plain inner right = absurd plain
no_why d field (Write ctl ends off count addr) left plain inner right = lanes_plain off _ _ plain ∙ right
no_why d field (Skip ctl ends count) left plain inner right = right
no_why d field (Sync ctl resync code) left plain inner right = right
no_why d field (Write123 ctl ends off counts addrs) left plain inner right = lanes_plain off _ _ plain ∙ right
no_why d field (Skip123 ctl ends counts) left plain inner right = right
no_why d field (Write1S23 ctl ends off counts addr) left plain inner right = lanes_plain off _ _ plain ∙ right

-- something is left where queue 1 is asked something
some_left : (left : Awaited) → is_none (left One) ≡ false → none_left left ≡ false
some_left left some = by (is_none (left One)) (is_none (left Two)) (is_none (left Three)) some
  where
    by : (a b c : Bool) → a ≡ false → (a && b && c) ≡ false
    by false b c e = refl
    by true b c e = cc

some_first : (first rest : List Ask) → is_none first ≡ false → is_none (first ++ rest) ≡ false
some_first [] rest e = cc
some_first (ask ∷ first) rest e = refl

-- ---- the walk

module _ (program : RiscProgram) (ctl : Ctl) (target : ℕ) (opening : Ctl) (resync : Bool) (code : Code) (count : ℕ)
    (vertical : is_vertical code ≡ true)
    (next : fetch program target ≡ Ok (Sync opening resync code, count)) where
  -- the closing leads to the next field
  behind_next : (fuel : ℕ) → behind (suc fuel) program target ≡ None
  behind_next fuel =
      ap (λ (reading : Reading). elim reading as (λ _. Option (ℕ × Why)) [
        | Err fault ↦ Some (target, Unread)
        | Ok read ↦ behind_at read.0 target (behind fuel program)
      ]) next
      ∙ cond-true (is_vertical code) None (Some (target, NothingAwaited)) vertical

  behind_closing : (fuel at : ℕ) → fetch program at ≡ Ok (Jump ctl target, 2) → behind (suc (suc fuel)) program at ≡ None
  behind_closing fuel at is =
      ap (λ (reading : Reading). elim reading as (λ _. Option (ℕ × Why)) [
        | Err fault ↦ Some (at, Unread)
        | Ok read ↦ behind_at read.0 at (behind (suc fuel) program)
      ]) is
      ∙ behind_next fuel

  module _ (d : Desc) (field : Parity) where
    abbrev goes_from : ℕ → ℕ → Awaited → Answer
    goes_from fuel at left = walked fuel program d field at left

    pub walks_all : (body : List Instr) (at fuel : ℕ) (left : Awaited) → StandsFrom program at body ctl target → AreNext body →
        ((q : Queue) → left q ≡ by_bytes (asks q body)) →
        walked (length body + suc (suc fuel)) program d field at left ≡ Ok (at + 4 * words_in body, length body)
    walks_all [] at fuel left stands are same =
        let more : length {A = Instr} [] + suc (suc fuel) ≡ suc (suc fuel) = omega arith in
        let here : at ≡ at + 4 * 0 = omega arith in
        ap (λ (fuel : ℕ). goes_from fuel at left) more
        ∙ cond-true (none_left left) _ _ (none_left_of left same)
        ∙ ap (λ (found : Option (ℕ × Why)). ended found at) (behind_closing fuel at stands)
        ∙ ap (λ (end : ℕ). Ok (end, 0)) here
    walks_all (instr ∷ rest) at fuel left stands are same =
        let is = are.0 in
        let long = length rest + suc (suc fuel) in
        let more : length (instr ∷ rest) + suc (suc fuel) ≡ suc (length rest + suc (suc fuel)) = omega arith in
        let some : is_none (left One) ≡ false =
        ap is_none (split d field instr rest left is same One) ∙ some_first (instr_asks One instr) (after_in rest One) is.some in
        let why = no_why d field instr left is.plain is.inner (fine d field instr rest left is same) in
        let step : next_at instr at ≡ at + 4 * length (encoded instr) = plain_next instr at is.plain in
        let end : at + 4 * length (encoded instr) + 4 * words_in rest ≡ at + 4 * words_in (instr ∷ rest) = omega arith in
        ap (λ (fuel : ℕ). goes_from fuel at left) more
        ∙ cond-false (none_left left) _ _ (some_left left some)
        ∙ ap (λ (reading : Reading). elim reading as (λ _. Answer) [
          | Err fault ↦ Err (at, Unread)
          | Ok read ↦ walked_at (begins_field read.0) d field read.0 at left (goes_from long)
        ]) stands.0
        ∙ ap (λ (begins : Bool). walked_at begins d field instr at left (goes_from long)) is.inner
        ∙ ap (λ (why : Option Why). walked_by why instr at left (goes_from long)) why
        ∙ ap (λ (pc : ℕ). one_more (goes_from long pc (left_by instr left))) step
        ∙ ap one_more (walks_all rest (at + 4 * length (encoded instr)) fuel (left_by instr left) stands.2 are.1
        (left_then d field instr rest left is same))
        ∙ ap (λ (end : ℕ). Ok (end, suc (length rest))) end

-- ---- the instructions of a line

-- how many bytes a piece asks of a queue, and whether any
abbrev moves : Bool → Queue → Bool
moves planar One = true
moves planar Two = planar
moves planar Three = planar

abbrev count_on : Queue → Piece → ℕ
count_on One p = slice_index p.counts 0
count_on Two p = slice_index p.counts 1
count_on Three p = slice_index p.counts 2

record Asks (q : Queue) (instr : Instr) (sol : Bool) (count : ℕ) : Type 0 where
  address : Option ℕ
  is : asked q instr ≡ ask (sol && not (count == 0)) count address

piece_asks : (q : Queue) (planar : Bool) (kind : PieceKind) (p : Piece) → moves planar q ≡ true →
    Asks q (instr_by planar kind p) p.ends.sol (count_on q p)
piece_asks One true kinds.Write p m = record { address = _; is = refl }
piece_asks Two true kinds.Write p m = record { address = _; is = refl }
piece_asks Three true kinds.Write p m = record { address = _; is = refl }
piece_asks One true kinds.WriteLuma p m = record { address = _; is = refl }
piece_asks Two true kinds.WriteLuma p m = record { address = _; is = refl }
piece_asks Three true kinds.WriteLuma p m = record { address = _; is = refl }
piece_asks One true kinds.Skip p m = record { address = _; is = refl }
piece_asks Two true kinds.Skip p m = record { address = _; is = refl }
piece_asks Three true kinds.Skip p m = record { address = _; is = refl }
piece_asks One false kinds.Write p m = record { address = _; is = refl }
piece_asks One false kinds.WriteLuma p m = record { address = _; is = refl }
piece_asks One false kinds.Skip p m = record { address = _; is = refl }
piece_asks Two false kind p m = cc
piece_asks Three false kind p m = cc

idle_piece : (q : Queue) (planar : Bool) (kind : PieceKind) (p : Piece) → moves planar q ≡ false →
    asked q (instr_by planar kind p) ≡ GoOn 0 None
idle_piece One planar kind p m = cc
idle_piece Two true kind p m = cc
idle_piece Three true kind p m = cc
idle_piece Two false kinds.Write p m = refl
idle_piece Two false kinds.WriteLuma p m = refl
idle_piece Two false kinds.Skip p m = refl
idle_piece Three false kinds.Write p m = refl
idle_piece Three false kinds.WriteLuma p m = refl
idle_piece Three false kinds.Skip p m = refl

piece_inner : (planar : Bool) (kind : PieceKind) (p : Piece) → begins_field (instr_by planar kind p) ≡ false
piece_inner true kinds.Write p = refl
piece_inner true kinds.WriteLuma p = refl
piece_inner true kinds.Skip p = refl
piece_inner false kinds.Write p = refl
piece_inner false kinds.WriteLuma p = refl
piece_inner false kinds.Skip p = refl

piece_ends : (planar : Bool) (kind : PieceKind) (p : Piece) → (instr_ends (instr_by planar kind p)).eol ≡ p.ends.eol
piece_ends true kinds.Write p = refl
piece_ends true kinds.WriteLuma p = refl
piece_ends true kinds.Skip p = refl
piece_ends false kinds.Write p = refl
piece_ends false kinds.WriteLuma p = refl
piece_ends false kinds.Skip p = refl

-- ---- what an instruction asks of a queue, by its count

no_bytes : (moves none : Bool) → none ≡ true → (moves && not none) ≡ true → ⊥
no_bytes true true e some = cc
no_bytes false true e some = cc
no_bytes moves false e some = cc

not_and : (sol : Bool) → (sol && false) ≡ false
not_and true = refl
not_and false = refl

ask_zero : (sol : Bool) (count : ℕ) (address : Option ℕ) → count ≡ 0 → bytes_asked (ask (sol && not (count == 0)) count address) ≡ []
ask_zero sol count address e =
    ap (λ (count : ℕ). bytes_asked (ask (sol && not (count == 0)) count address)) e
    ∙ ap (λ (begins : Bool). bytes_asked (ask begins 0 address)) (not_and sol)

some_not : (sol : Bool) (count : ℕ) → 0 < count → (sol && not (count == 0)) ≡ sol
some_not sol count some = ap (λ (none : Bool). sol && not none) (ne_eqb count 0 (λ none. omega arith)) ∙ and_true sol
  where
    and_true : (sol : Bool) → (sol && true) ≡ sol
    and_true true = refl
    and_true false = refl

module _ (q : Queue) (instr : Instr) (sol : Bool) (count : ℕ) (asks_it : Asks q instr sol count) (rest : List Instr) where
  asked_by : bytes_asked (asked q instr) ≡ bytes_asked (ask (sol && not (count == 0)) count asks_it.address)
  asked_by = ap bytes_asked asks_it.is

  -- where it has no bytes nothing is asked
  zero_asked : count ≡ 0 → bytes_asked (asked q instr) ≡ []
  zero_asked e = asked_by ∙ ask_zero sol count asks_it.address e

  asked_some : 0 < count → bytes_asked (asked q instr) ≡ bytes_asked (ask sol count asks_it.address)
  asked_some some = asked_by ∙ ap (λ (begins : Bool). bytes_asked (ask begins count asks_it.address)) (some_not sol count some)

  first_goes : (sol' : Bool) (count' : ℕ) (address : Option ℕ) → 0 < count' →
      goes_on (bytes_asked (ask sol' count' address) ++ after_in rest q) ≡ not sol'
  first_goes sol' zero address some = absurd (omega arith)
  first_goes true (suc count') address some = refl
  first_goes false (suc count') address some = refl

  goes : 0 < count → goes_on (after_in (instr ∷ rest) q) ≡ not sol
  goes some = ap (λ (first : List Ask). goes_on (first ++ after_in rest q)) (asked_some some) ∙ first_goes sol count asks_it.address some

  asks_something : (sol' : Bool) (count' : ℕ) (address : Option ℕ) → 0 < count' →
      is_none (bytes_asked (ask sol' count' address) ++ []) ≡ false
  asks_something sol' zero address some = absurd (omega arith)
  asks_something true (suc count') address some = refl
  asks_something false (suc count') address some = refl

  is_some : 0 < count → is_none (instr_asks q instr) ≡ false
  is_some some = ap (λ (first : List Ask). is_none (first ++ [])) (asked_some some) ∙ asks_something sol count asks_it.address some

none_asked : (q : Queue) (instr : Instr) (later : List Ask) → bytes_asked (asked q instr) ≡ [] → EndsRight q instr later
none_asked q instr later e some =
    absurd (no_bytes (is_data instr) (is_none (instr_asks q instr)) (ap (λ (first : List Ask). is_none (first ++ [])) e) some)

-- ---- a line

abbrev size_on : Queue → Strip → ℕ
size_on One strip = strip.one.size
size_on Two strip = strip.two.size
size_on Three strip = strip.three.size

follow_end : (end at : ℕ) (cuts : List Cut) → Follow end at cuts → at ≤ end
follow_end end at [] follow = omega arith
follow_end end at (k ∷ rest) follow = let later = follow_end end (at + k.n) rest follow.2 in omega arith

module _ (memory : List Chunk) (strip : Strip) (some : 0 < strip.one.size) where
  abbrev instr_at : Cut → Instr
  instr_at k = instr_of strip.planar (piece_of memory strip k)

  abbrev instrs : List Cut → List Instr
  instrs cuts = map (instr_of strip.planar) (map (piece_of memory strip) cuts)

  cut_asks : (q : Queue) (k : Cut) → moves strip.planar q ≡ true → Asks q (instr_at k) (k.at == 0) (k.n * size_on q strip)
  cut_asks One k m = piece_asks One strip.planar (piece_of memory strip k).kind (piece_of memory strip k) m
  cut_asks Two k m = piece_asks Two strip.planar (piece_of memory strip k).kind (piece_of memory strip k) m
  cut_asks Three k m = piece_asks Three strip.planar (piece_of memory strip k).kind (piece_of memory strip k) m

  -- a queue that the line doesn't concern
  abbrev IsIdle : Queue → Type 0
  IsIdle q = (k : Cut) → bytes_asked (asked q (instr_at k)) ≡ []

  unmoved_idle : (q : Queue) → moves strip.planar q ≡ false → IsIdle q
  unmoved_idle q m k = ap bytes_asked (idle_piece q strip.planar (piece_of memory strip k).kind (piece_of memory strip k) m)

  unsized_idle : (q : Queue) → moves strip.planar q ≡ true → size_on q strip ≡ 0 → IsIdle q
  unsized_idle q m none k =
      zero_asked q (instr_at k) (k.at == 0) (k.n * size_on q strip) (cut_asks q k m) []
      (let product = ap (λ (n : ℕ). k.n * n) none in omega arith)

  -- by whether the line concerns a queue
  by_queue : (P : Queue → Type 0) (q : Queue) → (IsIdle q → P q) → (moves strip.planar q ≡ true → 0 < size_on q strip → P q) → P q
  by_queue P q idle busy = by (moves strip.planar q) refl (size_on q strip) refl
    where
      by : (m : Bool) → moves strip.planar q ≡ m → (size : ℕ) → size_on q strip ≡ size → P q
      by false m size e = idle (unmoved_idle q m)
      by true m zero e = idle (unsized_idle q m e)
      by true m (suc size) e = busy m (omega arith)

  idle_line : (q : Queue) → IsIdle q → (cuts : List Cut) (later : List Instr) → after_in (instrs cuts ++ later) q ≡ after_in later q
  idle_line q idle [] later = refl
  idle_line q idle (k ∷ rest) later =
      ap (λ (first : List Ask). first ++ after_in (instrs rest ++ later) q) (idle k) ∙ idle_line q idle rest later

  pub fresh_line : (cuts : List Cut) (later : List Instr) → Follow strip.grains 0 cuts → IsFresh later → IsFresh (instrs cuts ++ later)
  fresh_line [] later follow fresh q = fresh q
  fresh_line (k ∷ rest) later follow fresh q =
      by_queue (λ q. goes_on (after_in (instrs (k ∷ rest) ++ later) q) ≡ false) q
      (λ idle. ap goes_on (idle_line q idle (k ∷ rest) later) ∙ fresh q)
      (λ m size.
      goes q (instr_at k) (k.at == 0) (k.n * size_on q strip) (cut_asks q k m) (instrs rest ++ later) (mul-pos follow.1 size)
      ∙ ap not (eq-eqb k.at 0 follow.0))

  eol_is : (k : Cut) → (instr_ends (instr_at k)).eol ≡ (k.at + k.n == strip.grains)
  eol_is k = piece_ends strip.planar (piece_of memory strip k).kind (piece_of memory strip k)

  line_ends : (q : Queue) (at : ℕ) (k : Cut) (rest : List Cut) (later : List Instr) → Follow strip.grains at (k ∷ rest) → IsFresh later →
      EndsRight q (instr_at k) (after_in (instrs rest ++ later) q)
  line_ends q at k [] later follow fresh =
      let last : k.at + k.n ≡ strip.grains = let here = follow.0 in let end = follow.2 in omega arith in
      λ some. eol_is k ∙ eq-eqb (k.at + k.n) strip.grains last ∙ ap not (sym (fresh q))
  line_ends q at k (k' ∷ rest) later follow fresh =
      by_queue (λ q. EndsRight q (instr_at k) (after_in (instrs (k' ∷ rest) ++ later) q)) q
      (λ idle. none_asked q (instr_at k) _ (idle k))
      (λ m size.
      let here = follow.0 in
      let n = follow.1 in
      let next = follow.2 in
      let n' = next.1 in
      let there = next.0 in
      let end = follow_end strip.grains (at + k.n + k'.n) rest next.2 in
      λ some.
      eol_is k ∙ ne_eqb (k.at + k.n) strip.grains (λ e. omega arith)
      ∙ ap not (sym (goes q (instr_at k') (k'.at == 0) (k'.n * size_on q strip) (cut_asks q k' m) (instrs rest ++ later) (mul-pos n' size)
      ∙ ap not (ne_eqb k'.at 0 (λ e. omega arith)))))

  pub line_next : (at : ℕ) (cuts : List Cut) (later : List Instr) → Follow strip.grains at cuts → AreNext later → IsFresh later →
      AreNext (instrs cuts ++ later)
  line_next at [] later follow are fresh = are
  line_next at (k ∷ rest) later follow are fresh = (
    record {
      inner = piece_inner strip.planar (piece_of memory strip k).kind (piece_of memory strip k);
      plain = piece_plain strip.planar (piece_of memory strip k).kind (piece_of memory strip k);
      some = is_some One (instr_at k) (k.at == 0) (k.n * strip.one.size) (cut_asks One k refl) [] (mul-pos follow.1 some);
      ends = λ q. line_ends q at k rest later follow fresh;
    },
    line_next (at + k.n) rest later follow.2 are fresh,
  )
