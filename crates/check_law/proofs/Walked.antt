-- A program that is found to show a field leads along a trail that asks what the description asks.
use Rattle.std.proofs.Common.{◌≡◌, ℕ, zero, suc, ◌+◌, ◌*◌, Bool, true, false, not, ◌&&◌, ◌==◌, if◌then◌else◌, List, [], ◌∷◌, ◌++◌, length}
use Rattle.std.proofs.Common.{drop, Option, Some, None, option_map, Ok, Err, refl, sym, ap, ◌∙◌, append-nil, eqb-true}
use Rattle.std.proofs.lemmas.Bool.{and_parts, both_ways, cond-false, cond-true, not-false}
use Rattle.risc_word.specs.declared.Ctl.{Ctl}
use Rattle.risc_word.specs.declared.Instr.{Instr}
use Rattle.risc_word.specs.declared.Instr.TheVariants.{Write, Skip, WriteC, Jump, Sync, Write123, Skip123, Write1S23}
use Rattle.risc_word.specs.Parts.{instr_off}
use Rattle.risc_word.specs.Words.{Reading, encoded}
use Rattle.risc_word.proofs.ReadInstructions.{known_at}
use Rattle.fifo_model.specs.declared.Queue.{Queue}
use Rattle.fifo_model.specs.declared.Queue.TheVariants.{One, Two, Three}
use Rattle.machine_model.specs.Paths.{RiscProgram, Place, IsSound, fetch, instr_cause, is_data, path, place_after, words_from}
use Rattle.capture_desc.specs.declared.desc.Desc.{Desc}
use Rattle.pixel_layout.specs.declared.Parity.{Parity}
use Rattle.machine_model.proofs.Places.{jump-is_word, path-suc, place-IsFine}
use Rattle.field_law.specs.Sections.{Ask, Await, Begin, GoOn, asked, asks}
use Rattle.field_law.proofs.Before.{same_code}
use Rattle.field_law.proofs.OnPath.{granted_demands}
use Rattle.field_law.specs.Trails.{IsClosing, IsOnTrail, LeadsFrom, next_at}
use Rattle.check_model.specs.ByBytes.{bytes_asked, by_bytes}
use Rattle.check_model.specs.Checks.{Answer, Awaited, begins_field, behind, behind_at, ended, eol_why, first_unlike, first_why, instr_asks}
use Rattle.check_model.specs.Checks.{instr_why, is_none, is_vertical, left_by, none_left, one_more, order_why, over_queues, queue_why}
use Rattle.check_model.specs.Checks.{same_ask, same_place, waiting_why, walked, walked_at, walked_by}
use Rattle.check_model.specs.declared.Why.{Why}
use Rattle.check_model.specs.declared.Why.TheVariants.{LanesOff, NothingAwaited, Unread}

-- ---- asks

same_places : (a b : Option ℕ) → same_place a b ≡ true → a ≡ b
same_places None None h = refl
same_places None (Some b) h = cc
same_places (Some a) None h = cc
same_places (Some a) (Some b) h = ap Some (eqb-true a b h)

same_asks : (a b : Ask) → same_ask a b ≡ true → a ≡ b
same_asks (Await a) (Await b) h = ap Await (same_code a b (eqb-true _ _ h))
same_asks (Await a) (Begin m b) h = cc
same_asks (Await a) (GoOn m b) h = cc
same_asks (Begin n a) (Await b) h = cc
same_asks (Begin n a) (Begin m b) h =
    let parts = and_parts (n == m) (same_place a b) h in
    ap (λ (count : ℕ). Begin count a) (eqb-true n m parts.0) ∙ ap (λ (at : Option ℕ). Begin m at) (same_places a b parts.1)
same_asks (Begin n a) (GoOn m b) h = cc
same_asks (GoOn n a) (Await b) h = cc
same_asks (GoOn n a) (Begin m b) h = cc
same_asks (GoOn n a) (GoOn m b) h =
    let parts = and_parts (n == m) (same_place a b) h in
    ap (λ (count : ℕ). GoOn count a) (eqb-true n m parts.0) ∙ ap (λ (at : Option ℕ). GoOn m at) (same_places a b parts.1)

if_same : {A : Type 0} (same : Bool) (other : Option A) (unlike : A) → (if same then other else Some unlike) ≡ None →
    (same ≡ true) × (other ≡ None)
if_same true other unlike h = (refl, h)
if_same false other unlike h = cc

begun : (first left : List Ask) → first_unlike first left ≡ None → left ≡ first ++ drop (length first) left
begun [] left h = refl
begun (ask ∷ more) [] h = cc
begun (ask ∷ more) (next ∷ rest) h =
    let parts = if_same (same_ask ask next) (first_unlike more rest) (ask, next ∷ rest) h in
    ap (λ (first : Ask). first ∷ rest) (sym (same_asks ask next parts.0)) ∙ ap (λ (rest : List Ask). ask ∷ rest) (begun more rest parts.1)

none_is : (list : List Ask) → is_none list ≡ true → list ≡ []
none_is [] h = refl
none_is (ask ∷ list) h = cc

is_none_of : (list : List Ask) → list ≡ [] → is_none list ≡ true
is_none_of [] h = refl
is_none_of (ask ∷ list) h = cc

left_none : (left : Awaited) → none_left left ≡ true → (q : Queue) → left q ≡ []
left_none left h q =
    let first = and_parts (is_none (left One) && is_none (left Two)) (is_none (left Three)) h in
    let earlier = and_parts (is_none (left One)) (is_none (left Two)) first.0 in
    of q earlier.0 earlier.1 first.1
  where
    of : (q : Queue) → is_none (left One) ≡ true → is_none (left Two) ≡ true → is_none (left Three) ≡ true → left q ≡ []
    of One one two three = none_is (left One) one
    of Two one two three = none_is (left Two) two
    of Three one two three = none_is (left Three) three

pub none_left_of : (left : Awaited) → ((q : Queue) → left q ≡ []) → none_left left ≡ true
none_left_of left none =
    all (is_none (left One)) (is_none (left Two)) (is_none (left Three)) (is_none_of (left One) (none One))
    (is_none_of (left Two) (none Two)) (is_none_of (left Three) (none Three))
  where
    all : (a b c : Bool) → a ≡ true → b ≡ true → c ≡ true → (a && b && c) ≡ true
    all true true true ea eb ec = refl
    all true true false ea eb ec = cc
    all true false c ea eb ec = cc
    all false b c ea eb ec = cc

-- ---- an instruction that is awaited

if_none : {A : Type 0} (bad : Bool) (why : A) (other : Option A) → (if bad then Some why else other) ≡ None → (bad ≡ false) × (other ≡ None)
if_none true why other h = cc
if_none false why other h = (refl, h)

none_mapped : {A B : Type 0} (f : A → B) (found : Option A) → option_map f found ≡ None → found ≡ None
none_mapped f None h = refl
none_mapped f (Some a) h = cc

neither : (one other : Option Why) → first_why one other ≡ None → (one ≡ None) × (other ≡ None)
neither None other h = (refl, h)
neither (Some why) other h = cc

no_queue : (on : Queue → Option Why) → over_queues on ≡ None → (q : Queue) → on q ≡ None
no_queue on h q =
    let one = neither (on One) (first_why (on Two) (on Three)) h in
    let later = neither (on Two) (on Three) one.1 in
    of q one.0 later.0 later.1
  where
    of : (q : Queue) → on One ≡ None → on Two ≡ None → on Three ≡ None → on q ≡ None
    of One one two three = one
    of Two one two three = two
    of Three one two three = three

module _ (d : Desc) (field : Parity) where
  in_order : (instr : Instr) (left : Awaited) → order_why d field instr left ≡ None → (q : Queue) →
      first_unlike (instr_asks q instr) (left q) ≡ None
  in_order instr left h q =
      none_mapped _ (first_unlike (instr_asks q instr) (left q)) (no_queue (queue_why d field instr left) (by (is_data instr) h) q)
    where
      by : (moves : Bool) →
          (if moves then over_queues (queue_why d field instr left)
          else first_why (over_queues (waiting_why d field instr left)) (over_queues (queue_why d field instr left))) ≡ None →
          over_queues (queue_why d field instr left) ≡ None
      by true h = h
      by false h = (neither (over_queues (waiting_why d field instr left)) (over_queues (queue_why d field instr left)) h).1

  lanes_on : (instr : Instr) (left : Awaited) →
      (if not (instr_off instr == 0) then Some LanesOff
      else first_why (order_why d field instr left) (over_queues (eol_why d field instr left))) ≡ None →
      ((q : Queue) → first_unlike (instr_asks q instr) (left q) ≡ None) × (instr_off instr ≡ 0)
  lanes_on instr left h =
      let parts = if_none (not (instr_off instr == 0)) LanesOff _ h in (
        in_order instr left (neither (order_why d field instr left) (over_queues (eol_why d field instr left)) parts.1).0,
        eqb-true _ _ (not-false _ parts.0),
      )

  no_why-IsAwaited : (instr : Instr) (left : Awaited) → instr_why d field instr left ≡ None →
      ((q : Queue) → first_unlike (instr_asks q instr) (left q) ≡ None) × (instr_off instr ≡ 0)
  no_why-IsAwaited (WriteC ctl ends off count) left h = cc
  no_why-IsAwaited (Write ctl ends off count addr) left h = lanes_on (Write ctl ends off count addr) left h
  no_why-IsAwaited (Skip ctl ends count) left h = lanes_on (Skip ctl ends count) left h
  no_why-IsAwaited (Jump ctl target) left h = lanes_on (Jump ctl target) left h
  no_why-IsAwaited (Sync ctl resync code) left h = lanes_on (Sync ctl resync code) left h
  no_why-IsAwaited (Write123 ctl ends off counts addrs) left h = lanes_on (Write123 ctl ends off counts addrs) left h
  no_why-IsAwaited (Skip123 ctl ends counts) left h = lanes_on (Skip123 ctl ends counts) left h
  no_why-IsAwaited (Write1S23 ctl ends off counts addr) left h = lanes_on (Write1S23 ctl ends off counts addr) left h

  -- and it is fine on the path
  on_trail : (program : RiscProgram) (instr : Instr) (left : Awaited) (target : Option ℕ) → instr_why d field instr left ≡ None →
      instr_cause program instr target ≡ None → IsOnTrail program instr
  on_trail program (WriteC ctl ends off count) left target h fine = cc
  on_trail program (Jump ctl to) left target h fine = jump-is_word program ctl to target fine
  on_trail program (Sync ctl resync code) left target h fine = (tt, refl)
  on_trail program (Skip ctl ends count) left target h fine = (tt, granted_demands program (Skip ctl ends count) target tt fine)
  on_trail program (Skip123 ctl ends counts) left target h fine = (tt, granted_demands program (Skip123 ctl ends counts) target tt fine)
  on_trail program (Write ctl ends off count addr) left target h fine =
      let on = no_why-IsAwaited (Write ctl ends off count addr) left h in
      (on.1, granted_demands program (Write ctl ends off count addr) target on.1 fine)
  on_trail program (Write123 ctl ends off counts addrs) left target h fine =
      let on = no_why-IsAwaited (Write123 ctl ends off counts addrs) left h in
      (on.1, granted_demands program (Write123 ctl ends off counts addrs) target on.1 fine)
  on_trail program (Write1S23 ctl ends off counts addr) left target h fine =
      let on = no_why-IsAwaited (Write1S23 ctl ends off counts addr) left h in
      (on.1, granted_demands program (Write1S23 ctl ends off counts addr) target on.1 fine)

-- ---- behind the end

abbrev NoneBegins : List Instr → Type 0
NoneBegins [] = Unit {0}
NoneBegins (instr ∷ rest) = (begins_field instr ≡ false) × NoneBegins rest

abbrev FetchedFrom : RiscProgram → ℕ → List Instr → Type 0
FetchedFrom program at [] = Unit {0}
FetchedFrom program at (instr ∷ rest) =
    (fetch program at ≡ Ok (instr, length (encoded instr))) × FetchedFrom program (next_at instr at) rest

leads-FetchedFrom : (program : RiscProgram) (end at : ℕ) (body : List Instr) (closing : Instr) → LeadsFrom program end at body closing →
    FetchedFrom program at body
leads-FetchedFrom program end at [] closing h = tt
leads-FetchedFrom program end at (instr ∷ rest) closing h = (h.1, leads-FetchedFrom program end (next_at instr at) rest closing h.3)

jump_asks : (q : Queue) (ctl : Ctl) (target : ℕ) (rest : List Ask) → by_bytes (asked q (Jump ctl target) ∷ rest) ≡ by_bytes rest
jump_asks One ctl target rest = refl
jump_asks Two ctl target rest = refl
jump_asks Three ctl target rest = refl

not_behind : (begins : Bool) (fault : ℕ × Why) → begins ≡ false → (if begins then None else Some fault) ≡ None → ⊥
not_behind true fault b h = cc
not_behind false fault b h = cc

-- what is seen where an instruction was fetched
seen_behind : (reading : Reading) (instr : Instr) (count at : ℕ) (more : ℕ → Option (ℕ × Why)) → reading ≡ Ok (instr, count) →
    elim reading as (λ _. Option (ℕ × Why)) [
      | Err fault ↦ Some (at, Unread)
      | Ok read ↦ behind_at read.0 at more
    ] ≡ None → behind_at instr at more ≡ None
seen_behind reading instr count at more e h =
    sym (ap (λ (reading : Reading). elim reading as (λ _. Option (ℕ × Why)) [
      | Err fault ↦ Some (at, Unread)
      | Ok read ↦ behind_at read.0 at more
    ]) e) ∙ h

-- instructions where only JUMPs lead to the next field ask nothing
module _ (program : RiscProgram) where
  quiet : (body : List Instr) (at fuel : ℕ) → FetchedFrom program at body → NoneBegins body → behind fuel program at ≡ None → (q : Queue) →
      by_bytes (asks q body) ≡ []
  quiet [] at fuel fetched none h q = refl
  quiet (instr ∷ rest) at zero fetched none h q = cc
  quiet (Jump ctl target ∷ rest) at (suc fuel) fetched none h q =
      jump_asks q ctl target (asks q rest)
      ∙ quiet rest target fuel fetched.1 none.1 (seen_behind (fetch program at) (Jump ctl target) _ at (behind fuel program) fetched.0 h) q
  quiet (Sync ctl resync code ∷ rest) at (suc fuel) fetched none h q =
      absurd (not_behind (is_vertical code) (at, NothingAwaited) none.0
      (seen_behind (fetch program at) (Sync ctl resync code) _ at (behind fuel program) fetched.0 h))
  quiet (Write ctl ends off count addr ∷ rest) at (suc fuel) fetched none h q =
      absurd (not_behind false (at, NothingAwaited) refl
      (seen_behind (fetch program at) (Write ctl ends off count addr) _ at (behind fuel program) fetched.0 h))
  quiet (Skip ctl ends count ∷ rest) at (suc fuel) fetched none h q =
      absurd (not_behind false (at, NothingAwaited) refl
      (seen_behind (fetch program at) (Skip ctl ends count) _ at (behind fuel program) fetched.0 h))
  quiet (WriteC ctl ends off count ∷ rest) at (suc fuel) fetched none h q =
      absurd (not_behind false (at, NothingAwaited) refl
      (seen_behind (fetch program at) (WriteC ctl ends off count) _ at (behind fuel program) fetched.0 h))
  quiet (Write123 ctl ends off counts addrs ∷ rest) at (suc fuel) fetched none h q =
      absurd (not_behind false (at, NothingAwaited) refl
      (seen_behind (fetch program at) (Write123 ctl ends off counts addrs) _ at (behind fuel program) fetched.0 h))
  quiet (Skip123 ctl ends counts ∷ rest) at (suc fuel) fetched none h q =
      absurd (not_behind false (at, NothingAwaited) refl
      (seen_behind (fetch program at) (Skip123 ctl ends counts) _ at (behind fuel program) fetched.0 h))
  quiet (Write1S23 ctl ends off counts addr ∷ rest) at (suc fuel) fetched none h q =
      absurd (not_behind false (at, NothingAwaited) refl
      (seen_behind (fetch program at) (Write1S23 ctl ends off counts addr) _ at (behind fuel program) fetched.0 h))

-- ---- the walk

-- the next place of the path
next_pc : (instr : Instr) (count : ℕ) (place : Place) → count ≡ length (encoded instr) →
    (place_after instr count place).pc ≡ next_at instr place.pc
next_pc (Jump ctl target) count place e = refl
next_pc (Sync ctl resync code) count place e = ap (λ (count : ℕ). place.pc + 4 * count) e
next_pc (Write ctl ends off n addr) count place e = ap (λ (count : ℕ). place.pc + 4 * count) e
next_pc (Skip ctl ends n) count place e = ap (λ (count : ℕ). place.pc + 4 * count) e
next_pc (WriteC ctl ends off n) count place e = ap (λ (count : ℕ). place.pc + 4 * count) e
next_pc (Write123 ctl ends off counts addrs) count place e = ap (λ (count : ℕ). place.pc + 4 * count) e
next_pc (Skip123 ctl ends counts) count place e = ap (λ (count : ℕ). place.pc + 4 * count) e
next_pc (Write1S23 ctl ends off counts addr) count place e = ap (λ (count : ℕ). place.pc + 4 * count) e

-- an instruction that is fetched has as many words as it is spelled with
pub fetched_length : (program : RiscProgram) (at : ℕ) (instr : Instr) (count : ℕ) → fetch program at ≡ Ok (instr, count) →
    count ≡ length (encoded instr)
fetched_length program at instr count e = (known_at (words_from 5 program at) 0 instr count e).spelled_is

-- what ends a field
closing_by : (program : RiscProgram) (instr : Instr) (at : ℕ) (target : Option ℕ) (more : ℕ → Option (ℕ × Why)) →
    behind_at instr at more ≡ None → instr_cause program instr target ≡ None →
    IsClosing program instr
closing_by program (Jump ctl to) at target more h fine = jump-is_word program ctl to target fine
closing_by program (Sync ctl resync code) at target more h fine = tt
closing_by program (Write ctl ends off count addr) at target more h fine = absurd (not_behind false (at, NothingAwaited) refl h)
closing_by program (Skip ctl ends count) at target more h fine = absurd (not_behind false (at, NothingAwaited) refl h)
closing_by program (WriteC ctl ends off count) at target more h fine = absurd (not_behind false (at, NothingAwaited) refl h)
closing_by program (Write123 ctl ends off counts addrs) at target more h fine = absurd (not_behind false (at, NothingAwaited) refl h)
closing_by program (Skip123 ctl ends counts) at target more h fine = absurd (not_behind false (at, NothingAwaited) refl h)
closing_by program (Write1S23 ctl ends off counts addr) at target more h fine = absurd (not_behind false (at, NothingAwaited) refl h)

-- the instructions up to the end ask what is left
pub record Walked (program : RiscProgram) (at : ℕ) (left : Awaited) (end count : ℕ) : Type 0 where
  pub body : List Instr
  pub closing : Instr
  pub long : length body ≡ count
  pub leads : LeadsFrom program end at body closing
  pub inner : NoneBegins body
  pub asked : (q : Queue) → by_bytes (asks q body) ≡ left q
  pub fuel_left : ℕ
  pub last : behind fuel_left program end ≡ None

ended_at : (found : Option (ℕ × Why)) (at end count : ℕ) → ended found at ≡ Ok (end, count) → (found ≡ None) × (at ≡ end) × (count ≡ 0)
ended_at None at end count h =
    let same : (at, 0) ≡ (end, count) = cc in
    (refl, ap (λ (pair : ℕ × ℕ). pair.0) same, sym (ap (λ (pair : ℕ × ℕ). pair.1) same))
ended_at (Some fault) at end count h = cc

less_one : (found : Answer) (end count : ℕ) → one_more found ≡ Ok (end, count) → (less : ℕ) × (count ≡ suc less) × (found ≡ Ok (end, less))
less_one (Err fault) end count h = cc
less_one (Ok pair) end count h =
    let same : (pair.0, suc pair.1) ≡ (end, count) = cc in
    (pair.1, sym (ap (λ (pair : ℕ × ℕ). pair.1) same), ap (λ (end : ℕ). Ok (end, pair.1)) (ap (λ (pair : ℕ × ℕ). pair.0) same))

module _ (d : Desc) (field : Parity) where
  walked_on : (instr : Instr) (at : ℕ) (left : Awaited) (more : ℕ → Awaited → Answer) (begins : Bool) (why : Option Why) (end count : ℕ) →
      begins_field instr ≡ begins → instr_why d field instr left ≡ why →
      walked_at (begins_field instr) d field instr at left more ≡ Ok (end, count) →
      (begins_field instr ≡ false) × (instr_why d field instr left ≡ None)
      × (one_more (more (next_at instr at) (left_by instr left)) ≡ Ok (end, count))
  walked_on instr at left more true why end count b w h =
      let no = sym (ap (λ (begins : Bool). walked_at begins d field instr at left more) b) ∙ h in cc
  walked_on instr at left more false (Some why) end count b w h =
      let no =
      sym (ap (λ (begins : Bool). walked_at begins d field instr at left more) b
      ∙ ap (λ (why : Option Why). walked_by why instr at left more) w) ∙ h in cc
  walked_on instr at left more false None end count b w h = (
    b,
    w,
    sym (ap (λ (begins : Bool). walked_at begins d field instr at left more) b
        ∙ ap (λ (why : Option Why). walked_by why instr at left more) w) ∙ h,
  )

module _ (program : RiscProgram) (sound : IsSound program) (d : Desc) (field : Parity) where
  -- the field ends here
  ends : (fuel at number : ℕ) (left : Awaited) (end count : ℕ) → (path program number).pc ≡ at → none_left left ≡ true →
      ended (behind fuel program at) at ≡ Ok (end, count) →
      Walked program at left end count
  ends zero at number left end count here none h = let parts = ended_at (behind zero program at) at end count h in let no = parts.0 in cc
  ends (suc fuel) at number left end count here none h =
      let parts = ended_at (behind (suc fuel) program at) at end count h in
      let fine = place-IsFine program number sound in
      let read : fetch program at ≡ Ok (fine.instr, fine.length_in_words) = sym (ap (fetch program) here) ∙ fine.stands in
      let long = fetched_length program at fine.instr fine.length_in_words read in
      record {
        body = [];
        closing = fine.instr;
        long = sym parts.2;
        leads = (
          parts.1,
          read ∙ ap (λ (count : ℕ). Ok (fine.instr, count)) long,
          closing_by program fine.instr at (path program number).target (behind fuel program)
              (seen_behind (fetch program at) fine.instr fine.length_in_words at (behind fuel program) read parts.0) fine.fine,
        );
        inner = tt;
        asked = λ q. sym (left_none left none q);
        fuel_left = suc fuel;
        last = sym (ap (behind (suc fuel) program) parts.1) ∙ parts.0;
      }

  abbrev Walks : ℕ → Type 0
  Walks fuel =
      (at number : ℕ) (left : Awaited) (end count : ℕ) → (path program number).pc ≡ at →
      walked fuel program d field at left ≡ Ok (end, count) → Walked program at left end count

  -- an instruction that is awaited, and the rest
  goes : (fuel : ℕ) → Walks fuel → (at number : ℕ) (left : Awaited) (end count : ℕ) → (path program number).pc ≡ at →
      none_left left ≡ false →
      elim (fetch program at) as (λ _. Answer) [
        | Err fault ↦ Err (at, Unread)
        | Ok read ↦ walked_at (begins_field read.0) d field read.0 at left (walked fuel program d field)
      ] ≡ Ok (end, count) →
      Walked program at left end count
  goes fuel rest at number left end count here some h =
      let fine = place-IsFine program number sound in
      let instr = fine.instr in
      let there = fine.stands in
      let read : fetch program at ≡ Ok (instr, fine.length_in_words) = sym (ap (fetch program) here) ∙ there in
      let long = fetched_length program at instr fine.length_in_words read in
      let on =
      walked_on d field instr at left (walked fuel program d field) (begins_field instr) (instr_why d field instr left) end count refl refl
      (sym (ap (λ (reading : Reading). elim reading as (λ _. Answer) [
        | Err fault ↦ Err (at, Unread)
        | Ok read ↦ walked_at (begins_field read.0) d field read.0 at left (walked fuel program d field)
      ]) read) ∙ h) in
      let less = less_one (walked fuel program d field (next_at instr at) (left_by instr left)) end count on.2 in
      let next : (path program (suc number)).pc ≡ next_at instr at =
      ap (λ (place : Place). place.pc) (path-suc program number instr fine.length_in_words sound there)
      ∙ next_pc instr fine.length_in_words (path program number) long ∙ ap (next_at instr) here in
      let later = rest (next_at instr at) (suc number) (left_by instr left) end less.0 next less.2 in
      let spelled : fetch program at ≡ Ok (instr, length (encoded instr)) = read ∙ ap (λ (count : ℕ). Ok (instr, count)) long in
      let begins = (no_why-IsAwaited d field instr left on.1).0 in
      let all : (q : Queue) → by_bytes (asks q (instr ∷ later.body)) ≡ left q =
      λ q.
      ap (λ (more : List Ask). bytes_asked (asked q instr) ++ more) (later.asked q)
      ∙ ap (λ (first : List Ask). first ++ left_by instr left q) (sym (append-nil (bytes_asked (asked q instr))))
      ∙ sym (begun (instr_asks q instr) (left q) (begins q)) in
      record {
        body = instr ∷ later.body;
        closing = later.closing;
        long = ap suc later.long ∙ sym less.1;
        leads = (
          λ is_end.
              let nothing = quiet program (instr ∷ later.body) at later.fuel_left (
                spelled,
                leads-FetchedFrom program end (next_at instr at) later.body later.closing later.leads,
              ) (on.0, later.inner)
              (ap (behind later.fuel_left program) is_end ∙ later.last) in
              both_ways (none_left left) some (none_left_of left (λ q. sym (all q) ∙ nothing q)),
          spelled,
          on_trail d field program instr left (path program number).target on.1 fine.fine,
          later.leads,
        );
        inner = (on.0, later.inner);
        asked = all;
        fuel_left = later.fuel_left;
        last = later.last;
      }

  by_left : (fuel : ℕ) → Walks fuel → (none : Bool) (at number : ℕ) (left : Awaited) (end count : ℕ) → none_left left ≡ none →
      (path program number).pc ≡ at →
      walked (suc fuel) program d field at left ≡ Ok (end, count) → Walked program at left end count
  by_left fuel rest true at number left end count none here h =
      ends (suc fuel) at number left end count here none (sym (cond-true (none_left left) _ _ none) ∙ h)
  by_left fuel rest false at number left end count none here h =
      goes fuel rest at number left end count here none (sym (cond-false (none_left left) _ _ none) ∙ h)

  pub walks : (fuel at number : ℕ) (left : Awaited) (end count : ℕ) → (path program number).pc ≡ at →
      walked fuel program d field at left ≡ Ok (end, count) → Walked program at left end count
  walks zero at number left end count here h = cc
  walks (suc fuel) at number left end count here h = by_left fuel (walks fuel) (none_left left) at number left end count refl here h
