-- Bytes that are no pair of records.
use Rattle.std.proofs.Common.{◌≡◌, ℕ, ◌+◌, ◌*◌, ◌<◌, ◌≤◌, inl, inr, Bool, true, false, List, [], ◌∷◌, length, drop, get_or}
use Rattle.std.proofs.Common.{Option, Some, None, refl, sym, ap, subst, arith, if◌then◌else◌, length-drop}
use Rattle.std.specs.Prelude.{IfNone, nat_lt, nat_le, min, ◌/◌, ◌==◌}
use Rattle.std.proofs.lemmas.Bool.{eqb-true, ltb-false, ltb-true}
use Rattle.byteorder.specs.Endian.{little_number}
use Rattle.risc_word.specs.declared.Code.{Code}
use Rattle.risc_word.specs.Words.{code_numbered}
use Rattle.fifo_model.specs.declared.Queue.{Queue}
use Rattle.fifo_model.specs.declared.Queue.TheVariants.{One, Two, Three}
use Rattle.capture_file.specs.declared.records.Form.{Form}
use Rattle.capture_file.specs.declared.records.Form.TheVariants.{Bfs1, Bfs2, Bfs3}
use Rattle.capture_file.specs.declared.records.RecordKind.{RecordKind}
use Rattle.capture_file.specs.declared.records.RecordKind.TheVariants as kind
use Rattle.capture_file.specs.declared.records.Found.{Found}
use Rattle.capture_file.specs.declared.records.Found.TheVariants.{Whole}
use Rattle.capture_file.specs.declared.Step.TheVariants.{Push, Turns}
use Rattle.capture_file.specs.Streams.{number_at, kind_of_tag, is_data, push_if, push_at, data_with, control_with, control_at, turns_if}
use Rattle.capture_file.specs.Streams.{turns_with, most_turns, ack_with}
use Rattle.capture_file.specs.Streams.{enable_if, enable_at, trigger_in, trigger_if, trigger_at, is_buffer, buffer_if, slot_if, patch_at}
use Rattle.capture_file.specs.Streams.{patch_in, fields_at, record_at}
use Rattle.capture_file.specs.Pairs.{AreAll, IsPair, NoPair, push_tag}
use Rattle.capture_file.specs.Records.{Sums}
use Rattle.capture_file.proofs.Fields.{record_at-sums}

-- ---- the tag of a push and of turns

abbrev IsTagOf : ℕ → RecordKind → Type 0
IsTagOf tag (kind.Push queue) = tag ≡ push_tag queue
IsTagOf tag kind.Turns = tag ≡ 5
IsTagOf tag _ = Unit {0}

either : (b : Bool) (tag number : ℕ) (one other : RecordKind) → (tag == number) ≡ b → (tag ≡ number → IsTagOf tag one) → IsTagOf tag other →
    IsTagOf tag (if b then one else other)
either true tag number one other is first second = first (eqb-true tag number is)
either false tag number one other is first second = second

trigger_tag : (form : Form) (tag : ℕ) → IsTagOf tag (trigger_in form)
trigger_tag Bfs1 tag = tt
trigger_tag Bfs2 tag = tt
trigger_tag Bfs3 tag = tt

patch_tag : (form : Form) (tag : ℕ) → IsTagOf tag (patch_in form)
patch_tag Bfs1 tag = tt
patch_tag Bfs2 tag = tt
patch_tag Bfs3 tag = tt

tag_of_kind : (form : Form) (tag : ℕ) → IsTagOf tag (kind_of_tag form tag)
tag_of_kind form tag =
    either (tag == 0) tag 0 kind.End _ refl (λ _. tt)
    (either (tag == 1) tag 1 (kind.Push One) _ refl (λ e. e)
    (either (tag == 2) tag 2 (kind.Push Two) _ refl (λ e. e)
    (either (tag == 3) tag 3 (kind.Push Three) _ refl (λ e. e)
    (either (tag == 4) tag 4 kind.Control _ refl (λ _. tt)
    (either (tag == 5) tag 5 kind.Turns _ refl (λ e. e)
    (either (tag == 6) tag 6 kind.Ack _ refl (λ _. tt)
    (either (tag == 7) tag 7 kind.Enable _ refl (λ _. tt)
    (either (tag == 8) tag 8 (trigger_in form) _ refl (λ _. trigger_tag form tag)
    (either (tag == 9) tag 9 (patch_in form) kind.Unknown refl (λ _. patch_tag form tag) tt)))))))))

-- ---- what the fields are

abbrev pub Shows : ℕ → List ℕ → Found → Type 0
Shows tag rest (Whole (Push queue entry) len) = (tag ≡ push_tag queue) × (get_or rest 0 0 ≡ entry.status)
Shows tag rest (Whole (Turns count) len) = (tag ≡ 5) × (number_at rest ≡ Some count)
Shows tag rest _ = Unit {0}

shows_data : (tag : ℕ) (rest : List ℕ) (queue : Queue) (status : ℕ) (n : Option ℕ) → tag ≡ push_tag queue → get_or rest 0 0 ≡ status →
    Shows tag rest (data_with queue status n)
shows_data tag rest queue status None is same = tt
shows_data tag rest queue status (Some n) is same = (is, same)

shows_push_if : (tag : ℕ) (rest : List ℕ) (b : Bool) (queue : Queue) (status : ℕ) (more : List ℕ) → tag ≡ push_tag queue →
    get_or rest 0 0 ≡ status →
    Shows tag rest (push_if b queue status more)
shows_push_if tag rest true queue status more is same = shows_data tag rest queue status (number_at more) is same
shows_push_if tag rest false queue status more is same = tt

shows_push : (tag : ℕ) (queue : Queue) (rest : List ℕ) → tag ≡ push_tag queue → Shows tag rest (push_at queue rest)
shows_push tag queue [] is = tt
shows_push tag queue (status ∷ rest) is = shows_push_if tag (status ∷ rest) (is_data status) queue status rest is refl

shows_control_with : (tag : ℕ) (rest : List ℕ) (number : ℕ) (code : Option Code) → Shows tag rest (control_with number code)
shows_control_with tag rest number (Some code) = tt
shows_control_with tag rest number None = tt

shows_control : (tag : ℕ) (rest : List ℕ) → Shows tag rest (control_at rest)
shows_control tag [] = tt
shows_control tag (number ∷ rest) = shows_control_with tag (number ∷ rest) number (code_numbered number)

shows_turns_if : (tag : ℕ) (rest : List ℕ) (b : Bool) (count : ℕ) → tag ≡ 5 → number_at rest ≡ Some count →
    Shows tag rest (turns_if b count)
shows_turns_if tag rest true count is same = (is, same)
shows_turns_if tag rest false count is same = tt

shows_turns : (tag before : ℕ) (rest : List ℕ) (n : Option ℕ) → tag ≡ 5 → number_at rest ≡ n → Shows tag rest (turns_with before n)
shows_turns tag before rest None is same = tt
shows_turns tag before rest (Some count) is same = shows_turns_if tag rest (nat_le (before + count) most_turns) count is same

shows_ack : (tag : ℕ) (rest : List ℕ) (n : Option ℕ) → Shows tag rest (ack_with n)
shows_ack tag rest None = tt
shows_ack tag rest (Some n) = tt

shows_enable_if : (tag : ℕ) (rest : List ℕ) (b : Bool) (number : ℕ) → Shows tag rest (enable_if b number)
shows_enable_if tag rest true number = tt
shows_enable_if tag rest false number = tt

shows_enable : (tag : ℕ) (rest : List ℕ) → Shows tag rest (enable_at rest)
shows_enable tag [] = tt
shows_enable tag (number ∷ rest) = shows_enable_if tag (number ∷ rest) (nat_lt number 4) number

shows_trigger_if : (tag : ℕ) (rest : List ℕ) (b : Bool) (number : ℕ) → Shows tag rest (trigger_if b number)
shows_trigger_if tag rest true number = tt
shows_trigger_if tag rest false number = tt

shows_trigger : (tag : ℕ) (rest : List ℕ) → Shows tag rest (trigger_at rest)
shows_trigger tag [] = tt
shows_trigger tag (number ∷ rest) = shows_trigger_if tag (number ∷ rest) (nat_lt number 4) number

shows_buffer : (tag : ℕ) (rest : List ℕ) (b : Bool) (slot buffer : ℕ) → Shows tag rest (buffer_if b slot buffer)
shows_buffer tag rest true slot buffer = tt
shows_buffer tag rest false slot buffer = tt

shows_slot : (tag : ℕ) (rest : List ℕ) (b : Bool) (slot : ℕ) (more : List ℕ) → Shows tag rest (slot_if b slot more)
shows_slot tag rest true slot [] = tt
shows_slot tag rest true slot (buffer ∷ more) = shows_buffer tag rest (is_buffer buffer) slot buffer
shows_slot tag rest false slot more = tt

shows_patch : (tag : ℕ) (rest : List ℕ) → Shows tag rest (patch_at rest)
shows_patch tag [] = tt
shows_patch tag (slot ∷ rest) = shows_slot tag (slot ∷ rest) (nat_lt slot 2) slot rest

shows_fields : (k : RecordKind) (tag turns : ℕ) (rest : List ℕ) → IsTagOf tag k → Shows tag rest (fields_at k tag turns rest)
shows_fields kind.End tag turns rest is = tt
shows_fields (kind.Push queue) tag turns rest is = shows_push tag queue rest is
shows_fields kind.Control tag turns rest is = shows_control tag rest
shows_fields kind.Turns tag turns rest is = shows_turns tag turns rest (number_at rest) is refl
shows_fields kind.Ack tag turns rest is = shows_ack tag rest (number_at rest)
shows_fields kind.Enable tag turns rest is = shows_enable tag rest
shows_fields kind.Trigger tag turns rest is = shows_trigger tag rest
shows_fields kind.Patch tag turns rest is = shows_patch tag rest
shows_fields kind.Unknown tag turns rest is = tt

pub record_shows : (form : Form) (turns tag : ℕ) (rest : List ℕ) → Shows tag rest (record_at form turns (tag ∷ rest))
record_shows form turns tag rest = shows_fields (kind_of_tag form tag) tag turns rest (tag_of_kind form tag)

-- ---- the bytes of a pair

pub record PairBytes (queue : Queue) (before : ℕ) (bytes : List ℕ) (count : ℕ) : Type 0 where
  pub tag : get_or bytes 0 0 ≡ push_tag queue
  pub status : get_or bytes 1 0 ≡ 0
  pub turn : get_or bytes 6 0 ≡ 5
  pub number : number_at (drop 7 bytes) ≡ Some count
  pub few : before + count ≤ most_turns

pub pair_bytes : (queue : Queue) (before : ℕ) (bytes : List ℕ) (dword count : ℕ) → before ≤ most_turns →
    IsPair queue before bytes dword count →
    PairBytes queue before bytes count
pair_bytes queue before [] dword count few is = let long = is.whole in absurd (omega (arith, long))
pair_bytes queue before (t ∷ []) dword count few is = let long = is.whole in absurd (omega (arith, long))
pair_bytes queue before (t ∷ s ∷ []) dword count few is = let long = is.whole in absurd (omega (arith, long))
pair_bytes queue before (t ∷ s ∷ a ∷ []) dword count few is = let long = is.whole in absurd (omega (arith, long))
pair_bytes queue before (t ∷ s ∷ a ∷ b ∷ []) dword count few is = let long = is.whole in absurd (omega (arith, long))
pair_bytes queue before (t ∷ s ∷ a ∷ b ∷ c ∷ []) dword count few is = let long = is.whole in absurd (omega (arith, long))
pair_bytes queue before (t ∷ s ∷ a ∷ b ∷ c ∷ d ∷ []) dword count few is = let long = is.whole in absurd (omega (arith, long))
pair_bytes queue before (t ∷ s ∷ a ∷ b ∷ c ∷ d ∷ u ∷ rest) dword count few is =
    let front = subst (Shows t (s ∷ a ∷ b ∷ c ∷ d ∷ u ∷ rest)) (is.push Bfs1) (record_shows Bfs1 before t (s ∷ a ∷ b ∷ c ∷ d ∷ u ∷ rest)) in
    let behind = subst (Shows u rest) (is.turned Bfs1) (record_shows Bfs1 before u rest) in
    record {
      tag = front.0;
      status = front.1;
      turn = behind.0;
      number = behind.1;
      few = subst (λ found. Sums found before) (is.turned Bfs1) (record_at-sums Bfs1 before (u ∷ rest) few);
    }

-- a number that is read
pub number_there : (bytes : List ℕ) (n : ℕ) → 4 ≤ length bytes → n ≡ little_number 4 bytes → number_at bytes ≡ Some n
number_there [] n long is = absurd (omega (arith, long))
number_there (a ∷ []) n long is = absurd (omega (arith, long))
number_there (a ∷ b ∷ []) n long is = absurd (omega (arith, long))
number_there (a ∷ b ∷ c ∷ []) n long is = absurd (omega (arith, long))
number_there (a ∷ b ∷ c ∷ d ∷ rest) n long is = ap Some (sym is)

pub same_number : (first second : ℕ) (o : Option ℕ) → o ≡ Some first → o ≡ Some second → first ≡ second
same_number first second o is also = cc

-- too few bytes are none
pub no_pair_short : (queue : Queue) (before : ℕ) (bytes : List ℕ) → length bytes < 11 → NoPair queue before bytes
no_pair_short queue before bytes short dword count is = let long = is.whole in omega (arith, long, short)

-- what holds in any case holds where there is none
pub in_any_case : {A : Type 0} {P : Type 0} (o : Option A) → P → IfNone o P
in_any_case None holds = holds
in_any_case (Some found) holds = tt

-- where there is none of any queue, there is none of one
pub none_of_queue : {A : Type 0} (queue : Queue) (before : ℕ) (bytes : List ℕ) (o : Option A) →
    IfNone o ((any : Queue) → NoPair any before bytes) → IfNone o (NoPair queue before bytes)
none_of_queue queue before bytes None none = none queue
none_of_queue queue before bytes (Some found) none = tt

-- behind so many pairs as have room, or as the bytes may hold, there is no other or no room
pub all_taken : (queue : Queue) (before count most room : ℕ) (bytes : List ℕ) → most ≡ min (room / 4) (length bytes / 11) → most ≤ count →
    AreAll queue before count bytes room
all_taken queue before count most room bytes is enough = by_length (nat_lt (length bytes) (11 * (count + 1))) refl
  where
    by_length : (b : Bool) → nat_lt (length bytes) (11 * (count + 1)) ≡ b → AreAll queue before count bytes room
    by_length true short =
        let fewer = ltb-true (length bytes) (11 * (count + 1)) short in
        let size = length-drop (11 * count) bytes in
        inl (no_pair_short queue before (drop (11 * count) bytes) (omega (arith, fewer, size)))
    by_length false long = let more = ltb-false (length bytes) (11 * (count + 1)) long in inr (omega (arith, more, is, enough))
