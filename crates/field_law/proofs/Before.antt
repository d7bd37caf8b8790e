-- One queue while the opening waits: entries before the field, then the field.
use Rattle.std.proofs.Common.{◌≡◌, suc, ◌+◌, true, false, not, All, List, [], ◌∷◌, ◌++◌, length, drop, Option, Some, None, refl, sym, ap}
use Rattle.std.proofs.Common.{◌∙◌, arith}
use Rattle.std.proofs.lemmas.List.Elements.{All-head, All-tail}
use Rattle.risc_word.specs.declared.Code.{Code}
use Rattle.risc_word.specs.Words.{code_number, code_numbered}
use Rattle.risc_word.proofs.ReadBack.{code_numbered-number}
use Rattle.sync_status.specs.declared.StatusKind.{StatusKind}
use Rattle.sync_status.specs.declared.StatusKind.TheVariants.{Control, Start, Pixels, End, Reserved}
use Rattle.sync_status.specs.Statuses.{kind_of, is_control}
use Rattle.fifo_model.specs.declared.Entry.{Entry}
use Rattle.fifo_model.specs.Queues.{QueueState, Queues, first, code_of_kind, front_code_of, front_code, codes_of, IsFifo}
use Rattle.fifo_model.proofs.Codes.{codes-without_code}
use Rattle.machine_model.specs.Turns.{no_code, is_stray, code_if}
use Rattle.machine_model.proofs.Fronts.{data_code}
use Rattle.field_law.specs.Fields.{Token, Mark, Brings}
use Rattle.field_law.specs.Arrivals.{HasCode}

-- ---- the front of a queue

pub record HasFront (held : QueueState) (code : Option Code) : Type 0 where
  pub entry : Entry
  pub behind : List Entry
  pub same : held.entries ≡ entry ∷ behind
  pub is_code : code_of_kind (kind_of entry.status) ≡ code

coded : (entries : List Entry) (held : QueueState) (code : Code) → held.entries ≡ entries → front_code_of (first entries) ≡ Some code →
    HasFront held (Some code)
coded [] held code e h = cc
coded (entry ∷ behind) held code e h = record { entry = entry; behind = behind; same = e; is_code = h }

pub code-HasFront : (held : QueueState) (code : Code) → front_code held ≡ Some code → HasFront held (Some code)
code-HasFront held code h = coded held.entries held code refl h

stray : (entries : List Entry) (held : QueueState) → held.entries ≡ entries → no_code (first entries) ≡ true → HasFront held None
stray [] held e h = cc
stray (entry ∷ behind) held e h = record { entry = entry; behind = behind; same = e; is_code = data_code (kind_of entry.status) h }

pub stray-HasFront : (held : QueueState) → is_stray held ≡ true → HasFront held None
stray-HasFront held h = stray held.entries held refl h

control_code : (kind : StatusKind) → not (is_control kind) ≡ false → (code : Code) × (code_of_kind kind ≡ Some code)
control_code (Control code) h = (code, refl)
control_code Start h = cc
control_code Pixels h = cc
control_code (End count) h = cc
control_code Reserved h = cc

-- a queue that is not stray and not empty has a code in front
pub held_code : (entries : List Entry) → no_code (first entries) ≡ false → (entries ≡ [] → ⊥) →
    (code : Code) × (front_code_of (first entries) ≡ Some code)
held_code [] h some = absurd (some refl)
held_code (entry ∷ behind) h some = control_code (kind_of entry.status) h

-- ---- codes

pub same_code : (one two : Code) → code_number one ≡ code_number two → one ≡ two
same_code one two h =
    let same : Some one ≡ Some two = sym (code_numbered-number one) ∙ ap code_numbered h ∙ code_numbered-number two in
    cc

-- the codes in front of two queues are the same
fronts_agree : (one two : List Entry) (a b : Code) → codes_of two ≡ codes_of one → front_code_of (first one) ≡ Some a →
    front_code_of (first two) ≡ Some b → b ≡ a
fronts_agree one two a b same ea eb =
    let first = codes-without_code one a ea in
    let second = codes-without_code two b eb in
    cc

pub record Common (queues : Queues) (code : Code) : Type 0 where
  pub one : front_code queues.one ≡ Some code
  pub two : front_code queues.two ≡ Some code
  pub three : front_code queues.three ≡ Some code

parts_of : (one two three : Option Code) (seen : Code) → code_if one two three ≡ Some seen →
    (one ≡ Some seen) × ((b : Code) × (two ≡ Some b)) × ((c : Code) × (three ≡ Some c))
parts_of (Some a) (Some b) (Some c) seen h = (h, (b, refl), (c, refl))
parts_of (Some a) (Some b) None seen h = cc
parts_of (Some a) None three seen h = cc
parts_of None two three seen h = cc

pub code-Common : (queues : Queues) (seen : Code) → IsFifo queues →
    code_if (front_code queues.one) (front_code queues.two) (front_code queues.three) ≡ Some seen → Common queues seen
code-Common queues seen fifo h =
    let parts = parts_of (front_code queues.one) (front_code queues.two) (front_code queues.three) seen h in
    let two = fronts_agree queues.one.entries queues.two.entries seen parts.1.0 fifo.second parts.0 parts.1.1 in
    let three = fronts_agree queues.one.entries queues.three.entries seen parts.2.0 fifo.third parts.0 parts.2.1 in
    record { one = parts.0; two = parts.1.1 ∙ ap Some two; three = parts.2.1 ∙ ap Some three }

-- ---- what is before the field

abbrev pub IsUnmarked : Code → List Entry → Type 0
IsUnmarked code before = All (λ entry. HasCode code entry → ⊥) before

-- the front goes, and it was before the field
pub record Dropped (code : Code) (held : QueueState) (later before entries rest : List Entry) : Type 0 where
  pub after : List Entry
  pub less : length before ≡ suc (length after)
  pub order : drop 1 held.entries ++ later ≡ after ++ (entries ++ rest)
  pub unmarked : IsUnmarked code after

-- the front goes, and it was the code that begins the field
pub record Opened (tokens : List Token) (held : QueueState) (later before entries rest : List Entry) : Type 0 where
  pub field : List Entry
  pub less : length before + length entries ≡ suc (length field)
  pub order : drop 1 held.entries ++ later ≡ field ++ rest
  pub brings : Brings tokens field

pub drops : (code : Code) (tokens : List Token) (held : QueueState) (later before entries rest : List Entry) (front : Option Code)
    (h : HasFront held front) →
    (front ≡ Some code → ⊥) → held.entries ++ later ≡ before ++ (entries ++ rest) → Brings (Mark code ∷ tokens) entries →
    IsUnmarked code before →
    Dropped code held later before entries rest
drops code tokens held later [] entries rest front h other order brings unmarked =
    let split = brings.2 in
    let seen : h.entry ∷ (h.behind ++ later) ≡ brings.0 ∷ (brings.1 ++ rest) =
    sym (ap (λ (held : List Entry). held ++ later) h.same) ∙ order ∙ ap (λ (entries : List Entry). entries ++ rest) split in
    let same : h.entry ≡ brings.0 = cc in
    absurd (other (sym h.is_code ∙ ap (λ (entry : Entry). code_of_kind (kind_of entry.status)) same ∙ brings.3))
drops code tokens held later (top ∷ before) entries rest front h other order brings unmarked =
    let seen : h.entry ∷ (h.behind ++ later) ≡ top ∷ (before ++ (entries ++ rest)) =
    sym (ap (λ (held : List Entry). held ++ later) h.same) ∙ order in
    let behind : h.behind ++ later ≡ before ++ (entries ++ rest) = cc in
    record {
      after = before;
      less = refl;
      order = ap (λ (held : List Entry). drop 1 held ++ later) h.same ∙ behind;
      unmarked = All-tail (λ entry. HasCode code entry → ⊥) top before unmarked;
    }

pub opens : (code : Code) (tokens : List Token) (held : QueueState) (later before entries rest : List Entry)
    (h : HasFront held (Some code)) →
    held.entries ++ later ≡ before ++ (entries ++ rest) → Brings (Mark code ∷ tokens) entries → IsUnmarked code before →
    Opened tokens held later before entries rest
opens code tokens held later [] entries rest h order brings unmarked =
    let split = brings.2 in
    let long = ap (λ (entries : List Entry). length entries) split in
    let seen : h.entry ∷ (h.behind ++ later) ≡ brings.0 ∷ (brings.1 ++ rest) =
    sym (ap (λ (held : List Entry). held ++ later) h.same) ∙ order ∙ ap (λ (entries : List Entry). entries ++ rest) split in
    let behind : h.behind ++ later ≡ brings.1 ++ rest = cc in
    record {
      field = brings.1;
      less = omega arith;
      order = ap (λ (held : List Entry). drop 1 held ++ later) h.same ∙ behind;
      brings = brings.4;
    }
opens code tokens held later (top ∷ before) entries rest h order brings unmarked =
    let seen : h.entry ∷ (h.behind ++ later) ≡ top ∷ (before ++ (entries ++ rest)) =
    sym (ap (λ (held : List Entry). held ++ later) h.same) ∙ order in
    let same : h.entry ≡ top = cc in
    absurd (All-head (λ entry. HasCode code entry → ⊥) top before unmarked
    (sym (ap (λ (entry : Entry). code_of_kind (kind_of entry.status)) same) ∙ h.is_code))
