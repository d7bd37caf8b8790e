-- A program of instructions without a fault, each of which leads to another, is sound.
use Rattle.std.proofs.Common.{◌≡◌, ℕ, zero, suc, ◌+◌, ◌*◌, ◌<◌, true, List, [], ◌∷◌, ◌++◌, length, length-append, append_assoc, Option}
use Rattle.std.proofs.Common.{None, Ok, sym, ap, ◌∙◌, subst, arith}
use Rattle.std.proofs.lemmas.Grind.{flat_map-append}
use Rattle.risc_word.specs.declared.Instr.{Instr}
use Rattle.risc_word.specs.declared.Instr.TheVariants.{Write, Skip, WriteC, Jump, Sync, Write123, Skip123, Write1S23}
use Rattle.risc_word.specs.Words.{IsInstr, encoded, instr_at}
use Rattle.risc_word.proofs.ReadBack.{reads_back}
use Rattle.machine_model.specs.Paths.{RiscProgram, Place, cause_at, fetch, instr_cause, is_word, next_by, next_place, path, place_after}
use Rattle.machine_model.specs.Paths.{place_read, reading_cause, spans_of, IsSound}
use Rattle.machine_model.proofs.OneSpan.{fetch_there, word_there}
use Rattle.picture_model.specs.Programs.{words_of}
use Rattle.picture_model.proofs.Each.{Each, each_at}

pub record IsFineInstr (program : RiscProgram) (i : Instr) : Type 0 where
  pub spelled : IsInstr i
  pub some : 0 < length (encoded i)
  pub fine : (target : Option ℕ) → instr_cause program i target ≡ None

-- an instruction of a list is at an address
pub record IsAt (base : ℕ) (instrs : List Instr) (address : ℕ) : Type 0 where
  pub before : List Instr
  pub instr : Instr
  pub after : List Instr
  pub split : instrs ≡ before ++ instr ∷ after
  pub at : address ≡ base + 4 * length (words_of before)

abbrev pub IsSome : List Instr → Type 0
IsSome [] = ⊥
IsSome (i ∷ rest) = Unit {0}

-- a JUMP leads to an instruction, and after any other there is one
abbrev pub Goes : (ℕ → Type 0) → Instr → List Instr → Type 0
Goes There (Jump ctl target) rest = There target
Goes There i rest = IsSome rest

pub goes_after : (There : ℕ → Type 0) (i : Instr) (count : ℕ) (after : List Instr) (place : Place) → Goes There i after →
    (IsSome after → There (place.pc + 4 * count)) → There (place_after i count place).pc
goes_after There (Jump ctl target) count after place goes more = goes
goes_after There (Write ctl ends off n addr) count after place goes more = more goes
goes_after There (Skip ctl ends n) count after place goes more = more goes
goes_after There (WriteC ctl ends off n) count after place goes more = more goes
goes_after There (Sync ctl resync code) count after place goes more = more goes
goes_after There (Write123 ctl ends off counts addrs) count after place goes more = more goes
goes_after There (Skip123 ctl ends counts) count after place goes more = more goes
goes_after There (Write1S23 ctl ends off counts addr) count after place goes more = more goes

abbrev pub Lead : (ℕ → Type 0) → List Instr → Type 0
Lead There [] = Unit {0}
Lead There (i ∷ rest) = Goes There i rest × Lead There rest

-- any instruction but a JUMP
abbrev pub IsPlain : Instr → Type 0
IsPlain (Jump ctl target) = ⊥
IsPlain i = Unit {0}

plain_goes : (There : ℕ → Type 0) (i : Instr) (rest : List Instr) → IsPlain i → IsSome rest → Goes There i rest
plain_goes There (Jump ctl target) rest plain some = absurd plain
plain_goes There (Write ctl ends off n addr) rest plain some = some
plain_goes There (Skip ctl ends n) rest plain some = some
plain_goes There (WriteC ctl ends off n) rest plain some = some
plain_goes There (Sync ctl resync code) rest plain some = some
plain_goes There (Write123 ctl ends off counts addrs) rest plain some = some
plain_goes There (Skip123 ctl ends counts) rest plain some = some
plain_goes There (Write1S23 ctl ends off counts addr) rest plain some = some

some_append : (xs : List Instr) (i : Instr) (rest : List Instr) → IsSome (xs ++ i ∷ rest)
some_append [] i rest = tt
some_append (x ∷ xs) i rest = tt

-- plain instructions up to one that leads on
pub lead_plain : (There : ℕ → Type 0) (xs : List Instr) (i : Instr) (rest : List Instr) → Each IsPlain xs → Goes There i rest →
    Lead There rest → Lead There (xs ++ i ∷ rest)
lead_plain There [] i rest plain goes leads = (goes, leads)
lead_plain There (x ∷ xs) i rest plain goes leads =
    (plain_goes There x (xs ++ i ∷ rest) plain.0 (some_append xs i rest), lead_plain There xs i rest plain.1 goes leads)

pub lead_at : (There : ℕ → Type 0) (before : List Instr) (i : Instr) (after : List Instr) → Lead There (before ++ i ∷ after) →
    Goes There i after
lead_at There [] i after leads = leads.0
lead_at There (b ∷ before) i after leads = lead_at There before i after leads.1

-- where an instruction is, its words are

pub words_split : (before : List Instr) (i : Instr) (after : List Instr) →
    words_of (before ++ i ∷ after) ≡ words_of before ++ (encoded i ++ words_of after)
words_split before i after = flat_map-append encoded before (i ∷ after)

pub split_length : (before i after : List ℕ) → length (before ++ (i ++ after)) ≡ length before + (length i + length after)
split_length before i after = length-append before (i ++ after) ∙ ap (λ n. length before + n) (length-append i after)

plus_none : (a b : ℕ) → a + (b + 0) ≡ a + b
plus_none a b = omega arith

reads_at : (before : List ℕ) (i : Instr) (after : List ℕ) → IsInstr i →
    instr_at (before ++ (encoded i ++ after)) (length before) ≡ Ok (i, length (encoded i))
reads_at before i after is =
    ap (λ (words : List ℕ). instr_at words (length before)) (sym (append_assoc before (encoded i) after)) ∙ reads_back i is before after

words_of_more : (before : List Instr) (i : Instr) → length (words_of (before ++ i ∷ [])) ≡ length (words_of before) + length (encoded i)
words_of_more before i =
    ap length (words_split before i []) ∙ split_length (words_of before) (encoded i) []
    ∙ plus_none (length (words_of before)) (length (encoded i))

module _ (program : RiscProgram) (instrs : List Instr) (spelled : program.spans ≡ spans_of program.base (words_of instrs))
    (fine : Each (IsFineInstr program) instrs) where
  instr_fine : (address : ℕ) (at : IsAt program.base instrs address) → IsFineInstr program at.instr
  instr_fine address at =
      each_at (IsFineInstr program) at.before at.instr at.after (subst (Each (IsFineInstr program)) at.split fine)

  words_at : (address : ℕ) (at : IsAt program.base instrs address) →
      words_of instrs ≡ words_of at.before ++ (encoded at.instr ++ words_of at.after)
  words_at address at = ap words_of at.split ∙ words_split at.before at.instr at.after

  pub at_is_word : (address : ℕ) → IsAt program.base instrs address → is_word program address ≡ true
  at_is_word address at =
      let words = words_at address at in
      let all : length (words_of instrs) ≡ length (words_of at.before) + (length (encoded at.instr) + length (words_of at.after)) =
      ap length words ∙ split_length (words_of at.before) (encoded at.instr) (words_of at.after) in
      let some = (instr_fine address at).some in
      subst (λ (a : ℕ). is_word program a ≡ true) (sym at.at)
      (word_there program (words_of instrs) (length (words_of at.before)) spelled (omega arith))

  pub fetch_at : (address : ℕ) (at : IsAt program.base instrs address) → fetch program address ≡ Ok (at.instr, length (encoded at.instr))
  fetch_at address at =
      ap (fetch program) at.at
      ∙ fetch_there program (words_of instrs) (length (words_of at.before)) spelled
      ∙ ap (λ (words : List ℕ). instr_at words (length (words_of at.before))) (words_at address at)
      ∙ reads_at (words_of at.before) at.instr (words_of at.after) (instr_fine address at).spelled

  no_cause : (place : Place) → IsAt program.base instrs place.pc → cause_at program place ≡ None
  no_cause place at = ap (reading_cause program place.target) (fetch_at place.pc at) ∙ (instr_fine place.pc at).fine place.target

  next_is : (place : Place) (at : IsAt program.base instrs place.pc) →
      next_place program place ≡ place_after at.instr (length (encoded at.instr)) place
  next_is place at =
      ap (λ cause. next_by cause program place) (no_cause place at) ∙ ap (λ reading. place_read reading place) (fetch_at place.pc at)

  following : (before : List Instr) (i : Instr) (after : List Instr) (address : ℕ) → instrs ≡ before ++ i ∷ after →
      address ≡ program.base + 4 * length (words_of before) → IsSome after →
      IsAt program.base instrs (address + 4 * length (encoded i))
  following before i [] address split at some = absurd some
  following before i (next ∷ after) address split at some =
      let more = words_of_more before i in
      record {
        before = before ++ i ∷ [];
        instr = next;
        after = after;
        split = split ∙ sym (append_assoc before (i ∷ []) (next ∷ after));
        at = omega arith;
      }

  -- the instruction after one at an address
  one_on : (place : Place) (at : IsAt program.base instrs place.pc) → IsSome at.after →
      IsAt program.base instrs (place.pc + 4 * length (encoded at.instr))
  one_on place at some = following at.before at.instr at.after place.pc at.split at.at some

  goes_on : (place : Place) (at : IsAt program.base instrs place.pc) → Goes (IsAt program.base instrs) at.instr at.after →
      IsAt program.base instrs (place_after at.instr (length (encoded at.instr)) place).pc
  goes_on place at goes = goes_after (IsAt program.base instrs) at.instr (length (encoded at.instr)) at.after place goes (one_on place at)

  module _ (leads : Lead (IsAt program.base instrs) instrs) where
    stands : (number : ℕ) → IsAt program.base instrs program.base → IsAt program.base instrs (path program number).pc
    stands zero first = first
    stands (suc number) first =
        let place = path program number in
        let at = stands number first in
        let goes =
        lead_at (IsAt program.base instrs) at.before at.instr at.after (subst (Lead (IsAt program.base instrs)) at.split leads) in
        subst (λ (p : Place). IsAt program.base instrs p.pc) (sym (next_is place at)) (goes_on place at goes)

    pub circle_sound : IsAt program.base instrs program.base → IsSound program
    circle_sound first number = no_cause (path program number) (stands number first)
