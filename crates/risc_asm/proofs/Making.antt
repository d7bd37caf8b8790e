-- A program is made of its parts.
use Rattle.std.proofs.Common.{◌≡◌, ◌↔◌, ℕ, ◌+◌, ◌*◌, Bool, true, false, not, List, [], length, refl, sym, ap, subst, ◌∙◌, Ok, Err}
use Rattle.std.specs.Prelude.{IsTrue}
use Rattle.std.specs.List.{All, list_any}
use Rattle.std.proofs.lemmas.List.Folds.{list_any_none}
use Rattle.page_table.specs.Grants.{AreGrants, Chunk, is_met}
use Rattle.page_table.specs.Taken.{Answers, listed, taken_chunks}
use Rattle.page_table.specs.declared.PageFault.{PageFault}
use Rattle.page_table.specs.declared.PageFault.TheVariants.{Memory}
use Rattle.page_table.proofs.Listed.{none_passes}
use Rattle.machine_model.specs.Paths.{begins_at_base, IsProgram, RiscProgram, Span, all_words, one_span, shares_byte, spans_of}
use Rattle.machine_model.proofs.OneSpan.{shares_byte-one_span}
use Rattle.risc_text.proofs.OneSpan.{is_one}
use Rattle.capture_file.proofs.Chunks.{listed_length, not_taken, taken_is}

none_is : (b : Bool) → IsTrue (not b) → b ≡ false
none_is true h = absurd (cc)
none_is false h = refl

pub apart_if : (test : Chunk → Bool) (chunks : List Chunk) → IsTrue (not (list_any test chunks)) ↔ All (λ c. test c ≡ false) chunks
apart_if test chunks = (λ h. none_passes test chunks (none_is (list_any test chunks) h), λ all. ap not (list_any_none test chunks all))

pub clear_one : {P : Type 0} (base : ℕ) (words : List ℕ) (grants : List Chunk) →
    P ↔ All (λ c. is_met base (base + 4 * length words) c ≡ false) grants →
    P ↔ All (λ c. shares_byte (one_span base words []) c ≡ false) grants
clear_one base words grants iff = (
  λ p. (λ k d h. shares_byte-one_span base words [] _ ∙ iff.0 p k d h),
  λ all. iff.1 (λ k d h. sym (shares_byte-one_span base words [] _) ∙ all k d h),
)

pub apart_of : (program : RiscProgram) (base : ℕ) (words : List ℕ) (grants : List Chunk) → program.base ≡ base → all_words program ≡ words →
    grants ≡ program.grants → IsProgram program →
    begins_at_base program ≡ true → All (λ c. shares_byte (one_span base words []) c ≡ false) grants
apart_of program base words grants base_is words_are grants_are made by_base =
    let same : program ≡ one_span base words program.grants =
    is_one program made by_base ∙ (λ i. one_span (base_is i) (words_are i) program.grants) in
    let spans : program.spans ≡ spans_of base words = ap (λ (p : RiscProgram). p.spans) same in
    subst (λ (list : List Chunk). All (λ c. shares_byte (one_span base words []) c ≡ false) list) (sym grants_are)
    (subst (λ (spans : List Span). All (λ c. shares_byte (record { base = base; spans = spans; grants = [] }) c ≡ false) program.grants)
    spans made.apart)

pub is_program : (program : RiscProgram) (base : ℕ) (words : List ℕ) (grants : List Chunk) → IsProgram program →
    begins_at_base program ≡ true → program.base ≡ base → all_words program ≡ words → grants ≡ program.grants →
    one_span base words grants ≡ program
is_program program base words grants made by_base base_is words_are grants_are =
    (λ i. one_span (sym base_is i) (sym words_are i) (grants_are i)) ∙ sym (is_one program made by_base)

pub no_longer : (b : Bool) (P : Type 0) → (IsTrue b ↔ P) → b ≡ false → P → ⊥
no_longer b P iff is holds = let yes = iff.1 holds in cc

pub grants_taken : (chunks : List (ℕ × ℕ)) (grants found : List Chunk) → AreGrants grants → grants ≡ listed chunks →
    Answers (taken_chunks chunks) (Ok found) → found ≡ grants
grants_taken chunks grants found are is answer =
    let all = subst AreGrants is are in
    let long = listed_length chunks in
    taken_is chunks found all.rising (rw (← long) at all.few) all.small answer ∙ sym is

pub grants_not_taken : (chunks : List (ℕ × ℕ)) (grants : List Chunk) (fault : PageFault) → AreGrants grants → grants ≡ listed chunks →
    Answers (taken_chunks chunks) (Err fault) → (fault ≡ Memory → ⊥) → ⊥
grants_not_taken chunks grants fault are is answer other =
    let all = subst AreGrants is are in
    let long = listed_length chunks in
    not_taken chunks fault all.rising (rw (← long) at all.few) all.small answer other
