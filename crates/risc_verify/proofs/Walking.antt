-- What holds at each step of the walk along a path.
use Rattle.std.proofs.Common.{◌≡◌, ℕ, zero, suc, ◌+◌, ◌<◌, ◌⊎◌, inl, inr, Bool, false, IsTrue, List, replicate, None, refl, ap, sym, subst}
use Rattle.std.proofs.Common.{◌∙◌, arith, add-one, below_more}
use Rattle.machine_model.specs.Paths.{RiscProgram, Place, cause_at, next_place, path, IsSound}
use Rattle.risc_verify.specs.Rounds.{AreFine}
use Rattle.risc_verify.specs.Marks.{IsKnown, IsPlain, is_marked}
use Rattle.risc_verify.proofs.Numbers.{word_of-same}
use Rattle.risc_verify.proofs.Rounds.{sound-from_repeat}

-- the path came to a word with no target
pub record HasMet (program : RiscProgram) (count word : ℕ) : Type 0 where
  pub number : ℕ
  pub before : number < count
  pub there : IsPlain program word (path program number)

-- so many places are fine, the next is this one, and each mark is of a word met with no target
pub record Walks (program : RiscProgram) (count : ℕ) (place : Place) (marks : List Bool) : Type 0 where
  pub fine : AreFine program count
  pub here : path program count ≡ place
  pub met : (word : ℕ) → IsTrue (is_marked marks word) → HasMet program count word

none_marked : (n word : ℕ) → is_marked (replicate n false) word ≡ false
none_marked zero word = refl
none_marked (suc n) zero = refl
none_marked (suc n) (suc word) = none_marked n word

-- there is one place with no target at a word
same-plain : (program : RiscProgram) (word : ℕ) (p q : Place) → IsPlain program word p → IsPlain program word q → p ≡ q
same-plain program word p q at_p at_q =
    let same_pc = word_of-same program p.pc q.pc word at_p.there at_q.there in
    ap (λ pc. record { pc = pc; target = p.target }) same_pc
    ∙ ap (λ target. record { pc = q.pc; target = target }) (at_p.none ∙ sym at_q.none)

pub Walks-next :
    (program : RiscProgram) (count : ℕ) (place next : Place) (marks after : List Bool)
    → Walks program count place marks
    → ((word : ℕ) → IsTrue (is_marked after word) → IsTrue (is_marked marks word) ⊎ IsPlain program word place)
    → cause_at program place ≡ None → next_place program place ≡ next
    → Walks program (count + 1) next after
Walks-next program count place next marks after w marked fine is_next =
    record {
      fine =
          below_more (λ (k : ℕ). cause_at program (path program k) ≡ None) count w.fine
          (ap (cause_at program) w.here ∙ fine);
      here = rw add-one (ap (next_place program) w.here ∙ is_next);
      met =
          λ word is_marked.
          elim (marked word is_marked) [
            | inl old ↦
                let m = w.met word old in
                record { number = m.number; before = omega arith; there = m.there }
            | inr new ↦
                record { number = count; before = omega arith; there = subst (λ (p : Place). IsPlain program word p) (sym w.here) new }
          ];
    }

pub sound-from_known : (program : RiscProgram) (count : ℕ) (place : Place) (marks : List Bool) → Walks program count place marks →
    IsKnown program marks place → IsSound program
sound-from_known program count place marks w known =
    let m = w.met known.word known.marked in
    sound-from_repeat program m.number count m.before
    (same-plain program known.word (path program m.number) place m.there known.here ∙ sym w.here) w.fine
