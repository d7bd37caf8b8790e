-- Lines that are listed again, one piece after the other.
use Rattle.std.proofs.Common.{◌≡◌, ℕ, ◌+◌, ◌-◌, ◌≤◌, List, ◌++◌, length, length-append, take, sym, ap, ◌∙◌, arith, append_assoc}
use Rattle.risc_asm.specs.Texts.{IsSettled, TellsMore, told}
use Rattle.risc_asm.proofs.Telling.{settled_on}

pub record SoFar (base : ℕ) (words : List ℕ) (number front : ℕ) (first tail rest : List ℕ) : Type 0 where
  pub settled : IsSettled base words number front
  pub shown : List ℕ
  pub tail_is : tail ≡ shown ++ rest
  pub front_is : take front (told base words) ≡ first ++ shown

pub further : (base : ℕ) (words : List ℕ) (number next front more : ℕ) (first tail rest left : List ℕ) →
    SoFar base words number front first tail rest → TellsMore base words number next rest left →
    more ≡ front + (length rest - length left) → SoFar base words next more first tail left
further base words number next front more first tail rest left so_far tells is =
    let on = settled_on base words number next front more rest left so_far.settled tells is in
    record {
      settled = on.settled;
      shown = so_far.shown ++ tells.shown;
      tail_is =
          so_far.tail_is ∙ ap (λ (list : List ℕ). so_far.shown ++ list) tells.text_is ∙ sym (append_assoc so_far.shown tells.shown left);
      front_is = on.front_is ∙ ap (λ (list : List ℕ). list ++ tells.shown) so_far.front_is ∙ append_assoc first so_far.shown tells.shown;
    }

pub long : (base : ℕ) (words : List ℕ) (number front : ℕ) (first tail rest : List ℕ) → SoFar base words number front first tail rest →
    length rest ≤ length tail
long base words number front first tail rest so_far =
    let size : length tail ≡ length so_far.shown + length rest = ap length so_far.tail_is ∙ length-append so_far.shown rest in omega arith
