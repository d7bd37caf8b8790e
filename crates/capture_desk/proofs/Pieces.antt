-- Pieces that are put one after the other are one piece: so it is with writes, and so with what is printed.
use Rattle.std.proofs.Common.{◌≡◌, ℕ, ◌+◌, ◌<◌, List, ◌++◌, length, take, Result, Ok, Err, sym, ap, ◌∙◌, arith, length-append}
use Rattle.std.proofs.lemmas.List.{take-append-le}
use Rattle.std.proofs.Math.Seq.{take-append-add}
use Rattle.capture_desk.specs.Desks.{Told, Puts}

-- a piece of which a front was put, and then came a fault
abbrev pub BreaksOff : (List ℕ → Told → Told) → List ℕ → Told → Told → Type 0
BreaksOff after bytes old new = (n : ℕ) × (n < length bytes) × (new ≡ after (take n bytes) old)

module _ (after : List ℕ → Told → Told) (twice : (a b : List ℕ) (t : Told) → after b (after a t) ≡ after (a ++ b) t) where
  pub put_after : (a b : List ℕ) (old mid new : Told) → mid ≡ after a old → new ≡ after b mid → new ≡ after (a ++ b) old
  put_after a b old mid new e f = f ∙ ap (after b) e ∙ twice a b old

  pub breaks_off_after : (a b : List ℕ) (old mid new : Told) → mid ≡ after a old → BreaksOff after b mid new →
      BreaksOff after (a ++ b) old new
  breaks_off_after a b old mid new e h = (
    length a + h.0,
    omega (arith, length-append a b, h.1),
    put_after a (take h.0 b) old mid new e h.2 ∙ ap (λ (zs : List ℕ). after zs old) (sym (take-append-add a b h.0)),
  )

  pub puts_then : {A E : Type 0} (a b : List ℕ) (old mid new : Told) (r : Result A E) → mid ≡ after a old → Puts b r after mid new →
      Puts (a ++ b) r after old new
  puts_then a b old mid new (Ok x) e h = put_after a b old mid new e h
  puts_then a b old mid new (Err x) e h = breaks_off_after a b old mid new e h

pub breaks_off_within : (after : List ℕ → Told → Told) (a c : List ℕ) (old new : Told) → BreaksOff after a old new →
    BreaksOff after (a ++ c) old new
breaks_off_within after a c old new h = (
  h.0,
  omega (arith, length-append a c, h.1),
  h.2 ∙ ap (λ (zs : List ℕ). after zs old) (sym (take-append-le h.0 a c (omega (arith, h.1)))),
)
