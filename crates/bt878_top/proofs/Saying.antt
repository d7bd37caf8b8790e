-- A text that is printed piece by piece.
use Rattle.std.proofs.Common.{◌≡◌, ℕ, ◌+◌, ◌<◌, List, [], ◌∷◌, Result, ◌++◌, ◌∙◌, length, drop, get_or, sym, ap, subst, append_assoc}
use Rattle.std.specs.List.{flat_map}
use Rattle.std.proofs.lemmas.List.{drop_more}
use Rattle.machine_model.specs.Paths.{Span}
use Rattle.risc_listing.specs.Listings.{span_lines}
use Rattle.risc_listing.proofs.Spans.{no_span}
use Rattle.capture_desk.specs.declared.calls.Call.TheVariants.{Say}
use Rattle.capture_desk.specs.Desks.{IsWriteFault, OnlySaid, Puts, Seen, Tells, Told, after_say, counted}
use Rattle.capture_desk.proofs.Telling.{say_both, say_more}
use Rattle.capture_desk.proofs.Laws.{after_say-after_say}
use Rattle.capture_desk.proofs.Pieces as pieces

-- the first bytes of a text were printed, but not the whole
abbrev pub BreaksOff : List ℕ → Told → Told → Type 0
BreaksOff = pieces.BreaksOff after_say

pub said_on : (a b : List ℕ) (old mid new : Told) → mid ≡ after_say a old → new ≡ after_say b mid → new ≡ after_say (a ++ b) old
said_on = pieces.put_after after_say after_say-after_say

pub breaks_off_after : (a b : List ℕ) (old mid new : Told) → mid ≡ after_say a old → BreaksOff b mid new → BreaksOff (a ++ b) old new
breaks_off_after = pieces.breaks_off_after after_say after_say-after_say

pub breaks_off_within : (a c : List ℕ) (old new : Told) → BreaksOff a old new → BreaksOff (a ++ c) old new
breaks_off_within = pieces.breaks_off_within after_say

-- a piece between what was printed and the rest
pub piece_said : (said piece rest front whole : List ℕ) (old mid new : Told) → piece ++ rest ≡ front → said ++ front ≡ whole →
    mid ≡ after_say said old →
    new ≡ after_say piece mid → ((said ++ piece) ++ rest ≡ whole) × (new ≡ after_say (said ++ piece) old)
piece_said said piece rest front whole old mid new split so_far before is = (
  append_assoc said piece rest ∙ ap (λ (list : List ℕ). said ++ list) split ∙ so_far,
  said_on said piece old mid new before is,
)

pub piece_breaks_off : (said piece rest front whole : List ℕ) (old mid new : Told) → piece ++ rest ≡ front → said ++ front ≡ whole →
    mid ≡ after_say said old →
    BreaksOff piece mid new → BreaksOff whole old new
piece_breaks_off said piece rest front whole old mid new split so_far before is =
    subst (λ (text : List ℕ). BreaksOff text old new) so_far
    (breaks_off_after said front old mid new before
    (subst (λ (text : List ℕ). BreaksOff text mid new) split (breaks_off_within piece rest mid new is)))

-- ---- what is counted, and what the desk tells

pub said_both : (a b : List ℕ) (old mid new : Seen) → OnlySaid a old mid → OnlySaid b mid new → OnlySaid (a ++ b) old new
said_both a b old mid new one two = (two.0 ∙ one.0, two.1 ∙ one.1, say_both a b old.calls mid.calls new.calls one.2 two.2)

pub fault_later : {E : Type 0} (a b whole : List ℕ) (failed : E) (old mid new : Seen) → OnlySaid a old mid →
    IsWriteFault mid new × Tells (Say ∷ []) mid.calls new.calls →
    IsWriteFault old new × Tells (Say ∷ []) old.calls new.calls
fault_later a b whole failed old mid new one two =
    ((two.0.0 ∙ one.0, two.0.1 ∙ ap counted one.1, two.0.2), say_more a old.calls mid.calls new.calls one.2 two.1)

-- the text of two parts, of which the first was printed
pub then_said : {A E : Type 0} (a b : List ℕ) (old mid new : Told) (result : Result A E) → mid ≡ after_say a old →
    Puts b result after_say mid new →
    Puts (a ++ b) result after_say old new
then_said = pieces.puts_then after_say after_say-after_say

-- the lines of a span, and those of the spans behind it
pub spans_split : (spans : List Span) (number : ℕ) (s : Span) → number < length spans → s ≡ get_or spans number no_span →
    span_lines s ++ flat_map span_lines (drop (number + 1) spans) ≡ flat_map span_lines (drop number spans)
spans_split spans number s inside is =
    ap (λ (s : Span). span_lines s ++ flat_map span_lines (drop (number + 1) spans)) is
    ∙ sym (ap (flat_map span_lines) (drop_more spans number no_span inside))
