-- Spans that share one list of words, and where each of them is in it.
use Rattle.std.specs.Prelude.{◌≡◌, ℕ, ◌+◌, ◌-◌, ◌*◌, ◌/◌, ◌%◌, ◌<◌, ◌≤◌, Bool, true, false, ◌&&◌, ◌||◌}
use Rattle.std.specs.Prelude.{List, [], ◌∷◌, ◌++◌, length, take, drop, map}
use Rattle.std.specs.Prelude.{Option, Some, None, if◌then◌else◌, ◌==◌, nat_lt, nat_le}
use Rattle.machine_model.specs.Paths.{RiscProgram, Span, all_words, span}
use Rattle.risc_verify.specs.Programs.{word_of}
use Rattle.risc_verify.specs.declared.spans.SpanPlace.{SpanPlace}

-- the spans with one word more at the end of the last
abbrev pub with_word : List Span → ℕ → List Span
with_word [] word = []
with_word (s ∷ []) word = span s.at (s.words ++ word ∷ []) ∷ []
with_word (s ∷ t ∷ rest) word = s ∷ with_word (t ∷ rest) word

abbrev pub place : ℕ → ℕ → ℕ → SpanPlace
place at first count = record { at = at; first = first; count = count }

-- the span at a place of all words, and the spans at places
abbrev pub span_at : List ℕ → SpanPlace → Span
span_at words p = span p.at (take p.count (drop p.first words))

abbrev pub spans_at : List ℕ → List SpanPlace → List Span
spans_at words places = map (span_at words) places

-- places that cut the words from one on: each begins where the one before it ends, and the last ends at the end
abbrev pub AreCut : ℕ → List SpanPlace → ℕ → Type 0
AreCut from [] end = from ≡ end
AreCut from (p ∷ rest) end = (p.first ≡ from) × AreCut (from + p.count) rest end

-- whether the word at an address is of the span at a place, and its number
abbrev pub has_address : SpanPlace → ℕ → Bool
has_address p address = nat_le p.at address && (address - p.at) % 4 == 0 && nat_lt ((address - p.at) / 4) p.count

abbrev pub number_in : SpanPlace → ℕ → Option ℕ
number_in p address = if has_address p address then Some (p.first + (address - p.at) / 4) else None

-- the address behind the span at a place
abbrev pub place_end : SpanPlace → ℕ
place_end p = p.at + 4 * p.count

-- whether one of the spans is at a place, where so many words are before them
abbrev pub stands_from : ℕ → List Span → SpanPlace → Bool
stands_from before [] p = false
stands_from before (s ∷ rest) p =
    p.at == s.at && p.first == before && p.count == length s.words || stands_from (before + length s.words) rest p

-- a place where a span of the program is, or none
abbrev pub IsNear : RiscProgram → SpanPlace → Type 0
IsNear program p = (p.count == 0 || stands_from 0 program.spans p) ≡ true

-- an address by the number of its word among those up to the end of the span at a place; behind the last of them no word is
pub record IsAt (program : RiscProgram) (p : SpanPlace) (words : List ℕ) (number address : ℕ) : Type 0 where
  pub near : IsNear program p
  pub part : words ≡ take (p.first + p.count) (all_words program)
  pub there : number < length words → number_in p address ≡ Some number
  pub none : length words ≤ number → word_of program address ≡ None
