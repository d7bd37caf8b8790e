-- A text that is kept as the words of its lines, as far as they give it back.
use Rattle.std.specs.Prelude.{◌≡◌, ℕ, ◌+◌, ◌*◌, ◌^◌, ◌≤◌, List, [], ◌++◌, length, take, drop}
use Rattle.risc_listing.specs.Listings.{base_line, word_lines}
use Rattle.risc_asm.specs.declared.text.Settled.{Settled}
use Rattle.risc_asm.specs.declared.text.State.{State}
use Rattle.risc_asm.specs.declared.text.State.TheVariants.{New, Plain, Told}

-- the base and the lines of words
abbrev pub told : ℕ → List ℕ → List ℕ
told base words = base_line base ++ word_lines base 0 words

-- so many bytes of that are the lines of so many of the words, whatever words follow
pub record IsSettled (base : ℕ) (words : List ℕ) (number front : ℕ) : Type 0 where
  pub within : number ≤ length words
  pub ends : base + 4 * length words ≤ 2 ^ 32
  pub long : front ≤ length (told base words)
  pub lines : (later : List ℕ) →
      take front (told base words) ++ word_lines (base + 4 * number) 0 (drop number (words ++ later)) ≡ told base (words ++ later)

abbrev pub Holds : Settled → Type 0
Holds s = IsSettled s.base s.draft.words.items s.number s.front

-- the bytes that are kept as words
abbrev pub front_of : Settled → List ℕ
front_of s = take s.front (told s.base s.draft.words.items)

abbrev pub kept : State → List ℕ
kept New = []
kept Plain = []
kept (Told s) = front_of s

abbrev pub IsKept : State → Type 0
IsKept New = Unit {0}
IsKept Plain = Unit {0}
IsKept (Told s) = Holds s

-- words with more behind them
abbrev pub IsGrown : List ℕ → List ℕ → Type 0
IsGrown old new = (more : List ℕ) × (new ≡ old ++ more)

-- the lines of words from one to another are at the front of a text, whatever words follow
pub record TellsMore (base : ℕ) (words : List ℕ) (number next : ℕ) (text rest : List ℕ) : Type 0 where
  pub within : next ≤ length words
  pub more : number ≤ next
  pub shown : List ℕ
  pub text_is : text ≡ shown ++ rest
  pub lines : (later : List ℕ) →
      word_lines (base + 4 * number) 0 (drop number (words ++ later)) ≡ shown ++ word_lines (base + 4 * next) 0 (drop next (words ++ later))
