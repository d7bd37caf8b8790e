-- Programs whose words are one after another from the base on.
use Rattle.std.proofs.Common.{◌≡◌, ℕ, ◌+◌, ◌*◌, ◌^◌, ◌<◌, ◌≤◌, true, List, [], ◌∷◌, length, append-nil, refl, sym, ap, subst, ◌∙◌, arith}
use Rattle.std.specs.List.{All}
use Rattle.std.proofs.lemmas.Bool.{eqb-true, eq-eqb}
use Rattle.std.proofs.lemmas.List.Elements.{All-nil}
use Rattle.page_table.specs.Grants.{Chunk}
use Rattle.machine_model.specs.Paths.{begins_at, begins_at_base, RiscProgram, Span, IsProgram, AreApart, all_words, one_span, span}
use Rattle.machine_model.specs.Paths.{spans_of, words_of}

-- what is known of the words
pub record Words (base : ℕ) (words : List ℕ) : Type 0 where
  pub ends : base + 4 * length words ≤ 2 ^ 32
  pub fit : All (λ word. word < 2 ^ 32) words

words_by : (base : ℕ) (words : List ℕ) (grants : List Chunk) → IsProgram (one_span base words grants) → Words base words
words_by base [] grants made = record { ends = (let low = made.low in omega arith); fit = All-nil (λ word. word < 2 ^ 32) }
words_by base (word ∷ words) grants made = let is = made.spans.1 in record { ends = is.ends; fit = is.fit }

one_by : (at entry : ℕ) (words : List ℕ) → 0 < length words → at ≡ entry →
    span at words ∷ [] ≡ spans_of entry (words_of (span at words ∷ []))
one_by at entry [] some is = absurd (omega arith)
one_by at entry (word ∷ words) some is =
    ap (λ (at : ℕ). span at (word ∷ words) ∷ []) is ∙ ap (spans_of entry) (sym (append-nil (word ∷ words)))

spans_are : (entry : ℕ) (spans : List Span) → AreApart 0 spans → begins_at entry spans ≡ true → spans ≡ spans_of entry (words_of spans)
spans_are entry [] apart is = refl
spans_are entry (s ∷ []) apart is = one_by s.at entry s.words apart.1.some (eqb-true s.at entry is)
spans_are entry (s ∷ other ∷ rest) apart is = absurd cc

pub is_one : (program : RiscProgram) → IsProgram program → begins_at_base program ≡ true →
    program ≡ one_span program.base (all_words program) program.grants
is_one program made is =
    ap (λ (spans : List Span). record { base = program.base; spans = spans; grants = program.grants })
    (spans_are program.base program.spans made.spans is)

pub words_of_one : (program : RiscProgram) → IsProgram program → begins_at_base program ≡ true → Words program.base (all_words program)
words_of_one program made is = words_by program.base (all_words program) program.grants (subst IsProgram (is_one program made is) made)

pub one_span-begins : (base : ℕ) (words : List ℕ) (grants : List Chunk) → begins_at_base (one_span base words grants) ≡ true
one_span-begins base [] grants = refl
one_span-begins base (word ∷ words) grants = eq-eqb base base refl
