-- Lines of words that stay the same whatever words follow: no instruction has more than five words.
use Rattle.std.proofs.Common.{◌≡◌, ℕ, ◌+◌, ◌*◌, ◌≤◌, List, [], ◌∷◌, ◌++◌, length, drop, Ok, Err, inl, inr, refl, sym, ap, ◌∙◌, arith}
use Rattle.std.proofs.Common.{length-append}
use Rattle.std.specs.Prelude.{◌==◌, if◌then◌else◌, slice_index, Bool, Option, Some, None}
use Rattle.std.specs.Cmp.Lexicographic.{pointwise}
use Rattle.std.proofs.lemmas.List.{drop-append-le, take-append-le}
use Rattle.std.proofs.lemmas.Bool.{cond_both}
use Rattle.bit_field.specs.Bits.{bits}
use Rattle.risc_word.specs.declared.Code.{Code}
use Rattle.risc_word.specs.declared.WordFault.TheVariants.{Cut}
use Rattle.risc_word.specs.Words.{Reading, by_opcode, code_numbered, encoded, first_instr, sync_for}
use Rattle.risc_word.proofs.MoreWords.{first_instr-more}
use Rattle.risc_word.proofs.ReadInstructions.{IsKnownAt, known_of_instr_at}
use Rattle.risc_listing.specs.Listings.{if_spelled, line_of, spelled, word_lines, words_of}
use Rattle.risc_listing.proofs.Passing.{lines_more}

abbrev IsWhole : Reading → Type 0
IsWhole reading = reading ≡ Err Cut → ⊥

sync_whole : (word : ℕ) (code : Option Code) → IsWhole (sync_for word code)
sync_whole word (Some code) = λ is. cc
sync_whole word None = λ is. cc

chosen : (test : Bool) (one other : Reading) → IsWhole one → IsWhole other → IsWhole (if test then one else other)
chosen test one other h k = cond_both test one other IsWhole (λ _. h) (λ _. k)

-- five words don't cut an instruction off
whole : (opcode word a b c d : ℕ) (rest : List ℕ) → IsWhole (by_opcode opcode word (a ∷ b ∷ c ∷ d ∷ rest))
whole opcode word a b c d rest =
    chosen (opcode == 1) _ _ (λ is. cc)
    (chosen (opcode == 2) _ _ (λ is. cc)
    (chosen (opcode == 5) _ _ (λ is. cc)
    (chosen (opcode == 7) _ _ (λ is. cc)
    (chosen (opcode == 8) _ _ (sync_whole word (code_numbered (bits 0 4 word)))
    (chosen (opcode == 9) _ _ (λ is. cc)
    (chosen (opcode == 10) _ _ (λ is. cc)
    (chosen (opcode == 11) _ _ (λ is. cc) (λ is. cc))))))))

not_cut : (words : List ℕ) → 5 ≤ length words → IsWhole (first_instr words)
not_cut [] five = absurd (omega arith)
not_cut (_ ∷ []) five = absurd (omega arith)
not_cut (_ ∷ _ ∷ []) five = absurd (omega arith)
not_cut (_ ∷ _ ∷ _ ∷ []) five = absurd (omega arith)
not_cut (_ ∷ _ ∷ _ ∷ _ ∷ []) five = absurd (omega arith)
not_cut (word ∷ a ∷ b ∷ c ∷ d ∷ rest) five = whole (bits 28 4 word) word a b c d rest

if_more : (words later : List ℕ) (reading : Reading) → IsKnownAt words 0 reading →
    if_spelled (words ++ later) reading ≡ if_spelled words reading
if_more words later (Err fault) known = refl
if_more words later (Ok read) known =
    ap (λ (front : List ℕ). if pointwise (λ one other. one == other) (encoded read.0) front then Some read else None)
    (take-append-le (length (encoded read.0)) words later (let a = known.spelled_is in let b = known.within in omega arith))

pub spelled_more : (words later : List ℕ) → 5 ≤ length words → spelled (words ++ later) ≡ spelled words
spelled_more words later five =
    elim (first_instr-more words later) [
      | inl cut ↦ absurd (not_cut words five cut)
      | inr same ↦ ap (if_spelled (words ++ later)) same ∙ if_more words later (first_instr words) (known_of_instr_at words 0)
    ]

slice_more : (words later : List ℕ) → 1 ≤ length words → slice_index (words ++ later) 0 ≡ slice_index words 0
slice_more [] later some = absurd (omega arith)
slice_more (word ∷ rest) later some = refl

-- a text goes on by a line
pub settled_more : (base i number : ℕ) (words rest before now front later : List ℕ) → rest ≡ drop i words → i ≤ length words →
    5 ≤ length rest → number ≡ words_of (spelled rest) → 1 ≤ number →
    now ≡ before ++ line_of (base + 4 * i) (slice_index rest 0) (spelled rest) →
    before ++ word_lines (base + 4 * i) 0 (drop i (words ++ later)) ≡ front →
    now ++ word_lines (base + 4 * (i + number)) 0 (drop (i + number) (words ++ later)) ≡ front
settled_more base i number words rest before now front later is within five same some appended so_far =
    let more = spelled_more rest later five in
    let first = slice_more rest later (omega arith) in
    lines_more base i number (words ++ later) (rest ++ later) before now front
    (ap (λ (list : List ℕ). list ++ later) is ∙ sym (drop-append-le i words later within))
    (let long = length-append rest later in omega arith)
    (same ∙ ap words_of (sym more))
    some
    (appended ∙ ap (λ (word : ℕ). before ++ line_of (base + 4 * i) word (spelled rest)) (sym first)
    ∙ ap (λ found. before ++ line_of (base + 4 * i) (slice_index (rest ++ later) 0) found) (sym more))
    so_far
