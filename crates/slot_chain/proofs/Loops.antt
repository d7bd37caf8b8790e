-- The words of a chain as the code makes them.
use Rattle.std.proofs.Common.{◌≡◌, ℕ, suc, ◌+◌, ◌-◌, ◌*◌, ◌<◌, ◌≤◌, List, [], ◌∷◌, ◌++◌, length, take, drop, length-append, append_assoc}
use Rattle.std.proofs.Common.{None, sym, ap, ◌∙◌, arith}
use Rattle.std.specs.Prelude.{replicate, slice_index_or}
use Rattle.std.proofs.lemmas.Grind.{flat_map-append}
use Rattle.std.proofs.lemmas.List.{append-nil, take-append-drop, take_more}
use Rattle.machine_model.specs.Paths.{max_words}
use Rattle.chain_model.specs.declared.PartWords.{PartWords}
use Rattle.chain_model.specs.Chains.{Chain, jump_word, loop_words, next, words_of_parts}

pub words_more : (parts : List PartWords) (i : ℕ) (part : PartWords) → i < length parts → slice_index_or parts i part ≡ part →
    words_of_parts (take (i + 1) parts) ≡ words_of_parts (take i parts) ++ part.words
words_more parts i part lt is =
    ap words_of_parts (take_more parts i part lt)
    ∙ flat_map-append (λ (p : PartWords). p.words) (take i parts) (slice_index_or parts i part ∷ [])
    ∙ ap (λ (words : List ℕ). words_of_parts (take i parts) ++ words)
    (append-nil (slice_index_or parts i part).words ∙ ap (λ (p : PartWords). p.words) is)

pub words_at_most : (parts : List PartWords) (i : ℕ) → length (words_of_parts (take i parts)) ≤ length (words_of_parts parts)
words_at_most parts i =
    let all : words_of_parts parts ≡ words_of_parts (take i parts) ++ words_of_parts (drop i parts) =
    ap words_of_parts (sym (take-append-drop i parts)) ∙ flat_map-append (λ (p : PartWords). p.words) (take i parts) (drop i parts) in
    let size = ap length all in
    let both = length-append (words_of_parts (take i parts)) (words_of_parts (drop i parts)) in omega arith

-- one slot more is written
pub loop_more : (chain : Chain) (slot n m address : ℕ) (items items' : List ℕ) → n ≡ suc m →
    items' ≡ (items ++ jump_word ∷ []) ++ address ∷ [] → address ≡ next chain slot →
    items' ++ loop_words chain (slot + 1) (replicate m None) ≡ items ++ loop_words chain slot (replicate n None)
loop_more chain slot n m address items items' one made is =
    let on : slot + 1 ≡ suc slot = omega arith in
    let later : List ℕ = loop_words chain (suc slot) (replicate m None) in
    ap (λ (s : ℕ). items' ++ loop_words chain s (replicate m None)) on
    ∙ ap (λ (words : List ℕ). words ++ later) made
    ∙ append_assoc (items ++ jump_word ∷ []) (address ∷ []) later
    ∙ append_assoc items (jump_word ∷ []) (address ∷ later)
    ∙ ap (λ (a : ℕ). items ++ jump_word ∷ a ∷ later) is
    ∙ ap (λ (k : ℕ). items ++ loop_words chain slot (replicate k None)) (sym one)

-- too many words are counted before the last part
pub too_many : (slots : ℕ) (parts : List PartWords) (i count len : ℕ) (part : PartWords) → i < length parts →
    slice_index_or parts i part ≡ part →
    count ≡ 2 * slots + 2 + length (words_of_parts (take i parts)) → len ≡ length part.words → count ≤ max_words → max_words - count < len →
    max_words < 2 * slots + 2 + length (words_of_parts parts)
too_many slots parts i count len part lt is counted long few more =
    let one = ap length (words_more parts i part lt is) in
    let both = length-append (words_of_parts (take i parts)) part.words in
    let most = words_at_most parts (i + 1) in omega arith
