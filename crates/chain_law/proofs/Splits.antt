-- Where a part is in the words of a chain, and which instruction is fetched there.
use Rattle.std.proofs.Common.{◌≡◌, ℕ, zero, suc, ◌+◌, ◌*◌, ◌<◌, true, List, [], ◌∷◌, ◌++◌, length, take, drop, length-append, append_assoc}
use Rattle.std.proofs.Common.{Ok, refl, sym, ap, ◌∙◌, subst, arith}
use Rattle.std.specs.Prelude.{slice_index_or}
use Rattle.risc_word.specs.declared.Instr.{Instr}
use Rattle.risc_word.specs.Words.{encoded}
use Rattle.machine_model.specs.Paths.{RiscProgram, is_word, fetch, spans_of}
use Rattle.machine_model.proofs.OneSpan.{word_there}
use Rattle.picture_model.specs.Programs.{words_of}
use Rattle.picture_model.proofs.Circle.{IsAt, IsFineInstr, split_length, words_split}
use Rattle.picture_model.proofs.Each.{Each, each_at}
use Rattle.picture_law.proofs.Program.{fetched_at}
use Rattle.chain_model.specs.declared.PartWords.{PartWords}
use Rattle.chain_model.specs.Chains.{Chain, Patching, head, loop_words, part_of, patched_words, words_of_parts}
use Rattle.chain_model.proofs.Words.{length-loop}

split_parts : (parts : List PartWords) (k : ℕ) (other : PartWords) → k < length parts →
    words_of_parts parts ≡ words_of_parts (take k parts) ++ ((slice_index_or parts k other).words ++ words_of_parts (drop (suc k) parts))
split_parts [] k other lt = absurd (omega arith)
split_parts (part ∷ rest) zero other lt = refl
split_parts (part ∷ rest) (suc k) other lt =
    ap (λ (words : List ℕ). part.words ++ words) (split_parts rest k other (omega arith))
    ∙ sym
    (append_assoc part.words (words_of_parts (take k rest)) ((slice_index_or rest k other).words ++ words_of_parts (drop (suc k) rest)))

module _ (chain : Chain) (patching : Patching) (part : ℕ) where
  abbrev pub words_before : List ℕ
  words_before = loop_words chain 0 patching ++ words_of_parts (take part chain.parts)

  abbrev pub words_after : List ℕ
  words_after = words_of_parts (drop (suc part) chain.parts)

  pub part_split : part < length chain.parts → patched_words chain patching ≡ words_before ++ ((part_of chain part).words ++ words_after)
  part_split there =
      ap (λ (words : List ℕ). loop_words chain 0 patching ++ words) (split_parts chain.parts part (record { slot = 0; words = [] }) there)
      ∙ sym
      (append_assoc (loop_words chain 0 patching) (words_of_parts (take part chain.parts)) ((part_of chain part).words ++ words_after))

  pub head_there : length patching ≡ chain.slots → head chain part ≡ chain.base + 4 * length words_before
  head_there long =
      let loop = length-loop chain 0 patching in
      let both = length-append (loop_words chain 0 patching) (words_of_parts (take part chain.parts)) in
      omega arith

-- ---- instructions that are somewhere in a program

module _ (program : RiscProgram) (before after : List ℕ) (instrs : List Instr) (begin : ℕ)
    (split : program.spans ≡ spans_of program.base (before ++ (words_of instrs ++ after)))
    (at_begin : begin ≡ program.base + 4 * length before) (fine : Each (IsFineInstr program) instrs) where
  pub fine_there : (address : ℕ) (at : IsAt begin instrs address) → IsFineInstr program at.instr
  fine_there address at = each_at (IsFineInstr program) at.before at.instr at.after (subst (Each (IsFineInstr program)) at.split fine)

  regrouped : (a b c e f : List ℕ) → a ++ ((b ++ (c ++ e)) ++ f) ≡ (a ++ b) ++ (c ++ (e ++ f))
  regrouped a b c e f = simp append_assoc

  words_there : (address : ℕ) (at : IsAt begin instrs address) →
      program.spans ≡ spans_of program.base ((before ++ words_of at.before) ++ (encoded at.instr ++ (words_of at.after ++ after)))
  words_there address at =
      split
      ∙ ap (λ (words : List ℕ). spans_of program.base (before ++ (words ++ after)))
      (ap words_of at.split ∙ words_split at.before at.instr at.after)
      ∙ ap (spans_of program.base) (regrouped before (words_of at.before) (encoded at.instr) (words_of at.after) after)

  address_there : (address : ℕ) (at : IsAt begin instrs address) → address ≡ program.base + 4 * length (before ++ words_of at.before)
  address_there address at =
      let here = at.at in
      let both = length-append before (words_of at.before) in omega arith

  pub fetch_there : (address : ℕ) (at : IsAt begin instrs address) → fetch program address ≡ Ok (at.instr, length (encoded at.instr))
  fetch_there address at =
      fetched_at program (before ++ words_of at.before) (words_of at.after ++ after) at.instr address (words_there address at)
      (address_there address at)
      (fine_there address at).spelled

  pub word_at_there : (address : ℕ) (at : IsAt begin instrs address) → is_word program address ≡ true
  word_at_there address at =
      let front = before ++ words_of at.before in
      let words : List ℕ = front ++ (encoded at.instr ++ (words_of at.after ++ after)) in
      let all : length words ≡ length front + (length (encoded at.instr) + length (words_of at.after ++ after)) =
      split_length front (encoded at.instr) (words_of at.after ++ after) in
      let some = (fine_there address at).some in
      ap (is_word program) (address_there address at) ∙ word_there program words (length front) (words_there address at) (omega arith)

  -- the instruction after one at an address
  pub following : (address : ℕ) (at : IsAt begin instrs address) (next : Instr) (rest : List Instr) → at.after ≡ next ∷ rest →
      IsAt begin instrs (address + 4 * length (encoded at.instr))
  following address at next rest more =
      let here = at.at in
      let longer : length (words_of (at.before ++ at.instr ∷ [])) ≡ length (words_of at.before) + (length (encoded at.instr) + 0) =
      ap length (words_split at.before at.instr []) ∙ split_length (words_of at.before) (encoded at.instr) [] in
      record {
        before = at.before ++ at.instr ∷ [];
        instr = next;
        after = rest;
        split =
            at.split ∙ ap (λ (after : List Instr). at.before ++ at.instr ∷ after) more
            ∙ sym (append_assoc at.before (at.instr ∷ []) (next ∷ rest));
        at = omega arith;
      }
