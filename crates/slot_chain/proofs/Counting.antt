-- How many words the first parts have.
use Rattle.std.proofs.Common.{◌≡◌, ℕ, ◌+◌, ◌*◌, ◌≤◌, List, length, take}
use Rattle.machine_model.specs.Paths.{max_words}
use Rattle.chain_model.specs.declared.PartWords.{PartWords}
use Rattle.chain_model.specs.Chains.{words_of_parts}

pub record IsCounted (slots : ℕ) (parts : List PartWords) (index count : ℕ) : Type 0 where
  pub counted : count ≡ 2 * slots + 2 + length (words_of_parts (take index parts))
  pub few : count ≤ max_words
