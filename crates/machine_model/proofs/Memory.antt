-- The stores of a turn keep the chunks of memory.
use Rattle.std.proofs.Common.{◌≡◌, List, [], ◌∷◌, refl, ◌∙◌}
use Rattle.page_table.specs.Blocks.{Block, chunks_of, stored}
use Rattle.page_table.proofs.Memory.{chunks_of-stored}
use Rattle.machine_model.specs.Turns.{Store, stored_all}

pub chunks-stored_all : (memory : List Block) (stores : List Store) → chunks_of (stored_all memory stores) ≡ chunks_of memory
chunks-stored_all memory [] = refl
chunks-stored_all memory (store ∷ stores) =
    chunks-stored_all (stored memory store.address store.byte) stores ∙ chunks_of-stored memory store.address store.byte
