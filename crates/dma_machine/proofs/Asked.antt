-- What is still asked of the queues stays granted, and a part of it is granted where the whole is.
use Rattle.std.proofs.Common.{◌≡◌, ℕ, zero, suc, ◌+◌, ◌≤◌, List, Option, Some, None, refl, ap, ◌∙◌, arith, if◌then◌else◌}
use Rattle.fifo_model.specs.declared.Queue.{Queue}
use Rattle.page_table.specs.Blocks.{Block, chunks_of}
use Rattle.page_table.specs.Grants.{Chunk, first_ungranted}
use Rattle.machine_model.specs.declared.Demands.{Demands}
use Rattle.machine_model.specs.Paths.{range_cause, demands_cause}
use Rattle.machine_model.specs.Turns.{demand_on, with_demand, demand_less, Store, stored_all}
use Rattle.machine_model.proofs.Demanded.{written-IsRange, IsRange-written, demand_less-granted, demand-granted, with_demand-granted}
use Rattle.machine_model.proofs.Memory.{chunks-stored_all}
use Rattle.machine_model.proofs.Ranges.{first_granted}

front_granted : (grants : List Chunk) (address count all : ℕ) → count ≤ all → first_ungranted grants address all ≡ None →
    first_ungranted grants address count ≡ None
front_granted grants address zero all le h = refl
front_granted grants address (suc count) zero le h = absurd (omega arith)
front_granted grants address (suc count) (suc all) le h =
    let parts = first_granted grants address all h in
    ap (λ b. if b then first_ungranted grants (address + 1) count else Some address) parts.0
    ∙ front_granted grants (address + 1) count all (omega arith) parts.1

front_written : (grants : List Chunk) (address : Option ℕ) (count all : ℕ) → count ≤ all → range_cause grants address all ≡ None →
    range_cause grants address count ≡ None
front_written grants None count all le h = refl
front_written grants (Some address) count all le h =
    let range = written-IsRange grants address all h in
    let ends = range.ends in
    IsRange-written grants address count (record { ends = omega arith; whole = front_granted grants address count all le range.whole })

-- the first bytes of what is asked of a queue
pub part-written : (grants : List Chunk) (q : Queue) (ds : Demands) (count : ℕ) → count ≤ (demand_on q ds).rest →
    demands_cause grants ds ≡ None →
    range_cause grants (demand_on q ds).address count ≡ None
part-written grants q ds count le h =
    front_written grants (demand_on q ds).address count (demand_on q ds).rest le (demand-granted grants q ds h)

-- what is left to ask
pub rest-granted : (memory after : List Block) (stores : List Store) (q : Queue) (ds : Demands) (count : ℕ) →
    after ≡ stored_all memory stores →
    count ≤ (demand_on q ds).rest → demands_cause (chunks_of memory) ds ≡ None →
    demands_cause (chunks_of after) (with_demand q (demand_less count (demand_on q ds)) ds) ≡ None
rest-granted memory after stores q ds count made le h =
    ap (λ grants. demands_cause grants (with_demand q (demand_less count (demand_on q ds)) ds))
    (ap chunks_of made ∙ chunks-stored_all memory stores)
    ∙ with_demand-granted (chunks_of memory) q (demand_less count (demand_on q ds)) ds
    (demand_less-granted (chunks_of memory) (demand_on q ds) count le (demand-granted (chunks_of memory) q ds h)) h
