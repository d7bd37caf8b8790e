-- What is granted stays granted under wider grants, so an instruction without a fault has none there.
use Rattle.std.proofs.Common.{◌≡◌, ℕ, zero, suc, ◌+◌, List, Option, Some, None, refl, ap, ◌∙◌, if◌then◌else◌}
use Rattle.risc_word.specs.declared.Instr.{Instr}
use Rattle.page_table.specs.Grants.{Chunk, first_ungranted}
use Rattle.machine_model.specs.declared.Demand.{Demand}
use Rattle.machine_model.specs.declared.Demands.{Demands}
use Rattle.machine_model.specs.Paths.{range_cause, demand_cause, demands_cause, demands_of, target_cause, data_cause, AreWithin}
use Rattle.machine_model.proofs.Places.{first-none, none-first}
use Rattle.machine_model.proofs.Ranges.{first_granted}
use Rattle.machine_model.proofs.Demanded.{written-IsRange, IsRange-written}

module _ (grants wider : List Chunk) (more : AreWithin grants wider) where
  range-wider : (address count : ℕ) → first_ungranted grants address count ≡ None → first_ungranted wider address count ≡ None
  range-wider address zero h = refl
  range-wider address (suc count) h =
      let parts = first_granted grants address count h in
      ap (λ here. if here then first_ungranted wider (address + 1) count else Some address) (more address parts.0)
      ∙ range-wider (address + 1) count parts.1

  cause-wider : (address : Option ℕ) (count : ℕ) → range_cause grants address count ≡ None → range_cause wider address count ≡ None
  cause-wider None count h = refl
  cause-wider (Some address) count h =
      let range = written-IsRange grants address count h in
      IsRange-written wider address count (record { ends = range.ends; whole = range-wider address count range.whole })

  demand-wider : (d : Demand) → demand_cause grants d ≡ None → demand_cause wider d ≡ None
  demand-wider d h = cause-wider d.address d.rest h

  pub demands-wider : (ds : Demands) → demands_cause grants ds ≡ None → demands_cause wider ds ≡ None
  demands-wider ds h =
      let one = first-none (demand_cause grants ds.one) _ h in
      let two = first-none (demand_cause grants ds.two) (demand_cause grants ds.three) one.1 in
      none-first _ _ (demand-wider ds.one one.0) (none-first _ _ (demand-wider ds.two two.0) (demand-wider ds.three two.1))

  pub data-wider : (instr : Instr) (target : Option ℕ) → data_cause grants instr target ≡ None → data_cause wider instr target ≡ None
  data-wider instr target h =
      let parts = first-none (target_cause instr target) (demands_cause grants (demands_of instr target)) h in
      none-first _ _ parts.0 (demands-wider (demands_of instr target) parts.1)
