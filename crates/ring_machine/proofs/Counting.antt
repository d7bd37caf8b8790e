-- The blocks that are counted are those that are seen to end.
use Rattle.std.proofs.Common.{◌≡◌, ℕ, ◌+◌, ◌-◌, ◌^◌, ◌≤◌, true, false, List, [], ◌∷◌, Option, Some, None, refl, ap, ◌∙◌, arith}
use Rattle.irq_status.specs.declared.HostWrite.{HostWrite}
use Rattle.irq_status.specs.declared.HostWrite.TheVariants.{Ack, Enable, Trigger}
use Rattle.machine_model.specs.Seen.{seen}
use Rattle.machine_model.specs.States.{State}
use Rattle.machine_model.specs.Steps.{Control, Host, Push, Step, Turn, step}
use Rattle.ring_model.specs.Rings.{ends}
use Rattle.ring_model.specs.Runs.{block_ends_seen, end_seen, one_if, step_end_seen}
use Rattle.machine_watch.specs.Watches.{kept_after, next, written}
use Rattle.ring_machine.specs.States.{Counted, block_notes, counted}

-- where the count has room
counted_one : (block : Option ℕ) (k : Counted) → k.blocks + one_if block ≤ 2 ^ 64 - 1 → counted block k ≡ record k {
  blocks = k.blocks + one_if block;
}
counted_one (Some block) k room =
    let one : (counted (Some block) k).blocks ≡ k.blocks + 1 = omega (arith, room) in
    ap (λ (n : ℕ). record k { blocks = n }) one
counted_one None k room = let none : k.blocks ≡ k.blocks + 0 = omega arith in ap (λ (n : ℕ). record k { blocks = n }) none

none_ended : (k : Counted) → k ≡ record k { blocks = k.blocks + 0 }
none_ended k = let none : k.blocks ≡ k.blocks + 0 = omega arith in ap (λ (n : ℕ). record k { blocks = n }) none

host_ends_none : (write : HostWrite) (m : State) (k : Counted) → written block_notes write m k ≡ k
host_ends_none (Enable true risc) m k = refl
host_ends_none (Enable false risc) m k = refl
host_ends_none (Ack mask) m k = refl
host_ends_none (Trigger number) m k = refl

step_counts : (s : Step) (m : State) (k : Counted) → k.blocks + one_if (step_end_seen (ends k.ring) m s) ≤ 2 ^ 64 - 1 →
    next block_notes m s k ≡ record k { blocks = k.blocks + one_if (step_end_seen (ends k.ring) m s) }
step_counts Turn m k room = counted_one (end_seen (ends k.ring) (seen m)) k room
step_counts (Host write) m k room = host_ends_none write m k ∙ none_ended k
step_counts (Push q entry) m k room = none_ended k
step_counts (Control code) m k room = none_ended k

pub blocks_counted : (steps : List Step) (m : State) (k : Counted) → k.blocks + block_ends_seen (ends k.ring) m steps ≤ 2 ^ 64 - 1 →
    kept_after block_notes m steps k ≡ record k { blocks = k.blocks + block_ends_seen (ends k.ring) m steps }
blocks_counted [] m k room = none_ended k
blocks_counted (s ∷ steps) m k room =
    let here : ℕ = one_if (step_end_seen (ends k.ring) m s) in
    let later : ℕ = block_ends_seen (ends k.ring) (step s m) steps in
    let after : Counted = record k { blocks = k.blocks + here } in
    let sum : after.blocks + later ≡ k.blocks + (here + later) = omega arith in
    ap (kept_after block_notes (step s m) steps) (step_counts s m k (omega (arith, room)))
    ∙ blocks_counted steps (step s m) after (omega (arith, room))
    ∙ ap (λ (n : ℕ). record k { blocks = n }) sum
