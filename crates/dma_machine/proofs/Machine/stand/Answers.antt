use Rattle.std.proofs.Common.{◌≡◌, ℕ, true, ◌-◌, ◌<◌, ◌≤◌, ◌^◌, ap, sym, ◌∙◌, arith}
use Rattle.fifo_model.specs.Queues.{more}
use Rattle.machine_model.specs.States.{State}
use Rattle.dma_machine.specs.Counts.{acted_times, with_turns}
use Rattle.dma_machine.specs.Stills.{is_still}
use Rattle.dma_machine.proofs.Standing.{is_still-turns, still_acted}
use Rattle.dma_machine.proofs.Turns.{run_counted, still_times}
use Rattle.dma_machine.proofs.Machine.stand.Goals as goal

few_before : (s m : State) → s ≡ m → s.turns < 2 ^ 64 → m.turns ≤ 2 ^ 64 - 1
few_before s m same few = let turns = ap (λ (x : State). x.turns) same in omega (arith, turns, few)

counted_still : (m after : State) (count : ℕ) → is_still m ≡ true → after ≡ with_turns (more m.turns count) m → is_still after ≡ true
counted_still m after count still e = ap is_still e ∙ (is_still-turns (more m.turns count) m ∙ still)

pub stay-requires : goal.stay-requires
stay-requires g c =
    counted_still c.know_still.new.self c.count.new.self c.args.count (ap is_still c.know_still.ensures ∙ c.requires) c.count.ensures.state

pub returns-clause-state : goal.returns-clause-state
returns-clause-state g c =
    let n = c.args.count in
    let m = c.args.self.now in
    let counted : c.count.new.self ≡ with_turns (more m.turns n) m =
    c.count.ensures.state ∙ ap (λ s. with_turns (more s.turns n) s) c.know_still.ensures in
    let still = counted_still m c.count.new.self n c.requires counted in
    c.stay.ensures
    ∙ sym (still_times n c.count.new.self (still_acted c.count.new.self still))
    ∙ ap (acted_times n) counted
    ∙ sym (run_counted n m (few_before c.know_still.new.self m c.know_still.ensures c.count.ensures.few))
