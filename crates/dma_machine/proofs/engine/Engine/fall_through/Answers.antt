use Rattle.std.proofs.Common.{ap, refl, sym, subst, ◌∙◌}
use Rattle.dma_machine.specs.FallThrough.{put_down}
use Rattle.dma_machine.specs.Needs.{CanWork}
use Rattle.dma_machine.specs.Views.{job_of, state_of}
use Rattle.dma_machine.proofs.FallThrough.{falls_acted, falls_running}
use Rattle.dma_machine.proofs.engine.Engine.fall_through.Goals as goal

pub put_down-requires-clause-running : goal.put_down-requires-clause-running
put_down-requires-clause-running g c =
    let m = c.args.self.now in
    falls_running m.phase m.wait m.instr m.demands c.args.q c.args.entry.status (state_of g.R.Ram.memory m) refl c.requires.falls

pub put_down-requires-clause-within : goal.put_down-requires-clause-within
put_down-requires-clause-within g c =
    let m = c.args.self.now in
    let running =
    falls_running m.phase m.wait m.instr m.demands c.args.q c.args.entry.status (state_of g.R.Ram.memory m) refl c.requires.falls in
    (subst (λ phase. CanWork (job_of phase m.wait m.instr m.demands) (state_of g.R.Ram.memory m)) running c.requires.can).within

pub returns-clause-state : goal.returns-clause-state
returns-clause-state g c =
    let m = c.args.self.now in
    let before = state_of g.R.Ram.memory m in
    let running = falls_running m.phase m.wait m.instr m.demands c.args.q c.args.entry.status before refl c.requires.falls in
    c.put_down.ensures.state
    ∙ ap (λ bytes. put_down c.args.q 4 m.instr m.demands 0 bytes before) c.to_le_bytes.ensures
    ∙ sym (falls_acted c.args.q c.args.entry before m.instr m.demands c.requires.orderly
    (ap (λ phase. job_of phase m.wait m.instr m.demands) running) c.requires.falls)
