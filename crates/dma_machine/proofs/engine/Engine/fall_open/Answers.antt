use Rattle.std.proofs.Common.{ap, sym, subst, refl, ◌∙◌, arith}
use Rattle.fifo_model.specs.Queues.{more}
use Rattle.dma_machine.specs.Counts.{with_turns}
use Rattle.dma_machine.specs.FallThrough.{fallen_through, put_down}
use Rattle.dma_machine.specs.Needs.{CanWork}
use Rattle.dma_machine.specs.Stills.{StandsAs, is_open}
use Rattle.dma_machine.specs.Views.{job_of, state_of}
use Rattle.dma_machine.proofs.OpenFalls.{all_on, falls_open, falls_run, open_behind, open_running}
use Rattle.dma_machine.proofs.engine.Engine.fall_open.Goals as goal

pub put_dword-requires-clause-running : goal.put_dword-requires-clause-running
put_dword-requires-clause-running g c =
    let m = c.args.self.now in
    let before = state_of g.R.Ram.memory m in
    let fits = c.if-not-falls_open.ensures refl in
    open_running m.phase m.wait m.instr m.demands before refl (subst (λ noted. StandsAs noted before) fits.stands c.requires.stands)

pub put_dword-requires-clause-on : goal.put_dword-requires-clause-on
put_dword-requires-clause-on g c =
    let m = c.args.self.now in
    let before = state_of g.R.Ram.memory m in
    let fits = c.if-not-falls_open.ensures refl in
    let opened = subst (λ noted. StandsAs noted before) fits.stands c.requires.stands in
    let running = open_running m.phase m.wait m.instr m.demands before refl opened in
    m.lanes
    ∙ all_on c.args.q c.args.entry.now before m.instr m.demands (ap (λ phase. job_of phase m.wait m.instr m.demands) running)
    opened fits.plain fits.more

pub put_dword-requires-clause-asked : goal.put_dword-requires-clause-asked
put_dword-requires-clause-asked g c = let fits = c.if-not-falls_open.ensures refl in omega (arith, fits.more)

pub put_dword-requires-clause-within : goal.put_dword-requires-clause-within
put_dword-requires-clause-within g c =
    let m = c.args.self.now in
    let before = state_of g.R.Ram.memory m in
    let fits = c.if-not-falls_open.ensures refl in
    let running =
    open_running m.phase m.wait m.instr m.demands before refl (subst (λ noted. StandsAs noted before) fits.stands c.requires.stands) in
    (subst (λ phase. CanWork (job_of phase m.wait m.instr m.demands) before) running c.requires.can).within

pub returns-clause-falls : goal.returns-clause-falls
returns-clause-falls g c = λ _.
    let m = c.args.self.now in
    let before = state_of g.R.Ram.memory m in
    let fits = c.if-not-falls_open.ensures refl in
    let opened = subst (λ noted. StandsAs noted before) fits.stands c.requires.stands in
    let running = open_running m.phase m.wait m.instr m.demands before refl opened in
    falls_open c.args.q c.args.entry.now before m.instr m.demands (ap (λ phase. job_of phase m.wait m.instr m.demands) running)
    opened fits.plain fits.more

pub returns-clause-state : goal.returns-clause-state
returns-clause-state g c = λ _.
    let m = c.args.self.now in
    let before = state_of g.R.Ram.memory m in
    let fits = c.if-not-falls_open.ensures refl in
    let opened = subst (λ noted. StandsAs noted before) fits.stands c.requires.stands in
    let running = open_running m.phase m.wait m.instr m.demands before refl opened in
    let turns = c.saturating_add-self.result in
    c.put_dword.ensures.state
    ∙ ap (λ bytes. put_down c.args.q 4 m.instr m.demands 0 bytes (with_turns turns before)) c.to_le_bytes.ensures
    ∙ ap (λ n. with_turns n (fallen_through c.args.q m.instr m.demands c.args.entry.now before))
    (c.saturating_add-self.ensures ∙ ap (more m.turns) c.from.ensures)
    ∙ falls_run c.args.q c.args.entry.now before m.instr m.demands (ap (λ phase. job_of phase m.wait m.instr m.demands) running)
    opened fits.plain fits.more c.args.count fits.some (omega arith) c.requires.orderly

pub returns-clause-stands : goal.returns-clause-stands
returns-clause-stands g c =
    let m = c.args.self.now in
    let before = state_of g.R.Ram.memory m in
    let fits = c.if-not-falls_open.ensures refl in
    let opened = subst (λ noted. StandsAs noted before) fits.stands c.requires.stands in
    let running = open_running m.phase m.wait m.instr m.demands before refl opened in
    let turns = c.saturating_add-self.result in
    subst (λ noted. StandsAs noted (state_of g.R.Ram.memory c.put_dword.new.self)) (sym (c.put_dword.ensures.stands ∙ fits.stands))
    (ap is_open
    (c.put_dword.ensures.state
    ∙ ap (λ bytes. put_down c.args.q 4 m.instr m.demands 0 bytes (with_turns turns before)) c.to_le_bytes.ensures)
    ∙ open_behind c.args.q c.args.entry.now before m.instr m.demands (ap (λ phase. job_of phase m.wait m.instr m.demands) running)
    opened fits.plain fits.more)
