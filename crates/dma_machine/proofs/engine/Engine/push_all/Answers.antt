use Rattle.std.proofs.Common.{ap, ◌∙◌, arith}
use Rattle.machine_model.specs.Steps.{push}
use Rattle.dma_machine.specs.Views.{state_of}
use Rattle.dma_machine.proofs.PlainPushes.{next_left, none_left}
use Rattle.dma_machine.proofs.engine.Engine.push_all.Goals as goal

pub loop-at-preserved : goal.loop-at-preserved
loop-at-preserved g c = (
  let more = c.loop-at-test.true in omega (arith, more),
  λ entries all fits.
      let known = c.loop-at.invariant.1 entries all fits in
      let more = c.loop-at-test.true in
      let next =
      next_left c.args.q entries c.args.dwords.now c.loop-at.at c.from_le_bytes-dword.result
      (state_of g.R.Ram.memory c.args.self.now) (state_of g.R.Ram.memory c.loop-at.self) (state_of g.R.Ram.memory c.push.new.self) known.0
      (record { dwords = known.1; fits = known.2; same = known.3 }) (omega (arith, more))
      c.from_le_bytes-dword.ensures
      (c.push.ensures.state ∙ ap (λ status. push c.args.q (record { status = status; dword = c.from_le_bytes-dword.result })
      (state_of g.R.Ram.memory c.loop-at.self)) c.of-status.ensures) in
      (next.0, next.1.dwords, next.1.fits, next.1.same),
)

pub returns : goal.returns
returns g c = λ entries all fits.
    let known = c.loop-at.invariant.1 entries all fits in
    none_left c.args.q entries c.args.dwords.now c.loop-at.at _ _ known.0
    (record { dwords = known.1; fits = known.2; same = known.3 }) c.loop-at-test.false
