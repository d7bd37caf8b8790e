use Rattle.risc_asm.proofs.Judging.{begun_nowhere}
use Rattle.risc_asm.proofs.judge.begun_by_base.Goals as goal

pub returns : goal.returns
returns c = begun_nowhere c.args.text.now
