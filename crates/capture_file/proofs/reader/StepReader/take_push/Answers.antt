use Rattle.capture_file.specs.declared.Step.TheVariants.{Push}
use Rattle.capture_file.proofs.Fronts.{takes-some}
use Rattle.capture_file.proofs.reader.StepReader.take_push.Goals as goal

pub returns-clause-some : goal.returns-clause-some
returns-clause-some c =
    let e = c.push_front.ensures in
    takes-some
    (λ push. Push push.0 push.1) 6 c.args.self.now c.push_front.new.self c.args.piece.now c.push_front.result e.valid e.some e.fits
