use Rattle.capture_file.specs.declared.Step.TheVariants.{Turns}
use Rattle.capture_file.proofs.Fronts.{takes-some, turns-fit}
use Rattle.capture_file.proofs.reader.StepReader.take_turns.Goals as goal

pub returns-clause-some : goal.returns-clause-some
returns-clause-some c =
    let e = c.turns_front.ensures in
    takes-some Turns 5 c.args.self.now c.turns_front.new.self c.args.piece.now c.turns_front.result e.valid e.some
    (turns-fit c.turns_front.result)
