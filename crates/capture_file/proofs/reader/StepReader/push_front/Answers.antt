use Rattle.std.proofs.Common.{[], ◌≡◌, ◌∙◌, ap, arith}
use Rattle.capture_file.specs.declared.Step.TheVariants.{Push}
use Rattle.capture_file.specs.Readers.{HoldsAt, phase_of, taken}
use Rattle.capture_file.proofs.Fronts.{front-taken}
use Rattle.capture_file.proofs.reader.StepReader.push_front.Goals as goal

pub returns-clause-some : goal.returns-clause-some
returns-clause-some c =
    let i = c.self.inside in
    let between = c.in-Between.is in
    let holds : HoldsAt i.state i.held = c.self.invariant.1 in
    let none : i.held ≡ [] = rw between at holds in
    front-taken i.limit i.room i.turns i.chained c.args.piece.now c.in-Between.field-0 (Push c.in-Some.push.0 c.in-Some.push.1) 6
    (phase_of i.state) i.held i.turns (omega arith)
    (ap phase_of between) none c.self.invariant.0 c.if-piece-self.true c.in-Some.ensures.within
    (c.in-Some.ensures.some c.in-Between.field-0 c.self.inside.turns)
    ∙ ap (λ r. taken r c.args.piece.now) c.self.view_is
