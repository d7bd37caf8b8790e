use Rattle.std.proofs.Common.{arith}
use Rattle.planar_plan.proofs.Stretching.{place_below}
use Rattle.planar_plan.proofs.stretch.piece_in.Goals as goal

pub address_at-requires : goal.address_at-requires
address_at-requires c =
    place_below c.args.stretches.now.one.address c.args.span.from c.args.line.now.grains c.args.stretches.now.one.step
    (omega (arith, c.requires.some, c.requires.within)) c.requires.fit.0.1

pub address_at-requires-2 : goal.address_at-requires-2
address_at-requires-2 c =
    place_below c.args.stretches.now.two.address c.args.span.from c.args.line.now.grains c.args.stretches.now.two.step
    (omega (arith, c.requires.some, c.requires.within)) c.requires.fit.1.1

pub address_at-requires-3 : goal.address_at-requires-3
address_at-requires-3 c =
    place_below c.args.stretches.now.three.address c.args.span.from c.args.line.now.grains c.args.stretches.now.three.step
    (omega (arith, c.requires.some, c.requires.within)) c.requires.fit.2.1
