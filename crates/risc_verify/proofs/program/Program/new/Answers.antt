use Rattle.std.proofs.Common.{sym, subst, List}
use Rattle.machine_model.specs.Paths.{IsProgram, Span}
use Rattle.machine_model.proofs.OneSpan.{one_span-made}
use Rattle.risc_verify.proofs.program.Program.new.Goals as goal

pub invariant_of-result : goal.invariant_of-result
invariant_of-result c =
    subst (λ (spans : List Span). IsProgram (record { base = c.args.base; spans = spans; grants = c.args.grants }))
    (sym c.one.ensures.value)
    (one_span-made c.args.base c.args.words.items c.args.grants c.requires.aligned c.ranges.base.fits c.requires.few c.requires.ends
    c.one.ensures.fit c.len-chunks.ensures.grants c.requires.apart)
