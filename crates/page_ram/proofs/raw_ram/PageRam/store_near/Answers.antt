use Rattle.std.proofs.Common.{arith, length, sym, ap, subst, ◌∙◌}
use Rattle.page_table.specs.Grants.{AreGrants}
use Rattle.page_table.specs.Blocks.{stored_run}
use Rattle.page_ram.specs.Extents.{extent_chunks, laid, AreCut, StandsRun}
use Rattle.page_ram.proofs.Extents.{cut_grants}
use Rattle.page_ram.proofs.Runs.{run_written}
use Rattle.page_ram.proofs.raw_ram.PageRam.store_near.Goals as goal

pub run_in-requires-clause-grants : goal.run_in-requires-clause-grants
run_in-requires-clause-grants c =
    subst (λ es. AreGrants (extent_chunks es)) (sym c.deref.ensures.value)
    (cut_grants c.self.inside.block c.self.inside.extents.items c.self.invariant)

pub set_run-requires : goal.set_run-requires
set_run-requires c =
    let stands =
    subst (λ es. StandsRun es c.from-near.result c.args.addr (length c.args.bytes.now) c.in-Some.index) c.deref.ensures.value
    c.in-Some.ensures.found in
    let written =
    run_written c.self.inside.block c.self.inside.extents.items c.from-near.result c.args.addr c.in-Some.index c.args.bytes.now
    (λ k. (c.type_inv.bytes k).fits) c.self.invariant stands in
    let inside = written.inside in
    let small = (cut_grants c.self.inside.block c.self.inside.extents.items c.self.invariant).small in
    record { within = inside; small = omega (arith, inside, small, c.self.invariant.long) }

pub invariant_of-self : goal.invariant_of-self
invariant_of-self c =
    let stands =
    subst (λ es. StandsRun es c.from-near.result c.args.addr (length c.args.bytes.now) c.in-Some.index) c.deref.ensures.value
    c.in-Some.ensures.found in
    let written =
    run_written c.self.inside.block c.self.inside.extents.items c.from-near.result c.args.addr c.in-Some.index c.args.bytes.now
    (λ k. (c.type_inv.bytes k).fits) c.self.invariant stands in
    subst (λ bytes. AreCut bytes c.self.inside.extents.items) (sym c.set_run.ensures) written.cut

pub returns-in-Some-clause-stored : goal.returns-in-Some-clause-stored
returns-in-Some-clause-stored c _ =
    let stands =
    subst (λ es. StandsRun es c.from-near.result c.args.addr (length c.args.bytes.now) c.in-Some.index) c.deref.ensures.value
    c.in-Some.ensures.found in
    let written =
    run_written c.self.inside.block c.self.inside.extents.items c.from-near.result c.args.addr c.in-Some.index c.args.bytes.now
    (λ k. (c.type_inv.bytes k).fits) c.self.invariant stands in
    ap (λ bytes. laid bytes c.self.inside.extents.items) c.set_run.ensures ∙ sym written.memory
    ∙ ap (λ m. stored_run m c.args.addr c.args.bytes.now) c.self.view_is
