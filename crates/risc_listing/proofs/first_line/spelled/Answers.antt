use Rattle.std.proofs.Common.{◌∙◌, sym, ap, arith, true, false}
use Rattle.std.specs.Prelude.{Some}
use Rattle.risc_listing.proofs.OneSpelling.{spelled_where}
use Rattle.risc_listing.proofs.first_line.spelled.Goals as goal

pub returns-then-is_plain-clause-value : goal.returns-then-is_plain-clause-value
returns-then-is_plain-clause-value c =
    ap (λ number. Some (c.in-Ok.instr, number)) c.from.ensures
    ∙ sym (spelled_where c.args.is_plain true c.args.words.now
    (λ k. let fits = c.type_inv.words k in omega arith) c.in-Ok.instr c.in-Ok.number c.in-Ok.ensures.value c.requires c.if-is_plain.true)

pub returns-else-is_plain-clause-value : goal.returns-else-is_plain-clause-value
returns-else-is_plain-clause-value c =
    sym (spelled_where c.args.is_plain false c.args.words.now
    (λ k. let fits = c.type_inv.words k in omega arith) c.in-Ok.instr c.in-Ok.number c.in-Ok.ensures.value c.requires c.if-is_plain.false)
