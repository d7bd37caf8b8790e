use Rattle.std.proofs.Common.{arith}
use Rattle.bit_field.proofs.Replaced.{replaced_by_shifts, replaced_below, replaced_value, replaced_others}
use Rattle.bit_field.proofs.Field.put.Goals as goal

pub overflow_add-result : goal.overflow_add-result
overflow_add-result g c =
    rw (replaced_by_shifts g.row.LO g.row.W c.args.word c.args.value c.get.result (omega arith) c.requires.fits c.get.ensures)
    (record { fits = replaced_below g.row.LO g.row.W c.args.word c.args.value (omega arith) (omega arith) c.requires.fits })

pub returns-clause-word : goal.returns-clause-word
returns-clause-word g c =
    replaced_by_shifts g.row.LO g.row.W c.args.word c.args.value c.get.result (omega arith) c.requires.fits c.get.ensures

pub returns-clause-value : goal.returns-clause-value
returns-clause-value g c =
    rw (replaced_by_shifts g.row.LO g.row.W c.args.word c.args.value c.get.result (omega arith) c.requires.fits c.get.ensures)
    (replaced_value g.row.LO g.row.W c.args.word c.args.value c.requires.fits)

pub returns-clause-others : goal.returns-clause-others
returns-clause-others g c =
    rw (replaced_by_shifts g.row.LO g.row.W c.args.word c.args.value c.get.result (omega arith) c.requires.fits c.get.ensures)
    (replaced_others g.row.LO g.row.W c.args.word c.args.value c.requires.fits)
