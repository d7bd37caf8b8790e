use Rattle.std.proofs.Common.{◌∙◌, ◌<◌, ℕ, ap, arith, subst, sym}
use Rattle.std.specs.Prelude.{slice_index_or}
use Rattle.risc_asm.proofs.DigitTable.{small_in_table, table}
use Rattle.risc_asm.proofs.readers.digit.Goals as goal

pub returns-clause-small : goal.returns-clause-small
returns-clause-small c =
    subst (λ (n : ℕ). n < 16) (sym (c.from-2.ensures ∙ ap (λ (at : ℕ). slice_index_or table at 0) c.from.ensures))
    (small_in_table c.args.byte (omega arith))
