use Rattle.std.proofs.Common.{ℕ, subst, sym}
use Rattle.risc_asm.specs.Verdicts.{IsToldBy}
use Rattle.risc_asm.proofs.Judging.{base_told, no_base_program}
use Rattle.risc_asm.proofs.judge.judge_base.Goals as goal

pub judge_program-requires : goal.judge_program-requires
judge_program-requires c =
    let finds = rw c.deref.ensures.value at c.in_ok-program.ensures.program in
    subst (λ (fill : ℕ). IsToldBy c.args.text.now c.in-Ok.program fill) (sym c.unwrap_or.ensures)
    (base_told c.args.text.now c.args.base c.args.words.items c.args.chunks.items c.args.fill c.in_ok-program.field-0 c.in-Ok.program
    c.requires.drafted c.requires.some finds c.in-Ok.is)

pub returns-in_ok-number-in-Err : goal.returns-in_ok-number-in-Err
returns-in_ok-number-in-Err c = (
  c.in_ok-number-in-Err.ensures,
  no_base_program c.args.text.now c.args.base c.args.words.items c.args.chunks.items c.args.fill _ c.requires.drafted c.requires.some
      (rw (c.deref.ensures.value, c.in-Err.is) at c.in_ok-program.ensures.program),
)
