use Rattle.std.proofs.Common.{sym}
use Rattle.risc_text.specs.Assembly.{IsListed}
use Rattle.risc_asm.proofs.Judging.{begins_all, begins_none}
use Rattle.risc_asm.proofs.judge.judge_program.Goals as goal
use Rattle.risc_asm.proofs.judge.judge_program.Goals.{in-Whole, in-Alike, then-number-text, else-number-text}

pub returns : goal.returns
returns c =
    let text = c.args.text.now in
    let told = c.in_ok-agreement.ensures in
    let listed_is : IsListed c.args.program c.args.fill = record { made = told.made; fill_small = told.fill } in
    elim c.match-agreement.branch [
      | in-Whole w ↦ rw w.result-is (listed_is, sym (rw w.in-Whole.is at told.value))
      | in-Alike w ↦
          let alike = rw w.in-Alike.is at told.value in
          rw w.result-is (elim w.if-number-text.branch [
            | then-number-text v ↦
                rw v.result-is (begins_all text c.args.program c.args.fill _ listed_is c.requires alike v.if-number-text.true)
            | else-number-text v ↦ rw v.result-is
                (begins_none text c.args.program c.args.fill _ listed_is c.requires alike (λ same. v.if-number-text.false same))
          ])
    ]
