use Rattle.std.proofs.Common.{◌≡◌, ◌∙◌, Ok, ap, sym}
use Rattle.machine_model.specs.Paths.{Place, fetch}
use Rattle.risc_verify.proofs.Judged.{judged}
use Rattle.risc_verify.proofs.judge.follow.Goals as goal

pub returns-clause-answer : goal.returns-clause-answer
returns-clause-answer c =
    let program = c.args.program.now in
    let r = c.in-Ok.read in
    let read : fetch program c.args.place.pc ≡ Ok r =
    ap (λ (p : Place). fetch program p.pc) (sym c.place.view_is) ∙ sym c.instr_on.ensures.value ∙ c.in-Ok.is in
    judged program c.args.place r.0 r.1 read c.next_after.result (λ next. next.place) c.next_after.ensures.answer
