use Rattle.std.proofs.Common.{subst, sym, ◌∙◌}
use Rattle.bt878_words.specs.Words.{task_of}
use Rattle.bt878_contract.specs.Tasks.{Answers}
use Rattle.bt878_top.proofs.Statuses.{done_at_zero}
use Rattle.bt878_top.proofs.status.exit_status.Goals as goal

pub returns-clause-ends : goal.returns-clause-ends
returns-clause-ends g c = record { answer = c.bt878.result; answers = c.bt878.ensures.answers; of_answer = c.status.ensures }

pub returns-clause-done : goal.returns-clause-done
returns-clause-done g c e =
    let see = g.D.Desk.seen in
    subst (λ answer. Answers (task_of c.args.words.now) answer (see c.args.desk.now) (see c.bt878.new.desk))
    (done_at_zero c.bt878.result (sym c.status.ensures ∙ e)) c.bt878.ensures.answers
