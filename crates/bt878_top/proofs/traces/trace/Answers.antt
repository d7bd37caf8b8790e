use Rattle.command_steps.proofs.Sequence.{takes_behind}
use Rattle.std.proofs.Common.{◌≡◌, ℕ, List, [], sym, subst, refl, ◌∷◌}
use Rattle.bt878_words.specs.declared.Task.TheVariants.{Trace}
use Rattle.machine_model.specs.States.{State}
use Rattle.command_inputs.specs.Programs.{a_sound_program}
use Rattle.command_steps.specs.Inputs.{OfInput}
use Rattle.kept_stream.specs.Kept.{a_kept_stream}
use Rattle.bt878_contract.specs.Tasks.{IsProduct}
use Rattle.trace_play.specs.Playing.{Playing, begun, text_left}
use Rattle.bt878_top.proofs.Playing.{both_taken, second_stops, still_told, first_stops}
use Rattle.bt878_top.proofs.Products.{TracesAll, kept_traced, trace_made}
use Rattle.bt878_top.proofs.traces.trace.Goals as goal

pub returns-in_err-accepted-clause-takes : goal.returns-in_err-accepted-clause-takes
returns-in_err-accepted-clause-takes g c =
    let see = g.D.Desk.seen in
    first_stops (a_sound_program c.args.program.now) (a_kept_stream c.args.stream.now) c.from_residual.result c.in_err-accepted.field-0.0
    (see c.args.desk.now) (see c.accept.new.desk) c.from_residual.ensures.1 c.in_err-accepted.ensures.takes

pub returns-in_err-kept-clause-takes : goal.returns-in_err-kept-clause-takes
returns-in_err-kept-clause-takes g c =
    let see = g.D.Desk.seen in
    second_stops (a_sound_program c.args.program.now) (a_kept_stream c.args.stream.now) c.from_residual-in_err-kept.result
    c.in_err-kept.field-0.0 (see c.args.desk.now) (see c.accept.new.desk) (see c.keep_stream.new.desk)
    c.from_residual-in_err-kept.ensures.1 refl c.in_ok-accepted.ensures.takes c.in_err-kept.ensures.takes

-- memory runs out behind both inputs
pub returns-in_err-machine-clause-takes : goal.returns-in_err-machine-clause-takes
returns-in_err-machine-clause-takes g c =
    let see = g.D.Desk.seen in
    let one = a_sound_program c.args.program.now in
    let two = a_kept_stream c.args.stream.now in
    takes_behind one (two ∷ []) (see c.args.desk.now)
    (see c.keep_stream.new.desk) [] c.from_residual-in_err-machine.result c.from_residual-in_err-machine.ensures.1 (refl, (refl, tt))
    (both_taken one two (see c.args.desk.now) (see c.accept.new.desk)
    (see c.keep_stream.new.desk) c.in_ok-accepted.ensures.takes c.in_ok-kept.ensures.takes)

pub returns-clause-takes : goal.returns-clause-takes
returns-clause-takes g c =
    let see = g.D.Desk.seen in
    both_taken (a_sound_program c.args.program.now) (a_kept_stream c.args.stream.now) (see c.args.desk.now) (see c.accept.new.desk)
    (see c.keep_stream.new.desk) c.in_ok-accepted.ensures.takes c.in_ok-kept.ensures.takes

pub returns-clause-makes : goal.returns-clause-makes
returns-clause-makes g c =
    let old = (g.D.Desk.seen c.args.desk.now).told in
    let mid = (g.D.Desk.seen c.accept.new.desk).told in
    let loaded = c.in_ok-accepted.field-0 in
    let m = c.in_ok-machine.machine in
    let kept : List ℕ = c.in_ok-kept.kept in
    let is =
    still_told c.args.stream.now old mid (λ content. content ≡ kept) (λ content. content ≡ kept) c.in_ok-accepted.ensures.takes.told
    (λ content e. e) c.in_ok-kept.ensures.kept in
    subst (λ (p : Playing). IsProduct (Trace c.args.program c.args.stream) old.inputs (record { files = []; text = text_left p }))
    (sym c.new.ensures)
    (trace_made c.args.program c.args.stream old.inputs loaded.accepted loaded.fill
    (text_left (begun m kept)) c.in_ok-accepted.ensures.accepts
    (subst (λ (s : State). OfInput c.args.stream.now old.inputs (λ content. TracesAll content s (text_left (begun m kept))))
    c.in_ok-machine.ensures
    (kept_traced c.args.stream.now old.inputs m kept c.in_ok-kept.ensures.whole is)))
