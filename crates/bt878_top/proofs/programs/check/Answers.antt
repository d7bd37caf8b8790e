use Rattle.std.proofs.Common.{ℕ, List, [], Ok, Err, true, sym, refl}
use Rattle.capture_file.specs.Programs.{program_of}
use Rattle.command_inputs.specs.Checked.{FindsIn, a_shown_description}
use Rattle.command_inputs.specs.Programs.{Accepts, a_sound_program}
use Rattle.command_inputs.proofs.Showing.{shown_taken}
use Rattle.bt878_top.proofs.Playing.{both_taken, second_stops, still_told, first_stops}
use Rattle.bt878_top.proofs.Products.{check_made}
use Rattle.bt878_top.proofs.programs.check.Goals as goal

pub returns-in_err-loaded-clause-takes : goal.returns-in_err-loaded-clause-takes
returns-in_err-loaded-clause-takes g c =
    let see = g.D.Desk.seen in
    first_stops (a_sound_program c.args.program.now) (a_shown_description c.args.program.now c.args.desc.now) c.from_residual.result
    c.in_err-loaded.field-0.0 (see c.args.desk.now) (see c.accept.new.desk) c.from_residual.ensures.1 c.in_err-loaded.ensures.takes

pub returns-in_err-text-clause-takes : goal.returns-in_err-text-clause-takes
returns-in_err-text-clause-takes g c =
    let old = g.D.Desk.seen c.args.desk.now in
    let mid = g.D.Desk.seen c.accept.new.desk in
    let new = g.D.Desk.seen c.shown_file.new.desk in
    let loaded = c.in_ok-loaded.loaded in
    let P = λ (bytes : List ℕ). Accepts (program_of bytes) loaded.accepted loaded.fill in
    let refusal = c.in_err-text.field-0.0 in
    let reads =
    still_told c.args.program.now mid.told old.told P P (sym c.in_ok-loaded.ensures.takes.told)
    (λ bytes is. is) c.in_ok-loaded.ensures.accepts in
    second_stops (a_sound_program c.args.program.now) (a_shown_description c.args.program.now c.args.desc.now)
    c.from_residual-in_err-text.result refusal old mid new c.from_residual-in_err-text.ensures.1 refl c.in_ok-loaded.ensures.takes
    (shown_taken c.args.program.now c.args.desc.now loaded.accepted loaded.fill mid new reads {A = ℕ} []
    (Err refusal) c.in_err-text.ensures.takes)

pub returns-clause-takes : goal.returns-clause-takes
returns-clause-takes g c =
    let old = g.D.Desk.seen c.args.desk.now in
    let mid = g.D.Desk.seen c.accept.new.desk in
    let new = g.D.Desk.seen c.shown_file.new.desk in
    let loaded = c.in_ok-loaded.loaded in
    let P = λ (bytes : List ℕ). Accepts (program_of bytes) loaded.accepted loaded.fill in
    let reads =
    still_told c.args.program.now mid.told old.told P P (sym c.in_ok-loaded.ensures.takes.told)
    (λ bytes is. is) c.in_ok-loaded.ensures.accepts in
    both_taken (a_sound_program c.args.program.now)
    (a_shown_description c.args.program.now c.args.desc.now) old mid new c.in_ok-loaded.ensures.takes
    (shown_taken c.args.program.now c.args.desc.now loaded.accepted loaded.fill mid new reads {A = ℕ} [] (Ok 0) c.in_ok-text.ensures.takes)

pub returns-clause-makes : goal.returns-clause-makes
returns-clause-makes g c =
    let old = (g.D.Desk.seen c.args.desk.now).told in
    let mid = (g.D.Desk.seen c.accept.new.desk).told in
    let loaded = c.in_ok-loaded.loaded in
    let P = λ (bytes : List ℕ). FindsIn loaded.accepted bytes true c.in_ok-text.text in
    check_made c.args.program c.args.desc old.inputs loaded.accepted loaded.fill c.in_ok-text.text c.in_ok-loaded.ensures.accepts
    (still_told c.args.desc.now old mid P P c.in_ok-loaded.ensures.takes.told (λ bytes is. is) c.in_ok-text.ensures.shown)
