-- Each clause follows from the clause `answers`.
use Rattle.bt878_words.specs.Words.{task_of}
use Rattle.bt878_contract.specs.Pictures.{EndsInTime, ShowsNoFault, ShowsPictures, ShowsSignalledPictures}
use Rattle.bt878_contract.specs.Rows.{HasArrivedRows, HoldsWholeRows}
use Rattle.bt878_contract.proofs.Pictures.{fields_end_in_time, fields_shown, no_fault_shown, pictures_shown, rows_arrived, whole_rows_held}
use Rattle.bt878_contract.specs.Rings.{RingsShowNoFault, ShowsRings}
use Rattle.bt878_contract.proofs.Rings.{no_fault_in_rings, rings_shown}
use Rattle.machine_model.specs.States.{first_state}
use Rattle.chain_law.specs.Runs.{LiveRunShowsNoFault, LiveRunShowsPictures, LiveRunSignalsInTime, LiveRunStaysInside}
use Rattle.bt878_contract.proofs.Consequences.{bad_input_comes, bad_input_must, completes, done_assemble, done_capture, done_captured}
use Rattle.bt878_contract.proofs.Consequences.{done_chain, done_check, done_compile, done_counts, done_damage, done_inside}
use Rattle.bt878_contract.proofs.Consequences.{done_fragments, done_help, done_list, done_live, done_live_rows, done_make, done_ring}
use Rattle.bt878_contract.proofs.Consequences.{done_run, done_sound}
use Rattle.bt878_contract.proofs.Consequences.{done_trace, done_verify, done_version, ends_at_fault, in_order, names_kept, others_untouched}
use Rattle.bt878_contract.proofs.Consequences.{read_fault_comes}
use Rattle.bt878_contract.proofs.Consequences.{first_missing_must, missing_must, read_fault_must, refused_only_says, short_ends}
use Rattle.bt878_contract.proofs.Consequences.{usage_comes, write_fault_comes, write_fault_stands}
use Rattle.bt878_top.proofs.call.bt878.Goals as goal

pub returns-clause-sound : goal.returns-clause-sound
returns-clause-sound g c =
    let see = g.D.Desk.seen in
    done_sound (task_of c.args.words.now) c.answer_words.result (see c.args.desk.now) (see c.answer_words.new.desk) c.answer_words.ensures

pub returns-clause-inside : goal.returns-clause-inside
returns-clause-inside g c =
    let see = g.D.Desk.seen in
    done_inside (task_of c.args.words.now) c.answer_words.result (see c.args.desk.now) (see c.answer_words.new.desk) c.answer_words.ensures

pub returns-clause-pictures : goal.returns-clause-pictures
returns-clause-pictures g c =
    let see = g.D.Desk.seen in
    done_captured ShowsPictures fields_shown (task_of c.args.words.now) c.answer_words.result (see c.args.desk.now)
    (see c.answer_words.new.desk) c.answer_words.ensures

pub returns-clause-signalled_pictures : goal.returns-clause-signalled_pictures
returns-clause-signalled_pictures g c =
    let see = g.D.Desk.seen in
    done_captured ShowsSignalledPictures pictures_shown (task_of c.args.words.now) c.answer_words.result (see c.args.desk.now)
    (see c.answer_words.new.desk) c.answer_words.ensures

pub returns-clause-checked : goal.returns-clause-checked
returns-clause-checked g c =
    let see = g.D.Desk.seen in
    done_check c.args.words.now c.answer_words.result (see c.args.desk.now) (see c.answer_words.new.desk) c.answer_words.ensures

pub returns-clause-no_fault_shown : goal.returns-clause-no_fault_shown
returns-clause-no_fault_shown g c =
    let see = g.D.Desk.seen in
    done_captured ShowsNoFault no_fault_shown (task_of c.args.words.now) c.answer_words.result (see c.args.desk.now)
    (see c.answer_words.new.desk) c.answer_words.ensures

pub returns-clause-in_time : goal.returns-clause-in_time
returns-clause-in_time g c =
    let see = g.D.Desk.seen in
    done_captured EndsInTime fields_end_in_time (task_of c.args.words.now) c.answer_words.result (see c.args.desk.now)
    (see c.answer_words.new.desk) c.answer_words.ensures

pub returns-clause-arrived_rows : goal.returns-clause-arrived_rows
returns-clause-arrived_rows g c =
    let see = g.D.Desk.seen in
    done_captured HasArrivedRows rows_arrived (task_of c.args.words.now) c.answer_words.result (see c.args.desk.now)
    (see c.answer_words.new.desk) c.answer_words.ensures

pub returns-clause-whole_rows : goal.returns-clause-whole_rows
returns-clause-whole_rows g c =
    let see = g.D.Desk.seen in
    done_captured HoldsWholeRows whole_rows_held (task_of c.args.words.now) c.answer_words.result (see c.args.desk.now)
    (see c.answer_words.new.desk) c.answer_words.ensures

pub returns-clause-blocks : goal.returns-clause-blocks
returns-clause-blocks g c =
    let see = g.D.Desk.seen in
    done_captured ShowsRings (λ program fill steps. rings_shown (first_state program fill) steps)
    (task_of c.args.words.now) c.answer_words.result (see c.args.desk.now)
    (see c.answer_words.new.desk) c.answer_words.ensures

pub returns-clause-no_fault_in_rings : goal.returns-clause-no_fault_in_rings
returns-clause-no_fault_in_rings g c =
    let see = g.D.Desk.seen in
    done_captured RingsShowNoFault (λ program fill steps. no_fault_in_rings (first_state program fill) steps)
    (task_of c.args.words.now) c.answer_words.result (see c.args.desk.now)
    (see c.answer_words.new.desk) c.answer_words.ensures

pub returns-clause-live_inside : goal.returns-clause-live_inside
returns-clause-live_inside g c =
    let see = g.D.Desk.seen in
    done_live LiveRunStaysInside (λ chain fill steps kept. kept.inside) (task_of c.args.words.now) c.answer_words.result
    (see c.args.desk.now) (see c.answer_words.new.desk)
    c.answer_words.ensures

pub returns-clause-live_pictures : goal.returns-clause-live_pictures
returns-clause-live_pictures g c =
    let see = g.D.Desk.seen in
    done_live LiveRunShowsPictures (λ chain fill steps kept. kept.shown) (task_of c.args.words.now) c.answer_words.result
    (see c.args.desk.now) (see c.answer_words.new.desk)
    c.answer_words.ensures

pub returns-clause-live_no_fault : goal.returns-clause-live_no_fault
returns-clause-live_no_fault g c =
    let see = g.D.Desk.seen in
    done_live LiveRunShowsNoFault (λ chain fill steps kept. kept.quiet) (task_of c.args.words.now) c.answer_words.result
    (see c.args.desk.now) (see c.answer_words.new.desk)
    c.answer_words.ensures

pub returns-clause-live_in_time : goal.returns-clause-live_in_time
returns-clause-live_in_time g c =
    let see = g.D.Desk.seen in
    done_live LiveRunSignalsInTime (λ chain fill steps kept. kept.in_time) (task_of c.args.words.now) c.answer_words.result
    (see c.args.desk.now) (see c.answer_words.new.desk)
    c.answer_words.ensures

pub returns-clause-live_whole_rows : goal.returns-clause-live_whole_rows
returns-clause-live_whole_rows g c =
    let see = g.D.Desk.seen in
    done_live_rows (task_of c.args.words.now) c.answer_words.result (see c.args.desk.now)
    (see c.answer_words.new.desk) c.answer_words.ensures

pub returns-clause-live_fragments : goal.returns-clause-live_fragments
returns-clause-live_fragments g c =
    let see = g.D.Desk.seen in
    done_fragments (task_of c.args.words.now) c.answer_words.result (see c.args.desk.now)
    (see c.answer_words.new.desk) c.answer_words.ensures

pub returns-clause-chained : goal.returns-clause-chained
returns-clause-chained g c =
    let see = g.D.Desk.seen in
    done_chain c.args.words.now c.answer_words.result (see c.args.desk.now) (see c.answer_words.new.desk) c.answer_words.ensures

pub returns-clause-damaged : goal.returns-clause-damaged
returns-clause-damaged g c =
    let see = g.D.Desk.seen in
    done_damage c.args.words.now c.answer_words.result (see c.args.desk.now) (see c.answer_words.new.desk) c.answer_words.ensures

pub returns-clause-ringed : goal.returns-clause-ringed
returns-clause-ringed g c =
    let see = g.D.Desk.seen in
    done_ring c.args.words.now c.answer_words.result (see c.args.desk.now) (see c.answer_words.new.desk) c.answer_words.ensures

pub returns-clause-done : goal.returns-clause-done
returns-clause-done g c =
    let see = g.D.Desk.seen in
    done_counts (task_of c.args.words.now) c.answer_words.result (see c.args.desk.now) (see c.answer_words.new.desk) c.answer_words.ensures

pub returns-clause-read_fault : goal.returns-clause-read_fault
returns-clause-read_fault g c =
    let see = g.D.Desk.seen in
    read_fault_comes (task_of c.args.words.now) c.answer_words.result (see c.args.desk.now)
    (see c.answer_words.new.desk) c.answer_words.ensures

pub returns-clause-bad_input : goal.returns-clause-bad_input
returns-clause-bad_input g c =
    let see = g.D.Desk.seen in
    bad_input_comes (task_of c.args.words.now) c.answer_words.result (see c.args.desk.now)
    (see c.answer_words.new.desk) c.answer_words.ensures

pub returns-clause-bad_input_must : goal.returns-clause-bad_input_must
returns-clause-bad_input_must g c =
    let see = g.D.Desk.seen in
    bad_input_must (task_of c.args.words.now) c.answer_words.result (see c.args.desk.now)
    (see c.answer_words.new.desk) c.answer_words.ensures

pub returns-clause-complete : goal.returns-clause-complete
returns-clause-complete g c =
    let see = g.D.Desk.seen in
    completes (task_of c.args.words.now) c.answer_words.result (see c.args.desk.now) (see c.answer_words.new.desk) c.answer_words.ensures

pub returns-clause-refused : goal.returns-clause-refused
returns-clause-refused g c =
    let see = g.D.Desk.seen in
    refused_only_says (task_of c.args.words.now) c.answer_words.result (see c.args.desk.now)
    (see c.answer_words.new.desk) c.answer_words.ensures

pub returns-clause-write_fault : goal.returns-clause-write_fault
returns-clause-write_fault g c =
    let see = g.D.Desk.seen in
    write_fault_comes (task_of c.args.words.now) c.answer_words.result (see c.args.desk.now)
    (see c.answer_words.new.desk) c.answer_words.ensures

pub returns-clause-stands : goal.returns-clause-stands
returns-clause-stands g c =
    let see = g.D.Desk.seen in
    write_fault_stands c.args.words.now c.answer_words.result (see c.args.desk.now) (see c.answer_words.new.desk) c.answer_words.ensures

pub returns-clause-untouched : goal.returns-clause-untouched
returns-clause-untouched g c =
    let see = g.D.Desk.seen in
    others_untouched (task_of c.args.words.now) c.answer_words.result (see c.args.desk.now)
    (see c.answer_words.new.desk) c.answer_words.ensures

pub returns-clause-names : goal.returns-clause-names
returns-clause-names g c =
    let see = g.D.Desk.seen in
    names_kept (task_of c.args.words.now) c.answer_words.result (see c.args.desk.now) (see c.answer_words.new.desk) c.answer_words.ensures

pub returns-clause-usage : goal.returns-clause-usage
returns-clause-usage g c =
    let see = g.D.Desk.seen in
    usage_comes (task_of c.args.words.now) c.answer_words.result (see c.args.desk.now) (see c.answer_words.new.desk) c.answer_words.ensures

pub returns-clause-image_and_report : goal.returns-clause-image_and_report
returns-clause-image_and_report g c =
    let see = g.D.Desk.seen in
    done_run c.args.words.now c.answer_words.result (see c.args.desk.now) (see c.answer_words.new.desk) c.answer_words.ensures

pub returns-clause-captured : goal.returns-clause-captured
returns-clause-captured g c =
    let see = g.D.Desk.seen in
    done_capture c.args.words.now c.answer_words.result (see c.args.desk.now) (see c.answer_words.new.desk) c.answer_words.ensures

pub returns-clause-accepted : goal.returns-clause-accepted
returns-clause-accepted g c =
    let see = g.D.Desk.seen in
    done_verify c.args.words.now c.answer_words.result (see c.args.desk.now) (see c.answer_words.new.desk) c.answer_words.ensures

pub returns-clause-listed : goal.returns-clause-listed
returns-clause-listed g c =
    let see = g.D.Desk.seen in
    done_list c.args.words.now c.answer_words.result (see c.args.desk.now) (see c.answer_words.new.desk) c.answer_words.ensures

pub returns-clause-compiled : goal.returns-clause-compiled
returns-clause-compiled g c =
    let see = g.D.Desk.seen in
    done_compile c.args.words.now c.answer_words.result (see c.args.desk.now) (see c.answer_words.new.desk) c.answer_words.ensures

pub returns-clause-generated : goal.returns-clause-generated
returns-clause-generated g c =
    let see = g.D.Desk.seen in
    done_make c.args.words.now c.answer_words.result (see c.args.desk.now) (see c.answer_words.new.desk) c.answer_words.ensures

pub returns-clause-assembled : goal.returns-clause-assembled
returns-clause-assembled g c =
    let see = g.D.Desk.seen in
    done_assemble c.args.words.now c.answer_words.result (see c.args.desk.now) (see c.answer_words.new.desk) c.answer_words.ensures

pub returns-clause-traced : goal.returns-clause-traced
returns-clause-traced g c =
    let see = g.D.Desk.seen in
    done_trace c.args.words.now c.answer_words.result (see c.args.desk.now) (see c.answer_words.new.desk) c.answer_words.ensures

pub returns-clause-helped : goal.returns-clause-helped
returns-clause-helped g c =
    let see = g.D.Desk.seen in
    done_help c.args.words.now c.answer_words.result (see c.args.desk.now) (see c.answer_words.new.desk) c.answer_words.ensures

pub returns-clause-versioned : goal.returns-clause-versioned
returns-clause-versioned g c =
    let see = g.D.Desk.seen in
    done_version c.args.words.now c.answer_words.result (see c.args.desk.now) (see c.answer_words.new.desk) c.answer_words.ensures

pub returns-clause-last : goal.returns-clause-last
returns-clause-last g c =
    let see = g.D.Desk.seen in
    ends_at_fault (task_of c.args.words.now) c.answer_words.result (see c.args.desk.now)
    (see c.answer_words.new.desk) c.answer_words.ensures

pub returns-clause-order : goal.returns-clause-order
returns-clause-order g c =
    let see = g.D.Desk.seen in
    in_order (task_of c.args.words.now) c.answer_words.result (see c.args.desk.now) (see c.answer_words.new.desk) c.answer_words.ensures

pub returns-clause-read_fault_must : goal.returns-clause-read_fault_must
returns-clause-read_fault_must g c =
    let see = g.D.Desk.seen in
    read_fault_must (task_of c.args.words.now) c.answer_words.result (see c.args.desk.now)
    (see c.answer_words.new.desk) c.answer_words.ensures

pub returns-clause-missing_must : goal.returns-clause-missing_must
returns-clause-missing_must g c =
    let see = g.D.Desk.seen in
    missing_must (task_of c.args.words.now) c.answer_words.result (see c.args.desk.now) (see c.answer_words.new.desk) c.answer_words.ensures

pub returns-clause-first_missing_must : goal.returns-clause-first_missing_must
returns-clause-first_missing_must g c =
    let see = g.D.Desk.seen in
    first_missing_must (task_of c.args.words.now) c.answer_words.result (see c.args.desk.now)
    (see c.answer_words.new.desk) c.answer_words.ensures

pub returns-clause-no_memory : goal.returns-clause-no_memory
returns-clause-no_memory g c =
    let see = g.D.Desk.seen in
    short_ends (task_of c.args.words.now) c.answer_words.result (see c.args.desk.now) (see c.answer_words.new.desk) c.answer_words.ensures
