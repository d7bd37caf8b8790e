-- What a track keeps over a run are the marks that the definition states of the fields at their last signals.
use Rattle.std.proofs.Common.{◌≡◌, ℕ, ◌+◌, ◌*◌, ◌≤◌, ◌⊎◌, inl, inr, Bool, true, false, ◌&&◌, ◌==◌, All, List, [], ◌∷◌, ◌++◌, append_assoc}
use Rattle.std.proofs.Common.{drop, length, map, Option, Some, None, Ok, Err, refl, sym}
use Rattle.std.proofs.Common.{ap, ap₂, ◌∙◌, subst, arith, option_map, if◌then◌else◌, eqb-true, eq-eqb}
use Rattle.std.specs.Prelude.{is_some, option_and_then}
use Rattle.std.specs.List.{list_any}
use Rattle.std.proofs.lemmas.Bool.{and_from, ne_eqb}
use Rattle.std.proofs.lemmas.List.{append-nil, drop-map}
use Rattle.std.proofs.lemmas.List.Elements.{All-head, All-tail}
use Rattle.risc_word.specs.declared.Code.{Code}
use Rattle.risc_word.specs.declared.Code.TheVariants.{Vre}
use Rattle.risc_word.specs.declared.Ctl.{Ctl}
use Rattle.risc_word.specs.declared.Instr.{Instr}
use Rattle.risc_word.specs.declared.Instr.TheVariants.{Write, Skip, WriteC, Jump, Sync, Write123, Skip123, Write1S23}
use Rattle.risc_word.specs.Words.{Reading, code_number, encoded}
use Rattle.fifo_model.specs.declared.Entry.{Entry}
use Rattle.fifo_model.specs.declared.Queue.{Queue}
use Rattle.fifo_model.specs.Queues.{Queues, cleared, queue_state}
use Rattle.irq_status.specs.declared.HostWrite.{HostWrite}
use Rattle.irq_status.specs.declared.HostWrite.TheVariants.{Ack, Enable, Trigger}
use Rattle.page_table.specs.Blocks.{chunks_of}
use Rattle.page_table.proofs.Memory.{chunks_of-filled}
use Rattle.pixel_layout.specs.declared.Parity.{Parity}
use Rattle.pixel_layout.specs.declared.Parity.TheVariants.{Top, Bottom}
use Rattle.machine_model.specs.declared.Demands.{Demands}
use Rattle.machine_model.specs.declared.Did.{Did}
use Rattle.machine_model.specs.declared.Did.TheVariants.{Still, Jumped, Synced, Passed, Begun, Dropped, Matched, Missed, Retired, Moved}
use Rattle.machine_model.specs.declared.Did.TheVariants.{GivenUp}
use Rattle.machine_model.specs.declared.Job.{Job}
use Rattle.machine_model.specs.declared.Job.TheVariants.{Idle, Waiting, Running}
use Rattle.machine_model.specs.declared.Seen.{Seen}
use Rattle.machine_model.specs.declared.Skipping.{Skipping}
use Rattle.machine_model.specs.declared.Skipping.TheVariants.{Nothing, ToEol, ToSync}
use Rattle.machine_model.specs.Paths.{RiscProgram, fetch, is_data, spans_of}
use Rattle.machine_model.specs.Safety.{IsOrderly, IsStep}
use Rattle.machine_model.specs.States.{State, first_state}
use Rattle.machine_model.specs.Steps.{Step, Push, Control, Turn, Host, host, run, step, with_fifo, with_risc}
use Rattle.machine_model.specs.Turns.{common_code, counted, fetched, is_done, lowest_served, lowest_stray, turn, turn_if, worked}
use Rattle.machine_model.specs.Seen.{address_before, applications, code_did, data_did, fetched_did, gives_up, instr_did, seen, seen_alone}
use Rattle.machine_model.specs.Seen.{seen_if, seen_in, seen_running, seen_served, waited_did}
use Rattle.machine_model.proofs.ProgramStays.{chunks-step, program-step}
use Rattle.machine_model.proofs.Orderly.{IsOrderly-first_state, IsOrderly-step}
use Rattle.machine_model.proofs.Runs.{run-append}
use Rattle.capture_desc.specs.declared.desc.Desc.{Desc}
use Rattle.capture_desc.specs.declared.desc.Fields.{Fields}
use Rattle.capture_desc.specs.declared.desc.Fields.TheVariants as fields
use Rattle.picture_model.specs.Described.{describes}
use Rattle.picture_model.specs.Programs.{begin_by, body, closing, compiled, no_control, opening, section_begin, section_next, signal, sync}
use Rattle.picture_model.specs.Programs.{vertical, words_of}
use Rattle.picture_model.proofs.FaultlessGeometry.{IsRight, IsFrame-IsRight, IsValid-IsFrame}
use Rattle.picture_model.proofs.Sections.{good_body, section_stands}
use Rattle.field_law.specs.Sections.{HoldsFrom, closing_at, words_in}
use Rattle.field_law.specs.Arrivals.{is_idle, is_signal}
use Rattle.picture_law.specs.Sections.{section_of}
use Rattle.picture_law.proofs.Program.{fetched_at, next_field, section_holds}
use Rattle.damage_model.specs.Takings.{Taking, left, retired_at, retires, step_retires, step_takings, takings, takings_if, worked_takings}
use Rattle.damage_model.specs.Marks.{is_opening, is_synced, last_step, later_or, marks_to}
use Rattle.damage_model.proofs.Held.{compiled_held}
use Rattle.machine_watch.specs.Watches.{written}
use Rattle.damage_map.specs.Before.{before_of, before_rows, lines_before}
use Rattle.damage_law.specs.Laws.{KeepsAnswers, TellsSignals, map_after}
use Rattle.damage_map.specs.Maps.{rows_of}
use Rattle.damage_map.specs.Tracks.{FieldTrack, field_of, fresh, lines_at_signal, max_lines, met, opened, opens, signalled, through}
use Rattle.damage_map.specs.Tracks.{track_next, track_notes, tracked, turned, untold, with_loss}
use Rattle.damage_law.proofs.Compiled.{SkipsFew, body_parts, few_lines, parts_cut, rows_dropped, section_lines, section_parts, skips_few}
use Rattle.damage_law.proofs.Histories.{Opened, marks_over, next_opened, next_told, opened_if, told_after, told_after-answer, told_if}
use Rattle.damage_law.proofs.PlacedSteps.{fresh_bytes, turn_bytes}
use Rattle.damage_law.proofs.PlacedTurns.{JobHas, KeepsBytes, bytes_with}
use Rattle.damage_law.proofs.Sections.{AreBelow, Past, TakenBelow, instrs_of, whole_over}
use Rattle.damage_law.proofs.SectionSteps.{Unmoved, emptied_visit, push-Unmoved, push_control-Unmoved, unmoved_on}
use Rattle.damage_law.proofs.SectionTurns.{Plainly, QueueKept, Turned, queue_same, turn_on}
use Rattle.damage_law.proofs.Visits.{InGap, Visit}

-- ---- what was taken over steps, and over one more

abbrev pub gone_after : Queue → ℕ → State → List Step → ℕ
gone_after q place m [] = place
gone_after q place m (s ∷ steps) = gone_after q (place + left q m (step s m)) (step s m) steps

gone_more : (q : Queue) (done : List Step) (place : ℕ) (m : State) (s : Step) →
    gone_after q place m (done ++ s ∷ []) ≡ gone_after q place m done + left q (run m done) (step s (run m done))
gone_more q [] place m s = refl
gone_more q (x ∷ done) place m s = gone_more q done (place + left q m (step x m)) (step x m) s

takings_more : (q : Queue) (done : List Step) (place : ℕ) (m : State) (s : Step) →
    takings q place m (done ++ s ∷ []) ≡ takings q place m done ++ step_takings q (gone_after q place m done) (run m done) s
takings_more q [] place m s = append-nil (step_takings q place m s)
takings_more q (x ∷ done) place m s =
    ap (λ (ts : List Taking). step_takings q place m x ++ ts) (takings_more q done (place + left q m (step x m)) (step x m) s)
    ∙ sym (append_assoc (step_takings q place m x) (takings q (place + left q m (step x m)) (step x m) done) _)

retires_more : (done : List Step) (m : State) (s : Step) → retires m (done ++ s ∷ []) ≡ retires m done ++ step_retires (run m done) s
retires_more [] m s = append-nil (step_retires m s)
retires_more (x ∷ done) m s =
    ap (λ (rs : List ℕ). step_retires m x ++ rs) (retires_more done (step x m) s)
    ∙ sym (append_assoc (step_retires m x) (retires (step x m) done) _)

abbrev pub past_of : State → List Step → Past
past_of m done = record { takes = λ q. takings q 0 m done; retired = retires m done }

abbrev pub gone_of : State → List Step → Queue → ℕ
gone_of m done q = gone_after q 0 m done

-- over one more step from a state
abbrev pub past_next : Past → (Queue → ℕ) → State → Step → Past
past_next past gone m s = record { takes = λ q. past.takes q ++ step_takings q (gone q) m s; retired = past.retired ++ step_retires m s }

abbrev pub gone_next : (Queue → ℕ) → State → Step → Queue → ℕ
gone_next gone m s q = gone q + left q m (step s m)

pub past_more : (m0 : State) (done : List Step) (s : Step) →
    past_of m0 (done ++ s ∷ []) ≡ past_next (past_of m0 done) (gone_of m0 done) (run m0 done) s
past_more m0 done s =
    let takes : (λ (q : Queue). takings q 0 m0 (done ++ s ∷ []))
    ≡ (λ (q : Queue). takings q 0 m0 done ++ step_takings q (gone_after q 0 m0 done) (run m0 done) s) =
    λ i q. takings_more q done 0 m0 s i in
    ap₂ (λ (takes : Queue → List Taking) (retired : List ℕ). record { takes = takes; retired = retired }) takes (retires_more done m0 s)

pub gone_of_more : (m0 : State) (done : List Step) (s : Step) → gone_of m0 (done ++ s ∷ []) ≡ gone_next (gone_of m0 done) (run m0 done) s
gone_of_more m0 done s = λ i q. gone_more q done 0 m0 s i

pub nothing_past : (past : Past) → record { takes = λ (q : Queue). past.takes q ++ []; retired = past.retired ++ [] } ≡ past
nothing_past past =
    let takes : (λ (q : Queue). past.takes q ++ []) ≡ past.takes = λ i q. append-nil (past.takes q) i in
    ap₂ (λ (takes : Queue → List Taking) (retired : List ℕ). record { takes = takes; retired = retired }) takes (append-nil past.retired)

-- ---- what a turn leaves of the lines at the signals

abbrev is_jumped : Did → Bool
is_jumped Jumped = true
is_jumped _ = false

through_calm : (ends : Bool) (t : FieldTrack) (g : Parity) → lines_at_signal g (through ends t) ≡ lines_at_signal g t
through_calm true t Top = refl
through_calm true t Bottom = refl
through_calm false t g = refl

opened_calm : (begins : Bool) (t : FieldTrack) (g : Parity) → lines_at_signal g (opened begins t) ≡ lines_at_signal g t
opened_calm true t Top = refl
opened_calm true t Bottom = refl
opened_calm false t g = refl

loss_calm : (t : FieldTrack) (g : Parity) → lines_at_signal g (with_loss t) ≡ lines_at_signal g t
loss_calm t Top = refl
loss_calm t Bottom = refl

met_calm : (q : Queue) (s : Seen) (t : FieldTrack) (g : Parity) → lines_at_signal g (met q s t) ≡ lines_at_signal g t
met_calm q s t Top = refl
met_calm q s t Bottom = refl

calm : (did : Did) (program : RiscProgram) (s : Seen) (t : FieldTrack) (g : Parity) → is_jumped did ≡ false →
    lines_at_signal g (turned program did s t) ≡ lines_at_signal g t
calm Still program s t g is = refl
calm Jumped program s t g is = cc
calm Synced program s t g is = opened_calm _ t g
calm Passed program s t g is = through_calm _ (with_loss t) g ∙ loss_calm t g
calm Begun program s t g is = refl
calm Dropped program s t g is = refl
calm Matched program s t g is = refl
calm Missed program s t g is = refl
calm Retired program s t g is = through_calm _ t g
calm (Moved q) program s t g is = met_calm q s t g
calm (GivenUp q) program s t g is = through_calm _ (with_loss (met q s t)) g ∙ loss_calm (met q s t) g ∙ met_calm q s t g

written_calm : (write : HostWrite) (m : State) (t : FieldTrack) (g : Parity) →
    lines_at_signal g (written track_notes write m t) ≡ lines_at_signal g t
written_calm (Ack mask) m t g = refl
written_calm (Trigger number) m t g = refl
written_calm (Enable true risc) m t g = refl
written_calm (Enable false risc) m t Top = refl
written_calm (Enable false risc) m t Bottom = refl

-- ---- how many lines are before the rows

through_before : (ends : Bool) (t : FieldTrack) → (through ends t).before ≡ t.before
through_before true t = refl
through_before false t = refl

opened_before : (begins : Bool) (t : FieldTrack) → (opened begins t).before ≡ t.before
opened_before true t = refl
opened_before false t = refl

signalled_before : (field : Option Parity) (t : FieldTrack) → (signalled field t).before ≡ t.before
signalled_before (Some Top) t = refl
signalled_before (Some Bottom) t = refl
signalled_before None t = refl

turned_before : (did : Did) (program : RiscProgram) (s : Seen) (t : FieldTrack) → (turned program did s t).before ≡ t.before
turned_before Still program s t = refl
turned_before Jumped program s t = signalled_before _ t
turned_before Synced program s t = opened_before _ t
turned_before Passed program s t = through_before _ (with_loss t)
turned_before Begun program s t = refl
turned_before Dropped program s t = refl
turned_before Matched program s t = refl
turned_before Missed program s t = refl
turned_before Retired program s t = through_before _ t
turned_before (Moved q) program s t = refl
turned_before (GivenUp q) program s t = through_before _ (with_loss (met q s t))

next_before : (s : Step) (m : State) (t : FieldTrack) → (track_next m s t).before ≡ t.before
next_before Turn m t = turned_before (seen m).did m.program (seen m) t
next_before (Push q entry) m t = refl
next_before (Control code) m t = refl
next_before (Host (Ack mask)) m t = refl
next_before (Host (Trigger number)) m t = refl
next_before (Host (Enable true risc)) m t = refl
next_before (Host (Enable false risc)) m t = refl

pub tracked_before : (steps : List Step) (m : State) (t : FieldTrack) → (tracked m steps t).before ≡ t.before
tracked_before [] m t = refl
tracked_before (s ∷ steps) m t = tracked_before steps (step s m) (track_next m s t) ∙ next_before s m t

-- ---- what is fetched

abbrev instr_read : Reading → Instr
instr_read (Ok (instr, count)) = instr
instr_read (Err fault) = sync true Vre

pub same_read : (i j : Instr) (n k : ℕ) (r : Reading) → r ≡ Ok (i, n) → r ≡ Ok (j, k) → i ≡ j
same_read i j n k r one two = ap instr_read (sym one ∙ two)

data_jump : (i : Instr) (ctl : Ctl) (to : ℕ) → is_data i ≡ true → i ≡ Jump ctl to → ⊥
data_jump i ctl to data_is is = let none : false ≡ true = ap is_data (sym is) ∙ data_is in cc

data_sync : (i : Instr) (ctl : Ctl) (resync : Bool) (code : Code) → is_data i ≡ true → i ≡ Sync ctl resync code → ⊥
data_sync i ctl resync code data_is is = let none : false ≡ true = ap is_data (sym is) ∙ data_is in cc

pub plain_jump : (r : Reading) (ctl : Ctl) (to n : ℕ) → Plainly r → r ≡ Ok (Jump ctl to, n) → ⊥
plain_jump r ctl to n p is = by_plain p.plain
  where
    same : p.instr ≡ Jump ctl to
    same = same_read p.instr (Jump ctl to) p.many n r p.read is

    by_plain : (is_data p.instr ≡ true) ⊎ ((code : Code) × (p.instr ≡ sync false code)) → ⊥
    by_plain (inl data_is) = data_jump p.instr ctl to data_is same
    by_plain (inr awaits) = let other : sync false awaits.0 ≡ Jump ctl to = sym awaits.1 ∙ same in cc

plain_opening : (r : Reading) (code : Code) (n : ℕ) → Plainly r → r ≡ Ok (sync true code, n) → ⊥
plain_opening r code n p is = by_plain p.plain
  where
    same : p.instr ≡ sync true code
    same = same_read p.instr (sync true code) p.many n r p.read is

    by_plain : (is_data p.instr ≡ true) ⊎ ((code : Code) × (p.instr ≡ sync false code)) → ⊥
    by_plain (inl data_is) = data_sync p.instr no_control true code data_is same
    by_plain (inr awaits) = let other : sync false awaits.0 ≡ sync true code = sym awaits.1 ∙ same in cc

-- ---- what a turn is seen to do within a section

abbrev pub IsCalm : Did → Type 0
IsCalm did = (is_jumped did ≡ false) × (is_synced did ≡ false)

data_calm : (skipping : Skipping) → IsCalm (data_did skipping)
data_calm Nothing = (refl, refl)
data_calm ToEol = (refl, refl)
data_calm ToSync = (refl, refl)

instr_calm : (i : Instr) (skipping : Skipping) → is_data i ≡ true → IsCalm (instr_did i skipping)
instr_calm (Jump ctl to) skipping is = cc
instr_calm (Sync ctl resync code) skipping is = cc
instr_calm (Write ctl ends off count addr) skipping is = data_calm skipping
instr_calm (Skip ctl ends count) skipping is = data_calm skipping
instr_calm (WriteC ctl ends off count) skipping is = data_calm skipping
instr_calm (Write123 ctl ends off counts addrs) skipping is = data_calm skipping
instr_calm (Skip123 ctl ends counts) skipping is = data_calm skipping
instr_calm (Write1S23 ctl ends off counts addr) skipping is = data_calm skipping

code_calm : (seen_code : Option Code) (code : Code) → IsCalm (code_did seen_code code)
code_calm None code = (refl, refl)
code_calm (Some seen_code) code = by_same (code_number seen_code == code_number code)
  where
    by_same : (same : Bool) → IsCalm (if same then Matched else Missed)
    by_same true = (refl, refl)
    by_same false = (refl, refl)

pub waited_calm : (stray : Option Queue) (seen_code : Option Code) (code : Code) → IsCalm (waited_did stray seen_code code)
waited_calm (Some q) seen_code code = (refl, refl)
waited_calm None seen_code code = code_calm seen_code code

served_calm : (q : Option Queue) (at : ℕ) (m : State) → IsCalm (seen_served q at m).did
served_calm None at m = (refl, refl)
served_calm (Some q) at m = by_gave (list_any gives_up (applications m.trigger q m))
  where
    by_gave : (gave : Bool) → IsCalm (if gave then GivenUp q else Moved q)
    by_gave true = (refl, refl)
    by_gave false = (refl, refl)

pub running_calm : (done : Bool) (at : ℕ) (ds : Demands) (m : State) → IsCalm (seen_running done at ds m).did
running_calm true at ds m = (refl, refl)
running_calm false at ds m = served_calm (lowest_served ds m) at m

-- it jumps nowhere; where it comes to a SYNC, that is one without RESYNC
pub record Within (s : Seen) (m : State) : Type 0 where
  pub unjumped : is_jumped s.did ≡ false
  pub synced : is_synced s.did ≡ true → (s.at ≡ m.pc) × Plainly (fetch m.program m.pc)

calm_within : (s : Seen) (m : State) → IsCalm s.did → Within s m
calm_within s m is = record { unjumped = is.0; synced = λ syncs. let none : true ≡ false = sym syncs ∙ is.1 in cc }

idle_within : (m : State) (i : Instr) (n : ℕ) → fetch m.program m.pc ≡ Ok (i, n) →
    (is_data i ≡ true) ⊎ ((code : Code) × (i ≡ sync false code)) →
    Within (seen_alone (instr_did i m.skipping) m.pc) m
idle_within m i n read (inl data_is) = calm_within (seen_alone (instr_did i m.skipping) m.pc) m (instr_calm i m.skipping data_is)
idle_within m i n read (inr awaits) =
    subst (λ (x : Instr). Within (seen_alone (instr_did x m.skipping) m.pc) m) (sym awaits.1)
    (record { unjumped = refl; synced = λ syncs. (refl, record { instr = i; many = n; read = read; plain = inr awaits }) })

job_within : (job : Job) (m : State) → m.job ≡ job → (m.job ≡ Idle → Plainly (fetch m.program m.pc)) → Within (seen_in job m) m
job_within Idle m j plainly =
    let p = plainly j in
    subst (λ (r : Reading). Within (seen_alone (fetched_did r m.skipping) m.pc) m) (sym p.read)
    (idle_within m p.instr p.many p.read p.plain)
job_within (Waiting ctl resync code) m j plainly =
    calm_within (seen_in (Waiting ctl resync code) m) m (waited_calm (lowest_stray m.queues) (common_code m.queues) code)
job_within (Running instr ds) m j plainly =
    calm_within (seen_in (Running instr ds) m) m (running_calm (is_done ds) (address_before m.pc instr) ds m)

risc_within : (on : Bool) (m : State) → m.risc_on ≡ on → (m.risc_on ≡ true → m.job ≡ Idle → Plainly (fetch m.program m.pc)) →
    Within (seen_if on m) m
risc_within false m is plainly = calm_within (seen_alone Still m.pc) m (refl, refl)
risc_within true m is plainly = job_within m.job m refl (plainly is)

seen_within : (m : State) → (m.risc_on ≡ true → m.job ≡ Idle → Plainly (fetch m.program m.pc)) → Within (seen m) m
seen_within m plainly = risc_within m.risc_on m refl plainly

-- ---- no signal, no opening

pub signal_by : (on : Bool) (job : Job) (pc c : ℕ) → (on ≡ true → job ≡ Idle → pc ≡ c → ⊥) → (on && is_idle job && pc == c) ≡ false
signal_by false job pc c apart = refl
signal_by true Idle pc c apart = ne_eqb pc c (apart refl refl)
signal_by true (Waiting ctl resync code) pc c apart = refl
signal_by true (Running instr ds) pc c apart = refl

opening_by : (syncs : Bool) (at c : ℕ) → (syncs ≡ true → at ≡ c → ⊥) → (syncs && at == c) ≡ false
opening_by false at c apart = refl
opening_by true at c apart = ne_eqb at c (apart refl)

-- ---- the program of a description

pub first_field : (which : Fields) (d : Desc) (from : ℕ) → (f : Parity) × (describes which f ≡ true) × (begin_by which d from f ≡ from)
first_field fields.Top d from = (Top, refl, refl)
first_field fields.Bottom d from = (Bottom, refl, refl)
first_field fields.Both d from = (Top, refl, refl)

holds_end : (program : RiscProgram) (ctl : Ctl) (to at : ℕ) (instrs : List Instr) → HoldsFrom program at instrs ctl to →
    fetch program (at + 4 * words_in instrs) ≡ Ok (Jump ctl to, 2)
holds_end program ctl to at [] holds = ap (fetch program) (omega arith) ∙ holds.0
holds_end program ctl to at (i ∷ rest) holds =
    let there : at + 4 * words_in (i ∷ rest) ≡ at + 4 * length (encoded i) + 4 * words_in rest = omega arith in
    ap (fetch program) there ∙ holds_end program ctl to (at + 4 * length (encoded i)) rest holds.3

module _ (d : Desc) (right : IsRight d) where
  abbrev pub begin_of : Parity → ℕ
  begin_of f = section_begin d d.base f

  abbrev pub next_of : Parity → ℕ
  next_of f = section_next d d.base d.base f

  abbrev pub end_of : Parity → ℕ
  end_of f = closing_at (section_of d f)

  pub opens_there : (f : Parity) → describes d.fields f ≡ true → fetch (compiled d) (begin_of f) ≡ Ok (opening f, 2)
  opens_there f is =
      let stands = section_stands d d.base d.base f is in
      let rest = words_of (body d f ++ closing f (next_of f) ∷ []) in
      let good = good_body d right (compiled d) refl f is in
      fetched_at (compiled d) stands.before (rest ++ stands.after) (opening f) (begin_of f)
      (ap (spans_of d.base) (stands.split
      ∙ ap (λ (ws : List ℕ). stands.before ++ ws) (append_assoc (encoded (opening f)) rest stands.after))) stands.at good.0.fine.spelled

  holds_parts : (f : Parity) → describes d.fields f ≡ true →
      HoldsFrom (compiled d) (begin_of f + 8) (instrs_of (section_parts d f)) (signal f) (next_of f)
  holds_parts f is =
      subst (λ (instrs : List Instr). HoldsFrom (compiled d) (begin_of f + 8) instrs (signal f) (next_of f)) (sym (body_parts d f))
      (section_holds d f right is)

  ends_parts : (f : Parity) → begin_of f + 8 + 4 * words_in (instrs_of (section_parts d f)) ≡ end_of f
  ends_parts f = ap (λ (instrs : List Instr). begin_of f + 8 + 4 * words_in instrs) (body_parts d f)

  pub closes_there : (f : Parity) → describes d.fields f ≡ true → fetch (compiled d) (end_of f) ≡ Ok (Jump (signal f) (next_of f), 2)
  closes_there f is = holds_end (compiled d) (signal f) (next_of f) (begin_of f + 8) (body d f) (section_holds d f right is)

-- ---- a run

pub field_same : (f g : Parity) → (f ≡ g) ⊎ (f ≡ g → ⊥)
field_same Top Top = inl refl
field_same Top Bottom = inr (λ same. cc)
field_same Bottom Top = inr (λ same. cc)
field_same Bottom Bottom = inl refl

pub told_here : (f : Parity) (t : FieldTrack) → lines_at_signal f (signalled (field_of (signal f).set) t) ≡ Some t.lines
told_here Top t = refl
told_here Bottom t = refl

told_elsewhere : (f g : Parity) (t : FieldTrack) → (f ≡ g → ⊥) →
    lines_at_signal g (signalled (field_of (signal f).set) t) ≡ lines_at_signal g t
told_elsewhere Top Top t apart = absurd (apart refl)
told_elsewhere Top Bottom t apart = refl
told_elsewhere Bottom Top t apart = refl
told_elsewhere Bottom Bottom t apart = absurd (apart refl)

abbrev set_of : Instr → ℕ
set_of (Jump ctl to) = ctl.set
set_of _ = 0

pub signals_apart : (f g : Parity) (to other : ℕ) → Jump (signal f) to ≡ Jump (signal g) other → f ≡ g
signals_apart Top Top to other same = refl
signals_apart Top Bottom to other same = let set : true ≡ false = ap (λ (i : Instr). set_of i == 1) same in cc
signals_apart Bottom Top to other same = let set : false ≡ true = ap (λ (i : Instr). set_of i == 1) same in cc
signals_apart Bottom Bottom to other same = refl

untold_none : (d : Desc) (g : Parity) (n : ℕ) → option_map (drop n) (lines_at_signal g (untold d)) ≡ None
untold_none d Top n = refl
untold_none d Bottom n = refl

module _ (d : Desc) (right : IsRight d) (skips : SkipsFew d) where
  pub few : (f : Parity) → length (section_lines d f) ≤ max_lines
  few f = few_lines d (begin_of d right f) f right skips

  -- about to open a section
  pub record Outside (m : State) : Type 0 where
    pub field : Parity
    pub described : describes d.fields field ≡ true
    pub idle : m.job ≡ Idle
    pub there : m.pc ≡ begin_of d right field

  -- within one since its opening; memory has the bytes that its instructions took since then
  pub record Inside (m : State) (t : FieldTrack) (opens_since : Parity → Opened) : Type 0 where
    pub field : Parity
    pub described : describes d.fields field ≡ true
    pub first : State
    pub done : List Step
    pub opened_at : opens_since field ≡ Some (first, done)
    pub there : m ≡ run first done
    pub visit : Visit (compiled d) (signal field) (next_of d right field) (end_of d right field)
        (section_lines d field) m t (past_of first done) (gone_of first done)
    pub bytes : KeepsBytes d (compiled_held d right) field described m (past_of first done)

  abbrev pub Place : State → FieldTrack → (Parity → Opened) → Type 0
  Place m t opens_since = Outside m ⊎ Inside m t opens_since

  pub record Keeps (m : State) (t : FieldTrack) (opens_since : Parity → Opened) (tolds : Parity → Option (List Bool)) : Type 0 where
    pub program : m.program ≡ compiled d
    pub orderly : IsOrderly m
    pub chunks : chunks_of m.memory ≡ (compiled d).grants
    pub told : (g : Parity) → describes d.fields g ≡ true → option_map (drop (lines_before d g)) (lines_at_signal g t) ≡ tolds g
    pub place : Place m t opens_since

  module _ (m : State) (t : FieldTrack) (opens_since : Parity → Opened) (tolds : Parity → Option (List Bool))
      (h : Keeps m t opens_since tolds) (s : Step) where
    abbrev opens_next : Parity → Opened
    opens_next g = next_opened d g m s (opens_since g)

    abbrev tolds_next : Parity → Option (List Bool)
    tolds_next g = next_told d g m s (opens_since g) (tolds g)

    abbrev IsTolds : FieldTrack → Type 0
    IsTolds next = (g : Parity) → describes d.fields g ≡ true → option_map (drop (lines_before d g)) (lines_at_signal g next) ≡ tolds_next g

    tolds_stay : (next : FieldTrack) → ((g : Parity) → lines_at_signal g next ≡ lines_at_signal g t) →
        ((g : Parity) → describes d.fields g ≡ true → is_signal (section_of d g) m s ≡ false) → IsTolds next
    tolds_stay next same silent g is =
        ap (option_map (drop (lines_before d g))) (same g) ∙ h.told g is
        ∙ sym (ap (λ (b : Bool). told_if d g b (opens_since g) (tolds g)) (silent g is))

    goes_inside : (i : Inside m t opens_since) (after : State) (next : FieldTrack) → step s m ≡ after → is_opening d i.field m s ≡ false →
        Visit (compiled d) (signal i.field) (next_of d right i.field) (end_of d right i.field) (section_lines d i.field) after next
        (past_next (past_of i.first i.done) (gone_of i.first i.done) m s) (λ q. gone_of i.first i.done q + left q m after) →
        KeepsBytes d (compiled_held d right) i.field i.described after (past_next (past_of i.first i.done) (gone_of i.first i.done) m s) →
        Inside after next opens_next
    goes_inside i after next steps closed visit bytes =
        let there : step s m ≡ after = steps in
        let run_there : after ≡ run i.first (i.done ++ s ∷ []) =
        sym steps ∙ ap (step s) i.there ∙ sym (run-append i.first i.done (s ∷ [])) in
        let past_there : past_of i.first (i.done ++ s ∷ []) ≡ past_next (past_of i.first i.done) (gone_of i.first i.done) m s =
        past_more i.first i.done s ∙ ap (λ (x : State). past_next (past_of i.first i.done) (gone_of i.first i.done) x s) (sym i.there) in
        let gone_there : gone_of i.first (i.done ++ s ∷ []) ≡ (λ (q : Queue). gone_of i.first i.done q + left q m after) =
        gone_of_more i.first i.done s ∙ ap (λ (x : State). gone_next (gone_of i.first i.done) x s) (sym i.there)
        ∙ ap (λ (x : State). λ (q : Queue). gone_of i.first i.done q + left q m x) steps in
        record {
          field = i.field;
          described = i.described;
          first = i.first;
          done = i.done ++ s ∷ [];
          opened_at = ap₂ (λ (b : Bool) (o : Opened). opened_if b m s o) closed i.opened_at;
          there = run_there;
          visit =
              subst (λ (p : Past). Visit (compiled d) (signal i.field) (next_of d right i.field) (end_of d right i.field)
              (section_lines d i.field) after next p (gone_of i.first (i.done ++ s ∷ []))) (sym past_there)
              (subst (λ (gone : Queue → ℕ).
              Visit (compiled d) (signal i.field) (next_of d right i.field) (end_of d right i.field) (section_lines d i.field) after next
              (past_next (past_of i.first i.done) (gone_of i.first i.done) m s) gone) (sym gone_there) visit);
          bytes = subst (KeepsBytes d (compiled_held d right) i.field i.described after) (sym past_there) bytes;
        }

    -- where memory stays, and the machine is where it was
    bytes_still : (i : Inside m t opens_since) (after : State) → after.memory ≡ m.memory → after.job ≡ m.job → after.pc ≡ m.pc →
        past_next (past_of i.first i.done) (gone_of i.first i.done) m s ≡ past_of i.first i.done →
        KeepsBytes d (compiled_held d right) i.field i.described after (past_next (past_of i.first i.done) (gone_of i.first i.done) m s)
    bytes_still i after memory job pc same =
        let past = past_of i.first i.done in
        subst (KeepsBytes d (compiled_held d right) i.field i.described after) (sym same)
        (bytes_with d (compiled_held d right) i.field i.described m after past memory
        (subst (λ (j : Job). JobHas d (compiled_held d right) i.field i.described after.pc j past) (sym job)
        (subst (λ (at : ℕ). JobHas d (compiled_held d right) i.field i.described at m.job past) (sym pc) i.bytes.job)) i.bytes)

    outside_still : (o : Outside m) (after : State) → after.job ≡ m.job → after.pc ≡ m.pc → Outside after
    outside_still o after j p = record { field = o.field; described = o.described; idle = j ∙ o.idle; there = p ∙ o.there }

    -- a step that is no turn, and doesn't empty the queues
    unmoved_place : (after : State) (next : FieldTrack) → step s m ≡ after → next ≡ t → Unmoved m after →
        ((g : Parity) → is_opening d g m s ≡ false) →
        ((past : Past) (gone : Queue → ℕ) → past_next past gone m s ≡ past) → Place m t opens_since → Place after next opens_next
    unmoved_place after next steps same u closed nothing (inl o) = inl (outside_still o after u.job u.pc)
    unmoved_place after next steps same u closed nothing (inr i) =
        let past = past_of i.first i.done in
        let gone = gone_of i.first i.done in
        let visit =
        unmoved_on (compiled d) (signal i.field) (next_of d right i.field) (end_of d right i.field) (section_lines d i.field)
        (few i.field) m t past gone after u i.visit in
        inr (goes_inside i after next steps (closed i.field)
        (subst (λ (x : FieldTrack).
        Visit (compiled d) (signal i.field) (next_of d right i.field) (end_of d right i.field) (section_lines d i.field) after x
        (past_next past gone m s) (λ q. gone q + left q m after)) (sym same)
        (subst (λ (p : Past). Visit (compiled d) (signal i.field) (next_of d right i.field) (end_of d right i.field)
        (section_lines d i.field) after t p (λ q. gone q + left q m after)) (sym (nothing past gone)) visit))
        (bytes_still i after u.memory u.job u.pc (nothing past gone)))

  abbrev pub After : (m : State) (t : FieldTrack) (opens_since : Parity → Opened) (tolds : Parity → Option (List Bool)) → Step → Type 0
  After m t opens_since tolds s =
      Keeps (step s m) (track_next m s t) (λ g. next_opened d g m s (opens_since g)) (λ g. next_told d g m s (opens_since g) (tolds g))

  module _ (m : State) (t : FieldTrack) (opens_since : Parity → Opened) (tolds : Parity → Option (List Bool))
      (h : Keeps m t opens_since tolds) where
    pushes : (q : Queue) (entry : Entry) → IsStep (Push q entry) → After m t opens_since tolds (Push q entry)
    pushes q entry data_is =
        record {
          program = program-step (Push q entry) m ∙ h.program;
          orderly = IsOrderly-step (Push q entry) m data_is h.orderly;
          chunks = chunks-step (Push q entry) m ∙ h.chunks;
          told = tolds_stay m t opens_since tolds h (Push q entry) t (λ g. refl) (λ g is. refl);
          place =
              unmoved_place m t opens_since tolds h (Push q entry) (step (Push q entry) m) t refl refl
              (push-Unmoved q entry m h.orderly.queues) (λ g. refl) (λ past gone. nothing_past past) h.place;
        }

    controls : (code : Code) → After m t opens_since tolds (Control code)
    controls code =
        record {
          program = program-step (Control code) m ∙ h.program;
          orderly = IsOrderly-step (Control code) m tt h.orderly;
          chunks = chunks-step (Control code) m ∙ h.chunks;
          told = tolds_stay m t opens_since tolds h (Control code) t (λ g. refl) (λ g is. refl);
          place =
              unmoved_place m t opens_since tolds h (Control code) (step (Control code) m) t refl refl
              (push_control-Unmoved code m h.orderly.queues) (λ g. refl) (λ past gone. nothing_past past) h.place;
        }

    -- host writes
    abbrev PlaceBy : Bool → Bool → Bool → Type 0
    PlaceBy fifo risc on =
        Place (with_risc risc on (with_fifo fifo m)) (written track_notes (Enable fifo risc) m t)
        (λ g. next_opened d g m (Host (Enable fifo risc)) (opens_since g))

    same_queues : (after : State) → after.queues ≡ m.queues → (q : Queue) → QueueKept (queue_state q m.queues) (queue_state q after.queues)
    same_queues after same q =
        subst (λ (qs : Queues). QueueKept (queue_state q m.queues) (queue_state q qs)) (sym same) (queue_same (queue_state q m.queues))

    filled : (risc on : Bool) (after : State) → step (Host (Enable true risc)) m ≡ after → after.job ≡ m.job → after.pc ≡ m.pc →
        after.skipping ≡ m.skipping → after.memory ≡ m.memory → after.queues ≡ m.queues →
        Place after t (λ g. next_opened d g m (Host (Enable true risc)) (opens_since g))
    filled risc on after steps j p k mem qs =
        unmoved_place m t opens_since tolds h (Host (Enable true risc)) after t steps refl
        (record { job = j; pc = p; skipping = k; memory = mem; queues = same_queues after qs }) (λ g. refl)
        (λ past gone. nothing_past past) h.place

    emptied_place : (risc : Bool) (after : State) → step (Host (Enable false risc)) m ≡ after → after.job ≡ m.job → after.pc ≡ m.pc →
        after.skipping ≡ m.skipping → after.memory ≡ m.memory → after.queues ≡ cleared m.queues →
        Place m t opens_since →
        Place after (written track_notes (Enable false risc) m t) (λ g. next_opened d g m (Host (Enable false risc)) (opens_since g))
    emptied_place risc after steps j p k mem qs (inl o) = inl (outside_still m t opens_since tolds h (Host (Enable false risc)) o after j p)
    emptied_place risc after steps j p k mem qs (inr i) =
        let past = past_of i.first i.done in
        let gone = gone_of i.first i.done in
        let visit =
        emptied_visit (compiled d) (signal i.field) (next_of d right i.field) (end_of d right i.field) (section_lines d i.field)
        (few i.field) m t past gone h.orderly.queues after qs j p k i.visit in
        inr (goes_inside m t opens_since tolds h (Host (Enable false risc)) i after (written track_notes (Enable false risc) m t) steps refl
        (subst (λ (x : Past). Visit (compiled d) (signal i.field) (next_of d right i.field) (end_of d right i.field)
        (section_lines d i.field) after (written track_notes (Enable false risc) m t) x
        (λ q. gone q + left q m after)) (sym (nothing_past past)) visit)
        (bytes_still m t opens_since tolds h (Host (Enable false risc)) i after mem j p (nothing_past past)))

    restarts : (after : State) → after.job ≡ Idle → after.pc ≡ m.program.base → Outside after
    restarts after j p =
        let first = first_field d.fields d d.base in
        record {
          field = first.0;
          described = first.1;
          idle = j;
          there = p ∙ ap (λ (program : RiscProgram). program.base) h.program ∙ sym first.2;
        }

    enabled : (fifo risc on : Bool) → m.risc_on ≡ on → PlaceBy fifo risc on
    enabled true true true is = filled true true _ (ap (λ (b : Bool). with_risc true b (with_fifo true m)) is) refl refl refl refl refl
    enabled true false on is = filled false on _ (ap (λ (b : Bool). with_risc false b (with_fifo true m)) is) refl refl refl refl refl
    enabled false true true is =
        emptied_place true _ (ap (λ (b : Bool). with_risc true b (with_fifo false m)) is) refl refl refl refl refl h.place
    enabled false false on is =
        emptied_place false _ (ap (λ (b : Bool). with_risc false b (with_fifo false m)) is) refl refl refl refl refl h.place
    enabled true true false is = inl (restarts (with_risc true false (with_fifo true m)) refl refl)
    enabled false true false is = inl (restarts (with_risc true false (with_fifo false m)) refl refl)

    host_place : (write : HostWrite) →
        Place (host write m) (written track_notes write m t) (λ g. next_opened d g m (Host write) (opens_since g))
    host_place (Ack mask) =
        unmoved_place m t opens_since tolds h (Host (Ack mask)) (host (Ack mask) m) t refl refl
        (record { job = refl; pc = refl; skipping = refl; memory = refl; queues = λ q. queue_same (queue_state q m.queues) }) (λ g. refl)
        (λ past gone. nothing_past past) h.place
    host_place (Trigger number) =
        unmoved_place m t opens_since tolds h (Host (Trigger number)) (host (Trigger number) m) t refl refl
        (record { job = refl; pc = refl; skipping = refl; memory = refl; queues = λ q. queue_same (queue_state q m.queues) }) (λ g. refl)
        (λ past gone. nothing_past past) h.place
    host_place (Enable fifo risc) = enabled fifo risc m.risc_on refl

    writes_on : (write : HostWrite) → After m t opens_since tolds (Host write)
    writes_on write =
        record {
          program = program-step (Host write) m ∙ h.program;
          orderly = IsOrderly-step (Host write) m tt h.orderly;
          chunks = chunks-step (Host write) m ∙ h.chunks;
          told =
              tolds_stay m t opens_since tolds h (Host write) (written track_notes write m t) (λ g. written_calm write m t g)
              (λ g is. refl);
          place = host_place write;
        }

    -- ---- a turn within a section

    module _ (i : Inside m t opens_since) where
      abbrev f : Parity
      f = i.field

      abbrev VisitTo : FieldTrack → Type 0
      VisitTo next =
          Visit (compiled d) (signal f) (next_of d right f) (end_of d right f) (section_lines d f) (turn m) next
          (past_next (past_of i.first i.done) (gone_of i.first i.done) m Turn)
          (λ q. gone_of i.first i.done q + left q m (turn m))

      turns_within : VisitTo (turned (compiled d) (seen m).did (seen m) t) →
          (m.risc_on ≡ true → m.job ≡ Idle → Plainly (fetch (compiled d) m.pc)) → After m t opens_since tolds Turn
      turns_within visit plainly =
          let within = seen_within m (λ on idle. subst (λ (p : RiscProgram). Plainly (fetch p m.pc)) (sym h.program) (plainly on idle)) in
          let closed : (g : Parity) → describes d.fields g ≡ true → is_opening d g m Turn ≡ false = λ g is.
          opening_by (is_synced (seen m).did) (seen m).at (begin_of d right g)
          (λ syncs same.
          let w = within.synced syncs in
          plain_opening (fetch m.program m.pc) (vertical g) 2 w.1 (ap₂ fetch h.program (sym w.0 ∙ same) ∙ opens_there d right g is)) in
          record {
            program = program-step Turn m ∙ h.program;
            orderly = IsOrderly-step Turn m tt h.orderly;
            chunks = chunks-step Turn m ∙ h.chunks;
            told =
                tolds_stay m t opens_since tolds h Turn (track_next m Turn t)
                (λ g. calm (seen m).did m.program (seen m) t g within.unjumped)
                (λ g is.
                signal_by m.risc_on m.job m.pc (end_of d right g)
                (λ on idle same. plain_jump (fetch (compiled d) m.pc) (signal g) (next_of d right g) 2 (plainly on idle)
                (ap (fetch (compiled d)) same ∙ closes_there d right g is)));
            place =
                inr (goes_inside m t opens_since tolds h Turn i (turn m) (track_next m Turn t) refl (closed f i.described)
                (subst (λ (p : RiscProgram). VisitTo (turned p (seen m).did (seen m) t)) (sym h.program) visit)
                (turn_bytes d (compiled_held d right) f i.described m (past_of i.first i.done) i.bytes (gone_of i.first i.done)
                (signal f) (next_of d right f)
                (end_of d right f) t h.program plainly i.visit));
          }

      module _ (on : m.risc_on ≡ true) (idle : m.job ≡ Idle) (at_end : m.pc ≡ end_of d right f)
          (lines : t.lines ≡ map (whole_over (past_of i.first i.done)) (section_lines d f))
          (signals_there : track_next m Turn t ≡ signalled (field_of (signal f).set) t)
          (read : fetch (compiled d) m.pc ≡ Ok (Jump (signal f) (next_of d right f), 2)) where
        signals_here : is_signal (section_of d f) m Turn ≡ true
        signals_here =
            and_from (m.risc_on && is_idle m.job) (m.pc == end_of d right f) (and_from m.risc_on (is_idle m.job) on (ap is_idle idle))
            (eq-eqb m.pc (end_of d right f) at_end)

        told_now : option_map (drop (lines_before d f)) (lines_at_signal f (track_next m Turn t))
            ≡ next_told d f m Turn (opens_since f) (tolds f)
        told_now =
            ap (λ (x : FieldTrack). option_map (drop (lines_before d f)) (lines_at_signal f x)) signals_there
            ∙ ap (option_map (drop (lines_before d f))) (told_here f t)
            ∙ ap (λ (ls : List Bool). Some (drop (lines_before d f) ls)) lines
            ∙ ap Some (drop-map (whole_over (past_of i.first i.done)) (lines_before d f) (section_lines d f)
            ∙ ap (map (whole_over (past_of i.first i.done))) (rows_dropped d f))
            ∙ sym (ap₂ (λ (b : Bool) (o : Opened). told_if d f b o (tolds f)) signals_here i.opened_at)

        told_other : (g : Parity) → describes d.fields g ≡ true → (f ≡ g → ⊥) →
            option_map (drop (lines_before d g)) (lines_at_signal g (track_next m Turn t)) ≡ next_told d g m Turn (opens_since g) (tolds g)
        told_other g is apart =
            let silent : is_signal (section_of d g) m Turn ≡ false =
            signal_by m.risc_on m.job m.pc (end_of d right g)
            (λ on_is idle_is same.
            apart (signals_apart f g (next_of d right f) (next_of d right g)
            (same_read (Jump (signal f) (next_of d right f)) (Jump (signal g) (next_of d right g)) 2 2 (fetch (compiled d) m.pc) read
            (ap (fetch (compiled d)) same ∙ closes_there d right g is)))) in
            ap (λ (x : FieldTrack). option_map (drop (lines_before d g)) (lines_at_signal g x)) signals_there
            ∙ ap (option_map (drop (lines_before d g))) (told_elsewhere f g t apart) ∙ h.told g is
            ∙ sym (ap (λ (b : Bool). told_if d g b (opens_since g) (tolds g)) silent)

        told_by : (g : Parity) → describes d.fields g ≡ true → (f ≡ g) ⊎ (f ≡ g → ⊥) →
            option_map (drop (lines_before d g)) (lines_at_signal g (track_next m Turn t)) ≡ next_told d g m Turn (opens_since g) (tolds g)
        told_by g is (inl same) =
            subst (λ (x : Parity). option_map (drop (lines_before d x)) (lines_at_signal x (track_next m Turn t))
            ≡ next_told d x m Turn (opens_since x) (tolds x)) same told_now
        told_by g is (inr apart) = told_other g is apart

        closes_on : (turn m).job ≡ Idle → (turn m).pc ≡ next_of d right f → After m t opens_since tolds Turn
        closes_on after_idle after_there =
            let next = next_field d.fields d d.base f i.described in
            record {
              program = program-step Turn m ∙ h.program;
              orderly = IsOrderly-step Turn m tt h.orderly;
              chunks = chunks-step Turn m ∙ h.chunks;
              told = λ g is. told_by g is (field_same f g);
              place = inl (record { field = next.0; described = next.1; idle = after_idle; there = after_there ∙ next.2 });
            }

      turned_on : Turned (compiled d) (signal f) (next_of d right f) (end_of d right f) (section_lines d f)
          (few f) m t (past_of i.first i.done) (gone_of i.first i.done) (turn m) (seen m)
          (λ q. step_takings q (gone_of i.first i.done q) m Turn) → After m t opens_since tolds Turn
      turned_on (inl goes) = turns_within goes.0 goes.1
      turned_on (inr closes) =
          let c = closes.0 in
          closes_on closes.1 c.was_idle c.was_there c.lines
          (ap (λ (p : RiscProgram). turned p (seen m).did (seen m) t) h.program ∙ c.signals_field) c.fetched_there c.idle c.there

      turns_inside : After m t opens_since tolds Turn
      turns_inside =
          turned_on (turn_on (compiled d) (signal f) (next_of d right f) (end_of d right f) (section_lines d f) (few f) m t
          (past_of i.first i.done) (gone_of i.first i.done) h.program i.visit)

    -- ---- a turn outside

    module _ (o : Outside m) where
      rests : m.risc_on ≡ false → After m t opens_since tolds Turn
      rests off =
          let turn_is : turn m ≡ counted m = ap (λ (b : Bool). turn_if b (counted m)) off in
          let seen_is : seen m ≡ seen_alone Still m.pc = ap (λ (b : Bool). seen_if b m) off in
          let same : track_next m Turn t ≡ t = ap (λ (s : Seen). turned m.program s.did s t) seen_is in
          record {
            program = program-step Turn m ∙ h.program;
            orderly = IsOrderly-step Turn m tt h.orderly;
            chunks = chunks-step Turn m ∙ h.chunks;
            told =
                tolds_stay m t opens_since tolds h Turn (track_next m Turn t) (λ g. ap (lines_at_signal g) same)
                (λ g is. signal_by m.risc_on m.job m.pc (end_of d right g) (λ on. let never : true ≡ false = sym on ∙ off in cc));
            place =
                inl (outside_still m t opens_since tolds h Turn o (turn m) (ap (λ (x : State). x.job) turn_is)
                (ap (λ (x : State). x.pc) turn_is));
          }

      module _ (on : m.risc_on ≡ true) where
        abbrev opened_field : Parity
        opened_field = o.field

        read : fetch m.program m.pc ≡ Ok (opening opened_field, 2)
        read = ap₂ fetch h.program o.there ∙ opens_there d right opened_field o.described

        turn_is : turn m ≡ fetched (Ok (opening opened_field, 2)) (counted m)
        turn_is =
            ap (λ (b : Bool). turn_if b (counted m)) on ∙ ap (λ (j : Job). worked j (counted m)) o.idle
            ∙ ap (λ (r : Reading). fetched r (counted m)) read

        seen_is : seen m ≡ seen_alone Synced m.pc
        seen_is =
            ap (λ (b : Bool). seen_if b m) on ∙ ap (λ (j : Job). seen_in j m) o.idle
            ∙ ap (λ (r : Reading). seen_alone (fetched_did r m.skipping) m.pc) read

        nothing_taken : (q : Queue) → step_takings q 0 m Turn ++ [] ≡ []
        nothing_taken q =
            append-nil (step_takings q 0 m Turn) ∙ ap (λ (b : Bool). takings_if b q 0 (counted m)) on
            ∙ ap (λ (j : Job). worked_takings j q 0 (counted m)) o.idle

        none_retired : step_retires m Turn ++ [] ≡ []
        none_retired = append-nil (step_retires m Turn) ∙ ap (λ (s : Seen). retired_at s.did s.at) seen_is

        track_is : track_next m Turn t ≡ record t { marks = fresh; lost = false; lines = [] }
        track_is = ap (λ (s : Seen). turned m.program s.did s t) seen_is ∙ ap (λ (r : Reading). opened (opens r) t) read

        opens_here : is_opening d opened_field m Turn ≡ true
        opens_here =
            and_from (is_synced (seen m).did) ((seen m).at == begin_of d right opened_field) (ap (λ (s : Seen). is_synced s.did) seen_is)
            (eq-eqb (seen m).at (begin_of d right opened_field) (ap (λ (s : Seen). s.at) seen_is ∙ o.there))

        gap : InGap (compiled d) (signal opened_field) (next_of d right opened_field) (end_of d right opened_field)
            (section_lines d opened_field)
            (fetched (Ok (opening opened_field, 2)) (counted m)) (record t { marks = fresh; lost = false; lines = [] })
            (past_of m (Turn ∷ []))
        gap =
            record {
              here = begin_of d right opened_field + 8;
              lines = [];
              parts = section_parts d opened_field;
              whole = refl;
              stands = holds_parts d right opened_field o.described;
              ends = ends_parts d right opened_field;
              are = parts_cut d opened_field right o.described;
              through = record {
                told = refl;
                below = tt;
                taken = λ q. subst (λ (ts : List Taking). TakenBelow (begin_of d right opened_field + 8) ts) (sym (nothing_taken q)) tt;
                retired = subst (AreBelow (begin_of d right opened_field + 8)) (sym none_retired) tt;
              };
              fresh = refl;
              unlost = refl;
              job = ap (λ (pc : ℕ). pc + 8) o.there;
            }

        visit_by : (after : State) (next : FieldTrack) → after ≡ fetched (Ok (opening opened_field, 2)) (counted m) →
            next ≡ record t { marks = fresh; lost = false; lines = [] } →
            Visit (compiled d) (signal opened_field) (next_of d right opened_field) (end_of d right opened_field)
            (section_lines d opened_field) after next (past_of m (Turn ∷ [])) (gone_of m (Turn ∷ []))
        visit_by after next is next_is =
            subst (λ (x : State). Visit (compiled d) (signal opened_field) (next_of d right opened_field) (end_of d right opened_field)
            (section_lines d opened_field) x next (past_of m (Turn ∷ [])) (gone_of m (Turn ∷ []))) (sym is)
            (subst (λ (x : FieldTrack). Visit (compiled d) (signal opened_field) (next_of d right opened_field)
            (end_of d right opened_field) (section_lines d opened_field)
            (fetched (Ok (opening opened_field, 2)) (counted m)) x (past_of m (Turn ∷ [])) (gone_of m (Turn ∷ []))) (sym next_is)
            (inl gap))

        fresh_calm : (g : Parity) → lines_at_signal g (record t { marks = fresh; lost = false; lines = [] }) ≡ lines_at_signal g t
        fresh_calm Top = refl
        fresh_calm Bottom = refl

        opens_now : After m t opens_since tolds Turn
        opens_now =
            record {
              program = program-step Turn m ∙ h.program;
              orderly = IsOrderly-step Turn m tt h.orderly;
              chunks = chunks-step Turn m ∙ h.chunks;
              told =
                  tolds_stay m t opens_since tolds h Turn (track_next m Turn t) (λ g. ap (lines_at_signal g) track_is ∙ fresh_calm g)
                  (λ g is.
                  signal_by m.risc_on m.job m.pc (end_of d right g)
                  (λ on_is idle_is same.
                  let other : opening opened_field ≡ Jump (signal g) (next_of d right g) =
                  same_read (opening opened_field) (Jump (signal g) (next_of d right g)) 2 2 (fetch m.program m.pc) read
                  (ap₂ fetch h.program same ∙ closes_there d right g is) in cc));
              place =
                  inr (record {
                    field = opened_field;
                    described = o.described;
                    first = m;
                    done = Turn ∷ [];
                    opened_at = ap (λ (b : Bool). opened_if b m Turn (opens_since opened_field)) opens_here;
                    there = refl;
                    visit = visit_by (turn m) (track_next m Turn t) turn_is track_is;
                    bytes =
                        fresh_bytes d (compiled_held d right) opened_field o.described (turn m) (past_of m (Turn ∷ []))
                        (chunks-step Turn m ∙ h.chunks) nothing_taken none_retired
                        (subst (λ (x : State). JobHas d (compiled_held d right) opened_field o.described x.pc x.job (past_of m (Turn ∷ [])))
                        (sym turn_is)
                        (λ q. subst (λ (ts : List Taking). TakenBelow (m.pc + 8) ts) (sym (nothing_taken q)) tt));
                  });
            }

      turns_outside : (on : Bool) → m.risc_on ≡ on → After m t opens_since tolds Turn
      turns_outside true is = opens_now is
      turns_outside false is = rests is

    turns_by : Place m t opens_since → After m t opens_since tolds Turn
    turns_by (inl o) = turns_outside o m.risc_on refl
    turns_by (inr i) = turns_inside i

    pub after_step : (s : Step) → IsStep s → After m t opens_since tolds s
    after_step (Push q entry) is = pushes q entry is
    after_step (Control code) is = controls code
    after_step Turn is = turns_by h.place
    after_step (Host write) is = writes_on write

  keeps_told : (steps : List Step) (m : State) (t : FieldTrack) (opens_since : Parity → Opened) (tolds : Parity → Option (List Bool)) →
      All IsStep steps → Keeps m t opens_since tolds →
      (g : Parity) → describes d.fields g ≡ true →
      option_map (drop (lines_before d g)) (lines_at_signal g (tracked m steps t)) ≡ told_after d g (opens_since g) (tolds g) m steps
  keeps_told [] m t opens_since tolds made h g is = h.told g is
  keeps_told (s ∷ steps) m t opens_since tolds made h g is =
      keeps_told steps (step s m) (track_next m s t) (λ x. next_opened d x m s (opens_since x))
      (λ x. next_told d x m s (opens_since x) (tolds x)) (All-tail IsStep s steps made)
      (after_step m t opens_since tolds h s (All-head IsStep s steps made)) g is

  pub at_first : (fill : ℕ) → Keeps (first_state (compiled d) fill) (untold d) (λ g. None) (λ g. None)
  at_first fill =
      let first = first_field d.fields d d.base in
      record {
        program = refl;
        orderly = IsOrderly-first_state (compiled d) fill;
        chunks = chunks_of-filled fill (compiled d).grants;
        told = λ g is. untold_none d g (lines_before d g);
        place = inl (record { field = first.0; described = first.1; idle = refl; there = sym first.2 });
      }

-- ---- no marks exactly before the first signal

pub pc_at : (on : Bool) (job : Job) (pc c : ℕ) → (on && is_idle job && pc == c) ≡ true → (on ≡ true) × (job ≡ Idle) × (pc ≡ c)
pc_at true Idle pc c is = (refl, refl, eqb-true pc c is)
pc_at true (Waiting ctl resync code) pc c is = cc
pc_at true (Running instr ds) pc c is = cc
pc_at false job pc c is = cc

module _ (d : Desc) (right : IsRight d) (skips : SkipsFew d) where
  module _ (m : State) (t : FieldTrack) (opens_since : Parity → Opened) (tolds : Parity → Option (List Bool))
      (h : Keeps d right skips m t opens_since tolds) (g : Parity)
      (is : describes d.fields g ≡ true) where
    closing_read : (m.risc_on && is_idle m.job && m.pc == end_of d right g) ≡ true →
        fetch (compiled d) m.pc ≡ Ok (Jump (signal g) (next_of d right g), 2)
    closing_read here = ap (fetch (compiled d)) (pc_at m.risc_on m.job m.pc (end_of d right g) here).2 ∙ closes_there d right g is

    inside_signals : (i : Inside d right skips m t opens_since) → (m.risc_on && is_idle m.job && m.pc == end_of d right g) ≡ true →
        Turned (compiled d) (signal i.field) (next_of d right i.field) (end_of d right i.field) (section_lines d i.field)
        (few d right skips i.field) m t (past_of i.first i.done) (gone_of i.first i.done)
        (turn m) (seen m) (λ q. step_takings q (gone_of i.first i.done q) m Turn) → is_some (opens_since g) ≡ true
    inside_signals i here (inl goes) =
        let at = pc_at m.risc_on m.job m.pc (end_of d right g) here in
        absurd (plain_jump (fetch (compiled d) m.pc) (signal g) (next_of d right g) 2 (goes.1 at.0 at.1) (closing_read here))
    inside_signals i here (inr closes) =
        let f = i.field in
        let same : f ≡ g =
        signals_apart f g (next_of d right f) (next_of d right g)
        (same_read (Jump (signal f) (next_of d right f)) (Jump (signal g) (next_of d right g)) 2 2
        (fetch (compiled d) m.pc) closes.0.fetched_there (closing_read here)) in
        subst (λ (x : Parity). is_some (opens_since x) ≡ true) same (ap is_some i.opened_at)

    placed_signals : Place d right skips m t opens_since → (m.risc_on && is_idle m.job && m.pc == end_of d right g) ≡ true →
        is_some (opens_since g) ≡ true
    placed_signals (inl o) here =
        let other : opening o.field ≡ Jump (signal g) (next_of d right g) =
        same_read (opening o.field) (Jump (signal g) (next_of d right g)) 2 2 (fetch (compiled d) m.pc)
        (ap (fetch (compiled d)) o.there ∙ opens_there d right o.field o.described) (closing_read here) in
        cc
    placed_signals (inr i) here =
        inside_signals i here
        (turn_on (compiled d) (signal i.field) (next_of d right i.field) (end_of d right i.field) (section_lines d i.field)
        (few d right skips i.field) m t (past_of i.first i.done) (gone_of i.first i.done)
        h.program i.visit)

    -- a field that is signalled was opened
    signal_opened : (s : Step) → is_signal (section_of d g) m s ≡ true → is_some (opens_since g) ≡ true
    signal_opened Turn here = placed_signals h.place here
    signal_opened (Push q entry) here = cc
    signal_opened (Control code) here = cc
    signal_opened (Host write) here = cc

    some_mapped : (o : Opened) → is_some o ≡ true → is_some (option_map (marks_over d g) o) ≡ true
    some_mapped None some = cc
    some_mapped (Some x) some = refl

    told_next : (s : Step) (here : Bool) → is_signal (section_of d g) m s ≡ here → (here ≡ true) ⊎ (is_some (tolds g) ≡ true) →
        is_some (told_if d g here (opens_since g) (tolds g)) ≡ true
    told_next s true is_here either = some_mapped (opens_since g) (signal_opened s is_here)
    told_next s false is_here (inl never) = cc
    told_next s false is_here (inr some) = some

  keeps_some : (steps : List Step) (m : State) (t : FieldTrack) (opens_since : Parity → Opened) (tolds : Parity → Option (List Bool)) →
      All IsStep steps → Keeps d right skips m t opens_since tolds →
      (g : Parity) → describes d.fields g ≡ true →
      (is_some (last_step (is_signal (section_of d g)) m steps) ≡ true) ⊎ (is_some (tolds g) ≡ true) →
      is_some (told_after d g (opens_since g) (tolds g) m steps) ≡ true
  keeps_some [] m t opens_since tolds made h g is (inl never) = cc
  keeps_some [] m t opens_since tolds made h g is (inr some) = some
  keeps_some (s ∷ steps) m t opens_since tolds made h g is either =
      keeps_some steps (step s m) (track_next m s t) (λ x. next_opened d x m s (opens_since x))
      (λ x. next_told d x m s (opens_since x) (tolds x)) (All-tail IsStep s steps made)
      (after_step d right skips m t opens_since tolds h s (All-head IsStep s steps made)) g is
      (later (last_step (is_signal (section_of d g)) (step s m) steps) refl either)
    where
      now_or : (here : Bool) → is_some (later_or here None) ≡ true → here ≡ true
      now_or true some = refl
      now_or false some = cc

      later : (last : Option ℕ) → last_step (is_signal (section_of d g)) (step s m) steps ≡ last →
          (is_some (later_or (is_signal (section_of d g) m s) last) ≡ true) ⊎ (is_some (tolds g) ≡ true) →
          (is_some last ≡ true) ⊎ (is_some (next_told d g m s (opens_since g) (tolds g)) ≡ true)
      later (Some k) last_is either = inl refl
      later None last_is (inl some) =
          inr (told_next m t opens_since tolds h g is s (is_signal (section_of d g) m s) refl
          (inl (now_or (is_signal (section_of d g) m s) some)))
      later None last_is (inr some) = inr (told_next m t opens_since tolds h g is s (is_signal (section_of d g) m s) refl (inr some))

none_or_some : {A : Type 0} (x : Option A) → (x ≡ None) ⊎ (is_some x ≡ true)
none_or_some None = inl refl
none_or_some (Some x) = inr refl

before_is : (d : Desc) (field : Parity) → before_of field (before_rows d) ≡ lines_before d field
before_is d Top = refl
before_is d Bottom = refl

-- so many lines as are before its rows are dropped of a field's
pub rows_behind : (d : Desc) (field : Parity) (fill : ℕ) (steps : List Step) →
    rows_of field (map_after d fill steps)
    ≡ option_map (drop (lines_before d field)) (lines_at_signal field (tracked (first_state (compiled d) fill) steps (untold d)))
rows_behind d field fill steps =
    let t = tracked (first_state (compiled d) fill) steps (untold d) in
    ap (λ (n : ℕ). option_map (drop n) (lines_at_signal field t))
    (ap (before_of field) (tracked_before steps (first_state (compiled d) fill) (untold d)) ∙ before_is d field)

pub keeps_answers : KeepsAnswers
keeps_answers d field fill steps is valid described made =
    let right = IsFrame-IsRight d is (IsValid-IsFrame d valid) in
    rows_behind d field fill steps
    ∙ keeps_told d right (skips_few d is) steps (first_state (compiled d) fill) (untold d) (λ g. None) (λ g. None) made
    (at_first d right (skips_few d is) fill) field described
    ∙ told_after-answer d field (first_state (compiled d) fill) steps

pub tells_signals : TellsSignals
tells_signals d field fill steps is valid described made = (forth, back)
  where
    forth : rows_of field (map_after d fill steps) ≡ None →
        last_step (is_signal (section_of d field)) (first_state (compiled d) fill) steps ≡ None
    forth none = by_last (none_or_some (last_step (is_signal (section_of d field)) (first_state (compiled d) fill) steps))
      where
        by_last : (last_step (is_signal (section_of d field)) (first_state (compiled d) fill) steps ≡ None)
            ⊎ (is_some (last_step (is_signal (section_of d field)) (first_state (compiled d) fill) steps) ≡ true) →
            last_step (is_signal (section_of d field)) (first_state (compiled d) fill) steps ≡ None
        by_last (inl is_none_there) = is_none_there
        by_last (inr some) =
            let told =
            keeps_some d (IsFrame-IsRight d is (IsValid-IsFrame d valid)) (skips_few d is) steps (first_state (compiled d) fill) (untold d)
            (λ g. None) (λ g. None) made
            (at_first d (IsFrame-IsRight d is (IsValid-IsFrame d valid)) (skips_few d is) fill) field described (inl some) in
            let never : false ≡ true =
            ap is_some (sym none ∙ keeps_answers d field fill steps is valid described made
            ∙ sym (told_after-answer d field (first_state (compiled d) fill) steps)) ∙ told in
            cc

    back : last_step (is_signal (section_of d field)) (first_state (compiled d) fill) steps ≡ None →
        rows_of field (map_after d fill steps) ≡ None
    back none =
        keeps_answers d field fill steps is valid described made
        ∙ ap (option_and_then (marks_to d field (first_state (compiled d) fill) steps)) none
