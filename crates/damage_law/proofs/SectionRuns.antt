-- From the opening of a section that a program holds the machine stays in the section up to its closing, as long as the DMA
-- controller is on. The rows that are whole then hold their lines.
use Rattle.std.proofs.Common.{◌≡◌, ℕ, ◌+◌, ◌*◌, ◌<◌, ◌≤◌, ◌⊎◌, inl, inr, Bool, true, false, ◌&&◌, ◌==◌, All, List, [], ◌∷◌, ◌++◌, length}
use Rattle.std.proofs.Common.{Option, Some, None, Ok, refl, sym, ap, ap₂, ◌∙◌, subst, arith, eqb-true}
use Rattle.std.proofs.lemmas.Bool.{and_parts, false≢true}
use Rattle.std.specs.Prelude.{slice_index_or}
use Rattle.std.proofs.lemmas.List.{append-nil}
use Rattle.std.proofs.lemmas.List.FromFn.{length-map-range_with_len}
use Rattle.risc_word.specs.declared.Code.{Code}
use Rattle.risc_word.specs.declared.Ctl.{Ctl}
use Rattle.risc_word.specs.declared.Instr.{Instr}
use Rattle.risc_word.specs.declared.Instr.TheVariants.{Jump, Sync, Write, Skip, WriteC, Write123, Skip123, Write1S23}
use Rattle.risc_word.specs.Words.{Reading, code_number}
use Rattle.fifo_model.specs.declared.Queue.{Queue}
use Rattle.fifo_model.specs.Queues.{cleared, queue_state, removed}
use Rattle.irq_status.specs.declared.HostWrite.{HostWrite}
use Rattle.irq_status.specs.declared.HostWrite.TheVariants.{Ack, Enable, Trigger}
use Rattle.page_table.specs.Blocks.{byte_at, chunks_of}
use Rattle.pixel_layout.specs.declared.Parity.{Parity}
use Rattle.machine_model.specs.declared.Cause.{Cause}
use Rattle.machine_model.specs.declared.Demands.{Demands}
use Rattle.machine_model.specs.declared.Did.TheVariants.{Synced}
use Rattle.machine_model.specs.declared.Job.{Job}
use Rattle.machine_model.specs.declared.Job.TheVariants.{Idle, Waiting, Running}
use Rattle.machine_model.specs.declared.Seen.{Seen}
use Rattle.machine_model.specs.declared.Skipping.{Skipping}
use Rattle.machine_model.specs.declared.Skipping.TheVariants.{Nothing, ToEol, ToSync}
use Rattle.machine_model.specs.Paths.{RiscProgram, fetch, is_data}
use Rattle.machine_model.specs.Safety.{IsOrderly, IsStep}
use Rattle.machine_model.specs.Accesses.{stores_if, worked_stores}
use Rattle.machine_model.specs.Seen.{address_before, fetched_did, seen, seen_alone, seen_if, seen_in}
use Rattle.machine_model.specs.States.{State}
use Rattle.machine_model.specs.Steps.{Control, Host, Push, Step, Turn, run, step, with_fifo, with_risc}
use Rattle.machine_model.specs.Turns.{begun_with, burst_of, code_seen, common_code, counted, data_fetched, fetched, instr_fetched, is_done}
use Rattle.machine_model.specs.Turns.{lowest_served, lowest_stray, met, ran, stored_all, stray_seen, turn, turn_if}
use Rattle.machine_model.specs.Turns.{with_fdsr_unless, with_queue, without_codes, worked}
use Rattle.machine_model.proofs.Orderly.{IsOrderly-step}
use Rattle.machine_model.proofs.ProgramStays.{chunks-step, program-step}
use Rattle.machine_model.proofs.Runs.{run-append}
use Rattle.machine_model.proofs.Stored.{memory-turn}
use Rattle.capture_desc.specs.declared.desc.Desc.{Desc}
use Rattle.picture_model.specs.Described.{both, describes, field_height, picture_row, rows_of}
use Rattle.picture_model.specs.Programs.{body, opening, signal, sync}
use Rattle.field_law.specs.Sections.{HoldsFrom, words_in}
use Rattle.damage_model.specs.Marks.{before_rows, is_opening_at, is_synced, is_whole, marks_at, row_addresses_at}
use Rattle.damage_model.specs.Takings.{Taking, left, retired_at, step_retires, step_takings, takings_if, worked_takings}
use Rattle.damage_model.proofs.EnteredRows.{whole_rows_entered}
use Rattle.damage_model.proofs.Held.{IsHeld}
use Rattle.machine_watch.specs.Watches.{written}
use Rattle.damage_law.specs.Asked.{HoldsLine}
use Rattle.damage_map.specs.Tracks.{FieldTrack, fresh, max_lines, track_notes, turned, untold}
use Rattle.damage_law.proofs.AnswersKept.{gone_next, gone_of, gone_of_more, nothing_past, past_more, past_next, past_of}
use Rattle.damage_law.proofs.AnswersKept.{running_calm, waited_calm}
use Rattle.damage_law.proofs.Compiled.{SkipsFew, body_parts, few_lines, lines_many, parts_cut, section_lines_at, section_parts}
use Rattle.damage_law.proofs.PlacedSteps.{fresh_bytes, turn_bytes}
use Rattle.damage_law.proofs.PlacedTurns.{JobHas, KeepsBytes, burst_pc, bytes_with}
use Rattle.damage_law.proofs.Sections.{AreBelow, Past, TakenBelow}
use Rattle.damage_law.proofs.SectionSteps.{Unmoved, emptied_visit, push-Unmoved, push_control-Unmoved, unmoved_on}
use Rattle.damage_law.proofs.SectionTurns.{Plainly, Turned, queue_same, turn_on}
use Rattle.damage_law.proofs.StandingRows.{index_below, index_map, row_asked, row_stands}
use Rattle.damage_law.proofs.Visits.{InGap, Visit}

-- ---- a turn that jumps nowhere doesn't go back

unless_pc : (resync : Bool) (m : State) → (with_fdsr_unless resync m).pc ≡ m.pc
unless_pc true m = refl
unless_pc false m = refl

met_pc : (same : Bool) (ctl : Ctl) (resync : Bool) (m : State) → (met same ctl resync m).pc ≡ m.pc
met_pc true ctl resync m = refl
met_pc false ctl resync m = unless_pc resync (without_codes m)

sees_pc : (common : Option Code) (ctl : Ctl) (resync : Bool) (code : Code) (m : State) → (code_seen common ctl resync code m).pc ≡ m.pc
sees_pc None ctl resync code m = refl
sees_pc (Some other) ctl resync code m = met_pc (code_number other == code_number code) ctl resync m

stray_pc : (stray : Option Queue) (ctl : Ctl) (resync : Bool) (code : Code) (m : State) → (stray_seen stray ctl resync code m).pc ≡ m.pc
stray_pc None ctl resync code m = sees_pc (common_code m.queues) ctl resync code m
stray_pc (Some q) ctl resync code m = unless_pc resync (with_queue q (removed (queue_state q m.queues)) m)

burst_of_pc : (found : Option Queue) (m : State) → (burst_of found m).pc ≡ m.pc
burst_of_pc None m = refl
burst_of_pc (Some q) m = burst_pc m.trigger q m

ran_pc : (done : Bool) (instr : Instr) (ds : Demands) (m : State) → (ran done instr ds m).pc ≡ m.pc
ran_pc true instr ds m = refl
ran_pc false instr ds m = burst_of_pc (lowest_served ds m) m

begun_further : (cause : Option Cause) (instr : Instr) (count : ℕ) (target : Option ℕ) (m : State) →
    m.pc ≤ (begun_with cause instr count target m).pc
begun_further (Some cause) instr count target m =
    let same : (begun_with (Some cause) instr count target m).pc ≡ m.pc = refl in omega arith
begun_further None instr count target m =
    let more : (begun_with None instr count target m).pc ≡ m.pc + 4 * count = refl in omega arith

data_further : (skipping : Skipping) (instr : Instr) (count : ℕ) (m : State) → m.pc ≤ (data_fetched skipping instr count m).pc
data_further Nothing instr count m = begun_further _ instr count _ m
data_further ToEol instr count m = let more : (data_fetched ToEol instr count m).pc ≡ m.pc + 4 * count = refl in omega arith
data_further ToSync instr count m = let more : (data_fetched ToSync instr count m).pc ≡ m.pc + 4 * count = refl in omega arith

instr_further : (i : Instr) (count : ℕ) (m : State) → is_data i ≡ true → m.pc ≤ (instr_fetched i count m).pc
instr_further (Jump ctl to) count m is = cc
instr_further (Sync ctl resync code) count m is = cc
instr_further (Write ctl ends off n addr) count m is = data_further m.skipping (Write ctl ends off n addr) count m
instr_further (Skip ctl ends n) count m is = data_further m.skipping (Skip ctl ends n) count m
instr_further (WriteC ctl ends off n) count m is = data_further m.skipping (WriteC ctl ends off n) count m
instr_further (Write123 ctl ends off counts addrs) count m is = data_further m.skipping (Write123 ctl ends off counts addrs) count m
instr_further (Skip123 ctl ends counts) count m is = data_further m.skipping (Skip123 ctl ends counts) count m
instr_further (Write1S23 ctl ends off counts addr) count m is = data_further m.skipping (Write1S23 ctl ends off counts addr) count m

fetched_further : (r : Reading) (m : State) → Plainly r → m.pc ≤ (fetched r m).pc
fetched_further r m p = subst (λ (x : Reading). m.pc ≤ (fetched x m).pc) (sym p.read) (by_plain p.plain)
  where
    by_plain : (is_data p.instr ≡ true) ⊎ ((code : Code) × (p.instr ≡ sync false code)) → m.pc ≤ (instr_fetched p.instr p.many m).pc
    by_plain (inl data_is) = instr_further p.instr p.many m data_is
    by_plain (inr awaits) =
        let more : (instr_fetched (sync false awaits.0) p.many m).pc ≡ m.pc + 4 * p.many = refl in
        subst (λ (i : Instr). m.pc ≤ (instr_fetched i p.many m).pc) (sym awaits.1) (omega arith)

worked_further : (job : Job) (m : State) → (job ≡ Idle → Plainly (fetch m.program m.pc)) → m.pc ≤ (worked job m).pc
worked_further Idle m plainly = fetched_further (fetch m.program m.pc) m (plainly refl)
worked_further (Waiting ctl resync code) m plainly =
    let same : (worked (Waiting ctl resync code) m).pc ≡ m.pc = stray_pc (lowest_stray m.queues) ctl resync code m in omega arith
worked_further (Running instr ds) m plainly =
    let same : (worked (Running instr ds) m).pc ≡ m.pc = ran_pc (is_done ds) instr ds m in omega arith

turn_further : (on : Bool) (m : State) → (on ≡ true → m.job ≡ Idle → Plainly (fetch m.program m.pc)) → m.pc ≤ (turn_if on (counted m)).pc
turn_further false m plainly = let same : (turn_if false (counted m)).pc ≡ m.pc = refl in omega arith
turn_further true m plainly = worked_further m.job (counted m) (plainly refl)

-- a turn that fetches nothing stays where it is
worked_there : (job : Job) (m : State) → (job ≡ Idle → ⊥) → (worked job m).pc ≡ m.pc
worked_there Idle m busy = absurd (busy refl)
worked_there (Waiting ctl resync code) m busy = stray_pc (lowest_stray m.queues) ctl resync code m
worked_there (Running instr ds) m busy = ran_pc (is_done ds) instr ds m

turn_there : (on : Bool) (m : State) → (on ≡ true → m.job ≡ Idle → ⊥) → (turn_if on (counted m)).pc ≡ m.pc
turn_there false m busy = refl
turn_there true m busy = worked_there m.job (counted m) (busy refl)

pub busy_stays : (m : State) → (m.risc_on ≡ true → m.job ≡ Idle → ⊥) → (turn m).pc ≡ m.pc
busy_stays m busy = turn_there m.risc_on m busy

-- ---- host writes while the DMA controller is on

-- the queues are emptied, and the machine is where it was
record Emptied (m after : State) : Type 0 where
  job : after.job ≡ m.job
  pc : after.pc ≡ m.pc
  skipping : after.skipping ≡ m.skipping
  memory : after.memory ≡ m.memory
  queues : after.queues ≡ cleared m.queues

enabled_unmoved : (risc on : Bool) (m : State) → on ≡ true → Unmoved m (with_risc risc on (with_fifo true m))
enabled_unmoved true true m is =
    record { job = refl; pc = refl; skipping = refl; memory = refl; queues = λ q. queue_same (queue_state q m.queues) }
enabled_unmoved true false m is = cc
enabled_unmoved false on m is =
    record { job = refl; pc = refl; skipping = refl; memory = refl; queues = λ q. queue_same (queue_state q m.queues) }

enabled_emptied : (risc on : Bool) (m : State) → on ≡ true → Emptied m (with_risc risc on (with_fifo false m))
enabled_emptied true true m is = record { job = refl; pc = refl; skipping = refl; memory = refl; queues = refl }
enabled_emptied true false m is = cc
enabled_emptied false on m is = record { job = refl; pc = refl; skipping = refl; memory = refl; queues = refl }

-- ---- openings and signals

job_opens : (job : Job) (m : State) (begin : ℕ) → (is_synced (seen_in job m).did && (seen_in job m).at == begin) ≡ true →
    (job ≡ Idle) × (m.pc ≡ begin)
job_opens Idle m begin is = (refl, eqb-true m.pc begin (and_parts (is_synced (seen_in Idle m).did) (m.pc == begin) is).1)
job_opens (Waiting ctl resync code) m begin is =
    let s = seen_in (Waiting ctl resync code) m in
    let calm = waited_calm (lowest_stray m.queues) (common_code m.queues) code in
    absurd (false≢true (sym calm.1 ∙ (and_parts (is_synced s.did) (s.at == begin) is).0))
job_opens (Running instr ds) m begin is =
    let s = seen_in (Running instr ds) m in
    let calm = running_calm (is_done ds) (address_before m.pc instr) ds m in
    absurd (false≢true (sym calm.1 ∙ (and_parts (is_synced s.did) (s.at == begin) is).0))

risc_opens : (on : Bool) (m : State) (begin : ℕ) → (is_synced (seen_if on m).did && (seen_if on m).at == begin) ≡ true →
    (on ≡ true) × (m.job ≡ Idle) × (m.pc ≡ begin)
risc_opens false m begin is = cc
risc_opens true m begin is = let opens = job_opens m.job m begin is in (refl, opens.0, opens.1)

-- the machine is about to fetch the opening
pub opens_at : (m : State) (begin : ℕ) → is_opening_at begin m Turn ≡ true → (m.risc_on ≡ true) × (m.job ≡ Idle) × (m.pc ≡ begin)
opens_at m begin is = risc_opens m.risc_on m begin is

-- a fetch leaves memory as it is
pub idle_memory : (m : State) → m.risc_on ≡ true → m.job ≡ Idle → (turn m).memory ≡ m.memory
idle_memory m on idle =
    memory-turn m ∙ ap (λ (b : Bool). stored_all m.memory (stores_if b (counted m))) on
    ∙ ap (λ (job : Job). stored_all m.memory (worked_stores job (counted m))) idle

-- ---- a section

module _ (d : Desc) (held : IsHeld d) (skips : SkipsFew d) (field : Parity) (described : describes d.fields field ≡ true) where
  abbrev pub end : ℕ
  end = held.begin field + 8 + 4 * words_in (body d field)

  abbrev all : List (List ℕ)
  all = section_lines_at d (held.begin field) field

  few : length all ≤ max_lines
  few = few_lines d (held.begin field) field held.right skips

  abbrev VisitAt : State → FieldTrack → Past → (Queue → ℕ) → Type 0
  VisitAt m t past gone = Visit held.program (signal field) (held.next field) end all m t past gone

  abbrev Bytes : State → Past → Type 0
  Bytes m past = KeepsBytes d held field described m past

  -- within it, since the machine began to wait in its opening at the first state
  pub record InSection (first m : State) (t : FieldTrack) (done : List Step) : Type 0 where
    pub there : m ≡ run first done
    pub program : m.program ≡ held.program
    pub orderly : IsOrderly m
    pub low : held.begin field + 8 ≤ m.pc
    pub visit : VisitAt m t (past_of first done) (gone_of first done)
    pub bytes : Bytes m (past_of first done)

  module _ (first m : State) (t : FieldTrack) (done : List Step) (i : InSection first m t done) where
    abbrev past : Past
    past = past_of first done

    abbrev gone : Queue → ℕ
    gone = gone_of first done

    abbrev GoesOn : Step → FieldTrack → Type 0
    GoesOn s next = InSection first (step s m) next (done ++ s ∷ [])

    goes_on : (s : Step) (next : FieldTrack) → IsStep s → held.begin field + 8 ≤ (step s m).pc →
        VisitAt (step s m) next (past_next past gone m s) (λ q. gone q + left q m (step s m)) →
        Bytes (step s m) (past_next past gone m s) → GoesOn s next
    goes_on s next is low visit bytes =
        let past_there : past_of first (done ++ s ∷ []) ≡ past_next past gone m s =
        past_more first done s ∙ ap (λ (x : State). past_next past gone x s) (sym i.there) in
        let gone_there : gone_of first (done ++ s ∷ []) ≡ (λ (q : Queue). gone q + left q m (step s m)) =
        gone_of_more first done s ∙ ap (λ (x : State). gone_next gone x s) (sym i.there) in
        record {
          there = ap (step s) i.there ∙ sym (run-append first done (s ∷ []));
          program = program-step s m ∙ i.program;
          orderly = IsOrderly-step s m is i.orderly;
          low = low;
          visit =
              subst (λ (p : Past). VisitAt (step s m) next p (gone_of first (done ++ s ∷ []))) (sym past_there)
              (subst (λ (g : Queue → ℕ). VisitAt (step s m) next (past_next past gone m s) g) (sym gone_there) visit);
          bytes = subst (Bytes (step s m)) (sym past_there) bytes;
        }

    -- where memory stays, and the machine is where it was
    bytes_still : (after : State) → after.memory ≡ m.memory → after.job ≡ m.job → after.pc ≡ m.pc → Bytes after past
    bytes_still after memory job pc =
        bytes_with d held field described m after past memory
        (subst (λ (j : Job). JobHas d held field described after.pc j past) (sym job)
        (subst (λ (at : ℕ). JobHas d held field described at m.job past) (sym pc) i.bytes.job)) i.bytes

    unmoved : (s : Step) → IsStep s → Unmoved m (step s m) → past_next past gone m s ≡ past → GoesOn s t
    unmoved s is u nothing =
        goes_on s t is (subst (λ (pc : ℕ). held.begin field + 8 ≤ pc) (sym u.pc) i.low)
        (subst (λ (p : Past). VisitAt (step s m) t p (λ q. gone q + left q m (step s m))) (sym nothing)
        (unmoved_on held.program (signal field) (held.next field) end all few m t past gone (step s m) u i.visit))
        (subst (Bytes (step s m)) (sym nothing) (bytes_still (step s m) u.memory u.job u.pc))

    emptied : (risc : Bool) → Emptied m (step (Host (Enable false risc)) m) →
        GoesOn (Host (Enable false risc)) (written track_notes (Enable false risc) m t)
    emptied risc e =
        let after = step (Host (Enable false risc)) m in
        goes_on (Host (Enable false risc)) (written track_notes (Enable false risc) m t) tt
        (subst (λ (pc : ℕ). held.begin field + 8 ≤ pc) (sym e.pc) i.low)
        (subst (λ (p : Past). VisitAt after (written track_notes (Enable false risc) m t) p (λ q. gone q + left q m after))
        (sym (nothing_past past))
        (emptied_visit held.program (signal field) (held.next field) end all few m t past gone i.orderly.queues after e.queues e.job e.pc
        e.skipping i.visit))
        (subst (Bytes after) (sym (nothing_past past)) (bytes_still after e.memory e.job e.pc))

    -- it is about to close
    pub record Closes (s : Step) : Type 0 where
      pub turns : s ≡ Turn
      pub on : m.risc_on ≡ true
      pub idle : m.job ≡ Idle
      pub there : m.pc ≡ end

    abbrev pub Follows : Step → Type 0
    Follows s = ((next : FieldTrack) × GoesOn s next) ⊎ Closes s

    turned_on : Turned held.program (signal field) (held.next field) end all few m t past gone (turn m) (seen m)
        (λ q. step_takings q (gone q) m Turn) → Follows Turn
    turned_on (inl goes) =
        let further : m.pc ≤ (turn m).pc =
        turn_further m.risc_on m
        (λ on idle. subst (λ (p : RiscProgram). Plainly (fetch p m.pc)) (sym i.program) (goes.1 on idle)) in
        let low = i.low in
        let lower : held.begin field + 8 ≤ (turn m).pc = omega arith in
        inl (
          turned held.program (seen m).did (seen m) t,
          goes_on Turn (turned held.program (seen m).did (seen m) t) tt lower goes.0
              (turn_bytes d held field described m past i.bytes gone (signal field) (held.next field) end t i.program goes.1 i.visit),
        )
    turned_on (inr closes) =
        inr (record { turns = refl; on = closes.1; idle = closes.0.was_idle; there = closes.0.was_there })

    host_on : (write : HostWrite) → m.risc_on ≡ true → Follows (Host write)
    host_on (Ack mask) on =
        inl (
          t,
          unmoved (Host (Ack mask)) tt
              (record { job = refl; pc = refl; skipping = refl; memory = refl; queues = λ q. queue_same (queue_state q m.queues) })
              (nothing_past past),
        )
    host_on (Trigger number) on =
        inl (
          t,
          unmoved (Host (Trigger number)) tt
              (record { job = refl; pc = refl; skipping = refl; memory = refl; queues = λ q. queue_same (queue_state q m.queues) })
              (nothing_past past),
        )
    host_on (Enable true risc) on =
        inl (t, unmoved (Host (Enable true risc)) tt (enabled_unmoved risc m.risc_on m on) (nothing_past past))
    host_on (Enable false risc) on =
        inl (written track_notes (Enable false risc) m t, emptied risc (enabled_emptied risc m.risc_on m on))

    -- as long as the DMA controller is on
    pub follows : (s : Step) → IsStep s → m.risc_on ≡ true → Follows s
    follows (Push q entry) is on =
        inl (t, unmoved (Push q entry) is (push-Unmoved q entry m i.orderly.queues) (nothing_past past))
    follows (Control code) is on =
        inl (t, unmoved (Control code) tt (push_control-Unmoved code m i.orderly.queues) (nothing_past past))
    follows Turn is on =
        turned_on (turn_on held.program (signal field) (held.next field) end all few m t past gone i.program i.visit)
    follows (Host write) is on = host_on write on

  -- ---- its opening

  abbrev pub begun : FieldTrack
  begun = record (untold d) { marks = fresh; lost = false; lines = [] }

  module _ (first : State) (program : first.program ≡ held.program) (orderly : IsOrderly first)
      (chunks : chunks_of first.memory ≡ held.program.grants) (on : first.risc_on ≡ true) (idle : first.job ≡ Idle)
      (there : first.pc ≡ held.begin field) (opens_there : fetch held.program (held.begin field) ≡ Ok (opening field, 2)) where
    read : fetch first.program first.pc ≡ Ok (opening field, 2)
    read = ap₂ fetch program there ∙ opens_there

    turn_is : turn first ≡ fetched (Ok (opening field, 2)) (counted first)
    turn_is =
        ap (λ (b : Bool). turn_if b (counted first)) on ∙ ap (λ (j : Job). worked j (counted first)) idle
        ∙ ap (λ (r : Reading). fetched r (counted first)) read

    seen_is : seen first ≡ seen_alone Synced first.pc
    seen_is =
        ap (λ (b : Bool). seen_if b first) on ∙ ap (λ (j : Job). seen_in j first) idle
        ∙ ap (λ (r : Reading). seen_alone (fetched_did r first.skipping) first.pc) read

    nothing_taken : (q : Queue) → step_takings q 0 first Turn ++ [] ≡ []
    nothing_taken q =
        append-nil (step_takings q 0 first Turn) ∙ ap (λ (b : Bool). takings_if b q 0 (counted first)) on
        ∙ ap (λ (j : Job). worked_takings j q 0 (counted first)) idle

    none_retired : step_retires first Turn ++ [] ≡ []
    none_retired = append-nil (step_retires first Turn) ∙ ap (λ (s : Seen). retired_at s.did s.at) seen_is

    gap : InGap held.program (signal field) (held.next field) end all (fetched (Ok (opening field, 2)) (counted first)) begun
        (past_of first (Turn ∷ []))
    gap =
        record {
          here = held.begin field + 8;
          lines = [];
          parts = section_parts d field;
          whole = refl;
          stands =
              subst (λ (instrs : List Instr). HoldsFrom held.program (held.begin field + 8) instrs (signal field) (held.next field))
              (sym (body_parts d field)) (held.holds field described);
          ends = ap (λ (instrs : List Instr). held.begin field + 8 + 4 * words_in instrs) (body_parts d field);
          are = parts_cut d field held.right described;
          through = record {
            told = refl;
            below = tt;
            taken = λ q. subst (λ (ts : List Taking). TakenBelow (held.begin field + 8) ts) (sym (nothing_taken q)) tt;
            retired = subst (AreBelow (held.begin field + 8)) (sym none_retired) tt;
          };
          fresh = refl;
          unlost = refl;
          job = ap (λ (pc : ℕ). pc + 8) there;
        }

    pub begins : InSection first (turn first) begun (Turn ∷ [])
    begins =
        record {
          there = refl;
          program = program-step Turn first ∙ program;
          orderly = IsOrderly-step Turn first tt orderly;
          low = let at = there in let after : (turn first).pc ≡ first.pc + 8 = ap (λ (x : State). x.pc) turn_is in omega arith;
          visit =
              subst (λ (x : State). VisitAt x begun (past_of first (Turn ∷ [])) (gone_of first (Turn ∷ []))) (sym turn_is) (inl gap);
          bytes =
              fresh_bytes d held field described (turn first) (past_of first (Turn ∷ [])) (chunks-step Turn first ∙ chunks) nothing_taken
              none_retired
              (subst (λ (x : State). JobHas d held field described x.pc x.job (past_of first (Turn ∷ []))) (sym turn_is)
              (λ q. subst (λ (ts : List Taking). TakenBelow (first.pc + 8) ts) (sym (nothing_taken q)) tt));
        }

  -- ---- its rows

  module _ (first m : State) (t : FieldTrack) (done : List Step) (i : InSection first m t done) (orderly : IsOrderly first)
      (made : All IsStep done) (q : Queue) (number : ℕ)
      (mark : slice_index_or (marks_at (held.begin field) d field first done) number false ≡ true) where
    below : number < field_height d field
    below =
        let many : length (row_addresses_at (held.begin field) d field) ≡ field_height d field =
        lines_many d (rows_of d field) (held.begin field + 4 * words_in (before_rows d field))
        ∙ length-map-range_with_len (picture_row (both d) field) 0 (field_height d field) in
        let inside = index_below (is_whole first done) (row_addresses_at (held.begin field) d field) number mark in
        omega arith

    whole : is_whole first done (slice_index_or (row_addresses_at (held.begin field) d field) number []) ≡ true
    whole = index_map (is_whole first done) (row_addresses_at (held.begin field) d field) number mark

    -- also right after a step that leaves memory as it is
    pub holds_line : (after : State) → after.memory ≡ m.memory → HoldsLine (held.begin field) d field q number first done after
    holds_line after memory =
        record {
          entered = whole_rows_entered (held.begin field) d field first done orderly made q number mark;
          asked = row_asked d held field described m first done orderly made i.bytes q number below whole;
          kept =
              λ x address kept.
              let stands = row_stands d held field described m first done orderly made i.bytes q number x address kept whole in
              record {
                line = stands.line;
                inside = stands.inside;
                byte = ap (λ blocks. byte_at blocks address) memory ∙ stands.byte;
              };
        }
