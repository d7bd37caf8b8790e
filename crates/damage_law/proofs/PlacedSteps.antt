-- Each turn within a section keeps in memory the bytes that the section's instructions took.
use Rattle.std.proofs.Common.{◌≡◌, ℕ, ◌+◌, ◌*◌, ◌<◌, ◌≤◌, ◌⊎◌, inl, inr, Bool, true, false, ◌||◌, ◌==◌, List, [], ◌∷◌, ◌++◌, length}
use Rattle.std.proofs.Common.{length-append, Option, Some, None, Ok, option_map, if◌then◌else◌}
use Rattle.std.proofs.Common.{refl, sym, ap, ap₂, ◌∙◌, subst, arith, eqb-true}
use Rattle.std.specs.List.{list_any}
use Rattle.std.proofs.lemmas.Bool.{both_ways, cases_lt, cond-false, cond-true, or_cases}
use Rattle.std.proofs.lemmas.List.{append-nil}
use Rattle.std.proofs.lemmas.List.Folds.{list_any-append}
use Rattle.risc_word.specs.declared.Code.{Code}
use Rattle.risc_word.specs.declared.Ctl.{Ctl}
use Rattle.risc_word.specs.declared.Instr.{Instr}
use Rattle.risc_word.specs.declared.Instr.TheVariants.{Jump, Sync, Write, Skip, WriteC, Write123, Skip123, Write1S23}
use Rattle.risc_word.specs.Words.{Reading, encoded}
use Rattle.fifo_model.specs.declared.Queue.{Queue}
use Rattle.fifo_model.specs.declared.Queue.TheVariants.{One, Two, Three}
use Rattle.page_table.specs.Blocks.{Block, chunks_of}
use Rattle.pixel_layout.specs.declared.Parity.{Parity}
use Rattle.picture_model.proofs.Each.{Each, each_append, each_only}
use Rattle.machine_model.specs.declared.Demands.{Demands}
use Rattle.machine_model.specs.declared.Did.TheVariants.{Moved, GivenUp}
use Rattle.machine_model.specs.declared.Job.{Job}
use Rattle.machine_model.specs.declared.Job.TheVariants.{Idle, Waiting, Running}
use Rattle.machine_model.specs.declared.Skipping.{Skipping}
use Rattle.machine_model.specs.declared.Skipping.TheVariants.{Nothing, ToEol, ToSync}
use Rattle.machine_model.specs.Accesses.{burst_stores, burst_stores_of, ran_stores, stores_if, worked_stores}
use Rattle.machine_model.specs.Paths.{RiscProgram, fetch, is_data}
use Rattle.risc_word.specs.Parts.{instr_off}
use Rattle.machine_model.specs.Seen.{address_before, applications, data_did, fetched_did, gives_up, instr_did, seen_if, seen_in}
use Rattle.machine_model.specs.Seen.{seen_running, seen_served}
use Rattle.machine_model.specs.States.{State}
use Rattle.machine_model.specs.Steps.{Turn}
use Rattle.machine_model.specs.Turns.{burst, burst_of, code_seen, common_code, counted, fetched, is_done, lowest_served, lowest_stray, met}
use Rattle.machine_model.specs.Turns.{ran, retired, stored_all, stray_seen, turn, turn_if, with_fdsr_unless, without_codes, worked}
use Rattle.machine_model.proofs.Memory.{chunks-stored_all}
use Rattle.machine_model.proofs.BeforeTurns.{fetch-KnownAt}
use Rattle.machine_model.proofs.Stored.{memory-turn}
use Rattle.capture_desc.specs.declared.desc.Desc.{Desc}
use Rattle.picture_model.specs.Described.{describes}
use Rattle.picture_model.specs.Programs.{sync}
use Rattle.field_law.specs.Arrivals.{is_queue}
use Rattle.field_law.specs.Sections.{HoldsFrom, IsPlain, laid, words_in}
use Rattle.field_law.proofs.Running.{done_rest}
use Rattle.damage_model.specs.Marks.{addresses_from, is_among}
use Rattle.damage_model.specs.Takings.{Taking, burst_takings, ran_takings, retired_at, served_takings}
use Rattle.damage_model.specs.Takings.{step_retires, step_takings, takings_if}
use Rattle.damage_model.specs.Takings.{worked_takings}
use Rattle.damage_model.proofs.Held.{IsHeld}
use Rattle.damage_model.proofs.Pieces.{pieces_apart, pieces_granted}
use Rattle.damage_model.proofs.PlacedTakes.{address_on, count_on, placed_more, same_queue_or}
use Rattle.damage_model.proofs.StoredTakes.{Laid, burst-Laid, moved_twice, taken_bytes, taken_bytes-append}
use Rattle.damage_map.specs.Tracks.{FieldTrack, untold}
use Rattle.damage_law.proofs.Compiled.{section_lines_at}
use Rattle.damage_law.proofs.PlacedLines.{begin_of, instr_of_read, piece_there, words_before}
use Rattle.damage_law.proofs.PlacedTurns.{IsIn, JobHas, KeepsBytes, PlacedIn, RunsFrom, Sorted, burst_ats, burst_pc, bytes_with}
use Rattle.damage_law.proofs.PlacedTurns.{fetched_has, had_of, plain_off, sorted_more, takes_apart}
use Rattle.damage_law.proofs.Sections.{Past, TakenBelow, instrs_of, lines_at, not_below, taken_here, taken_more, takes_in}
use Rattle.damage_law.proofs.SectionTurns.{Plainly, queue_itself, waited-quiet}
use Rattle.damage_law.proofs.Visits.{GapJob, InLine, LineJob, Visit}

queue_other : (q p : Queue) → (p ≡ q → ⊥) → is_queue q p ≡ false
queue_other One One apart = absurd (apart refl)
queue_other One Two apart = refl
queue_other One Three apart = refl
queue_other Two One apart = refl
queue_other Two Two apart = absurd (apart refl)
queue_other Two Three apart = refl
queue_other Three One apart = refl
queue_other Three Two apart = refl
queue_other Three Three apart = absurd (apart refl)

queue_not : (p q : Queue) → (p ≡ q → ⊥) → is_queue p q ≡ false
queue_not p q apart = queue_other p q (λ same. apart (sym same))

fetched_retires : (i : Instr) (skipping : Skipping) (at : ℕ) → retired_at (instr_did i skipping) at ≡ []
fetched_retires (Jump ctl to) skipping at = refl
fetched_retires (Sync ctl resync code) skipping at = refl
fetched_retires (Write ctl ends off count addr) skipping at = by_skipping skipping at
  where
    by_skipping : (skipping : Skipping) (at : ℕ) → retired_at (data_did skipping) at ≡ []
    by_skipping Nothing at = refl
    by_skipping ToEol at = refl
    by_skipping ToSync at = refl
fetched_retires (Skip ctl ends count) Nothing at = refl
fetched_retires (Skip ctl ends count) ToEol at = refl
fetched_retires (Skip ctl ends count) ToSync at = refl
fetched_retires (WriteC ctl ends off count) Nothing at = refl
fetched_retires (WriteC ctl ends off count) ToEol at = refl
fetched_retires (WriteC ctl ends off count) ToSync at = refl
fetched_retires (Write123 ctl ends off counts addrs) Nothing at = refl
fetched_retires (Write123 ctl ends off counts addrs) ToEol at = refl
fetched_retires (Write123 ctl ends off counts addrs) ToSync at = refl
fetched_retires (Skip123 ctl ends counts) Nothing at = refl
fetched_retires (Skip123 ctl ends counts) ToEol at = refl
fetched_retires (Skip123 ctl ends counts) ToSync at = refl
fetched_retires (Write1S23 ctl ends off counts addr) Nothing at = refl
fetched_retires (Write1S23 ctl ends off counts addr) ToEol at = refl
fetched_retires (Write1S23 ctl ends off counts addr) ToSync at = refl

gave_retires : (gave : Bool) (q : Queue) (at : ℕ) → retired_at (if gave then GivenUp q else Moved q) at ≡ []
gave_retires true q at = refl
gave_retires false q at = refl

module _ (d : Desc) (held : IsHeld d) (field : Parity) (described : describes d.fields field ≡ true) (m : State) (past : Past)
    (k : KeepsBytes d held field described m past) where
  abbrev Bytes : State → Past → Type 0
  Bytes after next = KeepsBytes d held field described after next

  abbrev Has : State → Type 0
  Has after = JobHas d held field described after.pc after.job past

  abbrev pub next_bytes : (Queue → List Taking) → List ℕ → Past
  next_bytes new rs = record { takes = λ q. past.takes q ++ new q; retired = past.retired ++ rs }

  same_past : (new : Queue → List Taking) (rs : List ℕ) → ((q : Queue) → new q ≡ []) → rs ≡ [] → next_bytes new rs ≡ past
  same_past new rs none unretired =
      let takes : (λ (q : Queue). past.takes q ++ new q) ≡ past.takes =
      λ i q. (ap (λ (l : List Taking). past.takes q ++ l) (none q) ∙ append-nil (past.takes q)) i in
      ap₂ (λ (takes : Queue → List Taking) (retired : List ℕ). record { takes = takes; retired = retired }) takes
      (ap (λ (r : List ℕ). past.retired ++ r) unretired ∙ append-nil past.retired)

  pub quiet_bytes : (after : State) (new : Queue → List Taking) (rs : List ℕ) → after.memory ≡ m.memory → Has after →
      ((q : Queue) → new q ≡ []) → rs ≡ [] → Bytes after (next_bytes new rs)
  quiet_bytes after new rs memory has none unretired =
      subst (Bytes after) (sym (same_past new rs none unretired)) (bytes_with d held field described m after past memory has k)

  -- ---- a SYNC waits

  unless_has : (resync : Bool) (x : State) → Has x → Has (with_fdsr_unless resync x)
  unless_has true x h = h
  unless_has false x h = h

  waiting_has : (ctl : Ctl) (resync : Bool) (code : Code) → m.job ≡ Waiting ctl resync code → (q : Queue) → TakenBelow m.pc (past.takes q)
  waiting_has ctl resync code j = subst (λ (job : Job). JobHas d held field described m.pc job past) j k.job

  met_has : (same : Bool) (ctl : Ctl) (resync : Bool) (x : State) → ((q : Queue) → TakenBelow x.pc (past.takes q)) → Has x →
      Has (met same ctl resync x)
  met_has true ctl resync x below h = below
  met_has false ctl resync x below h = unless_has resync (without_codes x) h

  sees_has : (common : Option Code) (ctl : Ctl) (resync : Bool) (code : Code) (x : State) → ((q : Queue) → TakenBelow x.pc (past.takes q)) →
      Has x → Has (code_seen common ctl resync code x)
  sees_has None ctl resync code x below h = h
  sees_has (Some other) ctl resync code x below h = met_has _ ctl resync x below h

  waits_has : (stray : Option Queue) (ctl : Ctl) (resync : Bool) (code : Code) (x : State) →
      ((q : Queue) → TakenBelow x.pc (past.takes q)) → Has x → Has (stray_seen stray ctl resync code x)
  waits_has None ctl resync code x below h = sees_has (common_code x.queues) ctl resync code x below h
  waits_has (Some q) ctl resync code x below h = unless_has resync _ h

  -- ---- a turn's takings, stores and retirement, by the job

  module _ (on : m.risc_on ≡ true) (job : Job) (j : m.job ≡ job) where
    turn_is : turn m ≡ worked job (counted m)
    turn_is = ap (λ (b : Bool). turn_if b (counted m)) on ∙ ap (λ (x : Job). worked x (counted m)) j

    memory_is : (turn m).memory ≡ stored_all m.memory (worked_stores job (counted m))
    memory_is =
        memory-turn m ∙ ap (λ (b : Bool). stored_all m.memory (stores_if b (counted m))) on
        ∙ ap (λ (x : Job). stored_all m.memory (worked_stores x (counted m))) j

    takes_is : (q : Queue) (place : ℕ) → step_takings q place m Turn ≡ worked_takings job q place (counted m)
    takes_is q place = ap (λ (b : Bool). takings_if b q place (counted m)) on ∙ ap (λ (x : Job). worked_takings x q place (counted m)) j

    retires_is : step_retires m Turn ≡ retired_at (seen_in job m).did (seen_in job m).at
    retires_is =
        ap (λ (b : Bool). retired_at (seen_if b m).did (seen_if b m).at) on
        ∙ ap (λ (x : Job). retired_at (seen_in x m).did (seen_in x m).at) j

  module _ (gone : Queue → ℕ) where
    abbrev pub TurnBytes : Type 0
    TurnBytes = Bytes (turn m) (next_bytes (λ q. step_takings q (gone q) m Turn) (step_retires m Turn))

    off_bytes : m.risc_on ≡ false → TurnBytes
    off_bytes off =
        let turn_same : turn m ≡ counted m = ap (λ (b : Bool). turn_if b (counted m)) off in
        quiet_bytes (turn m) (λ q. step_takings q (gone q) m Turn) (step_retires m Turn) (ap (λ (x : State). x.memory) turn_same)
        (subst Has (sym turn_same) k.job) (λ q. ap (λ (b : Bool). takings_if b q (gone q) (counted m)) off)
        (ap (λ (b : Bool). retired_at (seen_if b m).did (seen_if b m).at) off)

    waiting_bytes : (ctl : Ctl) (resync : Bool) (code : Code) → m.risc_on ≡ true → m.job ≡ Waiting ctl resync code → TurnBytes
    waiting_bytes ctl resync code on j =
        let at = address_before m.pc (Sync ctl resync code) in
        quiet_bytes (turn m) (λ q. step_takings q (gone q) m Turn) (step_retires m Turn) (memory_is on (Waiting ctl resync code) j)
        (subst Has (sym (turn_is on (Waiting ctl resync code) j))
        (waits_has (lowest_stray m.queues) ctl resync code (counted m) (waiting_has ctl resync code j) k.job))
        (λ q. takes_is on (Waiting ctl resync code) j q (gone q))
        (retires_is on (Waiting ctl resync code) j ∙ (waited-quiet (lowest_stray m.queues) (common_code m.queues) code m.program
        (seen_in (Waiting ctl resync code) m) (untold d) at).1)

    idle_bytes : (i : Instr) → m.risc_on ≡ true → m.job ≡ Idle → fetch m.program m.pc ≡ Ok (i, length (encoded i)) → IsPlain i → TurnBytes
    idle_bytes i on j read plain =
        let below : (q : Queue) → TakenBelow m.pc (past.takes q) =
        subst (λ (job : Job). JobHas d held field described m.pc job past) j k.job in
        quiet_bytes (turn m) (λ q. step_takings q (gone q) m Turn) (step_retires m Turn) (memory_is on Idle j)
        (subst Has (sym (turn_is on Idle j ∙ ap (λ (r : Reading). fetched r (counted m)) read))
        (fetched_has d held field described m past j below i plain))
        (λ q. takes_is on Idle j q (gone q))
        (retires_is on Idle j ∙ ap (λ (r : Reading). retired_at (fetched_did r m.skipping) m.pc) read ∙ fetched_retires i m.skipping m.pc)

    -- ---- an instruction runs

    module _ (closing : Ctl) (target end : ℕ) (t : FieldTrack)
        (l : InLine held.program closing target end (section_lines_at d (held.begin field) field) m t past gone) (ds : Demands)
        (on : m.risc_on ≡ true)
        (j : m.job ≡ Running l.instr ds) where
      abbrev here : ℕ
      here = l.here

      line_pc : m.pc ≡ here + 4 * length (encoded l.instr)
      line_pc = (subst (λ (job : Job). LineJob l.here l.begins l.moved l.instr m.pc m.skipping t.lost t.marks job) j l.job).1

      at_here : address_before m.pc l.instr ≡ here
      at_here = let there = line_pc in omega arith

      is_in : IsIn d held field described here l.instr
      is_in =
          piece_there d held field described l.lines (lines_at (here + 4 * words_in (l.instr ∷ l.rest)) l.parts) l.done
          (addresses_from (here + 4 * length (encoded l.instr)) l.rest) here l.instr l.whole l.stands.0

      only : (i : Instr) → IsIn d held field described here i → i ≡ l.instr
      only i is = instr_of_read i l.instr (length (encoded i)) (length (encoded l.instr)) held.program here is.read l.stands.0

      long : 0 < length (encoded l.instr)
      long =
          let known = fetch-KnownAt held.program here l.instr (length (encoded l.instr)) l.stands.0 in
          let positive = known.positive in omega arith

      below_pc : (q : Queue) → TakenBelow m.pc (past.takes q)
      below_pc q = let there = line_pc in let some = long in taken_more (here + 1) m.pc (past.takes q) (omega arith) (l.through.taken q)

      had_runs : (q : Queue) → RunsFrom d held field described here l.instr ds past q
      had_runs q =
          subst (λ (a : ℕ). RunsFrom d held field described a l.instr ds past q) at_here
          (subst (λ (job : Job). JobHas d held field described m.pc job past) j k.job q)

      -- it retires
      abbrev none_new : Queue → List Taking
      none_new q = []

      had_same : (rs : List ℕ) → had_of d held field described (next_bytes none_new rs) ≡ had_of d held field described past
      had_same rs = λ i a q. taken_bytes (takes_in (a ∷ []) (append-nil (past.takes q) i))

      retired_full : is_done ds ≡ true → (a : ℕ) (i : Instr) (q : Queue) → IsIn d held field described a i →
          (is_among past.retired a ≡ true) ⊎ (is_among (here ∷ []) a ≡ true) →
          length (had_of d held field described past a q) ≡ count_on q i
      retired_full done a i q is (inl old) = k.full a i q is old
      retired_full done a i q is (inr new) =
          let same : a ≡ here = eqb-true a here (by_or (a == here) new) in
          let instr = only i (subst (λ (b : ℕ). IsIn d held field described b i) same is) in
          let all = (had_runs q).0 in
          let none = done_rest ds done q in
          let count : length (had_of d held field described past here q) ≡ count_on q l.instr = omega arith in
          ap (λ (b : ℕ). length (had_of d held field described past b q)) same ∙ count ∙ ap (count_on q) (sym instr)
        where
          by_or : (b : Bool) → (b || false) ≡ true → b ≡ true
          by_or true is = refl
          by_or false is = is

      retires_bytes : is_done ds ≡ true → Bytes (retired l.instr (counted m)) (next_bytes none_new (here ∷ []))
      retires_bytes done =
          record {
            chunks = k.chunks;
            placed = subst (PlacedIn d held field described m.memory) (sym (had_same (here ∷ []))) k.placed;
            full =
                λ a i q is among.
                subst (λ (had : ℕ → Queue → List ℕ). length (had a q) ≡ count_on q i) (sym (had_same (here ∷ [])))
                (retired_full done a i q is (or_cases (is_among past.retired a) (is_among (here ∷ []) a)
                (sym (list_any-append (λ other. a == other) past.retired (here ∷ [])) ∙ among)));
            sorted = λ q. subst Sorted (sym (append-nil (past.takes q))) (k.sorted q);
            job = λ q. subst (TakenBelow m.pc) (sym (append-nil (past.takes q))) (below_pc q);
          }

      -- it takes bytes of a queue
      module _ (q : Queue) (undone : is_done ds ≡ false) (lowest : lowest_served ds m ≡ Some q) where
        abbrev taken : List Taking
        taken = burst_takings m.trigger q here (gone q) (counted m)

        abbrev new_on : Queue → List Taking
        new_on p = served_takings (Some q) p here (gone p) (counted m)

        new_here : new_on q ≡ taken
        new_here = cond-true (is_queue q q) (burst_takings m.trigger q here (gone q) (counted m)) [] (queue_itself q)

        new_none : (p : Queue) → (p ≡ q → ⊥) → new_on p ≡ []
        new_none p apart = cond-false (is_queue q p) (burst_takings m.trigger p here (gone p) (counted m)) [] (queue_other q p apart)

        ats : Each (λ u. u.at ≡ here) taken
        ats = burst_ats q here m.trigger (gone q) (counted m)

        ats_by : (p : Queue) → (p ≡ q) ⊎ (p ≡ q → ⊥) → Each (λ u. u.at ≡ here) (new_on p)
        ats_by p (inl same) =
            subst (λ (x : Queue). Each (λ u. u.at ≡ here) (new_on x)) (sym same) (subst (Each (λ u. u.at ≡ here)) (sym new_here) ats)
        ats_by p (inr apart) = subst (Each (λ u. u.at ≡ here)) (sym (new_none p apart)) tt

        ats_on : (p : Queue) → Each (λ u. u.at ≡ here) (new_on p)
        ats_on p = ats_by p (same_queue_or p q)

        abbrev next_past : Past
        next_past = next_bytes new_on []

        abbrev had : ℕ → Queue → List ℕ
        had = had_of d held field described past

        abbrev had_next : ℕ → Queue → List ℕ
        had_next = had_of d held field described next_past

        plain : instr_off l.instr ≡ 0
        plain = plain_off l.instr l.stands.1

        made : Laid q l.instr plain here ds (burst m.trigger q (counted m)) (burst_stores m.trigger q (counted m)) taken
        made = burst-Laid q l.instr plain here m.trigger (gone q) ds (counted m) j

        grows : had_next here q ≡ had here q ++ taken_bytes taken
        grows =
            ap (λ (ts : List Taking). taken_bytes (takes_in (here ∷ []) (past.takes q ++ ts))) new_here
            ∙ ap taken_bytes (taken_here here [] [] (past.takes q) taken ats)
            ∙ taken_bytes-append (takes_in (here ∷ []) (past.takes q)) taken

        other_by : (a : ℕ) (p : Queue) → (a ≡ here → p ≡ q → ⊥) → (p ≡ q) ⊎ (p ≡ q → ⊥) → had_next a p ≡ had a p
        other_by a p never (inl same) = ap taken_bytes (takes_apart a here (past.takes p) (new_on p) (λ is. never is same) (ats_on p))
        other_by a p never (inr apart) =
            ap (λ (ts : List Taking). taken_bytes (takes_in (a ∷ []) (past.takes p ++ ts))) (new_none p apart)
            ∙ ap (λ (ts : List Taking). taken_bytes (takes_in (a ∷ []) ts)) (append-nil (past.takes p))

        others : (a : ℕ) (p : Queue) → (a ≡ here → p ≡ q → ⊥) → had_next a p ≡ had a p
        others a p never = other_by a p never (same_queue_or p q)

        room : length (had here q) + length (taken_bytes taken) ≤ count_on q l.instr
        room = let all = (had_runs q).0 in let few = made.few in omega arith

        memory_after : (turn m).memory
            ≡ stored_all m.memory (laid (option_map (λ s. s + length (had here q)) (address_on q l.instr)) (taken_bytes taken))
        memory_after =
            memory_is on (Running l.instr ds) j ∙ ap (λ (done : Bool). stored_all m.memory (ran_stores done ds (counted m))) undone
            ∙ ap (λ (found : Option Queue). stored_all m.memory (burst_stores_of found (counted m))) lowest
            ∙ ap (stored_all m.memory) (made.stored ∙ ap (λ (address : Option ℕ). laid address (taken_bytes taken)) (had_runs q).1)

        turn_burst : turn m ≡ burst m.trigger q (counted m)
        turn_burst =
            turn_is on (Running l.instr ds) j ∙ ap (λ (done : Bool). ran done l.instr ds (counted m)) undone
            ∙ ap (λ (found : Option Queue). burst_of found (counted m)) lowest

        pc_after : (turn m).pc ≡ m.pc
        pc_after = ap (λ (x : State). x.pc) turn_burst ∙ burst_pc m.trigger q (counted m)

        below_after : (p : Queue) → TakenBelow (turn m).pc (past.takes p ++ new_on p)
        below_after p =
            subst (λ (pc : ℕ). TakenBelow pc (past.takes p ++ new_on p)) (sym pc_after)
            (each_append (λ u. u.at < m.pc) (past.takes p) (new_on p) (below_pc p)
            (each_only (λ u. u.at ≡ here) (λ u. u.at < m.pc) (new_on p) (λ u same. let there = line_pc in let some = long in omega arith)
            (ats_on p)))

        runs_by : (left : Demands) → (burst m.trigger q (counted m)).job ≡ Running l.instr left → (p : Queue) → (p ≡ q) ⊎ (p ≡ q → ⊥) →
            RunsFrom d held field described here l.instr left next_past p
        runs_by left runs p (inl same) =
            subst (λ (x : Queue). RunsFrom d held field described here l.instr left next_past x) (sym same)
            (let g = made.goes_on left runs in
            let size : length (had_next here q) ≡ length (had here q) + length (taken_bytes taken) =
            ap (λ (bytes : List ℕ). length bytes) grows ∙ length-append (had here q) (taken_bytes taken) in
            let all = (had_runs q).0 in
            let rest = g.rest in (
              omega arith,
              g.address ∙ ap (option_map (λ s. s + length (taken_bytes taken))) (had_runs q).1
                  ∙ moved_twice (length (had here q)) (length (taken_bytes taken)) (address_on q l.instr)
                  ∙ ap (λ (n : ℕ). option_map (λ s. s + n) (address_on q l.instr)) (sym size),
            ))
        runs_by left runs p (inr apart) =
            let g = made.goes_on left runs in
            let demand = g.others p (queue_not p q apart) in
            let same = others here p (λ at is. apart is) in
            let size = ap (λ (bytes : List ℕ). length bytes) same in
            let rest = ap (λ x. x.rest) demand in
            let all = (had_runs p).0 in (
              omega arith,
              ap (λ x. x.address) demand ∙ (had_runs p).1 ∙ ap (λ (n : ℕ). option_map (λ s. s + n) (address_on p l.instr)) (sym size),
            )

        job_after : JobHas d held field described (turn m).pc (turn m).job next_past
        job_after =
            subst (λ (job : Job). JobHas d held field described (turn m).pc job next_past) (ap (λ (x : State). x.job) (sym turn_burst))
            (elim made.ends [
              | inl idle ↦ subst (λ (job : Job). JobHas d held field described (turn m).pc job next_past) (sym idle) below_after
              | inr runs ↦ subst (λ (job : Job). JobHas d held field described (turn m).pc job next_past) (sym runs.1)
                  (λ p.
                  subst (λ (a : ℕ). RunsFrom d held field described a l.instr runs.0 next_past p)
                  (sym (ap (λ (pc : ℕ). address_before pc l.instr) pc_after ∙ at_here)) (runs_by runs.0 runs.1 p (same_queue_or p q)))
            ])

        full_after : (a : ℕ) (i : Instr) (p : Queue) → IsIn d held field described a i → is_among next_past.retired a ≡ true →
            length (had_next a p) ≡ count_on p i
        full_after a i p is among =
            let old : is_among past.retired a ≡ true = ap (λ (r : List ℕ). is_among r a) (sym (append-nil past.retired)) ∙ among in
            by_low (cases_lt a here) old
          where
            by_low : (a < here) ⊎ (here ≤ a) → is_among past.retired a ≡ true → length (had_next a p) ≡ count_on p i
            by_low (inl less) old =
                ap (λ (bytes : List ℕ). length bytes) (others a p (λ same other. absurd (omega arith))) ∙ k.full a i p is old
            by_low (inr more) old = absurd (both_ways (is_among past.retired a) (not_below here a past.retired more l.through.retired) old)

        burst_bytes : Bytes (turn m) next_past
        burst_bytes =
            record {
              chunks = ap chunks_of memory_after ∙ chunks_kept ∙ k.chunks;
              placed =
                  subst (λ (memory : List Block). PlacedIn d held field described memory had_next) (sym memory_after)
                  (placed_more (IsIn d held field described) held.program.grants
                  (pieces_apart d held field described (begin_of d held field described) (words_before d held field described))
                  (pieces_granted d held field described (begin_of d held field described) (words_before d held field described))
                  m.memory had had_next here l.instr q (taken_bytes taken) k.chunks is_in grows others room only k.placed);
              full = full_after;
              sorted = λ p. sorted_more here (past.takes p) (new_on p) (k.sorted p) (l.through.taken p) (ats_on p);
              job = job_after;
            }
          where
            chunks_kept : chunks_of
                (stored_all m.memory (laid (option_map (λ s. s + length (had here q)) (address_on q l.instr)) (taken_bytes taken)))
                ≡ chunks_of m.memory
            chunks_kept =
                chunks-stored_all m.memory (laid (option_map (λ s. s + length (had here q)) (address_on q l.instr)) (taken_bytes taken))

      past_like : (new new' : Queue → List Taking) (rs rs' : List ℕ) → ((q : Queue) → new q ≡ new' q) → rs ≡ rs' →
          next_bytes new rs ≡ next_bytes new' rs'
      past_like new new' rs rs' same retired_same =
          let takes : (λ (q : Queue). past.takes q ++ new q) ≡ (λ (q : Queue). past.takes q ++ new' q) = λ i q. past.takes q ++ same q i in
          ap₂ (λ (takes : Queue → List Taking) (retired : List ℕ). record { takes = takes; retired = retired }) takes
          (ap (λ (r : List ℕ). past.retired ++ r) retired_same)

      abbrev takes_now : Queue → List Taking
      takes_now q = step_takings q (gone q) m Turn

      by_lowest : is_done ds ≡ false → (found : Option Queue) → lowest_served ds m ≡ found → TurnBytes
      by_lowest undone None lowest =
          let turn_same : turn m ≡ counted m =
          turn_is on (Running l.instr ds) j ∙ ap (λ (done : Bool). ran done l.instr ds (counted m)) undone
          ∙ ap (λ (found : Option Queue). burst_of found (counted m)) lowest in
          quiet_bytes (turn m) takes_now (step_retires m Turn) (ap (λ (x : State). x.memory) turn_same) (subst Has (sym turn_same) k.job)
          (λ q. takes_is on (Running l.instr ds) j q (gone q)
          ∙ ap (λ (done : Bool). ran_takings done ds q (address_before m.pc l.instr) (gone q) (counted m)) undone
          ∙ ap (λ (found : Option Queue). served_takings found q (address_before m.pc l.instr) (gone q) (counted m)) lowest)
          (retires_is on (Running l.instr ds) j ∙ ap (λ (done : Bool). retired_at (seen_running done (address_before m.pc l.instr) ds m).did
          (seen_running done (address_before m.pc l.instr) ds m).at) undone
          ∙ ap (λ (found : Option Queue).
          retired_at (seen_served found (address_before m.pc l.instr) m).did (seen_served found (address_before m.pc l.instr) m).at) lowest)
      by_lowest undone (Some q) lowest =
          subst (Bytes (turn m))
          (sym (past_like takes_now (new_on q undone lowest) (step_retires m Turn) []
          (λ p. takes_is on (Running l.instr ds) j p (gone p)
          ∙ ap (λ (done : Bool). ran_takings done ds p (address_before m.pc l.instr) (gone p) (counted m)) undone
          ∙ ap (λ (found : Option Queue). served_takings found p (address_before m.pc l.instr) (gone p) (counted m)) lowest
          ∙ ap (λ (a : ℕ). served_takings (Some q) p a (gone p) (counted m)) at_here)
          (retires_is on (Running l.instr ds) j ∙ ap (λ (done : Bool). retired_at (seen_running done (address_before m.pc l.instr) ds m).did
          (seen_running done (address_before m.pc l.instr) ds m).at) undone
          ∙ ap (λ (found : Option Queue).
          retired_at (seen_served found (address_before m.pc l.instr) m).did (seen_served found (address_before m.pc l.instr) m).at) lowest
          ∙ gave_retires (list_any gives_up (applications m.trigger q m)) q (address_before m.pc l.instr))))
          (burst_bytes q undone lowest)

      by_done : (done : Bool) → is_done ds ≡ done → TurnBytes
      by_done false undone = by_lowest undone (lowest_served ds m) refl
      by_done true done =
          subst (λ (after : State). Bytes after (next_bytes takes_now (step_retires m Turn)))
          (sym (turn_is on (Running l.instr ds) j ∙ ap (λ (done : Bool). ran done l.instr ds (counted m)) done))
          (subst (Bytes (retired l.instr (counted m)))
          (sym (past_like takes_now none_new (step_retires m Turn) (here ∷ [])
          (λ p. takes_is on (Running l.instr ds) j p (gone p)
          ∙ ap (λ (done : Bool). ran_takings done ds p (address_before m.pc l.instr) (gone p) (counted m)) done)
          (retires_is on (Running l.instr ds) j ∙ ap (λ (done : Bool). retired_at (seen_running done (address_before m.pc l.instr) ds m).did
          (seen_running done (address_before m.pc l.instr) ds m).at) done
          ∙ ap (λ (a : ℕ). a ∷ []) at_here)))
          (retires_bytes done))

      runs_bytes : TurnBytes
      runs_bytes = by_done (is_done ds) refl

    -- ---- a turn that doesn't close the section

    module _ (closing : Ctl) (target end : ℕ) (t : FieldTrack) (program_is : m.program ≡ held.program)
        (plainly : m.risc_on ≡ true → m.job ≡ Idle → Plainly (fetch held.program m.pc)) where
      read_there : (i : Instr) → fetch held.program m.pc ≡ Ok (i, length (encoded i)) → fetch m.program m.pc ≡ Ok (i, length (encoded i))
      read_there i read = ap (λ (p : RiscProgram). fetch p m.pc) program_is ∙ read

      gap_idle : (body : List Instr) → HoldsFrom held.program m.pc body closing target → m.risc_on ≡ true → m.job ≡ Idle → TurnBytes
      gap_idle (i ∷ body) holds on j = idle_bytes i on j (read_there i holds.0) holds.1
      gap_idle [] holds on j = absurd (by_plain p.plain)
        where
          p : Plainly (fetch held.program m.pc)
          p = plainly on j

          same : p.instr ≡ Jump closing target
          same = instr_of_read p.instr (Jump closing target) p.many 2 held.program m.pc p.read holds.0

          by_plain : (is_data p.instr ≡ true) ⊎ ((code : Code) × (p.instr ≡ sync false code)) → ⊥
          by_plain (inl data_is) = let none : false ≡ true = ap is_data (sym same) ∙ data_is in cc
          by_plain (inr awaits) = let other : sync false awaits.0 ≡ Jump closing target = sym awaits.1 ∙ same in cc

      by_job : (job : Job) → m.job ≡ job → m.risc_on ≡ true →
          Visit held.program closing target end (section_lines_at d (held.begin field) field) m t past gone → TurnBytes
      by_job (Waiting ctl resync code) j on visit = waiting_bytes ctl resync code on j
      by_job Idle j on (inl g) =
          gap_idle (instrs_of g.parts) (subst (λ (pc : ℕ). HoldsFrom held.program pc (instrs_of g.parts) closing target)
          (sym (subst (λ (job : Job). GapJob g.here m.pc job) j g.job)) g.stands) on j
      by_job Idle j on (inr l) =
          let there = (subst (λ (job : Job). LineJob l.here l.begins l.moved l.instr m.pc m.skipping t.lost t.marks job) j l.job).0 in
          idle_bytes l.instr on j (read_there l.instr (ap (fetch held.program) there ∙ l.stands.0)) l.stands.1
      by_job (Running runs ds) j on (inl g) = absurd (subst (λ (job : Job). GapJob g.here m.pc job) j g.job)
      by_job (Running runs ds) j on (inr l) =
          let same = (subst (λ (job : Job). LineJob l.here l.begins l.moved l.instr m.pc m.skipping t.lost t.marks job) j l.job).0 in
          runs_bytes closing target end t l ds on (j ∙ ap (λ (i : Instr). Running i ds) same)

      by_risc : (on : Bool) → m.risc_on ≡ on →
          Visit held.program closing target end (section_lines_at d (held.begin field) field) m t past gone → TurnBytes
      by_risc false off visit = off_bytes off
      by_risc true on visit = by_job m.job refl on visit

      pub turn_bytes : Visit held.program closing target end (section_lines_at d (held.begin field) field) m t past gone → TurnBytes
      turn_bytes visit = by_risc m.risc_on refl visit

-- behind an opening nothing was taken
pub fresh_bytes : (d : Desc) (held : IsHeld d) (field : Parity) (described : describes d.fields field ≡ true) (m : State) (past : Past) →
    chunks_of m.memory ≡ held.program.grants → ((q : Queue) → past.takes q ≡ []) →
    past.retired ≡ [] → JobHas d held field described m.pc m.job past → KeepsBytes d held field described m past
fresh_bytes d held field described m past chunks none unretired job =
    record {
      chunks = chunks;
      placed = record {
        few = λ a i p is. let size = empty a p in omega arith;
        there = λ a i p s y is goes inside. let size = empty a p in absurd (omega arith);
      };
      full = λ a i q is among. let never : false ≡ true = ap (λ (r : List ℕ). is_among r a) (sym unretired) ∙ among in cc;
      sorted = λ q. subst Sorted (sym (none q)) tt;
      job = job;
    }
  where
    empty : (a : ℕ) (p : Queue) → length (had_of d held field described past a p) ≡ 0
    empty a p = ap (λ (ts : List Taking). length (taken_bytes (takes_in (a ∷ []) ts))) (none p)
