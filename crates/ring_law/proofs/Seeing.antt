-- The block ends that are seen of turns.
use Rattle.std.proofs.Common.{All, Bool, Err, List, None, Ok, Option, Some, [], ap, append_assoc, arith, false, if◌then◌else◌, length}
use Rattle.std.proofs.Common.{length-append, refl, subst, sym, true, ℕ, ◌*◌, ◌++◌, ◌+◌, ◌-◌, ◌<◌, ◌==◌, ◌∙◌, ◌∷◌, ◌≡◌}
use Rattle.std.proofs.lemmas.List.Elements.{All-head, All-tail}
use Rattle.std.proofs.lemmas.Bool.{cond-true}
use Rattle.std.proofs.lemmas.Grind.{flat_map-append}
use Rattle.std.specs.List.{list_any}
use Rattle.ring_law.specs.Runs.{BlocksSeenAreEnded, TurnsSeenEndBlocks}
use Rattle.risc_word.specs.declared.Code.{Code}
use Rattle.machine_model.specs.Steps.{Control, Host, Push, Step, Turn, step}
use Rattle.machine_model.specs.declared.Demands.{Demands}
use Rattle.picture_model.proofs.Each.{Each}
use Rattle.machine_model.specs.declared.Did.TheVariants.{GivenUp, Matched, Missed, Moved}
use Rattle.machine_model.specs.declared.Job.TheVariants.{Idle, Running, Waiting}
use Rattle.risc_word.specs.declared.Instr.{Instr}
use Rattle.ring_model.specs.Rings.{IsRing, Ring, block_instrs, blocks_instrs, closing, ends, last_write, lines_instrs, mark, opening}
use Rattle.ring_model.specs.Rings.{ring_instrs, ring_program}
use Rattle.machine_model.specs.Safety.{IsSafe, IsStep}
use Rattle.machine_model.proofs.Safe.{IsSafe-step}
use Rattle.machine_model.specs.Paths.{IsSound, RiscProgram, fetch}
use Rattle.ring_model.proofs.Writes.{IsWrite, block_writes, last_length, writes_words}
use Rattle.machine_model.specs.declared.Job.{Job}
use Rattle.risc_word.specs.declared.Instr.TheVariants.{Jump, Skip, Skip123, Sync, Write, Write123, Write1S23, WriteC}
use Rattle.machine_model.specs.declared.Skipping.TheVariants.{Nothing, ToEol, ToSync}
use Rattle.fifo_model.specs.declared.Queue.{Queue}
use Rattle.risc_word.specs.Words.{Reading, code_number, encoded}
use Rattle.machine_model.specs.declared.Skipping.{Skipping}
use Rattle.machine_model.specs.States.{State}
use Rattle.machine_model.specs.Seen.{address_before, applications, data_did, fetched_did, gives_up, instr_did, seen, seen_if, seen_in}
use Rattle.machine_model.specs.Seen.{seen_running, seen_served, waited_did}
use Rattle.ring_model.specs.Runs.{block_end, block_ends, block_ends_seen, end_by, ended_by, one_if, step_end_seen, end_seen}
use Rattle.ring_law.proofs.Addresses.{block_some, last_there, next_begin, position_found}
use Rattle.ring_law.proofs.Rounds.{block_split}
use Rattle.machine_model.specs.Turns.{common_code, is_done, lowest_served, lowest_stray}
use Rattle.picture_model.proofs.Circle.{fetch_at}
use Rattle.machine_model.proofs.ProgramStays.{program-step}
use Rattle.ring_model.proofs.Sound.{ring_fine, ring_sound}
use Rattle.machine_model.proofs.InstrSeen.{running-StandsAt}
use Rattle.ring_law.proofs.Walks.{unretired_ends}
use Rattle.picture_model.specs.Programs.{words_of}

-- WRITEs end with a WRITE
record EndsInWrite (instrs : List Instr) : Type 0 where
  front : List Instr
  write : Instr
  split : instrs ≡ front ++ write ∷ []
  is_write : IsWrite write

ends_in_write : (instrs : List Instr) → 0 < length instrs → Each IsWrite instrs → EndsInWrite instrs
ends_in_write [] some are = absurd (omega arith)
ends_in_write (instr ∷ []) some are = record { front = []; write = instr; split = refl; is_write = are.0 }
ends_in_write (instr ∷ next ∷ rest) some are =
    let later = ends_in_write (next ∷ rest) (omega arith) are.1 in
    record {
      front = instr ∷ later.front;
      write = later.write;
      split = ap (λ (rest : List Instr). instr ∷ rest) later.split;
      is_write = later.is_write;
    }

only_write : (instr other : Instr) (count count' : ℕ) (reading : Reading) → IsWrite other → reading ≡ Ok (instr, count) →
    reading ≡ Ok (other, count') → IsWrite instr
only_write instr other count count' reading is_write one two =
    let both : Ok (instr, count) ≡ Ok (other, count') = sym one ∙ two in
    let pair : (instr, count) ≡ (other, count') = cc in
    let same : instr ≡ other = ap (λ (pair : Instr × ℕ). pair.0) pair in
    subst IsWrite (sym same) is_write

module _ (r : Ring) (is : IsRing r) where
  -- a WRITE is where a block ends
  write_at_end : (block : ℕ) → block < r.blocks →
      (write : Instr) × IsWrite write × (fetch (ring_program r) (last_write r block) ≡ Ok (write, length (encoded write)))
  write_at_end block below =
      let writes = block_instrs r block in
      let block_long = last_length (mark block) (lines_instrs r (block * r.lines) r.lines) in
      let some = block_some r is block below in
      let last = ends_in_write writes (omega arith) (block_writes r block) in
      let rest = blocks_instrs r (block + 1) (r.blocks - (block + 1)) ++ closing r ∷ [] in
      let before = (opening ∷ blocks_instrs r 0 block) ++ last.front in
      let split : ring_instrs r ≡ before ++ last.write ∷ rest =
      block_split r is block below ∙ ap (λ (writes : List Instr). (opening ∷ blocks_instrs r 0 block) ++ (writes ++ rest)) last.split
      ∙ ap (λ (more : List Instr). (opening ∷ blocks_instrs r 0 block) ++ more) (append_assoc last.front (last.write ∷ []) rest)
      ∙ sym (append_assoc (opening ∷ blocks_instrs r 0 block) last.front (last.write ∷ rest)) in
      let long = ap (λ (instrs : List Instr). length instrs) last.split in
      let front_writes : Each IsWrite (last.front) =
      each_front last.front (last.write ∷ []) (subst (Each IsWrite) last.split (block_writes r block)) in
      let front_words = writes_words last.front front_writes in
      let words : words_of before ≡ words_of (opening ∷ blocks_instrs r 0 block) ++ words_of last.front =
      flat_map-append encoded (opening ∷ blocks_instrs r 0 block) last.front in
      let words_long = ap (λ (words : List ℕ). length words) words in
      let next = next_begin r is block in
      let end = last_there r is block in
      let at : last_write r block ≡ r.base + 4 * length (words_of before) =
      omega (
        arith,
        length-append (words_of (opening ∷ blocks_instrs r 0 block)) (words_of last.front),
        length-append last.front (last.write ∷ []),
      ) in (
        last.write,
        last.is_write,
        fetch_at (ring_program r) (ring_instrs r) refl (ring_fine r is) (last_write r block)
            (record { before = before; instr = last.write; after = rest; split = split; at = at }),
      )
    where
      each_front : (xs ys : List Instr) → Each IsWrite (xs ++ ys) → Each IsWrite xs
      each_front [] ys each = tt
      each_front (x ∷ xs) ys each = (each.0, each_front xs ys each.1)

  -- so what is there is one
  is_write_there : (instr : Instr) (at block : ℕ) → ends r at ≡ Some block →
      fetch (ring_program r) at ≡ Ok (instr, length (encoded instr)) → IsWrite instr
  is_write_there instr at block ends_block stands =
      let found = position_found (last_write r) at r.blocks block ends_block in
      let there = write_at_end block found.0 in
      only_write instr there.0 (length (encoded instr)) (length (encoded there.0)) (fetch (ring_program r) at) there.1 stands
      (ap (fetch (ring_program r)) (sym found.1) ∙ there.2)

  -- ---- a turn

  no_write : (instr : Instr) (at : ℕ) (found : Option ℕ) → ends r at ≡ found →
      fetch (ring_program r) at ≡ Ok (instr, length (encoded instr)) → (IsWrite instr → ⊥) → found ≡ None
  no_write instr at None ends_block stands other = refl
  no_write instr at (Some block) ends_block stands other = absurd (other (is_write_there instr at block ends_block stands))

  retired_end : (instr : Instr) (ds : Demands) (pc : ℕ) → is_done ds ≡ true →
      fetch (ring_program r) (address_before pc instr) ≡ Ok (instr, length (encoded instr)) →
      ends r (address_before pc instr) ≡ ended_by (ends r) (Running instr ds) pc
  retired_end (Write ctl line_ends off count address) ds pc done stands = sym (cond-true (is_done ds) (ends r (pc - 8)) None done)
  retired_end (Skip ctl line_ends count) ds pc done stands = no_write (Skip ctl line_ends count) _ _ refl stands (λ is_write. is_write)
  retired_end (WriteC ctl line_ends off count) ds pc done stands =
      no_write (WriteC ctl line_ends off count) _ _ refl stands (λ is_write. is_write)
  retired_end (Jump ctl target) ds pc done stands = no_write (Jump ctl target) _ _ refl stands (λ is_write. is_write)
  retired_end (Sync ctl resync code) ds pc done stands = no_write (Sync ctl resync code) _ _ refl stands (λ is_write. is_write)
  retired_end (Write123 ctl line_ends off counts addrs) ds pc done stands =
      no_write (Write123 ctl line_ends off counts addrs) _ _ refl stands (λ is_write. is_write)
  retired_end (Skip123 ctl line_ends counts) ds pc done stands =
      no_write (Skip123 ctl line_ends counts) _ _ refl stands (λ is_write. is_write)
  retired_end (Write1S23 ctl line_ends off counts addr) ds pc done stands =
      no_write (Write1S23 ctl line_ends off counts addr) _ _ refl stands (λ is_write. is_write)

  -- a turn that fetches or waits retires nothing
  data_end : (skipping : Skipping) (at : ℕ) → end_by (ends r) (data_did skipping) at ≡ None
  data_end Nothing at = refl
  data_end ToEol at = refl
  data_end ToSync at = refl

  instr_end : (instr : Instr) (skipping : Skipping) (at : ℕ) → end_by (ends r) (instr_did instr skipping) at ≡ None
  instr_end (Write ctl line_ends off count address) skipping at = data_end skipping at
  instr_end (Skip ctl line_ends count) skipping at = data_end skipping at
  instr_end (WriteC ctl line_ends off count) skipping at = data_end skipping at
  instr_end (Jump ctl target) skipping at = refl
  instr_end (Sync ctl resync code) skipping at = refl
  instr_end (Write123 ctl line_ends off counts addrs) skipping at = data_end skipping at
  instr_end (Skip123 ctl line_ends counts) skipping at = data_end skipping at
  instr_end (Write1S23 ctl line_ends off counts addr) skipping at = data_end skipping at

  fetched_end : (reading : Reading) (skipping : Skipping) (at : ℕ) → end_by (ends r) (fetched_did reading skipping) at ≡ None
  fetched_end (Err fault) skipping at = refl
  fetched_end (Ok (instr, count)) skipping at = instr_end instr skipping at

  code_end : (same : Bool) (at : ℕ) → end_by (ends r) (if same then Matched else Missed) at ≡ None
  code_end true at = refl
  code_end false at = refl

  waited_end : (stray : Option Queue) (seen_code : Option Code) (awaited : Code) (at : ℕ) →
      end_by (ends r) (waited_did stray seen_code awaited) at ≡ None
  waited_end (Some q) seen_code awaited at = refl
  waited_end None None awaited at = refl
  waited_end None (Some code) awaited at = code_end (code_number code == code_number awaited) at

  burst_end : (gives : Bool) (q : Queue) (at : ℕ) → end_by (ends r) (if gives then GivenUp q else Moved q) at ≡ None
  burst_end true q at = refl
  burst_end false q at = refl

  served_end : (found : Option Queue) (at : ℕ) (m : State) → end_seen (ends r) (seen_served found at m) ≡ None
  served_end None at m = refl
  served_end (Some q) at m = burst_end (list_any gives_up (applications m.trigger q m)) q at

  module _ (m : State) (same : m.program ≡ ring_program r) (safe : IsSafe m) where
    sound : IsSound m.program
    sound = subst IsSound (sym same) (ring_sound r is)

    runs_end : (instr : Instr) (ds : Demands) (done : Bool) → m.job ≡ Running instr ds → is_done ds ≡ done →
        end_seen (ends r) (seen_running done (address_before m.pc instr) ds m) ≡ ended_by (ends r) (Running instr ds) m.pc
    runs_end instr ds true j done =
        let stands = (running-StandsAt m instr ds sound safe j).stands in
        retired_end instr ds m.pc done
        (subst (λ (program : RiscProgram). fetch program (address_before m.pc instr) ≡ Ok (instr, length (encoded instr))) same stands)
    runs_end instr ds false j undone =
        served_end (lowest_served ds m) (address_before m.pc instr) m ∙ sym (unretired_ends (ends r) instr ds m.pc undone)

    end_in : (job : Job) → m.job ≡ job → end_seen (ends r) (seen_in job m) ≡ ended_by (ends r) job m.pc
    end_in Idle j = fetched_end (fetch m.program m.pc) m.skipping m.pc
    end_in (Waiting ctl resync code) j =
        waited_end (lowest_stray m.queues) (common_code m.queues) code (address_before m.pc (Sync ctl resync code))
    end_in (Running instr ds) j = runs_end instr ds (is_done ds) j refl

    end_if : (on : Bool) → end_seen (ends r) (seen_if on m) ≡ (if on then ended_by (ends r) m.job m.pc else None)
    end_if true = end_in m.job refl
    end_if false = refl

    pub turn_end : end_seen (ends r) (seen m) ≡ block_end (ends r) m Turn
    turn_end = end_if m.risc_on

  step_end : (m : State) (st : Step) → m.program ≡ ring_program r → IsSafe m → step_end_seen (ends r) m st ≡ block_end (ends r) m st
  step_end m Turn same safe = turn_end m same safe
  step_end m (Push q entry) same safe = refl
  step_end m (Control code) same safe = refl
  step_end m (Host write) same safe = refl

  pub steps_end : (m : State) (steps : List Step) → m.program ≡ ring_program r → IsSafe m → All IsStep steps →
      block_ends_seen (ends r) m steps ≡ block_ends (ends r) m steps
  steps_end m [] same safe made = refl
  steps_end m (st ∷ steps) same safe made =
      let here = ap one_if (step_end m st same safe) in
      let rest =
      steps_end (step st m) steps (program-step st m ∙ same) (IsSafe-step st m (All-head IsStep st steps made) (sound m same safe) safe)
      (All-tail IsStep st steps made) in
      omega arith

pub turns_seen_end_blocks : TurnsSeenEndBlocks
turns_seen_end_blocks r m is = turn_end r is m

pub blocks_seen_are_ended : BlocksSeenAreEnded
blocks_seen_are_ended r m steps is = steps_end r is m steps
