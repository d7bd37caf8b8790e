-- A plain entry that is pushed to a queue waits there, or completes a burst that the first turn behind it takes whole.
use Rattle.std.proofs.Common.{◌≡◌, ℕ, zero, suc, ◌+◌, ◌*◌, ◌-◌, ◌<◌, ◌≤◌, ◌^◌, Bool, true, false, not, List, [], ◌∷◌, ◌++◌}
use Rattle.std.proofs.Common.{length, replicate, refl, sym, ap, ap₂, subst, ◌∙◌, arith, if◌then◌else◌, ◌==◌}
use Rattle.std.specs.Prelude.{◌&&◌, ◌||◌, nat_le}
use Rattle.std.specs.List.{list_any}
use Rattle.std.proofs.lemmas.Bool.{and_parts}
use Rattle.std.proofs.lemmas.List.{append-nil, append_assoc, length-append}
use Rattle.risc_word.specs.declared.Instr.{Instr}
use Rattle.risc_word.specs.Parts.{instr_off}
use Rattle.sync_status.specs.Statuses.{kind_of}
use Rattle.fifo_model.specs.declared.Entry.{Entry}
use Rattle.fifo_model.specs.declared.Queue.{Queue}
use Rattle.fifo_model.specs.declared.Queue.TheVariants.{One, Two, Three}
use Rattle.fifo_model.specs.Queues.{QueueState, entered, is_full, is_ready, more, overrun, queue_state}
use Rattle.fifo_model.specs.Queues.{wakes, with_queue_state}
use Rattle.fifo_model.proofs.QueueStates.{with_queue_state-same, with_queue_state-twice}
use Rattle.machine_model.specs.declared.Demand.{Demand}
use Rattle.machine_model.specs.declared.Demands.{Demands}
use Rattle.machine_model.specs.declared.Job.TheVariants.{Running}
use Rattle.machine_model.specs.declared.Seen.{Seen}
use Rattle.machine_model.specs.PlainEntries.{dwords_of, plain_entry}
use Rattle.machine_model.specs.States.{State}
use Rattle.machine_model.specs.Seen.{seen}
use Rattle.machine_model.specs.Steps.{Turn, push, push_if, run, with_fbus_if}
use Rattle.machine_model.specs.Turns.{demand_less, demand_on, is_served, turn, with_demand}
use Rattle.dma_machine.specs.Counts.{acted, acted_times, with_turns}
use Rattle.dma_machine.specs.FallThrough.{MovesWhole, moved_whole, none_before, put_down}
use Rattle.dma_machine.specs.Plain.{CompletesBurst, all_pushed, asked_of_all}
use Rattle.dma_machine.specs.Stills.{is_still, none_served, works_still}
use Rattle.dma_machine.proofs.Counting.{acted-turns, turn-acted}
use Rattle.dma_machine.proofs.FallThrough.{IsEmpty, unequal}
use Rattle.dma_machine.proofs.Standing.{is_still-turns, still_acted}
use Rattle.dma_machine.proofs.Turns.{run_counted, still_times}
use Rattle.dma_machine.proofs.WholeBursts.{asked_now, burst_acted, burst_seen, entries_of, holding, is_held, length_entries}
use Rattle.dma_machine.proofs.WholeBursts.{with_entries}

-- ---- a machine that takes plain entries

pub record Takes (q : Queue) (count : ℕ) (instr : Instr) (ds : Demands) (m : State) : Type 0 where
  pub on : m.fifo_on ≡ true
  pub runs : m.risc_on ≡ true
  pub job : m.job ≡ Running instr ds
  pub empty : IsEmpty (queue_state q m.queues)
  pub some : 1 ≤ m.trigger
  pub room : m.trigger ≤ (queue_state q m.queues).capacity
  pub sol : (demand_on q ds).needs_sol ≡ false
  pub off : instr_off instr ≡ 0
  pub still : none_served ds m ≡ true
  pub rest : count * 4 ≤ (demand_on q ds).rest
  pub all : count * 4 < asked_of_all ds

pub both : (a b : Bool) → a ≡ true → b ≡ true → (a && b) ≡ true
both a b e f = ap (λ x. x && b) e ∙ f

pub not_both : (a b : Bool) → b ≡ false → not (a && b) ≡ true
not_both true b e = ap not e
not_both false b e = refl

pub before : (q : Queue) (ds : Demands) (m : State) → none_served ds m ≡ true → none_before q ds m ≡ true
before One ds m none = refl
before Two ds m none =
    let three = and_parts (not (is_served One ds m) && not (is_served Two ds m)) (not (is_served Three ds m)) none in
    (and_parts (not (is_served One ds m)) (not (is_served Two ds m)) three.0).0
before Three ds m none = (and_parts (not (is_served One ds m) && not (is_served Two ds m)) (not (is_served Three ds m)) none).0

-- of one queue nothing is served whatever is asked of it and whatever it holds, where it isn't ready
pub none_served-holding : (q : Queue) (d : Demand) (held : QueueState) (ds : Demands) (m : State) → is_ready m.trigger held ≡ false →
    none_served ds m ≡ true → none_served (with_demand q d ds) (record m { queues = with_queue_state q held m.queues }) ≡ true
none_served-holding One d held ds m unready none =
    let three = and_parts (not (is_served One ds m) && not (is_served Two ds m)) (not (is_served Three ds m)) none in
    let two = and_parts (not (is_served One ds m)) (not (is_served Two ds m)) three.0 in
    both _ _ (both _ _ (not_both (not (d.rest == 0)) _ unready) two.1) three.1
none_served-holding Two d held ds m unready none =
    let three = and_parts (not (is_served One ds m) && not (is_served Two ds m)) (not (is_served Three ds m)) none in
    let two = and_parts (not (is_served One ds m)) (not (is_served Two ds m)) three.0 in
    both _ _ (both _ _ two.0 (not_both (not (d.rest == 0)) _ unready)) three.1
none_served-holding Three d held ds m unready none =
    let three = and_parts (not (is_served One ds m) && not (is_served Two ds m)) (not (is_served Three ds m)) none in
    both _ _ three.0 (not_both (not (d.rest == 0)) _ unready)

pub same_demand : (q : Queue) (ds : Demands) → with_demand q (demand_on q ds) ds ≡ ds
same_demand One ds = refl
same_demand Two ds = refl
same_demand Three ds = refl

pub all_less : (q : Queue) (n : ℕ) (ds : Demands) → n ≤ (demand_on q ds).rest →
    asked_of_all (with_demand q (demand_less n (demand_on q ds)) ds) ≡ asked_of_all ds - n
all_less One n ds le = omega (arith, le)
all_less Two n ds le = omega (arith, le)
all_less Three n ds le = omega (arith, le)

pub none_asked : (a b c : ℕ) → 0 < a + b + c → (a == 0 && b == 0 && c == 0) ≡ false
none_asked (suc a) b c some = let e : (suc a == 0) ≡ false = grind arith in ap (λ x. x && b == 0 && c == 0) e
none_asked zero (suc b) c some = let e : (suc b == 0) ≡ false = grind arith in ap (λ x. x && c == 0) e
none_asked zero zero (suc c) some = grind arith
none_asked zero zero zero some = absurd (omega (arith, some))

-- ---- a queue that holds some of them

pub entries_of-append : (first later : List (ℕ × ℕ)) → entries_of (first ++ later) ≡ entries_of first ++ entries_of later
entries_of-append [] later = refl
entries_of-append (entry ∷ first) later = ap (λ rest. plain_entry entry.0 ∷ rest) (entries_of-append first later)

pub none_wakes : (entries : List (ℕ × ℕ)) → list_any (λ (e : Entry). wakes (kind_of e.status)) (entries_of entries) ≡ false
none_wakes [] = refl
none_wakes (entry ∷ entries) = none_wakes entries

pub too_few : (trigger count : ℕ) → count < trigger → nat_le trigger count ≡ false
too_few trigger count less = grind (arith, less)

pub not_ready : (entries : List (ℕ × ℕ)) (held : QueueState) (trigger : ℕ) → length entries < trigger →
    is_ready trigger (with_entries (entries_of entries) held) ≡ false
not_ready entries held trigger few =
    ap (λ n. nat_le trigger n || list_any (λ (e : Entry). wakes (kind_of e.status)) (entries_of entries)) (length_entries entries)
    ∙ ap (λ b. b || list_any (λ (e : Entry). wakes (kind_of e.status)) (entries_of entries)) (too_few trigger (length entries) few)
    ∙ none_wakes entries

-- where it holds none it is as it was
pub holding_none : (q : Queue) (m : State) → IsEmpty (queue_state q m.queues) → holding q [] m ≡ m
holding_none q m empty =
    let held : QueueState = queue_state q m.queues in
    ap₂ (λ entries taken. record m { queues = with_queue_state q (record held { entries = entries; taken = taken }) m.queues })
    (sym empty.entries) (sym empty.taken)
    ∙ ap (λ queues. record m { queues = queues }) (with_queue_state-same q m.queues)

pub push_one : (q : Queue) (held : List (ℕ × ℕ)) (entry : ℕ × ℕ) (m : State) → m.fifo_on ≡ true →
    length held < (queue_state q m.queues).capacity →
    push q (plain_entry entry.0) (holding q held m) ≡ holding q (held ++ entry ∷ []) m
push_one q held entry m on room =
    let before : State = holding q held m in
    let at : QueueState = queue_state q m.queues in
    let early : QueueState = with_entries (entries_of held) at in
    let free : is_full (queue_state q before.queues) ≡ false =
    ap is_full (is_held q held m)
    ∙ (let same = length_entries held in unequal (length (entries_of held)) at.capacity (omega (arith, same, room))) in
    ap (λ is_on. push_if is_on q (plain_entry entry.0) before) on
    ∙ ap (λ full. record (with_fbus_if full before) {
      queues = if full then (with_queue_state q (overrun (queue_state q before.queues)) before.queues)
          else (with_queue_state q (entered (plain_entry entry.0) (queue_state q before.queues)) before.queues);
    }) free
    ∙ ap (λ (now : QueueState). record m { queues = with_queue_state q (entered (plain_entry entry.0) now) before.queues })
    (is_held q held m)
    ∙ ap (λ queues. record m { queues = queues }) (with_queue_state-twice q early (entered (plain_entry entry.0) early) m.queues)
    ∙ ap (λ entries. record m { queues = with_queue_state q (with_entries entries at) m.queues })
    (sym (entries_of-append held (entry ∷ [])))

-- pushed one after the other
pub all_held : (q : Queue) (entries held : List (ℕ × ℕ)) (m : State) → m.fifo_on ≡ true →
    length held + length entries ≤ (queue_state q m.queues).capacity →
    all_pushed q entries (holding q held m) ≡ holding q (held ++ entries) m
all_held q [] held m on room = ap (λ all. holding q all m) (sym (append-nil held))
all_held q (entry ∷ entries) held m on room =
    let longer = length-append held (entry ∷ []) in
    ap (all_pushed q entries) (push_one q held entry m on (omega (arith, room)))
    ∙ all_held q entries (held ++ entry ∷ []) m on (omega (arith, longer, room))
    ∙ ap (λ all. holding q all m) (append_assoc held (entry ∷ []) entries)

-- ---- one of them, and the turns behind it

module _ (q : Queue) (count : ℕ) (m : State) (instr : Instr) (ds : Demands) (h : Takes q count instr ds m) where
  -- the queue isn't ready
  pub holding_still : (held : List (ℕ × ℕ)) → length held < m.trigger → is_still (holding q held m) ≡ true
  holding_still held few =
      let all = h.all in
      let unready = not_ready held (queue_state q m.queues) m.trigger few in
      ap (λ on. if on then works_still m.job (holding q held m) else true) h.runs
      ∙ ap (λ job. works_still job (holding q held m)) h.job
      ∙ both _ _ (ap not (none_asked ds.one.rest ds.two.rest ds.three.rest (omega (arith, all))))
      (ap (λ asked. none_served asked (holding q held m)) (sym (same_demand q ds))
      ∙ none_served-holding q (demand_on q ds) (with_entries (entries_of held) (queue_state q m.queues)) ds m unready h.still)

  pub turns_count : (held : List (ℕ × ℕ)) (turns : ℕ) → length held < m.trigger → m.turns ≤ 2 ^ 64 - 1 →
      run (holding q held m) (replicate turns Turn) ≡ holding q held (with_turns (more m.turns turns) m)
  turns_count held turns few counted =
      let now : State = with_turns (more m.turns turns) (holding q held m) in
      run_counted turns (holding q held m) counted
      ∙ still_times turns now
      (still_acted now (is_still-turns (more m.turns turns) (holding q held m) ∙ holding_still held few))

  -- it is taken with those that the queue holds
  module _ (all : List (ℕ × ℕ)) (within : length all ≤ count) where
    abbrev less : Demands
    less = with_demand q (demand_less (length all * 4) (demand_on q ds)) ds

    abbrev stored : State
    stored = put_down q (length all * 4) instr ds 0 (dwords_of all) m

    pub all_acted : length all ≡ m.trigger → acted (holding q all m) ≡ stored
    all_acted many = by all many refl
      where
        by : (list : List (ℕ × ℕ)) → length list ≡ m.trigger → list ≡ all →
            acted (holding q list m) ≡ put_down q (length list * 4) instr ds 0 (dwords_of list) m
        by [] none is = let some = h.some in absurd (omega (arith, some, none))
        by (entry ∷ entries) same is =
            let same_length = ap length is in
            let rest = h.rest in
            burst_acted q entry entries m instr ds h.runs h.job h.sol same (omega (arith, same_length, within, rest))
            (before q ds m h.still) h.off
            ∙ holding_none q (put_down q (length (entry ∷ entries) * 4) instr ds 0 (dwords_of (entry ∷ entries)) m) h.empty

    pub all_seen : length all ≡ m.trigger → MovesWhole q (seen (holding q all m))
    all_seen many = by all many refl
      where
        by : (list : List (ℕ × ℕ)) → length list ≡ m.trigger → list ≡ all → MovesWhole q (seen (holding q list m))
        by [] none is = let some = h.some in absurd (omega (arith, some, none))
        by (entry ∷ entries) same is =
            let same_length = ap length is in
            let rest = h.rest in
            let seen_is =
            burst_seen q entry entries m instr ds h.runs h.job h.sol same (omega (arith, same_length, within, rest))
            (before q ds m h.still) in
            seen_is ∙ ap (moved_whole q) (sym (ap (λ (s : Seen). s.at) seen_is))

    -- the machine takes those that are left
    pub others : (left turns : ℕ) → length all + left ≡ count → Takes q left instr less (with_turns turns stored)
    others left turns sum =
        let now = asked_now q (demand_less (length all * 4) (demand_on q ds)) ds in
        let rest_now = ap (λ (d : Demand). d.rest) now in
        let rest = h.rest in
        let every = h.all in
        let taken : length all * 4 ≤ (demand_on q ds).rest = omega (arith, rest, within) in
        let fewer = all_less q (length all * 4) ds taken in
        let some = h.some in
        record {
          on = h.on;
          runs = h.runs;
          job = refl;
          empty = record { entries = h.empty.entries; taken = h.empty.taken; room = h.empty.room };
          some = h.some;
          room = h.room;
          sol = ap (λ (d : Demand). d.needs_sol) now;
          off = h.off;
          still =
              ap (λ queues. none_served less (record m { queues = queues })) (sym (with_queue_state-same q m.queues))
              ∙ none_served-holding q (demand_less (length all * 4) (demand_on q ds)) (queue_state q m.queues) ds m
              (ap (is_ready m.trigger) (empty_entries (queue_state q m.queues) h.empty)
              ∙ not_ready [] (queue_state q m.queues) m.trigger (omega (arith, some))) h.still;
          rest = omega (arith, rest_now, rest, sum);
          all = omega (arith, fewer, every, taken, sum);
        }
      where
        empty_entries : (held : QueueState) → IsEmpty held → held ≡ with_entries [] held
        empty_entries held empty = ap₂ (λ entries taken. record held { entries = entries; taken = taken }) empty.entries empty.taken

  -- the same machine, whatever the count of turns
  pub counted : (turns : ℕ) → Takes q count instr ds (with_turns turns m)
  counted turns =
      record {
        on = h.on;
        runs = h.runs;
        job = h.job;
        empty = record { entries = h.empty.entries; taken = h.empty.taken; room = h.empty.room };
        some = h.some;
        room = h.room;
        sol = h.sol;
        off = h.off;
        still = h.still;
        rest = h.rest;
        all = h.all;
      }

-- an entry that doesn't make its queue ready
module _ (q : Queue) (count : ℕ) (m : State) (instr : Instr) (ds : Demands) (h : Takes q count instr ds m) (held : List (ℕ × ℕ))
    (entry : ℕ × ℕ) (counts : m.turns ≤ 2 ^ 64 - 1) where
  abbrev pushed : State
  pushed = push q (plain_entry entry.0) (holding q held m)

  abbrev longer : List (ℕ × ℕ)
  longer = held ++ entry ∷ []

  pub is_pushed : length held < m.trigger → pushed ≡ holding q longer m
  is_pushed few = let room = h.room in push_one q held entry m h.on (omega (arith, room, few))

  pub waits : length longer < m.trigger → run pushed (replicate entry.1 Turn) ≡ holding q longer (with_turns (more m.turns entry.1) m)
  waits few =
      let more_than = length-append held (entry ∷ []) in
      ap (λ s. run s (replicate entry.1 Turn)) (is_pushed (omega (arith, few, more_than)))
      ∙ turns_count q count m instr ds h longer entry.1 few counts

  pub waits_still : length longer < m.trigger → is_still pushed ≡ true
  waits_still few =
      let more_than = length-append held (entry ∷ []) in
      ap is_still (is_pushed (omega (arith, few, more_than))) ∙ holding_still q count m instr ds h longer few

  -- one that does
  module _ (many : length longer ≡ m.trigger) (within : length longer ≤ count) where
    abbrev taken : State
    taken = put_down q (length longer * 4) instr ds 0 (dwords_of longer) m

    becomes : pushed ≡ holding q longer m
    becomes = let more_than = length-append held (entry ∷ []) in is_pushed (omega (arith, many, more_than))

    taken_still : is_still taken ≡ true
    taken_still = by count refl
      where
        by : (all : ℕ) → all ≡ count → is_still taken ≡ true
        by all is =
            let left = others q count m instr ds h longer within (count - length longer) m.turns (omega (arith, within)) in
            let some = left.some in
            ap is_still (sym (holding_none q taken (record {
              entries = h.empty.entries;
              taken = h.empty.taken;
              room = h.empty.room;
            }))) ∙ holding_still q (count - length longer) (with_turns m.turns taken) instr _ left [] (omega (arith, some))

    pub completes : (turns : ℕ) → turns ≡ entry.1 → 1 ≤ turns →
        run pushed (replicate turns Turn) ≡ with_turns (more m.turns turns) taken
    completes zero is some = absurd (omega (arith, some))
    completes (suc turns) is some =
        let all : ℕ = more m.turns (suc turns) in
        let still : is_still (with_turns all taken) ≡ true = is_still-turns all taken ∙ taken_still in
        ap (λ s. run s (replicate (suc turns) Turn)) becomes
        ∙ run_counted (suc turns) (holding q longer m) counts
        ∙ ap (acted_times turns)
        (acted-turns all (holding q longer m) ∙ ap (with_turns all) (all_acted q count m instr ds h longer within many))
        ∙ still_times turns (with_turns all taken) (still_acted (with_turns all taken) still)

    pub completes_burst : CompletesBurst q pushed
    completes_burst =
        record {
          moves = subst (λ (s : State). MovesWhole q (seen s)) (sym becomes) (all_seen q count m instr ds h longer within many);
          still =
              ap (λ s. is_still (turn s)) becomes
              ∙ ap is_still (turn-acted (holding q longer m)
              ∙ ap (with_turns (more m.turns 1)) (all_acted q count m instr ds h longer within many))
              ∙ is_still-turns (more m.turns 1) taken
              ∙ taken_still;
        }
