-- Plain entries that are pushed to an empty queue are taken burst by burst, and the last of them wait.
use Rattle.std.proofs.Common.{◌≡◌, ℕ, zero, suc, ◌+◌, ◌*◌, ◌-◌, ◌<◌, ◌≤◌, ◌^◌, inl, inr, Bool, true, false, List, [], ◌∷◌, ◌++◌}
use Rattle.std.proofs.Common.{length, take, drop, replicate, refl, sym, ap, ap₂, subst, ◌∙◌, arith, ◌==◌}
use Rattle.std.specs.Prelude.{nat_le}
use Rattle.std.proofs.lemmas.List.{append-nil, append_assoc, length-append, length-drop, length-take-le}
use Rattle.std.proofs.lemmas.List.{take-append-drop}
use Rattle.std.proofs.Math.Nat.{suc-mul}
use Rattle.risc_word.specs.declared.Instr.{Instr}
use Rattle.fifo_model.specs.declared.Queue.{Queue}
use Rattle.fifo_model.specs.Queues.{lane_bytes, more}
use Rattle.machine_model.specs.declared.Demands.{Demands}
use Rattle.machine_model.specs.PlainEntries.{HaveTurns, dwords_of, plain_entry, plain_steps, turns_behind}
use Rattle.machine_model.specs.States.{State}
use Rattle.machine_model.specs.Steps.{Push, Turn, push, run}
use Rattle.machine_model.specs.Turns.{demand_less, demand_on, with_demand}
use Rattle.machine_model.proofs.Runs.{run-append}
use Rattle.dma_machine.specs.Counts.{with_turns}
use Rattle.dma_machine.specs.FallThrough.{put_down}
use Rattle.dma_machine.specs.Plain.{AreTaken}
use Rattle.dma_machine.proofs.WholeBursts.{holding, put_both}
use Rattle.dma_machine.proofs.PlainTakes.{Takes, completes, completes_burst}
use Rattle.dma_machine.proofs.PlainTakes.{counted, holding_none}
use Rattle.dma_machine.proofs.PlainTakes.{others}
use Rattle.dma_machine.proofs.PlainTakes.{too_few, waits, waits_still}

-- ---- all of them

pub dwords_both : (first later : List (ℕ × ℕ)) → dwords_of (first ++ later) ≡ dwords_of first ++ dwords_of later
dwords_both [] later = refl
dwords_both (entry ∷ first) later = ap (λ bytes. lane_bytes entry.0 ++ bytes) (dwords_both first later)

pub turns_both : (first later : List (ℕ × ℕ)) → turns_behind (first ++ later) ≡ turns_behind first + turns_behind later
turns_both [] later = omega arith
turns_both (entry ∷ first) later = let rest = turns_both first later in omega (arith, rest)

pub steps_both : (q : Queue) (first later : List (ℕ × ℕ)) → plain_steps q (first ++ later) ≡ plain_steps q first ++ plain_steps q later
steps_both q [] later = refl
steps_both q (entry ∷ first) later =
    ap (λ steps. (Push q (plain_entry entry.0) ∷ replicate entry.1 Turn) ++ steps) (steps_both q first later)
    ∙ sym (append_assoc (Push q (plain_entry entry.0) ∷ replicate entry.1 Turn) (plain_steps q first) (plain_steps q later))

pub have_both : (first later : List (ℕ × ℕ)) → HaveTurns (first ++ later) → HaveTurns first × HaveTurns later
have_both [] later have = (tt, have)
have_both (entry ∷ first) later have = let rest = have_both first later have.1 in ((have.0, rest.0), rest.1)

-- behind none that wait
pub behind_none : (q : Queue) (count : ℕ) (instr : Instr) (ds : Demands) (m : State) → Takes q count instr ds m →
    Takes q (0 + count) instr ds m
behind_none q count instr ds m h = let e : count ≡ 0 + count = omega arith in subst (λ n. Takes q n instr ds m) e h

-- fewer than make the queue ready wait in it
pub fill : (q : Queue) (instr : Instr) (ds : Demands) (entries held : List (ℕ × ℕ)) (m : State) →
    Takes q (length held + length entries) instr ds m →
    length held + length entries < m.trigger → m.turns ≤ 2 ^ 64 - 1 → HaveTurns entries →
    run (holding q held m) (plain_steps q entries) ≡ holding q (held ++ entries) (with_turns (more m.turns (turns_behind entries)) m)
fill q instr ds [] held m h few counts have =
    let same : m.turns ≡ more m.turns 0 = omega (arith, counts) in
    ap₂ (λ all turns. holding q all (with_turns turns m)) (sym (append-nil held)) same
fill q instr ds (entry ∷ entries) held m h few counts have =
    let longer : List (ℕ × ℕ) = held ++ entry ∷ [] in
    let many : length longer + length entries ≡ length held + length (entry ∷ entries) =
    (let sum = length-append held (entry ∷ []) in omega (arith, sum)) in
    let turns : ℕ = more m.turns entry.1 in
    let next : Takes q (length longer + length entries) instr ds m = subst (λ n. Takes q n instr ds m) (sym many) h in
    let sum : more turns (turns_behind entries) ≡ more m.turns (turns_behind (entry ∷ entries)) = omega arith in
    run-append (push q (plain_entry entry.0) (holding q held m)) (replicate entry.1 Turn) (plain_steps q entries)
    ∙ ap (λ s. run s (plain_steps q entries))
    (waits q _ m instr ds h held entry counts (omega (arith, many, few)))
    ∙ fill q instr ds entries longer (with_turns turns m) (counted q _ m instr ds next turns) (omega (arith, many, few))
    (omega arith) have.1
    ∙ ap₂ (λ all n. holding q all (with_turns n m)) (append_assoc held (entry ∷ []) entries) sum

-- as many as make it ready are taken
pub finish : (q : Queue) (instr : Instr) (ds : Demands) (entry : ℕ × ℕ) (entries held : List (ℕ × ℕ)) (m : State) (count : ℕ) →
    Takes q count instr ds m → length held + length (entry ∷ entries) ≡ m.trigger → m.trigger ≤ count →
    m.turns ≤ 2 ^ 64 - 1 → HaveTurns (entry ∷ entries) →
    run (holding q held m) (plain_steps q (entry ∷ entries))
    ≡ with_turns (more m.turns (turns_behind (entry ∷ entries)))
    (put_down q (m.trigger * 4) instr ds 0 (dwords_of (held ++ entry ∷ entries)) m)
finish q instr ds entry [] held m count h many within counts have =
    let longer : List (ℕ × ℕ) = held ++ entry ∷ [] in
    let sum = length-append held (entry ∷ []) in
    let full : length longer ≡ m.trigger = omega (arith, sum, many) in
    let turns : more m.turns entry.1 ≡ more m.turns (turns_behind (entry ∷ [])) = omega arith in
    run-append (push q (plain_entry entry.0) (holding q held m)) (replicate entry.1 Turn) []
    ∙ completes q count m instr ds h held entry counts full (omega (arith, full, within)) entry.1 refl have.0
    ∙ ap₂ (λ n four. with_turns n (put_down q (four * 4) instr ds 0 (dwords_of longer) m)) turns full
finish q instr ds entry (next ∷ entries) held m count h many within counts have =
    let longer : List (ℕ × ℕ) = held ++ entry ∷ [] in
    let sum = length-append held (entry ∷ []) in
    let turns : ℕ = more m.turns entry.1 in
    let all : more turns (turns_behind (next ∷ entries)) ≡ more m.turns (turns_behind (entry ∷ next ∷ entries)) = omega arith in
    run-append (push q (plain_entry entry.0) (holding q held m)) (replicate entry.1 Turn) (plain_steps q (next ∷ entries))
    ∙ ap (λ s. run s (plain_steps q (next ∷ entries)))
    (waits q count m instr ds h held entry counts (omega (arith, sum, many)))
    ∙ finish q instr ds next entries longer (with_turns turns m) count (counted q count m instr ds h turns)
    (omega (arith, sum, many)) within
    (omega arith) have.1
    ∙ ap₂ (λ n (list : List (ℕ × ℕ)). with_turns n (put_down q (m.trigger * 4) instr ds 0 (dwords_of list) m)) all
    (append_assoc held (entry ∷ []) (next ∷ entries))

-- one burst, out of a queue that is empty before it
pub one_burst : (q : Queue) (instr : Instr) (ds : Demands) (entries : List (ℕ × ℕ)) (m : State) (count : ℕ) → Takes q count instr ds m →
    length entries ≡ m.trigger → m.trigger ≤ count → m.turns ≤ 2 ^ 64 - 1 → HaveTurns entries →
    run m (plain_steps q entries)
    ≡ with_turns (more m.turns (turns_behind entries)) (put_down q (length entries * 4) instr ds 0 (dwords_of entries) m)
one_burst q instr ds [] m count h many within counts have = let some = h.some in absurd (omega (arith, some, many))
one_burst q instr ds (entry ∷ entries) m count h many within counts have =
    ap (λ s. run s (plain_steps q (entry ∷ entries))) (sym (holding_none q m h.empty))
    ∙ finish q instr ds entry entries [] m count h (omega (arith, many)) within counts have
    ∙ ap (λ n. with_turns (more m.turns (turns_behind (entry ∷ entries))) (put_down q (n * 4) instr ds 0 (dwords_of (entry ∷ entries)) m))
    (sym many)

pub length_dwords : (entries : List (ℕ × ℕ)) → length (dwords_of entries) ≡ length entries * 4
length_dwords [] = refl
length_dwords (entry ∷ entries) = let rest = length_dwords entries in omega (arith, rest)

-- several bursts
module _ (q : Queue) (instr : Instr) where
  pub all_bursts : (bursts : ℕ) (ds : Demands) (entries : List (ℕ × ℕ)) (m : State) (count : ℕ) → Takes q count instr ds m →
      length entries ≡ suc bursts * m.trigger → length entries ≤ count → m.turns ≤ 2 ^ 64 - 1 → HaveTurns entries →
      run m (plain_steps q entries)
      ≡ with_turns (more m.turns (turns_behind entries)) (put_down q (length entries * 4) instr ds 0 (dwords_of entries) m)
  all_bursts zero ds entries m count h many within counts have =
      one_burst q instr ds entries m count h (omega (arith, many)) (omega (arith, many, within)) counts have
  all_bursts (suc bursts) ds entries m count h many within counts have =
      let first : List (ℕ × ℕ) = take m.trigger entries in
      let later : List (ℕ × ℕ) = drop m.trigger entries in
      let parted = take-append-drop m.trigger entries in
      let product : suc (suc bursts) * m.trigger ≡ suc bursts * m.trigger + m.trigger = suc-mul (suc bursts) m.trigger in
      let first_many : length first ≡ m.trigger = length-take-le m.trigger entries (omega (arith, many, product)) in
      let later_many : length later ≡ suc bursts * m.trigger = length-drop m.trigger entries ∙ omega (arith, many, product) in
      let have_parts = have_both first later (subst HaveTurns (sym parted) have) in
      let turns : ℕ = more m.turns (turns_behind first) in
      let less : Demands = with_demand q (demand_less (length first * 4) (demand_on q ds)) ds in
      let after : State = with_turns turns (put_down q (length first * 4) instr ds 0 (dwords_of first) m) in
      let left = others q count m instr ds h first (omega (arith, first_many, many, within, product)) (count - length first) turns
      (omega (arith, first_many, many, within, product)) in
      let sum : more turns (turns_behind later) ≡ more m.turns (turns_behind entries) =
      (let all = turns_both first later in let same = ap turns_behind parted in omega (arith, all, same)) in
      let bytes : dwords_of first ++ dwords_of later ≡ dwords_of entries = sym (dwords_both first later) ∙ ap dwords_of parted in
      let all_many : length first * 4 + length later * 4 ≡ length entries * 4 =
      (let all = length-append first later in let same = ap length parted in omega (arith, all, same)) in
      ap (λ list. run m (plain_steps q list)) (sym parted)
      ∙ ap (run m) (steps_both q first later)
      ∙ run-append m (plain_steps q first) (plain_steps q later)
      ∙ ap (λ s. run s (plain_steps q later))
      (one_burst q instr ds first m count h first_many (omega (arith, many, within, product)) counts have_parts.0)
      ∙ all_bursts bursts less later after (count - length first) left later_many
      (omega (arith, later_many, first_many, many, within, product))
      (omega arith) have_parts.1
      ∙ ap (with_turns (more turns (turns_behind later)))
      (put_both q instr ds m h.off (dwords_of first) (dwords_of later) (length first * 4) (length later * 4) (sym (length_dwords first)))
      ∙ ap (λ n. with_turns n (put_down q (length first * 4 + length later * 4) instr ds 0 (dwords_of first ++ dwords_of later) m)) sum
      ∙ ap₂ (λ n list. with_turns (more m.turns (turns_behind entries)) (put_down q n instr ds 0 list m)) all_many bytes

-- each is seen to wait or to complete a burst
pub all_taken : (q : Queue) (instr : Instr) (entries held : List (ℕ × ℕ)) (ds : Demands) (m : State) →
    Takes q (length held + length entries) instr ds m → length held < m.trigger → m.turns ≤ 2 ^ 64 - 1 → HaveTurns entries →
    AreTaken (nat_le m.trigger (length held + length entries)) q entries (holding q held m)
all_taken q instr [] held ds m h few counts have = too_few m.trigger (length held + 0) (omega (arith, few))
all_taken q instr (entry ∷ entries) held ds m h few counts have =
    let longer : List (ℕ × ℕ) = held ++ entry ∷ [] in
    let sum = length-append held (entry ∷ []) in
    let many : length longer + length entries ≡ length held + length (entry ∷ entries) = omega (arith, sum) in
    let turns : ℕ = more m.turns entry.1 in
    let some = h.some in
    let none : 0 + length entries ≡ length entries = omega arith in
    by_full (length longer == m.trigger) refl sum many
    (λ fewer. all_taken q instr entries longer ds (with_turns turns m)
    (counted q _ m instr ds (subst (λ n. Takes q n instr ds m) (sym many) h) turns) fewer (omega arith) have.1)
    (λ within. subst (λ n. AreTaken (nat_le m.trigger n) q entries
    (holding q [] (with_turns turns (put_down q (length longer * 4) instr ds 0 (dwords_of longer) m)))) none
    (all_taken q instr entries []
    (with_demand q (demand_less (length longer * 4) (demand_on q ds)) ds)
    (with_turns turns (put_down q (length longer * 4) instr ds 0 (dwords_of longer) m))
    (behind_none q _ instr _ _ (others q _ m instr ds h longer within (length entries) turns many)) (omega (arith, some)) (omega arith)
    have.1))
  where
    by_full : (full : Bool) → (length (held ++ entry ∷ []) == m.trigger) ≡ full → length (held ++ entry ∷ []) ≡ length held + 1 →
        length (held ++ entry ∷ []) + length entries ≡ length held + length (entry ∷ entries) →
        (length (held ++ entry ∷ []) < m.trigger →
        AreTaken (nat_le m.trigger (length (held ++ entry ∷ []) + length entries)) q entries
        (holding q (held ++ entry ∷ []) (with_turns (more m.turns entry.1) m))) →
        (length (held ++ entry ∷ []) ≤ length held + length (entry ∷ entries) →
        AreTaken (nat_le m.trigger (length entries)) q entries
        (holding q [] (with_turns (more m.turns entry.1)
        (put_down q (length (held ++ entry ∷ []) * 4) instr ds 0 (dwords_of (held ++ entry ∷ [])) m)))) →
        AreTaken (nat_le m.trigger (length held + length (entry ∷ entries))) q (entry ∷ entries) (holding q held m)
    by_full false is sum many waiting taken =
        let other : length (held ++ entry ∷ []) < m.trigger = grind (arith, few, sum, is) in
        inl (
          waits_still q _ m instr ds h held entry counts other,
          subst
              (λ n. AreTaken (nat_le m.trigger n) q entries
              (run (push q (plain_entry entry.0) (holding q held m)) (replicate entry.1 Turn))) many
              (subst (AreTaken (nat_le m.trigger (length (held ++ entry ∷ []) + length entries)) q entries)
              (sym (waits q _ m instr ds h held entry counts other)) (waiting other)),
        )
    by_full true is sum many waiting taken =
        let full : length (held ++ entry ∷ []) ≡ m.trigger = grind (arith, is) in
        let within : length (held ++ entry ∷ []) ≤ length held + length (entry ∷ entries) = omega (arith, many) in
        let enough : m.trigger ≤ length held + length (entry ∷ entries) = omega (arith, full, within) in
        let after : State =
        with_turns (more m.turns entry.1) (put_down q (length (held ++ entry ∷ []) * 4) instr ds 0 (dwords_of (held ++ entry ∷ [])) m) in
        inr (
          grind (arith, enough),
          completes_burst q _ m instr ds h held entry counts full within,
          nat_le m.trigger (length entries),
          subst (AreTaken (nat_le m.trigger (length entries)) q entries)
              (holding_none q after (record { entries = h.empty.entries; taken = h.empty.taken; room = h.empty.room })
              ∙ sym (completes q _ m instr ds h held entry counts full within entry.1 refl have.0))
              (taken within),
        )
