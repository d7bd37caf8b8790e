-- The turns of a record: all are counted first, and then each is taken.
use Rattle.std.proofs.Common.{◌≡◌, ℕ, zero, suc, true, ◌-◌, ◌<◌, ◌≤◌, ◌^◌, replicate, refl, sym, ap, ◌∙◌, arith}
use Rattle.fifo_model.specs.Queues.{more}
use Rattle.machine_model.specs.States.{State}
use Rattle.machine_model.specs.Steps.{Turn, run}
use Rattle.machine_model.specs.Turns.{turn}
use Rattle.dma_machine.specs.Counts.{acted, acted_times, with_turns}
use Rattle.dma_machine.specs.Facts.{IsMachine}
use Rattle.dma_machine.specs.Stills.{is_still}
use Rattle.dma_machine.proofs.Counting.{acted-turns, turn-acted}
use Rattle.dma_machine.proofs.Standing.{still_acted}

-- of `count` turns so many are left, and all lead to the same
pub record AreLeft (before : State) (count left : ℕ) (m : State) : Type 0 where
  pub lead : acted_times left m ≡ acted_times count before
  pub facts : IsMachine m

-- one fewer
pub one_fewer : (before : State) (count left : ℕ) (m after : State) → after ≡ acted m → IsMachine after →
    AreLeft before count (suc left) m → AreLeft before count left after
one_fewer before count left m after made facts h = record { lead = ap (acted_times left) made ∙ h.lead; facts = facts }

-- a machine that stands still is as it was behind all of them
pub still_times : (left : ℕ) (m : State) → acted m ≡ m → acted_times left m ≡ m
still_times zero m still = refl
still_times (suc left) m still = ap (acted_times left) still ∙ still_times left m still

pub standing_left : (before : State) (count left : ℕ) (m after : State) → is_still m ≡ true → after ≡ m → AreLeft before count left m →
    after ≡ acted_times count before
standing_left before count left m after still same h = same ∙ sym (still_times left m (still_acted m still)) ∙ h.lead

-- they may be counted before they are taken
pub run_counted : (count : ℕ) (m : State) → m.turns ≤ 2 ^ 64 - 1 →
    run m (replicate count Turn) ≡ acted_times count (with_turns (more m.turns count) m)
run_counted zero m few = let same : m.turns ≡ more m.turns 0 = omega arith in ap (λ turns. with_turns turns m) same
run_counted (suc count) m few =
    let one : (turn m).turns ≡ more m.turns 1 = ap (λ (after : State). after.turns) (turn-acted m) in
    let all : more (turn m).turns count ≡ more m.turns (suc count) = omega arith in
    let now : with_turns (more (turn m).turns count) (turn m) ≡ acted (with_turns (more m.turns (suc count)) m) =
    ap (λ turns. with_turns turns (turn m)) all ∙ ap (with_turns (more m.turns (suc count))) (turn-acted m)
    ∙ sym (acted-turns (more m.turns (suc count)) m) in
    run_counted count (turn m) (omega arith) ∙ ap (acted_times count) now

-- or behind the first
pub first_counted : (count : ℕ) (m first counted after : State) → 0 < count → first.turns ≤ 2 ^ 64 - 1 → first ≡ acted m →
    counted ≡ with_turns (more first.turns count) first → after ≡ acted_times (count - 1) counted → after ≡ run m (replicate count Turn)
first_counted zero m first counted after some few one made all = absurd (omega (arith, some))
first_counted (suc count) m first counted after some few one made all =
    let turns : ℕ = more m.turns (suc count) in
    let same : first.turns ≡ m.turns = ap (λ (s : State). s.turns) (one ∙ acted-turns m.turns m) in
    let rest : suc count - 1 ≡ count = omega arith in
    let late : counted ≡ acted (with_turns turns m) =
    made ∙ ap (λ before. with_turns (more before (suc count)) first) same ∙ ap (with_turns turns) one ∙ sym (acted-turns turns m) in
    all ∙ ap (λ left. acted_times left counted) rest ∙ ap (acted_times count) late
    ∙ sym (run_counted (suc count) m (omega (arith, few, same)))
