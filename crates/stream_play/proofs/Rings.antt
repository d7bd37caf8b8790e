-- The blocks that are counted while a stream is played are all its block ends.
use Rattle.std.proofs.Common.{◌≡◌, ℕ, zero, suc, ◌+◌, ◌≤◌, false, List, [], ◌∷◌, replicate, Option, Some, None, refl, ap, ◌∙◌, arith}
use Rattle.machine_model.specs.States.{State, first_state}
use Rattle.machine_model.specs.Steps as machine
use Rattle.machine_model.specs.Steps.{run, step}
use Rattle.machine_model.proofs.Safe.{IsSafe-first_state}
use Rattle.ring_model.specs.Rings.{IsRing, Ring, ends, ring_program}
use Rattle.ring_model.specs.Runs.{BlockAt, block_end, block_ends, block_ends_seen, one_if}
use Rattle.ring_model.proofs.Counting.{block_ends-append}
use Rattle.ring_law.proofs.Seeing.{blocks_seen_are_ended}
use Rattle.machine_watch.specs.Watches.{watching}
use Rattle.ring_machine.specs.States.{RingState, block_notes}
use Rattle.ring_machine.proofs.Counting.{blocks_counted}
use Rattle.capture_file.specs.declared.Step.{Step}
use Rattle.capture_file.specs.declared.Step.TheVariants.{Push, Control, Turns, Host, Patch}
use Rattle.capture_file.specs.Streams.{atomic, steps_run, turns_of}
use Rattle.stream_play.specs.Plays.{HasPlayedWatched, longest_stream}
use Rattle.stream_play.specs.Runs.{HasPlayedRing, turns_in}
use Rattle.stream_play.proofs.FewTurns.{turns_few}
use Rattle.stream_play.proofs.Fitting.{steps_fit}

-- no more blocks are ended than there are turns
one_at_most : (block : Option ℕ) → one_if block ≤ 1
one_at_most None = omega arith
one_at_most (Some n) = omega arith

turn_ends : (at : BlockAt) (count : ℕ) (m : State) → block_ends at m (replicate count machine.Turn) ≤ count
turn_ends at zero m = omega arith
turn_ends at (suc count) m =
    let here = one_at_most (block_end at m machine.Turn) in
    let later = turn_ends at count (step machine.Turn m) in
    omega (arith, here, later)

step_ends : (at : BlockAt) (one : Step) (m : State) → block_ends at m (atomic one) ≤ turns_of one
step_ends at (Push queue entry) m = omega arith
step_ends at (Control code) m = omega arith
step_ends at (Turns count) m = turn_ends at count m
step_ends at (Host write) m = omega arith
step_ends at (Patch slot buffer) m = omega arith

ends_few : (at : BlockAt) (steps : List Step) (m : State) → block_ends at m (steps_run steps) ≤ turns_in steps
ends_few at [] m = omega arith
ends_few at (one ∷ steps) m =
    let both = block_ends-append at m (atomic one) (steps_run steps) in
    let here = step_ends at one m in
    let later = ends_few at steps (run m (atomic one)) in
    omega (arith, both, here, later)

pub ring_played : (bytes : List ℕ) (ring : Ring) (now : RingState) → IsRing ring →
    HasPlayedWatched block_notes bytes (watching (first_state (ring_program ring) ring.fill) (record { ring = ring; blocks = 0 })) now →
    HasPlayedRing bytes ring (first_state (ring_program ring) ring.fill) now
ring_played bytes ring now is (steps, reads, ran) =
    let m : State = first_state (ring_program ring) ring.fill in
    let few = turns_few longest_stream false bytes steps reads in
    let fewer = ends_few (ends ring) steps m in
    let seen : block_ends_seen (ends ring) m (steps_run steps) ≡ block_ends (ends ring) m (steps_run steps) =
    blocks_seen_are_ended ring m (steps_run steps) is refl (IsSafe-first_state (ring_program ring) ring.fill)
    (steps_fit bytes steps reads) in
    let all : 0 + block_ends_seen (ends ring) m (steps_run steps) ≡ block_ends (ends ring) m (steps_run steps) = omega (arith, seen) in (
      steps,
      reads,
      ran
          ∙ ap (watching (run m (steps_run steps)))
          (blocks_counted (steps_run steps) m (record { ring = ring; blocks = 0 }) (omega (arith, few, fewer, seen))
          ∙ ap (λ (n : ℕ). record { ring = ring; blocks = n }) all),
    )
