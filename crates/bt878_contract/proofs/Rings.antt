-- Every run of a ring's program shows its blocks, by the law of rings.
use Rattle.std.proofs.Common.{All, ◌≡◌, ◌+◌, false, List, sym, subst}
use Rattle.machine_model.specs.Safety.{IsStep}
use Rattle.machine_model.specs.States.{State}
use Rattle.machine_model.specs.Steps.{Step, state_at}
use Rattle.machine_model.specs.Turns.{sets_fdsr}
use Rattle.ring_law.specs.RingRuns.{ShowsBlocks}
use Rattle.ring_law.specs.Runs.{ends_between}
use Rattle.ring_law.proofs.Places.{run_shows_blocks, run_shows_no_fault}
use Rattle.bt878_contract.specs.Rings.{RingsShowNoFault, ShowsRings}

pub rings_shown : (first : State) (steps : List Step) → All IsStep steps → ShowsRings first steps
rings_shown first steps made ring lines j k block begins e =
    let shown = run_shows_blocks ring lines steps j k block made e in (
      shown.0,
      subst (λ (m : State). ShowsBlocks ring lines (ends_between ring steps j k) (state_at m steps j) (state_at m steps (k + 1)))
          (sym begins) shown.1,
    )

pub no_fault_in_rings : (first : State) (steps : List Step) → All IsStep steps → RingsShowNoFault first steps
no_fault_in_rings first steps made ring lines j k block i begins e from to turn =
    subst (λ (m : State). sets_fdsr (state_at m steps i) ≡ false) (sym begins)
    (run_shows_no_fault ring lines steps j k block i made e from to turn)
