-- A running instruction is at the address that is seen.
use Rattle.std.proofs.Common.{◌≡◌, ℕ, Bool, true, false, Option, Some, None, Ok, refl, sym, ap, subst, ◌∙◌, arith}
use Rattle.risc_word.specs.declared.Instr.{Instr}
use Rattle.fifo_model.specs.declared.Queue.{Queue}
use Rattle.machine_model.specs.declared.Demands.{Demands}
use Rattle.machine_model.specs.declared.Job.TheVariants.{Running}
use Rattle.machine_model.specs.Paths.{IsSound, fetch, path}
use Rattle.machine_model.specs.States.{State}
use Rattle.machine_model.specs.Turns.{is_done, lowest_served}
use Rattle.machine_model.specs.Safety.{IsSafe}
use Rattle.machine_model.specs.Seen.{StandsAt, address_before, seen, seen_if, seen_in, seen_running, seen_served}
use Rattle.machine_model.proofs.BeforeTurns.{running-KnownAt, running-RunsAt}

at-served : (q : Option Queue) (at : ℕ) (m : State) → (seen_served q at m).at ≡ at
at-served None at m = refl
at-served (Some q) at m = refl

at-running : (done : Bool) (at : ℕ) (ds : Demands) (m : State) → (seen_running done at ds m).at ≡ at
at-running true at ds m = refl
at-running false at ds m = at-served (lowest_served ds m) at m

module _ (m : State) (instr : Instr) (ds : Demands) (sound : IsSound m.program) (safe : IsSafe m) (runs : m.job ≡ Running instr ds) where
  -- the address before a running instruction is its own
  pub running-StandsAt : StandsAt m instr (address_before m.pc instr)
  running-StandsAt =
      let there = running-RunsAt m sound safe instr ds runs in
      let spelled = (running-KnownAt m sound safe instr ds runs).spelled_is in
      let after = there.after in
      let same : address_before m.pc instr ≡ (path m.program safe.on_path.number).pc = omega (arith, spelled, after) in
      record {
        stands = ap (fetch m.program) same ∙ there.stands ∙ ap (λ (n : ℕ). Ok (instr, n)) spelled;
        after = omega (arith, spelled, after, same);
      }

  pub seen-StandsAt : m.risc_on ≡ true → StandsAt m instr (seen m).at
  seen-StandsAt on =
      let here : (seen m).at ≡ address_before m.pc instr =
      ap (λ on. (seen_if on m).at) on ∙ ap (λ job. (seen_in job m).at) runs ∙ at-running (is_done ds) (address_before m.pc instr) ds m in
      subst (StandsAt m instr) (sym here) running-StandsAt
