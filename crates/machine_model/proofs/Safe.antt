-- Safety is kept by every step of a sound program.
use Rattle.std.proofs.Common.{ℕ, refl, sym, ap, subst, ◌∙◌}
use Rattle.page_table.proofs.Memory.{chunks_of-filled}
use Rattle.machine_model.specs.Paths.{RiscProgram, path, IsSound}
use Rattle.machine_model.specs.States.{State, first_state}
use Rattle.machine_model.specs.Steps.{Step, step}
use Rattle.machine_model.specs.Safety.{JobAt, IsOnPath, IsSafe, IsStep}
use Rattle.machine_model.proofs.Orderly.{IsOrderly-step, IsOrderly-first_state}
use Rattle.machine_model.proofs.ProgramStays.{program-step, chunks-step}
use Rattle.machine_model.proofs.Following.{Follows, Follows-step}

pub IsSafe-Follows : (m : State) → IsSafe m → Follows m.program m
IsSafe-Follows m h = record { same = refl; number = h.on_path.number; there = h.on_path.there; no_error = h.no_error }

IsOnPath-Follows : (program : RiscProgram) (m : State) → Follows program m → IsOnPath m
IsOnPath-Follows program m h =
    record {
      number = h.number;
      there = subst (λ p. JobAt p (path p h.number) m.pc m.skipping m.target m.job) (sym h.same) h.there;
    }

pub IsSafe-step : (s : Step) (m : State) → IsStep s → IsSound m.program → IsSafe m → IsSafe (step s m)
IsSafe-step s m n sound h =
    let next = Follows-step m.program sound s m (IsSafe-Follows m h) in
    record {
      on_path = IsOnPath-Follows m.program (step s m) next;
      chunks = chunks-step s m ∙ h.chunks ∙ sym (ap (λ p. p.grants) (program-step s m));
      no_error = next.no_error;
      orderly = IsOrderly-step s m n h.orderly;
    }

pub IsSafe-first_state : (program : RiscProgram) (fill : ℕ) → IsSafe (first_state program fill)
IsSafe-first_state program fill =
    record {
      on_path = record { number = 0; there = (refl, refl) };
      chunks = chunks_of-filled fill program.grants;
      no_error = refl;
      orderly = IsOrderly-first_state program fill;
    }
