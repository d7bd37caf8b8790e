-- The generated stream of the smallest description: its field arrives, and is signalled.
use Rattle.std.proofs.Common.{◌≡◌, List, [], ◌++◌, refl, arith}
use Rattle.std.proofs.lemmas.List.Elements.{All-nil}
use Rattle.risc_word.specs.declared.Code.TheVariants.{Vre}
use Rattle.fifo_model.specs.declared.Queue.{Queue}
use Rattle.fifo_model.specs.declared.Queue.TheVariants.{One, Two, Three}
use Rattle.fifo_model.specs.Queues.{queue_state}
use Rattle.pixel_layout.specs.declared.Parity.TheVariants.{Top}
use Rattle.machine_model.specs.States.{first_state}
use Rattle.machine_model.specs.Steps.{Step}
use Rattle.picture_model.specs.Programs.{compiled}
use Rattle.picture_model.specs.Worked.{smallest}
use Rattle.field_law.specs.Arrivals.{AreKept, HasCode, meeting, pushed_in}
use Rattle.picture_law.specs.Sections.{section_of}
use Rattle.picture_law.specs.Runs.{IsFirstSignal, between, state_of}
use Rattle.picture_law.proofs.Between.{silent_at}
use Rattle.picture_law.proofs.Worked.{described}
use Rattle.generated_law.specs.Streams.{Awaits, HasField, IsTaken, stream_steps}

abbrev steps : List Step
steps = stream_steps smallest 1 1

-- the smallest description is that of the worked picture
has : HasField smallest 1 0 Top
has = record { description = described; valid = refl; described = refl; within = omega arith }

held : (q : Queue) → (queue_state q (state_of smallest 0 steps 2).queues).entries ≡ [] ++ pushed_in (between 0 2 steps) q
held One = refl
held Two = refl
held Three = refl

awaits : Awaits smallest Top (state_of smallest 0 steps 2) (between 0 2 steps)
awaits =
    record {
      fifo_on = refl;
      risc_on = refl;
      waits = refl;
      there = refl;
      before = λ q. [];
      held = held;
      unmarked = λ q. All-nil (λ entry. HasCode Vre entry → ⊥);
    }

kept : AreKept (state_of smallest 0 steps 2) (meeting (compiled smallest) (between 2 55 steps))
kept =
    (tt, (tt, (tt, (tt, (tt, (tt, (tt, (tt, (tt, (tt, (tt, (tt, (tt, (tt, (tt, (refl, (tt, (tt, (tt, (tt, (tt, (tt, (tt, (tt, (tt, (tt, (tt, (tt, (tt, (tt, (tt, (tt, (refl, (tt, (tt, (tt, (tt, (tt, (tt, (tt, (tt, (tt, (tt, (tt, (tt, (tt, (tt, (tt, (tt, (refl, (tt, (tt, (tt, tt)))))))))))))))))))))))))))))))))))))))))))))))))))))

first_signal : IsFirstSignal (section_of smallest Top) (first_state (compiled smallest) 0) steps 2 54
first_signal =
    record {
      later = omega arith;
      there = omega arith;
      signal = refl;
      first = λ i from to.
          silent_at (section_of smallest Top) (first_state (compiled smallest) 0) steps 52 2 54 i refl (omega arith) refl from to;
    }

pub taken : IsTaken smallest 1 1 0 Top 0 2 54
taken =
    record {
      has = has;
      later = omega arith;
      pushed = omega arith;
      awaits = awaits;
      kept = kept;
      signal = first_signal;
    }
