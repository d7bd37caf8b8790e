-- One turn, in the opening or along a trail.
use Rattle.std.proofs.Common.{◌≡◌, ℕ, Bool, false, List, refl, sym, subst, inl, inr}
use Rattle.fifo_model.specs.declared.Entry.{Entry}
use Rattle.fifo_model.specs.declared.Queue.{Queue}
use Rattle.page_table.specs.Grants.{Chunk}
use Rattle.machine_model.specs.declared.Job.{Job}
use Rattle.machine_model.specs.declared.Job.TheVariants.{Idle, Waiting, Running}
use Rattle.risc_word.specs.declared.Instr.{Instr}
use Rattle.machine_model.specs.Paths.{RiscProgram}
use Rattle.machine_model.specs.States.{State}
use Rattle.machine_model.specs.Turns.{counted, is_done, worked, turn_if, turn}
use Rattle.machine_model.specs.Steps.{Turn}
use Rattle.machine_model.specs.Safety.{IsOrderly}
use Rattle.field_law.specs.Fields.{Token}
use Rattle.field_law.specs.Sections.{IsUsedUp, UsesField}
use Rattle.field_law.specs.Trails.{Trail}
use Rattle.field_law.specs.Arrivals.{is_end}
use Rattle.field_law.proofs.AskedAndToCome.{AnyRest}
use Rattle.field_law.proofs.Waiting.{waited-Turned}
use Rattle.field_law.proofs.Painting.{Settling}
use Rattle.field_law.proofs.OnTrail.{IsAlong, IsOnTrailAt, TurnedOn, ran-TurnedOn, fetched-TurnedOn}
use Rattle.field_law.proofs.Opening.{IsOpening, IsReached, Reaches, opening-Reaches}

module _ (t : Trail) (IsHeld : RiscProgram → Type 0) (Stands : ℕ → List Instr → Type 0) (along : IsAlong t IsHeld Stands)
    (field : Queue → List Token) (uses : UsesField t.body field) (given : Type 0)
    (chunks : List Chunk) (final : ℕ → ℕ) (later : Queue → List Entry) where
  abbrev On : ℕ → State → Type 0
  On bound m = IsOnTrailAt t IsHeld Stands along given chunks final later bound m

  abbrev Turns : ℕ → ℕ → State → Type 0
  Turns bound interrupts m = TurnedOn t IsHeld Stands along given chunks final later bound interrupts m

  -- the opening or the trail is reached
  abbrev pub IsReachedOn : ℕ → State → Type 0
  IsReachedOn bound m = IsReached t field uses AnyRest Stands (Settling given chunks final) along.begins later bound m

  abbrev ReachesOn : ℕ → ℕ → State → Type 0
  ReachesOn bound interrupts m = Reaches t field uses AnyRest Stands (Settling given chunks final) along.begins later bound interrupts m

  -- ---- a turn along the trail

  works : (bound : ℕ) (job : Job) (m : State) → m.job ≡ job → IsOrderly m → IsHeld m.program → On bound m → is_end t.end m Turn ≡ false →
      Turns bound m.interrupts (worked job m)
  works bound Idle m j orderly held h unended = fetched-TurnedOn t IsHeld Stands along given chunks final later bound m j h held unended
  works bound (Waiting ctl resync code) m j orderly held h unended =
      waited-Turned IsUsedUp AnyRest Stands (Settling given chunks final) later bound ctl resync code m j h
  works bound (Running instr ds) m j orderly held h unended =
      ran-TurnedOn t IsHeld Stands along given chunks final later bound instr ds m (is_done ds) orderly.triggered j h refl

  on_turn : (bound : ℕ) (m : State) → IsOrderly m → IsHeld m.program → On bound m → is_end t.end m Turn ≡ false →
      Turns bound m.interrupts (turn m)
  on_turn bound m orderly held h unended =
      subst (λ (on : Bool). Turns bound m.interrupts (turn_if on (counted m))) (sym h.on)
      (works bound m.job (counted m) refl
      (record { job = orderly.job; queues = orderly.queues; triggered = orderly.triggered }) held h unended)

  reaches : (bound interrupts : ℕ) (m : State) → Turns bound interrupts m → ReachesOn bound interrupts m
  reaches bound interrupts m turned =
      record { next = turned.next; reached = inr turned.within; most = turned.most; less = turned.less; quiet = turned.quiet }

  opening_turn : (bound : ℕ) (m : State) → IsOrderly m →
      IsOpening t field uses AnyRest Stands (Settling given chunks final) along.begins later bound m → ReachesOn bound m.interrupts (turn m)
  opening_turn bound m orderly h =
      subst (λ (on : Bool). ReachesOn bound m.interrupts (turn_if on (counted m))) (sym h.on)
      (subst (λ (job : Job). ReachesOn bound m.interrupts (worked job (counted m))) (sym h.waits)
      (opening-Reaches t field uses AnyRest Stands (Settling given chunks final) along.begins later bound (counted m) h orderly.queues))

  pub turn-Reaches : (bound : ℕ) (m : State) → IsOrderly m → IsHeld m.program → IsReachedOn bound m → is_end t.end m Turn ≡ false →
      ReachesOn bound m.interrupts (turn m)
  turn-Reaches bound m orderly held (inl h) unended = opening_turn bound m orderly h
  turn-Reaches bound m orderly held (inr h) unended = reaches bound m.interrupts (turn m) (on_turn bound m orderly held h unended)
