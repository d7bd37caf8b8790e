-- Runs from the opening on along a trail, up to the end.
use Rattle.std.proofs.Common.{◌≡◌, ℕ, ◌+◌, ◌≤◌, false, All, List, [], ◌∷◌, ◌++◌, refl, arith}
use Rattle.std.proofs.lemmas.Bool.{or_parts}
use Rattle.std.proofs.lemmas.List.Elements.{All-head, All-tail}
use Rattle.fifo_model.specs.declared.Entry.{Entry}
use Rattle.fifo_model.specs.declared.Queue.{Queue}
use Rattle.page_table.specs.Grants.{Chunk}
use Rattle.risc_word.specs.declared.Instr.{Instr}
use Rattle.machine_model.specs.Paths.{RiscProgram}
use Rattle.machine_model.specs.States.{State}
use Rattle.machine_model.specs.Steps.{Step, Turn, step, with_program, run_in}
use Rattle.machine_model.specs.Safety.{IsStep, IsOrderly}
use Rattle.machine_model.proofs.Orderly.{IsOrderly-step, IsOrderly-with_program}
use Rattle.field_law.specs.Fields.{Token}
use Rattle.field_law.specs.Sections.{UsesField}
use Rattle.field_law.specs.Trails.{Trail}
use Rattle.field_law.specs.Arrivals.{Met, after, pushed_by, coming, IsKept, AreKept, is_end, has_end, turn_count, turns_in}
use Rattle.field_law.proofs.Opening.{IsReached}
use Rattle.field_law.proofs.Turns.{turn-Reaches}
use Rattle.field_law.proofs.Pushes.{ahead_there, ahead_more}
use Rattle.field_law.proofs.Moved.{step-IsReached}
use Rattle.field_law.proofs.Painting.{Settling}
use Rattle.field_law.proofs.OnTrail.{IsAlong}
use Rattle.field_law.proofs.AskedAndToCome.{AnyRest}

pub IsOrderly-after : (m : State) (met : Met) → IsStep met.1 → IsOrderly m → IsOrderly (after m met)
IsOrderly-after m met made orderly = IsOrderly-step met.1 (with_program met.0 m) made (IsOrderly-with_program met.0 m orderly)

module _ (t : Trail) (IsHeld : RiscProgram → Type 0) (Stands : ℕ → List Instr → Type 0) (along : IsAlong t IsHeld Stands)
    (field : Queue → List Token) (uses : UsesField t.body field) (given : Type 0)
    (chunks : List Chunk) (final : ℕ → ℕ) where
  abbrev pub ReachedWith : (Queue → List Entry) → ℕ → State → Type 0
  ReachedWith later bound m = IsReached t field uses AnyRest Stands (Settling given chunks final) along.begins later bound m

  -- ---- one step, of which the pushes were to come

  pub record Stepped (later : Queue → List Entry) (bound : ℕ) (m : State) : Type 0 where
    pub next : ℕ
    pub reached : ReachedWith later next m
    pub most : next ≤ bound

  steps_on : (later : Queue → List Entry) (bound : ℕ) (m : State) (met : Met) (st : Step) → IsOrderly m → IsHeld met.0 →
      IsKept (with_program met.0 m) st →
      is_end t.end m st ≡ false → ReachedWith (λ q. pushed_by st q ++ later q) bound m →
      Stepped later bound (step st (with_program met.0 m))
  steps_on later bound m met Turn orderly held kept unended h =
      let r =
      turn-Reaches t IsHeld Stands along field uses given chunks final later bound (with_program met.0 m)
      (IsOrderly-with_program met.0 m orderly) held h unended in
      record { next = r.next; reached = r.reached; most = r.most }
  steps_on later bound m met st orderly held kept unended h =
      record {
        next = bound;
        reached =
            step-IsReached t field uses AnyRest Stands (Settling given chunks final) along.begins (λ q. pushed_by st q ++ later q) later
            (λ q. []) (λ q rest any. any) bound st (with_program met.0 m) kept refl
            (λ after adds. ahead_there m.queues after (pushed_by st) later adds) h;
        most = omega arith;
      }

  -- ---- one step once all of the field is there

  abbrev none : Queue → List Entry
  none q = []

  pub record Counted (bound turns : ℕ) (m : State) : Type 0 where
    pub next : ℕ
    pub reached : ReachedWith none next m
    pub most : next + turns ≤ bound

  counts_on : (bound : ℕ) (m : State) (met : Met) (st : Step) → IsOrderly m → IsHeld met.0 → IsKept (with_program met.0 m) st →
      is_end t.end m st ≡ false → ReachedWith none bound m → Counted bound (turn_count st) (step st (with_program met.0 m))
  counts_on bound m met Turn orderly held kept unended h =
      let r =
      turn-Reaches t IsHeld Stands along field uses given chunks final none bound (with_program met.0 m)
      (IsOrderly-with_program met.0 m orderly) held h unended in
      let less = r.less (λ q. refl) in
      record { next = r.next; reached = r.reached; most = omega arith }
  counts_on bound m met st orderly held kept unended h =
      record {
        next = bound;
        reached =
            step-IsReached t field uses AnyRest Stands (Settling given chunks final) along.begins none none (pushed_by st)
            (λ q rest any. any) bound st (with_program met.0 m) kept refl
            (λ after adds. ahead_more m.queues after (pushed_by st) adds) h;
        most = omega arith;
      }

  -- ---- runs

  pub record Ran (later late : List Met) (bound : ℕ) (m : State) : Type 0 where
    pub next : ℕ
    pub reached : ReachedWith (coming later) next m
    pub most : next ≤ bound
    pub orderly : IsOrderly m
    pub made : All (λ met. IsStep met.1) late
    pub kept : AreKept m late

  -- `later` are steps to come, as many as are seen ahead
  pub runs : (early late later : List Met) (bound : ℕ) (m : State) → IsOrderly m → All (λ met. IsStep met.1) (early ++ late) →
      All (λ met. IsHeld met.0) (early ++ late) → AreKept m (early ++ late) →
      has_end t.end m early ≡ false → ReachedWith (coming (early ++ later)) bound m → Ran later late bound (run_in m early)
  runs [] late later bound m orderly made held kept unended h =
      record { next = bound; reached = h; most = omega arith; orderly = orderly; made = made; kept = kept }
  runs (met ∷ early) late later bound m orderly made held kept unended h =
      let parts = or_parts (is_end t.end m met.1) (has_end t.end (after m met) early) unended in
      let one =
      steps_on (coming (early ++ later)) bound m met met.1 orderly
      (All-head (λ met. IsHeld met.0) met (early ++ late) held) kept.0 parts.0 h in
      let rest =
      runs early late later one.next (after m met) (IsOrderly-after m met (All-head (λ met. IsStep met.1) met (early ++ late) made) orderly)
      (All-tail (λ met. IsStep met.1) met (early ++ late) made)
      (All-tail (λ met. IsHeld met.0) met (early ++ late) held) kept.1 parts.1 one.reached in
      let first_most = one.most in
      let rest_most = rest.most in
      record { next = rest.next; reached = rest.reached; most = omega arith; orderly = rest.orderly; made = rest.made; kept = rest.kept }

  pub counted_runs : (steps : List Met) (bound : ℕ) (m : State) → IsOrderly m → All (λ met. IsStep met.1) steps →
      All (λ met. IsHeld met.0) steps → AreKept m steps →
      has_end t.end m steps ≡ false → ReachedWith none bound m → Counted bound (turns_in steps) (run_in m steps)
  counted_runs [] bound m orderly made held kept unended h = record { next = bound; reached = h; most = omega arith }
  counted_runs (met ∷ steps) bound m orderly made held kept unended h =
      let parts = or_parts (is_end t.end m met.1) (has_end t.end (after m met) steps) unended in
      let one = counts_on bound m met met.1 orderly (All-head (λ met. IsHeld met.0) met steps held) kept.0 parts.0 h in
      let rest = counted_runs steps one.next (after m met) (IsOrderly-after m met (All-head (λ met. IsStep met.1) met steps made) orderly)
      (All-tail (λ met. IsStep met.1) met steps made) (All-tail (λ met. IsHeld met.0) met steps held) kept.1 parts.1 one.reached in
      let first_most = one.most in
      let rest_most = rest.most in
      record { next = rest.next; reached = rest.reached; most = omega arith }
