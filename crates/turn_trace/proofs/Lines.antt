-- A step has no text where it is a turn that only counts, and else its text ends with the numbers of the state after it.
use Rattle.std.proofs.Common.{◌≡◌, ◌⊎◌, ℕ, Bool, true, false, List, [], ◌∷◌, ◌++◌, refl, sym, ap, ◌∙◌, inl, inr, append_assoc}
use Rattle.machine_model.specs.declared.Did.{Did}
use Rattle.machine_model.specs.declared.Did.TheVariants.{Still, Jumped, Synced, Passed, Begun, Dropped, Matched, Missed, Retired, Moved}
use Rattle.machine_model.specs.declared.Did.TheVariants.{GivenUp}
use Rattle.machine_model.specs.Seen.{seen}
use Rattle.machine_model.specs.States.{State}
use Rattle.machine_model.specs.Steps.{Step, Push, Control, Turn, Host, step}
use Rattle.machine_model.specs.Turns.{counted}
use Rattle.dma_machine.specs.Counts.{with_turns}
use Rattle.dma_machine.specs.Facts.{IsMachine}
use Rattle.dma_machine.proofs.Counting.{turn-acted}
use Rattle.dma_machine.proofs.StillSeen.{seen-acted}
use Rattle.risc_listing.specs.Lines.{line_end}
use Rattle.turn_trace.specs.Laws.{EndsWithNumbers, OnlyCounts}
use Rattle.turn_trace.specs.Traces.{Tracing, is_quiet, is_still_did, numbers, still_line, told_by, told_if, words}

ends_if : (quiet : Bool) (t : Tracing) (s : Step) →
    (told_if quiet t s ≡ []) ⊎ ((before : List ℕ) × (told_if quiet t s ≡ before ++ (numbers (step s t.machine) ++ line_end)))
ends_if true t s = inl refl
ends_if false t s =
    inr (
      still_line t.still ++ words s t.machine,
      sym (append_assoc (still_line t.still) (words s t.machine) (numbers (step s t.machine) ++ line_end)),
    )

pub told_by-EndsWithNumbers : (t : Tracing) (s : Step) → EndsWithNumbers t s
told_by-EndsWithNumbers t s = ends_if (is_quiet s t.machine) t s

no_end : (list : List ℕ) (x : ℕ) → list ++ x ∷ [] ≡ [] → ⊥
no_end [] x e = cc
no_end (y ∷ list) x e = cc

untold_if : (quiet : Bool) (t : Tracing) (s : Step) → told_if quiet t s ≡ [] → quiet ≡ true
untold_if true t s e = refl
untold_if false t s e =
    let still : List ℕ = still_line t.still in
    let said : List ℕ = words s t.machine in
    let after : List ℕ = numbers (step s t.machine) in
    absurd
    (no_end ((still ++ said) ++ after) 10 (append_assoc (still ++ said) after line_end ∙ append_assoc still said (after ++ line_end) ∙ e))

still_did : (did : Did) → is_still_did did ≡ true → did ≡ Still
still_did Still e = refl
still_did Jumped e = cc
still_did Synced e = cc
still_did Passed e = cc
still_did Begun e = cc
still_did Dropped e = cc
still_did Matched e = cc
still_did Missed e = cc
still_did Retired e = cc
still_did (Moved q) e = cc
still_did (GivenUp q) e = cc

quiet_counts : (t : Tracing) (s : Step) → IsMachine t.machine → is_quiet s t.machine ≡ true → OnlyCounts t s
quiet_counts t (Push q entry) h e = absurd cc
quiet_counts t (Control code) h e = absurd cc
quiet_counts t (Host write) h e = absurd cc
quiet_counts t Turn h e =
    let m : State = t.machine in
    (refl, turn-acted m ∙ ap (with_turns (counted m).turns) (seen-acted m h (still_did (seen m).did e)))

pub untold-OnlyCounts : (t : Tracing) (s : Step) → IsMachine t.machine → told_by t s ≡ [] → OnlyCounts t s
untold-OnlyCounts t s h e = quiet_counts t s h (untold_if (is_quiet s t.machine) t s e)
