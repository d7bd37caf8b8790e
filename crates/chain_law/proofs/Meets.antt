-- A live run is one in which each step of the machine meets the words as they are then.
use Rattle.std.proofs.Common.{◌≡◌, ℕ, ◌+◌, ◌-◌, ◌<◌, ◌≤◌, Bool, false, ◌||◌, List, [], ◌∷◌, ◌++◌, length, take, All, refl, sym, ap, ◌∙◌}
use Rattle.std.proofs.Common.{arith}
use Rattle.std.specs.Prelude.{slice_set}
use Rattle.std.proofs.Math.Seq.{take-add}
use Rattle.std.proofs.lemmas.Bool.{or_parts}
use Rattle.std.proofs.lemmas.List.{take_more}
use Rattle.std.proofs.lemmas.List.Elements.{All-nil, All-cons, All-head, All-tail}
use Rattle.machine_model.specs.Paths.{RiscProgram}
use Rattle.machine_model.specs.States.{State}
use Rattle.machine_model.specs.Steps.{Turn, run_in, step, with_program}
use Rattle.machine_model.specs.Safety.{IsStep}
use Rattle.machine_model.proofs.ProgramStays.{program-step}
use Rattle.field_law.specs.Sections.{Section}
use Rattle.field_law.specs.Arrivals.{Met, after, has_signal, is_signal}
use Rattle.chain_model.specs.Chains.{Chain, IsChain, IsPatching, IsSoundChain, Patching, patched}
use Rattle.chain_model.specs.Live.{IsLiveStep, Live, LiveStep, Patch, Plain, live_at, live_run, live_step, mets}
use Rattle.chain_model.proofs.Live.{IsPatching-patch}
use Rattle.chain_law.specs.Pictures.{between, step_at}

pub own : (m : State) (program : RiscProgram) → m.program ≡ program → m ≡ with_program program m
own m program e = ap (λ (p : RiscProgram). with_program p m) e

module _ (chain : Chain) where
  pub live_run-append : (live : Live) (first second : List LiveStep) →
      live_run chain live (first ++ second) ≡ live_run chain (live_run chain live first) second
  live_run-append live [] second = refl
  live_run-append live (s ∷ first) second = live_run-append (live_step chain s live) first second

  pub live_between : (live : Live) (steps : List LiveStep) (j i : ℕ) → j ≤ i →
      live_run chain (live_at chain live steps j) (between j i steps) ≡ live_at chain live steps i
  live_between live steps j i first =
      let there : j + (i - j) ≡ i = omega arith in
      sym (live_run-append live (take j steps) (between j i steps)) ∙ ap (live_run chain live) (sym (take-add j (i - j) steps))
      ∙ ap (λ (n : ℕ). live_run chain live (take n steps)) there

  pub live_next : (live : Live) (steps : List LiveStep) (k : ℕ) → k < length steps →
      live_at chain live steps (k + 1) ≡ live_step chain (step_at steps k) (live_at chain live steps k)
  live_next live steps k within =
      ap (live_run chain live) (take_more steps k (Plain Turn) within) ∙ live_run-append live (take k steps) (step_at steps k ∷ [])

  -- ---- the steps of the machine

  pub mets-append : (live : Live) (first second : List LiveStep) →
      mets chain live.patching (first ++ second) ≡ mets chain live.patching first ++ mets chain (live_run chain live first).patching second
  mets-append live [] second = refl
  mets-append live (Plain s ∷ first) second =
      ap (λ (rest : List Met). (patched chain live.patching, s) ∷ rest) (mets-append (live_step chain (Plain s) live) first second)
  mets-append live (Patch slot part ∷ first) second = mets-append (live_step chain (Patch slot part) live) first second

  -- a live run over the steps that meet programs
  pub live_run-mets : (live : Live) (steps : List LiveStep) (m : State) → live.machine ≡ with_program (patched chain live.patching) m →
      (live_run chain live steps).machine
      ≡ with_program (patched chain (live_run chain live steps).patching) (run_in m (mets chain live.patching steps))
  live_run-mets live [] m same = same
  live_run-mets live (Plain s ∷ steps) m same =
      let program = patched chain live.patching in
      let next = step s (with_program program m) in
      live_run-mets (live_step chain (Plain s) live) steps next
      (ap (step s) same ∙ own next program (program-step s (with_program program m)))
  live_run-mets live (Patch slot part ∷ steps) m same =
      live_run-mets (live_step chain (Patch slot part) live) steps m
      (ap (with_program (patched chain (slice_set live.patching slot part))) same)

  -- what holds of the words of each patching holds of the program at each step
  module _ (P : RiscProgram → Type 0) (each : (patching : Patching) → IsPatching chain patching → P (patched chain patching))
      (is : IsChain chain) (sound : IsSoundChain chain) where
    pub mets_meet : (patching : Patching) (steps : List LiveStep) → IsPatching chain patching → All (IsLiveStep chain) steps →
        All (λ met. P met.0) (mets chain patching steps)
    mets_meet patching [] good made = All-nil (λ (met : Met). P met.0)
    mets_meet patching (Plain s ∷ steps) good made =
        All-cons (λ (met : Met). P met.0) (patched chain patching, s) (mets chain patching steps) (each patching good)
        (mets_meet patching steps good (All-tail (IsLiveStep chain) (Plain s) steps made))
    mets_meet patching (Patch slot part ∷ steps) good made =
        let one = All-head (IsLiveStep chain) (Patch slot part) steps made in
        mets_meet (slice_set patching slot part) steps (IsPatching-patch chain is sound patching slot part good one.0 one.1)
        (All-tail (IsLiveStep chain) (Patch slot part) steps made)

  pub mets_made : (patching : Patching) (steps : List LiveStep) → All (IsLiveStep chain) steps →
      All (λ met. IsStep met.1) (mets chain patching steps)
  mets_made patching [] made = All-nil (λ (met : Met). IsStep met.1)
  mets_made patching (Plain s ∷ steps) made =
      All-cons (λ (met : Met). IsStep met.1) (patched chain patching, s) (mets chain patching steps)
      (All-head (IsLiveStep chain) (Plain s) steps made)
      (mets_made patching steps (All-tail (IsLiveStep chain) (Plain s) steps made))
  mets_made patching (Patch slot part ∷ steps) made =
      mets_made (slice_set patching slot part) steps (All-tail (IsLiveStep chain) (Patch slot part) steps made)

-- without a signal among some steps there is none among the first of them
pub silent_first : (s : Section) (m : State) (first second : List Met) → has_signal s m (first ++ second) ≡ false →
    has_signal s m first ≡ false
silent_first s m [] second silent = refl
silent_first s m (met ∷ first) second silent =
    let parts = or_parts (is_signal s m met.1) (has_signal s (after m met) (first ++ second)) silent in
    ap (λ (b : Bool). b || has_signal s (after m met) first) parts.0 ∙ silent_first s (after m met) first second parts.1
