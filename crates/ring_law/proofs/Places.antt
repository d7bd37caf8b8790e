-- The law of rings over the places of a run.
use Rattle.std.proofs.lemmas.List.Elements.{All-drop, All-take}
use Rattle.std.proofs.Common.{All, List, Some, [], ap, arith, drop, false, refl, subst, sym, take, ℕ, ◌%◌, ◌++◌, ◌+◌, ◌-◌, ◌∙◌, ◌∷◌, ◌≡◌}
use Rattle.std.proofs.Common.{◌≤◌}
use Rattle.machine_model.specs.Steps.{Control, Host, Push, Step, Turn, run}
use Rattle.ring_law.specs.Laws.{EndsBlock}
use Rattle.ring_law.specs.Runs.{EndsBlockAt, RunShowsBlocks, ends_between, state_of, RunShowsNoFault}
use Rattle.machine_model.proofs.Orderly.{IsOrderly-first_state}
use Rattle.machine_model.proofs.Runs.{IsOrderly-run, chunks-run, program-run}
use Rattle.ring_model.specs.Runs.{block_end}
use Rattle.machine_model.specs.Safety.{IsStep}
use Rattle.ring_model.specs.Rings.{Ring, ends, ring_program}
use Rattle.machine_model.specs.Paths.{RiscProgram}
use Rattle.picture_law.specs.Runs.{between, step_at}
use Rattle.machine_model.specs.States.{State, first_state}
use Rattle.picture_law.proofs.Between.{between_at, between_last, state_between}
use Rattle.page_table.proofs.Memory.{chunks_of-filled}
use Rattle.machine_model.specs.Turns.{sets_fdsr}
use Rattle.ring_law.proofs.Shown.{shows_blocks, shows_no_fault}
use Rattle.ring_law.specs.RingRuns.{IsRingRun, ShowsBlocks}

module _ (r : Ring) (lines : List (List ℕ)) (steps : List Step) (j k block : ℕ) (made : All IsStep steps)
    (e : EndsBlockAt r lines steps j k block) where
  abbrev start : State
  start = first_state (ring_program r) r.fill

  abbrev m : State
  m = state_of r steps j

  abbrev early : List Step
  early = between j k steps

  -- only a turn ends a block
  ending_turn : (now : State) (st : Step) → block_end (ends r) now st ≡ Some block → st ≡ Turn
  ending_turn now Turn is = refl
  ending_turn now (Push q entry) is = cc
  ending_turn now (Control code) is = cc
  ending_turn now (Host write) is = cc

  last_turn : step_at steps k ≡ Turn
  last_turn = ending_turn (state_of r steps k) (step_at steps k) e.ends

  all_steps : between j (k + 1) steps ≡ early ++ Turn ∷ []
  all_steps = between_last j k steps e.later e.there ∙ ap (λ (st : Step). early ++ st ∷ []) last_turn

  reached : run m early ≡ state_of r steps k
  reached = state_between start steps j k e.later

  after : run m (early ++ Turn ∷ []) ≡ state_of r steps (k + 1)
  after = let later = e.later in ap (run m) (sym all_steps) ∙ state_between start steps j (k + 1) (omega arith)

  ends_block : EndsBlock r lines m early block
  ends_block =
      let program = program-run start (take j steps) in
      record {
        ring = e.ring;
        orderly = IsOrderly-run start (take j steps) (All-take IsStep j steps made) (IsOrderly-first_state (ring_program r) r.fill);
        chunks =
            chunks-run start (take j steps) ∙ chunks_of-filled r.fill (ring_program r).grants
            ∙ ap (λ (program : RiscProgram). program.grants) (sym program);
        made = All-take IsStep (k - j) (drop j steps) (All-drop IsStep j steps made);
        runs = subst (IsRingRun r lines m) all_steps e.runs;
        ends =
            ap (λ (now : State). block_end (ends r) now Turn) reached
            ∙ ap (block_end (ends r) (state_of r steps k)) (sym last_turn) ∙ e.ends;
      }

  pub shows_blocks_at : (block ≡ ends_between r steps j k % r.blocks)
      × ShowsBlocks r lines (ends_between r steps j k) m (state_of r steps (k + 1))
  shows_blocks_at =
      let shown = shows_blocks r lines m early block ends_block in
      (shown.0, subst (ShowsBlocks r lines (ends_between r steps j k) m) after shown.1)

  pub quiet_at_place : (i : ℕ) → j ≤ i → i ≤ k → step_at steps i ≡ Turn → sets_fdsr (state_of r steps i) ≡ false
  quiet_at_place i from to is_turn =
      let there = e.there in
      let split : early ++ Turn ∷ [] ≡ between j i steps ++ Turn ∷ between (i + 1) (k + 1) steps =
      sym all_steps ∙ between_at j i (k + 1) steps from (omega arith) (omega arith)
      ∙ ap (λ (st : Step). between j i steps ++ st ∷ between (i + 1) (k + 1) steps) is_turn in
      ap sets_fdsr (sym (state_between start steps j i from))
      ∙ shows_no_fault r lines m early block ends_block (between j i steps) (between (i + 1) (k + 1) steps) split

pub run_shows_blocks : RunShowsBlocks
run_shows_blocks = shows_blocks_at

pub run_shows_no_fault : RunShowsNoFault
run_shows_no_fault r lines steps j k block i made e = quiet_at_place r lines steps j k block made e i
