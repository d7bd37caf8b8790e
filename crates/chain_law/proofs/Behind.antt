-- A machine that is at no slot goes on as if nothing were patched.
use Rattle.std.proofs.Common.{◌≡◌, false, ◌&&◌, List, [], ◌∷◌, length, refl, sym, ap, ◌∙◌}
use Rattle.std.specs.Prelude.{nat_lt}
use Rattle.std.proofs.lemmas.Bool.{ltb-false}
use Rattle.std.proofs.lemmas.List.{length-set}
use Rattle.machine_model.specs.Paths.{RiscProgram}
use Rattle.machine_model.specs.States.{State}
use Rattle.machine_model.specs.Turns.{turn}
use Rattle.machine_model.specs.Steps.{Control, Host, Push, Step, Turn, run, step, with_program}
use Rattle.machine_model.proofs.ProgramStays.{program-step}
use Rattle.machine_model.proofs.SameTurn.{IsReadAlike, turn-with_program}
use Rattle.chain_model.specs.Chains.{Chain, Patching, alone, alone_in, patched, slot_at}
use Rattle.chain_model.specs.Live.{Live, LiveStep, Patch, Plain, first_live, live_run, live_step}
use Rattle.chain_model.proofs.Live.{IsLive-at}
use Rattle.chain_model.proofs.Others.{step-with}
use Rattle.chain_model.proofs.Slots.{length-alone}
use Rattle.chain_model.proofs.Words.{behind_alike}
use Rattle.chain_law.specs.Behind.{AreBehind, LivePartsAreFinished, is_at_slot, is_idle, machine_steps}
use Rattle.chain_law.specs.Pictures.{between, live_of}
use Rattle.chain_law.proofs.Meets.{live_between}

module _ (chain : Chain) (kept : Patching) (kept_long : length kept ≡ chain.slots) where
  abbrev member : RiscProgram
  member = patched chain kept

  own : (m : State) (program : RiscProgram) → m.program ≡ program → with_program program m ≡ m
  own m program e = ap (λ (p : RiscProgram). with_program p m) (sym e)

  -- behind the slots the words are the same
  alike : (patching : Patching) (m : State) → length patching ≡ chain.slots → is_at_slot chain m ≡ false →
      IsReadAlike (with_program member m) (patched chain patching)
  alike patching m long behind on idle =
      let low : nat_lt m.pc (slot_at chain chain.slots) ≡ false =
      sym (ap (λ job. is_idle job && nat_lt m.pc (slot_at chain chain.slots)) idle) ∙ behind in
      behind_alike chain kept patching kept_long long m.pc (ltb-false m.pc (slot_at chain chain.slots) low)

  turn_same : (patching : Patching) (m : State) → m.program ≡ patched chain patching → length patching ≡ chain.slots →
      is_at_slot chain m ≡ false →
      with_program member (turn m) ≡ turn (with_program member m)
  turn_same patching m is long behind =
      let there = with_program member m in
      ap (with_program member)
      (ap turn (sym (own m (patched chain patching) is)) ∙ turn-with_program there (patched chain patching) (alike patching m long behind))
      ∙ own (turn there) member (program-step Turn there)

  other_same : (s : Step) (patching : Patching) (m : State) → ((s ≡ Turn) → ⊥) → m.program ≡ patched chain patching →
      with_program member (step s m) ≡ step s (with_program member m)
  other_same s patching m other is = sym (step-with member s m other (ap (λ (p : RiscProgram). p.base) is))

  pub step_same : (s : Step) (patching : Patching) (m : State) → m.program ≡ patched chain patching → length patching ≡ chain.slots →
      is_at_slot chain m ≡ false →
      with_program member (step s m) ≡ step s (with_program member m)
  step_same Turn patching m is long behind = turn_same patching m is long behind
  step_same (Push q entry) patching m is long behind = other_same (Push q entry) patching m (λ e. cc) is
  step_same (Control code) patching m is long behind = other_same (Control code) patching m (λ e. cc) is
  step_same (Host write) patching m is long behind = other_same (Host write) patching m (λ e. cc) is

  run_same : (live : Live) (steps : List LiveStep) → live.machine.program ≡ patched chain live.patching →
      length live.patching ≡ chain.slots → AreBehind chain live steps →
      with_program member (live_run chain live steps).machine ≡ run (with_program member live.machine) (machine_steps steps)
  run_same live [] is long behind = refl
  run_same live (Plain s ∷ steps) is long behind =
      run_same (live_step chain (Plain s) live) steps (program-step s live.machine ∙ is) long behind.1
      ∙ ap (λ (m : State). run m (machine_steps steps)) (step_same s live.patching live.machine is long behind.0)
  run_same live (Patch slot other ∷ steps) is long behind =
      run_same (live_step chain (Patch slot other) live) steps refl (length-set live.patching slot other ∙ long) behind.1

pub live_parts_are_finished : LivePartsAreFinished
live_parts_are_finished chain part fill steps j k is sound made later behind =
    let live = IsLive-at chain is sound fill steps j made in
    ap (λ (l : Live). with_program (alone chain part) l.machine) (sym (live_between chain (first_live chain fill) steps j k later))
    ∙ run_same chain (alone_in chain part) (length-alone chain part) (live_of chain fill steps j) (between j k steps)
    live.program live.patching.long behind
