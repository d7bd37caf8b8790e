use Rattle.std.proofs.Common.{ap, ◌∙◌}
use Rattle.machine_model.specs.States.{State}
use Rattle.slot_chain.proofs.MadeChain.{made_chain, made_patching, made_sound, made_wheel}
use Rattle.slot_chain.proofs.chain.Chain.new.Goals as goal

pub invariant_of-result : goal.invariant_of-result
invariant_of-result g c =
    let runs = ap (λ (s : State). s.program) c.new.ensures.state ∙ c.in_ok-programs.ensures.empty in
    let list = c.in_ok-patching.ensures in (
      made_wheel c.args.base c.args.slots c.args.parts.items c.deref.result.now c.args.grants c.new.result.program
          c.in_ok-programs.programs.with_part.items c.in_ok-patching.patching.items
          c.deref.ensures.value c.requires.slots c.requires.parts c.requires.belong c.in_ok-programs.ensures.placed
          c.in_ok-programs.ensures.with_part runs list,
      made_patching c.args.base c.args.slots c.args.parts.items c.deref.result.now c.args.grants c.new.result.program
          c.in_ok-programs.programs.with_part.items c.in_ok-patching.patching.items
          c.deref.ensures.value c.requires.slots c.requires.parts c.requires.belong c.in_ok-programs.ensures.placed
          c.in_ok-programs.ensures.with_part runs list,
    )

pub returns-clause-sound : goal.returns-clause-sound
returns-clause-sound g c =
    let runs = ap (λ (s : State). s.program) c.new.ensures.state ∙ c.in_ok-programs.ensures.empty in
    let list = c.in_ok-patching.ensures in (
      made_chain c.args.base c.args.slots c.args.parts.items c.deref.result.now c.args.grants c.new.result.program
          c.in_ok-programs.programs.with_part.items c.in_ok-patching.patching.items
          c.deref.ensures.value c.requires.slots c.requires.parts c.requires.belong c.in_ok-programs.ensures.placed
          c.in_ok-programs.ensures.with_part runs list,
      made_sound c.args.base c.args.slots c.args.parts.items c.deref.result.now c.args.grants c.new.result.program
          c.in_ok-programs.programs.with_part.items c.in_ok-patching.patching.items
          c.deref.ensures.value c.requires.slots c.requires.parts c.requires.belong c.in_ok-programs.ensures.placed
          c.in_ok-programs.ensures.with_part runs list,
    )
