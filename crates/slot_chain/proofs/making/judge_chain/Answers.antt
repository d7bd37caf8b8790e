use Rattle.std.proofs.Common.{subst}
use Rattle.machine_model.specs.Paths.{one_span}
use Rattle.risc_verify.specs.Verdicts.{Refuses as RefusesProgram}
use Rattle.risc_verify.specs.declared.walk.Why.{Why}
use Rattle.slot_chain.specs.States.{chain_of}
use Rattle.slot_chain.proofs.MadeChain.{never_refused}
use Rattle.slot_chain.proofs.making.judge_chain.Goals as goal

pub unreachable-requires : goal.unreachable-requires
unreachable-requires g c =
    never_refused (chain_of c.args.base c.args.slots c.args.parts.now c.args.grants.now) c.in_ok-words.words.items
    c.in-Err-Bad.field-0-0 c.in-Err-Bad.field-0-1 c.in-Err-Bad.field-0-2 (c.in_ok-words.ensures c.args.grants.now)
    (subst (λ (why : Why). RefusesProgram (one_span c.args.base c.in_ok-words.words.items c.args.grants.now) why) c.in-Err-Bad.field-0-is
    c.in-Err-Bad.ensures.refused)
