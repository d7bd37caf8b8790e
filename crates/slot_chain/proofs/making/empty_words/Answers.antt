use Rattle.std.proofs.Common.{◌++◌, ◌∙◌, List, ℕ, refl, ap}
use Rattle.chain_model.specs.Chains.{loop_words, unpatched, words_of_parts}
use Rattle.slot_chain.specs.States.{chain_of}
use Rattle.slot_chain.proofs.making.empty_words.Goals as goal

pub returns : goal.returns
returns c grants =
    let chain = chain_of c.args.base c.args.slots c.args.parts.now grants in
    c.in_ok-push_parts.ensures
    ∙ ap (λ (words : List ℕ). words ++ words_of_parts c.args.parts.now)
    (c.in_ok-push_loop.ensures chain refl refl
    ∙ ap (λ (words : List ℕ). words ++ loop_words chain 0 (unpatched chain)) c.new-words.ensures.items)
