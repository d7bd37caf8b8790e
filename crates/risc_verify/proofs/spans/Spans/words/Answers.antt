use Rattle.std.proofs.Common.{◌∙◌, sym, subst, ℕ, ◌<◌, ◌^◌, All, List}
use Rattle.risc_verify.proofs.Cuts.{fit-all, words-are}
use Rattle.risc_verify.proofs.spans.Spans.words.Goals as goal

pub returns-clause-value : goal.returns-clause-value
returns-clause-value c =
    c.whole.ensures.value ∙ c.deref.ensures.value ∙ sym
    (words-are c.self.inside.words.items c.self.inside.before.items c.self.inside.last c.args.self.now c.self.invariant.0 c.self.view_is)

pub returns-clause-fit : goal.returns-clause-fit
returns-clause-fit c =
    fit-all c.self.inside.words.items c.self.inside.before.items c.self.inside.last c.args.self.now c.self.invariant.0 c.self.view_is
    (subst (λ (ws : List ℕ). All (λ word. word < 2 ^ 32) ws) c.deref.ensures.value c.whole.ensures.fit)
