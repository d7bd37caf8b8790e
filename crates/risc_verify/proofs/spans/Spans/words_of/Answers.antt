use Rattle.std.proofs.Common.{◌+◌, ◌≤◌, ◌++◌, ◌∙◌, ap, sym, subst, length, take, drop, get_or, List, ℕ}
use Rattle.std.specs.Option.{option_to_list}
use Rattle.risc_verify.specs.declared.spans.SpanPlace.{SpanPlace}
use Rattle.risc_verify.proofs.Cuts.{place_within, place_words}
use Rattle.risc_verify.proofs.spans.Spans.words_of.Goals as goal

pub part-requires : goal.part-requires
part-requires c =
    let i = c.self.inside in
    let p = c.place_of.result in
    let found =
    λ (d : SpanPlace). c.place_of.ensures d ∙ ap (λ ps. get_or (ps ++ option_to_list i.last) c.args.number d) c.deref-2.ensures.value in
    subst (λ (ws : List ℕ). p.first + p.count ≤ length ws) (sym c.deref.ensures.value)
    (place_within i.words.items i.before.items i.last c.args.self.now c.self.invariant.0 c.self.view_is c.args.number p c.requires found)

pub returns : goal.returns
returns c d =
    let i = c.self.inside in
    let p = c.place_of.result in
    let found =
    λ (d : SpanPlace). c.place_of.ensures d ∙ ap (λ ps. get_or (ps ++ option_to_list i.last) c.args.number d) c.deref-2.ensures.value in
    c.part.ensures ∙ ap (λ ws. take p.count (drop p.first ws)) c.deref.ensures.value
    ∙ place_words i.words.items i.before.items i.last c.args.self.now c.self.invariant.0 c.self.view_is c.args.number p c.requires found d
