use Rattle.std.proofs.Common.{◌++◌, ◌∷◌, [], ◌∙◌, ap, sym, subst, arith, length, List, Option, ℕ, ◌+◌}
use Rattle.std.specs.Option.{option_to_list}
use Rattle.risc_verify.specs.declared.spans.SpanPlace.{SpanPlace}
use Rattle.risc_verify.specs.Places.{AreCut, place, spans_at, with_word}
use Rattle.risc_verify.proofs.Cuts.{cut_front, cut-push, spans_at-push}
use Rattle.risc_verify.proofs.spans.Spans.push.Goals as goal

pub overflow_add-self : goal.overflow_add-self
overflow_add-self c =
    let i = c.self.inside in
    let cut =
    subst (λ (last : Option SpanPlace). AreCut 0 (i.before.items ++ option_to_list last) (length i.words.items)) c.in-Some.is
    c.self.invariant.0 in
    let ends = (cut_front 0 i.before.items c.in-Some.last (length i.words.items) cut).1 in
    omega (arith, c.push.ensures.upper_bound, i.words.ok.0)

pub invariant_of-self-2 : goal.invariant_of-self-2
invariant_of-self-2 c =
    let i = c.self.inside in
    let last = c.in-Some.last in
    let cut =
    subst (λ (last : Option SpanPlace). AreCut 0 (i.before.items ++ option_to_list last) (length i.words.items)) c.in-Some.is
    c.self.invariant.0 in (
      subst (λ (ws : List ℕ). AreCut 0 (i.before.items ++ place last.at last.first (last.count + 1) ∷ []) (length ws))
          (sym c.in_ok-push.ensures.items)
          (cut-push i.before.items i.words.items c.args.word last.at last.first last.count cut),
      λ none. absurd (cc),
    )

pub returns-clause-pushed : goal.returns-clause-pushed
returns-clause-pushed c =
    let i = c.self.inside in
    let last = c.in-Some.last in
    let cut =
    subst (λ (last : Option SpanPlace). AreCut 0 (i.before.items ++ option_to_list last) (length i.words.items)) c.in-Some.is
    c.self.invariant.0 in
    ap (λ ws. spans_at ws (i.before.items ++ place last.at last.first (last.count + 1) ∷ [])) c.in_ok-push.ensures.items
    ∙ spans_at-push i.before.items i.words.items c.args.word last.at last.first last.count cut
    ∙ ap (λ last. with_word (spans_at i.words.items (i.before.items ++ option_to_list last)) c.args.word) (sym c.in-Some.is)
    ∙ ap (λ ss. with_word ss c.args.word) c.self.view_is
