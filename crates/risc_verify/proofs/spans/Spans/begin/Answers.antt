use Rattle.std.proofs.Common.{◌∙◌, sym, subst, arith, length, List}
use Rattle.risc_verify.specs.declared.spans.SpanPlace.{SpanPlace}
use Rattle.risc_verify.specs.Places.{AreCut, place}
use Rattle.risc_verify.proofs.Cuts.{cut_with}
use Rattle.risc_verify.proofs.spans.Spans.begin.Goals as goal

pub invariant_of-self-2 : goal.invariant_of-self-2
invariant_of-self-2 c =
    let words = c.self.inside.words in
    let cut = subst (λ (ps : List SpanPlace). AreCut 0 ps (length words.items)) (sym c.in_ok-close.ensures) c.self.invariant.0 in
    let long = c.len.ensures ∙ words.ok.0 in (
      cut_with 0 c.close.new.before.items (place c.args.at c.len.result 0) (length words.items)
          (subst (λ n. AreCut 0 c.close.new.before.items n) (sym long) cut) (omega arith),
      λ none. absurd (cc),
    )
