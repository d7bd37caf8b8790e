use Rattle.std.proofs.Common.{◌++◌, ◌∙◌, ap, sym, subst, List, Option}
use Rattle.std.specs.List.{prefix_len, slice_get}
use Rattle.std.specs.Option.{option_to_list, is_some}
use Rattle.std.specs.List.Sorted.{IsNonDecreasingBy}
use Rattle.risc_verify.specs.declared.spans.SpanPlace.{SpanPlace}
use Rattle.risc_verify.specs.Places.{place_end}
use Rattle.risc_verify.proofs.Cuts.{Misses, ends_by, ends-rise-before, missed-all, stands-at, within-all, number-has}
use Rattle.risc_verify.proofs.spans.Spans.search.Goals as goal

pub first_behind-requires : goal.first_behind-requires
first_behind-requires c =
    subst (λ (ps : List SpanPlace). IsNonDecreasingBy place_end ps) (sym c.deref.ensures.value)
    (ends-rise-before c.self.inside.words.items c.self.inside.before.items c.self.inside.last c.args.self.now c.self.invariant.0
    c.self.view_is c.requires.apart)

pub returns-in_err-place : goal.returns-in_err-place
returns-in_err-place c =
    let i = c.self.inside in
    let found =
    c.first_behind.ensures
    ∙ ap (λ ps. slice_get (ps ++ option_to_list i.last) (prefix_len (ends_by c.args.address) ps)) c.deref.ensures.value in
    let none =
    missed-all i.words.items i.before.items i.last c.args.self.now c.self.invariant.0 c.self.view_is c.args.address c.requires.apart
    (subst (λ (p : Option SpanPlace). Misses p c.args.address) (sym c.in_err-place.was ∙ found) tt) in
    rw c.from_residual.ensures none

pub number-requires : goal.number-requires
number-requires c some =
    let i = c.self.inside in
    let found =
    c.first_behind.ensures
    ∙ ap (λ ps. slice_get (ps ++ option_to_list i.last) (prefix_len (ends_by c.args.address) ps)) c.deref.ensures.value in
    within-all i.words.items i.before.items i.last c.args.self.now c.self.invariant.0 c.self.view_is _ c.in_ok-place.place
    (sym found ∙ c.in_ok-place.was) c.requires.few

pub returns-then-is_some : goal.returns-then-is_some
returns-then-is_some c =
    let i = c.self.inside in
    let p = c.in_ok-place.place in
    let found =
    c.first_behind.ensures
    ∙ ap (λ ps. slice_get (ps ++ option_to_list i.last) (prefix_len (ends_by c.args.address) ps)) c.deref.ensures.value in
    let has = sym (number-has p c.args.address) ∙ ap is_some (sym c.number.ensures) ∙ sym c.is_some.ensures ∙ c.if-is_some.true in (
      stands-at i.words.items i.before.items i.last c.args.self.now c.self.invariant.0 c.self.view_is _ p (sym found ∙ c.in_ok-place.was),
      has,
    )

pub returns-else-is_some : goal.returns-else-is_some
returns-else-is_some c =
    let i = c.self.inside in
    let p = c.in_ok-place.place in
    let found =
    c.first_behind.ensures
    ∙ ap (λ ps. slice_get (ps ++ option_to_list i.last) (prefix_len (ends_by c.args.address) ps)) c.deref.ensures.value in
    let has = sym (number-has p c.args.address) ∙ ap is_some (sym c.number.ensures) ∙ sym c.is_some.ensures ∙ c.if-is_some.false in
    missed-all i.words.items i.before.items i.last c.args.self.now c.self.invariant.0 c.self.view_is c.args.address c.requires.apart
    (subst (λ (p : Option SpanPlace). Misses p c.args.address) (sym c.in_ok-place.was ∙ found) has)
