use Rattle.std.proofs.Common.{◌≡◌, ◌==◌, true, List, ◌∙◌, sym, subst, length}
use Rattle.machine_model.specs.Paths.{Span}
use Rattle.risc_verify.specs.Places.{stands_from}
use Rattle.std.proofs.lemmas.Bool.{or_right}
use Rattle.risc_verify.proofs.Cuts.{stands-at, behind_all}
use Rattle.risc_verify.proofs.spans.Spans.last_place.Goals as goal

pub returns-in-Some : goal.returns-in-Some
returns-in-Some c program same =
    let i = c.self.inside in
    let here =
    stands-at i.words.items i.before.items i.last c.args.self.now c.self.invariant.0 c.self.view_is (length i.before.items) c.in-Some.place
    (behind_all i.before.items i.last ∙ c.in-Some.is) in
    or_right (c.in-Some.place.count == 0) (stands_from 0 program.spans c.in-Some.place)
    (subst (λ (ss : List Span). stands_from 0 ss c.in-Some.place ≡ true) (sym same) here)
