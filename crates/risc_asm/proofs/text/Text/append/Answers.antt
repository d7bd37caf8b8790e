use Rattle.std.proofs.Common.{◌≡◌, ◌∙◌, ◌++◌, List, ℕ, ap, sym, subst, take}
use Rattle.std.specs.Prelude.{IfOk}
use Rattle.std.proofs.lemmas.List.{take-append-drop}
use Rattle.risc_asm.proofs.text.Text.append.Goals as goal

pub returns-in_ok-tail-in-Some : goal.returns-in_ok-tail-in-Some
returns-in_ok-tail-in-Some c =
    let bytes = c.extend_from_slice.new.self.items in
    let front = c.in-Some.settled.front in
    let tail = c.in_ok-tail-in-Some.tail.items in
    let front_is = rw c.deref.ensures.value at c.in-Some.ensures.front in
    let self_is = rw c.in-New.is at c.self.view_is in
    let same =
    ap (λ (list : List ℕ). list ++ tail) (sym front_is)
    ∙ ap (λ (list : List ℕ). take front bytes ++ list) c.in_ok-tail-in-Some.ensures
    ∙ take-append-drop front bytes
    ∙ c.in_ok-extend_from_slice.ensures.items
    ∙ ap (λ (list : List ℕ). list ++ c.args.piece.now) self_is
    in
    subst (λ (list : List ℕ). IfOk c.advance-in-Some.result (λ text. text ≡ list)) same c.advance-in-Some.ensures
