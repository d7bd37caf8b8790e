use Rattle.std.proofs.Common.{◌≡◌, ◌∙◌, List, ℕ, subst}
use Rattle.std.specs.Prelude.{IfOk}
use Rattle.risc_asm.specs.Texts.{front_of}
use Rattle.risc_asm.proofs.Telling.{moved}
use Rattle.risc_asm.proofs.text.advance.Goals as goal

pub returns-then-len-settled-ge-LONGEST_INSTR : goal.returns-then-len-settled-ge-LONGEST_INSTR
returns-then-len-settled-ge-LONGEST_INSTR c =
    let read = rw c.in-Ok.is at c.in_ok-settled.ensures in
    let same =
    moved (front_of c.args.settled) (front_of c.in-Ok.settled)
    (front_of c.settle-settled.result.0) c.args.tail.items c.deref-then-len-settled-ge-LONGEST_INSTR.result.now c.settle-settled.result.1
    (rw c.deref-2.ensures.value at c.settle-settled.ensures.front) read.1
    (c.deref-then-len-settled-ge-LONGEST_INSTR.ensures.value ∙ c.in_ok-tail.ensures)
    in
    subst (λ (bytes : List ℕ). IfOk c.plain-then-len-settled-ge-LONGEST_INSTR.result (λ text. text ≡ bytes)) same
    c.plain-then-len-settled-ge-LONGEST_INSTR.ensures
