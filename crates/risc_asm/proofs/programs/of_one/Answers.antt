use Rattle.std.proofs.Common.{◌+◌, ◌++◌, ◌∙◌, [], ◌∷◌, Some, List, ap, arith, length, sym}
use Rattle.machine_model.specs.Paths.{RiscProgram, Span, span}
use Rattle.risc_verify.specs.Places.{with_word}
use Rattle.risc_listing.proofs.Spans.{no_span}
use Rattle.risc_text.specs.Assembly.{other_word}
use Rattle.risc_asm.proofs.Filling.{entry_near, entry_room, entry_second}
use Rattle.risc_asm.proofs.programs.of_one.Goals as goal

pub returns-then-words_of-gt1 : goal.returns-then-words_of-gt1
returns-then-words_of-gt1 c = λ low.
    let at = c.at-at.ensures no_span in
    let words = ap length (c.words_of.ensures no_span) in
    let more = c.if-words_of-gt1.true in
    let entry = entry_second c.args.spans no_span c.requires (omega arith) in
    let base = ap (λ (p : RiscProgram). p.base) entry in
    c.from_second.ensures (omega arith) ∙ ap (λ at. Some (at + 4, c.args.spans)) at
    ∙ ap (λ (p : RiscProgram). Some (p.base, p.spans)) (sym entry)

pub returns-then-at-le-LAST_WITH_ROOM : goal.returns-then-at-le-LAST_WITH_ROOM
returns-then-at-le-LAST_WITH_ROOM c = λ low.
    let at = c.at-at.ensures no_span in
    let words = ap length (c.words_of.ensures no_span) in
    let few = c.if-words_of-gt1.false in
    let room = c.if-at-le-LAST_WITH_ROOM.true in
    let entry = entry_room c.args.spans no_span c.requires (omega arith) (omega arith) in
    let begun = c.in_ok-begin.ensures.begun in
    let pushed = c.in_ok-push.ensures.pushed in
    let spans =
    pushed ∙ ap (λ (spans : List Span). with_word spans other_word) begun
    ∙ ap (λ at. with_word (c.args.spans ++ span (at + 8) [] ∷ []) other_word) at in
    (λ i. Some (at i, spans i)) ∙ ap (λ (p : RiscProgram). Some (p.base, p.spans)) (sym entry)

pub returns : goal.returns
returns c = λ low.
    let at = c.at-at.ensures no_span in
    let words = ap length (c.words_of.ensures no_span) in
    let few = c.if-words_of-gt1.false in
    let near = c.if-at-le-LAST_WITH_ROOM.false in
    let entry = entry_near c.args.spans no_span c.requires (omega arith) (omega arith) in
    let base = ap (λ (p : RiscProgram). p.base) entry in
    let pushed = c.in_ok-push-2.ensures.pushed in
    c.from_second-2.ensures (omega arith) ∙ (λ i. Some (at i + 4, pushed i)) ∙ ap (λ (p : RiscProgram). Some (p.base, p.spans)) (sym entry)
