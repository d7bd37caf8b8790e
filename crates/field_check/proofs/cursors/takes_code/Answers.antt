use Rattle.std.proofs.Common.{◌∙◌, ◌==◌, ◌∷◌, [], drop, ap, sym, refl}
use Rattle.std.proofs.lemmas.Bool.{cond-true}
use Rattle.risc_word.specs.Words.{code_number}
use Rattle.field_law.specs.Sections.{Await}
use Rattle.check_model.specs.Checks.{first_unlike}
use Rattle.field_check.proofs.Parts.{code_differs, code_other, taken_more}
use Rattle.field_check.proofs.Tracks.{looked_at, taken_at}
use Rattle.field_check.proofs.cursors.takes_code.Goals as goal

pub returns-then-is_same_code-clause-unlike : goal.returns-then-is_same_code-clause-unlike
returns-then-is_same_code-clause-unlike c =
    sym (ap (first_unlike (Await c.args.code ∷ [])) (sym c.look.ensures.same ∙ c.in-Marked.ensures.next.1)
    ∙ cond-true (code_number c.args.code == code_number c.in-Marked.next) _ _ (sym c.is_same_code.ensures ∙ c.if-is_same_code.true))

pub returns-then-is_same_code-clause-left : goal.returns-then-is_same_code-clause-left
returns-then-is_same_code-clause-left c = taken_more c.args.plan.now c.args.q c.look.new.cursor 1 ∙ ap (drop 1) c.look.ensures.same

pub returns-then-is_same_code-clause-at : goal.returns-then-is_same_code-clause-at
returns-then-is_same_code-clause-at c full is =
    let plan = c.args.plan.now in
    let q = c.args.q in
    let here = c.in-Marked.ensures.next in
    taken_at full plan q (record { cursor = c.look.new.cursor; lines = c.args.track.now.lines; bytes = c.args.track.now.bytes })
    (looked_at full plan q c.args.track.now is c.look.new.cursor c.look.ensures.same c.look.ensures.fits)
    _ (Await c.in-Marked.next ∷ []) here.0 here.1
    (taken_more plan q c.look.new.cursor 1 ∙ ap (drop 1) here.1) c.in-Marked.ensures.room.0 refl

pub returns-else-is_same_code : goal.returns-else-is_same_code
returns-else-is_same_code c =
    record {
      unlike =
          sym (ap (first_unlike (Await c.args.code ∷ [])) (sym c.look.ensures.same) ∙ code_differs c.args.code c.in-Marked.next _
          c.in-Marked.ensures.next.0 c.in-Marked.ensures.next.1 (sym c.is_same_code.ensures ∙ c.if-is_same_code.false));
      left = c.look.ensures.same;
      at = λ full is. looked_at full c.args.plan.now c.args.q c.args.track.now is c.look.new.cursor c.look.ensures.same c.look.ensures.fits;
      lines = refl;
      bytes = refl;
    }

pub returns-in_default : goal.returns-in_default
returns-in_default c =
    record {
      unlike =
          sym (ap (first_unlike (Await c.args.code ∷ [])) (sym c.look.ensures.same)
          ∙ code_other c.args.code c.look.result _ c.in_default.not-Marked c.look.ensures.next);
      left = c.look.ensures.same;
      at = λ full is. looked_at full c.args.plan.now c.args.q c.args.track.now is c.look.new.cursor c.look.ensures.same c.look.ensures.fits;
      lines = refl;
      bytes = refl;
    }
