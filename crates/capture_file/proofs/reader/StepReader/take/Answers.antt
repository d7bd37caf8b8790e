use Rattle.std.proofs.Common.{◌+◌, ◌++◌, length, drop, sym, ◌∙◌, ap, subst}
use Rattle.capture_file.specs.Readers.{Taken, resumed, after_answer, Uses, Counts, Stays, PlacedAt}
use Rattle.capture_file.proofs.Resumed.{taken-goes}
use Rattle.capture_file.proofs.Answered.{taken-moves, taken-stays, taken-placed, taken-again}
use Rattle.capture_file.proofs.Wanting.{wants-more}
use Rattle.capture_file.proofs.reader.StepReader.take.Goals as goal

pub returns-clause-whole : goal.returns-clause-whole
returns-clause-whole c more =
    taken-goes c.args.self.now c.args.piece.now more c.advance.ensures.valid
    ∙ sym (ap (λ (t : Taken). after_answer t.answer (resumed t.reader (drop t.used c.args.piece.now ++ more))) c.advance.ensures.exact)

pub returns-clause-used : goal.returns-clause-used
returns-clause-used c =
    subst (λ (t : Taken). Uses t.answer t.used (length c.args.piece.now)) (sym c.advance.ensures.exact)
    (taken-moves c.args.self.now c.args.piece.now c.advance.ensures.valid).0

pub returns-clause-place : goal.returns-clause-place
returns-clause-place c =
    subst (λ (t : Taken). Counts t.answer (c.args.self.now.place + t.used) t.reader.place) (sym c.advance.ensures.exact)
    (taken-moves c.args.self.now c.args.piece.now c.advance.ensures.valid).1

pub returns-clause-stays : goal.returns-clause-stays
returns-clause-stays c =
    subst (λ (t : Taken). Stays t.answer t.reader.phase) (sym c.advance.ensures.exact)
    (taken-stays c.args.self.now c.args.piece.now)

pub returns-clause-moves : goal.returns-clause-moves
returns-clause-moves c before placed =
    subst (λ (t : Taken). PlacedAt t.reader.phase t.reader.place (before + t.used)) (sym c.advance.ensures.exact)
    (taken-placed c.args.self.now c.args.piece.now before c.advance.ensures.valid placed)

pub returns-clause-again : goal.returns-clause-again
returns-clause-again c fault is =
    let same = c.advance.ensures.exact ∙ taken-again c.args.self.now c.args.piece.now fault is in
    (ap (λ (t : Taken). t.used) same, ap (λ (t : Taken). t.answer) same, ap (λ (t : Taken). t.reader) same)

pub returns-clause-sound : goal.returns-clause-sound
returns-clause-sound c more fault bad =
    wants-more c.args.self.now c.args.piece.now _ c.advance.ensures.valid c.advance.ensures.exact more fault bad
