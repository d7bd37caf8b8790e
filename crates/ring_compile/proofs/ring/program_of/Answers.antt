use Rattle.std.proofs.Common.{◌∙◌, ap}
use Rattle.ring_model.specs.Rings.{Ring}
use Rattle.ring_compile.proofs.Judging.{made_apart, made_few, made_sound, program_is}
use Rattle.ring_compile.proofs.ring.program_of.Goals as goal

pub new-requires-clause-few : goal.new-requires-clause-few
new-requires-clause-few c = made_few c.args.values.now c.args.words.items c.requires.judged c.requires.words

pub new-requires-clause-apart : goal.new-requires-clause-apart
new-requires-clause-apart c =
    made_apart c.args.values.now _ c.args.words.items c.in_ok-grants.grants c.requires.judged
    (ap (λ (r : Ring). r.base) c.values.view_is) c.requires.words c.in_ok-grants.ensures

pub returns-clause-program : goal.returns-clause-program
returns-clause-program c =
    c.new.ensures ∙ program_is c.args.values.now _ c.args.words.items c.in_ok-grants.grants
    (ap (λ (r : Ring). r.base) c.values.view_is) c.requires.words c.in_ok-grants.ensures

pub returns-clause-sound : goal.returns-clause-sound
returns-clause-sound c =
    made_sound c.args.values.now c.new.result c.requires.judged
    (c.new.ensures ∙ program_is c.args.values.now _ c.args.words.items c.in_ok-grants.grants
    (ap (λ (r : Ring). r.base) c.values.view_is) c.requires.words c.in_ok-grants.ensures)
