use Rattle.std.proofs.Common.{◌∙◌, ap}
use Rattle.capture_desc.specs.declared.desc.Desc.{Desc}
use Rattle.command_texts.specs.Texts.{made_text}
use Rattle.field_stream.specs.Made.{made_entries, made_fields}
use Rattle.bt878_top.proofs.Products.{make_made}
use Rattle.bt878_top.proofs.descriptions.make.Goals as goal

pub returns-clause-makes : goal.returns-clause-makes
returns-clause-makes g c =
    let d = c.in_ok-checked.checked in
    let frames = c.args.frames in
    let counts = c.of-counts in
    make_made c.args.desc
    (g.D.Desk.seen c.args.desk.now).told.inputs c.args.stream c.args.seed frames c.new.result c.made_text-text.result d c.new.ensures
    (c.made_text-text.ensures
    ∙ ap (λ n. made_text n counts.result.entries) (counts.ensures.fields ∙ ap (λ (x : Desc). made_fields x frames) c.frame.ensures.value)
    ∙ ap (made_text (made_fields d frames)) (counts.ensures.entries ∙ ap (λ (x : Desc). made_entries x frames) c.frame.ensures.value))
    c.in_ok-checked.ensures.describes
