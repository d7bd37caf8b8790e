use Rattle.std.proofs.Common.{◌≡◌, ◌∙◌, Ok, arith, length, subst, sym}
use Rattle.std.proofs.lemmas.Bool.{eqb-true}
use Rattle.capture_file.specs.Programs.{form_field}
use Rattle.capture_file.proofs.KeptRead.{head_read}
use Rattle.capture_file.proofs.kept.head_of.Goals as goal

pub returns-in-Ok-word_count : goal.returns-in-Ok-word_count
returns-in-Ok-word_count c =
    let bytes = c.args.bytes.now in
    head_read bytes c.in_ok-layout.layout c.in-Ok-base.start c.in-Ok-word_count.count _ _
    c.in-Ok.rest.bytes.now c.in-Ok-base.rest.bytes.now c.in-Ok-word_count.rest.bytes.now
    (λ i. omega (arith, c.type_inv.bytes i))
    (subst (λ form. form_field (length bytes) bytes ≡ Ok (form, c.in-Ok.rest.bytes.now)) c.in_ok-layout.ensures c.in-Ok.ensures.value)
    c.in-Ok-base.ensures.value c.in-Ok-word_count.ensures.value
    (eqb-true (length c.in-Ok-word_count.rest.bytes.now) 0 (sym c.is_empty.ensures ∙ c.if-is_empty.true))
