use Rattle.std.proofs.Common.{◌≡◌, ◌∙◌, Ok, ap, subst, length, refl}
use Rattle.page_table.specs.Taken.{listed}
use Rattle.capture_file.specs.Programs.{chunks_field, fill_field, without_grants}
use Rattle.capture_file.proofs.SpansRead.{program_made}
use Rattle.capture_file.proofs.program.read_behind.Goals as goal

pub file-requires : goal.file-requires
file-requires c =
    let is = c.requires.placed in
    let form = c.args.form in
    let placed = without_grants c.args.placed.start c.args.placed.spans in
    let chunks =
    subst (λ layout. chunks_field layout c.in_ok-count.rest.size placed c.in_ok-count.count 0 0 c.in_ok-count.rest.bytes.now
    ≡ Ok (listed c.in_ok-chunks.chunks.items, c.in_ok-chunks.rest.bytes.now))
    c.layout_of-layout.ensures c.in_ok-chunks.ensures.value in
    let fill =
    subst
    (λ items. Ok c.in_ok-fill.fill ≡ fill_field form c.in_ok-chunks.rest.size (listed items) c.in_ok-chunks.rest.bytes.now)
    c.deref.ensures.value c.in_ok-fill.ensures in
    program_made form c.args.placed.start c.in_ok-count.count c.in_ok-fill.fill (length is.bytes) c.args.rest.size
    c.in_ok-count.rest.size c.in_ok-chunks.rest.size c.args.placed.spans (listed c.in_ok-chunks.chunks.items) c.in_ok-grants.grants
    is.bytes is.behind c.args.rest.bytes.now c.in_ok-count.rest.bytes.now c.in_ok-chunks.rest.bytes.now is.fits refl is.whole
    c.in_ok-count.ensures.rest.0 c.in_ok-chunks.ensures.rest.0 is.read is.words c.in_ok-count.ensures.value chunks fill
    (c.in_ok-grants.ensures.value ∙ ap listed c.deref-2.ensures.value)
