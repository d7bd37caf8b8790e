use Rattle.std.proofs.Common.{◌∙◌, sym}
use Rattle.capture_file.proofs.Programs.{fill_pages, fill_other}
use Rattle.capture_file.proofs.program.fill_wrong.Goals as goal

pub returns-then-are_pages : goal.returns-then-are_pages
returns-then-are_pages c =
    sym (fill_pages c.args.form c.in-Based.layout c.args.chunks.now c.in-Based.is c.in-Chunked.is
    (sym c.are_pages.ensures ∙ c.if-are_pages.true))

pub returns-else-are_pages : goal.returns-else-are_pages
returns-else-are_pages c =
    sym (fill_other c.args.form c.in-Based.layout c.args.chunks.now c.in-Based.is c.in-Chunked.is
    (sym c.are_pages.ensures ∙ c.if-are_pages.false))
