use Rattle.std.proofs.Common.{sym, ◌∙◌}
use Rattle.capture_file.proofs.Images.{pages_more, chunked_for}
use Rattle.capture_file.proofs.image.layout_of_ram.Goals as goal

pub returns-then-not-is_page_at : goal.returns-then-not-is_page_at
returns-then-not-is_page_at g c =
    sym
    (chunked_for (g.R.Ram.memory c.args.ram.now) c.loop-i.i _ c.page-at.ensures.value (sym c.is_page_at.ensures ∙ c.if-not-is_page_at.true))

pub loop-i-preserved : goal.loop-i-preserved
loop-i-preserved g c =
    pages_more (g.R.Ram.memory c.args.ram.now) c.loop-i.i _ c.page-at.ensures.value c.loop-i.invariant
    (sym c.is_page_at.ensures ∙ c.if-not-is_page_at.false)
