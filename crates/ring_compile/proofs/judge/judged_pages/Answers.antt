use Rattle.ring_compile.proofs.Judging.{pages_judged}
use Rattle.ring_compile.proofs.judge.judged_pages.Goals as goal

pub returns-clause-ring : goal.returns-clause-ring
returns-clause-ring c =
    pages_judged c.args.values.now c.stretch.result c.requires c.page_grants.ensures.addresses c.in_ok-page_grants.ensures.pages
    c.stretch.ensures.list c.stretch.ensures.sound
