use Rattle.risc_asm.proofs.Telling.{whole}
use Rattle.risc_asm.proofs.text.finish.Goals as goal

pub returns-then-branch-clause-listing : goal.returns-then-branch-clause-listing
returns-then-branch-clause-listing c =
    let s = c.args.settled in
    let parts = rw c.in-Ok.is at c.in_ok-program.ensures.parts in
    let made = c.in_ok-is_end.ensures.made c.if-branch.true in
    let end = c.in_ok-is_end.ensures.end c.if-branch.true in (
      record { made = made.0; fill_small = made.1 },
      whole s.base s.number s.front c.unwrap_or-fill.result s.draft.words.items c.args.tail.now c.in-Ok.program c.requires parts.0 parts.1
          parts.2 end,
    )
