use Rattle.std.proofs.Common.{◌∙◌, ap, arith, sym}
use Rattle.machine_model.specs.Paths.{cause_at}
use Rattle.risc_verify.proofs.Near.{at-inside, at-number}
use Rattle.risc_verify.proofs.Rounds.{sound-from_places}
use Rattle.risc_verify.proofs.Walking.{Walks-next, sound-from_known}
use Rattle.risc_verify.proofs.walk.walk.Goals as goal

pub meet-requires : goal.meet-requires
meet-requires g c below =
    let i = c.loop-nth.invariant in
    let inside = at-inside c.args.program.now c.words-words.ensures.made c.loop-nth.near _ _ _ i.4 below in
    omega arith

pub returns-then-meet-clause-sound : goal.returns-then-meet-clause-sound
returns-then-meet-clause-sound g c =
    let program = c.args.program.now in
    let i = c.loop-nth.invariant in
    sound-from_known program c.loop-nth.nth c.loop-nth.next.place c.loop-nth.marks i.0
    (c.meet.ensures.known program (at-number program c.words-words.ensures.made c.loop-nth.near _ _ _ i.4) c.if-meet.true)

pub loop-nth-preserved : goal.loop-nth-preserved
loop-nth-preserved g c =
    let program = c.args.program.now in
    let i = c.loop-nth.invariant in (
      Walks-next program c.loop-nth.nth c.loop-nth.next.place c.in-Ok.after.place c.loop-nth.marks c.meet.new.self i.0
          (c.meet.ensures.marked program (at-number program c.words-words.ensures.made c.loop-nth.near _ _ _ i.4))
          c.in-Ok.ensures.answer.0 c.in-Ok.ensures.answer.1,
      omega arith,
      omega arith,
      omega arith,
      c.in-Ok.ensures.at,
    )

pub returns-clause-sound : goal.returns-clause-sound
returns-clause-sound g c =
    sound-from_places c.args.program.now (λ k below. c.loop-nth.invariant.0.fine k (omega arith))

pub returns-in-Err-clause-refused : goal.returns-in-Err-clause-refused
returns-in-Err-clause-refused g c =
    let w = c.loop-nth.invariant.0 in
    record {
      fine = w.fine;
      bad = ap (cause_at c.args.program.now) w.here ∙ c.in-Err.ensures.answer;
      there = ap (λ p. p.pc) w.here ∙ sym c.pc-at.ensures;
    }
