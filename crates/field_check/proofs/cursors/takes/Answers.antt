use Rattle.std.proofs.Common.{◌∙◌, ◌≡◌, ℕ, ◌+◌, sym, refl, ap, subst, arith, drop, ◌<◌, ◌≤◌}
use Rattle.std.proofs.lemmas.Bool.{both_ways}
use Rattle.machine_model.specs.declared.Demand.{Demand}
use Rattle.field_law.specs.Sections.{ask, ask_of}
use Rattle.check_model.specs.ByBytes.{bytes_asked}
use Rattle.check_model.specs.Checks.{first_unlike}
use Rattle.field_check.specs.Cursors.{Fits, left_of}
use Rattle.field_check.specs.declared.cursors.Cursor.{Cursor}
use Rattle.field_check.proofs.Parts.{differs_other, differs_byte, differs_done, both_go, gone, taken_more, later_sol, later_below}
use Rattle.field_check.proofs.Parts.{later_drop}
use Rattle.field_check.proofs.Tracks.{looked_at, part_reached, taken_at}
use Rattle.field_check.proofs.cursors.takes.Goals as goal

pub returns-in_default : goal.returns-in_default
returns-in_default c =
    let a = c.loop-more.invariant in
    record {
      unlike =
          sym (differs_other c.loop-more.more c.look.result _ c.loop-more-test.true c.in_default.not-Bytes c.look.ensures.next)
          ∙ ap (first_unlike (bytes_asked (ask_of c.loop-more.more))) c.look.ensures.same ∙ a.unlike;
      left = λ no. cc;
      at =
          λ full is. looked_at full c.args.plan.now c.args.q c.loop-more.track
          (a.at full is) c.look.new.cursor c.look.ensures.same c.look.ensures.fits;
      few = record { lines = let x = a.few.lines in omega arith; bytes = let x = a.few.bytes in omega arith };
      fits = c.look.ensures.fits;
    }

pub returns-then-not-is_like-clause-unlike : goal.returns-then-not-is_like-clause-unlike
returns-then-not-is_like-clause-unlike c =
    sym (differs_byte c.loop-more.more c.in-Bytes.next _ c.loop-more-test.true c.in-Bytes.ensures.next
    (λ sol place. both_ways c.is_like.result c.if-not-is_like.true (c.is_like.ensures.1 (sol, place))))
    ∙ ap (first_unlike (bytes_asked (ask_of c.loop-more.more))) c.look.ensures.same ∙ c.loop-more.invariant.unlike

pub returns-then-not-is_like-clause-at : goal.returns-then-not-is_like-clause-at
returns-then-not-is_like-clause-at c full is =
    looked_at full c.args.plan.now c.args.q c.loop-more.track
    (c.loop-more.invariant.at full is) c.look.new.cursor c.look.ensures.same c.look.ensures.fits

pub returns-then-not-is_like-clause-few : goal.returns-then-not-is_like-clause-few
returns-then-not-is_like-clause-few c =
    let a = c.loop-more.invariant in
    record { lines = let x = a.few.lines in omega arith; bytes = let x = a.few.bytes in omega arith }

pub count_bytes-requires : goal.count_bytes-requires
count_bytes-requires c =
    let a = c.loop-more.invariant in
    record {
      lines = let x = a.few.lines in let y = c.requires.few.lines in let z = c.requires.small in omega arith;
      bytes = let x = a.few.bytes in let y = c.requires.few.bytes in let z = c.requires.small in omega arith;
    }

pub loop-more-preserved : goal.loop-more-preserved
loop-more-preserved c =
    let a = c.loop-more.invariant in
    let plan = c.args.plan.now in
    let q = c.args.q in
    let cur = c.look.new.cursor in
    let k = c.min-count.result in
    let room = c.in-Bytes.ensures.room in
    let fewer = room.0 in
    let count = c.min-count.ensures in
    let more_some = c.loop-more-test.true in
    let next_some = c.in-Bytes.ensures.next.0 in
    let alike = c.if-not-is_like.ensures.0 refl in
    let some : 0 < k = omega arith in
    let in_more : k ≤ c.loop-more.more.rest = omega arith in
    let in_next : k ≤ c.in-Bytes.next.rest = omega arith in
    let d = c.loop-more.more in
    let n = c.in-Bytes.next in
    let taken = taken_more plan q cur k in
    let here = ap (λ (x : Cursor). left_of plan q (record x { done = x.done + k })) c.count_bytes.ensures.cursor ∙ taken in
    let fits = ap (λ (x : Cursor). x.done) c.count_bytes.ensures.cursor in
    let fits_now = subst (λ (x : Cursor). Fits plan q (record x { done = x.done + k })) (sym c.count_bytes.ensures.cursor) (omega arith) in
    let more_is = c.rest_of-more.ensures in
    record {
      fits = fits_now;
      some = later_sol d c.rest_of-more.result k more_is some;
      below = later_below d c.rest_of-more.result k more_is some in_more a.below;
      less = let x = a.less in let y = ap (λ (m : Demand). m.rest) more_is in omega arith;
      unlike =
          ap (first_unlike (bytes_asked (ask_of c.rest_of-more.result))) here
          ∙ ap (λ (m : Demand). first_unlike (bytes_asked (ask_of m)) (drop k (left_of plan q cur))) more_is
          ∙ sym
          (both_go d n k (left_of plan q cur) c.in-Bytes.ensures.next.1 alike.0 alike.1 some in_more in_next c.in-Bytes.ensures.next.2)
          ∙ ap (first_unlike (bytes_asked (ask_of d))) c.look.ensures.same ∙ a.unlike;
      left =
          ap (drop c.rest_of-more.result.rest) here
          ∙ later_drop d c.rest_of-more.result k more_is some (left_of plan q cur) in_more
          ∙ ap (drop d.rest) c.look.ensures.same ∙ a.left;
      at = λ full is.
          taken_at full plan q (record { cursor = cur; lines = c.loop-more.track.lines; bytes = c.loop-more.track.bytes })
          (looked_at full plan q c.loop-more.track (a.at full is) cur c.look.ensures.same c.look.ensures.fits)
          _ (bytes_asked (ask d.needs_sol k d.address)) (drop k (left_of plan q cur))
          (gone d n k (left_of plan q cur) c.in-Bytes.ensures.next.1 alike.0 alike.1 some in_more in_next c.in-Bytes.ensures.next.2)
          here fits_now
          (part_reached d.needs_sol k d.address _ some ∙ sym (c.count_bytes.ensures.reach d.address));
      few = record {
        lines =
            let x = a.few.lines in
            let y = (c.count_bytes.ensures.few some).lines in
            let z = ap (λ (m : Demand). m.rest) more_is in
            omega arith;
        bytes =
            let x = a.few.bytes in
            let y = (c.count_bytes.ensures.few some).bytes in
            let z = ap (λ (m : Demand). m.rest) more_is in
            omega arith;
      };
    }

pub returns-clause-unlike : goal.returns-clause-unlike
returns-clause-unlike c =
    sym (differs_done c.loop-more.more _ (omega (arith, c.loop-more-test.false)) c.loop-more.invariant.some) ∙ c.loop-more.invariant.unlike

pub returns-clause-left : goal.returns-clause-left
returns-clause-left c none =
    let gone : c.loop-more.more.rest ≡ 0 = omega (arith, c.loop-more-test.false) in
    sym (ap (λ (n : ℕ). drop n (left_of c.args.plan.now c.args.q c.loop-more.track.cursor)) gone) ∙ c.loop-more.invariant.left

pub returns-clause-few : goal.returns-clause-few
returns-clause-few c =
    let a = c.loop-more.invariant in
    record { lines = let x = a.few.lines in omega arith; bytes = let x = a.few.bytes in omega arith }
