use Rattle.std.proofs.Common.{◌≤◌, length, ◌+◌, ◌∙◌, sym, refl, arith}
use Rattle.std.proofs.lemmas.Result.{err_from_is_err_and}
use Rattle.capture_desk.proofs.Laws.{after_write-nil}
use Rattle.capture_file.proofs.Puts.{piece_numbers, numbers_more, numbers_break}
use Rattle.capture_file.proofs.writing.put_by.Goals as goal

pub loop-at-init : goal.loop-at-init
loop-at-init g c =
    record { within = omega arith; room = omega arith; some = omega arith; done = sym (after_write-nil _); counts = (refl, refl, refl) }

pub loop-at-preserved : goal.loop-at-preserved
loop-at-preserved g c =
    let within : c.loop-at.at + c.min-count.result ≤ length c.args.numbers.now = omega arith in
    let piece = piece_numbers c.args.numbers.now c.loop-at.at c.min-count.result c.spell.new.out within c.spell.ensures in
    record {
      within = within;
      room = let same = c.spell.auto.out in let room = c.loop-at.invariant.room in omega arith;
      some = c.loop-at.invariant.some;
      done =
          numbers_more c.args.numbers.now c.loop-at.at c.min-count.result c.spell.new.out _ _ _ piece c.loop-at.invariant.done
          c.in_ok-put.ensures.puts;
      counts = (
        c.in_ok-put.ensures.counts.0 ∙ c.loop-at.invariant.counts.0,
        c.in_ok-put.ensures.counts.1 ∙ c.loop-at.invariant.counts.1,
        c.in_ok-put.ensures.counts.2 ∙ c.loop-at.invariant.counts.2,
      );
    }

pub returns-in_err-put-clause-puts : goal.returns-in_err-put-clause-puts
returns-in_err-put-clause-puts g c =
    let p = err_from_is_err_and c.from_residual.result c.from_residual.ensures.1 in
    let within : c.loop-at.at + c.min-count.result ≤ length c.args.numbers.now = omega arith in
    let piece = piece_numbers c.args.numbers.now c.loop-at.at c.min-count.result c.spell.new.out within c.spell.ensures in
    rw p.1 (numbers_break c.args.numbers.now c.loop-at.at c.min-count.result c.spell.new.out _ _ _ piece c.loop-at.invariant.done
    c.in_err-put.ensures.puts)
