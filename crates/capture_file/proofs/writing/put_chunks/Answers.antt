use Rattle.std.proofs.Common.{◌≤◌, ◌+◌, length, ◌∙◌, sym, refl, arith}
use Rattle.std.proofs.lemmas.Result.{err_from_is_err_and}
use Rattle.capture_desk.proofs.Laws.{after_write-nil}
use Rattle.capture_file.specs.Programs.{chunk_in}
use Rattle.capture_file.proofs.Puts.{chunks_more, chunks_break}
use Rattle.capture_file.proofs.writing.put_chunks.Goals as goal

pub loop-at-init : goal.loop-at-init
loop-at-init g c = record { within = omega arith; room = refl; done = sym (after_write-nil _); counts = (refl, refl, refl) }

pub loop-at-preserved : goal.loop-at-preserved
loop-at-preserved g c =
    let within : c.loop-at.at + c.min-count.result ≤ length c.args.grants.now = omega (arith, c.len-in-loop-at.ensures.value) in
    record {
      within = within;
      room = c.list_chunks-listed.auto.out ∙ c.loop-at.invariant.room;
      done =
          chunks_more (chunk_in c.args.layout) c.args.grants.now c.loop-at.at c.min-count.result _ _ _ c.loop-at.invariant.done _
          c.list_chunks-listed.ensures.numbers c.in_ok-put_numbers.ensures.puts;
      counts = (
        c.in_ok-put_numbers.ensures.counts.0 ∙ c.loop-at.invariant.counts.0,
        c.in_ok-put_numbers.ensures.counts.1 ∙ c.loop-at.invariant.counts.1,
        c.in_ok-put_numbers.ensures.counts.2 ∙ c.loop-at.invariant.counts.2,
      );
    }

pub returns-in_err-put_numbers-clause-puts : goal.returns-in_err-put_numbers-clause-puts
returns-in_err-put_numbers-clause-puts g c =
    let p = err_from_is_err_and c.from_residual.result c.from_residual.ensures.1 in
    rw p.1 (chunks_break (chunk_in c.args.layout) c.args.grants.now c.loop-at.at c.min-count.result _ _ _ c.loop-at.invariant.done _
    c.list_chunks-listed.ensures.numbers c.in_err-put_numbers.ensures.puts)
