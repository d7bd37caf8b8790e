use Rattle.std.proofs.Common.{refl, sym, ◌∙◌}
use Rattle.std.proofs.lemmas.Result.{err_from_is_err_and}
use Rattle.capture_desk.proofs.Laws.{after_write-nil}
use Rattle.capture_file.specs.Images.{block_image}
use Rattle.capture_file.proofs.Images.{block_small, blocks_more, blocks_break}
use Rattle.capture_file.proofs.image.put_blocks.Goals as goal

pub loop-i-init : goal.loop-i-init
loop-i-init g c = record { done = sym (after_write-nil _); counts = (refl, refl, refl) }

pub put_block-requires-clause-small : goal.put_block-requires-clause-small
put_block-requires-clause-small g c =
    block_small (g.R.Ram.memory c.args.ram.now) c.loop-i.i _ c.page-at.ensures.sound c.page-at.ensures.value

pub returns-in_err-put_block-clause-puts : goal.returns-in_err-put_block-clause-puts
returns-in_err-put_block-clause-puts g c =
    let p = err_from_is_err_and c.from_residual.result c.from_residual.ensures.1 in
    rw p.1 (blocks_break (block_image c.args.layout)
    (g.R.Ram.memory c.args.ram.now) c.loop-i.i _ c.page-at.ensures.value _ _ _ c.loop-i.invariant.done c.in_err-put_block.ensures.puts)

pub loop-i-preserved : goal.loop-i-preserved
loop-i-preserved g c = record {
  done =
      blocks_more (block_image c.args.layout)
      (g.R.Ram.memory c.args.ram.now) c.loop-i.i _ c.page-at.ensures.value _ _ _ c.loop-i.invariant.done c.in_ok-put_block.ensures.puts;
  counts = (
    c.in_ok-put_block.ensures.counts.0 ∙ c.loop-i.invariant.counts.0,
    c.in_ok-put_block.ensures.counts.1 ∙ c.loop-i.invariant.counts.1,
    c.in_ok-put_block.ensures.counts.2 ∙ c.loop-i.invariant.counts.2,
  );
}
