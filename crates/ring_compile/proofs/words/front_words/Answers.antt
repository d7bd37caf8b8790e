use Rattle.std.proofs.Common.{ℕ, ◌∙◌, ◌+◌, ◌-◌, ◌*◌, List, length, ap}
use Rattle.ring_model.specs.Rings.{Ring}
use Rattle.ring_compile.proofs.Appending.{blocks_go_on, last_writes_go_on}
use Rattle.ring_compile.proofs.words.front_words.Goals as goal

pub loop-block-preserved : goal.loop-block-preserved
loop-block-preserved c =
    let r = c.args.values.now in
    let words =
    blocks_go_on r c.loop-block.block c.loop-block.words.items c.push_block.new.out.items c.in_ok-push_block.ensures
    c.loop-block.invariant.words in
    record {
      words = words;
      last_writes =
          last_writes_go_on r c.loop-block.block c.push_block.new.out.items c.loop-block.last_writes.items c.push.new.self.items
          c.last_write.result words
          (c.last_write.ensures ∙ ap (λ (v : Ring). v.base + 4 * (length c.deref.result.now - 2)) c.values.view_is
          ∙ ap (λ (w : List ℕ). r.base + 4 * (length w - 2)) c.deref.ensures.value)
          c.in_ok-push.ensures.items c.loop-block.invariant.last_writes;
    }
