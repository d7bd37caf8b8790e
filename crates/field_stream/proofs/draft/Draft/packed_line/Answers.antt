use Rattle.std.proofs.Common.{◌≡◌, ◌+◌, ◌-◌, ℕ, map, arith, ap, sym, ◌∙◌}
use Rattle.std.specs.List.{range_with_len}
use Rattle.fifo_model.specs.declared.Queue.TheVariants.{One}
use Rattle.field_stream.specs.Pushes.{Fill, line_entries, status_at}
use Rattle.field_stream.specs.Drafts.{pushed, pushed_all}
use Rattle.field_stream.proofs.Drafting.{map_more}
use Rattle.field_stream.proofs.draft.Draft.packed_line.Goals as goal

pub loop-index-preserved : goal.loop-index-preserved
loop-index-preserved c =
    record {
      value =
          c.entry.ensures.value
          ∙ ap (λ status. pushed (Fill One status) c.loop-index.self) c.status.ensures.value
          ∙ map_more (λ index. Fill One (status_at c.args.bytes index)) c.loop-index.index c.loop-index.self c.args.self.now
          c.loop-index.invariant.value;
      length = omega (arith, c.entry.ensures.length, c.loop-index.invariant.length);
    }

pub returns-clause-value : goal.returns-clause-value
returns-clause-value c =
    let bytes = c.args.bytes in
    let last : c.loop-index.index ≡ c.line_entries-last.result - 1 = omega (arith, c.loop-index-test.false, c.loop-index.auto.index-end) in
    let all : c.loop-index.index + 1 ≡ line_entries bytes = omega (arith, last, c.line_entries-last.ensures, c.requires.bytes) in
    c.entry-2.ensures.value
    ∙ ap (λ status. pushed (Fill One status) c.loop-index.self) (c.status-2.ensures.value ∙ ap (status_at bytes) (sym last))
    ∙ map_more (λ index. Fill One (status_at bytes index)) c.loop-index.index c.loop-index.self c.args.self.now c.loop-index.invariant.value
    ∙ ap (λ (n : ℕ). pushed_all (map (λ index. Fill One (status_at bytes index)) (range_with_len 0 n)) c.args.self.now) all
