use Rattle.std.proofs.Common.{◌≡◌, ◌+◌, ◌*◌, map, length}
use Rattle.std.specs.List.{range_with_len}
use Rattle.fifo_model.specs.declared.Queue.TheVariants.{One}
use Rattle.field_stream.specs.Pushes.{Fill, status_at}
use Rattle.field_stream.specs.Drafts.{pushed_all}
use Rattle.field_stream.proofs.draft.Draft.packed_line.Given as goal

abbrev pub invariant-loop-index : goal.invariant-loop-index
invariant-loop-index l =
    record {
      value : l.self ≡ pushed_all (map (λ k. Fill One (status_at l.bytes k)) (range_with_len 0 l.index)) l.fn.self;
      length : length l.self.bytes ≡ length l.fn.self.bytes + 11 * l.index;
    }
