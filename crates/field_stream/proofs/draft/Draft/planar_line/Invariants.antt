use Rattle.std.proofs.Common.{◌≡◌, ◌≤◌, ◌+◌, ◌*◌, length}
use Rattle.std.specs.List.{flat_map, range_with_len}
use Rattle.field_stream.specs.Pushes.{planar_at}
use Rattle.field_stream.specs.Drafts.{pushed_all}
use Rattle.field_stream.proofs.draft.Draft.planar_line.Given as goal

abbrev pub invariant-loop-index : goal.invariant-loop-index
invariant-loop-index l =
    record {
      value : l.self ≡ pushed_all (flat_map (planar_at l.luma l.chroma l.across) (range_with_len 0 l.index)) l.fn.self;
      length : length l.self.bytes ≤ length l.fn.self.bytes + 33 * l.index;
    }
