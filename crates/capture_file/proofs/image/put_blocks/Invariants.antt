use Rattle.std.proofs.Common.{◌≡◌, take}
use Rattle.std.specs.List.{flat_map}
use Rattle.capture_desk.specs.Desks.{OnlyWrites, after_write}
use Rattle.capture_file.specs.Images.{block_image}
use Rattle.capture_file.proofs.image.put_blocks.Given as goal

abbrev pub invariant-loop-i : goal.invariant-loop-i
invariant-loop-i g l =
    record {
      done : (g.D.Desk.seen l.desk).told
          ≡ after_write (flat_map (block_image l.layout) (take l.i (g.R.Ram.memory l.ram))) (g.D.Desk.seen l.fn.desk).told;
      counts : OnlyWrites (g.D.Desk.seen l.fn.desk) (g.D.Desk.seen l.desk);
    }
