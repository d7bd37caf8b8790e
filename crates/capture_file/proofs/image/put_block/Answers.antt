use Rattle.capture_file.specs.Images.{place_image}
use Rattle.std.proofs.Common.{length}
use Rattle.capture_file.proofs.Puts.{puts_then}
use Rattle.capture_file.proofs.image.put_block.Goals as goal

pub returns-clause-puts : goal.returns-clause-puts
returns-clause-puts g c =
    puts_then (place_image c.args.layout c.args.at (length c.args.bytes.now)) c.args.bytes.now _ _ _ c.put.result
    c.in_ok-put_place.ensures.puts c.put.ensures.puts
