use Rattle.capture_file.proofs.Images.{image_then}
use Rattle.capture_file.proofs.image.write_image.Goals as goal

pub returns-clause-puts : goal.returns-clause-puts
returns-clause-puts g c =
    image_then (g.R.Ram.memory c.args.ram.now) c.layout_of_ram-layout.result c.pages.result _ _ _ c.put_blocks.result
    c.layout_of_ram-layout.ensures c.pages.ensures.value
    c.in_ok-put_head.ensures.puts c.put_blocks.ensures.puts
