-- A field's section as words that are nowhere.
use Rattle.std.specs.Prelude.{◌≡◌, length}
use Rattle.fifo_model.specs.declared.Queue.{Queue}
use Rattle.pixel_layout.specs.declared.Parity.{Parity}
use Rattle.machine_model.specs.Paths.{RiscProgram, all_words}
use Rattle.capture_desc.specs.declared.desc.Desc.{Desc}
use Rattle.check_model.specs.Checks.{awaited}
use Rattle.field_check.specs.Cursors.{asks_from}

-- from address 0 on it asks of each queue what the queue awaits of the field
pub record IsPlan (d : Desc) (field : Parity) (plan : RiscProgram) : Type 0 where
  pub asked : (q : Queue) → asks_from (length (all_words plan)) plan q 0 ≡ awaited d field q
