-- The writes of the host.
use Rattle.std.specs.Prelude.{◌<◌}
use Rattle.irq_status.specs.declared.HostWrite.{HostWrite}
use Rattle.irq_status.specs.declared.HostWrite.TheVariants.{Ack, Enable, Trigger}

-- a write that the host can make: the packed trigger point has two bits
abbrev pub IsWrite : HostWrite → Type 0
IsWrite (Ack mask) = Unit {0}
IsWrite (Enable fifo risc) = Unit {0}
IsWrite (Trigger number) = number < 4
