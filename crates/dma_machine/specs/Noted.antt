-- What is noted of the applications of a burst, one after the other.
use Rattle.std.specs.Prelude.{◌||◌, List, [], ◌∷◌, if◌then◌else◌}
use Rattle.fifo_model.specs.declared.Queue.{Queue}
use Rattle.machine_model.specs.declared.Did.TheVariants.{GivenUp}
use Rattle.machine_model.specs.declared.Seen.{Seen}
use Rattle.machine_model.specs.Seen.{Application, discards_reserved, ends, gives_up, takes}

abbrev pub noted : Queue → Application → Seen → Seen
noted q a seen =
    record {
      did = if gives_up a then GivenUp q else seen.did;
      at = seen.at;
      took = seen.took || takes a;
      ended = seen.ended || ends a;
      reserved = seen.reserved || discards_reserved a;
    }

abbrev pub all_noted : Queue → List Application → Seen → Seen
all_noted q [] seen = seen
all_noted q (a ∷ made) seen = all_noted q made (noted q a seen)
