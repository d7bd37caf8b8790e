-- The desk over a host: what it tells.
use Rattle.std.specs.Prelude.{ℕ, Bool, false, List, Option, None, Some, is_some}
use Rattle.capture_desk.specs.Desks.{Seen, Told}
use Rattle.capture_desk.specs.Hosts.{Store}

pub record System : Type 0 where
  pub store : Store
  pub input : Option (Option (List ℕ))  -- the unread rest of the open input, where one is open and tells it
  pub output : Option (Option (List ℕ))  -- the name of the open output, where one is open and tells it
  pub read_faults : ℕ
  pub write_faults : ℕ
  pub failed : Bool

abbrev pub where_open : Option (Option (List ℕ)) → Option (List ℕ)
where_open None = None
where_open (Some told) = told

-- all that the host tells, and no names that alone may be opened or created
abbrev pub host_told : System → Told
host_told s =
    record {
      inputs = s.store.inputs;
      rest = where_open s.input;
      outputs = s.store.outputs;
      writing = where_open s.output;
      said = s.store.said;
      may_open = None;
      may_create = None;
      input_open = is_some s.input;
      output_open = is_some s.output;
    }

abbrev pub seen_of : System → Seen
seen_of s = record { told = host_told s; reads = s.read_faults; writes = s.write_faults; failed = s.failed; calls = None }

-- nothing is open, and nothing has failed yet
abbrev pub new_system : Store → System
new_system store = record { store = store; input = None; output = None; read_faults = 0; write_faults = 0; failed = false }
