-- A trace over a stream of which a part was taken.
use Rattle.std.specs.Prelude.{ℕ, ◌+◌, ◌*◌, ◌^◌, false, List, ◌++◌, length, replicate}
use Rattle.machine_model.specs.States.{State}
use Rattle.machine_model.specs.Steps as machine
use Rattle.capture_file.specs.Readers.{Reader, fresh, resumed}
use Rattle.capture_file.specs.Streams.{steps_run}
use Rattle.kept_stream.specs.Kept.{longest_kept}
use Rattle.turn_trace.specs.Traces.{Tracing, tracing}
use Rattle.trace_play.specs.Texts.{rest_text}

-- the trace so far, the turns that are left of the record that was read last, and a reader with the bytes that are left
pub record Playing : Type 0 where
  pub tracing : Tracing
  pub turns : ℕ
  pub reader : Reader
  pub bytes : List ℕ

abbrev pub begun : State → List ℕ → Playing
begun m bytes = record { tracing = tracing m 0; turns = 0; reader = fresh longest_kept false; bytes = bytes }

-- the steps that come
abbrev pub coming : Playing → List machine.Step
coming p = replicate p.turns machine.Turn ++ steps_run (resumed p.reader p.bytes).steps

-- their text, and what comes behind it
abbrev pub text_left : Playing → List ℕ
text_left p = rest_text p.tracing (coming p)

-- it gets less with each record and each turn
abbrev pub weight : Playing → ℕ
weight p = length p.bytes * 2 ^ 32 + p.turns
