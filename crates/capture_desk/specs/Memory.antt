-- The desk over memory: what it holds, and what each of its calls answers and leaves.
use Rattle.std.specs.Prelude.{ℕ, length, ◌-◌, min, Bool, false, true, ◌==◌, List, [], ◌++◌, map, take, drop, Option, Some, None, option_map}
use Rattle.std.specs.Prelude.{is_some, Result, Ok, Err, if◌then◌else◌}
use Rattle.std.specs.List.{list_any}
use Rattle.capture_desk.specs.declared.desk.Failed.{Failed}
use Rattle.capture_desk.specs.declared.desk.OpenFault.{OpenFault}
use Rattle.capture_desk.specs.declared.desk.OpenFault.TheVariants.{Missing, Failed as OpenFailed}
use Rattle.capture_desk.specs.Desks.{Inputs, Outputs, Seen, Told, counted, created, named, output_named, written}

pub record Memory : Type 0 where
  pub inputs : Inputs
  pub opens : List (List ℕ)  -- the names that may be opened
  pub outputs : Outputs  -- an entry for each name that may be created
  pub text : List ℕ  -- what was printed
  pub failing : List ℕ  -- the numbers of the calls that fail
  pub longest : ℕ  -- what a call moves at most
  pub room : ℕ  -- what an output or the text holds at most
  pub calls : ℕ
  pub rest : Option (List ℕ)  -- the unread rest of the open input
  pub writing : Option (List ℕ)  -- the name of the open output
  pub read_faults : ℕ
  pub write_faults : ℕ
  pub failed : Bool  -- the last call failed

abbrev pub names_of : {V : Type 0} → List (List ℕ × V) → List (List ℕ)
names_of files = map (λ file. file.0) files

-- it tells everything
abbrev pub all_told : Memory → Told
all_told m =
    record {
      inputs = Some m.inputs;
      rest = m.rest;
      outputs = Some m.outputs;
      writing = m.writing;
      said = Some m.text;
      may_open = Some m.opens;
      may_create = Some (names_of m.outputs);
      input_open = is_some m.rest;
      output_open = is_some m.writing;
    }

-- and so all that is seen of it, apart from its calls
abbrev pub seen_of : Memory → Seen
seen_of m = record { told = all_told m; reads = m.read_faults; writes = m.write_faults; failed = m.failed; calls = None }

abbrev pub new_memory : Inputs → List (List ℕ) → List (List ℕ) → List ℕ → ℕ → ℕ → Memory
new_memory inputs opens creates failing longest room =
    record {
      inputs = inputs;
      opens = opens;
      outputs = map (λ name. (name, None)) creates;
      text = [];
      failing = failing;
      longest = longest;
      room = room;
      calls = 0;
      rest = None;
      writing = None;
      read_faults = 0;
      write_faults = 0;
      failed = false;
    }

-- ---- the number of a call, and faults

-- the next call has its number, and has not failed so far
abbrev pub called : Memory → Memory
called m = record m { calls = counted m.calls; failed = false }

-- the next call is one that fails
abbrev pub is_failing : Memory → Bool
is_failing m = list_any (λ n. n == counted m.calls) m.failing

abbrev pub read_failed : Memory → Memory
read_failed m = record m { read_faults = counted m.read_faults; failed = true }

abbrev pub write_failed : Memory → Memory
write_failed m = record m { write_faults = counted m.write_faults; failed = true }

-- ---- open_in

abbrev pub open_found : Option (List ℕ) → Memory → Memory
open_found None m = m
open_found (Some bytes) m = record m { rest = Some bytes }

abbrev pub opened : List ℕ → Memory → Memory
opened name m = if is_failing m then read_failed (called m) else open_found (named name m.inputs) (called m)

abbrev pub answer_found : Option (List ℕ) → Result (Unit {0}) OpenFault
answer_found None = Err Missing
answer_found (Some _) = Ok tt

abbrev pub open_answer : List ℕ → Memory → Result (Unit {0}) OpenFault
open_answer name m = if is_failing m then Err OpenFailed else answer_found (named name m.inputs)

-- ---- read

abbrev pub or_empty : Option (List ℕ) → List ℕ
or_empty None = []
or_empty (Some bytes) = bytes

abbrev pub rest_of : Memory → List ℕ
rest_of m = or_empty m.rest

-- how many bytes a read into so much space moves
abbrev pub read_count : ℕ → Memory → ℕ
read_count space m = min (min m.longest space) (length (rest_of m))

abbrev pub passed : ℕ → Memory → Memory
passed n m = record m { rest = option_map (λ bytes. drop n bytes) m.rest }

abbrev pub read_on : ℕ → Memory → Memory
read_on space m = if is_failing m then read_failed (called m) else passed (read_count space m) (called m)

abbrev pub read_answer : ℕ → Memory → Result ℕ Failed
read_answer space m = if is_failing m then Err (record {}) else Ok (read_count space m)

-- the buffer after the read
abbrev pub filled : List ℕ → Memory → List ℕ
filled buf m =
    if is_failing m then buf
    else take (read_count (length buf) m) (rest_of m) ++ drop (read_count (length buf) m) buf

-- ---- create_out and finish

abbrev pub made : List ℕ → Memory → Memory
made name m = record m { outputs = created name m.outputs; writing = Some name }

abbrev pub created_by : List ℕ → Memory → Memory
created_by name m = if is_failing m then write_failed (called m) else made name (called m)

abbrev pub closed : Memory → Memory
closed m = record m { writing = None }

abbrev pub finished : Memory → Memory
finished m = if is_failing m then write_failed (called m) else closed (called m)

abbrev pub write_answer : Memory → Result (Unit {0}) Failed
write_answer m = if is_failing m then Err (record {}) else Ok tt

-- ---- write and say

-- what the open output holds
abbrev pub held : Option (List ℕ) → Outputs → List ℕ
held None outputs = []
held (Some name) outputs = or_empty (output_named name outputs)

-- how many of so many bytes an append to these moves
abbrev pub append_count : ℕ → List ℕ → Memory → ℕ
append_count n old m = min (min m.longest n) (m.room - length old)

-- the append itself, which fails where the room is full
abbrev pub is_full : List ℕ → Memory → Bool
is_full old m = length old == m.room

abbrev pub add_answer : ℕ → List ℕ → Memory → Result ℕ Failed
add_answer n old m = if is_full old m then Err (record {}) else Ok (append_count n old m)

abbrev pub added : List ℕ → Memory → Memory
added bytes m =
    if is_full (held m.writing m.outputs) m then write_failed m
    else record m { outputs = written m.writing (take (append_count (length bytes) (held m.writing m.outputs) m) bytes) m.outputs }

abbrev pub spoken : List ℕ → Memory → Memory
spoken bytes m =
    if is_full m.text m then write_failed m
    else record m { text = m.text ++ take (append_count (length bytes) m.text m) bytes }

abbrev pub append_answer : ℕ → List ℕ → Memory → Result ℕ Failed
append_answer n old m = if is_failing m then Err (record {}) else add_answer n old m

abbrev pub wrote : List ℕ → Memory → Memory
wrote bytes m = if is_failing m then write_failed (called m) else added bytes (called m)

abbrev pub spoke : List ℕ → Memory → Memory
spoke bytes m = if is_failing m then write_failed (called m) else spoken bytes (called m)
