use Rattle.capture_file.specs.Streams.{steps_of}
use Rattle.capture_file.proofs.Faults.{program_or_fault, program_and_fault, ok_or_err, ok_and_err}
use Rattle.capture_file.proofs.laws.value_or_fault.Goals as goal

pub returns-clause-program : goal.returns-clause-program
returns-clause-program c bytes fits = program_or_fault bytes fits

pub returns-clause-no_program_at_fault : goal.returns-clause-no_program_at_fault
returns-clause-no_program_at_fault c bytes held wrong = program_and_fault bytes held wrong

pub returns-clause-stream : goal.returns-clause-stream
returns-clause-stream c limit chained bytes = ok_or_err (steps_of limit chained bytes)

pub returns-clause-no_stream_at_fault : goal.returns-clause-no_stream_at_fault
returns-clause-no_stream_at_fault c limit chained bytes ok err = ok_and_err (steps_of limit chained bytes) ok err
