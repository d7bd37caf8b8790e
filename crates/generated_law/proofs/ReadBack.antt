-- A generated stream is read back: its bytes stand for its steps.
use Rattle.std.proofs.Common.{[], ◌∷◌, arith, length-append}
use Rattle.picture_model.proofs.FaultlessGeometry.{IsFrame-IsRight}
use Rattle.field_stream.specs.Generator.{first_number}
use Rattle.field_stream.specs.Made.{records}
use Rattle.field_stream.specs.Pushes.{stream_pushes}
use Rattle.generated_law.specs.ReadBack.{AreShort, AreReadBack}
use Rattle.generated_law.proofs.Few.{few_pushes}
use Rattle.generated_law.proofs.Reading.{file_steps, read_back, records_long, run_same}
use Rattle.generated_law.proofs.Steps.{stream_data}

pub are_read_back : AreReadBack
are_read_back d seed frames limit is frame few short =
    let number = first_number seed in
    let all = stream_pushes d frames in
    let many = few_pushes d frames is (IsFrame-IsRight d is frame) few in
    (file_steps number all, read_back limit number all (stream_data d frames) (omega arith) short, run_same number all)

pub are_short : AreShort
are_short d seed frames is frame few =
    let bytes = records (first_number seed) (stream_pushes d frames) in
    let many = few_pushes d frames is (IsFrame-IsRight d is frame) few in
    omega (arith, records_long (first_number seed) (stream_pushes d frames), length-append bytes (0 ∷ []))
