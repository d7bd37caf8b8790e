-- The bytes of a generated stream, and the steps that they stand for.
use Rattle.std.specs.Prelude.{◌≡◌, ℕ, ◌^◌, ◌<◌, ◌≤◌, false, List, length, Ok}
use Rattle.capture_file.specs.declared.Step.{Step}
use Rattle.capture_file.specs.Streams.{steps_of, steps_run}
use Rattle.capture_desc.specs.declared.desc.Desc.{Desc}
use Rattle.picture_model.specs.Described.{IsDescription}
use Rattle.picture_model.specs.Geometry.{IsFrame}
use Rattle.field_stream.specs.Made.{made}
use Rattle.generated_law.specs.Streams.{stream_steps}

-- the stream file of at most 16 frames has no fault, and its records stand for the steps of the stream
abbrev pub AreReadBack : Type 0
AreReadBack = (d : Desc) (seed frames limit : ℕ) → IsDescription d → IsFrame d → frames ≤ 16 → length (made d seed frames) ≤ limit →
    (records : List Step) × (steps_of limit false (made d seed frames) ≡ Ok records) × (steps_run records ≡ stream_steps d seed frames)

-- it is shorter than the longest stream, which has 2^32 - 1 bytes
abbrev pub AreShort : Type 0
AreShort = (d : Desc) (seed frames : ℕ) → IsDescription d → IsFrame d → frames ≤ 16 → length (made d seed frames) < 2 ^ 32
