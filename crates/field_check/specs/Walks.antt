-- The walk, some instructions after its beginning.
use Rattle.std.specs.Prelude.{ℕ, ◌+◌, Bool, false, List, Option, None, Some, Ok, Err, filter, find, map, slice_index_or, unwrap_or}
use Rattle.std.specs.List.{range_with_len}
use Rattle.pixel_layout.specs.declared.Parity.{Parity}
use Rattle.machine_model.specs.Paths.{RiscProgram, path}
use Rattle.capture_desc.specs.declared.desc.Desc.{Desc}
use Rattle.picture_model.specs.Programs.{vertical}
use Rattle.check_model.specs.Verdicts.{is_shown, opens_at, said}
use Rattle.check_model.specs.declared.Verdict.{Verdict}
use Rattle.check_model.specs.declared.Verdict.TheVariants.{Differs}
use Rattle.check_model.specs.declared.Why.TheVariants.{NoSync}
use Rattle.risc_word.specs.declared.Instr.{Instr}
use Rattle.risc_word.specs.declared.Instr.TheVariants.{Sync}
use Rattle.check_model.specs.Checks.{Answer}

-- so many instructions more are before the end
abbrev pub plus : ℕ → Answer → Answer
plus count (Ok found) = Ok (found.0, count + found.1)
plus count (Err fault) = Err fault

-- whether a SYNC has RESYNC
abbrev pub resyncs : Instr → Bool
resyncs (Sync ctl resync code) = resync
resyncs _ = false

-- what is reported of the openings among so many places of the path, from one on
abbrev pub said_from : RiscProgram → Desc → Parity → ℕ → ℕ → List Verdict
said_from program d field from count =
    map (said program d field) (filter (opens_at program field) (map (λ number. (path program number).pc) (range_with_len from count)))

-- the same with the first opening that was found before
abbrev pub chosen_from : RiscProgram → Parity → Option Verdict → List Verdict → Verdict
chosen_from program field first all =
    unwrap_or (find is_shown all) (unwrap_or first (slice_index_or all 0 (Differs program.base (NoSync (vertical field)))))

abbrev pub kept : Option Verdict → Verdict → Option Verdict
kept None found = Some found
kept (Some first) found = Some first
