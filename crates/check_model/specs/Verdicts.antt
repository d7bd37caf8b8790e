-- What is reported of a field of a description: where a program shows it, or where and why it doesn't.
use Rattle.std.specs.Prelude.{ℕ, Bool, true, false, List, map, filter, find, length, unwrap_or, slice_index_or, Ok, Err, ◌==◌}
use Rattle.std.specs.List.{list_all, range_with_len}
use Rattle.risc_word.specs.declared.Instr.{Instr}
use Rattle.risc_word.specs.declared.Instr.TheVariants.{Jump, Sync}
use Rattle.risc_word.specs.Words.{code_number}
use Rattle.pixel_layout.specs.declared.Parity.{Parity}
use Rattle.machine_model.specs.Paths.{RiscProgram, all_words, fetch, path}
use Rattle.capture_desc.specs.declared.desc.Desc.{Desc}
use Rattle.picture_model.specs.Described.{fields_of}
use Rattle.picture_model.specs.Programs.{vertical}
use Rattle.check_model.specs.Checks.{checked}
use Rattle.check_model.specs.declared.Closing.{Closing}
use Rattle.check_model.specs.declared.Closing.TheVariants as closing
use Rattle.check_model.specs.declared.Why.TheVariants.{NoSync}
use Rattle.check_model.specs.declared.Verdict.{Verdict}
use Rattle.check_model.specs.declared.Verdict.TheVariants.{Shown, Differs}

-- an opening of a field: a SYNC for its vertical code
abbrev pub is_opening : Parity → Instr → Bool
is_opening field (Sync ctl resync code) = code_number code == code_number (vertical field)
is_opening field _ = false

abbrev pub opens_at : RiscProgram → Parity → ℕ → Bool
opens_at program field at = elim (fetch program at) [ Err fault ↦ false | Ok read ↦ is_opening field read.0 ]

-- the addresses of the path's first places, as many as the program has words, and the openings among them
abbrev pub path_addresses : RiscProgram → List ℕ
path_addresses program = map (λ number. (path program number).pc) (range_with_len 0 (length (all_words program)))

abbrev pub openings : RiscProgram → Parity → List ℕ
openings program field = filter (opens_at program field) (path_addresses program)

-- what ends a field: a JUMP with its control bits, or the next field's SYNC
abbrev pub closing_of : Instr → Closing
closing_of (Jump ctl target) = closing.Jump ctl
closing_of _ = closing.Sync

abbrev pub closing_from : RiscProgram → ℕ → Closing
closing_from program at = elim (fetch program at) [ Err fault ↦ closing.Sync | Ok read ↦ closing_of read.0 ]

-- what is reported of one opening
abbrev pub said : RiscProgram → Desc → Parity → ℕ → Verdict
said program d field begin =
    elim (checked program d field begin) [
      | Ok found ↦ Shown begin found.0 found.1 (closing_from program found.0)
      | Err fault ↦ Differs fault.0 fault.1
    ]

abbrev pub is_shown : Verdict → Bool
is_shown (Shown begin end count ends) = true
is_shown (Differs at cause) = false

-- the first that is shown; where none is, the first; where there is none, that
abbrev pub chosen : RiscProgram → Parity → List Verdict → Verdict
chosen program field all =
    unwrap_or (find is_shown all) (slice_index_or all 0 (Differs program.base (NoSync (vertical field))))

abbrev pub verdict : RiscProgram → Desc → Parity → Verdict
verdict program d field = chosen program field (map (said program d field) (openings program field))

-- a program shows each field that is described
abbrev pub shows : RiscProgram → Desc → Bool
shows program d = list_all (λ field. is_shown (verdict program d field)) (fields_of d.fields)
