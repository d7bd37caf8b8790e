-- A file has a value or a fault.
use Rattle.std.proofs.Common.{◌≡◌, ℕ, ◌⊎◌, inl, inr, List, Result, Ok, Err, refl, ap, ◌∙◌}
use Rattle.std.specs.Prelude.{IsOk, IsErr}
use Rattle.capture_file.specs.declared.FileFault.{FileFault}
use Rattle.capture_file.specs.declared.program.ProgramFile.{ProgramFile}
use Rattle.capture_file.specs.Programs.{program_of, HasProgram, HasFault}
use Rattle.capture_file.proofs.Chunks.{IsBytes}
use Rattle.capture_file.proofs.Spelled.{spelled_again}
use Rattle.capture_file.proofs.Unspelled.{file_read}

not_both : {A : Type 0} (x : A) (fault : FileFault) (r : Result A FileFault) → r ≡ Ok x → r ≡ Err fault → ⊥
not_both x fault r value e = absurd (cc)

pub program_or_fault : (bytes : List ℕ) → IsBytes bytes → HasProgram bytes ⊎ HasFault bytes
program_or_fault bytes fits = by_result (program_of bytes) refl
  where
    by_result : (r : Result ProgramFile FileFault) → program_of bytes ≡ r → HasProgram bytes ⊎ HasFault bytes
    by_result (Ok file) e = inl (file, file_read bytes file fits e)
    by_result (Err fault) e = inr (fault, e)

pub program_and_fault : (bytes : List ℕ) → HasProgram bytes → HasFault bytes → ⊥
program_and_fault bytes held wrong =
    let is = held.1 in
    not_both held.0 wrong.0 (program_of bytes) (ap program_of is.parts ∙ spelled_again held.0.program held.0.fill is.made) wrong.1

pub ok_or_err : {A E : Type 0} (r : Result A E) → IsOk r ⊎ IsErr r
ok_or_err (Ok x) = inl refl
ok_or_err (Err e) = inr refl

pub ok_and_err : {A E : Type 0} (r : Result A E) → IsOk r → IsErr r → ⊥
ok_and_err (Ok x) ok err = absurd (cc)
ok_and_err (Err e) ok err = absurd (cc)
