-- What holds of a checked description and its program.
use Rattle.std.proofs.Common.{◌≡◌, ℕ, ◌+◌, ◌*◌, ◌^◌, ◌<◌, Bool, not, ◌&&◌, List, [], ◌∷◌, length, Option, None, sym, ap, ◌∙◌}
use Rattle.std.specs.Prelude.{nat_le}
use Rattle.std.specs.List.{list_any}
use Rattle.page_table.specs.Grants.{Chunk, is_met}
use Rattle.page_table.specs.Taken.{in_order}
use Rattle.machine_model.specs.Paths.{IsProgram, IsSound, one_span}
use Rattle.machine_model.proofs.OneSpan.{any-shares_byte}
use Rattle.capture_desc.specs.declared.desc.Desc.{Desc}
use Rattle.picture_model.specs.declared.BuildFault.{BuildFault}
use Rattle.picture_model.specs.declared.BuildFault.TheVariants.{ProgramBase, ProgramOnPage}
use Rattle.picture_model.specs.Described.{memory_of}
use Rattle.picture_model.specs.Geometry.{first_after, first_fault, frame_fault, frame_faults, is_multiple, program_base, program_faults}
use Rattle.picture_model.specs.Geometry.{program_on_page, when}
use Rattle.picture_model.specs.Programs.{compiled, compiled_words}
use Rattle.picture_model.proofs.CompiledProgram.{compiled_program}
use Rattle.picture_model.proofs.FaultlessGeometry.{HasRoom, IsFrame-IsRight, IsValid-HasRoom, IsValid-IsFrame}
use Rattle.picture_model.proofs.Limit.{sections_few}
use Rattle.picture_model.proofs.Sections.{compiled_sound}
use Rattle.planar_plan.proofs.Faults.{none_front, one_alone}
use Rattle.program_build.specs.Checks.{IsChecked}

pub checked_program : (d : Desc) → IsChecked d → IsProgram (compiled d)
checked_program d is = compiled_program d is.description is.valid

pub checked_sound : (d : Desc) → IsChecked d → IsSound (compiled d)
checked_sound d is =
    compiled_sound d (IsFrame-IsRight d is.description (IsValid-IsFrame d is.valid))

-- its words end at or below 2^32, and there are few
pub checked_room : (d : Desc) → IsChecked d → HasRoom d
checked_room d is = IsValid-HasRoom d is.valid

pub checked_few : (d : Desc) → IsChecked d → length (compiled_words d) < 500000
checked_few d is =
    sections_few d d.base d.base is.description (IsFrame-IsRight d is.description (IsValid-IsFrame d is.valid))

-- a program of its base, words and memory is the compiled one
pub same_program : (base : ℕ) (words : List ℕ) (grants : List Chunk) (d : Desc) → base ≡ d.base → words ≡ compiled_words d →
    grants ≡ in_order (memory_of d) →
    one_span base words grants ≡ compiled d
same_program base words grants d one two three =
    ap (λ (n : ℕ). one_span n words grants) one
    ∙ ap (λ (w : List ℕ). one_span d.base w grants) two
    ∙ ap (one_span d.base (compiled_words d)) three

-- after a frame's faults the program's decide
pub then_program : (d e : Desc) (found : Option BuildFault) → frame_fault d ≡ None → e ≡ d → first_after None program_faults e ≡ found →
    first_fault d ≡ found
then_program d e found none same is =
    none_front frame_faults program_faults d none ∙ ap (first_after None program_faults) (sym same) ∙ is

-- where a program's base and end are right, whether it shares a byte with its pages decides
pub on_page : (d e : Desc) (end : ℕ) (found : Option BuildFault) → e ≡ d → end ≡ d.base + 4 * length (compiled_words d) →
    None ≡ when (not (is_multiple 4 e.base && nat_le end (2 ^ 32))) ProgramBase →
    found ≡ when (list_any (is_met e.base end) (memory_of e)) ProgramOnPage → first_after None program_faults d ≡ found
on_page d e end found same ends right shared =
    let first : program_base d ≡ None =
    sym (right
    ∙ ap (λ (x : Desc). when (not (is_multiple 4 x.base && nat_le end (2 ^ 32))) ProgramBase) same
    ∙ ap (λ (n : ℕ). when (not (is_multiple 4 d.base && nat_le n (2 ^ 32))) ProgramBase) ends)
    in
    let second : program_on_page d ≡ found =
    sym (shared
    ∙ ap (λ (x : Desc). when (list_any (is_met x.base end) (memory_of x)) ProgramOnPage) same
    ∙ ap (λ (n : ℕ). when (list_any (is_met d.base n) (memory_of d)) ProgramOnPage) ends
    ∙ sym (ap (λ (met : Bool). when met ProgramOnPage) (any-shares_byte d.base (compiled_words d) (in_order (memory_of d)) (memory_of d))))
    in
    ap (λ (o : Option BuildFault). first_after o (program_on_page ∷ []) d) first ∙ one_alone program_on_page d ∙ second
