-- A program file without a fault is the encoding of one program in one form.
use Rattle.std.proofs.Common.{◌≡◌, ℕ, true, false, List, length, Ok, refl, sym, ap, subst, ◌∙◌}
use Rattle.machine_model.specs.Paths.{RiscProgram}
use Rattle.capture_file.specs.declared.program.Layout.TheVariants.{Paged, Chunked}
use Rattle.capture_file.specs.declared.program.ProgramForm.{ProgramForm}
use Rattle.capture_file.specs.declared.program.ProgramForm.TheVariants.{Based, Spanned}
use Rattle.capture_file.specs.declared.program.ProgramFile.{ProgramFile}
use Rattle.capture_file.specs.Programs.{form_for, program_in, program_of, spelled}
use Rattle.capture_file.proofs.Chunks.{IsBytes, ok_is}
use Rattle.capture_file.proofs.Spelled.{IsFor, in_line, is_for, line_again}
use Rattle.capture_file.proofs.Unspelled.{file_read}
use Rattle.file_law.specs.SpelledPrograms.{IsOwnForm, IsSpelledIn, Spells, bytes_in}

for_form : (form : ProgramForm) (program : RiscProgram) → IsOwnForm form program → IsFor form program
for_form (Based Paged) program own = own
for_form (Based Chunked) program own = own
for_form Spanned program own = own

pub own_form : (form : ProgramForm) (program : RiscProgram) → IsFor form program → IsOwnForm form program
own_form (Based Paged) program is = is
own_form (Based Chunked) program is = is
own_form Spanned program is = is

pub spelled_back : (form : ProgramForm) (file : ProgramFile) → IsSpelledIn form file → program_of (bytes_in form file) ≡ Ok file
spelled_back form file is =
    ap (program_in (length (bytes_in form file))) (in_line form file.program file.fill)
    ∙ line_again form (length (bytes_in form file)) file.program file.fill is.made (for_form form file.program is.own)

pub is_spelled : (bytes : List ℕ) (file : ProgramFile) → IsBytes bytes → program_of bytes ≡ Ok file → Spells bytes file
unfolding spelled
is_spelled bytes file fits e =
    let is = file_read bytes file fits e in
    let form : ProgramForm = form_for file.program in
    (form, record { own = own_form form file.program (is_for file.program); made = is.made; fill = is.fill }, is.parts)

one_form : (form other : ProgramForm) (program : RiscProgram) → IsOwnForm form program → IsOwnForm other program → form ≡ other
one_form (Based Paged) (Based Paged) program own too = refl
one_form (Based Paged) (Based Chunked) program own too = absurd (let no : true ≡ false = sym own.1 ∙ too.1 in cc)
one_form (Based Chunked) (Based Paged) program own too = absurd (let no : false ≡ true = sym own.1 ∙ too.1 in cc)
one_form (Based Chunked) (Based Chunked) program own too = refl
one_form (Based layout) Spanned program own too = absurd (let no : true ≡ false = sym own.0 ∙ too in cc)
one_form Spanned (Based layout) program own too = absurd (let no : false ≡ true = sym own ∙ too.0 in cc)
one_form Spanned Spanned program own too = refl

pub one_spelling : (form other : ProgramForm) (file another : ProgramFile) → IsSpelledIn form file → IsSpelledIn other another →
    bytes_in form file ≡ bytes_in other another → (form ≡ other) × (file ≡ another)
one_spelling form other file another is too e =
    let same : file ≡ another = ok_is file another (sym (spelled_back form file is) ∙ ap program_of e ∙ spelled_back other another too) in
    (one_form form other another.program (subst (λ (f : ProgramFile). IsOwnForm form f.program) same is.own) too.own, same)
