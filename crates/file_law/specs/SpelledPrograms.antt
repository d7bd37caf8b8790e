-- The encoding of a program file in each form.
use Rattle.std.specs.Prelude.{◌≡◌, ℕ, ◌<◌, Bool, true, false, List}
use Rattle.std.specs.List.{list_all}
use Rattle.page_table.specs.Grants.{is_page}
use Rattle.machine_model.specs.Paths.{begins_at, RiscProgram, IsProgram}
use Rattle.capture_file.specs.declared.program.Layout.{Layout}
use Rattle.capture_file.specs.declared.program.Layout.TheVariants.{Paged, Chunked}
use Rattle.capture_file.specs.declared.program.ProgramForm.{ProgramForm}
use Rattle.capture_file.specs.declared.program.ProgramForm.TheVariants.{Based, Spanned}
use Rattle.capture_file.specs.declared.program.ProgramFile.{ProgramFile}
use Rattle.capture_file.specs.Programs.{spelled_as}

-- the chunks of BRP1 are all pages, or there are none; BRP2 has any others
abbrev pub only_pages : Layout → Bool
only_pages Paged = true
only_pages Chunked = false

-- BRP1 and BRP2 are the forms of a program that has no span, or one alone that begins at the entry; BRP3 is that of any other
abbrev pub IsOwnForm : ProgramForm → RiscProgram → Type 0
IsOwnForm (Based layout) program = (begins_at program.base program.spans ≡ true) × (list_all is_page program.grants ≡ only_pages layout)
IsOwnForm Spanned program = begins_at program.base program.spans ≡ false

-- a program that can be made, with a fill, in the form that is its own
pub record IsSpelledIn (form : ProgramForm) (file : ProgramFile) : Type 0 where
  pub own : IsOwnForm form file.program
  pub made : IsProgram file.program
  pub fill : file.fill < 256

abbrev pub bytes_in : ProgramForm → ProgramFile → List ℕ
bytes_in form file = spelled_as form file.program file.fill

-- bytes that spell a program in some form
abbrev pub Spells : List ℕ → ProgramFile → Type 0
Spells bytes file = (form : ProgramForm) × IsSpelledIn form file × (bytes ≡ bytes_in form file)
