-- What is reported of the fields of a description, in words. Numbers are decimal, addresses have eight hexadecimal digits.
use Rattle.std.specs.Prelude.{ℕ, List, ◌++◌, codes}
use Rattle.std.specs.List.{flat_map}
use Rattle.std.specs.Fmt.{decimal}
use Rattle.risc_listing.specs.Lines.{address_text, code_name, control_text, line_end}
use Rattle.fifo_model.specs.declared.Queue.{Queue}
use Rattle.fifo_model.specs.declared.Queue.TheVariants.{One, Two, Three}
use Rattle.pixel_layout.specs.declared.Parity.{Parity}
use Rattle.pixel_layout.specs.declared.Parity.TheVariants.{Top, Bottom}
use Rattle.machine_model.specs.Paths.{RiscProgram}
use Rattle.capture_desc.specs.declared.desc.Desc.{Desc}
use Rattle.picture_model.specs.Described.{fields_of}
use Rattle.check_model.specs.declared.Line.{Line}
use Rattle.check_model.specs.declared.Line.TheVariants as line
use Rattle.check_model.specs.declared.Closing.{Closing}
use Rattle.check_model.specs.declared.Closing.TheVariants as closing
use Rattle.check_model.specs.declared.Why.{Why}
use Rattle.check_model.specs.declared.Why.TheVariants as why
use Rattle.check_model.specs.declared.Verdict.{Verdict}
use Rattle.check_model.specs.declared.Verdict.TheVariants.{Shown, Differs}
use Rattle.check_model.specs.Verdicts.{verdict}

abbrev pub field_name : Parity → List ℕ
field_name Top = codes "top"
field_name Bottom = codes "bottom"

abbrev pub line_words : Line → List ℕ
line_words (line.SkippedVbi number) = codes "skipped vbi " ++ decimal number
line_words (line.Vbi number) = codes "vbi " ++ decimal number
line_words (line.Skipped number) = codes "skipped " ++ decimal number
line_words (line.Row row) = codes "row " ++ decimal row

abbrev pub queue_words : Queue → List ℕ
queue_words One = codes "queue 1"
queue_words Two = codes "queue 2"
queue_words Three = codes "queue 3"

-- a line on a queue
abbrev pub on_line : Line → Queue → List ℕ
on_line l q = line_words l ++ (codes ", " ++ queue_words q)

abbrev pub why_words : Why → List ℕ
why_words (why.NoSync code) = codes "no sync " ++ code_name code
why_words why.NoResync = codes "no resync"
why_words why.NoNextField = codes "no next field"
why_words why.WriteC = codes "writec"
why_words why.LanesOff = codes "lanes off"
why_words (why.SyncAwaited code) = codes "sync " ++ (code_name code ++ codes " awaited")
why_words (why.ByteAwaited l q byte) = on_line l q ++ (codes ": byte " ++ (decimal byte ++ codes " awaited"))
why_words (why.PlaceAwaited l q byte address) =
    on_line l q ++ (codes ": byte " ++ (decimal byte ++ (codes " at " ++ (address_text address ++ codes " awaited"))))
why_words (why.NoPlaceAwaited l q byte) = on_line l q ++ (codes ": byte " ++ (decimal byte ++ codes " without a place awaited"))
why_words (why.NoSolAwaited l q byte) = on_line l q ++ (codes ": no sol awaited at byte " ++ decimal byte)
why_words (why.SolAwaited l q) = on_line l q ++ codes ": sol awaited"
why_words (why.NothingMore q) = queue_words q ++ codes ": nothing awaited"
why_words (why.EolAwaited l q) = on_line l q ++ codes ": eol awaited"
why_words (why.EarlyEol l q byte bytes) =
    on_line l q ++ (codes ": eol at byte " ++ (decimal byte ++ (codes " of " ++ decimal bytes)))
why_words why.NothingAwaited = codes "nothing awaited"
why_words why.Unread = codes "no instruction"

abbrev pub closing_words : Closing → List ℕ
closing_words (closing.Jump ctl) = codes "jump" ++ control_text ctl
closing_words closing.Sync = codes "sync"

abbrev pub verdict_words : Verdict → List ℕ
verdict_words (Shown begin end count ends) =
    codes "shown from " ++ (address_text begin ++ (codes " to " ++ (address_text end ++ (codes ", "
    ++ (decimal count ++ (codes " instructions, " ++ closing_words ends))))))
verdict_words (Differs at cause) = codes "differs at " ++ (address_text at ++ (codes ": " ++ why_words cause))

-- the line of a field
abbrev pub verdict_line : Parity → Verdict → List ℕ
verdict_line field said = field_name field ++ (codes ": " ++ (verdict_words said ++ line_end))

-- a line for each described field, top first
abbrev pub check_text : RiscProgram → Desc → List ℕ
check_text program d = flat_map (λ field. verdict_line field (verdict program d field)) (fields_of d.fields)
