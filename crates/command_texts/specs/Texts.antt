-- What is printed: the text of each answer, and the report. Numbers and places are decimal; bytes have two hexadecimal
-- digits, nibbles one and addresses eight, or nine for 2^32.
use Rattle.std.specs.Prelude.{ℕ, false, List, [], ◌∷◌, ◌++◌, codes, slice_index}
use Rattle.std.specs.List.{flat_map}
use Rattle.std.specs.Fmt.{decimal, digits}
use Rattle.risc_listing.specs.Lines.{hex, address_text, line_end}
use Rattle.bt878_words.specs.declared.UsageFault.{UsageFault}
use Rattle.bt878_words.specs.declared.UsageFault.TheVariants.{NoCommand, UnknownCommand, WordCount, Number, SameName}
use Rattle.machine_model.specs.declared.Cause.{Cause}
use Rattle.machine_model.specs.declared.Cause.TheVariants.{Cut, Reserved, SyncCode, JumpOut, NoTarget, Wrap, Ungranted}
use Rattle.dma_machine.specs.declared.Report.{Report}
use Rattle.capture_file.specs.declared.Input.{Input}
use Rattle.capture_file.specs.declared.Input.TheVariants as input
use Rattle.capture_file.specs.declared.FileKind.{FileKind}
use Rattle.capture_file.specs.declared.FileKind.TheVariants as kind
use Rattle.capture_desc.specs.declared.fault.Key.{Key}
use Rattle.capture_desc.specs.declared.fault.DescFault.{DescFault}
use Rattle.capture_desc.specs.declared.fault.DescFault.TheVariants.{NotToml, Unknown, Missing, WrongKind, OutOfRange}
use Rattle.capture_desc.specs.Keys.{name_of}
use Rattle.picture_model.specs.Words.{geometry_words}
use Rattle.picture_model.specs.declared.BuildFault.{BuildFault}
use Rattle.picture_model.specs.declared.BuildFault.TheVariants as geometry
use Rattle.chain_model.specs.Words.{chain_words}
use Rattle.ring_compile.specs.declared.fault.RingKey.{RingKey}
use Rattle.ring_compile.specs.declared.fault.RingFault.{RingFault}
use Rattle.ring_compile.specs.declared.fault.RingFault.TheVariants as ring
use Rattle.ring_compile.specs.Files as ring_keys
use Rattle.risc_asm.specs.Words.{listing_words}
use Rattle.command_texts.specs.declared.answer.Answer.{Answer}
use Rattle.command_texts.specs.declared.answer.Answer.TheVariants.{Done, Usage, ReadFault, WriteFault, Malformed, BadDesc, BadGeometry}
use Rattle.command_texts.specs.declared.answer.Answer.TheVariants.{BadChain, BadRing, BadText, Rejected, Differs, NoMemory}
use Rattle.command_texts.specs.declared.texts.RefusalText.{RefusalText}
use Rattle.command_texts.specs.declared.texts.RefusalText.TheVariants.{Ready, Short, Made}

abbrev pub byte_text : ℕ → List ℕ
byte_text n = hex 2 n

abbrev pub nibble_text : ℕ → List ℕ
nibble_text n = digits 16 false n

abbrev pub usage_words : UsageFault → List ℕ
usage_words NoCommand = codes "no command"
usage_words UnknownCommand = codes "unknown command"
usage_words WordCount = codes "wrong number of words"
usage_words Number = codes "bad number"
usage_words SameName = codes "same name"

abbrev pub input_words : Input → List ℕ
input_words input.Program = codes "program file"
input_words input.Stream = codes "stream file"
input_words input.Desc = codes "description"
input_words input.Ring = codes "ring file"

abbrev pub kind_words : FileKind → List ℕ
kind_words kind.Magic = codes "magic"
kind_words kind.Short = codes "short"
kind_words kind.Count = codes "count"
kind_words kind.Base = codes "base"
kind_words kind.Page = codes "page"
kind_words kind.Order = codes "order"
kind_words kind.Overlap = codes "overlap"
kind_words (kind.Tag byte) = codes "tag " ++ byte_text byte
kind_words (kind.Status byte) = codes "status " ++ byte_text byte
kind_words (kind.Code byte) = codes "code " ++ byte_text byte
kind_words (kind.Enable byte) = codes "enable " ++ byte_text byte
kind_words kind.AfterEnd = codes "after end"
kind_words kind.TooLong = codes "too long"
kind_words kind.TooManyTurns = codes "too many turns"
kind_words (kind.Trigger byte) = codes "trigger " ++ byte_text byte
kind_words kind.Length = codes "length"
kind_words kind.Pages = codes "pages"
kind_words (kind.Slot byte) = codes "slot " ++ byte_text byte
kind_words (kind.Buffer byte) = codes "buffer " ++ byte_text byte
kind_words kind.Entry = codes "entry"

abbrev pub cause_words : Cause → List ℕ
cause_words Cut = codes "cut"
cause_words (Reserved opcode) = codes "reserved " ++ nibble_text opcode
cause_words (SyncCode code) = codes "sync code " ++ nibble_text code
cause_words (JumpOut address) = codes "jump out " ++ address_text address
cause_words NoTarget = codes "no target"
cause_words Wrap = codes "wrap"
cause_words (Ungranted address) = codes "ungranted " ++ address_text address

-- a fault of a file of keys: the text begins with the file's name, and a key is printed as it is in the file
abbrev pub key_text : List ℕ → List ℕ → List ℕ → List ℕ
key_text file fault key = file ++ (codes ": " ++ (fault ++ (codes " key " ++ (key ++ line_end))))

abbrev pub not_toml_text : List ℕ → List ℕ
not_toml_text file = file ++ codes ": not toml\n"

-- a fault of a description
abbrev pub description_key_text : List ℕ → Key → List ℕ
description_key_text fault key = key_text (codes "description") fault (name_of key)

abbrev pub desc_text : DescFault → List ℕ
desc_text NotToml = not_toml_text (codes "description")
desc_text (Unknown name) = key_text (codes "description") (codes "unknown") name
desc_text (Missing key) = description_key_text (codes "missing") key
desc_text (WrongKind key) = description_key_text (codes "wrong kind of") key
desc_text (OutOfRange key) = description_key_text (codes "out of range") key

-- a fault of a ring file: of the text and its keys as that of a description, of the ring's place as that of a geometry
abbrev pub ring_key_text : List ℕ → RingKey → List ℕ
ring_key_text fault key = key_text (codes "ring") fault (ring_keys.name_of key)

abbrev pub ring_place_text : BuildFault → List ℕ
ring_place_text fault = codes "ring: " ++ (geometry_words fault ++ line_end)

abbrev pub ring_text : RingFault → List ℕ
ring_text ring.NotToml = not_toml_text (codes "ring")
ring_text (ring.Unknown name) = key_text (codes "ring") (codes "unknown") name
ring_text (ring.Missing key) = ring_key_text (codes "missing") key
ring_text (ring.WrongKind key) = ring_key_text (codes "wrong kind of") key
ring_text (ring.OutOfRange key) = ring_key_text (codes "out of range") key
ring_text (ring.PageUnaligned number) = ring_place_text (geometry.PageUnaligned number)
ring_text (ring.PageTwice number) = ring_place_text (geometry.PageTwice number)
ring_text (ring.TooFewPages need have) = ring_place_text (geometry.TooFewPages need have)
ring_text ring.ProgramBase = ring_place_text geometry.ProgramBase
ring_text ring.ProgramOnPage = ring_place_text geometry.ProgramOnPage

-- what an answer prints; Done has its command's text, and at WriteFault nothing more is printed
abbrev pub answer_text : Answer → List ℕ
answer_text Done = []
answer_text (Usage fault) = codes "usage: " ++ (usage_words fault ++ line_end)
answer_text ReadFault = codes "read fault\n"
answer_text WriteFault = []
answer_text (Malformed file fault) =
    input_words file ++ (codes ": " ++ (kind_words fault.kind ++ (codes " at " ++ (decimal fault.at ++ line_end))))
answer_text (BadDesc fault) = desc_text fault
answer_text (BadGeometry fault) = codes "geometry: " ++ (geometry_words fault ++ line_end)
answer_text (BadChain fault) = codes "chain: " ++ (chain_words fault ++ line_end)
answer_text (BadRing fault) = ring_text fault
answer_text (BadText fault) = codes "listing: " ++ (listing_words fault ++ line_end)
answer_text (Rejected at nth cause) =
    codes "rejected at " ++ (address_text at ++ (codes ", step " ++ (decimal nth
    ++ (codes ": " ++ (cause_words cause ++ line_end)))))
answer_text (Differs text) = text
answer_text NoMemory = codes "no memory\n"

-- the bytes of a text that is ready, or of one that was made
abbrev pub refusal_bytes : RefusalText → List ℕ
refusal_bytes (Ready text) = text.now
refusal_bytes (Short text) = text
refusal_bytes (Made text) = text.items

-- a report: the turns taken, the bytes stored, the pushes lost and INT_STAT
abbrev pub lost_words : List ℕ → List ℕ
lost_words lost =
    decimal (slice_index lost 0) ++ (codes " " ++ (decimal (slice_index lost 1) ++ (codes " "
    ++ (decimal (slice_index lost 2) ++ (codes " " ++ decimal (slice_index lost 3))))))

abbrev pub report_text : Report → List ℕ
report_text r =
    codes "turns " ++ (decimal r.turns ++ (codes "\nmoved " ++ (decimal r.moved
    ++ (codes "\noverruns " ++ (lost_words r.overruns ++ (codes "\nstatus " ++ (hex 8 r.int_stat ++ line_end)))))))

-- what `ring` prints: the number of block ends, and then the report
abbrev pub blocks_text : ℕ → Report → List ℕ
blocks_text blocks r = codes "blocks " ++ (decimal blocks ++ (line_end ++ report_text r))

-- what `verify` prints of a sound program
abbrev pub accepted_text : List ℕ
accepted_text = codes "accepted\n"

-- what `compile` and `assemble` print: how many words and chunks the program has; and what `make` prints
abbrev pub built_text : ℕ → ℕ → List ℕ
built_text words pages = codes "words " ++ (decimal words ++ (codes " pages " ++ (decimal pages ++ line_end)))

abbrev pub made_text : ℕ → ℕ → List ℕ
made_text fields entries = codes "fields " ++ (decimal fields ++ (codes " entries " ++ (decimal entries ++ line_end)))

-- what `--help` prints, line by line
abbrev pub help_lines : List (List ℕ)
help_lines =
    codes "bt878 compiles, checks and runs RISC capture programs of the Bt878." ∷
    codes "" ∷
    codes "  bt878 list PROG                         print a program's listing" ∷
    codes "  bt878 assemble TEXT PROG                make the program of a listing" ∷
    codes "  bt878 verify PROG                       check that a program is safe" ∷
    codes "  bt878 check PROG DESC                   check a program against a description" ∷
    codes "  bt878 compile DESC PROG                 make the program of a description" ∷
    codes "  bt878 make DESC SEED FRAMES STREAM      make a stream for a description" ∷
    codes "  bt878 run PROG STREAM IMAGE             run a program on a stream" ∷
    codes "  bt878 trace PROG STREAM                 print what each step of a run did" ∷
    codes "  bt878 capture DESC STREAM PROG IMAGE    compile a description and run it" ∷
    codes "  bt878 damage DESC STREAM                print which rows came whole" ∷
    codes "  bt878 ring RING STREAM PROG IMAGE       make and run a ring of blocks" ∷
    codes "  bt878 chain DESC1 DESC2 STREAM IMAGE    run a loop with two buffers" ∷
    codes "  bt878 --help                            print this" ∷
    codes "  bt878 --version                         print the version" ∷
    codes "" ∷
    codes "Status: 0 done, 1 a program or a description has a fault or differs," ∷
    codes "2 wrong words, 3 a malformed file, 4 an input can't be read," ∷
    codes "5 an output can't be written, 6 out of memory, 8 a word that is no text." ∷
    codes "" ∷
    codes "The manual is bt878(1)." ∷
    []

abbrev pub help_text : List ℕ
help_text = flat_map (λ line. line ++ line_end) help_lines

-- what `--version` prints
abbrev pub version_text : List ℕ
version_text = codes "bt878 0.1.0\n"
