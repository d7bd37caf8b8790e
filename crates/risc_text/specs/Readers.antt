-- What is read from the front of a line of a listing. A reader asks only for what distinguishes lines:
-- whether a text is a listing shows when what was read is listed again.
use Rattle.std.specs.Prelude.{◌≡◌, ℕ, zero, suc, ◌+◌, ◌-◌, ◌*◌, ◌/◌, ◌%◌, Bool, true, false, ◌&&◌, List, [], ◌∷◌, length, take, drop}
use Rattle.std.specs.Prelude.{Option, Some, None, if◌then◌else◌, ◌==◌, nat_lt, nat_le, codes, slice_index}
use Rattle.std.specs.Cmp.Lexicographic.{pointwise}
use Rattle.risc_word.specs.declared.Code.{Code}
use Rattle.risc_word.specs.declared.Code.TheVariants.{Vre, Vro, Fm1, Fm3}
use Rattle.risc_word.specs.declared.Ctl.{Ctl}
use Rattle.risc_word.specs.declared.Ends.{Ends}
use Rattle.risc_word.specs.declared.Instr.{Instr}
use Rattle.risc_word.specs.declared.Instr.TheVariants as instr
use Rattle.risc_text.specs.declared.Name.{Name}
use Rattle.risc_text.specs.declared.Name.TheVariants as names
use Rattle.risc_text.specs.declared.Line.{Line}
use Rattle.risc_text.specs.declared.Line.TheVariants.{Base, Span, Entry, Word, Chunk, Fill}
use Rattle.risc_text.specs.declared.Line.TheVariants as lines

-- what was read, and the text after it
abbrev pub Read : Type 0 → Type 0
Read A = Option (A × List ℕ)

infixl 10 ◌>>=◌
abbrev pub ◌>>=◌ : {A B : Type 0} → Option A → (A → Option B) → Option B
(Some x) >>= f = f x
None >>= f = None

-- a call gives this
abbrev pub Reads : {X Y : Type 0} → (X → Y) → Option X → Option Y → Type 0
Reads view (Some x) wanted = wanted ≡ Some (view x)
Reads view None wanted = wanted ≡ None

-- the text begins with these bytes
abbrev pub begins : List ℕ → List ℕ → Bool
begins name text = pointwise (λ one other. one == other) (take (length name) text) name

abbrev pub after : List ℕ → List ℕ → Option (List ℕ)
after name text = if begins name text then Some (drop (length name) text) else None

-- the number of a hexadecimal digit in lower case; what another byte gives is of no use
abbrev pub digit : ℕ → ℕ
digit byte = (byte % 16 + byte / 64 * 9) % 16

-- a hexadecimal digit more, after others of the value `n`
abbrev pub hex_digit : ℕ → List ℕ → Read ℕ
hex_digit n [] = None
hex_digit n (byte ∷ rest) = Some (n * 16 + digit byte, rest)

unfoldable pub hex_digits : ℕ → ℕ → List ℕ → Read ℕ
hex_digits zero n text = Some (n, text)
hex_digits (suc k) n text = do
  read ← hex_digit n text
  hex_digits k read.0 read.1

-- a decimal digit more, where one is there, and so many at most
abbrev pub is_decimal : ℕ → Bool
is_decimal byte = nat_le 48 byte && nat_lt byte 58

abbrev pub decimal_digit : ℕ → List ℕ → ℕ × List ℕ
decimal_digit n [] = (n, [])
decimal_digit n (byte ∷ rest) = if is_decimal byte then (n * 10 + (byte - 48), rest) else (n, byte ∷ rest)

unfoldable pub decimal_digits : ℕ → ℕ → List ℕ → ℕ × List ℕ
decimal_digits zero n text = (n, text)
decimal_digits (suc k) n text = let read = decimal_digit n text in decimal_digits k read.0 read.1

-- after a space, a count, which has twelve bits
abbrev pub if_twelve_bits : ℕ × List ℕ → Read ℕ
if_twelve_bits read = if nat_lt read.0 4096 then Some read else None

unfoldable pub count : List ℕ → Read ℕ
count text = do
  rest ← after (codes " ") text
  if_twelve_bits (decimal_digits 4 0 rest)

-- after a space, an address
unfoldable pub address : List ℕ → Read ℕ
address text = do
  rest ← after (codes " ") text
  hex_digits 8 0 rest

unfoldable pub three_counts : List ℕ → Read (List ℕ)
three_counts text = do
  first ← count text
  second ← count first.1
  third ← count second.1
  Some (first.0 ∷ second.0 ∷ third.0 ∷ [], third.1)

unfoldable pub three_addresses : List ℕ → Read (List ℕ)
three_addresses text = do
  first ← address text
  second ← address first.1
  third ← address second.1
  Some (first.0 ∷ second.0 ∷ third.0 ∷ [], third.1)

-- a word that may be missing
abbrev pub flag_of : Option (List ℕ) → List ℕ → Bool × List ℕ
flag_of (Some rest) text = (true, rest)
flag_of None text = (false, text)

unfoldable pub flag : List ℕ → List ℕ → Bool × List ℕ
flag name text = flag_of (after name text) text

-- a field of four bits, which is 0 where it is missing
abbrev pub nibble_of : Option (List ℕ) → List ℕ → Read ℕ
nibble_of (Some rest) text = hex_digits 1 0 rest
nibble_of None text = Some (0, text)

unfoldable pub nibble : List ℕ → List ℕ → Read ℕ
nibble name text = nibble_of (after name text) text

unfoldable pub control : List ℕ → Read Ctl
control text =
    let irq = flag (codes " irq") text in do
      set ← nibble (codes " set=") irq.1
      reset ← nibble (codes " reset=") set.1
      Some (record { irq = irq.0; set = set.0; reset = reset.0 }, reset.1)

unfoldable pub data_fields : List ℕ → Read (Ctl × Ends × ℕ)
data_fields text =
    let sol = flag (codes " sol") text in
    let eol = flag (codes " eol") sol.1 in do
      ctl ← control eol.1
      off ← nibble (codes " off=") ctl.1
      Some ((ctl.0, record { sol = sol.0; eol = eol.0 }, off.0), off.1)

-- the first of several words
abbrev pub one_of : {A : Type 0} → A → List ℕ → Read A → List ℕ → Read A
one_of value name other text = if begins name text then Some (value, drop (length name) text) else other

unfoldable pub code : List ℕ → Read Code
code text =
    one_of Vre (codes "vre") (one_of Vro (codes "vro") (one_of Fm1 (codes "fm1") (one_of Fm3 (codes "fm3") None text) text) text) text

-- what is after `write` and after `skip`
unfoldable pub write_name : List ℕ → Read Name
write_name text =
    one_of names.Write123 (codes "123")
    (one_of names.WriteC (codes "c")
    (one_of names.Write1S23 (codes "1s23") (Some (names.Write, text)) text) text) text

unfoldable pub skip_name : List ℕ → Read Name
skip_name text = one_of names.Skip123 (codes "123") (Some (names.Skip, text)) text

unfoldable pub name_at : List ℕ → Read Name
name_at text =
    if begins (codes "write") text then write_name (drop 5 text)
    else (if begins (codes "skip") text then skip_name (drop 4 text)
    else one_of names.Word (codes "word")
    (one_of names.Sync (codes "sync ")
    (one_of names.Jump (codes "jump") None text) text) text)

-- the fields after the name
unfoldable pub write_fields : List ℕ → Read Instr
write_fields text = do
  start ← data_fields text
  n ← count start.1
  at ← address n.1
  Some (instr.Write start.0.0 start.0.1 start.0.2 n.0 at.0, at.1)

unfoldable pub skip_fields : List ℕ → Read Instr
skip_fields text = do
  start ← data_fields text
  n ← count start.1
  Some (instr.Skip start.0.0 start.0.1 n.0, n.1)

unfoldable pub write_c_fields : List ℕ → Read Instr
write_c_fields text = do
  start ← data_fields text
  n ← count start.1
  Some (instr.WriteC start.0.0 start.0.1 start.0.2 n.0, n.1)

unfoldable pub jump_fields : List ℕ → Read Instr
jump_fields text = do
  ctl ← control text
  at ← address ctl.1
  Some (instr.Jump ctl.0 at.0, at.1)

unfoldable pub sync_fields : List ℕ → Read Instr
sync_fields text = do
  waits ← code text
  let resync = flag (codes " resync") waits.1 in do
    ctl ← control resync.1
    Some (instr.Sync ctl.0 resync.0 waits.0, ctl.1)

unfoldable pub write_123_fields : List ℕ → Read Instr
write_123_fields text = do
  start ← data_fields text
  counts ← three_counts start.1
  addresses ← three_addresses counts.1
  Some (instr.Write123 start.0.0 start.0.1 start.0.2 counts.0 addresses.0, addresses.1)

unfoldable pub skip_123_fields : List ℕ → Read Instr
skip_123_fields text = do
  start ← data_fields text
  counts ← three_counts start.1
  Some (instr.Skip123 start.0.0 start.0.1 counts.0, counts.1)

unfoldable pub write_1_s_23_fields : List ℕ → Read Instr
write_1_s_23_fields text = do
  start ← data_fields text
  counts ← three_counts start.1
  at ← address counts.1
  Some (instr.Write1S23 start.0.0 start.0.1 start.0.2 counts.0 at.0, at.1)

abbrev pub as_line : Instr × List ℕ → Read Line
as_line read = Some (lines.Instr read.0, read.1)

unfoldable pub word_field : List ℕ → Read Line
word_field text = do
  word ← address text
  Some (Word word.0, word.1)

abbrev pub fields_of : Name → List ℕ → Read Line
fields_of names.Word text = word_field text
fields_of names.Write text = write_fields text >>= as_line
fields_of names.Skip text = skip_fields text >>= as_line
fields_of names.WriteC text = write_c_fields text >>= as_line
fields_of names.Jump text = jump_fields text >>= as_line
fields_of names.Sync text = sync_fields text >>= as_line
fields_of names.Write123 text = write_123_fields text >>= as_line
fields_of names.Skip123 text = skip_123_fields text >>= as_line
fields_of names.Write1S23 text = write_1_s_23_fields text >>= as_line

-- the line of an instruction or a word, after its address
unfoldable pub words_line : List ℕ → Read Line
words_line text = do
  read ← name_at text
  fields_of read.0 read.1

unfoldable pub base_line : List ℕ → Read Line
base_line text = do
  at ← address text
  Some (Base at.0, at.1)

unfoldable pub span_line : List ℕ → Read Line
span_line text = do
  at ← address text
  Some (Span at.0, at.1)

unfoldable pub entry_line : List ℕ → Read Line
entry_line text = do
  at ← address text
  Some (Entry at.0, at.1)

unfoldable pub page_line : List ℕ → Read Line
page_line text = do
  at ← address text
  Some (Chunk at.0 4096, at.1)

unfoldable pub chunk_line : List ℕ → Read Line
chunk_line text = do
  at ← address text
  rest ← after (codes " ") at.1
  let len = decimal_digits 8 0 rest in Some (Chunk at.0 len.0, len.1)

unfoldable pub fill_line : List ℕ → Read Line
fill_line text = do
  rest ← after (codes " ") text
  fill ← hex_digits 2 0 rest
  Some (Fill fill.0, fill.1)

-- a line without its end that begins with a word
unfoldable pub named_line : List ℕ → Read Line
named_line text =
    if begins (codes "base") text then base_line (drop 4 text)
    else (if begins (codes "page") text then page_line (drop 4 text)
    else (if begins (codes "chunk") text then chunk_line (drop 5 text)
    else (if begins (codes "fill") text then fill_line (drop 4 text)
    else (if begins (codes "span") text then span_line (drop 4 text)
    else (if begins (codes "entry") text then entry_line (drop 5 text)
    else None)))))

-- a line without its end. A space after eight bytes shows that they are an address, which is passed over
unfoldable pub any_line : List ℕ → Read Line
any_line text = if slice_index text 8 == 32 then words_line (drop 9 text) else named_line text

-- what was read, where its line ends there
abbrev pub ended : Line × List ℕ → Read Line
ended read = do
  rest ← after (codes "\n") read.1
  Some (read.0, rest)

-- a line with its end
unfoldable pub line_at : List ℕ → Read Line
line_at text = any_line text >>= ended
