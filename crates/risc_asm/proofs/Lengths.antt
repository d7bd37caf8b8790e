-- No listing has more bytes than a text that is assembled: a word has at most 53 of them.
use Rattle.std.proofs.Common.{◌≡◌, ℕ, zero, suc, ◌+◌, ◌-◌, ◌*◌, ◌^◌, ◌<◌, ◌≤◌, Bool, true, false, List, [], ◌∷◌, ◌++◌, length}
use Rattle.std.proofs.Common.{length-append, Option, Some, None, Result, Ok, refl, sym, ap, subst, arith}
use Rattle.std.specs.Prelude.{◌==◌, codes, nat_lt, slice_index, IsTrue}
use Rattle.std.specs.List.{flat_map}
use Rattle.std.specs.Fmt.{decimal, digits}
use Rattle.std.proofs.lemmas.Bool.{cond_both, ltb-true, and_parts}
use Rattle.std.proofs.lemmas.Fmt.{hex_one_digit, hex_byte, length-decimal-le}
use Rattle.risc_word.specs.declared.Code.{Code}
use Rattle.risc_word.specs.declared.Code.TheVariants.{Vre, Vro, Fm1, Fm3}
use Rattle.risc_word.specs.declared.Ctl.{Ctl}
use Rattle.risc_word.specs.declared.Ends.{Ends}
use Rattle.risc_word.specs.declared.Instr.{Instr}
use Rattle.risc_word.specs.declared.Instr.TheVariants.{Write, Skip, WriteC, Jump, Sync, Write123, Skip123, Write1S23}
use Rattle.risc_word.specs.Words.{IsInstr, control_fits, counts_fit, encoded, planar_words}
use Rattle.risc_word.proofs.FirstWord.{control_parts}
use Rattle.risc_word.proofs.ReadBack.{counts_parts, line_parts, three_of}
use Rattle.page_table.specs.Grants.{Chunk, is_page, AreRising, total}
use Rattle.page_table.proofs.Placing.{total-cons}
use Rattle.machine_model.specs.Paths.{AreApart, IsProgram, IsSpan, RiscProgram, Span, all_words, begins_at_base, end_of}
use Rattle.machine_model.specs.Paths as paths
use Rattle.risc_listing.specs.Lines.{address_text, addresses_text, at_text, code_name, control_text, count_text, counts_text, data_text}
use Rattle.risc_listing.specs.Lines.{flag_text, hex, instr_line, instr_text, line_end, nibble_text, word_line}
use Rattle.risc_listing.specs.Listings.{all_word_lines, base_line, chunk_line, entry_line, fill_line, line_of, lines_by, listing, span_line}
use Rattle.risc_listing.specs.Listings.{span_lines, spelled, word_lines, words_of}
use Rattle.risc_listing.proofs.Hexadecimal.{address_digits}
use Rattle.risc_text.specs.Assembly.{IsListed}
use Rattle.risc_text.proofs.Gathering.{Fit, fit_all}
use Rattle.risc_text.proofs.Lines.{AddressesFit, fitted_parts}
use Rattle.risc_text.proofs.OneSpan.{words_of_one}
use Rattle.risc_text.proofs.Spelling.{addresses_fit, spelled_is}
use Rattle.capture_file.specs.declared.program.ProgramFile.{ProgramFile}
use Rattle.risc_asm.specs.declared.AsmError.{AsmError}
use Rattle.risc_asm.specs.Answers.{Answers, IsTold, most_bytes}
use Rattle.risc_asm.proofs.OneAnswer.{one_answer}

-- ---- fields

-- one text behind another
joined : (first second : List ℕ) (m n : ℕ) → length first ≤ m → length second ≤ n → length (first ++ second) ≤ m + n
joined first second m n few short = let sum = length-append first second in omega (arith, sum, few, short)

-- a name before a text
named : (name text : List ℕ) (m n : ℕ) → length name ≡ m → length text ≤ n → length (name ++ text) ≤ m + n
named name text m n is short = joined name text m n (omega (arith, is)) short

address_short : (n : ℕ) → n < 2 ^ 32 → length (address_text n) ≤ 8
address_short n small = let is = ap length (address_digits n small) in omega (arith, is)

at_short : (n : ℕ) → n < 2 ^ 32 → length (at_text n) ≤ 9
at_short n small = named (codes " ") (address_text n) 1 8 refl (address_short n small)

digit_short : (n : ℕ) → n < 16 → length (digits 16 false n) ≤ 1
digit_short n small = let is = ap length (hex_one_digit false n small) in omega (arith, is)

byte_short : (n : ℕ) → n < 256 → length (hex 2 n) ≤ 2
byte_short n small = let is = ap length (hex_byte false n small) in omega (arith, is)

count_short : (n : ℕ) → n < 4096 → length (count_text n) ≤ 5
count_short n small = named (codes " ") (decimal n) 1 4 refl (length-decimal-le 4 n (omega arith) (omega arith) (omega arith))

flag_short : (name : List ℕ) (b : Bool) (m : ℕ) → length name ≡ m → length (flag_text name b) ≤ m
flag_short name true m is = omega (arith, is)
flag_short name false m is = omega arith

nibble_short : (name : List ℕ) (n m : ℕ) → length name ≡ m → n < 16 → length (nibble_text name n) ≤ m + 1
nibble_short name n m is small =
    cond_both (n == 0) [] (name ++ digits 16 false n) (λ (text : List ℕ). length text ≤ m + 1) (λ _. omega arith)
    (λ _. named name (digits 16 false n) m 1 is (digit_short n small))

control_short : (ctl : Ctl) → IsTrue (control_fits ctl) → length (control_text ctl) ≤ 18
control_short ctl fit =
    let parts = control_parts ctl fit in
    joined (flag_text (codes " irq") ctl.irq) _ 4 14 (flag_short (codes " irq") ctl.irq 4 refl)
    (joined (nibble_text (codes " set=") ctl.set) _ 6 8 (nibble_short (codes " set=") ctl.set 5 refl parts.0)
    (nibble_short (codes " reset=") ctl.reset 7 refl parts.1))

data_short : (ctl : Ctl) (ends : Ends) (off : ℕ) → IsTrue (control_fits ctl) → off < 16 → length (data_text ctl ends off) ≤ 32
data_short ctl ends off fit small =
    joined (flag_text (codes " sol") ends.sol) _ 4 28 (flag_short (codes " sol") ends.sol 4 refl)
    (joined (flag_text (codes " eol") ends.eol) _ 4 24 (flag_short (codes " eol") ends.eol 4 refl)
    (joined (control_text ctl) _ 18 6 (control_short ctl fit) (nibble_short (codes " off=") off 5 refl small)))

counts_short : (counts : List ℕ) → length counts ≡ 3 → IsTrue (counts_fit counts) → length (counts_text counts) ≤ 15
counts_short counts long fit =
    let three = three_of counts long in
    let each = counts_parts counts three fit in
    subst (λ (list : List ℕ). length (counts_text list) ≤ 15) (sym three.list_is)
    (joined (count_text three.first) _ 5 10 (count_short three.first each.first_small)
    (joined (count_text three.second) _ 5 5 (count_short three.second each.second_small) (count_short three.third each.third_small)))

code_short : (waits : Code) → length (code_name waits) ≤ 3
code_short Vre = omega arith
code_short Vro = omega arith
code_short Fm1 = omega arith
code_short Fm3 = omega arith

-- ---- instructions

planar_long : (opcode : ℕ) (ctl : Ctl) (ends : Ends) (off : ℕ) (counts addresses : List ℕ) → length counts ≡ 3 →
    length (planar_words opcode ctl ends off counts addresses) ≡ 2 + length addresses
planar_long opcode ctl ends off counts addresses long =
    let three = three_of counts long in
    subst (λ (list : List ℕ). length (planar_words opcode ctl ends off list addresses) ≡ 2 + length addresses) (sym three.list_is)
    (let e : suc (suc (length addresses)) ≡ 2 + length addresses = omega arith in e)

text_short : (instr : Instr) → IsInstr instr → AddressesFit instr → length (instr_text instr) + 10 ≤ 53 * length (encoded instr)
text_short (Write ctl ends off n at) is small =
    let f = line_parts ctl off n is.0 in
    let short : length (instr_text (Write ctl ends off n at)) ≤ 51 =
    named (codes "write") _ 5 46 refl (joined (data_text ctl ends off) _ 32 14 (data_short ctl ends off f.control f.lanes)
    (joined (count_text n) (at_text at) 5 9 (count_short n f.bytes) (at_short at small))) in
    omega (arith, short)
text_short (Skip ctl ends n) is small =
    let parts = and_parts (control_fits ctl) (nat_lt n 4096) is.0 in
    let short : length (instr_text (Skip ctl ends n)) ≤ 41 =
    named (codes "skip") _ 4 37 refl
    (joined (data_text ctl ends 0) _ 32 5 (data_short ctl ends 0 parts.0 (omega arith)) (count_short n (ltb-true n 4096 parts.1))) in
    omega (arith, short)
text_short (WriteC ctl ends off n) is small =
    let f = line_parts ctl off n is.0 in
    let short : length (instr_text (WriteC ctl ends off n)) ≤ 43 =
    named (codes "writec") _ 6 37 refl
    (joined (data_text ctl ends off) _ 32 5 (data_short ctl ends off f.control f.lanes) (count_short n f.bytes)) in
    omega (arith, short)
text_short (Jump ctl target) is small =
    let short : length (instr_text (Jump ctl target)) ≤ 31 =
    named (codes "jump") _ 4 27 refl (joined (control_text ctl) (at_text target) 18 9 (control_short ctl is.0) (at_short target small)) in
    omega (arith, short)
text_short (Sync ctl resync waits) is small =
    let short : length (instr_text (Sync ctl resync waits)) ≤ 33 =
    named (codes "sync ") _ 5 28 refl (joined (code_name waits) _ 3 25 (code_short waits)
    (joined (flag_text (codes " resync") resync) (control_text ctl) 7 18 (flag_short (codes " resync") resync 7 refl)
    (control_short ctl is.0))) in
    omega (arith, short)
text_short (Write123 ctl ends off counts addrs) is small =
    let f = fitted_parts ctl off counts is.0 in
    let long = planar_long 9 ctl ends off counts addrs is.1.0 in
    let addresses = is.1.1 in
    let ats : length (addresses_text addrs) ≤ 27 =
    joined (at_text (slice_index addrs 0)) _ 9 18 (at_short (slice_index addrs 0) small.0)
    (joined (at_text (slice_index addrs 1)) _ 9 9 (at_short (slice_index addrs 1) small.1) (at_short (slice_index addrs 2) small.2))
    in
    let short : length (instr_text (Write123 ctl ends off counts addrs)) ≤ 82 =
    named (codes "write123") _ 8 74 refl (joined (data_text ctl ends off) _ 32 42 (data_short ctl ends off f.control f.lanes)
    (joined (counts_text counts) (addresses_text addrs) 15 27 (counts_short counts is.1.0 f.bytes) ats)) in
    omega (arith, short, long, addresses)
text_short (Skip123 ctl ends counts) is small =
    let parts = and_parts (control_fits ctl) (counts_fit counts) is.0 in
    let long = planar_long 10 ctl ends 0 counts [] is.1 in
    let short : length (instr_text (Skip123 ctl ends counts)) ≤ 54 =
    named (codes "skip123") _ 7 47 refl
    (joined (data_text ctl ends 0) _ 32 15 (data_short ctl ends 0 parts.0 (omega arith)) (counts_short counts is.1 parts.1)) in
    omega (arith, short, long)
text_short (Write1S23 ctl ends off counts at) is small =
    let f = fitted_parts ctl off counts is.0 in
    let long = planar_long 11 ctl ends off counts (at ∷ []) is.1 in
    let short : length (instr_text (Write1S23 ctl ends off counts at)) ≤ 65 =
    named (codes "write1s23") _ 9 56 refl (joined (data_text ctl ends off) _ 32 24 (data_short ctl ends off f.control f.lanes)
    (joined (counts_text counts) (at_text at) 15 9 (counts_short counts is.1 f.bytes) (at_short at small))) in
    omega (arith, short, long)

instr_short : (at : ℕ) (instr : Instr) → at < 2 ^ 32 → IsInstr instr → AddressesFit instr →
    length (instr_line at instr) ≤ 53 * length (encoded instr)
instr_short at instr low is small =
    let text = text_short instr is small in
    let line : length (instr_line at instr) ≤ 8 + (1 + (length (instr_text instr) + 1)) =
    joined (address_text at) _ 8 (1 + (length (instr_text instr) + 1)) (address_short at low)
    (named (codes " ") _ 1 (length (instr_text instr) + 1) refl
    (joined (instr_text instr) line_end (length (instr_text instr)) 1 (omega arith) (omega arith))) in
    omega (arith, text, line)

word_short : (at word : ℕ) → at < 2 ^ 32 → word < 2 ^ 32 → length (word_line at word) ≤ 53
word_short at word low small =
    let line : length (word_line at word) ≤ 23 =
    joined (address_text at) _ 8 15 (address_short at low)
    (named (codes " word ") _ 6 9 refl (joined (address_text word) line_end 8 1 (address_short word small) (omega arith))) in
    omega (arith, line)

-- ---- words

record IsLine (at word : ℕ) (rest : List ℕ) (found : Option (Instr × ℕ)) : Type 0 where
  few : length (line_of at word found) ≤ 53 * words_of found
  some : 1 ≤ words_of found
  within : words_of found ≤ suc (length rest)

front_short : (at word : ℕ) (rest : List ℕ) (found : Option (Instr × ℕ)) → at < 2 ^ 32 → Fit (word ∷ rest) → spelled (word ∷ rest) ≡ found →
    IsLine at word rest found
front_short at word rest None low fit is =
    record { few = let short = word_short at word low (fit 0) in omega (arith, short); some = omega arith; within = omega arith }
front_short at word rest (Some (instr, number)) low fit is =
    let known = spelled_is (word ∷ rest) instr number is in
    let number_is = known.number_is in
    let short = instr_short at instr low known.is_instr (addresses_fit instr known.rest known.is_instr (subst Fit known.words_are fit)) in
    let all = ap length known.words_are in
    let sum = length-append (encoded instr) known.rest in
    record {
      few = subst (λ (n : ℕ). length (instr_line at instr) ≤ 53 * n) (sym number_is) short;
      some = known.some;
      within = omega (arith, number_is, all, sum);
    }

line_then : (at word : ℕ) (rest : List ℕ) (found : Option (Instr × ℕ)) → IsLine at word rest found →
    ((skip : ℕ) → skip ≤ length rest → length (word_lines (at + 4) skip rest) + 53 * skip ≤ 53 * length rest) →
    length (line_of at word found ++ word_lines (at + 4) (words_of found - 1) rest) ≤ 53 * suc (length rest)
line_then at word rest found line later =
    let few = line.few in
    let some = line.some in
    let within = line.within in
    let after = later (words_of found - 1) (omega (arith, some, within)) in
    let sum = length-append (line_of at word found) (word_lines (at + 4) (words_of found - 1) rest) in
    omega (arith, few, some, within, after, sum)

words_short : (at skip : ℕ) (words : List ℕ) → at + 4 * length words ≤ 2 ^ 32 → Fit words → skip ≤ length words →
    length (word_lines at skip words) + 53 * skip ≤ 53 * length words
unfolding word_lines
words_short at zero [] ends fit within = omega arith
words_short at (suc skip) [] ends fit within = absurd (omega arith)
words_short at (suc skip) (word ∷ rest) ends fit within =
    let later = words_short (at + 4) skip rest (omega arith) (λ k. fit (suc k)) (omega arith) in omega (arith, later)
words_short at zero (word ∷ rest) ends fit within =
    let all = line_then at word rest (spelled (word ∷ rest)) (front_short at word rest (spelled (word ∷ rest)) (omega arith) fit refl)
    (λ skip few. words_short (at + 4) skip rest (omega arith) (λ k. fit (suc k)) few) in
    omega (arith, all)

-- ---- spans and chunks

span_short : (s : Span) → IsSpan s → length (span_lines s) ≤ 14 + 53 * length s.words
span_short s is =
    let ends = is.ends in
    let some = is.some in
    let lines = words_short s.at 0 s.words ends (fit_all s.words is.fit) (omega arith) in
    joined (span_line s.at) (word_lines s.at 0 s.words) 14 (53 * length s.words)
    (named (codes "span ") _ 5 9 refl (joined (address_text s.at) line_end 8 1 (address_short s.at (omega arith)) (omega arith)))
    (omega (arith, lines))

spans_short : (from : ℕ) (spans : List Span) → AreApart from spans →
    length (flat_map span_lines spans) ≤ 14 * length spans + 53 * length (paths.words_of spans)
spans_short from [] apart = omega arith
spans_short from (s ∷ rest) apart =
    let one = span_short s apart.1 in
    let later = spans_short (end_of s + 1) rest apart.2 in
    let sum = length-append (span_lines s) (flat_map span_lines rest) in
    let words = length-append s.words (paths.words_of rest) in
    omega (arith, one, later, sum, words)

chunk_short : (c : Chunk) → c.at < 2 ^ 32 → c.len < 10 ^ 8 → length (chunk_line c) ≤ 24
chunk_short c low small =
    cond_both (is_page c) _ _ (λ (line : List ℕ). length line ≤ 24)
    (λ _. let line : length (codes "page " ++ (address_text c.at ++ line_end)) ≤ 14 = named (codes "page ") _ 5 9 refl
    (joined (address_text c.at) line_end 8 1 (address_short c.at low) (omega arith)) in omega (arith, line))
    (λ _. named (codes "chunk ") _ 6 18 refl (joined (address_text c.at) _ 8 10 (address_short c.at low)
    (named (codes " ") _ 1 9 refl
    (joined (decimal c.len) line_end 8 1 (length-decimal-le 8 c.len (omega arith) small (omega arith)) (omega arith)))))

chunks_short : (from : ℕ) (chunks : List Chunk) → AreRising from chunks → total chunks ≤ 2 ^ 24 →
    length (flat_map chunk_line chunks) ≤ 24 * length chunks
chunks_short from [] rising small = omega arith
chunks_short from (c ∷ rest) rising small =
    let whole = total-cons c rest in
    let ends = rising.1.ends in
    let some = rising.1.some in
    let one = chunk_short c (omega arith) (omega (arith, whole, small)) in
    let later = chunks_short (c.at + c.len) rest rising.2 (omega (arith, whole, small)) in
    let sum = length-append (chunk_line c) (flat_map chunk_line rest) in
    omega (arith, one, later, sum)

-- ---- the listing

lines_short : (by_base : Bool) (program : RiscProgram) → IsProgram program → begins_at_base program ≡ by_base →
    length (lines_by by_base program) ≤ 15 + (14 * length program.spans + 53 * length (all_words program))
lines_short true program made is =
    let all = words_of_one program made is in
    let lines = words_short program.base 0 (all_words program) all.ends (fit_all (all_words program) all.fit) (omega arith) in
    let text = joined (base_line program.base) (word_lines program.base 0 (all_words program)) 14 (53 * length (all_words program))
    (named (codes "base ") _ 5 9 refl (joined (address_text program.base) line_end 8 1 (address_short program.base made.low) (omega arith)))
    (omega (arith, lines)) in
    omega (arith, text)
lines_short false program made is =
    let spans = spans_short 0 program.spans made.spans in
    let entry : length (entry_line program.base) ≤ 15 =
    named (codes "entry ") _ 6 9 refl
    (joined (address_text program.base) line_end 8 1 (address_short program.base made.low) (omega arith)) in
    let sum = length-append (flat_map span_lines program.spans) (entry_line program.base) in
    omega (arith, spans, entry, sum)

pub listing_short : (program : RiscProgram) (fill : ℕ) → IsListed program fill → length (listing program fill) ≤ most_bytes
listing_short program fill is =
    let made = is.made in
    let lines = lines_short (begins_at_base program) program made refl in
    let chunks = chunks_short 0 program.grants made.grants.rising made.grants.small in
    let last : length (fill_line fill) ≤ 8 =
    named (codes "fill ") _ 5 3 refl (joined (hex 2 fill) line_end 2 1 (byte_short fill is.fill_small) (omega arith)) in
    let tail = length-append (flat_map chunk_line program.grants) (fill_line fill) in
    let sum = length-append (all_word_lines program) (flat_map chunk_line program.grants ++ fill_line fill) in
    let spans = made.many in
    let words = made.few in
    let grants = made.grants.few in
    omega (arith, lines, chunks, last, tail, sum, spans, words, grants)

abbrev answered : ProgramFile → Result ProgramFile AsmError
answered file = Ok file

-- the one answer for a listing but out of memory
pub listing_assembled : (program : RiscProgram) (fill : ℕ) (answer : Result ProgramFile AsmError) → IsListed program fill →
    Answers (listing program fill) answer → IsTold answer →
    answer ≡ Ok (record { program = program; fill = fill })
listing_assembled program fill answer is fits told =
    one_answer (listing program fill) answer (answered (record { program = program; fill = fill })) fits
    (listing_short program fill is, (is, refl)) told tt
