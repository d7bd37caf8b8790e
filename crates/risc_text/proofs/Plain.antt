-- A line of a listing has one newline, its last byte.
use Rattle.std.proofs.Common.{◌≡◌, ℕ, ◌+◌, ◌/◌, ◌%◌, ◌^◌, ◌<◌, Bool, true, false, not, List, [], ◌∷◌, ◌++◌, map, refl, sym, ap, subst}
use Rattle.std.proofs.Common.{arith, append_assoc}
use Rattle.std.specs.Prelude.{◌==◌, codes, if◌then◌else◌, nat_lt, IsTrue}
use Rattle.std.specs.Fmt.{decimal, digit_glyph, digits}
use Rattle.std.proofs.lemmas.Bool.{cond_both, ltb-true, ne_eqb, and_parts}
use Rattle.std.proofs.lemmas.Fmt.{decimal_by_steps, hex_one_digit, hex_byte}
use Rattle.risc_word.specs.declared.Code.{Code}
use Rattle.risc_word.specs.declared.Code.TheVariants.{Vre, Vro, Fm1, Fm3}
use Rattle.risc_word.specs.declared.Ctl.{Ctl}
use Rattle.risc_word.specs.declared.Ends.{Ends}
use Rattle.risc_word.specs.declared.Instr.{Instr}
use Rattle.risc_word.specs.declared.Instr.TheVariants.{Write, Skip, WriteC, Jump, Sync, Write123, Skip123, Write1S23}
use Rattle.risc_word.specs.Words.{IsInstr, control_fits, counts_fit}
use Rattle.risc_word.proofs.FirstWord.{control_parts}
use Rattle.risc_word.proofs.ReadBack.{counts_parts, line_parts, three_of}
use Rattle.page_table.specs.Grants.{Chunk, is_page}
use Rattle.risc_listing.specs.Lines.{address_text, addresses_text, at_text, code_name, control_text, count_text, counts_text, data_text}
use Rattle.risc_listing.specs.Lines.{flag_text, hex, instr_line, instr_text, line_end, nibble_text, word_line}
use Rattle.risc_listing.specs.Listings.{base_line, chunk_line, entry_line, fill_line, span_line}
use Rattle.risc_listing.proofs.Hexadecimal.{address_digits}
use Rattle.risc_text.specs.Assembly.{has_no_newline}
use Rattle.risc_text.proofs.Digits.{glyph-large}
use Rattle.risc_text.proofs.Lines.{AddressesFit, fitted_parts}

abbrev pub Plain : List ℕ → Type 0
Plain text = has_no_newline text ≡ true

both : (front back : List ℕ) → Plain front → Plain back → Plain (front ++ back)
both [] back one two = two
both (byte ∷ front) back one two =
    let parts = and_parts (not (byte == 10)) (has_no_newline front) one in
    rw parts.0 (both front back parts.1 two)

byte_then : (byte : ℕ) (rest : List ℕ) → 10 < byte → Plain rest → Plain (byte ∷ rest)
byte_then byte rest large more = let e : (byte == 10) ≡ false = ne_eqb byte 10 (λ is. omega arith) in rw e more

glyphs_plain : (ns : List ℕ) → Plain (map (λ (n : ℕ). digit_glyph false (n % 16)) ns)
glyphs_plain [] = refl
glyphs_plain (n ∷ ns) =
    let large = glyph-large (n % 16) (omega arith) in
    byte_then (digit_glyph false (n % 16)) (map (λ (n : ℕ). digit_glyph false (n % 16)) ns) (omega arith) (glyphs_plain ns)

address_plain : (n : ℕ) → n < 2 ^ 32 → Plain (address_text n)
address_plain n small =
    subst Plain (sym (address_digits n small))
    (glyphs_plain (n / 2 ^ 28 ∷ n / 2 ^ 24 ∷ n / 2 ^ 20 ∷ n / 2 ^ 16 ∷ n / 2 ^ 12 ∷ n / 2 ^ 8 ∷ n / 2 ^ 4 ∷ n ∷ []))

at_plain : (n : ℕ) → n < 2 ^ 32 → Plain (at_text n)
at_plain n small = address_plain n small

decimal_plain : (n : ℕ) → n < 2 ^ 64 → Plain (decimal n)
decimal_plain = decimal_by_steps (λ n text. Plain text)
    (λ n small. byte_then (48 + n) [] (omega arith) refl)
    (λ n ds low before. both ds ((48 + n % 10) ∷ []) before (byte_then (48 + n % 10) [] (omega arith) refl))

count_plain : (n : ℕ) → n < 2 ^ 64 → Plain (count_text n)
count_plain n small = decimal_plain n small

digit_plain : (n : ℕ) → n < 16 → Plain (digits 16 false n)
digit_plain n small =
    let large = glyph-large n small in
    subst Plain (sym (hex_one_digit false n small)) (byte_then (digit_glyph false n) [] (omega arith) refl)

fill_plain : (n : ℕ) → n < 256 → Plain (hex 2 n)
fill_plain n small =
    let one = glyph-large (n / 16) (omega arith) in
    let two = glyph-large (n % 16) (omega arith) in
    subst Plain (sym (hex_byte false n small)) (byte_then (digit_glyph false (n / 16)) (digit_glyph false (n % 16) ∷ []) (omega arith)
    (byte_then (digit_glyph false (n % 16)) [] (omega arith) refl))

flag_plain : (name : List ℕ) (b : Bool) → Plain name → Plain (flag_text name b)
flag_plain name true is = is
flag_plain name false is = refl

nibble_plain : (name : List ℕ) (n : ℕ) → Plain name → n < 16 → Plain (nibble_text name n)
nibble_plain name n is small =
    cond_both (n == 0) [] (name ++ digits 16 false n) Plain (λ _. refl) (λ _. both name (digits 16 false n) is (digit_plain n small))

control_plain : (ctl : Ctl) → IsTrue (control_fits ctl) → Plain (control_text ctl)
control_plain ctl fit =
    let parts = control_parts ctl fit in
    both (flag_text (codes " irq") ctl.irq) _ (flag_plain (codes " irq") ctl.irq refl)
    (both (nibble_text (codes " set=") ctl.set) _ (nibble_plain (codes " set=") ctl.set refl parts.0)
    (nibble_plain (codes " reset=") ctl.reset refl parts.1))

data_plain : (ctl : Ctl) (ends : Ends) (off : ℕ) → IsTrue (control_fits ctl) → off < 16 → Plain (data_text ctl ends off)
data_plain ctl ends off fit small =
    both (flag_text (codes " sol") ends.sol) _ (flag_plain (codes " sol") ends.sol refl)
    (both (flag_text (codes " eol") ends.eol) _ (flag_plain (codes " eol") ends.eol refl)
    (both (control_text ctl) _ (control_plain ctl fit) (nibble_plain (codes " off=") off refl small)))

counts_plain : (a b c : ℕ) → a < 4096 → b < 4096 → c < 4096 → Plain (counts_text (a ∷ b ∷ c ∷ []))
counts_plain a b c a_small b_small c_small =
    both (count_text a) (count_text b ++ count_text c) (count_plain a (omega arith))
    (both (count_text b) (count_text c) (count_plain b (omega arith)) (count_plain c (omega arith)))

addresses_plain : (a b c : ℕ) → a < 2 ^ 32 → b < 2 ^ 32 → c < 2 ^ 32 → Plain (addresses_text (a ∷ b ∷ c ∷ []))
addresses_plain a b c a_small b_small c_small =
    both (at_text a) (at_text b ++ at_text c) (at_plain a a_small) (both (at_text b) (at_text c) (at_plain b b_small) (at_plain c c_small))

code_plain : (waits : Code) → Plain (code_name waits)
code_plain Vre = refl
code_plain Vro = refl
code_plain Fm1 = refl
code_plain Fm3 = refl

instr_plain : (instr : Instr) → IsInstr instr → AddressesFit instr → Plain (instr_text instr)
instr_plain (Write ctl ends off n at) is small =
    let f = line_parts ctl off n is.0 in
    both (data_text ctl ends off) (count_text n ++ at_text at) (data_plain ctl ends off f.control f.lanes)
    (both (count_text n) (at_text at) (count_plain n (let k = f.bytes in omega arith)) (at_plain at small))
instr_plain (Skip ctl ends n) is small =
    let parts = and_parts (control_fits ctl) (nat_lt n 4096) is.0 in
    let bytes = ltb-true n 4096 parts.1 in
    both (data_text ctl ends 0) (count_text n) (data_plain ctl ends 0 parts.0 (omega arith)) (count_plain n (omega arith))
instr_plain (WriteC ctl ends off n) is small =
    let f = line_parts ctl off n is.0 in
    both (data_text ctl ends off) (count_text n) (data_plain ctl ends off f.control f.lanes)
    (count_plain n (let k = f.bytes in omega arith))
instr_plain (Jump ctl target) is small = both (control_text ctl) (at_text target) (control_plain ctl is.0) (at_plain target small)
instr_plain (Sync ctl resync waits) is small =
    both (code_name waits) (flag_text (codes " resync") resync ++ control_text ctl) (code_plain waits)
    (both (flag_text (codes " resync") resync) (control_text ctl) (flag_plain (codes " resync") resync refl) (control_plain ctl is.0))
instr_plain (Write123 ctl ends off counts addrs) is small =
    let f = fitted_parts ctl off counts is.0 in
    let three = three_of counts is.1.0 in
    let each = counts_parts counts three f.bytes in
    let at = three_of addrs is.1.1 in
    let at_list = at.list_is in
    let fit = rw at_list at small in
    rw (three.list_is, at_list)
    (both (data_text ctl ends off) _ (data_plain ctl ends off f.control f.lanes)
    (both (counts_text (three.first ∷ three.second ∷ three.third ∷ [])) _
    (counts_plain three.first three.second three.third each.first_small each.second_small each.third_small)
    (addresses_plain at.first at.second at.third fit.0 fit.1 fit.2)))
instr_plain (Skip123 ctl ends counts) is small =
    let parts = and_parts (control_fits ctl) (counts_fit counts) is.0 in
    let three = three_of counts is.1 in
    let each = counts_parts counts three parts.1 in
    rw three.list_is
    (both (data_text ctl ends 0) _ (data_plain ctl ends 0 parts.0 (omega arith))
    (counts_plain three.first three.second three.third each.first_small each.second_small each.third_small))
instr_plain (Write1S23 ctl ends off counts at) is small =
    let f = fitted_parts ctl off counts is.0 in
    let three = three_of counts is.1 in
    let each = counts_parts counts three f.bytes in
    rw three.list_is
    (both (data_text ctl ends off) _ (data_plain ctl ends off f.control f.lanes)
    (both (counts_text (three.first ∷ three.second ∷ three.third ∷ [])) _
    (counts_plain three.first three.second three.third each.first_small each.second_small each.third_small)
    (at_plain at small)))

-- a line: a plain text and a newline
pub record IsLine (line : List ℕ) : Type 0 where
  pub front : List ℕ
  pub is : line ≡ front ++ 10 ∷ []
  pub plain : Plain front

pub instr_line-is : (at : ℕ) (instr : Instr) → at < 2 ^ 32 → IsInstr instr → AddressesFit instr → IsLine (instr_line at instr)
instr_line-is at instr at_small is small = record {
  front = address_text at ++ (codes " " ++ instr_text instr);
  is = sym (append_assoc (address_text at) (codes " " ++ instr_text instr) (10 ∷ []));
  plain = both (address_text at) (codes " " ++ instr_text instr) (address_plain at at_small) (instr_plain instr is small);
}

pub word_line-is : (at word : ℕ) → at < 2 ^ 32 → word < 2 ^ 32 → IsLine (word_line at word)
word_line-is at word at_small small = record {
  front = address_text at ++ (codes " word " ++ address_text word);
  is = sym (append_assoc (address_text at) (codes " word " ++ address_text word) (10 ∷ []));
  plain = both (address_text at) (codes " word " ++ address_text word) (address_plain at at_small) (address_plain word small);
}

pub span_line-is : (at : ℕ) → at < 2 ^ 32 → IsLine (span_line at)
span_line-is at small = record { front = codes "span " ++ address_text at; is = refl; plain = address_plain at small }

pub entry_line-is : (entry : ℕ) → entry < 2 ^ 32 → IsLine (entry_line entry)
entry_line-is entry small = record { front = codes "entry " ++ address_text entry; is = refl; plain = address_plain entry small }

pub base_line-is : (base : ℕ) → base < 2 ^ 32 → IsLine (base_line base)
base_line-is base small = record { front = codes "base " ++ address_text base; is = refl; plain = address_plain base small }

chunk_by : (test : Bool) (c : Chunk) → c.at < 2 ^ 32 → c.len < 2 ^ 64 →
    IsLine (if test then codes "page " ++ (address_text c.at ++ line_end)
    else codes "chunk " ++ (address_text c.at ++ (codes " " ++ (decimal c.len ++ line_end))))
chunk_by true c small short = record { front = codes "page " ++ address_text c.at; is = refl; plain = address_plain c.at small }
chunk_by false c small short = record {
  front = codes "chunk " ++ (address_text c.at ++ (codes " " ++ decimal c.len));
  is = ap (λ (text : List ℕ). codes "chunk " ++ text) (sym (append_assoc (address_text c.at) (codes " " ++ decimal c.len) (10 ∷ [])));
  plain = both (address_text c.at) (codes " " ++ decimal c.len) (address_plain c.at small) (decimal_plain c.len short);
}

pub chunk_line-is : (c : Chunk) → c.at < 2 ^ 32 → c.len < 2 ^ 64 → IsLine (chunk_line c)
chunk_line-is c small short = chunk_by (is_page c) c small short

pub fill_line-is : (fill : ℕ) → fill < 256 → IsLine (fill_line fill)
fill_line-is fill small = record { front = codes "fill " ++ hex 2 fill; is = refl; plain = fill_plain fill small }
