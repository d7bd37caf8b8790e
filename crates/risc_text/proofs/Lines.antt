-- Each line of a listing is read back.
use Rattle.std.proofs.Common.{◌≡◌, ℕ, ◌/◌, ◌%◌, ◌^◌, ◌<◌, Bool, true, false, List, [], ◌∷◌, ◌++◌, Some, refl, sym, ap, ◌∙◌, arith}
use Rattle.std.proofs.Common.{append_assoc}
use Rattle.std.specs.Prelude.{◌==◌, ◌&&◌, nat_lt, codes, if◌then◌else◌, slice_index, IsTrue}
use Rattle.std.specs.Fmt.{decimal, digit_glyph}
use Rattle.std.proofs.lemmas.Fmt.{hex_byte}
use Rattle.std.proofs.lemmas.Bool.{and_parts, ltb-true, eqb-true, ne_eqb}
use Rattle.risc_word.specs.declared.Code.{Code}
use Rattle.risc_word.specs.declared.Code.TheVariants.{Vre, Vro, Fm1, Fm3}
use Rattle.risc_word.specs.declared.Ctl.{Ctl}
use Rattle.risc_word.specs.declared.Ends.{Ends}
use Rattle.risc_word.specs.declared.Instr.{Instr}
use Rattle.risc_word.specs.declared.Instr.TheVariants.{Write, Skip, WriteC, Jump, Sync, Write123, Skip123, Write1S23}
use Rattle.risc_word.specs.Words.{IsInstr, control_fits, counts_fit}
use Rattle.risc_word.proofs.FirstWord.{control_parts}
use Rattle.risc_word.proofs.ReadBack.{counts_parts, line_parts, three_of}
use Rattle.risc_listing.specs.Lines.{address_text, addresses_text, at_text, code_name, control_text, count_text, counts_text, data_text}
use Rattle.risc_listing.specs.Lines.{flag_text, hex, instr_line, instr_text, line_end, word_line}
use Rattle.risc_text.specs.declared.Line.{Line}
use Rattle.risc_text.specs.declared.Line.TheVariants as lines
use Rattle.risc_text.specs.declared.Name.{Name}
use Rattle.risc_text.specs.declared.Name.TheVariants as names
use Rattle.risc_text.specs.Readers.{Read, after, address, any_line, named_line, base_line, span_line, entry_line, chunk_line, fill_line}
use Rattle.risc_text.specs.Readers.{decimal_digits, page_line, code, control, count, data_fields, fields_of, flag}
use Rattle.risc_text.specs.Readers.{as_line, jump_fields, line_at, name_at, skip_name, write_name, skip_123_fields, skip_fields}
use Rattle.risc_text.specs.Readers.{sync_fields, three_addresses, three_counts, word_field, words_line}
use Rattle.risc_text.specs.Readers.{write_123_fields, write_1_s_23_fields, write_c_fields, write_fields, ◌>>=◌}
use Rattle.page_table.specs.Grants.{Chunk, is_page}
use Rattle.risc_listing.specs.Listings as listings
use Rattle.risc_listing.proofs.Hexadecimal.{address_digits}
use Rattle.risc_text.proofs.Digits.{byte_back, glyph-large, number_back}
use Rattle.risc_text.proofs.Fields.{NoData, Spaced, address_is_no_field, addresses_back, addresses_grouped, addresses_then, at_back}
use Rattle.risc_text.proofs.Fields.{control_back, control_grouped, control_then, count_back}
use Rattle.risc_text.proofs.Fields.{count_is_no_field, counts_back, counts_grouped, counts_then, data_back, data_grouped, data_spaced}
use Rattle.risc_text.proofs.Fields.{data_then, flag_back, control_not}

abbrev Data : Type 0
Data = Ctl × Ends × ℕ

-- ---- the fields of each instruction, before the end of its line

module _ (ctl : Ctl) (ends : Ends) (off : ℕ) (rest : List ℕ) (control_is : IsTrue (control_fits ctl)) (off_small : off < 16) where
  data_is : (text : List ℕ) → NoData text → data_fields (data_then ctl ends off text) ≡ Some ((ctl, ends, off), text)
  data_is text missing = let parts = control_parts ctl control_is in data_back ctl ends off text parts.0 parts.1 off_small missing

  write_back : (n at : ℕ) → n < 4096 → at < 2 ^ 32 →
      write_fields (data_then ctl ends off (count_text n ++ (at_text at ++ 10 ∷ rest))) ≡ Some (Write ctl ends off n at, 10 ∷ rest)
  unfolding write_fields
  write_back n at small at_small =
      ap (λ found. found >>= (λ (start : Data × List ℕ). count start.1
      >>= (λ (n : ℕ × List ℕ). address n.1 >>= (λ (at : ℕ × List ℕ). Some (Write start.0.0 start.0.1 start.0.2 n.0 at.0, at.1)))))
      (data_is (count_text n ++ (at_text at ++ 10 ∷ rest)) (count_is_no_field n (at_text at ++ 10 ∷ rest) small))
      ∙ ap (λ found. found >>= (λ (n : ℕ × List ℕ). address n.1 >>= (λ (at : ℕ × List ℕ). Some (Write ctl ends off n.0 at.0, at.1))))
      (count_back n 32 (address_text at ++ 10 ∷ rest) small refl)
      ∙ ap (λ found. found >>= (λ (at : ℕ × List ℕ). Some (Write ctl ends off n at.0, at.1))) (at_back at (10 ∷ rest) at_small)

  write_c_back : (n : ℕ) → n < 4096 →
      write_c_fields (data_then ctl ends off (count_text n ++ 10 ∷ rest)) ≡ Some (WriteC ctl ends off n, 10 ∷ rest)
  unfolding write_c_fields
  write_c_back n small =
      ap (λ found. found
      >>= (λ (start : Data × List ℕ). count start.1 >>= (λ (n : ℕ × List ℕ). Some (WriteC start.0.0 start.0.1 start.0.2 n.0, n.1))))
      (data_is (count_text n ++ 10 ∷ rest) (count_is_no_field n (10 ∷ rest) small))
      ∙ ap (λ found. found >>= (λ (n : ℕ × List ℕ). Some (WriteC ctl ends off n.0, n.1))) (count_back n 10 rest small refl)

  skip_back : (n : ℕ) → n < 4096 → skip_fields (data_then ctl ends off (count_text n ++ 10 ∷ rest)) ≡ Some (Skip ctl ends n, 10 ∷ rest)
  unfolding skip_fields
  skip_back n small =
      ap (λ found. found >>= (λ (start : Data × List ℕ). count start.1 >>= (λ (n : ℕ × List ℕ). Some (Skip start.0.0 start.0.1 n.0, n.1))))
      (data_is (count_text n ++ 10 ∷ rest) (count_is_no_field n (10 ∷ rest) small))
      ∙ ap (λ found. found >>= (λ (n : ℕ × List ℕ). Some (Skip ctl ends n.0, n.1))) (count_back n 10 rest small refl)

  module _ (a b c : ℕ) (a_small : a < 4096) (b_small : b < 4096) (c_small : c < 4096) where
    counts_is_no_field : (text : List ℕ) → NoData (counts_then a b c text)
    counts_is_no_field text = count_is_no_field a (count_text b ++ (count_text c ++ text)) a_small

    write_123_back : (p q r : ℕ) → p < 2 ^ 32 → q < 2 ^ 32 → r < 2 ^ 32 →
        write_123_fields (data_then ctl ends off (counts_then a b c (addresses_then p q r (10 ∷ rest))))
        ≡ Some (Write123 ctl ends off (a ∷ b ∷ c ∷ []) (p ∷ q ∷ r ∷ []), 10 ∷ rest)
    unfolding write_123_fields
    write_123_back p q r p_small q_small r_small =
        ap (λ found. found >>= (λ (start : Data × List ℕ). three_counts start.1 >>= (λ (counts : List ℕ × List ℕ). three_addresses counts.1
        >>= (λ (at : List ℕ × List ℕ). Some (Write123 start.0.0 start.0.1 start.0.2 counts.0 at.0, at.1)))))
        (data_is (counts_then a b c (addresses_then p q r (10 ∷ rest))) (counts_is_no_field (addresses_then p q r (10 ∷ rest))))
        ∙ ap (λ found. found >>= (λ (counts : List ℕ × List ℕ). three_addresses counts.1
        >>= (λ (at : List ℕ × List ℕ). Some (Write123 ctl ends off counts.0 at.0, at.1))))
        (counts_back a b c 32 (address_text p ++ (at_text q ++ (at_text r ++ 10 ∷ rest))) a_small b_small c_small refl)
        ∙ ap (λ found. found >>= (λ (at : List ℕ × List ℕ). Some (Write123 ctl ends off (a ∷ b ∷ c ∷ []) at.0, at.1)))
        (addresses_back p q r (10 ∷ rest) p_small q_small r_small)

    skip_123_back : skip_123_fields (data_then ctl ends off (counts_then a b c (10 ∷ rest)))
        ≡ Some (Skip123 ctl ends (a ∷ b ∷ c ∷ []), 10 ∷ rest)
    unfolding skip_123_fields
    skip_123_back =
        ap (λ found. found >>= (λ (start : Data × List ℕ). three_counts start.1
        >>= (λ (counts : List ℕ × List ℕ). Some (Skip123 start.0.0 start.0.1 counts.0, counts.1))))
        (data_is (counts_then a b c (10 ∷ rest)) (counts_is_no_field (10 ∷ rest)))
        ∙ ap (λ found. found >>= (λ (counts : List ℕ × List ℕ). Some (Skip123 ctl ends counts.0, counts.1)))
        (counts_back a b c 10 rest a_small b_small c_small refl)

    write_1_s_23_back : (at : ℕ) → at < 2 ^ 32 → write_1_s_23_fields (data_then ctl ends off (counts_then a b c (at_text at ++ 10 ∷ rest)))
        ≡ Some (Write1S23 ctl ends off (a ∷ b ∷ c ∷ []) at, 10 ∷ rest)
    unfolding write_1_s_23_fields
    write_1_s_23_back at at_small =
        ap (λ found. found >>= (λ (start : Data × List ℕ). three_counts start.1 >>= (λ (counts : List ℕ × List ℕ). address counts.1
        >>= (λ (at : ℕ × List ℕ). Some (Write1S23 start.0.0 start.0.1 start.0.2 counts.0 at.0, at.1)))))
        (data_is (counts_then a b c (at_text at ++ 10 ∷ rest)) (counts_is_no_field (at_text at ++ 10 ∷ rest)))
        ∙ ap (λ found. found
        >>= (λ (counts : List ℕ × List ℕ). address counts.1 >>= (λ (at : ℕ × List ℕ). Some (Write1S23 ctl ends off counts.0 at.0, at.1))))
        (counts_back a b c 32 (address_text at ++ 10 ∷ rest) a_small b_small c_small refl)
        ∙ ap (λ found. found >>= (λ (at : ℕ × List ℕ). Some (Write1S23 ctl ends off (a ∷ b ∷ c ∷ []) at.0, at.1)))
        (at_back at (10 ∷ rest) at_small)

jump_back : (ctl : Ctl) (target : ℕ) (rest : List ℕ) → IsTrue (control_fits ctl) → target < 2 ^ 32 →
    jump_fields (control_then ctl (at_text target ++ 10 ∷ rest)) ≡ Some (Jump ctl target, 10 ∷ rest)
unfolding jump_fields
jump_back ctl target rest control_is small =
    let parts = control_parts ctl control_is in
    ap (λ found. found >>= (λ (ctl : Ctl × List ℕ). address ctl.1 >>= (λ (at : ℕ × List ℕ). Some (Jump ctl.0 at.0, at.1))))
    (control_back ctl (at_text target ++ 10 ∷ rest) parts.0 parts.1 (address_is_no_field target (10 ∷ rest) small))
    ∙ ap (λ found. found >>= (λ (at : ℕ × List ℕ). Some (Jump ctl at.0, at.1))) (at_back target (10 ∷ rest) small)

code_back : (waits : Code) (rest : List ℕ) → code (code_name waits ++ rest) ≡ Some (waits, rest)
unfolding code
code_back Vre rest = refl
code_back Vro rest = refl
code_back Fm1 rest = refl
code_back Fm3 rest = refl

sync_from : Code → Bool × List ℕ → Read Instr
sync_from waits resync = control resync.1 >>= (λ (ctl : Ctl × List ℕ). Some (Sync ctl.0 resync.0 waits, ctl.1))

sync_back : (ctl : Ctl) (resync : Bool) (waits : Code) (rest : List ℕ) → IsTrue (control_fits ctl) →
    sync_fields (code_name waits ++ (flag_text (codes " resync") resync ++ control_then ctl (10 ∷ rest)))
    ≡ Some (Sync ctl resync waits, 10 ∷ rest)
unfolding sync_fields sync_from
sync_back ctl resync waits rest control_is =
    let parts = control_parts ctl control_is in
    let control_rest = control_then ctl (10 ∷ rest) in
    ap (λ found. found >>= (λ (waits : Code × List ℕ). sync_from waits.0 (flag (codes " resync") waits.1)))
    (code_back waits (flag_text (codes " resync") resync ++ control_rest))
    ∙ ap (sync_from waits) (flag_back (codes " resync") control_rest resync refl
    (control_not (codes " resync") ctl (10 ∷ rest) (λ _. refl) (λ _. refl) (λ _. refl) refl))
    ∙ ap (λ found. found >>= (λ (ctl : Ctl × List ℕ). Some (Sync ctl.0 resync waits, ctl.1)))
    (control_back ctl (10 ∷ rest) parts.0 parts.1 (record { irq = refl; set = refl; reset = refl }))

-- ---- the name before them

name_write : (text : List ℕ) → Spaced text → name_at (codes "write" ++ text) ≡ Some (names.Write, text)
unfolding name_at write_name
name_write text spaced = let is = spaced.is in rw is refl

name_skip : (text : List ℕ) → Spaced text → name_at (codes "skip" ++ text) ≡ Some (names.Skip, text)
unfolding name_at skip_name
name_skip text spaced = let is = spaced.is in rw is refl

name_write_c : (text : List ℕ) → name_at (codes "writec" ++ text) ≡ Some (names.WriteC, text)
unfolding name_at write_name
name_write_c text = refl

name_write_123 : (text : List ℕ) → name_at (codes "write123" ++ text) ≡ Some (names.Write123, text)
unfolding name_at write_name
name_write_123 text = refl

name_write_1_s_23 : (text : List ℕ) → name_at (codes "write1s23" ++ text) ≡ Some (names.Write1S23, text)
unfolding name_at write_name
name_write_1_s_23 text = refl

name_skip_123 : (text : List ℕ) → name_at (codes "skip123" ++ text) ≡ Some (names.Skip123, text)
unfolding name_at skip_name
name_skip_123 text = refl

name_jump : (text : List ℕ) → name_at (codes "jump" ++ text) ≡ Some (names.Jump, text)
unfolding name_at
name_jump text = refl

name_sync : (text : List ℕ) → name_at (codes "sync " ++ text) ≡ Some (names.Sync, text)
unfolding name_at
name_sync text = refl

name_word : (text : List ℕ) → name_at (codes "word" ++ text) ≡ Some (names.Word, text)
unfolding name_at
name_word text = refl

-- ---- the whole text of an instruction

-- the addresses of an instruction are addresses
abbrev pub AddressesFit : Instr → Type 0
AddressesFit (Write ctl ends off n at) = at < 2 ^ 32
AddressesFit (Jump ctl target) = target < 2 ^ 32
AddressesFit (Write123 ctl ends off counts addrs) =
    (slice_index addrs 0 < 2 ^ 32) × (slice_index addrs 1 < 2 ^ 32) × (slice_index addrs 2 < 2 ^ 32)
AddressesFit (Write1S23 ctl ends off counts at) = at < 2 ^ 32
AddressesFit _ = Unit {0}

record IsRead (instr : Instr) (rest : List ℕ) : Type 0 where
  name : Name
  left : List ℕ
  named : name_at (instr_text instr ++ 10 ∷ rest) ≡ Some (name, left)
  fields : fields_of name left ≡ Some (lines.Instr instr, 10 ∷ rest)

as_instr : (read : Read Instr) (instr : Instr) (rest : List ℕ) → read ≡ Some (instr, rest) →
    (read >>= as_line) ≡ Some (lines.Instr instr, rest)
as_instr read instr rest is = rw is refl

grouped_two : (front one two rest : List ℕ) → (front ++ (one ++ two)) ++ rest ≡ front ++ (one ++ (two ++ rest))
grouped_two front one two rest = append_assoc front (one ++ two) rest ∙ ap (λ (text : List ℕ). front ++ text) (append_assoc one two rest)

pub record Fitted (ctl : Ctl) (off : ℕ) (counts : List ℕ) : Type 0 where
  pub control : IsTrue (control_fits ctl)
  pub lanes : off < 16
  pub bytes : IsTrue (counts_fit counts)

pub fitted_parts : (ctl : Ctl) (off : ℕ) (counts : List ℕ) → IsTrue (control_fits ctl && nat_lt off 16 && counts_fit counts) →
    Fitted ctl off counts
fitted_parts ctl off counts h =
    let parts = and_parts (control_fits ctl && nat_lt off 16) (counts_fit counts) h in
    let control = and_parts (control_fits ctl) (nat_lt off 16) parts.0 in
    record { control = control.0; lanes = ltb-true off 16 control.1; bytes = parts.1 }

instr_read : (instr : Instr) (rest : List ℕ) → IsInstr instr → AddressesFit instr → IsRead instr rest
instr_read (Write ctl ends off n at) rest is small =
    let f = line_parts ctl off n is.0 in
    let left = count_text n ++ (at_text at ++ 10 ∷ rest) in
    let grouped = grouped_two (data_text ctl ends off) (count_text n) (at_text at) (10 ∷ rest) ∙ data_grouped ctl ends off left in
    record {
      name = names.Write;
      left = data_then ctl ends off left;
      named =
          ap (λ (text : List ℕ). name_at (codes "write" ++ text)) grouped
          ∙ name_write (data_then ctl ends off left) (data_spaced ctl ends off left (record { rest = _; is = refl }));
      fields = as_instr _ (Write ctl ends off n at) (10 ∷ rest) (write_back ctl ends off rest f.control f.lanes n at f.bytes small);
    }
instr_read (Skip ctl ends n) rest is small =
    let parts = and_parts (control_fits ctl) (nat_lt n 4096) is.0 in
    let left = count_text n ++ 10 ∷ rest in
    let grouped = append_assoc (data_text ctl ends 0) (count_text n) (10 ∷ rest) ∙ data_grouped ctl ends 0 left in
    record {
      name = names.Skip;
      left = data_then ctl ends 0 left;
      named =
          ap (λ (text : List ℕ). name_at (codes "skip" ++ text)) grouped
          ∙ name_skip (data_then ctl ends 0 left) (data_spaced ctl ends 0 left (record { rest = _; is = refl }));
      fields = as_instr _ (Skip ctl ends n) (10 ∷ rest) (skip_back ctl ends 0 rest parts.0 (omega arith) n (ltb-true n 4096 parts.1));
    }
instr_read (WriteC ctl ends off n) rest is small =
    let f = line_parts ctl off n is.0 in
    let left = count_text n ++ 10 ∷ rest in
    let grouped = append_assoc (data_text ctl ends off) (count_text n) (10 ∷ rest) ∙ data_grouped ctl ends off left in
    record {
      name = names.WriteC;
      left = data_then ctl ends off left;
      named = ap (λ (text : List ℕ). name_at (codes "writec" ++ text)) grouped ∙ name_write_c (data_then ctl ends off left);
      fields = as_instr _ (WriteC ctl ends off n) (10 ∷ rest) (write_c_back ctl ends off rest f.control f.lanes n f.bytes);
    }
instr_read (Jump ctl target) rest is small =
    let left = at_text target ++ 10 ∷ rest in
    let grouped = append_assoc (control_text ctl) (at_text target) (10 ∷ rest) ∙ control_grouped ctl left in
    record {
      name = names.Jump;
      left = control_then ctl left;
      named = ap (λ (text : List ℕ). name_at (codes "jump" ++ text)) grouped ∙ name_jump (control_then ctl left);
      fields = as_instr _ (Jump ctl target) (10 ∷ rest) (jump_back ctl target rest is.0 small);
    }
instr_read (Sync ctl resync waits) rest is small =
    let left = code_name waits ++ (flag_text (codes " resync") resync ++ control_then ctl (10 ∷ rest)) in
    let grouped = grouped_two (code_name waits) (flag_text (codes " resync") resync) (control_text ctl) (10 ∷ rest)
    ∙ ap (λ (text : List ℕ). code_name waits ++ (flag_text (codes " resync") resync ++ text)) (control_grouped ctl (10 ∷ rest))
    in
    record {
      name = names.Sync;
      left = left;
      named = ap (λ (text : List ℕ). name_at (codes "sync " ++ text)) grouped ∙ name_sync left;
      fields = as_instr _ (Sync ctl resync waits) (10 ∷ rest) (sync_back ctl resync waits rest is.0);
    }
instr_read (Write123 ctl ends off counts addrs) rest is small =
    let f = fitted_parts ctl off counts is.0 in
    let three = three_of counts is.1.0 in
    let each = counts_parts counts three f.bytes in
    let at = three_of addrs is.1.1 in
    let at_list = at.list_is in
    let fit = rw at_list at small in
    let a = three.first in let b = three.second in let c = three.third in
    let p = at.first in let q = at.second in let r = at.third in
    let left = counts_then a b c (addresses_then p q r (10 ∷ rest)) in
    let grouped = grouped_two (data_text ctl ends off) (counts_text (a ∷ b ∷ c ∷ [])) (addresses_text (p ∷ q ∷ r ∷ [])) (10 ∷ rest)
    ∙ ap (λ (text : List ℕ). data_text ctl ends off ++ (counts_text (a ∷ b ∷ c ∷ []) ++ text)) (addresses_grouped p q r (10 ∷ rest))
    ∙ ap (λ (text : List ℕ). data_text ctl ends off ++ text) (counts_grouped a b c (addresses_then p q r (10 ∷ rest)))
    ∙ data_grouped ctl ends off left
    in
    rw (three.list_is, at_list) (record {
      name = names.Write123;
      left = data_then ctl ends off left;
      named = ap (λ (text : List ℕ). name_at (codes "write123" ++ text)) grouped ∙ name_write_123 (data_then ctl ends off left);
      fields = as_instr _ (Write123 ctl ends off (a ∷ b ∷ c ∷ []) (p ∷ q ∷ r ∷ [])) (10 ∷ rest)
          (write_123_back ctl ends off rest f.control f.lanes a b c each.first_small each.second_small each.third_small p q r fit.0
          fit.1 fit.2);
    })
instr_read (Skip123 ctl ends counts) rest is small =
    let parts = and_parts (control_fits ctl) (counts_fit counts) is.0 in
    let three = three_of counts is.1 in
    let each = counts_parts counts three parts.1 in
    let a = three.first in let b = three.second in let c = three.third in
    let left = counts_then a b c (10 ∷ rest) in
    let grouped = append_assoc (data_text ctl ends 0) (counts_text (a ∷ b ∷ c ∷ [])) (10 ∷ rest)
    ∙ ap (λ (text : List ℕ). data_text ctl ends 0 ++ text) (counts_grouped a b c (10 ∷ rest))
    ∙ data_grouped ctl ends 0 left
    in
    rw (three.list_is) (record {
      name = names.Skip123;
      left = data_then ctl ends 0 left;
      named = ap (λ (text : List ℕ). name_at (codes "skip123" ++ text)) grouped ∙ name_skip_123 (data_then ctl ends 0 left);
      fields = as_instr _ (Skip123 ctl ends (a ∷ b ∷ c ∷ [])) (10 ∷ rest)
          (skip_123_back ctl ends 0 rest parts.0 (omega arith) a b c each.first_small each.second_small each.third_small);
    })
instr_read (Write1S23 ctl ends off counts at) rest is small =
    let f = fitted_parts ctl off counts is.0 in
    let three = three_of counts is.1 in
    let each = counts_parts counts three f.bytes in
    let a = three.first in let b = three.second in let c = three.third in
    let left = counts_then a b c (at_text at ++ 10 ∷ rest) in
    let grouped = grouped_two (data_text ctl ends off) (counts_text (a ∷ b ∷ c ∷ [])) (at_text at) (10 ∷ rest)
    ∙ ap (λ (text : List ℕ). data_text ctl ends off ++ text) (counts_grouped a b c (at_text at ++ 10 ∷ rest))
    ∙ data_grouped ctl ends off left
    in
    rw (three.list_is) (record {
      name = names.Write1S23;
      left = data_then ctl ends off left;
      named = ap (λ (text : List ℕ). name_at (codes "write1s23" ++ text)) grouped ∙ name_write_1_s_23 (data_then ctl ends off left);
      fields = as_instr _ (Write1S23 ctl ends off (a ∷ b ∷ c ∷ []) at) (10 ∷ rest)
          (write_1_s_23_back ctl ends off rest f.control f.lanes a b c each.first_small each.second_small each.third_small at small);
    })

-- ---- whole lines

-- a line with no space after its eight bytes begins with a word
named : (text : List ℕ) → (slice_index text 8 == 32) ≡ false → any_line text ≡ named_line text
unfolding any_line
named text is = rw is refl

glyph-no-space : (n : ℕ) → (digit_glyph false (n % 16) == 32) ≡ false
glyph-no-space n =
    let large = glyph-large (n % 16) (omega arith) in ne_eqb (digit_glyph false (n % 16)) 32 (λ is. omega arith)

-- the fourth digit of an address after five bytes, and the third after six
fourth_is_no_space : (a b c d e n : ℕ) (rest : List ℕ) → n < 2 ^ 32 →
    (slice_index (a ∷ b ∷ c ∷ d ∷ e ∷ (address_text n ++ rest)) 8 == 32) ≡ false
fourth_is_no_space a b c d e n rest small = rw (address_digits n small) (glyph-no-space (n / 2 ^ 16))

third_is_no_space : (a b c d e f n : ℕ) (rest : List ℕ) → n < 2 ^ 32 →
    (slice_index (a ∷ b ∷ c ∷ d ∷ e ∷ f ∷ (address_text n ++ rest)) 8 == 32) ≡ false
third_is_no_space a b c d e f n rest small = rw (address_digits n small) (glyph-no-space (n / 2 ^ 20))

-- a line and its end
ending : (text : List ℕ) (l : Line) (rest : List ℕ) → any_line text ≡ Some (l, 10 ∷ rest) → line_at text ≡ Some (l, rest)
unfolding line_at
ending text l rest is =
    ap (λ found. found >>= (λ (read : Line × List ℕ). after (codes "\n") read.1 >>= (λ (rest : List ℕ). Some (read.0, rest)))) is

after_address : (at : ℕ) (text : List ℕ) → at < 2 ^ 32 → any_line (address_text at ++ 32 ∷ text) ≡ words_line text
unfolding any_line
after_address at text small = rw (address_digits at small) refl

words_line_back : (at : ℕ) (text left : List ℕ) (name : Name) (l : Line) (rest : List ℕ) → at < 2 ^ 32 → name_at text ≡ Some (name, left) →
    fields_of name left ≡ Some (l, 10 ∷ rest) →
    line_at (address_text at ++ 32 ∷ text) ≡ Some (l, rest)
unfolding words_line
words_line_back at text left name l rest small is fields =
    ending (address_text at ++ 32 ∷ text) l rest (
    after_address at text small
    ∙ ap (λ found. found >>= (λ (read : Name × List ℕ). fields_of read.0 read.1)) is
    ∙ fields)

pub instr_line_back : (at : ℕ) (instr : Instr) (rest : List ℕ) → at < 2 ^ 32 → IsInstr instr → AddressesFit instr →
    line_at (instr_line at instr ++ rest) ≡ Some (lines.Instr instr, rest)
instr_line_back at instr rest at_small is small =
    let read = instr_read instr rest is small in
    let grouped =
    append_assoc (address_text at) (codes " " ++ (instr_text instr ++ line_end)) rest
    ∙ ap (λ (text : List ℕ). address_text at ++ 32 ∷ text) (append_assoc (instr_text instr) line_end rest) in
    ap line_at grouped
    ∙ words_line_back at (instr_text instr ++ 10 ∷ rest) read.left read.name (lines.Instr instr) rest at_small read.named read.fields

word_field_back : (word : ℕ) (rest : List ℕ) → word < 2 ^ 32 → word_field (at_text word ++ rest) ≡ Some (lines.Word word, rest)
unfolding word_field
word_field_back word rest small =
    ap (λ found. found >>= (λ (word : ℕ × List ℕ). Some (lines.Word word.0, word.1))) (at_back word rest small)

pub word_line_back : (at word : ℕ) (rest : List ℕ) → at < 2 ^ 32 → word < 2 ^ 32 →
    line_at (word_line at word ++ rest) ≡ Some (lines.Word word, rest)
word_line_back at word rest at_small small =
    let grouped =
    append_assoc (address_text at) (codes " word " ++ (address_text word ++ line_end)) rest
    ∙ ap (λ (text : List ℕ). address_text at ++ (codes " word " ++ text)) (append_assoc (address_text word) line_end rest) in
    ap line_at grouped
    ∙ words_line_back at (codes "word" ++ (at_text word ++ 10 ∷ rest)) (at_text word ++ 10 ∷ rest) names.Word
    (lines.Word word) rest at_small (name_word (at_text word ++ 10 ∷ rest)) (word_field_back word (10 ∷ rest) small)

pub base_line_back : (base : ℕ) (rest : List ℕ) → base < 2 ^ 32 → line_at (listings.base_line base ++ rest) ≡ Some (lines.Base base, rest)
unfolding named_line base_line
base_line_back base rest small =
    ap line_at (ap (λ (text : List ℕ). codes "base " ++ text) (append_assoc (address_text base) line_end rest))
    ∙ ending (codes "base" ++ (at_text base ++ 10 ∷ rest)) (lines.Base base) rest
    (named _ (fourth_is_no_space 98 97 115 101 32 base (10 ∷ rest) small)
    ∙ ap (λ found. found >>= (λ (at : ℕ × List ℕ). Some (lines.Base at.0, at.1))) (at_back base (10 ∷ rest) small))

pub span_line_back : (at : ℕ) (rest : List ℕ) → at < 2 ^ 32 → line_at (listings.span_line at ++ rest) ≡ Some (lines.Span at, rest)
unfolding named_line span_line
span_line_back at rest small =
    ap line_at (ap (λ (text : List ℕ). codes "span " ++ text) (append_assoc (address_text at) line_end rest))
    ∙ ending (codes "span" ++ (at_text at ++ 10 ∷ rest)) (lines.Span at) rest
    (named _ (fourth_is_no_space 115 112 97 110 32 at (10 ∷ rest) small)
    ∙ ap (λ found. found >>= (λ (at : ℕ × List ℕ). Some (lines.Span at.0, at.1))) (at_back at (10 ∷ rest) small))

pub entry_line_back : (entry : ℕ) (rest : List ℕ) → entry < 2 ^ 32 →
    line_at (listings.entry_line entry ++ rest) ≡ Some (lines.Entry entry, rest)
unfolding named_line entry_line
entry_line_back entry rest small =
    ap line_at (ap (λ (text : List ℕ). codes "entry " ++ text) (append_assoc (address_text entry) line_end rest))
    ∙ ending (codes "entry" ++ (at_text entry ++ 10 ∷ rest)) (lines.Entry entry) rest
    (named _ (third_is_no_space 101 110 116 114 121 32 entry (10 ∷ rest) small)
    ∙ ap (λ found. found >>= (λ (at : ℕ × List ℕ). Some (lines.Entry at.0, at.1))) (at_back entry (10 ∷ rest) small))

page_line_back : (at : ℕ) (rest : List ℕ) → at < 2 ^ 32 →
    line_at (codes "page" ++ (at_text at ++ 10 ∷ rest)) ≡ Some (lines.Chunk at 4096, rest)
unfolding named_line page_line
page_line_back at rest small =
    ending (codes "page" ++ (at_text at ++ 10 ∷ rest)) (lines.Chunk at 4096) rest
    (named _ (fourth_is_no_space 112 97 103 101 32 at (10 ∷ rest) small)
    ∙ ap (λ found. found >>= (λ (at : ℕ × List ℕ). Some (lines.Chunk at.0 4096, at.1))) (at_back at (10 ∷ rest) small))

long_line_back : (at len : ℕ) (rest : List ℕ) → at < 2 ^ 32 → len < 10 ^ 8 →
    line_at (codes "chunk" ++ (at_text at ++ (count_text len ++ 10 ∷ rest))) ≡ Some (lines.Chunk at len, rest)
unfolding named_line chunk_line
long_line_back at len rest small short =
    ending (codes "chunk" ++ (at_text at ++ (count_text len ++ 10 ∷ rest))) (lines.Chunk at len) rest (
    named _ (third_is_no_space 99 104 117 110 107 32 at (count_text len ++ 10 ∷ rest) small)
    ∙ ap (λ found. found >>= (λ (at : ℕ × List ℕ). after (codes " ") at.1
    >>= (λ (rest : List ℕ). Some (lines.Chunk at.0 (decimal_digits 8 0 rest).0, (decimal_digits 8 0 rest).1))))
    (at_back at (count_text len ++ 10 ∷ rest) small)
    ∙ ap (λ (len : ℕ × List ℕ). Some (lines.Chunk at len.0, len.1)) (number_back 8 len 10 rest (omega arith) short (omega arith) refl))

chunk_by : (test : Bool) (c : Chunk) (rest : List ℕ) → is_page c ≡ test → c.at < 2 ^ 32 → c.len < 10 ^ 8 →
    line_at ((if test then codes "page " ++ (address_text c.at ++ line_end)
    else codes "chunk " ++ (address_text c.at ++ (codes " " ++ (decimal c.len ++ line_end)))) ++ rest) ≡ Some (lines.Chunk c.at c.len, rest)
chunk_by true c rest is small short =
    let parts = and_parts (c.at % 4096 == 0) (c.len == 4096) is in
    let len_is : c.len ≡ 4096 = eqb-true c.len 4096 parts.1 in
    ap line_at (ap (λ (text : List ℕ). codes "page " ++ text) (append_assoc (address_text c.at) line_end rest))
    ∙ page_line_back c.at rest small ∙ ap (λ (len : ℕ). Some (lines.Chunk c.at len, rest)) (sym len_is)
chunk_by false c rest is small short =
    ap line_at
    (ap (λ (text : List ℕ). codes "chunk " ++ text) (append_assoc (address_text c.at) (codes " " ++ (decimal c.len ++ line_end)) rest
    ∙ ap (λ (text : List ℕ). address_text c.at ++ (codes " " ++ text)) (append_assoc (decimal c.len) line_end rest)))
    ∙ long_line_back c.at c.len rest small short

pub chunk_line_back : (c : Chunk) (rest : List ℕ) → c.at < 2 ^ 32 → c.len < 10 ^ 8 →
    line_at (listings.chunk_line c ++ rest) ≡ Some (lines.Chunk c.at c.len, rest)
chunk_line_back c rest small short = chunk_by (is_page c) c rest refl small short

-- the last line has eight bytes and nothing after it
fill_is_named : (fill : ℕ) → fill < 256 →
    any_line (codes "fill " ++ (hex 2 fill ++ 10 ∷ [])) ≡ named_line (codes "fill " ++ (hex 2 fill ++ 10 ∷ []))
fill_is_named fill small = named _ (rw (hex_byte false fill small) refl)

pub fill_line_back : (fill : ℕ) → fill < 256 → line_at (listings.fill_line fill) ≡ Some (lines.Fill fill, [])
unfolding named_line fill_line
fill_line_back fill small =
    ending (codes "fill" ++ (codes " " ++ (hex 2 fill ++ 10 ∷ []))) (lines.Fill fill) [] (fill_is_named fill small
    ∙ ap (λ found. found >>= (λ (fill : ℕ × List ℕ). Some (lines.Fill fill.0, fill.1))) (byte_back fill (10 ∷ []) small))
