-- The line of a word behind which one word more has room.
use Rattle.std.proofs.Common.{◌≡◌, ℕ, zero, suc, ◌+◌, ◌-◌, ◌≤◌, List, [], ◌∷◌, ◌++◌, length, Option, Some, None, refl, sym, ap, ◌∙◌, arith}
use Rattle.std.proofs.Common.{append_assoc, length-append, inl, inr}
use Rattle.std.proofs.lemmas.Bool.{and_parts, cases_lt}
use Rattle.std.proofs.lemmas.List.{append-nil, append_cancel_left}
use Rattle.risc_word.specs.declared.Instr.{Instr}
use Rattle.risc_word.specs.declared.Instr.TheVariants.{Write, Skip, WriteC, Jump, Sync, Write123, Skip123, Write1S23}
use Rattle.risc_word.specs.Words.{IsInstr, control_fits, counts_fit, encoded}
use Rattle.risc_word.proofs.ReadBack.{counts_parts, three_of}
use Rattle.risc_listing.specs.Lines.{address_text, instr_text, line_end}
use Rattle.risc_listing.specs.Listings.{line_of, spelled, word_lines, words_of}
use Rattle.risc_text.specs.Assembly.{other_word}
use Rattle.risc_text.proofs.Spelling.{some_is, spelled_again, spelled_is, spelled_less, unspelled_less}

abbrev lines_from : ℕ → ℕ → List ℕ → Option (Instr × ℕ) → List ℕ
lines_from at word rest found = line_of at word found ++ word_lines (at + 4) (words_of found - 1) rest

no_lines : (at skip : ℕ) → word_lines at skip [] ≡ []
unfolding word_lines
no_lines at zero = refl
no_lines at (suc skip) = refl

lines_are : (at word : ℕ) (rest : List ℕ) (found : Option (Instr × ℕ)) → spelled (word ∷ rest) ≡ found →
    word_lines at 0 (word ∷ rest) ≡ lines_from at word rest found
unfolding word_lines
lines_are at word rest found is = ap (lines_from at word rest) is

line_is : (at word : ℕ) (found : Option (Instr × ℕ)) → spelled (word ∷ []) ≡ found → word_lines at 0 (word ∷ []) ≡ line_of at word found
line_is at word found is =
    lines_are at word [] found is ∙ ap (λ (after : List ℕ). line_of at word found ++ after) (no_lines (at + 4) (words_of found - 1))
    ∙ append-nil (line_of at word found)

pub cons_parts : (a b : ℕ) (x y : List ℕ) → a ∷ x ≡ b ∷ y → (a ≡ b) × (x ≡ y)
cons_parts a b x y e = (cc, cc)

-- an instruction of two words of which the second is free
record IsFree (word second : ℕ) : Type 0 where
  pub instr : Instr
  pub is_instr : IsInstr instr
  pub words_are : encoded instr ≡ word ∷ second ∷ []
  pub name_on : (tail rest : List ℕ) → (instr_text instr ++ line_end) ++ tail ≡ 119 ∷ 111 ∷ rest → ⊥

second_is : (a b c d : ℕ) (x y : List ℕ) → a ∷ b ∷ x ≡ c ∷ d ∷ y → b ≡ d
second_is a b c d x y e = cc

pub first_is : (a c : ℕ) (x y : List ℕ) → a ∷ x ≡ c ∷ y → a ≡ c
first_is a c x y e = cc

free : (instr : Instr) (word second : ℕ) (rest : List ℕ) → IsInstr instr → 2 ≤ length (encoded instr) →
    word ∷ other_word ∷ [] ≡ encoded instr ++ rest → IsFree word second
free (Write ctl ends off n at) word second rest is two same =
    let first = first_is word _ _ _ same in
    record {
      instr = Write ctl ends off n second;
      is_instr = is;
      words_are = ap (λ (word : ℕ). word ∷ second ∷ []) (sym first);
      name_on = λ tail rest is. (let e : 114 ≡ 111 = second_is 119 114 119 111 _ rest is in omega arith);
    }
free (Jump ctl target) word second rest is two same =
    let first = first_is word _ _ _ same in
    record {
      instr = Jump ctl second;
      is_instr = is;
      words_are = ap (λ (word : ℕ). word ∷ second ∷ []) (sym first);
      name_on = λ tail rest is. (let e : 106 ≡ 119 = first_is 106 119 _ (111 ∷ rest) is in omega arith);
    }
free (Skip ctl ends n) word second rest is two same = absurd (omega arith)
free (WriteC ctl ends off n) word second rest is two same = absurd (omega arith)
free (Sync ctl resync waits) word second rest is two same = absurd (let e = second_is word other_word _ 0 [] rest same in omega arith)
free (Write123 ctl ends off counts addrs) word second rest is two same =
    let three = three_of counts is.1.0 in
    let at = three_of addrs is.1.1 in
    let all = rw (three.list_is, at.list_is) at same in
    absurd (let e = ap length all in omega arith)
free (Skip123 ctl ends counts) word second rest is two same =
    let parts = and_parts (control_fits ctl) (counts_fit counts) is.0 in
    let three = three_of counts is.1 in
    let each = counts_parts counts three parts.1 in
    let all = rw (three.list_is) at same in
    let e = second_is word other_word _ _ [] rest all in
    let small = each.second_small in
    absurd (omega arith)
free (Write1S23 ctl ends off counts at) word second rest is two same =
    let three = three_of counts is.1 in
    let all = rw (three.list_is) at same in
    absurd (let e = ap length all in omega arith)

-- of a word that begins such an instruction alone, no line is that of the instruction
differ : (at word second : ℕ) (left : List ℕ) → IsFree word second →
    word_lines at 0 (word ∷ second ∷ []) ≡ word_lines at 0 (word ∷ []) ++ left → ⊥
differ at word second left free same = by (spelled (word ∷ [])) refl
  where
    both : spelled (word ∷ second ∷ []) ≡ Some (free.instr, 2)
    both = ap spelled (sym (append-nil (word ∷ second ∷ [])) ∙ ap (λ (words : List ℕ). words ++ []) (sym free.words_are))
        ∙ spelled_again free.instr [] free.is_instr ∙ ap (λ (words : List ℕ). Some (free.instr, length words)) free.words_are

    first : (found : Option (Instr × ℕ)) → spelled (word ∷ []) ≡ found →
        line_of at word (Some (free.instr, 2)) ++ word_lines (at + 4) 1 (second ∷ []) ≡ line_of at word found ++ left
    first found is =
        sym (lines_are at word (second ∷ []) (Some (free.instr, 2)) both) ∙ same
        ∙ ap (λ (list : List ℕ). list ++ left) (line_is at word found is)

    by : (found : Option (Instr × ℕ)) → spelled (word ∷ []) ≡ found → ⊥
    by None is =
        let all = first None is in
        let tail = word_lines (at + 4) 1 (second ∷ []) in
        let one : address_text at ++ (32 ∷ ((instr_text free.instr ++ line_end) ++ tail))
        ≡ address_text at ++ (32 ∷ 119 ∷ 111 ∷ 114 ∷ 100 ∷ 32 ∷ ((address_text word ++ line_end) ++ left)) =
        sym (append_assoc (address_text at) (32 ∷ (instr_text free.instr ++ line_end)) tail) ∙ all
        ∙ append_assoc (address_text at) (32 ∷ 119 ∷ 111 ∷ 114 ∷ 100 ∷ 32 ∷ (address_text word ++ line_end)) left
        in
        let two =
        append_cancel_left (address_text at) (32 ∷ ((instr_text free.instr ++ line_end) ++ tail))
        (32 ∷ 119 ∷ 111 ∷ 114 ∷ 100 ∷ 32 ∷ ((address_text word ++ line_end) ++ left)) one in
        free.name_on tail _ ((cons_parts 32 32 _ _ two).1)
    by (Some (instr, number)) is =
        let known = spelled_is (word ∷ []) instr number is in
        let words_are : word ∷ second ∷ [] ≡ encoded instr ++ (known.rest ++ second ∷ []) =
        ap (λ (words : List ℕ). words ++ second ∷ []) known.words_are ∙ append_assoc (encoded instr) known.rest (second ∷ [])
        in
        let again = ap spelled words_are ∙ spelled_again instr (known.rest ++ second ∷ []) known.is_instr in
        let pair = some_is (free.instr, 2) (instr, length (encoded instr)) (sym both ∙ again) in
        let long : 2 ≡ length (encoded instr) = ap (λ (read : Instr × ℕ). read.1) pair in
        let size : 1 ≡ length (encoded instr) + length known.rest = ap length known.words_are ∙ length-append (encoded instr) known.rest in
        omega arith

-- where some word may follow a word whose line is as it is, the other word may
pub other_behind : (at word second : ℕ) (left : List ℕ) → word_lines at 0 (word ∷ second ∷ []) ≡ word_lines at 0 (word ∷ []) ++ left →
    (more : List ℕ) × (word_lines at 0 (word ∷ other_word ∷ []) ≡ word_lines at 0 (word ∷ []) ++ more)
other_behind at word second left same = by (spelled (word ∷ other_word ∷ [])) refl
  where
    alike : (found : Option (Instr × ℕ)) → spelled (word ∷ other_word ∷ []) ≡ found → spelled (word ∷ []) ≡ found →
        (more : List ℕ) × (word_lines at 0 (word ∷ other_word ∷ []) ≡ word_lines at 0 (word ∷ []) ++ more)
    alike found two one = (
      word_lines (at + 4) (words_of found - 1) (other_word ∷ []),
      lines_are at word (other_word ∷ []) found two
          ∙ ap (λ (list : List ℕ). list ++ word_lines (at + 4) (words_of found - 1) (other_word ∷ [])) (sym (line_is at word found one)),
    )

    by : (found : Option (Instr × ℕ)) → spelled (word ∷ other_word ∷ []) ≡ found →
        (more : List ℕ) × (word_lines at 0 (word ∷ other_word ∷ []) ≡ word_lines at 0 (word ∷ []) ++ more)
    by None is = alike None is (unspelled_less 1 (word ∷ other_word ∷ []) is)
    by (Some (instr, number)) is =
        let known = spelled_is (word ∷ other_word ∷ []) instr number is in
        elim (cases_lt 1 number) [
          | inr one ↦ alike (Some (instr, number)) is (spelled_less 1 (word ∷ other_word ∷ []) instr number is one)
          | inl two ↦ absurd (differ at word second left
              (free instr word second known.rest known.is_instr (let e = known.number_is in omega arith) known.words_are) same)
        ]
