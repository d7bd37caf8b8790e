-- Which words are exactly the canonical encoding of an instruction.
use Rattle.std.proofs.Common.{◌≡◌, ℕ, ◌+◌, ◌^◌, ◌<◌, ◌≤◌, Bool, true, false, List, [], ◌∷◌, ◌++◌, ◌-◌, length, take, drop, append_assoc}
use Rattle.std.proofs.Common.{Option, Some, None, Ok, Err, refl, subst, sym, ap, ◌∙◌, arith}
use Rattle.std.specs.Prelude.{◌==◌, if◌then◌else◌, slice_index}
use Rattle.std.specs.List.{starts_with}
use Rattle.std.specs.Cmp.Lexicographic.{bytes_decides}
use Rattle.std.proofs.lemmas.List.{take-append-drop}
use Rattle.std.proofs.Math.Seq.{take-append_seam, take-append-add}
use Rattle.risc_word.specs.declared.Instr.{Instr}
use Rattle.risc_word.specs.declared.Instr.TheVariants.{Write, Skip, WriteC, Jump, Sync, Write123, Skip123, Write1S23}
use Rattle.risc_word.specs.Words.{IsInstr, Reading, encoded, first_instr, planar_words}
use Rattle.risc_word.proofs.ReadInstructions.{known_at}
use Rattle.risc_word.proofs.ReadBack.{begins, three_of}
use Rattle.risc_listing.specs.Listings.{if_spelled, spelled}
use Rattle.risc_text.proofs.Lines.{AddressesFit}

-- words that begin with the canonical encoding of an instruction
pub record IsSpelled (words : List ℕ) (instr : Instr) (number : ℕ) : Type 0 where
  pub rest : List ℕ
  pub words_are : words ≡ encoded instr ++ rest
  pub is_instr : IsInstr instr
  pub number_is : number ≡ length (encoded instr)
  pub some : 1 ≤ number

pub some_is : {A : Type 0} (x y : A) → Some x ≡ Some y → x ≡ y
some_is x y e = cc

pub none_some : {A : Type 0} (x : A) → None ≡ Some x → ⊥
none_some x e = cc

abbrev when : Bool → Instr × ℕ → Option (Instr × ℕ)
when test read = if test then Some read else None

split_by : (test : Bool) (words : List ℕ) (instr found : Instr) (number length_found : ℕ) →
    starts_with (λ one other. one == other) words (encoded found) ≡ test → first_instr words ≡ Ok (found, length_found) →
    when test (found, length_found) ≡ Some (instr, number) → IsSpelled words instr number
split_by false words instr found number length_found test_is read is = absurd (none_some (instr, number) is)
split_by true words instr found number length_found test_is read is =
    let same = some_is (found, length_found) (instr, number) is in
    let known = known_at words 0 found length_found read in
    let front = (bytes_decides (encoded found) (take (length (encoded found)) words)).0 test_is in
    let whole : words ≡ encoded found ++ drop (length (encoded found)) words =
    sym (take-append-drop (length (encoded found)) words) ∙ ap (λ (list : List ℕ). list ++ drop (length (encoded found)) words) (sym front)
    in
    let instr_same : found ≡ instr = ap (λ (read : Instr × ℕ). read.0) same in
    let number_same : length_found ≡ number = ap (λ (read : Instr × ℕ). read.1) same in
    record {
      rest = drop (length (encoded found)) words;
      words_are = rw (sym instr_same) whole;
      is_instr = rw (sym instr_same) known.is_instr;
      number_is = rw (sym instr_same, sym number_same) known.spelled_is;
      some = rw (sym number_same) known.positive;
    }

spelled_by : (words : List ℕ) (reading : Reading) (instr : Instr) (number : ℕ) → first_instr words ≡ reading →
    if_spelled words reading ≡ Some (instr, number) → IsSpelled words instr number
spelled_by words (Err fault) instr number read is = absurd (none_some (instr, number) is)
spelled_by words (Ok found) instr number read is =
    split_by (starts_with (λ one other. one == other) words (encoded found.0)) words instr found.0 number found.1 refl read is

pub spelled_is : (words : List ℕ) (instr : Instr) (number : ℕ) → spelled words ≡ Some (instr, number) → IsSpelled words instr number
spelled_is words instr number is = spelled_by words (first_instr words) instr number refl is

-- and the canonical encoding is found so
starts_itself : (needle rest : List ℕ) → starts_with (λ one other. one == other) (needle ++ rest) needle ≡ true
starts_itself needle rest = (bytes_decides needle (take (length needle) (needle ++ rest))).1 (sym (take-append_seam needle rest))

pub spelled_again : (instr : Instr) (rest : List ℕ) → IsInstr instr → spelled (encoded instr ++ rest) ≡ Some (instr, length (encoded instr))
spelled_again instr rest is =
    ap (if_spelled (encoded instr ++ rest)) (begins instr is rest)
    ∙ ap (λ (test : Bool). when test (instr, length (encoded instr))) (starts_itself (encoded instr) rest)

-- fewer words are spelled alike, as long as the instruction is among them
pub spelled_less : (number : ℕ) (words : List ℕ) (instr : Instr) (some : ℕ) → spelled words ≡ Some (instr, some) → some ≤ number →
    spelled (take number words) ≡ Some (instr, some)
spelled_less number words instr some is enough =
    let known = spelled_is words instr some is in
    let fewer : take number words ≡ encoded instr ++ take (number - length (encoded instr)) known.rest =
    ap (take number) known.words_are
    ∙ ap (λ (n : ℕ). take n (encoded instr ++ known.rest))
    (let e : number ≡ length (encoded instr) + (number - length (encoded instr)) = (let same = known.number_is in omega arith) in e)
    ∙ take-append-add (encoded instr) known.rest (number - length (encoded instr))
    in
    ap spelled fewer ∙ spelled_again instr (take (number - length (encoded instr)) known.rest) known.is_instr
    ∙ ap (λ (n : ℕ). Some (instr, n)) (sym known.number_is)

unspelled_by : (number : ℕ) (words : List ℕ) (found : Option (Instr × ℕ)) → spelled (take number words) ≡ found → spelled words ≡ None →
    spelled (take number words) ≡ None
unspelled_by number words None is none = is
unspelled_by number words (Some read) is none =
    let known = spelled_is (take number words) read.0 read.1 is in
    let whole : words ≡ encoded read.0 ++ (known.rest ++ drop number words) =
    sym (take-append-drop number words) ∙ ap (λ (list : List ℕ). list ++ drop number words) known.words_are
    ∙ append_assoc (encoded read.0) known.rest (drop number words)
    in
    absurd (none_some (read.0, length (encoded read.0))
    (sym none ∙ ap spelled whole ∙ spelled_again read.0 (known.rest ++ drop number words) known.is_instr))

pub unspelled_less : (number : ℕ) (words : List ℕ) → spelled words ≡ None → spelled (take number words) ≡ None
unspelled_less number words none = unspelled_by number words (spelled (take number words)) refl none

-- the addresses among words are addresses
pub addresses_fit : (instr : Instr) (rest : List ℕ) → IsInstr instr → ((k : ℕ) → slice_index (encoded instr ++ rest) k < 2 ^ 32) →
    AddressesFit instr
addresses_fit (Write ctl ends off n at) rest is fit = fit 1
addresses_fit (Skip ctl ends n) rest is fit = tt
addresses_fit (WriteC ctl ends off n) rest is fit = tt
addresses_fit (Jump ctl target) rest is fit = fit 1
addresses_fit (Sync ctl resync waits) rest is fit = tt
addresses_fit (Write123 ctl ends off counts addrs) rest is fit =
    let three = three_of counts is.1.0 in
    let at = three_of addrs is.1.1 in
    let a = three.first ∷ three.second ∷ three.third ∷ [] in
    let all : (k : ℕ) → slice_index (planar_words 9 ctl ends off a (at.first ∷ at.second ∷ at.third ∷ []) ++ rest) k < 2 ^ 32 =
    λ k. subst (λ (list : List ℕ). slice_index (planar_words 9 ctl ends off a list ++ rest) k < 2 ^ 32) at.list_is
    (subst (λ (list : List ℕ). slice_index (planar_words 9 ctl ends off list addrs ++ rest) k < 2 ^ 32) three.list_is (fit k))
    in
    rw at.list_is (all 2, all 3, all 4)
addresses_fit (Skip123 ctl ends counts) rest is fit = tt
addresses_fit (Write1S23 ctl ends off counts at) rest is fit =
    let three = three_of counts is.1 in
    subst (λ (list : List ℕ). slice_index (planar_words 11 ctl ends off list (at ∷ []) ++ rest) 2 < 2 ^ 32) three.list_is (fit 2)
