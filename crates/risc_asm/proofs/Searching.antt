-- The first line at fault lies between two places that come nearer.
use Rattle.std.proofs.Common.{◌≡◌, ◌≢◌, ℕ, zero, suc, ◌+◌, ◌-◌, ◌≤◌, ◌<◌, true, false, List, [], ◌∷◌, ◌++◌, length, take, drop, refl, sym}
use Rattle.std.proofs.Common.{ap, subst, ◌∙◌, arith, inl, inr, length-drop, append_assoc, min}
use Rattle.std.specs.Prelude.{◌==◌, ◌⊎◌, if◌then◌else◌, slice_index}
use Rattle.std.proofs.lemmas.Bool.{eq-eqb, ne_eqb}
use Rattle.std.proofs.lemmas.Bool.Decides.{leb_tells}
use Rattle.std.proofs.Math.Dec.{leb}
use Rattle.std.proofs.lemmas.List.{get_or-drop, get_or-take, length-take, take-append-drop, take_all, append-nil}
use Rattle.std.proofs.lemmas.List.Sums.{sum_by-cons}
use Rattle.std.proofs.Math.Seq.{take-length}
use Rattle.risc_text.specs.Assembly.{BeginsListing, EndsShort, LineAtFault, are_lines, has_no_newline, line_count}
use Rattle.risc_text.proofs.Cutting.{listing_begins}
use Rattle.capture_file.specs.declared.program.ProgramFile.{ProgramFile}
use Rattle.risc_asm.specs.Answers.{HasWrongLine, IsBetween}
use Rattle.risc_asm.specs.Verdicts.{IsBegun, Judges}
use Rattle.risc_asm.specs.declared.judge.Verdict.{Verdict}
use Rattle.risc_asm.specs.declared.judge.Verdict.TheVariants.{Wrong, Begun, Whole}
use Rattle.risc_asm.proofs.OneAnswer.{begins_front}

-- a newline ends whole lines
pub lines_to : (at : ℕ) (text : List ℕ) → at < length text → slice_index text at ≡ 10 → are_lines (take (suc at) text) ≡ true
lines_to at [] within is = absurd (omega arith)
lines_to zero (byte ∷ rest) within is = eq-eqb byte 10 is
lines_to (suc at) (byte ∷ []) within is = absurd (omega arith)
lines_to (suc at) (byte ∷ second ∷ rest) within is = lines_to at (second ∷ rest) (omega arith) is

pub lines_up_to : (at : ℕ) (text : List ℕ) → at < length text → slice_index text at ≡ 10 → are_lines (take (at + 1) text) ≡ true
lines_up_to at text within is =
    ap (λ (n : ℕ). are_lines (take n text)) (let e : at + 1 ≡ suc at = omega arith in e) ∙ lines_to at text within is

pub plain_all : (text : List ℕ) → ((k : ℕ) → k < length text → slice_index text k ≢ 10) → has_no_newline text ≡ true
plain_all [] none = refl
plain_all (byte ∷ rest) none =
    let first : (byte == 10) ≡ false = ne_eqb byte 10 (none 0 (omega arith)) in
    rw first (plain_all rest (λ k within. none (suc k) (omega arith)))

pub plain_from : (n : ℕ) (text : List ℕ) → ((k : ℕ) → n ≤ k → k < length text → slice_index text k ≢ 10) →
    has_no_newline (drop n text) ≡ true
plain_from n text none =
    let long = length-drop n text in
    plain_all (drop n text)
    (λ k within. subst (λ (byte : ℕ). byte ≢ 10) (sym (get_or-drop n text k 0)) (none (n + k) (omega arith) (omega arith)))

lines-drop : (n : ℕ) (text : List ℕ) → are_lines text ≡ true → are_lines (drop n text) ≡ true
lines-drop zero text is = is
lines-drop (suc n) [] is = refl
lines-drop (suc n) (byte ∷ []) is = lines-drop n [] refl
lines-drop (suc n) (byte ∷ second ∷ rest) is = lines-drop n (second ∷ rest) is

one_line : (text : List ℕ) → are_lines text ≡ true → 0 < length text → ((k : ℕ) → k + 1 < length text → slice_index text k ≢ 10) →
    line_count text ≡ 1
one_line [] is some none = absurd (omega arith)
one_line (byte ∷ []) is some none =
    let newline : (byte == 10) ≡ true = is in
    sum_by-cons (λ (byte : ℕ). if byte == 10 then 1 else 0) byte [] ∙ (rw newline refl)
one_line (byte ∷ second ∷ rest) is some none =
    let first : (byte == 10) ≡ false = ne_eqb byte 10 (none 0 (omega arith)) in
    let later : line_count (second ∷ rest) ≡ 1 = one_line (second ∷ rest) is (omega arith) (λ k within. none (suc k) (omega arith)) in
    sum_by-cons (λ (byte : ℕ). if byte == 10 then 1 else 0) byte (second ∷ rest) ∙ (rw (first, later) refl)

take-take : (low high : ℕ) (text : List ℕ) → low ≤ high → take low (take high text) ≡ take low text
take-take zero high text order = refl
take-take (suc low) zero text order = absurd (omega arith)
take-take (suc low) (suc high) [] order = refl
take-take (suc low) (suc high) (byte ∷ rest) order = ap (λ (list : List ℕ). byte ∷ list) (take-take low high rest (omega arith))

pub begin : (lines : List ℕ) (low begun : ℕ) → are_lines lines ≡ true → (BeginsListing lines → ⊥) → IsBegun lines begun → low ≤ begun →
    are_lines (take low lines) ≡ true → IsBetween lines low (length lines)
begin lines low begun whole wrong is before low_whole =
    let front : take low (take begun lines) ≡ take low lines = take-take low begun lines before in
    let low_begun =
    subst BeginsListing front (begins_front (take low (take begun lines)) (drop low (take begun lines))
    (subst BeginsListing (sym (take-append-drop low (take begun lines))) is.1)) in
    record {
      order = some low_begun;
      within = omega arith;
      low_whole = low_whole;
      high_whole = rw (take-length lines) whole;
      begun = low_begun;
      wrong = rw (take-length lines) wrong;
    }
  where
    by_order : BeginsListing (take low lines) → ((leb (length lines) low ≡ true) × (length lines ≤ low))
        ⊎ ((leb (length lines) low ≡ false) × (low < length lines)) → low < length lines
    by_order so_far (inl more) = absurd (wrong (subst BeginsListing (take_all low lines more.1) so_far))
    by_order so_far (inr less) = less.1

    some : BeginsListing (take low lines) → low < length lines
    some so_far = by_order so_far (leb_tells (length lines) low)

pub lower : (lines : List ℕ) (low high end : ℕ) → IsBetween lines low high → low < end → end < high → are_lines (take end lines) ≡ true →
    (BeginsListing (take end lines) → ⊥) → IsBetween lines low end
lower lines low high end between first second whole wrong = record {
  order = first;
  within = (let e = between.within in omega arith);
  low_whole = between.low_whole;
  high_whole = whole;
  begun = between.begun;
  wrong = wrong;
}

pub higher : (lines : List ℕ) (low high end : ℕ) → IsBetween lines low high → low < end → end < high → are_lines (take end lines) ≡ true →
    BeginsListing (take end lines) → IsBetween lines end high
higher lines low high end between first second whole begun = record {
  order = second;
  within = between.within;
  low_whole = whole;
  high_whole = between.high_whole;
  begun = begun;
  wrong = between.wrong;
}

-- the line between two places with no newline between them
pub line_between : (lines : List ℕ) (low high k : ℕ) → IsBetween lines low high →
    ((i : ℕ) → low ≤ i → i + 1 < high → slice_index lines i ≢ 10) → k ≡ line_count (take low lines) + 1 → HasWrongLine lines k
line_between lines low high k between none number =
    let order = between.order in
    let within = between.within in
    let front = take high lines in
    let line = drop low front in
    let front_long : length front ≡ high = length-take high lines ∙ (let e : min high (length lines) ≡ high = omega arith in e) in
    let line_long : length line ≡ high - low = length-drop low front ∙ ap (λ (n : ℕ). n - low) front_long in
    let before : take low front ≡ take low lines = take-take low high lines (omega arith) in
    let joined : take low lines ++ line ≡ front = ap (λ (list : List ℕ). list ++ line) (sym before) ∙ take-append-drop low front in
    record {
      before = take low lines;
      line = line;
      after = drop high lines;
      parts =
          sym (take-append-drop high lines) ∙ ap (λ (list : List ℕ). list ++ drop high lines) (sym joined)
          ∙ append_assoc (take low lines) line (drop high lines);
      whole = between.low_whole;
      number = number;
      wrong = record {
        whole = lines-drop low front between.high_whole;
        one = one_line line (lines-drop low front between.high_whole) (omega arith) (λ i inside.
            subst (λ (byte : ℕ). byte ≢ 10) (sym (get_or-drop low front i 0 ∙ get_or-take high lines (low + i) 0 (omega arith)))
            (none (low + i) (omega arith) (omega arith)));
        so_far = between.begun;
        no_more = subst (λ (list : List ℕ). BeginsListing list → ⊥) (sym joined) between.wrong;
      };
    }

-- what follows from a verdict
pub begins_whole : (text : List ℕ) (verdict : Verdict) (file : ProgramFile) → verdict ≡ Whole file → Judges text verdict →
    BeginsListing text
begins_whole text verdict file is told = listing_begins text (file.program, file.fill, rw is at told)

pub begins_begun : (text : List ℕ) (verdict : Verdict) → verdict ≡ Begun → Judges text verdict → BeginsListing text
begins_begun text verdict is told = (rw is at told).0

pub none_wrong : (text : List ℕ) (verdict : Verdict) (n : ℕ) → verdict ≡ Wrong n → Judges text verdict → are_lines text ≡ true →
    BeginsListing text → ⊥
none_wrong text verdict n is told = (rw is at told).1

-- ---- the answer

pub ends_short : (text : List ℕ) (end k : ℕ) (verdict : Verdict) → are_lines (take end text) ≡ true →
    has_no_newline (drop end text) ≡ true → k ≡ line_count (take end text) → verdict ≡ Begun →
    Judges (take end text) verdict → EndsShort text k
ends_short text end k verdict whole plain number is told =
    let begun = rw is at told in
    record {
      lines = take end text;
      rest = drop end text;
      parts = sym (take-append-drop end text);
      whole = whole;
      plain = plain;
      number = number;
      begun = begun.0;
      unfinished = begun.1;
    }

pub rest_at_fault : (text : List ℕ) (end k : ℕ) (verdict : Verdict) (file : ProgramFile) → end < length text →
    are_lines (take end text) ≡ true → has_no_newline (drop end text) ≡ true →
    k ≡ line_count (take end text) + 1 → verdict ≡ Whole file → Judges (take end text) verdict → LineAtFault text k
rest_at_fault text end k verdict file more whole plain number is told =
    let long = length-drop end text in
    record {
      before = take end text;
      line = drop end text;
      after = [];
      parts = sym (take-append-drop end text) ∙ ap (λ (list : List ℕ). take end text ++ list) (sym (append-nil (drop end text)));
      whole = whole;
      number = number;
      wrong = inr (refl, record { some = omega arith; plain = plain; all = (file.program, file.fill, rw is at told) });
    }

pub line_at_fault : (text : List ℕ) (end k : ℕ) → HasWrongLine (take end text) k → LineAtFault text k
line_at_fault text end k found = record {
  before = found.before;
  line = found.line;
  after = found.after ++ drop end text;
  parts =
      sym (take-append-drop end text) ∙ ap (λ (list : List ℕ). list ++ drop end text) found.parts
      ∙ append_assoc found.before (found.line ++ found.after) (drop end text)
      ∙ ap (λ (list : List ℕ). found.before ++ list) (append_assoc found.line found.after (drop end text));
  whole = found.whole;
  number = found.number;
  wrong = inl found.wrong;
}
