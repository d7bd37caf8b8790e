-- How far a text agrees with lines.
use Rattle.std.proofs.Common.{◌≡◌, ◌≢◌, ℕ, ◌+◌, ◌-◌, ◌<◌, ◌≤◌, Bool, true, false, List, [], ◌++◌, length, length-append, take, drop, sym}
use Rattle.std.proofs.Common.{ap, ◌∙◌, arith, inl, inr, append_assoc, take-append-drop}
use Rattle.std.specs.Borrow.{Bor}
use Rattle.std.specs.Cmp.Lexicographic.{pointwise, bytes_decides}
use Rattle.std.specs.Prelude.{◌==◌, slice_index, Result, Ok, Err}
use Rattle.std.proofs.lemmas.Bool.{cases_lt}
use Rattle.std.proofs.lemmas.List.{append-nil, append_cancel_left, get_or_append_left, length-drop, take_all}
use Rattle.std.proofs.Math.Seq.{take-append-add, take-append_seam}
use Rattle.risc_asm.specs.Verdicts.{Differs, IsAlike, WithoutLines}

abbrev pub is_front : List ℕ → List ℕ → Bool
is_front piece text = pointwise (λ one other. one == other) (take (length piece) text) piece

-- the bytes at one place differ, so neither text is in front of the other
differ_at : (k : ℕ) (a b x y : List ℕ) → k < length a → k < length b → slice_index a k ≢ slice_index b k → a ++ x ≡ b ++ y → ⊥
differ_at k a b x y within also other same =
    other (sym (get_or_append_left a x 0 k within) ∙ ap (λ (list : List ℕ). slice_index list k) same ∙ get_or_append_left b y 0 k also)

not_front : (piece rest text : List ℕ) → is_front piece text ≡ false → text ≡ piece ++ rest → ⊥
not_front piece rest text isnt is =
    let front : take (length piece) text ≡ piece = ap (take (length piece)) is ∙ take-append_seam piece rest in
    let yes = (bytes_decides (take (length piece) text) piece).1 front in
    cc

pub piece_found : (text piece rest : List ℕ) → is_front piece text ≡ true → rest ≡ drop (length piece) text → text ≡ piece ++ rest
piece_found text piece rest is rest_is =
    sym (take-append-drop (length piece) text)
    ∙ ap (λ (list : List ℕ). list ++ drop (length piece) text) ((bytes_decides (take (length piece) text) piece).0 is)
    ∙ ap (λ (list : List ℕ). piece ++ list) (sym rest_is)

pub piece_differs : (k : ℕ) (text piece left : List ℕ) → k ≤ length text → k ≤ length piece → take k text ≡ take k piece →
    (k < length text → k < length piece → slice_index text k ≢ slice_index piece k) → is_front piece text ≡ false → left ≡ drop k text →
    Differs piece text left
piece_differs k text piece left within also same longest isnt left_is = record {
  shown = take k text;
  more = drop k piece;
  text_is = sym (take-append-drop k text) ∙ ap (λ (list : List ℕ). take k text ++ list) (sym left_is);
  lines_are = sym (take-append-drop k piece) ∙ ap (λ (list : List ℕ). list ++ drop k piece) (sym same);
  not_in_front = λ rest is. not_front piece rest text isnt is;
  apart = λ some rest later whole.
      let size : length left ≡ length text - k = ap length left_is ∙ length-drop k text in
      let inside : k < length text = omega arith in
      elim (cases_lt k (length piece)) as (λ _. ⊥) [
        | inl more ↦ differ_at k text piece later rest inside more (longest inside more) (sym whole)
        | inr none ↦
            let end : k ≡ length piece = omega arith in
            let front : take (length piece) text ≡ piece = ap (λ (n : ℕ). take n text) (sym end) ∙ same ∙ take_all k piece none in
            let yes = (bytes_decides (take (length piece) text) piece).1 front in
            absurd cc
      ];
}

-- lines behind lines
pub first_differs : (a b text left : List ℕ) → Differs a text left → Differs (a ++ b) text left
first_differs a b text left d = record {
  shown = d.shown;
  more = d.more ++ b;
  text_is = d.text_is;
  lines_are = ap (λ (list : List ℕ). list ++ b) d.lines_are ∙ append_assoc d.shown d.more b;
  not_in_front = λ rest is. d.not_in_front (b ++ rest) (is ∙ append_assoc a b rest);
  apart = λ some rest later same. d.apart some (b ++ rest) later (sym (append_assoc a b rest) ∙ same);
}

pub then_differs : (a b text rest left : List ℕ) → text ≡ a ++ rest → Differs b rest left → Differs (a ++ b) text left
then_differs a b text rest left is d = record {
  shown = a ++ d.shown;
  more = d.more;
  text_is = is ∙ ap (λ (list : List ℕ). a ++ list) d.text_is ∙ sym (append_assoc a d.shown left);
  lines_are = ap (λ (list : List ℕ). a ++ list) d.lines_are ∙ sym (append_assoc a d.shown d.more);
  not_in_front = λ more same. d.not_in_front more (append_cancel_left a rest (b ++ more) (sym is ∙ same ∙ append_assoc a b more));
  apart = λ some more later same. d.apart some more later (append_cancel_left a (b ++ more) (rest ++ later)
      (sym (append_assoc a b more) ∙ same ∙ ap (λ (list : List ℕ). list ++ later) is ∙ append_assoc a rest later));
}

pub then_found : (a b text rest left : List ℕ) → text ≡ a ++ rest → rest ≡ b ++ left → text ≡ (a ++ b) ++ left
then_found a b text rest left is next = is ∙ ap (λ (list : List ℕ). a ++ list) next ∙ sym (append_assoc a b left)

pub then_lines : (a b text rest : List ℕ) (result : Result (Bor (List ℕ)) (Bor (List ℕ))) → text ≡ a ++ rest → WithoutLines b rest result →
    WithoutLines (a ++ b) text result
then_lines a b text rest (Ok left) is next = then_found a b text rest left.now is next
then_lines a b text rest (Err left) is next = then_differs a b text rest left.now is next

-- ---- the whole listing

-- the last lines
pub end_alike : (k : ℕ) (text lines : List ℕ) → k ≤ length text → k ≤ length lines → take k text ≡ take k lines →
    (k < length text → k < length lines → slice_index text k ≢ slice_index lines k) → (text ≡ lines → ⊥) →
    IsAlike k text lines
end_alike k text lines within also same longest other = record {
  starts = record {
    within = within;
    more = drop k lines;
    is = sym (take-append-drop k lines) ∙ ap (λ (list : List ℕ). list ++ drop k lines) (sym same);
  };
  other = other;
  apart = λ inside rest whole.
      let size : length lines ≡ length text + length rest = ap length whole ∙ length-append text rest in
      differ_at k text lines rest [] inside (omega arith) (longest inside (omega arith)) (sym whole ∙ sym (append-nil lines));
}

-- bytes up to what differs
pub alike_before : (n : ℕ) (lines last text left : List ℕ) → n ≡ length text - length left → Differs lines text left →
    IsAlike n text (lines ++ last)
alike_before n lines last text left n_is d =
    let size : length text ≡ length d.shown + length left = ap length d.text_is ∙ length-append d.shown left in
    let long : n ≡ length d.shown = omega arith in
    let front : take n text ≡ d.shown =
    ap (λ (n : ℕ). take n text) long ∙ ap (take (length d.shown)) d.text_is ∙ take-append_seam d.shown left in
    record {
      starts = record {
        within = omega arith;
        more = d.more ++ last;
        is =
            ap (λ (list : List ℕ). list ++ last) d.lines_are ∙ append_assoc d.shown d.more last
            ∙ ap (λ (list : List ℕ). list ++ (d.more ++ last)) (sym front);
      };
      other = λ same. d.not_in_front last same;
      apart = λ inside rest same. d.apart (omega arith) last rest same;
    }

-- bytes after lines that are in front
pub alike_after : (n k : ℕ) (lines last text rest : List ℕ) → text ≡ lines ++ rest → n ≡ length text - length rest + k →
    IsAlike k rest last → IsAlike n text (lines ++ last)
alike_after n k lines last text rest is n_is end =
    let size : length text ≡ length lines + length rest = ap length is ∙ length-append lines rest in
    let within = end.starts.within in
    let long : n ≡ length lines + k = omega arith in
    let front : take n text ≡ lines ++ take k rest =
    ap (λ (n : ℕ). take n text) long ∙ ap (take (length lines + k)) is ∙ take-append-add lines rest k in
    record {
      starts = record {
        within = omega arith;
        more = end.starts.more;
        is =
            ap (λ (list : List ℕ). lines ++ list) end.starts.is ∙ sym (append_assoc lines (take k rest) end.starts.more)
            ∙ ap (λ (list : List ℕ). list ++ end.starts.more) (sym front);
      };
      other = λ same. end.other (append_cancel_left lines rest last (sym is ∙ same));
      apart = λ inside more same. end.apart (omega arith) more
          (append_cancel_left lines last (rest ++ more) (same ∙ ap (λ (list : List ℕ). list ++ more) is ∙ append_assoc lines rest more));
    }
