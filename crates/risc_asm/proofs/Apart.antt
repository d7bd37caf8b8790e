-- Spans that are tested one after the other.
use Rattle.std.proofs.Common.{◌≡◌, ℕ, ◌+◌, ◌-◌, ◌/◌, ◌<◌, ◌≤◌, ◌||◌, Bool, true, false, List, ◌∷◌, length, drop, get_or, Some, refl, sym}
use Rattle.std.proofs.Common.{ap, subst, ◌∙◌}
use Rattle.std.specs.Prelude.{if◌then◌else◌, slice_index}
use Rattle.std.specs.List.{All, list_any}
use Rattle.std.proofs.lemmas.List.Folds.{list_any_none}
use Rattle.page_table.proofs.Listed.{none_passes}
use Rattle.std.proofs.lemmas.List.{drop_all, drop_more}
use Rattle.page_table.specs.Grants.{Chunk, is_met}
use Rattle.machine_model.specs.Paths.{AreApart, IsSpan, Span, end_of, is_there, shares_byte, stands_in, word_among}
use Rattle.risc_listing.proofs.Spans.{no_span}
use Rattle.risc_text.specs.Assembly.{of_spans}

module _ (spans : List Span) (n : ℕ) (s : Span) (inside : n < length spans) (is : s ≡ get_or spans n no_span) where
  next : drop n spans ≡ s ∷ drop (n + 1) spans
  next = drop_more spans n no_span inside ∙ ap (λ (s : Span). s ∷ drop (n + 1) spans) (sym is)

  pub apart_on : (from : ℕ) → AreApart from (drop n spans) → (from ≤ s.at) × IsSpan s × AreApart (end_of s + 1) (drop (n + 1) spans)
  apart_on from apart = subst (AreApart from) next apart

  pub apart_back : (from : ℕ) → from ≤ s.at → IsSpan s → AreApart (end_of s + 1) (drop (n + 1) spans) → AreApart from (drop n spans)
  apart_back from order is_span apart = subst (AreApart from) (sym next) (order, is_span, apart)

  there_if : (stands : Bool) (word address : ℕ) → is_there (if stands then Some word else word_among (drop (n + 1) spans) address)
      ≡ (stands || is_there (word_among (drop (n + 1) spans) address))
  there_if true word address = refl
  there_if false word address = refl

  pub there_on : (address : ℕ) →
      is_there (word_among (drop n spans) address) ≡ (stands_in s address || is_there (word_among (drop (n + 1) spans) address))
  there_on address =
      ap (λ (spans : List Span). is_there (word_among spans address)) next
      ∙ there_if (stands_in s address) (slice_index s.words ((address - s.at) / 4)) address

  pub shares_on : (c : Chunk) →
      shares_byte (of_spans 0 (drop n spans)) c ≡ (is_met s.at (end_of s) c || shares_byte (of_spans 0 (drop (n + 1) spans)) c)
  shares_on c = ap (λ (spans : List Span). shares_byte (of_spans 0 spans) c) next

pub there_end : (spans : List Span) (n address : ℕ) → length spans ≤ n → is_there (word_among (drop n spans) address) ≡ false
there_end spans n address past = ap (λ (spans : List Span). is_there (word_among spans address)) (drop_all n spans past)

pub shares_end : (spans : List Span) (n : ℕ) (c : Chunk) → length spans ≤ n → shares_byte (of_spans 0 (drop n spans)) c ≡ false
shares_end spans n c past = ap (λ (spans : List Span). shares_byte (of_spans 0 spans) c) (drop_all n spans past)

or_parts : (one other : Bool) → (one || other) ≡ false → (one ≡ false) × (other ≡ false)
or_parts true other is = absurd cc
or_parts false other is = (refl, is)

abbrev AreClear : List Span → List Chunk → Type 0
AreClear spans grants = All (λ c. shares_byte (of_spans 0 spans) c ≡ false) grants

module _ (spans : List Span) (n : ℕ) (s : Span) (inside : n < length spans) (is : s ≡ get_or spans n no_span) (grants : List Chunk) where
  first_clear : AreClear (drop n spans) grants → All (λ c. is_met s.at (end_of s) c ≡ false) grants
  first_clear all = λ k d h. (or_parts _ _ (sym (shares_on spans n s inside is (get_or grants k d)) ∙ all k d h)).0

  pub clear_on : AreClear (drop n spans) grants → AreClear (drop (n + 1) spans) grants
  clear_on all = λ k d h. (or_parts _ _ (sym (shares_on spans n s inside is (get_or grants k d)) ∙ all k d h)).1

  pub clear_met : list_any (is_met s.at (end_of s)) grants ≡ true → AreClear (drop n spans) grants → ⊥
  clear_met met all = let none = list_any_none (is_met s.at (end_of s)) grants (first_clear all) in cc

  pub clear_back : list_any (is_met s.at (end_of s)) grants ≡ false → AreClear (drop (n + 1) spans) grants → AreClear (drop n spans) grants
  clear_back met later =
      let none = none_passes (is_met s.at (end_of s)) grants met in
      λ k d h. shares_on spans n s inside is (get_or grants k d)
      ∙ ap (λ (one : Bool). one || shares_byte (of_spans 0 (drop (n + 1) spans)) (get_or grants k d)) (none k d h) ∙ later k d h
