-- The bytes that are taken of a whole line are those of its entries.
use Rattle.std.proofs.Common.{◌≡◌, ℕ, zero, suc, ◌+◌, ◌<◌, Bool, true, false, ◌&&◌, ◌==◌, List, [], ◌∷◌, ◌++◌, append_assoc, drop}
use Rattle.std.proofs.Common.{drop-drop, length-drop, take, take-append-drop, refl, sym, ap, ap₂, ◌∙◌, arith, if◌then◌else◌, eqb-true}
use Rattle.std.proofs.lemmas.Bool.{and_parts, cond-false, cond-true, ne_eqb}
use Rattle.std.proofs.lemmas.List.{take_all}
use Rattle.sync_status.specs.Statuses.{valid_bytes}
use Rattle.fifo_model.specs.declared.Entry.{Entry}
use Rattle.fifo_model.specs.Queues.{bytes_taken}
use Rattle.field_law.specs.Fields.{carried, valid_part}
use Rattle.field_law.proofs.Lines.{bytes_taken-part, length-valid_part}
use Rattle.damage_model.specs.Lines.{AreInOrder, entries_taken, follow_on, go_on}
use Rattle.damage_model.specs.Takings.{Taking}
use Rattle.damage_model.proofs.StoredTakes.{taken_bytes}

not_zero : (n : ℕ) → (suc n == 0) ≡ false
not_zero n = ne_eqb (suc n) 0 (λ none. absurd (omega arith))

module _ (entry_at : ℕ → Entry) where
  -- what is left of an entry of which some bytes were taken
  abbrev rest_at : ℕ → ℕ → List ℕ
  rest_at place zero = []
  rest_at place (suc taken) = drop (suc taken) (valid_part (entry_at place))

  rest_some : (place taken : ℕ) → 0 < taken → rest_at place taken ≡ drop taken (valid_part (entry_at place))
  rest_some place zero some = absurd (omega arith)
  rest_some place (suc taken) some = refl

  -- the first of some takings, and the entries of the others
  first_entry : (t : Taking) (rest : List Taking) (taken : ℕ) → t.taken ≡ taken → t.entry ≡ entry_at t.place →
      drop taken (valid_part t.entry) ++ carried (entries_taken rest) ≡ rest_at t.place taken ++ carried (entries_taken (t ∷ rest))
  first_entry t rest zero same is =
      sym (ap carried (cond-true (t.taken == 0) (t.entry ∷ entries_taken rest) (entries_taken rest) (ap (λ (n : ℕ). n == 0) same)))
  first_entry t rest (suc taken) same is =
      ap₂ (λ (xs ys : List ℕ). xs ++ ys) (ap (λ (e : Entry). drop (suc taken) (valid_part e)) is)
      (sym (ap carried
      (cond-false (t.taken == 0) (t.entry ∷ entries_taken rest) (entries_taken rest) (ap (λ (n : ℕ). n == 0) same ∙ not_zero taken))))

  pub bytes_go_on : (ts : List Taking) (from y place taken : ℕ) → AreInOrder entry_at from y ts → go_on place taken ts ≡ true →
      taken_bytes ts ≡ rest_at place taken ++ carried (entries_taken ts)
  bytes_go_on [] from y place zero order goes = refl
  bytes_go_on [] from y place (suc taken) order goes = let never = not_zero taken in cc
  bytes_go_on (t ∷ rest) from y place taken order goes =
      by_whole (t.taken + t.count == valid_bytes t.entry.status) refl
      (λ whole. bytes_go_on rest t.place (t.taken + t.count) (place + 1) 0 order.4 whole)
      (λ part. bytes_go_on rest t.place (t.taken + t.count) place (taken + t.count) order.4 part)
    where
      parts : ((t.place == place && t.taken == taken) ≡ true)
          × ((if taken + t.count == valid_bytes t.entry.status then go_on (place + 1) 0 rest else go_on place (taken + t.count) rest)
          ≡ true)
      parts =
          and_parts (t.place == place && t.taken == taken)
          (if taken + t.count == valid_bytes t.entry.status then go_on (place + 1) 0 rest else go_on place (taken + t.count) rest) goes

      there : t.place ≡ place
      there = eqb-true t.place place (and_parts (t.place == place) (t.taken == taken) parts.0).0

      same : t.taken ≡ taken
      same = eqb-true t.taken taken (and_parts (t.place == place) (t.taken == taken) parts.0).1

      first_bytes : bytes_taken t.entry t.taken t.count ≡ take t.count (drop taken (valid_part t.entry))
      first_bytes =
          bytes_taken-part t.entry t.taken t.count order.3 ∙ ap (λ (n : ℕ). take t.count (drop n (valid_part t.entry))) same

      as_told : drop taken (valid_part t.entry) ++ carried (entries_taken rest) ≡ rest_at place taken ++ carried (entries_taken (t ∷ rest))
      as_told = first_entry t rest taken same order.1 ∙ ap (λ (p : ℕ). rest_at p taken ++ carried (entries_taken (t ∷ rest))) there

      by_whole : (whole : Bool) → (t.taken + t.count == valid_bytes t.entry.status) ≡ whole →
          (go_on (place + 1) 0 rest ≡ true → taken_bytes rest ≡ carried (entries_taken rest)) →
          (go_on place (taken + t.count) rest ≡ true → taken_bytes rest ≡ rest_at place (taken + t.count) ++ carried (entries_taken rest)) →
          bytes_taken t.entry t.taken t.count ++ taken_bytes rest ≡ rest_at place taken ++ carried (entries_taken (t ∷ rest))
      by_whole true is later part =
          let whole = eqb-true (t.taken + t.count) (valid_bytes t.entry.status) is in
          let goes_later : go_on (place + 1) 0 rest ≡ true =
          sym (cond-true (taken + t.count == valid_bytes t.entry.status) (go_on (place + 1) 0 rest) (go_on place (taken + t.count) rest)
          (ap (λ (n : ℕ). n + t.count == valid_bytes t.entry.status) (sym same) ∙ is)) ∙ parts.1 in
          let all : take t.count (drop taken (valid_part t.entry)) ≡ drop taken (valid_part t.entry) =
          take_all t.count (drop taken (valid_part t.entry))
          (omega (arith, length-drop taken (valid_part t.entry), length-valid_part t.entry, same)) in
          ap₂ (λ (xs ys : List ℕ). xs ++ ys) (first_bytes ∙ all) (later goes_later) ∙ as_told
      by_whole false is later part =
          let some = order.2 in
          let goes_later : go_on place (taken + t.count) rest ≡ true =
          sym (cond-false (taken + t.count == valid_bytes t.entry.status) (go_on (place + 1) 0 rest) (go_on place (taken + t.count) rest)
          (ap (λ (n : ℕ). n + t.count == valid_bytes t.entry.status) (sym same) ∙ is)) ∙ parts.1 in
          let here : entry_at place ≡ t.entry = ap entry_at (sym there) ∙ sym order.1 in
          let more : rest_at place (taken + t.count) ≡ drop t.count (drop taken (valid_part t.entry)) =
          rest_some place (taken + t.count) (omega arith) ∙ ap (λ (e : Entry). drop (taken + t.count) (valid_part e)) here
          ∙ sym (drop-drop t.count taken (valid_part t.entry)) in
          ap₂ (λ (xs ys : List ℕ). xs ++ ys) first_bytes (part goes_later ∙ ap (λ (xs : List ℕ). xs ++ carried (entries_taken rest)) more)
          ∙ sym (append_assoc (take t.count (drop taken (valid_part t.entry))) (drop t.count (drop taken (valid_part t.entry)))
          (carried (entries_taken rest)))
          ∙ ap (λ (xs : List ℕ). xs ++ carried (entries_taken rest)) (take-append-drop t.count (drop taken (valid_part t.entry))) ∙ as_told

  pub line_bytes : (ts : List Taking) (from y : ℕ) → AreInOrder entry_at from y ts → follow_on ts ≡ true →
      taken_bytes ts ≡ carried (entries_taken ts)
  line_bytes [] from y order goes = refl
  line_bytes (t ∷ rest) from y order goes = bytes_go_on (t ∷ rest) from y t.place 0 order goes
