-- Tracks count what they pass.
use Rattle.std.proofs.Common.{◌≡◌, ℕ, zero, suc, ◌+◌, ◌<◌, Bool, true, false, List, [], ◌∷◌, ◌++◌, Option, option_map, refl, sym, ap, ◌∙◌}
use Rattle.std.proofs.Common.{arith, append_assoc}
use Rattle.fifo_model.specs.declared.Queue.{Queue}
use Rattle.machine_model.specs.Paths.{RiscProgram}
use Rattle.field_law.specs.Sections.{Ask, ask}
use Rattle.check_model.specs.ByBytes.{bytes_asked, going_on}
use Rattle.check_model.specs.Lines.{Reach, nowhere, reach_by, reached}
use Rattle.field_check.specs.Cursors.{Fits, IsAt, left_of, reach_of}
use Rattle.field_check.specs.declared.cursors.Cursor.{Cursor}
use Rattle.field_check.specs.declared.cursors.Track.{Track}

abbrev with_bytes : Reach → ℕ → Reach
with_bytes r bytes = record { lines = r.lines; bytes = bytes }

going_reached : (count : ℕ) (address : Option ℕ) (r : Reach) → reached r (going_on count address) ≡ with_bytes r (r.bytes + count)
going_reached zero address r = let same : r.bytes ≡ r.bytes + 0 = omega arith in ap (with_bytes r) same
going_reached (suc count) address r =
    let same : r.bytes + 1 + count ≡ r.bytes + suc count = omega arith in
    going_reached count (option_map (λ at. at + 1) address) (with_bytes r (r.bytes + 1)) ∙ ap (with_bytes r) same

pub part_reached : (sol : Bool) (count : ℕ) (address : Option ℕ) (r : Reach) → 0 < count →
    reached r (bytes_asked (ask sol count address)) ≡ reach_by r (ask sol count address)
part_reached false count address r some = going_reached count address r
part_reached true zero address r some = absurd (omega arith)
part_reached true (suc count) address r some =
    let same : 1 + count ≡ suc count = omega arith in
    going_reached count (option_map (λ at. at + 1) address) (record { lines = r.lines + 1; bytes = 1 })
    ∙ ap (λ (bytes : ℕ). record { lines = r.lines + 1; bytes = bytes }) same

pub reached_append : (xs ys : List Ask) (r : Reach) → reached r (xs ++ ys) ≡ reached (reached r xs) ys
reached_append [] ys r = refl
reached_append (x ∷ xs) ys r = reached_append xs ys (reach_by r x)

module _ (full : List Ask) (plan : RiscProgram) (q : Queue) (t : Track) (is : IsAt full plan q t) where
  -- another cursor of which the same is left
  pub looked_at : (c : Cursor) → left_of plan q c ≡ left_of plan q t.cursor → Fits plan q c →
      IsAt full plan q (record { cursor = c; lines = t.lines; bytes = t.bytes })
  looked_at c same fits =
      record { fits = fits; taken = is.taken; whole = is.whole ∙ ap (λ (left : List Ask). is.taken ++ left) (sym same); reach = is.reach }

  -- a part of what is left is taken
  pub taken_at : (t' : Track) (part rest : List Ask) → left_of plan q t.cursor ≡ part ++ rest → left_of plan q t'.cursor ≡ rest →
      Fits plan q t'.cursor →
      reached (reach_of t) part ≡ reach_of t' → IsAt full plan q t'
  taken_at t' part rest left later fits counts =
      record {
        fits = fits;
        taken = is.taken ++ part;
        whole =
            is.whole ∙ ap (λ (left : List Ask). is.taken ++ left) (left ∙ ap (λ (rest : List Ask). part ++ rest) (sym later))
            ∙ sym (append_assoc is.taken part (left_of plan q t'.cursor));
        reach = reached_append is.taken part nowhere ∙ ap (λ (r : Reach). reached r part) is.reach ∙ counts;
      }
