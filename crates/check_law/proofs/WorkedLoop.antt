-- The worked loop with its lists is sound, and found to show both its fields.
use Rattle.std.proofs.Common.{◌≡◌, ℕ, zero, suc, ◌+◌, ◌-◌, ◌<◌, ◌≤◌, Bool, true, false, ◌&&◌, Option, Some, None, refl, ap, ◌∙◌, arith}
use Rattle.std.proofs.Common.{⊎_elim}
use Rattle.std.proofs.lemmas.Bool.{and_parts, cases_lt}
use Rattle.std.proofs.Common.{[], ◌^◌}
use Rattle.std.proofs.lemmas.List.Elements.{All-nil, All-cons}
use Rattle.picture_model.specs.Described.{IsDescription}
use Rattle.pixel_layout.specs.declared.Parity.TheVariants.{Top, Bottom}
use Rattle.machine_model.specs.declared.Cause.{Cause}
use Rattle.machine_model.specs.Paths.{RiscProgram, IsSound, Place, cause_at, next_place, path}
use Rattle.check_law.specs.Laws.{IsChecked}
use Rattle.check_law.specs.Worked.{small, driver_loop, loop_top, loop_bottom}

abbrev is_none_cause : Option Cause → Bool
is_none_cause None = true
is_none_cause (Some cause) = false

none_cause : (cause : Option Cause) → is_none_cause cause ≡ true → cause ≡ None
none_cause None h = refl
none_cause (Some cause) h = cc

-- the first places are fine, and the last of them is the first again
abbrev all_fine : RiscProgram → ℕ → Place → Bool
all_fine program zero place = true
all_fine program (suc count) place = is_none_cause (cause_at program place) && all_fine program count (next_place program place)

abbrev walked_to : RiscProgram → ℕ → Place → Place
walked_to program zero place = place
walked_to program (suc count) place = walked_to program count (next_place program place)

abbrev first : RiscProgram → Place
first program = record { pc = program.base; target = None }

module _ (program : RiscProgram) where
  path_to : (from count : ℕ) → path program (count + from) ≡ walked_to program count (path program from)
  path_to from zero = let none : 0 + from ≡ from = omega arith in ap (path program) none
  path_to from (suc count) =
      let next : suc count + from ≡ count + suc from = omega arith in
      ap (path program) next ∙ path_to (suc from) count

  fine_to : (count from : ℕ) → all_fine program count (path program from) ≡ true → (k : ℕ) → k < count →
      cause_at program (path program (from + k)) ≡ None
  fine_to zero from fine k lt = absurd (omega arith)
  fine_to (suc count) from fine zero lt =
      let here : from + 0 ≡ from = omega arith in
      ap (λ (n : ℕ). cause_at program (path program n)) here ∙ none_cause _ (and_parts _ _ fine).0
  fine_to (suc count) from fine (suc k) lt =
      let here : from + suc k ≡ suc from + k = omega arith in
      ap (λ (n : ℕ). cause_at program (path program n)) here ∙ fine_to count (suc from) (and_parts _ _ fine).1 k (omega arith)

  module _ (round : ℕ) (some : 0 < round) (fine : all_fine program round (path program 0) ≡ true)
      (comes : walked_to program round (path program 0) ≡ path program 0) where
    again : (k : ℕ) → path program (k + round) ≡ path program k
    again zero = let here : 0 + round ≡ round + 0 = omega arith in ap (path program) here ∙ path_to 0 round ∙ comes
    again (suc k) = let here : suc k + round ≡ suc (k + round) = omega arith in ap (path program) here ∙ ap (next_place program) (again k)

    fine_up : (bound k : ℕ) → k ≤ bound → cause_at program (path program k) ≡ None
    fine_up zero k le =
        let here : k ≡ 0 + 0 = omega arith in
        ap (λ (n : ℕ). cause_at program (path program n)) here ∙ fine_to round 0 fine 0 some
    fine_up (suc bound) k le =
        ⊎_elim
        (λ less. let here : k ≡ 0 + k = omega arith in ap (λ (n : ℕ). cause_at program (path program n)) here ∙ fine_to round 0 fine k less)
        (λ more.
        let back : k ≡ (k - round) + round = omega arith in
        ap (λ (n : ℕ). cause_at program (path program n)) back ∙ ap (cause_at program) (again (k - round))
        ∙ fine_up bound (k - round) (omega arith))
        (cases_lt k round)

    sound_round : IsSound program
    sound_round number = fine_up number number (omega arith)

loop_sound : IsSound driver_loop
loop_sound = sound_round driver_loop 22 (omega arith) refl refl

-- ---- what the check finds

described : IsDescription small
described =
    record {
      formed = record {
        stride = tt;
        offset = tt;
        chroma_first = tt;
        vbi_skip = tt;
        pages = omega arith;
        no_pages = tt;
        chunks = tt;
        bytes = tt;
      };
      pages = All-cons (λ page. page < 2 ^ 32) 131072 [] (omega arith) (All-nil (λ page. page < 2 ^ 32));
      clips = omega arith;
      skipped = omega arith;
    }

pub top_checked : IsChecked driver_loop small Top loop_top
top_checked =
    record {
      sound = loop_sound;
      description = described;
      frame = refl;
      described = refl;
      number = 0;
      on_path = refl;
      opens = refl;
      found = refl;
    }

pub bottom_checked : IsChecked driver_loop small Bottom loop_bottom
bottom_checked =
    record {
      sound = loop_sound;
      description = described;
      frame = refl;
      described = refl;
      number = 11;
      on_path = refl;
      opens = refl;
      found = refl;
    }
