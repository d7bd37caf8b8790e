-- The choice among the openings on the path.
use Rattle.std.proofs.Common.{◌≡◌, ℕ, suc, ◌+◌, ◌*◌, Bool, true, false, List, ◌∷◌, length, map, Option, Some, None, Ok, Err, refl, sym, ap}
use Rattle.std.proofs.Common.{◌∙◌, arith, cond}
use Rattle.std.specs.Prelude.{filter, find, slice_index_or, unwrap_or}
use Rattle.std.specs.List.{range_with_len}
use Rattle.std.proofs.lemmas.Bool.{cond-false, cond-true}
use Rattle.risc_word.specs.declared.Instr.{Instr}
use Rattle.risc_word.specs.declared.Instr.TheVariants.{Write, Skip, WriteC, Jump, Sync, Write123, Skip123, Write1S23}
use Rattle.risc_word.specs.declared.WordFault.{WordFault}
use Rattle.risc_word.specs.Words.{Reading, encoded}
use Rattle.pixel_layout.specs.declared.Parity.{Parity}
use Rattle.machine_model.specs.Paths.{RiscProgram, IsSound, Place, fetch, path, place_after}
use Rattle.machine_model.proofs.Places.{path-suc, place-IsFine}
use Rattle.capture_desc.specs.declared.desc.Desc.{Desc}
use Rattle.picture_model.specs.Programs.{vertical}
use Rattle.field_law.specs.Trails.{next_at}
use Rattle.check_model.specs.Verdicts.{is_opening, is_shown, opens_at, said}
use Rattle.check_model.specs.declared.Verdict.{Verdict}
use Rattle.check_model.specs.declared.Verdict.TheVariants.{Differs}
use Rattle.check_model.specs.declared.Why.TheVariants.{NoSync}
use Rattle.field_check.specs.Walks.{chosen_from, kept, said_from}

-- the next place of the path
pub next_pc : (instr : Instr) (count : ℕ) (place : Place) → count ≡ length (encoded instr) →
    (place_after instr count place).pc ≡ next_at instr place.pc
next_pc (Jump ctl target) count place e = refl
next_pc (Sync ctl resync code) count place e = ap (λ (count : ℕ). place.pc + 4 * count) e
next_pc (Write ctl ends off n addr) count place e = ap (λ (count : ℕ). place.pc + 4 * count) e
next_pc (Skip ctl ends n) count place e = ap (λ (count : ℕ). place.pc + 4 * count) e
next_pc (WriteC ctl ends off n) count place e = ap (λ (count : ℕ). place.pc + 4 * count) e
next_pc (Write123 ctl ends off counts addrs) count place e = ap (λ (count : ℕ). place.pc + 4 * count) e
next_pc (Skip123 ctl ends counts) count place e = ap (λ (count : ℕ). place.pc + 4 * count) e
next_pc (Write1S23 ctl ends off counts addr) count place e = ap (λ (count : ℕ). place.pc + 4 * count) e

module _ (program : RiscProgram) (sound : IsSound program) (k at : ℕ) (here : at ≡ (path program k).pc) where
  -- an instruction is there
  pub readable : (fault : WordFault) → fetch program at ≡ Err fault → ⊥
  readable fault is = let fine = place-IsFine program k sound in let both = sym is ∙ ap (fetch program) here ∙ fine.stands in cc

  pub next_there : (instr : Instr) (count : ℕ) → fetch program at ≡ Ok (instr, count) → count ≡ length (encoded instr) →
      next_at instr at ≡ (path program (k + 1)).pc
  next_there instr count is long =
      let more : k + 1 ≡ suc k = omega arith in
      ap (next_at instr) here ∙ sym (next_pc instr count (path program k) long)
      ∙ sym (ap (λ (place : Place). place.pc)
      (ap (path program) more ∙ path-suc program k instr count sound (ap (fetch program) (sym here) ∙ is)))

  module _ (d : Desc) (field : Parity) (instr : Instr) (count : ℕ) (is : fetch program at ≡ Ok (instr, count)) (n m : ℕ)
      (long : n ≡ suc m) where
    opens_is : opens_at program field (path program k).pc ≡ is_opening field instr
    opens_is =
        ap (opens_at program field) (sym here)
        ∙ ap (λ (reading : Reading). elim reading as (λ _. Bool) [ Err fault ↦ false | Ok read ↦ is_opening field read.0 ]) is

    listed : said_from program d field k n ≡ map (said program d field) (cond (opens_at program field (path program k).pc)
        ((path program k).pc ∷ filter (opens_at program field) (map (λ number. (path program number).pc) (range_with_len (k + 1) m)))
        (filter (opens_at program field) (map (λ number. (path program number).pc) (range_with_len (k + 1) m))))
    listed = ap (said_from program d field k) long

    pub passed : is_opening field instr ≡ false → said_from program d field k n ≡ said_from program d field (k + 1) m
    passed other = listed ∙ ap (map (said program d field)) (cond-false (opens_at program field (path program k).pc) _ _ (opens_is ∙ other))

    pub opened : is_opening field instr ≡ true →
        said_from program d field k n ≡ said program d field at ∷ said_from program d field (k + 1) m
    opened opening =
        listed ∙ ap (map (said program d field)) (cond-true (opens_at program field (path program k).pc) _ _ (opens_is ∙ opening))
        ∙ ap (λ (at : ℕ). said program d field at ∷ said_from program d field (k + 1) m) (sym here)

module _ (program : RiscProgram) (field : Parity) (first : Option Verdict) (found : Verdict) (rest : List Verdict) where
  abbrev other : Verdict
  other = unwrap_or first (slice_index_or (found ∷ rest) 0 (Differs program.base (NoSync (vertical field))))

  pub found_shown : is_shown found ≡ true → chosen_from program field first (found ∷ rest) ≡ found
  found_shown is = ap (λ (o : Option Verdict). unwrap_or o other) (cond-true (is_shown found) (Some found) (find is_shown rest) is)

  pub found_more : is_shown found ≡ false →
      chosen_from program field first (found ∷ rest) ≡ chosen_from program field (kept first found) rest
  found_more is =
      ap (λ (o : Option Verdict). unwrap_or o other) (cond-false (is_shown found) (Some found) (find is_shown rest) is)
      ∙ ap (unwrap_or (find is_shown rest)) (by first)
    where
      by : (first : Option Verdict) → unwrap_or first (slice_index_or (found ∷ rest) 0 (Differs program.base (NoSync (vertical field))))
          ≡ unwrap_or (kept first found) (slice_index_or rest 0 (Differs program.base (NoSync (vertical field))))
      by None = refl
      by (Some one) = refl
