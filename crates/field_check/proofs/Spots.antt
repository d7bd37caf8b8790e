-- What is reported at a place of a field.
use Rattle.std.proofs.Common.{◌≡◌, ℕ, ◌+◌, ◌-◌, Bool, true, false, List, ◌∷◌, ◌++◌, length, take, Option, Some, None, refl, sym, ap, ◌∙◌}
use Rattle.std.proofs.Common.{arith, length-append, not}
use mathlib.Core.Bool.{beq}
use Rattle.std.proofs.Math.Seq.{take-append_seam}
use Rattle.fifo_model.specs.declared.Queue.{Queue}
use Rattle.pixel_layout.specs.declared.Parity.{Parity}
use Rattle.machine_model.specs.declared.Demand.{Demand}
use Rattle.machine_model.specs.Paths.{RiscProgram}
use Rattle.capture_desc.specs.declared.desc.Desc.{Desc}
use Rattle.field_law.specs.Sections.{Ask, ask}
use Rattle.check_model.specs.Checks.{awaited, byte_why, eol_by, goes_on, reach_at, unlike_why}
use Rattle.check_model.specs.Lines.{Reach, line_bytes, next_spot, nowhere, reached}
use Rattle.check_model.specs.declared.Spot.{Spot}
use Rattle.check_model.specs.declared.Why.TheVariants.{EarlyEol, EolAwaited}
use Rattle.field_check.specs.Cursors.{IsNext, first_of, left_of, reach_of}
use Rattle.field_check.specs.Tracks.{IsIn}
use Rattle.field_check.specs.declared.cursors.Track.{Track}
use Rattle.field_check.specs.declared.cursors.Next.TheVariants.{Bytes}
use Rattle.field_check.proofs.Parts.{first_ask}

-- how far a queue has come is what its track counts
pub reach_is : (d : Desc) (field : Parity) (plan : RiscProgram) (q : Queue) (t : Track) → IsIn d field plan q t →
    reach_at q d field (left_of plan q t.cursor) ≡ reach_of t
reach_is d field plan q t is =
    let full = awaited d field q in
    let left = left_of plan q t.cursor in
    let all : length full ≡ length is.taken + length left = ap (λ (asks : List Ask). length asks) is.whole ∙ length-append is.taken left in
    let long : length full - length left ≡ length is.taken = omega arith in
    ap (λ (n : ℕ). reached nowhere (take n full)) long
    ∙ ap (λ (asks : List Ask). reached nowhere (take (length is.taken) asks)) is.whole
    ∙ ap (reached nowhere) (take-append_seam is.taken left) ∙ is.reach

module _ (d : Desc) (field : Parity) (q : Queue) (met : Ask) where
  at_byte : (sol : Bool) (address : Option ℕ) (rest : List Ask) → unlike_why d field q met (ask sol 1 address ∷ rest) ≡
      byte_why (next_spot q d field (reach_at q d field (ask sol 1 address ∷ rest)) (ask sol 1 address)) q met (ask sol 1 address)
  at_byte true address rest = refl
  at_byte false address rest = refl

  pub unlike_byte : (plan : RiscProgram) (t : Track) (next : Demand) (left : List Ask) → IsIn d field plan q t →
      left ≡ left_of plan q t.cursor → IsNext (Bytes next) left →
      byte_why (next_spot q d field (reach_of t) (first_of next)) q met (first_of next) ≡ unlike_why d field q met left
  unlike_byte plan t next left is same comes =
      let first = first_ask next comes.0 in
      let here : left ≡ first_of next ∷ (first.0 ++ comes.1) = comes.2 ∙ ap (λ (asks : List Ask). asks ++ comes.1) first.1 in
      ap (λ (r : Reach). byte_why (next_spot q d field r (first_of next)) q met (first_of next))
      (sym (reach_is d field plan q t is) ∙ ap (reach_at q d field) (sym same ∙ here))
      ∙ sym (at_byte next.needs_sol next.address (first.0 ++ comes.1)) ∙ ap (unlike_why d field q met) (sym here)

-- whether a line goes on
pub bytes_go_on : (next : Demand) (left : List Ask) (b : Bool) → IsNext (Bytes next) left → b ≡ next.needs_sol → not b ≡ goes_on left
bytes_go_on next left b comes e =
    let first = first_ask next comes.0 in
    by b next.needs_sol e ∙ ap goes_on (sym (comes.2 ∙ ap (λ (asks : List Ask). asks ++ comes.1) first.1))
  where
    by : (b sol : Bool) → b ≡ sol → not b ≡ goes_on (ask sol 1 next.address ∷ (first_ask next comes.0).0 ++ comes.1)
    by true true e = refl
    by false false e = refl
    by true false e = cc
    by false true e = cc

-- EOL
module _ (spot s : Spot) (same : s ≡ spot) (q : Queue) (d : Desc) where
  pub early_eol : (eol goes : Bool) (bytes : ℕ) → beq eol goes ≡ true → eol ≡ true → bytes ≡ line_bytes q d s.line →
      Some (EarlyEol s.line q s.number bytes) ≡ eol_by eol goes spot q d
  early_eol true true bytes h e is =
      ap (λ (bytes : ℕ). Some (EarlyEol s.line q s.number bytes)) is
      ∙ ap (λ (s : Spot). Some (EarlyEol s.line q s.number (line_bytes q d s.line))) same
  early_eol true false bytes h e is = cc
  early_eol false goes bytes h e is = cc

  pub late_eol : (eol goes : Bool) → beq eol goes ≡ true → eol ≡ false → Some (EolAwaited s.line q) ≡ eol_by eol goes spot q d
  late_eol false false h e = ap (λ (s : Spot). Some (EolAwaited s.line q)) same
  late_eol false true h e = cc
  late_eol true goes h e = cc

pub right_eol : (spot : Spot) (q : Queue) (d : Desc) (eol goes : Bool) → beq eol goes ≡ false → None ≡ eol_by eol goes spot q d
right_eol spot q d true false h = refl
right_eol spot q d false true h = refl
right_eol spot q d true true h = cc
right_eol spot q d false false h = cc
