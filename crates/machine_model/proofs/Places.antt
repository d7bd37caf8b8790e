-- The places of a sound program's path: an instruction is at each, and the next place is the one after it.
use Rattle.std.proofs.Common.{◌≡◌, ℕ, suc, ◌+◌, ◌*◌, Bool, true, false, Option, Some, None, Ok, Err, IsTrue, refl, sym, ap, ◌∙◌}
use Rattle.std.proofs.Common.{if◌then◌else◌}
use Rattle.risc_word.specs.declared.Ctl.{Ctl}
use Rattle.risc_word.specs.declared.Instr.{Instr}
use Rattle.risc_word.specs.declared.Instr.TheVariants.{Jump, Sync}
use Rattle.risc_word.specs.Words.{Reading}
use Rattle.machine_model.specs.declared.Cause.{Cause}
use Rattle.machine_model.specs.declared.Cause.TheVariants.{JumpOut}
use Rattle.machine_model.specs.Paths.{RiscProgram, Place, is_word, fetch, is_data, instr_cause, data_cause, first_cause, target_before}
use Rattle.machine_model.specs.Paths.{target_after, reading_cause, place_after, place_read, next_by, path, IsSound}

-- an instruction that is somewhere and is fine with this target
pub record IsFine (program : RiscProgram) (target : Option ℕ) (reading : Reading) : Type 0 where
  pub instr : Instr
  pub length_in_words : ℕ
  pub stands : reading ≡ Ok (instr, length_in_words)
  pub fine : instr_cause program instr target ≡ None

reading-IsFine : (program : RiscProgram) (target : Option ℕ) (reading : Reading) → reading_cause program target reading ≡ None →
    IsFine program target reading
reading-IsFine program target (Err fault) h = cc
reading-IsFine program target (Ok (instr, count)) h = record { instr = instr; length_in_words = count; stands = refl; fine = h }

pub place-IsFine : (program : RiscProgram) (number : ℕ) → IsSound program →
    IsFine program (path program number).target (fetch program (path program number).pc)
place-IsFine program number sound = reading-IsFine program _ _ (sound number)

pub instr-fine : (program : RiscProgram) (number : ℕ) (instr : Instr) (count : ℕ) → IsSound program →
    fetch program (path program number).pc ≡ Ok (instr, count) → instr_cause program instr (path program number).target ≡ None
instr-fine program number instr count sound e = ap (reading_cause program (path program number).target) (sym e) ∙ sound number

pub path-suc : (program : RiscProgram) (number : ℕ) (instr : Instr) (count : ℕ) → IsSound program →
    fetch program (path program number).pc ≡ Ok (instr, count) → path program (suc number) ≡ place_after instr count (path program number)
path-suc program number instr count sound e =
    ap (λ cause. next_by cause program (path program number)) (sound number) ∙ ap (λ reading. place_read reading (path program number)) e

pub place_after-data : (instr : Instr) (count : ℕ) (place : Place) → IsTrue (is_data instr) →
    place_after instr count place ≡ record { pc = place.pc + 4 * count; target = target_after instr (target_before instr place.target) }
place_after-data (Jump ctl addr) count place h = cc
place_after-data (Sync ctl resync code) count place h = cc
place_after-data instr count place h = refl

pub cause-data : (program : RiscProgram) (instr : Instr) (target : Option ℕ) → IsTrue (is_data instr) →
    instr_cause program instr target ≡ data_cause program.grants instr (target_before instr target)
cause-data program (Jump ctl addr) target h = cc
cause-data program (Sync ctl resync code) target h = cc
cause-data program instr target h = refl

pub inside_if : (inside : Bool) (addr : ℕ) → (if inside then None else Some (JumpOut addr)) ≡ None → inside ≡ true
inside_if true addr h = refl
inside_if false addr h = cc

pub jump-is_word : (program : RiscProgram) (ctl : Ctl) (addr : ℕ) (target : Option ℕ) → instr_cause program (Jump ctl addr) target ≡ None →
    is_word program addr ≡ true
jump-is_word program ctl addr target h = inside_if (is_word program addr) addr h

pub first-none : (one two : Option Cause) → first_cause one two ≡ None → (one ≡ None) × (two ≡ None)
first-none None two h = (refl, h)
first-none (Some cause) two h = cc

pub none-first : (one two : Option Cause) → one ≡ None → two ≡ None → first_cause one two ≡ None
none-first one two h k = ap (λ cause. first_cause cause two) h ∙ k
