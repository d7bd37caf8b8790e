-- A sound program holds each section that is on its path.
use Rattle.std.proofs.Common.{◌≡◌, ℕ, suc, ◌+◌, ◌*◌, List, [], ◌∷◌, length, Option, None, Ok, refl, sym, ap, ◌∙◌, arith}
use Rattle.risc_word.specs.declared.Ctl.{Ctl}
use Rattle.risc_word.specs.declared.Instr.{Instr}
use Rattle.risc_word.specs.declared.Instr.TheVariants.{Write, Skip, WriteC, Jump, Sync, Write123, Skip123, Write1S23}
use Rattle.risc_word.specs.Words.{Reading, encoded}
use Rattle.machine_model.specs.declared.Cause.{Cause}
use Rattle.machine_model.specs.Paths.{RiscProgram, Place, is_word, fetch, path, IsSound, demands_of, demands_cause, instr_cause}
use Rattle.machine_model.specs.Paths.{reading_cause, next_by, place_read, place_after}
use Rattle.machine_model.proofs.Places.{inside_if, path-suc}
use Rattle.field_law.specs.Sections.{Section, IsPlain, HoldsFrom, Holds, StandsFrom, Stands}

-- what an instruction without a fault writes is granted
pub granted_demands : (program : RiscProgram) (instr : Instr) (target : Option ℕ) → IsPlain instr →
    instr_cause program instr target ≡ None →
    demands_cause program.grants (demands_of instr None) ≡ None
granted_demands program (Write ctl ends off count addr) target plain fine = fine
granted_demands program (Skip ctl ends count) target plain fine = fine
granted_demands program (WriteC ctl ends off count) target plain fine = absurd plain
granted_demands program (Jump ctl addr) target plain fine = absurd plain
granted_demands program (Sync ctl resync code) target plain fine = refl
granted_demands program (Write123 ctl ends off counts addrs) target plain fine = fine
granted_demands program (Skip123 ctl ends counts) target plain fine = fine
granted_demands program (Write1S23 ctl ends off counts addr) target plain fine = fine

-- the next place follows it
pub pc_after : (instr : Instr) (count : ℕ) (place : Place) → IsPlain instr → (place_after instr count place).pc ≡ place.pc + 4 * count
pc_after (Write ctl ends off count' addr) count place plain = refl
pc_after (Skip ctl ends count') count place plain = refl
pc_after (WriteC ctl ends off count') count place plain = refl
pc_after (Jump ctl addr) count place plain = absurd plain
pc_after (Sync ctl resync code) count place plain = refl
pc_after (Write123 ctl ends off counts addrs) count place plain = refl
pc_after (Skip123 ctl ends counts) count place plain = refl
pc_after (Write1S23 ctl ends off counts addr) count place plain = refl

module _ (program : RiscProgram) (sound : IsSound program) where
  fine_at : (number : ℕ) (instr : Instr) (count : ℕ) → fetch program (path program number).pc ≡ Ok (instr, count) →
      instr_cause program instr (path program number).target ≡ None
  fine_at number instr count e =
      sym (ap (λ (reading : Reading). reading_cause program (path program number).target reading) e) ∙ sound number

  holds_from : (instrs : List Instr) (at : ℕ) (closing : Ctl) (target number : ℕ) → (path program number).pc ≡ at →
      StandsFrom program at instrs closing target →
      HoldsFrom program at instrs closing target
  holds_from [] at closing target number here stands =
      (stands, inside_if (is_word program target) target (fine_at number (Jump closing target) 2 (ap (fetch program) here ∙ stands)))
  holds_from (instr ∷ rest) at closing target number here stands =
      let long = length (encoded instr) in
      let place = path program number in
      let read : fetch program place.pc ≡ Ok (instr, long) = ap (fetch program) here ∙ stands.0 in
      let next : (path program (suc number)).pc ≡ at + 4 * long =
      ap (λ (cause : Option Cause). (next_by cause program place).pc) (sound number)
      ∙ ap (λ (reading : Reading). (place_read reading place).pc) read
      ∙ pc_after instr long place stands.1 ∙ ap (λ (pc : ℕ). pc + 4 * long) here in (
        stands.0,
        stands.1,
        granted_demands program instr place.target stands.1 (fine_at number instr long read),
        holds_from rest (at + 4 * long) closing target (suc number) next stands.2,
      )

pub sound_holds : (s : Section) (program : RiscProgram) (number : ℕ) → IsSound program → (path program number).pc ≡ s.at →
    Stands s program → Holds s program
sound_holds s program number sound here stands = holds_from program sound s.body s.at s.closing s.target number here stands

-- ---- the path walks through a section that is on it

-- a place of the path is at an address
abbrev pub ComesTo : RiscProgram → ℕ → Type 0
ComesTo program address = (number : ℕ) × ((path program number).pc ≡ address)

module _ (program : RiscProgram) (sound : IsSound program) where
  one_after : (number address : ℕ) (i : Instr) (count : ℕ) → IsPlain i → fetch program address ≡ Ok (i, count) →
      (path program number).pc ≡ address →
      (path program (suc number)).pc ≡ address + 4 * count
  one_after number address i count plain read here =
      ap (λ (p : Place). p.pc) (path-suc program number i count sound (ap (fetch program) here ∙ read))
      ∙ pc_after i count (path program number) plain
      ∙ ap (λ (pc : ℕ). pc + 4 * count) here

  -- so many places later it is where the closing leads
  pub place_behind : (instrs : List Instr) (number address : ℕ) (ctl : Ctl) (target : ℕ) → StandsFrom program address instrs ctl target →
      (path program number).pc ≡ address →
      (path program (suc (length instrs + number))).pc ≡ target
  place_behind [] number address ctl target stands here =
      let there : number ≡ length {A = Instr} [] + number = omega arith in
      ap (λ (n : ℕ). (path program (suc n)).pc) (sym there)
      ∙ ap (λ (p : Place). p.pc) (path-suc program number (Jump ctl target) 2 sound (ap (fetch program) here ∙ stands))
  place_behind (i ∷ rest) number address ctl target stands here =
      let there : length rest + suc number ≡ length (i ∷ rest) + number = omega arith in
      ap (λ (n : ℕ). (path program (suc n)).pc) (sym there)
      ∙ place_behind rest (suc number) (address + 4 * length (encoded i)) ctl target stands.2
      (one_after number address i (length (encoded i)) stands.1 stands.0 here)

  pub one_on : (address : ℕ) (i : Instr) (count : ℕ) → IsPlain i → fetch program address ≡ Ok (i, count) → ComesTo program address →
      ComesTo program (address + 4 * count)
  one_on address i count plain read here = (suc here.0, one_after here.0 address i count plain read here.1)

  pub walks : (instrs : List Instr) (address : ℕ) (ctl : Ctl) (target : ℕ) → StandsFrom program address instrs ctl target →
      ComesTo program address → ComesTo program target
  walks instrs address ctl target stands here = (suc (length instrs + here.0), place_behind instrs here.0 address ctl target stands here.1)
