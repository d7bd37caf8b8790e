-- Sections as one use of trails: each instruction is behind the one before it.
use Rattle.std.proofs.Common.{◌≡◌, ℕ, ◌+◌, ◌*◌, List, [], ◌∷◌, length, None, Ok, refl, sym, ap, subst, ◌∙◌, arith}
use Rattle.risc_word.specs.declared.Ctl.{Ctl}
use Rattle.risc_word.specs.declared.Instr.{Instr}
use Rattle.risc_word.specs.declared.Instr.TheVariants.{Write, Skip, WriteC, Jump, Sync, Write123, Skip123, Write1S23}
use Rattle.risc_word.specs.Words.{Reading, encoded}
use Rattle.machine_model.specs.Paths.{RiscProgram, fetch, demands_of, demands_cause}
use Rattle.field_law.specs.Sections.{Section, IsPlain, Holds, HoldsFrom, words_in, closing_at}
use Rattle.field_law.specs.Trails.{IsOnTrail, Leads, LeadsFrom, next_at, trail_of}
use Rattle.field_law.proofs.OnTrail.{IsAlong}

-- these instructions of a section are left from an address on, up to the closing, in each program that holds the section
pub record StandsIn (s : Section) (pc : ℕ) (body : List Instr) : Type 0 where
  pub holds : (program : RiscProgram) → Holds s program → HoldsFrom program pc body s.closing s.target
  pub there : pc + 4 * words_in body ≡ closing_at s

-- behind its opening all of its body is left
pub begins_in : (s : Section) → StandsIn s s.at s.body
begins_in s = record { holds = λ program held. held; there = refl }

-- ---- a program that holds a section leads along it

pub plain_next : (instr : Instr) (at : ℕ) → IsPlain instr → next_at instr at ≡ at + 4 * length (encoded instr)
plain_next (Write ctl ends off count addr) at plain = refl
plain_next (Skip ctl ends count) at plain = refl
plain_next (WriteC ctl ends off count) at plain = absurd plain
plain_next (Jump ctl addr) at plain = absurd plain
plain_next (Sync ctl resync code) at plain = refl
plain_next (Write123 ctl ends off counts addrs) at plain = refl
plain_next (Skip123 ctl ends counts) at plain = refl
plain_next (Write1S23 ctl ends off counts addr) at plain = refl

plain_on_trail : (program : RiscProgram) (instr : Instr) → IsPlain instr → demands_cause program.grants (demands_of instr None) ≡ None →
    IsOnTrail program instr
plain_on_trail program (Write ctl ends off count addr) plain fine = (plain, fine)
plain_on_trail program (Skip ctl ends count) plain fine = (plain, fine)
plain_on_trail program (WriteC ctl ends off count) plain fine = absurd plain
plain_on_trail program (Jump ctl addr) plain fine = absurd plain
plain_on_trail program (Sync ctl resync code) plain fine = (plain, fine)
plain_on_trail program (Write123 ctl ends off counts addrs) plain fine = (plain, fine)
plain_on_trail program (Skip123 ctl ends counts) plain fine = (plain, fine)
plain_on_trail program (Write1S23 ctl ends off counts addr) plain fine = (plain, fine)

-- the closing is behind the body, and no instruction of the body is
holds_closing : (program : RiscProgram) (at : ℕ) (body : List Instr) (closing : Ctl) (target : ℕ) →
    HoldsFrom program at body closing target →
    fetch program (at + 4 * words_in body) ≡ Ok (Jump closing target, 2)
holds_closing program at [] closing target h = let same : at + 4 * 0 ≡ at = omega arith in ap (fetch program) same ∙ h.0
holds_closing program at (instr ∷ rest) closing target h =
    let same : at + 4 * (length (encoded instr) + words_in rest) ≡ at + 4 * length (encoded instr) + 4 * words_in rest = omega arith in
    ap (fetch program) same ∙ holds_closing program (at + 4 * length (encoded instr)) rest closing target h.3

no_jump : (instr : Instr) (count : ℕ) (closing : Ctl) (target : ℕ) (reading : Reading) → reading ≡ Ok (instr, count) →
    reading ≡ Ok (Jump closing target, 2) → IsPlain instr → ⊥
no_jump instr count closing target reading a b plain =
    let both : Ok (instr, count) ≡ Ok (Jump closing target, 2) = sym a ∙ b in
    let pair : (instr, count) ≡ (Jump closing target, 2) = cc in
    let same : instr ≡ Jump closing target = ap (λ (pair : Instr × ℕ). pair.0) pair in
    subst IsPlain same plain

holds_leads : (program : RiscProgram) (end at : ℕ) (body : List Instr) (closing : Ctl) (target : ℕ) → at + 4 * words_in body ≡ end →
    HoldsFrom program at body closing target →
    LeadsFrom program end at body (Jump closing target)
holds_leads program end at [] closing target there h = (omega arith, h.0, h.1)
holds_leads program end at (instr ∷ rest) closing target there h = (
  λ same.
      let here : at ≡ at + 4 * words_in (instr ∷ rest) = omega arith in
      no_jump instr (length (encoded instr)) closing target (fetch program at) h.0
      (ap (fetch program) here ∙ holds_closing program at (instr ∷ rest) closing target h) h.1,
  h.0,
  plain_on_trail program instr h.1 h.2,
  subst (λ (next : ℕ). LeadsFrom program end next rest (Jump closing target)) (sym (plain_next instr at h.1))
      (holds_leads program end (at + 4 * length (encoded instr)) rest closing target (omega arith) h.3),
)

pub section_leads : (s : Section) (program : RiscProgram) → Holds s program → Leads (trail_of s) program
section_leads s program held = holds_leads program (closing_at s) s.at s.body s.closing s.target refl held

pub along_in : (s : Section) → IsAlong (trail_of s) (Holds s) (StandsIn s)
along_in s =
    record {
      begins = begins_in s;
      leads = λ program held at body stands.
          holds_leads program (closing_at s) at body s.closing s.target stands.there (stands.holds program held);
      goes = λ program held at instr rest stands.
          let there = stands.there in
          subst (λ (next : ℕ). StandsIn s next rest) (sym (plain_next instr at (stands.holds program held).1))
          (record { holds = λ other held. (stands.holds other held).3; there = omega arith });
    }
