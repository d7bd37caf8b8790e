-- What an instruction asks, by its demand.
use Rattle.std.proofs.Common.{◌≡◌, ◌<◌, Bool, true, false, List, ◌++◌, length, None, refl, sym, ap, ◌∙◌, append-nil, ◌&&◌, not}
use Rattle.std.proofs.Common.{if◌then◌else◌}
use Rattle.risc_word.specs.declared.Instr.{Instr}
use Rattle.risc_word.specs.declared.Instr.TheVariants.{Write, Skip, WriteC, Jump, Sync, Write123, Skip123, Write1S23}
use Rattle.fifo_model.specs.declared.Queue.{Queue}
use Rattle.machine_model.specs.Paths.{demands_of, is_data}
use Rattle.machine_model.specs.Turns.{demand_on}
use Rattle.machine_model.specs.declared.Demand.{Demand}
use Rattle.field_law.specs.Sections.{Ask, ask_of, asked}
use Rattle.check_model.specs.ByBytes.{bytes_asked}
use Rattle.risc_word.specs.Parts.{instr_ends}
use Rattle.pixel_layout.specs.declared.Parity.{Parity}
use Rattle.capture_desc.specs.declared.desc.Desc.{Desc}
use Rattle.check_model.specs.Checks.{eol_by, goes_on, instr_asks, is_none, reach_at}
use Rattle.check_model.specs.Lines.{last_spot}
use Rattle.field_check.specs.Tracks.{eol_at}
use Rattle.field_check.specs.Cursors.{IsNext}
use Rattle.field_check.specs.declared.cursors.Next.{Next}
use Rattle.field_check.specs.declared.cursors.Next.TheVariants.{Nothing, Marked, Bytes}
use Rattle.field_check.proofs.Parts.{demand_long, first_ask}

no_sync : (q : Queue) (instr : Instr) → is_data instr ≡ true → asked q instr ≡ ask_of (demand_on q (demands_of instr None))
no_sync q (Sync ctl resync code) h = cc
no_sync q (Jump ctl addr) h = cc
no_sync q (Write ctl ends off count addr) h = refl
no_sync q (Skip ctl ends count) h = refl
no_sync q (WriteC ctl ends off count) h = refl
no_sync q (Write123 ctl ends off counts addrs) h = refl
no_sync q (Skip123 ctl ends counts) h = refl
no_sync q (Write1S23 ctl ends off counts addr) h = refl

module _ (q : Queue) (instr : Instr) (is : is_data instr ≡ true) (d : Demand) (same : d ≡ demand_on q (demands_of instr None)) where
  pub asks_are : instr_asks q instr ≡ bytes_asked (ask_of d)
  asks_are = append-nil (bytes_asked (asked q instr)) ∙ ap bytes_asked (no_sync q instr is ∙ ap ask_of (sym same))

  pub asks_long : (d.needs_sol ≡ true → 0 < d.rest) → length (instr_asks q instr) ≡ d.rest
  asks_long some = ap (λ (asks : List Ask). length asks) asks_are ∙ demand_long d some

  pub asks_some : 0 < d.rest → is_none (instr_asks q instr) ≡ false
  asks_some some = ap is_none (asks_are ∙ (first_ask d some).1)

-- whether anything comes next
pub something : (next : Next) (left : List Ask) → (next ≡ Nothing → ⊥) → IsNext next left → false ≡ is_none left
something Nothing left other is = absurd (other refl)
something (Marked code) left other is = sym (ap is_none is.1)
something (Bytes d) left other is = sym (ap is_none (is.2 ∙ ap (λ (asks : List Ask). asks ++ is.1) (first_ask d is.0).1))

pub eol_is : (d : Desc) (field : Parity) (q : Queue) (instr : Instr) (after : List Ask) → is_data instr ≡ true →
    is_none (instr_asks q instr) ≡ false →
    eol_by (instr_ends instr).eol (goes_on after) (last_spot q d field (reach_at q d field after)) q d ≡ eol_at d field q instr after
eol_is d field q instr after is some = by (is_data instr) (is_none (instr_asks q instr)) is some
  where
    by : (moves none : Bool) → moves ≡ true → none ≡ false →
        eol_by (instr_ends instr).eol (goes_on after) (last_spot q d field (reach_at q d field after)) q d
        ≡ (if moves && not none
        then eol_by (instr_ends instr).eol (goes_on after) (last_spot q d field (reach_at q d field after)) q d else None)
    by true false is some = refl
    by true true is some = cc
    by false none is some = cc
