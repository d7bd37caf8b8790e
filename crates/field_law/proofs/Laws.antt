-- The law of the picture for sections: that of their trails.
use Rattle.std.proofs.Common.{◌≡◌, ℕ, ◌+◌, ◌-◌, bit_and, bit_or, ◌||◌, Bool, All, List, [], ◌∷◌, ap, ◌∙◌, arith}
use Rattle.std.proofs.lemmas.List.Elements.{All-nil, All-cons, All-head, All-tail}
use Rattle.std.proofs.lemmas.Nat.Bits.{bit_at_and, bit_at_or, same_from_bits}
use Rattle.risc_word.specs.declared.Ctl.{Ctl}
use Rattle.fifo_model.specs.declared.Queue.{Queue}
use Rattle.irq_status.specs.Register.{risci, risc_status, status_after, applied, has}
use Rattle.irq_status.proofs.Laws.{risci-applied, risc_status-applied}
use Rattle.machine_model.specs.States.{State}
use Rattle.field_law.specs.Fields.{Token}
use Rattle.field_law.specs.Sections.{Section, Holds}
use Rattle.field_law.specs.Trails.{Leads, trail_of}
use Rattle.field_law.specs.Arrivals.{Met}
use Rattle.field_law.specs.Laws.{ShowsBits, Receives, ShowsPicture, ShowsNoFault, SignalsClosing, IsBounded}
use Rattle.field_law.specs.TrailLaws.{TrailReceives}
use Rattle.field_law.proofs.InSection.{section_leads}
use Rattle.field_law.proofs.TrailLaws.{trail_shows_picture, trail_shows_no_fault, trail_ends_with_closing, trail_is_bounded}

-- programs that hold a section lead along it
each_leads : (s : Section) (steps : List Met) → All (λ met. Holds s met.0) steps → All (λ met. Leads (trail_of s) met.0) steps
each_leads s [] held = All-nil (λ (met : Met). Leads (trail_of s) met.0)
each_leads s (met ∷ steps) held =
    All-cons (λ (met : Met). Leads (trail_of s) met.0) met steps
    (section_leads s met.0 (All-head (λ (met : Met). Holds s met.0) met steps held))
    (each_leads s steps (All-tail (λ (met : Met). Holds s met.0) met steps held))

abbrev along : (s : Section) (field : Queue → List Token) (m : State) (steps : List Met) → Receives s field m steps →
    TrailReceives (trail_of s) field m steps
along s field m steps r =
    record { orderly = r.orderly; made = r.made; held = each_leads s steps r.held; uses = r.uses; arrives = r.arrives }

pub shows_picture : ShowsPicture
shows_picture s field final m early late program r = trail_shows_picture (trail_of s) field final m early late program (along s field m _ r)

pub shows_no_fault : ShowsNoFault
shows_no_fault s field m early late program r = trail_shows_no_fault (trail_of s) field m early late program (along s field m _ r)

-- a status of which each bit is set or cleared
pub whole_status : (old set reset : ℕ) → set + reset ≡ 15 → status_after old set reset ≡ set
whole_status old set reset h =
    let kept : 15 - reset ≡ set = omega arith in
    ap (λ (mask : ℕ). bit_or (bit_and old mask) set) kept
    ∙ same_from_bits _ _ (λ i. omega (arith, bit_at_or (bit_and old set) set i, bit_at_and old set i))

pub shows_bits : (ctl : Ctl) (before now : ℕ) → now ≡ applied ctl before → ShowsBits ctl before now
shows_bits ctl before now e =
    record {
      register = e;
      raised = λ irq. ap (has risci) e ∙ risci-applied ctl before ∙ ap (λ (irq : Bool). irq || has risci before) irq;
      status = λ whole. ap risc_status e ∙ risc_status-applied ctl before ∙ whole_status (risc_status before) ctl.set ctl.reset whole;
    }

pub signals_closing : SignalsClosing
signals_closing s field m early late program r silent signal =
    shows_bits s.closing _ _ (trail_ends_with_closing (trail_of s) field m early late program (along s field m _ r) silent signal)

pub is_bounded : IsBounded
is_bounded s field m early late r = trail_is_bounded (trail_of s) field m early late (along s field m _ r)
