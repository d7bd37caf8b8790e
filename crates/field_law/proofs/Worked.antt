-- The worked field meets the premises of the law.
use Rattle.std.proofs.Common.{◌≡◌, true, false, List, [], ◌∷◌, ◌++◌, All, refl, sym, arith}
use Rattle.std.proofs.lemmas.List.Elements.{All-nil, All-cons, All-from_recursion}
use Rattle.risc_word.specs.declared.Code.TheVariants.{Vre, Fm1}
use Rattle.fifo_model.specs.Queues.{queue_state, control_entry}
use Rattle.fifo_model.specs.declared.Entry.{Entry}
use Rattle.fifo_model.specs.declared.Queue.{Queue}
use Rattle.fifo_model.specs.declared.Queue.TheVariants.{One, Two, Three}
use Rattle.machine_model.specs.States.{first_state}
use Rattle.machine_model.specs.Turns.{Store}
use Rattle.machine_model.specs.Steps.{Step, Turn, run_in}
use Rattle.machine_model.specs.Safety.{IsStep, IsOrderly}
use Rattle.machine_model.proofs.Orderly.{IsOrderly-first_state}
use Rattle.machine_model.proofs.Runs.{IsOrderly-run}
use Rattle.page_table.specs.Grants.{granted}
use Rattle.page_table.specs.Blocks.{chunks_of}
use Rattle.field_law.specs.Fields.{Mark, IsLine, Brings}
use Rattle.field_law.specs.Sections.{Holds, Uses, Paints, section_stores}
use Rattle.field_law.specs.Arrivals.{Met, meeting, coming, HasCode, Arrives, BringsField, is_signal, has_signal}
use Rattle.field_law.specs.Laws.{Receives}
use Rattle.field_law.proofs.Painting.{IsAgreed, byte_at-unstored}
use Rattle.field_law.specs.Worked.{program, section, field, entry, begun, machine, line, moves, early, final}

holds : Holds section program
holds = (refl, tt, refl, (refl, refl, refl, (refl, refl)))

uses : Uses section field
uses One = (refl, refl, (refl, omega arith, omega arith, (refl, refl)))
uses Two = (refl, refl, (omega arith, (refl, refl)))
uses Three = (refl, refl, (omega arith, (refl, refl)))

abbrev IsMade : Met → Type 0
IsMade met = IsStep met.1

abbrev IsHeld : Met → Type 0
IsHeld met = Holds section met.0

steps_hold : (steps : List Step) → All IsHeld (meeting program steps)
steps_hold [] = All-nil IsHeld
steps_hold (step ∷ steps) = All-cons IsHeld (program, step) (meeting program steps) holds (steps_hold steps)

abbrev pub IsOther : Entry → Type 0
IsOther entry = HasCode Vre entry → ⊥

abbrev pub before : Queue → List Entry
before One = entry 0 0xffffffff ∷ []
before Two = []
before Three = []

abbrev pub entries : Queue → List Entry
entries One = control_entry Vre ∷ control_entry Fm1 ∷ entry 2 0x13121110 ∷ entry 1 0x17161514 ∷ []
entries Two = control_entry Vre ∷ control_entry Fm1 ∷ []
entries Three = control_entry Vre ∷ control_entry Fm1 ∷ []

order : (q : Queue) → (queue_state q machine.queues).entries ++ coming (early ++ (program, Turn) ∷ []) q ≡ before q ++ (entries q ++ [])
order One = refl
order Two = refl
order Three = refl

pub unmarked : (q : Queue) → All IsOther (before q)
unmarked One = All-from_recursion IsOther (before One) (λ same. cc, tt)
unmarked Two = All-nil IsOther
unmarked Three = All-nil IsOther

whole_line : IsLine line (entry 2 0x13121110 ∷ entry 1 0x17161514 ∷ [])
whole_line = record { shape = refl; valid = refl }

pub brings : (q : Queue) → Brings (Mark Vre ∷ field q) (entries q)
brings One = (
  control_entry Vre,
  control_entry Fm1 ∷ entry 2 0x13121110 ∷ entry 1 0x17161514 ∷ [],
  refl,
  refl,
  (
    control_entry Fm1,
    entry 2 0x13121110 ∷ entry 1 0x17161514 ∷ [],
    refl,
    refl,
    (entry 2 0x13121110 ∷ entry 1 0x17161514 ∷ [], [], refl, whole_line, refl),
  ),
)
brings Two = (control_entry Vre, control_entry Fm1 ∷ [], refl, refl, (control_entry Fm1, [], refl, refl, refl))
brings Three = (control_entry Vre, control_entry Fm1 ∷ [], refl, refl, (control_entry Fm1, [], refl, refl, refl))

arrives : Arrives section (BringsField section field) machine (early ++ (program, Turn) ∷ [])
arrives =
    record {
      fifo_on = refl;
      risc_on = refl;
      waits = refl;
      there = refl;
      kept = (tt, (refl, (tt, (refl, (refl, (tt, (tt, (tt, (tt, (refl, (tt, (tt, (tt, tt)))))))))))));
      before = before;
      entries = entries;
      rest = λ q. [];
      order = order;
      unmarked = unmarked;
      brought = brings;
    }

pub begun_made : All IsStep begun
begun_made = All-from_recursion IsStep begun (refl, (tt, tt))

orderly : IsOrderly machine
orderly = IsOrderly-run (first_state program 0) begun begun_made (IsOrderly-first_state program 0)

steps_made : All IsMade (early ++ (program, Turn) ∷ [])
steps_made =
    All-from_recursion IsMade (early ++ (program, Turn) ∷ [])
    (tt, (tt, (tt, (tt, (refl, (tt, (tt, (tt, (tt, (refl, (tt, (tt, (tt, tt)))))))))))))

pub receives : Receives section field machine (early ++ (program, Turn) ∷ [])
receives = record { orderly = orderly; made = steps_made; held = steps_hold (moves ++ Turn ∷ []); uses = uses; arrives = arrives }

abbrev IsWithin : Store → Type 0
IsWithin store = granted (chunks_of machine.memory) store.address ≡ true

within : (q : Queue) → All IsWithin (section_stores section field q)
within One =
    All-from_recursion IsWithin (section_stores section field One) (refl, (refl, (refl, (refl, (refl, (refl, (refl, (refl, tt))))))))
within Two = All-nil IsWithin
within Three = All-nil IsWithin

agree : (q : Queue) → All (IsAgreed final) (section_stores section field q)
agree One =
    All-from_recursion (IsAgreed final) (section_stores section field One)
    (refl, (refl, (refl, (refl, (refl, (refl, (refl, (refl, tt))))))))
agree Two = All-nil (IsAgreed final)
agree Three = All-nil (IsAgreed final)

pub paints : Paints section field machine.memory final
paints =
    record {
      within = within;
      agree = agree;
      others = λ address none. sym (byte_at-unstored machine.memory (section_stores section field One) address (none One));
    }

pub signals : (has_signal section machine early ≡ false) × (is_signal section (run_in machine early) Turn ≡ true)
signals = (refl, refl)
