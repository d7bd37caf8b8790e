-- A program that leads along a trail grants its stores, whatever the field.
use Rattle.std.proofs.Common.{◌≡◌, ℕ, Bool, true, false, List, [], ◌∷◌, All, take, drop, Option, Some, None, length-take, refl, arith}
use Rattle.std.proofs.lemmas.List.Elements.{All-nil, All-append}
use Rattle.risc_word.specs.declared.Instr.{Instr}
use Rattle.risc_word.specs.declared.Instr.TheVariants.{Write, Skip, WriteC, Jump, Sync, Write123, Skip123, Write1S23}
use Rattle.fifo_model.specs.declared.Queue.{Queue}
use Rattle.fifo_model.specs.declared.Queue.TheVariants.{One, Two, Three}
use Rattle.page_table.specs.Grants.{Chunk, granted}
use Rattle.machine_model.specs.declared.Demand.{Demand}
use Rattle.machine_model.specs.Paths.{RiscProgram, range_cause, demand_cause, demands_of, demands_cause}
use Rattle.machine_model.specs.Turns.{Store}
use Rattle.machine_model.proofs.Demanded.{written-IsRange, demand-granted}
use Rattle.machine_model.proofs.Ranges.{granted_at}
use Rattle.field_law.specs.Fields.{Token, Mark, Row}
use Rattle.field_law.specs.Sections.{Section, Holds, Ask, Await, Begin, GoOn, ask, ask_of, asked, asks, laid, planned, body_stores}
use Rattle.field_law.specs.Sections.{section_stores}
use Rattle.field_law.specs.Trails.{Trail, IsOnTrail, Leads, LeadsFrom, next_at, trail_of}
use Rattle.field_law.proofs.CutLines.{laid_each}
use Rattle.field_law.proofs.InSection.{section_leads}

module _ (grants : List Chunk) where
  abbrev pub IsGranted : Store → Type 0
  IsGranted store = granted grants store.address ≡ true

  laid_granted : (address : Option ℕ) (count : ℕ) (bytes : List ℕ) → range_cause grants address count ≡ None →
      All IsGranted (laid address (take count bytes))
  laid_granted None count bytes fine = All-nil IsGranted
  laid_granted (Some at) count bytes fine =
      laid_each IsGranted at (take count bytes)
      (λ x lt. granted_at grants at count x (omega (arith, length-take count bytes)) (written-IsRange grants at count fine).whole)

  -- what an ask writes is granted
  abbrev IsFine : Ask → Type 0
  IsFine (Await code) = Unit {0}
  IsFine (Begin count address) = range_cause grants address count ≡ None
  IsFine (GoOn count address) = range_cause grants address count ≡ None

  abbrev AreFine : List Ask → Type 0
  AreFine [] = Unit {0}
  AreFine (first ∷ rest) = IsFine first × AreFine rest

  planned_granted : (asking : List Ask) (line : List ℕ) (tokens : List Token) → AreFine asking → All IsGranted (planned asking line tokens)
  planned_granted [] line tokens fine = All-nil IsGranted
  planned_granted (Await code ∷ rest) line [] fine = All-nil IsGranted
  planned_granted (Await code ∷ rest) line (token ∷ tokens) fine = planned_granted rest [] tokens fine.1
  planned_granted (Begin count address ∷ rest) line [] fine = All-nil IsGranted
  planned_granted (Begin count address ∷ rest) line (Mark code ∷ tokens) fine = All-nil IsGranted
  planned_granted (Begin count address ∷ rest) line (Row bytes ∷ tokens) fine =
      All-append IsGranted (laid address (take count bytes)) (planned rest (drop count bytes) tokens)
      (laid_granted address count bytes fine.0) (planned_granted rest (drop count bytes) tokens fine.1)
  planned_granted (GoOn count address ∷ rest) line tokens fine =
      All-append IsGranted (laid address (take count line)) (planned rest (drop count line) tokens)
      (laid_granted address count line fine.0) (planned_granted rest (drop count line) tokens fine.1)

  fine_by : (sol : Bool) (count : ℕ) (address : Option ℕ) → range_cause grants address count ≡ None → IsFine (ask sol count address)
  fine_by true count address fine = fine
  fine_by false count address fine = fine

  fine_of : (d : Demand) → demand_cause grants d ≡ None → IsFine (ask_of d)
  fine_of d fine = fine_by d.needs_sol d.rest d.address fine

  asked_fine : (q : Queue) (instr : Instr) → demands_cause grants (demands_of instr None) ≡ None → IsFine (asked q instr)
  asked_fine q (Sync ctl resync code) fine = tt
  asked_fine q (Write ctl ends off count addr) fine =
      fine_of _ (demand-granted grants q (demands_of (Write ctl ends off count addr) None) fine)
  asked_fine q (Skip ctl ends count) fine = fine_of _ (demand-granted grants q (demands_of (Skip ctl ends count) None) fine)
  asked_fine q (WriteC ctl ends off count) fine = fine_of _ (demand-granted grants q (demands_of (WriteC ctl ends off count) None) fine)
  asked_fine q (Jump ctl addr) fine = fine_of _ (demand-granted grants q (demands_of (Jump ctl addr) None) fine)
  asked_fine q (Write123 ctl ends off counts addrs) fine =
      fine_of _ (demand-granted grants q (demands_of (Write123 ctl ends off counts addrs) None) fine)
  asked_fine q (Skip123 ctl ends counts) fine = fine_of _ (demand-granted grants q (demands_of (Skip123 ctl ends counts) None) fine)
  asked_fine q (Write1S23 ctl ends off counts addr) fine =
      fine_of _ (demand-granted grants q (demands_of (Write1S23 ctl ends off counts addr) None) fine)

on_trail_fine : (program : RiscProgram) (q : Queue) (instr : Instr) → IsOnTrail program instr → IsFine program.grants (asked q instr)
on_trail_fine program One (Jump ctl target) on = refl
on_trail_fine program Two (Jump ctl target) on = refl
on_trail_fine program Three (Jump ctl target) on = refl
on_trail_fine program q (Sync ctl resync code) on = tt
on_trail_fine program q (Write ctl ends off count addr) on = asked_fine program.grants q (Write ctl ends off count addr) on.1
on_trail_fine program q (Skip ctl ends count) on = asked_fine program.grants q (Skip ctl ends count) on.1
on_trail_fine program q (WriteC ctl ends off count) on = asked_fine program.grants q (WriteC ctl ends off count) on.1
on_trail_fine program q (Write123 ctl ends off counts addrs) on = asked_fine program.grants q (Write123 ctl ends off counts addrs) on.1
on_trail_fine program q (Skip123 ctl ends counts) on = asked_fine program.grants q (Skip123 ctl ends counts) on.1
on_trail_fine program q (Write1S23 ctl ends off counts addr) on = asked_fine program.grants q (Write1S23 ctl ends off counts addr) on.1

asks_fine : (program : RiscProgram) (q : Queue) (end at : ℕ) (body : List Instr) (closing : Instr) → LeadsFrom program end at body closing →
    AreFine program.grants (asks q body)
asks_fine program q end at [] closing h = tt
asks_fine program q end at (instr ∷ rest) closing h =
    (on_trail_fine program q instr h.2, asks_fine program q end (next_at instr at) rest closing h.3)

pub trail_stores_granted : (t : Trail) (field : Queue → List Token) (program : RiscProgram) → Leads t program → (q : Queue) →
    All (λ store. granted program.grants store.address ≡ true) (body_stores t.body field q)
trail_stores_granted t field program held q =
    planned_granted program.grants (asks q t.body) [] (field q) (asks_fine program q t.end t.at t.body t.closing held)

pub stores_granted : (s : Section) (field : Queue → List Token) (program : RiscProgram) → Holds s program → (q : Queue) →
    All (λ store. granted program.grants store.address ≡ true) (section_stores s field q)
stores_granted s field program held q = trail_stores_granted (trail_of s) field program (section_leads s program held) q
