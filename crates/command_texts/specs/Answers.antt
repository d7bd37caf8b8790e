-- The status of each answer, the answer of each refusal, and which texts take memory.
use Rattle.std.specs.Prelude.{ℕ, ⊤}
use Rattle.command_texts.specs.declared.answer.Answer.{Answer}
use Rattle.command_texts.specs.declared.answer.Answer.TheVariants.{Done, Usage, ReadFault, WriteFault, Malformed, BadDesc, BadGeometry}
use Rattle.command_texts.specs.declared.answer.Answer.TheVariants.{BadChain, BadRing, BadText, Rejected, Differs, NoMemory}
use Rattle.command_texts.specs.declared.refusal.Refusal.{Refusal}
use Rattle.command_texts.specs.declared.refusal.Refusal.TheVariants as refusal

abbrev pub status_of : Answer → ℕ
status_of Done = 0
status_of (Usage fault) = 2
status_of ReadFault = 4
status_of WriteFault = 5
status_of (Malformed file fault) = 3
status_of (BadDesc fault) = 3
status_of (BadGeometry fault) = 1
status_of (BadChain fault) = 1
status_of (BadRing fault) = 3
status_of (BadText fault) = 3
status_of (Rejected at nth cause) = 1
status_of (Differs text) = 1
status_of NoMemory = 6

abbrev pub answer_of : Refusal → Answer
answer_of refusal.ReadFault = ReadFault
answer_of (refusal.Malformed file fault) = Malformed file fault
answer_of (refusal.BadDesc fault) = BadDesc fault
answer_of (refusal.BadGeometry fault) = BadGeometry fault
answer_of (refusal.BadChain fault) = BadChain fault
answer_of (refusal.BadRing fault) = BadRing fault
answer_of (refusal.BadText fault) = BadText fault
answer_of (refusal.Rejected at nth cause) = Rejected at nth cause
answer_of (refusal.Differs text) = Differs text
answer_of refusal.NoMemory = NoMemory

-- a refusal whose text takes memory, which may run out
abbrev pub TakesMemory : Refusal → Type 0
TakesMemory refusal.ReadFault = ⊥
TakesMemory (refusal.Malformed file fault) = ⊥
TakesMemory (refusal.Differs text) = ⊥
TakesMemory refusal.NoMemory = ⊥
TakesMemory _ = ⊤
