-- What leaves a queue in a turn leaves it at its front.
use Rattle.std.proofs.Common.{◌≡◌, ℕ, ◌+◌, ◌-◌, inl, inr, List, length, drop, refl, sym, ap, ◌∙◌, arith}
use Rattle.std.proofs.lemmas.Bool.{cases_lt}
use Rattle.std.proofs.lemmas.List.{drop-drop, drop_all, length-drop}
use Rattle.fifo_model.specs.declared.Entry.{Entry}
use Rattle.fifo_model.specs.declared.Queue.{Queue}
use Rattle.fifo_model.specs.Queues.{queue_state}
use Rattle.machine_model.specs.States.{State}
use Rattle.machine_model.specs.Turns.{turn}
use Rattle.damage_model.specs.Takings.{left}
use Rattle.damage_model.proofs.QueuesShrink.{turn-keeps}

-- the entries are what is left of a list without some at its front
abbrev pub AreLeft : List Entry → List Entry → Type 0
AreLeft all entries = (gone : ℕ) × (entries ≡ drop gone all)

less_one : (all entries : List Entry) → AreLeft all entries → AreLeft all (drop 1 entries)
less_one all entries (gone, is) = (gone + 1, ap (drop 1) is ∙ drop-drop 1 gone all)

turn-left : (q : Queue) (all : List Entry) (m : State) → AreLeft all (queue_state q m.queues).entries →
    AreLeft all (queue_state q (turn m).queues).entries
turn-left q all m h =
    turn-keeps (λ held. AreLeft all held.entries)
    (record { removes = λ held here. less_one all held.entries here; takes = λ held count here. here }) q m h

-- how many are gone is how many fewer there are
as_many : (all entries : List Entry) → AreLeft all entries → entries ≡ drop (length all - length entries) all
as_many all entries (gone, is) =
    let rest : length entries ≡ length all - gone = ap length is ∙ length-drop gone all in
    elim (cases_lt (length all) gone) [
      | inl more ↦ (let none : length all - length entries ≡ length all = omega arith in
          is ∙ drop_all gone all (omega arith) ∙ sym (drop_all (length all - length entries) all (omega arith)))
      | inr within ↦ (let same : gone ≡ length all - length entries = omega arith in is ∙ ap (λ (n : ℕ). drop n all) same)
    ]

pub turn-drops : (q : Queue) (m : State) →
    (queue_state q (turn m).queues).entries ≡ drop (left q m (turn m)) (queue_state q m.queues).entries
turn-drops q m = as_many _ _ (turn-left q (queue_state q m.queues).entries m (0, refl))
