-- What the instructions of a whole row take of a queue entered it one after another.
use Rattle.std.proofs.Common.{◌≡◌, ℕ, zero, suc, Bool, true, false, ◌&&◌, List, [], ◌∷◌, map, refl}
use Rattle.std.specs.Prelude.{slice_index_or}
use Rattle.std.specs.List.{list_all}
use Rattle.std.proofs.lemmas.Bool.{and_parts, false≢true}
use Rattle.fifo_model.specs.declared.Queue.{Queue}
use Rattle.fifo_model.specs.declared.Queue.TheVariants.{One, Two, Three}
use Rattle.machine_model.specs.States.{State}
use Rattle.machine_model.specs.Steps.{Step}
use Rattle.damage_model.specs.Lines.{AreInOrder, entries_taken, make_line}
use Rattle.damage_model.specs.Marks.{is_among, is_whole, row_addresses_at, takings_at}
use Rattle.damage_model.specs.Orders.{entry_at, stream}
use Rattle.damage_model.specs.Standing.{HaveEntered, WholeRowsEntered}
use Rattle.damage_model.specs.Takings.{Taking, retires}
use Rattle.damage_model.proofs.Orders.{some_in_order}
use Rattle.damage_model.proofs.WholeLines.{line-entered}

-- a row that is marked is whole
marked : (test : List ℕ → Bool) (rows : List (List ℕ)) (number : ℕ) → slice_index_or (map test rows) number false ≡ true →
    test (slice_index_or rows number []) ≡ true
marked test [] number is = absurd (false≢true is)
marked test (row ∷ rows) zero is = is
marked test (row ∷ rows) (suc number) is = marked test rows number is

-- so what it takes of each queue makes a line
queue_makes : (q : Queue) (m : State) (steps : List Step) (addresses : List ℕ) → is_whole m steps addresses ≡ true →
    make_line (takings_at addresses q m steps) ≡ true
queue_makes q m steps addresses whole =
    let all = list_all (is_among (retires m steps)) addresses in
    let one = make_line (takings_at addresses One m steps) in
    let two = make_line (takings_at addresses Two m steps) in
    let last = and_parts (all && one && two) (make_line (takings_at addresses Three m steps)) whole in
    let second = and_parts (all && one) two last.0 in
    by_queue q (and_parts all one second.0).1 second.1 last.1
  where
    by_queue : (q : Queue) → make_line (takings_at addresses One m steps) ≡ true → make_line (takings_at addresses Two m steps) ≡ true →
        make_line (takings_at addresses Three m steps) ≡ true →
        make_line (takings_at addresses q m steps) ≡ true
    by_queue One first second third = first
    by_queue Two first second third = second
    by_queue Three first second third = third

line_entered : (q : Queue) (m : State) (steps : List Step) (ts : List Taking) → AreInOrder (entry_at (stream q m steps)) 0 0 ts →
    make_line ts ≡ true → HaveEntered (entries_taken ts) q m steps
line_entered q m steps [] order makes = (0, 0, refl)
line_entered q m steps (t ∷ rest) order makes = line-entered (entry_at (stream q m steps)) (t ∷ rest) order makes

pub whole_rows_entered : WholeRowsEntered
whole_rows_entered begin d field m steps orderly are_steps q number whole =
    let addresses = slice_index_or (row_addresses_at begin d field) number [] in
    line_entered q m steps (takings_at addresses q m steps) (some_in_order q m steps addresses orderly are_steps)
    (queue_makes q m steps addresses (marked (is_whole m steps) (row_addresses_at begin d field) number whole))
