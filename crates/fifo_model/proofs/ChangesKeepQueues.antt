-- Each change of the queues keeps what holds of them.
use Rattle.std.proofs.Common.{◌≡◌, ℕ, ◌+◌, ◌<◌, ◌≤◌, ◌==◌, ◌⊎◌, inl, inr, Bool, true, false, ◌||◌, if◌then◌else◌, List, [], ◌∷◌, ◌++◌}
use Rattle.std.proofs.Common.{length, drop, IsSome, Option, Some, None, refl, ap, sym, ◌∙◌, arith, length-append, length-drop}
use Rattle.std.proofs.lemmas.Bool.Decides.{nat_tests}
use Rattle.risc_word.specs.declared.Code.{Code}
use Rattle.sync_status.specs.Statuses.{kind_of, is_control, valid_bytes}
use Rattle.fifo_model.specs.declared.Entry.{Entry}
use Rattle.fifo_model.specs.declared.Queue.{Queue}
use Rattle.fifo_model.specs.declared.Queue.TheVariants.{One, Two, Three}
use Rattle.fifo_model.specs.Queues.{QueueState, Queues, queue_state, with_queue_state, empty_queue, empty_queues, max_capacity, is_full}
use Rattle.fifo_model.specs.Queues.{entered, overrun, pushed, control_entry, control_pushed}
use Rattle.fifo_model.specs.Queues.{all_entered, first, front, valid_of, front_valid, removed, taken_more, taken_from, more, front_code_of}
use Rattle.fifo_model.specs.Queues.{front_code, codes_of, all_removed, emptied, cleared}
use Rattle.fifo_model.specs.Queues.{IsQueue, IsFifo}
use Rattle.fifo_model.proofs.Codes.{codes-append, codes-entered, codes-without_data, codes-without_code, front-valid}

-- One queue.

pub IsQueue-empty : (capacity : ℕ) → 1 ≤ capacity → capacity ≤ max_capacity → IsQueue (empty_queue capacity)
IsQueue-empty capacity some most =
    record { some_room = some; most_room = most; within = omega arith; part = inl refl }

part-entered : (taken : ℕ) (entries : List Entry) (entry : Entry) → (taken ≡ 0) ⊎ (taken < valid_of (first entries)) →
    (taken ≡ 0) ⊎ (taken < valid_of (first (entries ++ entry ∷ [])))
part-entered taken [] entry part = elim part [ inl none ↦ inl none | inr some ↦ absurd (omega arith) ]
part-entered taken (front ∷ rest) entry part = part

room : (n capacity : ℕ) → n ≤ capacity → (n == capacity) ≡ false → n + 1 ≤ capacity
room n capacity within free = grind (arith, nat_tests)

pub IsQueue-entered : (entry : Entry) (state : QueueState) → is_full state ≡ false → IsQueue state → IsQueue (entered entry state)
IsQueue-entered entry state free held =
    let longer : length state.entries + 1 ≤ state.capacity = room _ _ held.within free in
    record {
      some_room = held.some_room;
      most_room = held.most_room;
      within = omega (arith, length-append state.entries (entry ∷ []));
      part = part-entered state.taken state.entries entry held.part;
    }

pub IsQueue-overrun : (state : QueueState) → IsQueue state → IsQueue (overrun state)
IsQueue-overrun state held =
    record { some_room = held.some_room; most_room = held.most_room; within = held.within; part = held.part }

pub IsQueue-removed : (state : QueueState) → IsQueue state → IsQueue (removed state)
IsQueue-removed state held =
    record {
      some_room = held.some_room;
      most_room = held.most_room;
      within = omega (arith, held.within, length-drop 1 state.entries);
      part = inl refl;
    }

pub IsQueue-emptied : (state : QueueState) → IsQueue state → IsQueue (emptied state)
IsQueue-emptied state held =
    record { some_room = held.some_room; most_room = held.most_room; within = omega arith; part = inl refl }

part_after : (taken count valid : ℕ) → taken + count ≤ valid → (taken + count == valid) ≡ false → taken + count < valid
part_after taken count valid most other = grind (arith, nat_tests)

taken-cases : (count : ℕ) (state : QueueState) (entry : Entry) (rest : List Entry) (whole : Bool) →
    (state.taken + count == valid_bytes entry.status) ≡ whole → state.entries ≡ entry ∷ rest →
    state.taken + count ≤ valid_bytes entry.status → IsQueue state →
    IsQueue (if whole then removed state else record state { taken = state.taken + count })
taken-cases count state entry rest true whole same most held = IsQueue-removed state held
taken-cases count state entry rest false other same most held =
    let less : state.taken + count < valid_bytes entry.status = part_after state.taken count (valid_bytes entry.status) most other in
    record {
      some_room = held.some_room;
      most_room = held.most_room;
      within = held.within;
      part = inr (rw same less);
    }

taken-list : (count : ℕ) (state : QueueState) (entries : List Entry) → state.entries ≡ entries →
    state.taken + count ≤ valid_of (first entries) → IsQueue state → IsQueue (taken_more count state entries)
taken-list count state [] same most held = held
taken-list count state (entry ∷ rest) same most held =
    taken-cases count state entry rest (state.taken + count == valid_bytes entry.status) refl same most held

pub IsQueue-taken_from : (count : ℕ) (state : QueueState) → state.taken + count ≤ front_valid state → IsQueue state →
    IsQueue (taken_from count state)
IsQueue-taken_from count state most held = taken-list count state state.entries refl most held

-- The codes of a queue after bytes of its front were taken.
codes-taken_cases : (state : QueueState) (taken : ℕ) (whole : Bool) → codes_of (drop 1 state.entries) ≡ codes_of state.entries →
    codes_of (if whole then removed state else record state { taken = taken }).entries ≡ codes_of state.entries
codes-taken_cases state taken true same = same
codes-taken_cases state taken false same = refl

codes-taken_more : (count : ℕ) (state : QueueState) (entries : List Entry) → codes_of (drop 1 state.entries) ≡ codes_of state.entries →
    codes_of (taken_more count state entries).entries ≡ codes_of state.entries
codes-taken_more count state [] same = refl
codes-taken_more count state (entry ∷ rest) same =
    codes-taken_cases state (state.taken + count) (state.taken + count == valid_bytes entry.status) same

pub codes-taken_from : (count : ℕ) (state : QueueState) → 1 ≤ count → state.taken + count ≤ front_valid state →
    codes_of (taken_from count state).entries ≡ codes_of state.entries
codes-taken_from count state some most =
    codes-taken_more count state state.entries
    (codes-without_data state.entries (front-valid (front state) (omega arith)))

-- The three queues.

pub IsQueue-queue_state : (queue : Queue) (queues : Queues) → IsFifo queues → IsQueue (queue_state queue queues)
IsQueue-queue_state One queues held = held.one
IsQueue-queue_state Two queues held = held.two
IsQueue-queue_state Three queues held = held.three

-- one queue changes, and its control codes stay
pub IsFifo-with_queue_state : (queue : Queue) (state : QueueState) (queues : Queues) → IsQueue state →
    codes_of state.entries ≡ codes_of (queue_state queue queues).entries → IsFifo queues → IsFifo (with_queue_state queue state queues)
IsFifo-with_queue_state One state queues new same held =
    record {
      one = new;
      two = held.two;
      three = held.three;
      second = held.second ∙ sym same;
      third = held.third ∙ sym same;
    }
IsFifo-with_queue_state Two state queues new same held =
    record {
      one = held.one;
      two = new;
      three = held.three;
      second = same ∙ held.second;
      third = held.third;
    }
IsFifo-with_queue_state Three state queues new same held =
    record {
      one = held.one;
      two = held.two;
      three = new;
      second = held.second;
      third = same ∙ held.third;
    }

pub IsFifo-empty : (one two three : ℕ) → 1 ≤ one → one ≤ max_capacity → 1 ≤ two → two ≤ max_capacity → 1 ≤ three → three ≤ max_capacity →
    IsFifo (empty_queues one two three)
IsFifo-empty one two three some-one most-one some-two most-two some-three most-three =
    record {
      one = IsQueue-empty one some-one most-one;
      two = IsQueue-empty two some-two most-two;
      three = IsQueue-empty three some-three most-three;
      second = refl;
      third = refl;
    }

pushed-cases : (queue : Queue) (entry : Entry) (queues : Queues) (full : Bool) → is_full (queue_state queue queues) ≡ full →
    is_control (kind_of entry.status) ≡ false → IsFifo queues →
    IsFifo (if full then with_queue_state queue (overrun (queue_state queue queues)) queues
    else with_queue_state queue (entered entry (queue_state queue queues)) queues)
pushed-cases queue entry queues true full none held =
    let state = queue_state queue queues in
    IsFifo-with_queue_state queue (overrun state) queues (IsQueue-overrun state (IsQueue-queue_state queue queues held)) refl held
pushed-cases queue entry queues false free none held =
    let state = queue_state queue queues in
    IsFifo-with_queue_state queue (entered entry state) queues
    (IsQueue-entered entry state free (IsQueue-queue_state queue queues held))
    (codes-entered state.entries entry none) held

pub IsFifo-pushed : (queue : Queue) (entry : Entry) (queues : Queues) → is_control (kind_of entry.status) ≡ false → IsFifo queues →
    IsFifo (pushed queue entry queues)
IsFifo-pushed queue entry queues none held =
    pushed-cases queue entry queues (is_full (queue_state queue queues)) refl none held

-- entries that are the same in each queue
codes-both : (xs ys zs : List Entry) → codes_of xs ≡ codes_of ys → codes_of (xs ++ zs) ≡ codes_of (ys ++ zs)
codes-both xs ys zs same =
    codes-append xs zs ∙ ap (λ codes. codes ++ codes_of zs) same ∙ sym (codes-append ys zs)

pub IsFifo-all_entered : (entry : Entry) (queues : Queues) → is_full queues.one ≡ false → is_full queues.two ≡ false →
    is_full queues.three ≡ false → IsFifo queues → IsFifo (all_entered entry queues)
IsFifo-all_entered entry queues one two three held =
    record {
      one = IsQueue-entered entry queues.one one held.one;
      two = IsQueue-entered entry queues.two two held.two;
      three = IsQueue-entered entry queues.three three held.three;
      second = codes-both queues.two.entries queues.one.entries (entry ∷ []) held.second;
      third = codes-both queues.three.entries queues.one.entries (entry ∷ []) held.third;
    }

control-cases : (code : Code) (queues : Queues) (one two three : Bool) → is_full queues.one ≡ one → is_full queues.two ≡ two →
    is_full queues.three ≡ three → IsFifo queues →
    IsFifo (if one || two || three then record queues {
      control_overruns = more queues.control_overruns 1;
    } else all_entered (control_entry code) queues)
control-cases code queues false false false one two three held =
    IsFifo-all_entered (control_entry code) queues one two three held
control-cases code queues true two three _ _ _ held =
    record { one = held.one; two = held.two; three = held.three; second = held.second; third = held.third }
control-cases code queues false true three _ _ _ held =
    record { one = held.one; two = held.two; three = held.three; second = held.second; third = held.third }
control-cases code queues false false true _ _ _ held =
    record { one = held.one; two = held.two; three = held.three; second = held.second; third = held.third }

pub IsFifo-control_pushed : (code : Code) (queues : Queues) → IsFifo queues → IsFifo (control_pushed code queues)
IsFifo-control_pushed code queues held =
    control-cases code queues (is_full queues.one) (is_full queues.two) (is_full queues.three) refl refl refl held

pub IsFifo-taken_from : (queue : Queue) (count : ℕ) (queues : Queues) → 1 ≤ count →
    (queue_state queue queues).taken + count ≤ front_valid (queue_state queue queues) → IsFifo queues →
    IsFifo (with_queue_state queue (taken_from count (queue_state queue queues)) queues)
IsFifo-taken_from queue count queues some most held =
    let state = queue_state queue queues in
    IsFifo-with_queue_state queue (taken_from count state) queues
    (IsQueue-taken_from count state most (IsQueue-queue_state queue queues held))
    (codes-taken_from count state some most) held

pub IsFifo-removed : (queue : Queue) (queues : Queues) → front_code (queue_state queue queues) ≡ None → IsFifo queues →
    IsFifo (with_queue_state queue (removed (queue_state queue queues)) queues)
IsFifo-removed queue queues none held =
    let state = queue_state queue queues in
    IsFifo-with_queue_state queue (removed state) queues
    (IsQueue-removed state (IsQueue-queue_state queue queues held))
    (codes-without_data state.entries none) held

-- two lists that begin with a code, and are the same, are the same without it
same-rest : (xs ys : List Entry) (x y : Code) → codes_of xs ≡ x ∷ codes_of (drop 1 xs) → codes_of ys ≡ y ∷ codes_of (drop 1 ys) →
    codes_of xs ≡ codes_of ys → codes_of (drop 1 xs) ≡ codes_of (drop 1 ys)
same-rest xs ys x y first-x first-y same = cc

popped-cases : (xs ys : List Entry) (x y : Option Code) → front_code_of (first xs) ≡ x → front_code_of (first ys) ≡ y → IsSome x →
    IsSome y → codes_of ys ≡ codes_of xs → codes_of (drop 1 ys) ≡ codes_of (drop 1 xs)
popped-cases xs ys None y first-x first-y some-x some-y same = cc
popped-cases xs ys (Some x) None first-x first-y some-x some-y same = cc
popped-cases xs ys (Some x) (Some y) first-x first-y some-x some-y same =
    same-rest ys xs y x (codes-without_code ys y first-y) (codes-without_code xs x first-x) same

codes-popped : (one other : QueueState) → IsSome (front_code one) → IsSome (front_code other) →
    codes_of other.entries ≡ codes_of one.entries → codes_of (drop 1 other.entries) ≡ codes_of (drop 1 one.entries)
codes-popped one other some-one some-other same =
    popped-cases one.entries other.entries (front_code one) (front_code other) refl refl some-one some-other same

pub IsFifo-all_removed : (queues : Queues) → IsSome (front_code queues.one) → IsSome (front_code queues.two) →
    IsSome (front_code queues.three) → IsFifo queues → IsFifo (all_removed queues)
IsFifo-all_removed queues one two three held =
    record {
      one = IsQueue-removed queues.one held.one;
      two = IsQueue-removed queues.two held.two;
      three = IsQueue-removed queues.three held.three;
      second = codes-popped queues.one queues.two one two held.second;
      third = codes-popped queues.one queues.three one three held.third;
    }

pub IsFifo-cleared : (queues : Queues) → IsFifo queues → IsFifo (cleared queues)
IsFifo-cleared queues held =
    record {
      one = IsQueue-emptied queues.one held.one;
      two = IsQueue-emptied queues.two held.two;
      three = IsQueue-emptied queues.three held.three;
      second = refl;
      third = refl;
    }
