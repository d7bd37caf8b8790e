-- The worked ring run meets the premises of the law.
use Rattle.std.proofs.Common.{All, List, [], arith, length, refl, ℕ, ◌++◌, ◌<◌, ◌^◌, ◌∷◌, ◌≡◌}
use Rattle.std.proofs.lemmas.List.Elements.{All-from_recursion, All-nil}
use Rattle.field_law.specs.Arrivals.{AreKept, HasCode, meeting, pushed_in}
use Rattle.field_law.specs.Fields.{Brings}
use Rattle.ring_law.specs.Runs.{EndsBlockAt}
use Rattle.fifo_model.specs.declared.Entry.{Entry}
use Rattle.risc_word.specs.declared.Code.TheVariants.{Fm1}
use Rattle.ring_model.specs.Rings.{IsRing}
use Rattle.machine_model.specs.Safety.{IsStep}
use Rattle.fifo_model.specs.declared.Queue.TheVariants.{One, Three, Two}
use Rattle.fifo_model.specs.declared.Queue.{Queue}
use Rattle.machine_model.specs.Steps.{Turn}
use Rattle.fifo_model.specs.Queues.{control_entry, queue_state}
use Rattle.ring_law.specs.Worked.{early, run_steps, three_early, three_steps, three_whole, two_whole, waiting}
use Rattle.field_law.specs.Worked.{entry}
use Rattle.ring_model.specs.Worked.{two_lines}
use Rattle.ring_law.specs.RingRuns.{IsRingRun, IsUnfinished, left_on, tokens_on}

abbrev IsOther : Entry → Type 0
IsOther entry = HasCode Fm1 entry → ⊥

abbrev before : Queue → List Entry
before One = entry 0 0xffffffff ∷ []
before Two = []
before Three = []

abbrev entries : Queue → List Entry
entries One = control_entry Fm1 ∷ entry 2 0x13121110 ∷ entry 1 0x17161514 ∷ entry 2 0x23222120 ∷ entry 1 0x27262524 ∷ []
entries Two = control_entry Fm1 ∷ []
entries Three = control_entry Fm1 ∷ []

abbrev unfinished : List Entry
unfinished = entry 2 0x33323130 ∷ []

order : (q : Queue) →
    (queue_state q waiting.queues).entries ++ pushed_in (early ++ Turn ∷ []) q ≡ before q ++ (entries q ++ left_on unfinished q)
order One = refl
order Two = refl
order Three = refl

unmarked : (q : Queue) → All IsOther (before q)
unmarked One = All-from_recursion IsOther (before One) (λ same. cc, tt)
unmarked Two = All-nil IsOther
unmarked Three = All-nil IsOther

brings : (q : Queue) → Brings (tokens_on two_whole q) (entries q)
brings One = (
  control_entry Fm1,
  entry 2 0x13121110 ∷ entry 1 0x17161514 ∷ entry 2 0x23222120 ∷ entry 1 0x27262524 ∷ [],
  refl,
  refl,
  (
    entry 2 0x13121110 ∷ entry 1 0x17161514 ∷ [],
    entry 2 0x23222120 ∷ entry 1 0x27262524 ∷ [],
    refl,
    record { shape = refl; valid = refl },
    (entry 2 0x23222120 ∷ entry 1 0x27262524 ∷ [], [], refl, record { shape = refl; valid = refl }, refl),
  ),
)
brings Two = (control_entry Fm1, [], refl, refl, refl)
brings Three = (control_entry Fm1, [], refl, refl, refl)

is_unfinished : IsUnfinished 8 unfinished
is_unfinished =
    record {
      missing = entry 1 0x37363534 ∷ [];
      some = omega arith;
      line = 0x30 ∷ 0x31 ∷ 0x32 ∷ 0x33 ∷ 0x34 ∷ 0x35 ∷ 0x36 ∷ 0x37 ∷ [];
      is = record { shape = refl; valid = refl };
      long = refl;
    }

abbrev IsLong : List ℕ → Type 0
IsLong line = length line ≡ 8

kept : AreKept waiting (meeting waiting.program (early ++ Turn ∷ []))
kept = (refl, (refl, (refl, (refl, (refl, (refl, (refl, (tt, (tt, (tt, (tt, (tt, (tt, (tt, (tt, (tt, (tt, tt)))))))))))))))))

run_is : IsRingRun two_lines two_whole waiting (early ++ Turn ∷ [])
run_is =
    record {
      program = refl;
      fifo_on = refl;
      risc_on = refl;
      waits = refl;
      there = refl;
      kept = kept;
      before = before;
      entries = entries;
      unfinished = unfinished;
      order = order;
      unmarked = unmarked;
      brings = brings;
      long = All-from_recursion IsLong two_whole (refl, (refl, tt));
      last = is_unfinished;
    }

abbrev IsAddress : ℕ → Type 0
IsAddress page = page < 2 ^ 32

ring_is : IsRing two_lines
ring_is =
    record {
      blocks = (omega arith, omega arith);
      lines = (omega arith, omega arith);
      line_bytes = (omega arith, omega arith);
      few_pages = omega arith;
      addresses = All-from_recursion IsAddress (0x20000 ∷ []) (omega arith, tt);
      pages = record { aligned = refl; apart = refl };
      enough = omega arith;
    }

pub two_made : All IsStep run_steps
two_made =
    All-from_recursion IsStep run_steps
    (tt, (refl, (tt, (refl, (refl, (refl, (refl, (refl, (tt, (tt, (tt, (tt, (tt, (tt, (tt, (tt, (tt, (tt, tt))))))))))))))))))

pub ends_second_block : EndsBlockAt two_lines two_whole run_steps 1 17 1
ends_second_block =
    record {
      ring = ring_is;
      later = omega arith;
      there = omega arith;
      runs = run_is;
      ends = refl;
    }

-- ---- the first block is filled a second time

abbrev three_entries : Queue → List Entry
three_entries One =
    control_entry Fm1 ∷ entry 2 0x13121110 ∷ entry 1 0x17161514 ∷ entry 2 0x23222120 ∷ entry 1 0x27262524 ∷ entry 2 0x33323130
    ∷ entry 1 0x37363534 ∷ []
three_entries Two = control_entry Fm1 ∷ []
three_entries Three = control_entry Fm1 ∷ []

three_order : (q : Queue) →
    (queue_state q waiting.queues).entries ++ pushed_in (three_early ++ Turn ∷ []) q ≡ before q ++ (three_entries q ++ left_on [] q)
three_order One = refl
three_order Two = refl
three_order Three = refl

three_brings : (q : Queue) → Brings (tokens_on three_whole q) (three_entries q)
three_brings One = (
  control_entry Fm1,
  entry 2 0x13121110 ∷ entry 1 0x17161514 ∷ entry 2 0x23222120 ∷ entry 1 0x27262524 ∷ entry 2 0x33323130 ∷ entry 1 0x37363534 ∷ [],
  refl,
  refl,
  (
    entry 2 0x13121110 ∷ entry 1 0x17161514 ∷ [],
    entry 2 0x23222120 ∷ entry 1 0x27262524 ∷ entry 2 0x33323130 ∷ entry 1 0x37363534 ∷ [],
    refl,
    record { shape = refl; valid = refl },
    (
      entry 2 0x23222120 ∷ entry 1 0x27262524 ∷ [],
      entry 2 0x33323130 ∷ entry 1 0x37363534 ∷ [],
      refl,
      record { shape = refl; valid = refl },
      (entry 2 0x33323130 ∷ entry 1 0x37363534 ∷ [], [], refl, record { shape = refl; valid = refl }, refl),
    ),
  ),
)
three_brings Two = (control_entry Fm1, [], refl, refl, refl)
three_brings Three = (control_entry Fm1, [], refl, refl, refl)

nothing_unfinished : IsUnfinished 8 []
nothing_unfinished =
    record {
      missing = entry 2 0x43424140 ∷ entry 1 0x47464544 ∷ [];
      some = omega arith;
      line = 0x40 ∷ 0x41 ∷ 0x42 ∷ 0x43 ∷ 0x44 ∷ 0x45 ∷ 0x46 ∷ 0x47 ∷ [];
      is = record { shape = refl; valid = refl };
      long = refl;
    }

three_kept : AreKept waiting (meeting waiting.program (three_early ++ Turn ∷ []))
three_kept =
    (refl, (refl, (refl, (refl, (refl, (refl, (refl, (refl, (tt, (tt, (tt, (tt, (tt, (tt, (tt, (tt, (tt, (tt, (tt, (tt, (tt, (tt, (tt, tt)))))))))))))))))))))))

three_run : IsRingRun two_lines three_whole waiting (three_early ++ Turn ∷ [])
three_run =
    record {
      program = refl;
      fifo_on = refl;
      risc_on = refl;
      waits = refl;
      there = refl;
      kept = three_kept;
      before = before;
      entries = three_entries;
      unfinished = [];
      order = three_order;
      unmarked = unmarked;
      brings = three_brings;
      long = All-from_recursion IsLong three_whole (refl, (refl, (refl, tt)));
      last = nothing_unfinished;
    }

pub three_made : All IsStep three_steps
three_made =
    All-from_recursion IsStep three_steps
    (tt, (refl, (tt, (refl, (refl, (refl, (refl, (refl, (refl, (tt, (tt, (tt, (tt, (tt, (tt, (tt, (tt, (tt, (tt, (tt, (tt, (tt, (tt, (tt, tt))))))))))))))))))))))))

pub ends_first_block_again : EndsBlockAt two_lines three_whole three_steps 1 23 0
ends_first_block_again =
    record {
      ring = ring_is;
      later = omega arith;
      there = omega arith;
      runs = three_run;
      ends = refl;
    }
