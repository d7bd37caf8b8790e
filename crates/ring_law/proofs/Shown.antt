-- What the law states of a ring run, whether its last lines came whole or not.
use Rattle.std.proofs.Common.{All, List, Option, Some, [], append-nil, append_assoc, arith, drop, false, if◌then◌else◌, length}
use Rattle.std.proofs.Common.{length-append, length-take, refl, subst, suc, take, take-take, zero, ℕ}
use Rattle.std.proofs.Common.{◌%◌, ◌*◌, ◌++◌, ◌+◌, ◌-◌, ◌<◌, ◌==◌, ◌∙◌, ◌∷◌, ◌≡◌, ◌≤◌, ap, ⊎_elim, sym}
use Rattle.std.proofs.lemmas.List.Elements.{All-take}
use Rattle.std.proofs.lemmas.Bool.{cases_lt}
use Rattle.std.proofs.lemmas.List.{drop-take}
use Rattle.std.specs.List.{flat_map}
use Rattle.std.proofs.Math.Nat.{mod-lt}
use Rattle.field_law.proofs.AskedAndToCome.{AnyRest}
use Rattle.field_law.specs.Fields.{Brings, Mark}
use Rattle.ring_law.proofs.Ending.{Ended}
use Rattle.ring_law.specs.Laws.{EndsBlock, RingsShowNoFault, RingsShowTheirBlocks}
use Rattle.fifo_model.specs.declared.Entry.{Entry}
use Rattle.risc_word.specs.declared.Code.TheVariants.{Fm1}
use Rattle.ring_model.specs.Runs.{block_ends}
use Rattle.machine_model.specs.Safety.{IsStep}
use Rattle.fifo_model.specs.declared.Queue.TheVariants.{One, Three, Two}
use Rattle.ring_law.proofs.Padding.{Padded, Whole, pads, whole_lines}
use Rattle.fifo_model.specs.declared.Queue.{Queue}
use Rattle.ring_model.specs.Rings.{Ring, ends, mark, ring_program}
use Rattle.machine_model.specs.Paths.{RiscProgram}
use Rattle.machine_model.specs.States.{State}
use Rattle.machine_model.specs.Steps.{Step, Turn, run}
use Rattle.ring_law.proofs.Laws.{Supplied, ended, final, quiet_at, ring_field}
use Rattle.ring_law.proofs.Stored.{blocks_hold, rest_holds}
use Rattle.page_table.specs.Blocks.{byte_at, chunks_of}
use Rattle.ring_model.proofs.Lines.{line_end}
use Rattle.field_law.specs.Arrivals.{pushed_in}
use Rattle.fifo_model.specs.Queues.{queue_state}
use Rattle.ring_law.proofs.Asks.{ring_stores}
use Rattle.machine_model.proofs.Runs.{run-append}
use Rattle.machine_model.specs.Turns.{sets_fdsr, stored_all, turn}
use Rattle.field_law.proofs.Laws.{shows_bits}
use Rattle.ring_model.proofs.Counting.{block_ends-append}
use Rattle.ring_law.specs.RingRuns.{IsRingRun, ShowsBlocks, block_address, brought, byte_of, left_on, held}
use Rattle.field_law.proofs.Painting.{all_left}

-- ---- steps before a turn

pub front_of_early : (early first second : List Step) (last here : Step) → early ++ last ∷ [] ≡ first ++ here ∷ second →
    (more : List Step) × (early ≡ first ++ more)
front_of_early early [] second last here split = (early, refl)
front_of_early [] (one ∷ []) second last here split = cc
front_of_early [] (one ∷ next ∷ first) second last here split = cc
front_of_early (st ∷ early) (one ∷ first) second last here split =
    let same : st ≡ one = cc in
    let rest : early ++ last ∷ [] ≡ first ++ here ∷ second = cc in
    let found = front_of_early early first second last here rest in
    (found.0, ap (λ (st : Step). st ∷ early) same ∙ ap (λ (rest : List Step). one ∷ rest) found.1)

-- ---- what a block holds is among the lines that its block ends take

taken_lines : (wanted from count : ℕ) (lines : List (List ℕ)) → from + count ≤ wanted →
    take count (drop from (take wanted lines)) ≡ take count (drop from lines)
taken_lines wanted from count lines within =
    let parts : wanted ≡ from + (wanted - from) = omega arith in
    ap (λ (n : ℕ). take count (drop from (take n lines))) parts ∙ ap (take count) (drop-take from (wanted - from) lines)
    ∙ take-take count (wanted - from) (drop from lines) (omega arith)

held_taken : (r : Ring) (wanted : ℕ) (lines : List (List ℕ)) (block count : ℕ) → count * r.lines ≤ wanted →
    held r (take wanted lines) block count ≡ held r lines block count
held_taken r wanted lines block zero within = refl
held_taken r wanted lines block (suc count) within =
    let next : count * r.lines + r.lines ≡ suc count * r.lines =
    line_end count r.lines ∙ ap (λ (n : ℕ). n * r.lines) (let one : count + 1 ≡ suc count = omega arith in one) in
    ap (λ (bytes : List ℕ). if count % r.blocks == block then Some bytes else held r (take wanted lines) block count)
    (ap (flat_map (λ line. line)) (taken_lines wanted (count * r.lines) r.lines lines (omega arith)))
    ∙ ap (λ (other : Option (List ℕ)). if count % r.blocks == block then Some (brought r lines count) else other)
    (held_taken r wanted lines block count (omega arith))

-- ---- what the queues are brought

module _ (r : Ring) (lines : List (List ℕ)) (m : State) (steps : List Step) (run : IsRingRun r lines m steps) (count : ℕ) where
  abbrev wanted : ℕ
  wanted = count * r.lines

  -- all lines came
  supplied_whole : wanted ≤ length lines → (given : Supplied r m steps count AnyRest) × (given.lines ≡ take wanted lines)
  supplied_whole enough =
      let whole = whole_lines wanted lines (run.entries One) (run.brings One) in (
        record {
          lines = take wanted lines;
          many = omega (arith, length-take wanted lines);
          long = All-take (λ line. length line ≡ r.line_bytes) wanted lines run.long;
          pad = λ q. [];
          before = run.before;
          entries = front_on whole;
          rest = rest_on whole;
          rests = λ q. tt;
          order = order whole;
          unmarked = run.unmarked;
          brings = brings whole;
        },
        refl,
      )
    where
      front_on : Whole (count * r.lines) lines (run.entries One) → Queue → List Entry
      front_on whole One = whole.front
      front_on whole Two = run.entries Two
      front_on whole Three = run.entries Three

      rest_on : Whole (count * r.lines) lines (run.entries One) → Queue → List Entry
      rest_on whole One = whole.back ++ run.unfinished
      rest_on whole Two = []
      rest_on whole Three = []

      pushes : (q : Queue) →
          (queue_state q m.queues).entries ++ (pushed_in steps q ++ []) ≡ run.before q ++ (run.entries q ++ left_on run.unfinished q)
      pushes q = ap (λ (pushed : List Entry). (queue_state q m.queues).entries ++ pushed) (append-nil (pushed_in steps q)) ∙ run.order q

      order : (whole : Whole (count * r.lines) lines (run.entries One)) (q : Queue) →
          (queue_state q m.queues).entries ++ (pushed_in steps q ++ []) ≡ run.before q ++ (front_on whole q ++ rest_on whole q)
      order whole One =
          pushes One ∙ ap (λ (entries : List Entry). run.before One ++ (entries ++ run.unfinished)) whole.split
          ∙ ap (λ (more : List Entry). run.before One ++ more) (append_assoc whole.front whole.back run.unfinished)
      order whole Two = pushes Two
      order whole Three = pushes Three

      brings : (whole : Whole (count * r.lines) lines (run.entries One)) (q : Queue) →
          Brings (Mark Fm1 ∷ ring_field (take (count * r.lines) lines) q) (front_on whole q)
      brings whole One = whole.brings
      brings whole Two = run.brings Two
      brings whole Three = run.brings Three

  abbrev IsNone : List Entry → Type 0
  IsNone rest = rest ≡ []

  -- some didn't
  supplied_short : length lines < wanted → (given : Supplied r m steps count IsNone) × (0 < length (given.pad One))
  supplied_short few =
      let padded = pads wanted r.line_bytes lines (run.entries One) run.unfinished few run.long (run.brings One) run.last in (
        record {
          lines = padded.lines;
          many = padded.many;
          long = padded.long;
          pad = pad_on padded;
          before = run.before;
          entries = entries_on padded;
          rest = λ q. [];
          rests = λ q. refl;
          order = order padded;
          unmarked = run.unmarked;
          brings = brings padded;
        },
        padded.some,
      )
    where
      pad_on : Padded (count * r.lines) r.line_bytes (run.entries One) run.unfinished → Queue → List Entry
      pad_on padded One = padded.pad
      pad_on padded Two = []
      pad_on padded Three = []

      entries_on : Padded (count * r.lines) r.line_bytes (run.entries One) run.unfinished → Queue → List Entry
      entries_on padded One = run.entries One ++ (run.unfinished ++ padded.pad)
      entries_on padded Two = run.entries Two
      entries_on padded Three = run.entries Three

      pushes : (q : Queue) →
          (queue_state q m.queues).entries ++ (pushed_in steps q ++ []) ≡ run.before q ++ (run.entries q ++ left_on run.unfinished q)
      pushes q = ap (λ (pushed : List Entry). (queue_state q m.queues).entries ++ pushed) (append-nil (pushed_in steps q)) ∙ run.order q

      order : (padded : Padded (count * r.lines) r.line_bytes (run.entries One) run.unfinished) (q : Queue) →
          (queue_state q m.queues).entries ++ (pushed_in steps q ++ pad_on padded q) ≡ run.before q ++ (entries_on padded q ++ [])
      order padded One =
          sym (append_assoc (queue_state One m.queues).entries (pushed_in steps One) padded.pad)
          ∙ ap (λ (entries : List Entry). entries ++ padded.pad) (run.order One)
          ∙ append_assoc (run.before One) (run.entries One ++ run.unfinished) padded.pad
          ∙ ap (λ (more : List Entry). run.before One ++ more)
          (append_assoc (run.entries One) run.unfinished padded.pad ∙ sym (append-nil (run.entries One ++ (run.unfinished ++ padded.pad))))
      order padded Two = pushes Two
      order padded Three = pushes Three

      brings : (padded : Padded (count * r.lines) r.line_bytes (run.entries One) run.unfinished) (q : Queue) →
          Brings (Mark Fm1 ∷ ring_field padded.lines q) (entries_on padded q)
      brings padded One = padded.brings
      brings padded Two = run.brings Two
      brings padded Three = run.brings Three

-- ---- the law

any_grows : (rest : List Entry) → AnyRest rest → AnyRest (rest ++ [])
any_grows rest any = tt

none_grows : (rest : List Entry) → rest ≡ [] → rest ++ [] ≡ []
none_grows rest none = append-nil rest ∙ none

nothing_left : (held pad rest : List Entry) → rest ≡ [] → held ++ pad ≡ rest → 0 < length pad → ⊥
nothing_left held pad rest none ahead some =
    let long = ap (λ (entries : List Entry). length entries) (ahead ∙ none) in
    omega (arith, length-append held pad)

module _ (r : Ring) (lines : List (List ℕ)) (m : State) (early : List Step) (block : ℕ) (e : EndsBlock r lines m early block) where
  abbrev number : ℕ
  number = block_ends (ends r) m early

  -- as many lines came as the block ends took
  enough_came : suc number * r.lines ≤ length lines
  enough_came =
      ⊎_elim
      (λ few.
      let short = supplied_short r lines m (early ++ Turn ∷ []) e.runs (suc number) few in
      let h = ended r lines m early block e (λ rest. rest ≡ []) none_grows short.0 in
      absurd (nothing_left (queue_state One (run m early).queues).entries (short.0.pad One) h.1.rest h.1.rests h.1.ahead short.1))
      (λ enough. enough)
      (cases_lt (length lines) (suc number * r.lines))

  came : (given : Supplied r m (early ++ Turn ∷ []) (suc number) AnyRest) × (given.lines ≡ take (suc number * r.lines) lines)
  came = supplied_whole r lines m (early ++ Turn ∷ []) e.runs (suc number) enough_came

  at_end : Ended (final r lines m early block e AnyRest any_grows came.0) block (number % r.blocks) (run m early)
  at_end = (ended r lines m early block e AnyRest any_grows came.0).0

  turned : run m (early ++ Turn ∷ []) ≡ turn (run m early)
  turned = run-append m early (Turn ∷ [])

  memory_now : (run m (early ++ Turn ∷ [])).memory ≡ stored_all m.memory (ring_stores r 0 (suc number) (take (suc number * r.lines) lines))
  memory_now =
      ap (λ (now : State). now.memory) turned ∙ at_end.memory
      ∙ ap (λ (lines : List (List ℕ)). stored_all m.memory (ring_stores r 0 (suc number) lines)) came.1

  chunks : chunks_of m.memory ≡ (ring_program r).grants
  chunks = e.chunks ∙ ap (λ (program : RiscProgram). program.grants) e.runs.program

  below_sixteen : block < 16
  below_sixteen =
      let two = e.ring.blocks.0 in
      let most = e.ring.blocks.1 in
      let same = at_end.same in
      let below : number % r.blocks < r.blocks = mod-lt number (omega arith) in
      omega arith

  pub shows_blocks : (block ≡ number % r.blocks) × ShowsBlocks r lines number m (run m (early ++ Turn ∷ []))
  shows_blocks =
      let small = below_sixteen in
      let taken = take (suc number * r.lines) lines in
      let bits =
      shows_bits (mark block) (run m early).interrupts (run m (early ++ Turn ∷ [])).interrupts
      (ap (λ (now : State). now.interrupts) turned ∙ at_end.interrupts) in
      let long = All-take (λ line. length line ≡ r.line_bytes) (suc number * r.lines) lines e.runs.long in
      let enough = enough_came in
      let many : suc number * r.lines ≤ length taken = omega (arith, length-take (suc number * r.lines) lines) in (
        at_end.same,
        record {
          came =
              let next : number + 1 ≡ suc number = omega arith in
              subst (λ (count : ℕ). count * r.lines ≤ length lines) (sym next) enough;
          raised = bits.raised refl;
          status = bits.status (omega arith) ∙ at_end.same;
          blocks =
              λ b x below inside.
              ap (λ memory. byte_at memory (block_address r b x)) memory_now
              ∙ blocks_hold r e.ring m.memory chunks taken long (suc number) b x many below inside
              ∙ ap (λ (bytes : Option (List ℕ)). byte_of bytes x (byte_at m.memory (block_address r b x)))
              (held_taken r (suc number * r.lines) lines b (suc number) (omega arith));
          rest =
              λ address outside.
              ap (λ memory. byte_at memory address) memory_now
              ∙ rest_holds r e.ring m.memory chunks taken long (suc number) address many outside;
        },
      )

  pub shows_no_fault : (first second : List Step) → early ++ Turn ∷ [] ≡ first ++ Turn ∷ second → sets_fdsr (run m first) ≡ false
  shows_no_fault first second split =
      let more = front_of_early early first second Turn Turn split in
      let count = ap (λ (steps : List Step). block_ends (ends r) m steps) more.1 ∙ block_ends-append (ends r) m first more.0 in
      quiet_at r lines m early block e AnyRest any_grows came.0 first second split (omega arith)
      (all_left IsStep first more.0 (subst (All IsStep) more.1 e.made))

pub rings_show_blocks : RingsShowTheirBlocks
rings_show_blocks = shows_blocks

pub rings_show_no_fault : RingsShowNoFault
rings_show_no_fault = shows_no_fault
