-- What is kept of plain entries that are taken at once is what is kept of one.
use Rattle.std.proofs.Common.{◌≡◌, ℕ, zero, suc, ◌<◌, ◌≤◌, ◌*◌, Bool, true, false, List, [], ◌∷◌, replicate, refl, sym, ap, ap₂}
use Rattle.std.proofs.Common.{◌∙◌, arith, inl, inr}
use Rattle.fifo_model.specs.declared.Queue.{Queue}
use Rattle.machine_model.specs.declared.Did.TheVariants.{Still}
use Rattle.machine_model.specs.declared.Seen.{Seen}
use Rattle.machine_model.specs.Paths.{RiscProgram}
use Rattle.machine_model.specs.Seen.{seen}
use Rattle.machine_model.specs.States.{State}
use Rattle.machine_model.specs.Steps.{Turn, push, run}
use Rattle.machine_model.specs.Turns.{turn}
use Rattle.dma_machine.specs.FallThrough.{moved_whole}
use Rattle.dma_machine.specs.Plain.{AreTaken, CompletesBurst, plain_room}
use Rattle.machine_model.specs.PlainEntries.{HaveTurns, plain_entry, plain_steps}
use Rattle.machine_watch.specs.Watches.{FirstTellsIf, Notes, kept_after, run_room, watched, watching}
use Rattle.machine_watch.proofs.Keeping.{kept-append, still_keeps}

module _ {K : Type 0} (notes : Notes K)
    (still : (program : RiscProgram) (s : Seen) (k : K) → s.did ≡ Still → notes.saw program s k ≡ k) where
  -- an entry that completes a burst, and the turns behind it
  one_tells : (q : Queue) (turns : ℕ) (pushed : State) (k : K) → 1 ≤ turns → CompletesBurst q pushed →
      kept_after notes pushed (replicate turns Turn) k ≡ notes.saw pushed.program (moved_whole q (seen pushed).at) k
  one_tells q zero pushed k some burst = absurd (omega (arith, some))
  one_tells q (suc turns) pushed k some burst =
      ap (λ (s : Seen). kept_after notes (turn pushed) (replicate turns Turn) (notes.saw pushed.program s k)) burst.moves
      ∙ still_keeps notes still turns (turn pushed) (notes.saw pushed.program (moved_whole q (seen pushed).at) k) burst.still

  -- an entry and those behind it
  first_keeps : (q : Queue) (entry : ℕ × ℕ) (entries : List (ℕ × ℕ)) (m : State) (k told : K) →
      kept_after notes (push q (plain_entry entry.0) m) (replicate entry.1 Turn) k ≡ told →
      kept_after notes m (plain_steps q (entry ∷ entries)) k
      ≡ kept_after notes (run (push q (plain_entry entry.0) m) (replicate entry.1 Turn)) (plain_steps q entries) told
  first_keeps q entry entries m k told is =
      let pushed : State = push q (plain_entry entry.0) m in
      kept-append notes pushed (replicate entry.1 Turn) (plain_steps q entries) k
      ∙ ap (λ (x : K). kept_after notes (run pushed (replicate entry.1 Turn)) (plain_steps q entries) x) is

  module _ (whole : FirstTellsIf true notes) where
    -- bursts behind another tell nothing
    later_tell : (some : Bool) (q : Queue) (entries : List (ℕ × ℕ)) (m : State) (first : RiscProgram) (at : ℕ) (k : K) →
        AreTaken some q entries m → HaveTurns entries →
        kept_after notes m (plain_steps q entries) (notes.saw first (moved_whole q at) k) ≡ notes.saw first (moved_whole q at) k
    later_tell some q [] m first at k taken have = refl
    later_tell some q (entry ∷ entries) m first at k (inl waits) have =
        let pushed : State = push q (plain_entry entry.0) m in
        let told : K = notes.saw first (moved_whole q at) k in
        first_keeps q entry entries m told told (still_keeps notes still entry.1 pushed told waits.0)
        ∙ later_tell some q entries (run pushed (replicate entry.1 Turn)) first at k waits.1 have.1
    later_tell some q (entry ∷ entries) m first at k (inr burst) have =
        let pushed : State = push q (plain_entry entry.0) m in
        let told : K = notes.saw first (moved_whole q at) k in
        first_keeps q entry entries m told told
        (one_tells q entry.1 pushed told have.0 burst.1 ∙ whole first pushed.program q at (seen pushed).at k)
        ∙ later_tell burst.2 q entries (run pushed (replicate entry.1 Turn)) first at k burst.3 have.1

    -- what a turn that takes one whole makes of it is what all bursts do
    pub run_tells : (some : Bool) (q : Queue) (entries : List (ℕ × ℕ)) (m : State) (k told : K) → AreTaken some q entries m →
        HaveTurns entries → (some ≡ true → (program : RiscProgram) (at : ℕ) → told ≡ notes.saw program (moved_whole q at) k) →
        (some ≡ false → told ≡ k) → kept_after notes m (plain_steps q entries) k ≡ told
    run_tells some q [] m k told taken have tells keeps = sym (keeps taken)
    run_tells some q (entry ∷ entries) m k told (inl waits) have tells keeps =
        let pushed : State = push q (plain_entry entry.0) m in
        first_keeps q entry entries m k k (still_keeps notes still entry.1 pushed k waits.0)
        ∙ run_tells some q entries (run pushed (replicate entry.1 Turn)) k told waits.1 have.1 tells keeps
    run_tells some q (entry ∷ entries) m k told (inr burst) have tells keeps =
        let pushed : State = push q (plain_entry entry.0) m in
        let first : K = notes.saw pushed.program (moved_whole q (seen pushed).at) k in
        first_keeps q entry entries m k first (one_tells q entry.1 pushed k have.0 burst.1)
        ∙ later_tell burst.2 q entries (run pushed (replicate entry.1 Turn)) pushed.program (seen pushed).at k burst.3 have.1
        ∙ sym (tells burst.0 pushed.program (seen pushed).at)

-- where there is room for some, they may be taken at once
pub record LetsFall (falls : Bool) (count most : ℕ) : Type 0 where
  pub is : falls ≡ true
  pub within : count ≤ 4 * most

pub lets_fall : (falls : Bool) (count : ℕ) (q : Queue) (m : State) → 0 < count → count ≤ 4 * run_room falls q m →
    LetsFall falls count (plain_room q m)
lets_fall true count q m some le = record { is = refl; within = le }
lets_fall false count q m some le = absurd (omega (arith, some, le))

pub first_tells : {K : Type 0} (notes : Notes K) (falls : Bool) → falls ≡ true → FirstTellsIf falls notes → FirstTellsIf true notes
first_tells notes true is law = law
first_tells notes false is law = absurd cc

-- the same, with the machine
pub run_watched : {K : Type 0} (notes : Notes K) (q : Queue) (entries : List (ℕ × ℕ)) (m after : State) (k told : K) →
    after ≡ run m (plain_steps q entries) →
    kept_after notes m (plain_steps q entries) k ≡ told → watching after told ≡ watched notes (plain_steps q entries) (watching m k)
run_watched {K = K} notes q entries m after k told ran tells = ap₂ (λ (a : State) (x : K). watching a x) ran (sym tells)
