-- What is kept over steps that are taken one after the other, and of a machine that stands still.
use Rattle.std.proofs.Common.{◌≡◌, ℕ, zero, suc, ◌-◌, ◌<◌, true, List, [], ◌∷◌, ◌++◌, replicate, refl, sym, ap, ap₂, ◌∙◌, arith}
use Rattle.fifo_model.specs.declared.Entry.{Entry}
use Rattle.fifo_model.specs.declared.Queue.{Queue}
use Rattle.fifo_model.specs.Queues.{more}
use Rattle.machine_model.specs.declared.Did.TheVariants.{Still}
use Rattle.machine_model.specs.declared.Seen.{Seen}
use Rattle.machine_model.specs.Paths.{RiscProgram}
use Rattle.machine_model.specs.Seen.{seen}
use Rattle.machine_model.specs.States.{State}
use Rattle.machine_model.specs.Steps.{Push, Step, Turn, push, run, step}
use Rattle.machine_model.specs.Turns.{turn}
use Rattle.machine_model.proofs.ProgramStays.{program-step}
use Rattle.machine_model.proofs.Runs.{run-append}
use Rattle.dma_machine.specs.FallThrough.{MovesWhole, moved_whole}
use Rattle.dma_machine.specs.Lost.{pushes}
use Rattle.dma_machine.specs.Stills.{is_still}
use Rattle.dma_machine.proofs.Standing.{is_still-turns}
use Rattle.dma_machine.proofs.StillSeen.{still_counts, still_seen}
use Rattle.machine_watch.specs.Watches.{Notes, Watching, kept_after, next, watched, watching}

module _ {K : Type 0} (notes : Notes K) where
  pub kept-append : (m : State) (first later : List Step) (k : K) →
      kept_after notes m (first ++ later) k ≡ kept_after notes (run m first) later (kept_after notes m first k)
  kept-append m [] later k = refl
  kept-append m (s ∷ first) later k = kept-append (step s m) first later (next notes m s k)

  -- steps that are taken one after the other are taken all together
  pub watched-append : (first later : List Step) (w : Watching K) →
      watched notes later (watched notes first w) ≡ watched notes (first ++ later) w
  watched-append first later w =
      ap₂ (λ (m : State) (k : K). watching m k) (sym (run-append w.machine first later)) (sym (kept-append w.machine first later w.kept))

  -- the program that is read behind a turn is that before it
  pub turned : (m after : State) (program : RiscProgram) (s : Seen) (k new : K) → after ≡ turn m → program ≡ after.program → s ≡ seen m →
      new ≡ notes.saw program s k →
      watching after new ≡ watched notes (Turn ∷ []) (watching m k)
  turned m after program s k new is held saw made =
      ap₂ (λ (a : State) (x : K). watching a x) is
      (made ∙ ap (λ (x : Seen). notes.saw program x k) saw
      ∙ ap (λ (p : RiscProgram). notes.saw p (seen m) k) (held ∙ ap (λ (a : State). a.program) is ∙ program-step Turn m))

  -- one turn fewer is left
  pub one_fewer : (count left : ℕ) (first before after : Watching K) → 0 < left → after ≡ watched notes (Turn ∷ []) before →
      watched notes (replicate left Turn) before ≡ watched notes (replicate count Turn) first →
      watched notes (replicate (left - 1) Turn) after ≡ watched notes (replicate count Turn) first
  one_fewer count zero first before after some made lead = absurd (omega (arith, some))
  one_fewer count (suc left) first before after some made lead =
      let rest : suc left - 1 ≡ left = omega arith in
      ap (λ (n : ℕ). watched notes (replicate n Turn) after) rest ∙ ap (watched notes (replicate left Turn)) made ∙ lead

  -- the turn behind a push takes the entry whole
  pub taken : (q : Queue) (entry : Entry) (count : ℕ) (m after now : State) (k kept last : K) → 0 < count → after ≡ turn (push q entry m) →
      MovesWhole q (seen (push q entry m)) →
      kept ≡ notes.saw (push q entry m).program (moved_whole q (seen (push q entry m)).at) k →
      watching now last ≡ watched notes (replicate (count - 1) Turn) (watching after kept) →
      watching now last ≡ watched notes (Push q entry ∷ replicate count Turn) (watching m k)
  taken q entry zero m after now k kept last some made moves keeps all = absurd (omega (arith, some))
  taken q entry (suc count) m after now k kept last some made moves keeps all =
      let rest : suc count - 1 ≡ count = omega arith in
      all
      ∙ ap (λ (n : ℕ). watched notes (replicate n Turn) (watching after kept)) rest
      ∙ ap₂ (λ (a : State) (x : K). watched notes (replicate count Turn) (watching a x)) made
      (keeps ∙ ap (λ (s : Seen). notes.saw (push q entry m).program s k) (sym moves))

  -- pushes leave what is kept as it is
  pushes_keep : (entries : List (Queue × Entry)) (m : State) (k : K) → kept_after notes m (pushes entries) k ≡ k
  pushes_keep [] m k = refl
  pushes_keep (pushed ∷ later) m k = pushes_keep later (push pushed.0 pushed.1 m) k

  pub pushes_watched : (entries : List (Queue × Entry)) (m after : State) (k : K) → after ≡ run m (pushes entries) →
      watching after k ≡ watched notes (pushes entries) (watching m k)
  pushes_watched entries m after k ran = ap₂ (λ (a : State) (x : K). watching a x) ran (sym (pushes_keep entries m k))

  -- nothing is kept of a turn that does nothing
  module _ (still_tells_nothing : (program : RiscProgram) (s : Seen) (k : K) → s.did ≡ Still → notes.saw program s k ≡ k) where
    pub still_keeps : (count : ℕ) (m : State) (k : K) → is_still m ≡ true → kept_after notes m (replicate count Turn) k ≡ k
    still_keeps zero m k still = refl
    still_keeps (suc count) m k still =
        ap (λ (x : K). kept_after notes (turn m) (replicate count Turn) x) (still_tells_nothing m.program (seen m) k (still_seen m still))
        ∙ still_keeps count (turn m) k (ap is_still (still_counts m still) ∙ (is_still-turns (more m.turns 1) m ∙ still))

    -- so a machine that stands still only takes its turns
    pub rest_still : (count left : ℕ) (first : Watching K) (m after : State) (k : K) → is_still m ≡ true →
        after ≡ run m (replicate left Turn) →
        watched notes (replicate left Turn) (watching m k) ≡ watched notes (replicate count Turn) first →
        watching after k ≡ watched notes (replicate count Turn) first
    rest_still count left first m after k still ran lead =
        ap₂ (λ (a : State) (x : K). watching a x) ran (sym (still_keeps left m k still)) ∙ lead
