-- Pushes that are handed to a player at once are handed to it one after the other.
use Rattle.std.proofs.Common.{◌≡◌, ℕ, ◌+◌, ◌*◌, ◌≤◌, Bool, List, [], ◌∷◌, ◌++◌, length, drop, refl, sym, ap, ap₂, subst, ◌∙◌}
use Rattle.fifo_model.specs.declared.Entry.{Entry}
use Rattle.fifo_model.specs.declared.Queue.{Queue}
use Rattle.fifo_model.specs.declared.Queue.TheVariants.{One, Two, Three}
use Rattle.machine_model.specs.Steps as machine
use Rattle.capture_file.specs.declared.Step.{Step}
use Rattle.capture_file.specs.declared.Step.TheVariants.{Push}
use Rattle.capture_file.specs.Pushes.{TakesPushes, counts_for, counts_of, push_steps, pushes_to}
use Rattle.capture_file.specs.Readers.{Reader, behind, resumed}
use Rattle.capture_file.specs.Streams.{Reading, steps_run}
use Rattle.dma_machine.specs.Lost.{pushes}
use Rattle.dma_machine.specs.Lost as lost
use Rattle.machine_watch.specs.Watches.{Notes, Watching, watched}
use Rattle.slot_chain.specs.Plays.{chain_act}
use Rattle.slot_chain.specs.States.{ChainState, stepped}
use Rattle.stream_play.specs.Plays.{GoesOn, HandedPart, ReadsForm, acted, watch_act}
use Rattle.stream_play.proofs.PlainPairs.{GoesOn-steps}
use Rattle.stream_play.proofs.Watches.{acted_watched}

-- ---- a player takes them

pub pushes_handed : {S : Type 0} (act : Step → S → S) (count : ℕ) (counts : List ℕ) (p now : S) (r after : Reader) (piece : List ℕ)
    (entries : List (Queue × Entry)) → TakesPushes count counts r piece after entries → now ≡ acted act (push_steps entries) p →
    HandedPart act (6 * count) p r piece now after
pushes_handed act count counts p now r after piece entries h is = (
  h.within,
  ap (λ (x : Reader). x.place) h.exact,
  λ more.
      let left : Reading = resumed after (drop (6 * count) piece ++ more) in
      subst (λ whole. GoesOn act p whole now left) (sym (h.whole more))
      (subst (λ x. GoesOn act p (behind (push_steps entries) left) x left) (sym is) (GoesOn-steps act (push_steps entries) p left)),
)

pub pushes_form : (c : Bool) (count : ℕ) (counts : List ℕ) (r after : Reader) (piece : List ℕ) (entries : List (Queue × Entry)) →
    TakesPushes count counts r piece after entries → ReadsForm c r → ReadsForm c after
pushes_form c count counts r after piece entries h form = subst (ReadsForm c) (sym h.exact) form

-- ---- a machine that is watched takes them

same_queue : (q p : Queue) → lost.counts_for q p ≡ counts_for q p
same_queue One One = refl
same_queue One Two = refl
same_queue One Three = refl
same_queue Two One = refl
same_queue Two Two = refl
same_queue Two Three = refl
same_queue Three One = refl
same_queue Three Two = refl
same_queue Three Three = refl

same_count : (q : Queue) (entries : List (Queue × Entry)) → lost.pushes_to q entries ≡ pushes_to q entries
same_count q [] = refl
same_count q (pushed ∷ later) = ap₂ (λ (n k : ℕ). n + k) (same_queue q pushed.0) (same_count q later)

pub same_counts : (entries : List (Queue × Entry)) → lost.counts_of entries ≡ counts_of entries
same_counts entries =
    ap (λ n. n ∷ lost.pushes_to Two entries ∷ lost.pushes_to Three entries ∷ []) (same_count One entries)
    ∙ ap₂ (λ n k. pushes_to One entries ∷ n ∷ k ∷ []) (same_count Two entries) (same_count Three entries)

steps_are_pushes : (entries : List (Queue × Entry)) → steps_run (push_steps entries) ≡ pushes entries
steps_are_pushes [] = refl
steps_are_pushes (pushed ∷ later) = ap (λ (rest : List machine.Step). machine.Push pushed.0 pushed.1 ∷ rest) (steps_are_pushes later)

pub pushes_watched : {K : Type 0} (notes : Notes K) (entries : List (Queue × Entry)) (w after : Watching K) →
    after ≡ watched notes (pushes entries) w → after ≡ acted (watch_act notes) (push_steps entries) w
pushes_watched notes entries w after is =
    is ∙ sym (acted_watched notes (push_steps entries) w ∙ ap (λ steps. watched notes steps w) (steps_are_pushes entries))

-- ---- a chain takes them

stepped_pushes : (entries : List (Queue × Entry)) (state : ChainState) →
    stepped (pushes entries) state ≡ acted chain_act (push_steps entries) state
stepped_pushes [] state = refl
stepped_pushes (pushed ∷ later) state = stepped_pushes later (chain_act (Push pushed.0 pushed.1) state)

pub pushes_lived : (entries : List (Queue × Entry)) (state after : ChainState) → after ≡ stepped (pushes entries) state →
    after ≡ acted chain_act (push_steps entries) state
pushes_lived entries state after is = is ∙ stepped_pushes entries state
