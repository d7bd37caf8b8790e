-- Pairs of records that are handed to a player at once are handed to it one after the other.
use Rattle.std.proofs.Common.{◌≡◌, ℕ, zero, suc, ◌+◌, ◌*◌, ◌≤◌, Bool, List, [], ◌∷◌, ◌++◌, length, map, replicate, take, drop, refl, sym}
use Rattle.std.proofs.Common.{ap, subst, ◌∙◌, arith}
use Rattle.fifo_model.specs.declared.Queue.{Queue}
use Rattle.machine_model.specs.PlainEntries.{HaveTurns, plain_entry, plain_steps}
use Rattle.machine_model.specs.Steps as machine
use Rattle.capture_file.specs.declared.Step.{Step}
use Rattle.capture_file.specs.declared.Step.TheVariants.{Push, Turns}
use Rattle.capture_file.specs.Pairs.{AreCopied, ArePairs, TakesPairs, pair_steps}
use Rattle.capture_file.specs.Readers.{Reader, behind, resumed}
use Rattle.capture_file.specs.Streams.{Reading, steps_run, with_step}
use Rattle.dma_machine.specs.Plain.{AreDwords, AreRun}
use Rattle.machine_watch.specs.Watches.{Notes, Watching, watched}
use Rattle.chain_model.specs.Chains.{Chain}
use Rattle.chain_model.specs.Live.{Live, LiveStep, Plain, live_run, live_step}
use Rattle.slot_chain.specs.States.{ChainState, stepped}
use Rattle.slot_chain.specs.Plays.{chain_act}
use Rattle.stream_play.specs.Plays.{GoesOn, HandedPart, ReadsForm, acted, watch_act}
use Rattle.stream_play.proofs.Playing.{GoesOn-same}
use Rattle.stream_play.proofs.Watches.{acted_watched}

-- ---- they are plain entries

have_turns : (queue : Queue) (before : ℕ) (bytes : List ℕ) (pairs : List (ℕ × ℕ)) → ArePairs queue before bytes pairs → HaveTurns pairs
have_turns queue before bytes [] are = tt
have_turns queue before bytes (pair ∷ pairs) are = (are.0.some, have_turns queue (before + pair.1) (drop 11 bytes) pairs are.1)

are_dwords : (queue : Queue) (before : ℕ) (bytes : List ℕ) (pairs : List (ℕ × ℕ)) → ArePairs queue before bytes pairs → AreDwords pairs
are_dwords queue before bytes [] are = tt
are_dwords queue before bytes (pair ∷ pairs) are = (are.0.fits, are_dwords queue (before + pair.1) (drop 11 bytes) pairs are.1)

pub are_run : (queue : Queue) (before count sum : ℕ) (bytes dwords : List ℕ) (pairs : List (ℕ × ℕ)) →
    AreCopied queue before count sum bytes dwords pairs →
    AreRun (take (4 * count) dwords) sum pairs
are_run queue before count sum bytes dwords pairs h =
    record {
      plain = record { dwords = sym h.copied; turns = h.turned; each = have_turns queue before bytes pairs h.there };
      dwords = are_dwords queue before bytes pairs h.there;
    }

-- ---- a player takes them

module _ {S : Type 0} (act : Step → S → S) where
  pub GoesOn-steps : (steps : List Step) (p : S) (left : Reading) → GoesOn act p (behind steps left) (acted act steps p) left
  GoesOn-steps steps p left = record { ran = acted_all steps p left.steps; ending = refl }
    where
      acted_all : (steps : List Step) (p : S) (rest : List Step) → acted act rest (acted act steps p) ≡ acted act (steps ++ rest) p
      acted_all [] p rest = refl
      acted_all (step ∷ steps) p rest = acted_all steps (act step p) rest

  pub pairs_handed : (queue : Queue) (count sum : ℕ) (dwords : List ℕ) (p now : S) (r after : Reader) (piece : List ℕ)
      (pairs : List (ℕ × ℕ)) →
      TakesPairs queue count sum dwords r piece after pairs → now ≡ acted act (pair_steps queue pairs) p →
      HandedPart act (11 * count) p r piece now after
  pairs_handed queue count sum dwords p now r after piece pairs h is = (
    h.within,
    ap (λ (x : Reader). x.place) h.exact,
    λ more.
        let left : Reading = resumed after (drop (11 * count) piece ++ more) in
        subst (λ whole. GoesOn act p whole now left) (sym (h.whole more))
        (subst (λ x. GoesOn act p (behind (pair_steps queue pairs) left) x left) (sym is) (GoesOn-steps (pair_steps queue pairs) p left)),
  )

  -- where there is none, nothing is done
  pub no_pairs : (queue : Queue) (before sum : ℕ) (bytes dwords : List ℕ) (pairs : List (ℕ × ℕ)) (p : S) →
      AreCopied queue before 0 sum bytes dwords pairs →
      p ≡ acted act (pair_steps queue pairs) p
  no_pairs queue before sum bytes dwords [] p h = refl
  no_pairs queue before sum bytes dwords (pair ∷ pairs) p h = let many = h.many in absurd (omega (arith, many))

pub pairs_form : (c : Bool) (queue : Queue) (count sum : ℕ) (dwords : List ℕ) (r after : Reader) (piece : List ℕ) (pairs : List (ℕ × ℕ)) →
    TakesPairs queue count sum dwords r piece after pairs → ReadsForm c r → ReadsForm c after
pairs_form c queue count sum dwords r after piece pairs h form = subst (ReadsForm c) (sym h.exact) form

-- ---- a machine that is watched takes them

steps_are_plain : (queue : Queue) (pairs : List (ℕ × ℕ)) → steps_run (pair_steps queue pairs) ≡ plain_steps queue pairs
steps_are_plain queue [] = refl
steps_are_plain queue (pair ∷ pairs) =
    ap (λ (rest : List machine.Step). machine.Push queue (plain_entry pair.0) ∷ (replicate pair.1 machine.Turn ++ rest))
    (steps_are_plain queue pairs)

pub pairs_watched : {K : Type 0} (notes : Notes K) (queue : Queue) (pairs : List (ℕ × ℕ)) (w after : Watching K) →
    after ≡ watched notes (plain_steps queue pairs) w → after ≡ acted (watch_act notes) (pair_steps queue pairs) w
pairs_watched notes queue pairs w after is =
    is ∙ sym (acted_watched notes (pair_steps queue pairs) w ∙ ap (λ steps. watched notes steps w) (steps_are_plain queue pairs))

-- ---- a chain takes them

live_append : (chain : Chain) (live : Live) (first later : List LiveStep) →
    live_run chain live (first ++ later) ≡ live_run chain (live_run chain live first) later
live_append chain live [] later = refl
live_append chain live (s ∷ first) later = live_append chain (live_step chain s live) first later

live_turns : (count : ℕ) (later : List machine.Step) →
    map Plain (replicate count machine.Turn ++ later) ≡ replicate count (Plain machine.Turn) ++ map Plain later
live_turns zero later = refl
live_turns (suc count) later = ap (λ steps. Plain machine.Turn ∷ steps) (live_turns count later)

stepped_pairs : (queue : Queue) (pairs : List (ℕ × ℕ)) (state : ChainState) →
    stepped (plain_steps queue pairs) state ≡ acted chain_act (pair_steps queue pairs) state
stepped_pairs queue [] state = refl
stepped_pairs queue (pair ∷ pairs) state =
    let pushed : ChainState = chain_act (Push queue (plain_entry pair.0)) state in
    ap (λ steps. record { chain = state.chain; live = live_run state.chain pushed.live steps })
    (live_turns pair.1 (plain_steps queue pairs))
    ∙ ap (λ live. record { chain = state.chain; live = live })
    (live_append state.chain pushed.live (replicate pair.1 (Plain machine.Turn)) (map Plain (plain_steps queue pairs)))
    ∙ stepped_pairs queue pairs (chain_act (Turns pair.1) pushed)

pub pairs_lived : (queue : Queue) (pairs : List (ℕ × ℕ)) (state after : ChainState) → after ≡ stepped (plain_steps queue pairs) state →
    after ≡ acted chain_act (pair_steps queue pairs) state
pairs_lived queue pairs state after is = is ∙ stepped_pairs queue pairs state
