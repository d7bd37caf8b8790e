-- Turns of a chain, one after the other.
use Rattle.std.proofs.Common.{◌≡◌, ℕ, zero, suc, ◌+◌, refl, ap, ◌∙◌, arith}
use Rattle.std.specs.Prelude.{replicate}
use Rattle.machine_model.specs.Steps.{Turn}
use Rattle.chain_model.specs.Chains.{Chain}
use Rattle.chain_model.specs.Live.{Live, Plain, live_run, live_step}
use Rattle.slot_chain.specs.States.{ChainState, lived, turned}

live_more : (chain : Chain) (live : Live) (count : ℕ) → live_step chain (Plain Turn) (live_run chain live (replicate count (Plain Turn)))
    ≡ live_run chain live (replicate (suc count) (Plain Turn))
live_more chain live zero = refl
live_more chain live (suc count) = live_more chain (live_step chain (Plain Turn) live) count

pub turned_more : (state after : ChainState) (count : ℕ) → after ≡ turned count state → lived (Plain Turn) after ≡ turned (count + 1) state
turned_more state after count e =
    let more : suc count ≡ count + 1 = omega arith in
    ap (lived (Plain Turn)) e
    ∙ ap (λ (live : Live). record state { live = live }) (live_more state.chain state.live count)
    ∙ ap (λ (n : ℕ). turned n state) more

-- the turns that are left are taken after the others
live_both : (chain : Chain) (live : Live) (first later : ℕ) →
    live_run chain (live_run chain live (replicate first (Plain Turn))) (replicate later (Plain Turn))
    ≡ live_run chain live (replicate (first + later) (Plain Turn))
live_both chain live zero later =
    let none : later ≡ zero + later = omega arith in ap (λ (n : ℕ). live_run chain live (replicate n (Plain Turn))) none
live_both chain live (suc first) later =
    let more : suc (first + later) ≡ suc first + later = omega arith in
    live_both chain (live_step chain (Plain Turn) live) first later ∙ ap (λ (n : ℕ). live_run chain live (replicate n (Plain Turn))) more

pub turned_rest : (state before after : ChainState) (count at rest : ℕ) → before ≡ turned at state → after ≡ turned rest before →
    at + rest ≡ count → after ≡ turned count state
turned_rest state before after count at rest taken made all =
    made ∙ ap (turned rest) taken
    ∙ ap (λ (live : Live). record state { live = live }) (live_both state.chain state.live at rest) ∙ ap (λ (n : ℕ). turned n state) all
