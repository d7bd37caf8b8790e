use Rattle.std.proofs.Common.{◌≡◌, ℕ, ◌+◌, ◌-◌, ◌^◌, min, replicate, ap, ap₂, sym, ◌∙◌}
use Rattle.fifo_model.specs.Queues.{more}
use Rattle.machine_model.specs.States.{State}
use Rattle.machine_model.specs.Steps.{Turn, run}
use Rattle.turn_trace.specs.Traces.{Tracing, tracing}
use Rattle.turn_trace.proofs.Tracings.{still-after-some, still-lines}
use Rattle.turn_trace.proofs.Trace.stand.Goals as goal

pub returns-clause-none : goal.returns-clause-none
returns-clause-none g c = still-lines c.args.count c.args.self.now c.requires.still

pub returns-clause-state : goal.returns-clause-state
returns-clause-state g c =
    let t : Tracing = c.args.self.now in
    let count = c.args.count in
    let ran : c.stand.new.self ≡ run t.machine (replicate count Turn) =
    c.stand.ensures.state ∙ ap (λ (x : Tracing). run x.machine (replicate count Turn)) c.self.view_is in
    let still : c.saturating_add-self-inside.result ≡ more t.still count =
    c.saturating_add-self-inside.ensures
    ∙ ap (λ (n : ℕ). min (c.self.inside.still + n) (2 ^ 64 - 1)) c.from.ensures
    ∙ ap (λ (x : Tracing). more x.still count) c.self.view_is in
    ap₂ (λ (m : State) (n : ℕ). tracing m n) ran still ∙ sym (still-after-some count t c.requires.some c.requires.still)
