use Rattle.std.proofs.Common.{◌≡◌, ℕ, false, List, ◌++◌, ap, sym, ◌∙◌, arith}
use Rattle.machine_model.specs.declared.Seen.{Seen}
use Rattle.machine_model.specs.Seen.{seen}
use Rattle.machine_model.specs.States.{State}
use Rattle.machine_model.specs.Steps.{Turn}
use Rattle.machine_model.specs.Turns.{turn}
use Rattle.risc_listing.specs.Lines.{line_end}
use Rattle.turn_trace.specs.Traces.{Tracing, is_still_did, numbers, still_line, tracing, words}
use Rattle.turn_trace.proofs.Tracings.{appended, loud-did, told-after, told-one, turned-words}
use Rattle.turn_trace.proofs.Trace.turn.Goals as goal

pub returns : goal.returns
returns g c =
    let t : Tracing = c.args.self.now in
    let m : State = c.self.inside.machine in
    let old : List ℕ = c.args.text.now.bytes in
    let told = c.turn_told-told in
    let loud : is_still_did (seen t.machine).did ≡ false =
    ap (λ (x : Tracing). is_still_did (seen x.machine).did) (sym c.self.view_is)
    ∙ ap (λ (s : Seen). is_still_did s.did) (sym told.ensures.seen) ∙ loud-did told.result.seen.did c.in_default.not-Still in
    let state : c.end_still.new.self ≡ tracing (turn t.machine) 0 =
    c.end_still.ensures.state
    ∙ ap (λ (after : State). tracing after 0) (told.ensures.state ∙ ap (λ (x : Tracing). turn x.machine) c.self.view_is) in
    let still : c.end_still.new.text.bytes ≡ old ++ still_line t.still =
    c.end_still.ensures.text ∙ ap (λ (x : Tracing). old ++ still_line x.still) c.self.view_is in
    let said : c.push_turn_words.new.text.bytes ≡ c.end_still.new.text.bytes ++ words Turn t.machine =
    c.push_turn_words.ensures.bytes
    ∙ ap (λ (list : List ℕ). c.end_still.new.text.bytes ++ list)
    (turned-words m c.report-turns.result told.result.seen c.next_drop-drops.result told.result.taken c.report-turns.ensures.report
    told.ensures.seen c.next_drop-drops.ensures.queue told.ensures.taken
    ∙ ap (λ (x : Tracing). words Turn x.machine) c.self.view_is) in
    let numbered : c.push_numbers.new.text.bytes ≡ c.push_turn_words.new.text.bytes ++ (numbers (turn t.machine) ++ line_end) =
    c.push_numbers.ensures.bytes
    ∙ ap (λ (x : Tracing). c.push_turn_words.new.text.bytes ++ (numbers x.machine ++ line_end)) (c.self-2.view_is ∙ state) in
    record {
      state = c.self-2.view_is ∙ state ∙ sym (told-after t Turn loud);
      text =
          appended old c.end_still.new.text.bytes c.push_numbers.new.text.bytes (still_line t.still)
          (words Turn t.machine ++ (numbers (turn t.machine) ++ line_end)) still
          (appended c.end_still.new.text.bytes c.push_turn_words.new.text.bytes c.push_numbers.new.text.bytes (words Turn t.machine)
          (numbers (turn t.machine) ++ line_end) said numbered)
          ∙ ap (λ (list : List ℕ). old ++ list) (sym (told-one t Turn loud));
      long = omega (arith, c.end_still.ensures.long, c.push_turn_words.ensures.long, c.push_numbers.ensures.long);
    }
