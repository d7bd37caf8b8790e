use Rattle.std.proofs.Common.{◌≡◌, ◌^◌, ◌≤◌, List, ℕ, subst, sym}
use Rattle.std.specs.List.{All, flat_map}
use Rattle.machine_model.specs.Paths.{Span, end_of}
use Rattle.capture_desk.specs.Desks.{Puts, after_say}
use Rattle.risc_listing.specs.Listings.{entry_line, span_lines}
use Rattle.risc_listing.proofs.Spans.{spans_end}
use Rattle.bt878_top.proofs.Saying.{then_said}
use Rattle.bt878_top.proofs.listings.say_spans_and_entry.Goals as goal

pub say_spans-requires : goal.say_spans-requires
say_spans-requires g c =
    subst (λ (spans : List Span). All (λ s. end_of s ≤ 2 ^ 32) spans) (sym c.spans.ensures.value)
    (spans_end 0 c.args.program.now.spans c.spans.ensures.made.spans)

pub returns-clause-says : goal.returns-clause-says
returns-clause-says g c =
    let program = c.args.program.now in
    let mid = (g.D.Desk.seen c.say_spans.new.desk).told in
    let first =
    subst (λ (spans : List Span). mid ≡ after_say (flat_map span_lines spans) (g.D.Desk.seen c.args.desk.now).told) c.spans.ensures.value
    c.in_ok-say_spans.ensures.says in
    let last =
    subst (λ (entry : ℕ). Puts (entry_line entry) c.say_entry.result after_say mid (g.D.Desk.seen c.say_entry.new.desk).told)
    c.base.ensures.value c.say_entry.ensures.says in
    then_said (flat_map span_lines program.spans) (entry_line program.base) _ _ _ c.say_entry.result first last
