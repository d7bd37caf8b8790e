use Rattle.std.proofs.Common.{◌≡◌, drop}
use Rattle.std.specs.List.{list_any}
use Rattle.page_table.specs.Grants.{chunk, is_met}
use Rattle.machine_model.specs.Paths.{end_of}
use Rattle.capture_file.proofs.program.Placed.shares.Given as goal

abbrev pub invariant-loop-number : goal.invariant-loop-number
invariant-loop-number l =
    list_any (λ s. is_met s.at (end_of s) (chunk l.at l.len)) l.self.spans
    ≡ list_any (λ s. is_met s.at (end_of s) (chunk l.at l.len)) (drop l.number l.self.spans)
