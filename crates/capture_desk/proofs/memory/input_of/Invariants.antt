use Rattle.std.proofs.Common.{◌≡◌, ℕ, ◌<◌, [], false, slice_index_or}
use Rattle.std.specs.Str.{bytes_eq}
use Rattle.capture_desk.proofs.memory.input_of.Given as goal

abbrev pub invariant-loop-i : goal.invariant-loop-i
invariant-loop-i l = (k : ℕ) → k < l.i → bytes_eq (slice_index_or l.inputs k ([], [])).0 l.name ≡ false
