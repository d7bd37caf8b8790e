use Rattle.std.proofs.Common.{◌≡◌, ◌+◌, ◌-◌, List, ℕ, length, take, drop, refl, ap, ◌∙◌, arith, length-drop}
use Rattle.std.proofs.lemmas.List.{take_rest}
use Rattle.capture_file.specs.Readers.{resumed}
use Rattle.kept_stream.proofs.Judged.{answered, front_used, met_fault, uses_within}
use Rattle.kept_stream.proofs.judge.Goals as goal

pub returns-in-Bad : goal.returns-in-Bad
returns-in-Bad c =
    let bytes = c.args.bytes.now in
    let at = c.loop-at.at in
    let so_far = c.loop-at.invariant.whole in
    met_fault bytes c.in-Bad.fault so_far.0 (resumed c.loop-at.reader (drop at bytes)) so_far.1
    (rw c.in-Bad.is at (front_used c.loop-at.reader c.use_front-used.new.reader c.use_front-used.result.1 at c.use_front-used.result.0 bytes
    bytes refl c.use_front-used.ensures.whole))

pub loop-at-preserved : goal.loop-at-preserved
loop-at-preserved c =
    let bytes = c.args.bytes.now in
    let at = c.loop-at.at in
    let used = c.use_front-used.result.0 in
    let after = c.use_front-used.new.reader in
    let so_far = c.loop-at.invariant.whole in
    let piece : List ℕ = take (length bytes - at) (drop at bytes) in
    let few = uses_within c.use_front-used.result.1 used (length piece) c.use_front-used.ensures.used in
    let size : length piece ≡ length bytes - at = ap length (take_rest bytes at) ∙ length-drop at bytes in
    record {
      within = let inside = c.loop-at.invariant.within in omega (arith, few, size, inside);
      whole =
          answered bytes c.use_front-used.result.1 so_far.0 (resumed c.loop-at.reader (drop at bytes))
          (resumed after (drop (at + used) bytes)) so_far.1
          (front_used c.loop-at.reader after c.use_front-used.result.1 at used bytes bytes refl c.use_front-used.ensures.whole)
          c.in_default.not-Bad;
      place = c.use_front-used.ensures.moves at c.loop-at.invariant.place;
    }
