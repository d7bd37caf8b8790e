-- A stream is read to one byte beyond the longest: what is read decides what the whole file is.
use Rattle.std.proofs.Common.{◌≡◌, ℕ, ◌+◌, ◌<◌, ◌≤◌, Bool, true, false, List, length, take, Ok, refl, sym, ap, ◌∙◌, arith}
use Rattle.std.specs.Prelude.{nat_le}
use Rattle.std.proofs.lemmas.Bool.{le-ltb, leb-true, leb-false, lt-ltb}
use Rattle.std.proofs.lemmas.List.{length-take, take_all, take-take}
use Rattle.capture_file.specs.Streams.{Ending, Unfinished, Ended, Bad, Reading, judged, reading, steps_of, stream_of, too_long, whole_file}
use Rattle.capture_file.specs.Streams.{within_if}
use Rattle.capture_file.specs.declared.Step.{Step}
use Rattle.kept_stream.specs.Kept.{longest_kept}

module _ (limit : ℕ) (bytes : List ℕ) where
  -- more bytes than the limit
  beyond : limit < length bytes → stream_of limit false bytes
      ≡ reading (judged false (take limit bytes)).steps (too_long limit (judged false (take limit bytes)).ending)
  unfolding stream_of
  beyond over = ap (λ b. within_if b limit (judged false (take limit bytes))) (lt-ltb limit (length bytes) over)

-- then nothing else depends on how many there are
same_file : (one two limit : ℕ) (steps : List Step) (e : Ending) →
    whole_file one steps (too_long limit e) ≡ whole_file two steps (too_long limit e)
same_file one two limit steps Unfinished = refl
same_file one two limit steps Ended = refl
same_file one two limit steps (Bad fault) = refl

pub read_is_whole : (bytes : List ℕ) → steps_of longest_kept false (take (longest_kept + 1) bytes) ≡ steps_of longest_kept false bytes
read_is_whole bytes = by_length (nat_le (length bytes) longest_kept) refl
  where
    by_length : (few : Bool) → nat_le (length bytes) longest_kept ≡ few →
        steps_of longest_kept false (take (longest_kept + 1) bytes) ≡ steps_of longest_kept false bytes
    by_length true is =
        let few = leb-true (length bytes) longest_kept is in
        ap (steps_of longest_kept false) (take_all (longest_kept + 1) bytes (omega (arith, few)))
    by_length false is =
        let long = leb-false (length bytes) longest_kept is in
        let front : List ℕ = take (longest_kept + 1) bytes in
        let below : Reading = judged false (take longest_kept bytes) in
        let size = length-take (longest_kept + 1) bytes in
        let one = beyond longest_kept front (omega (arith, long, size)) in
        let same : take longest_kept front ≡ take longest_kept bytes = take-take longest_kept (longest_kept + 1) bytes (omega arith) in
        let two = beyond longest_kept bytes (omega (arith, long)) in
        ap (λ (r : Reading). whole_file (length front) r.steps r.ending)
        (one ∙ ap (λ x. reading (judged false x).steps (too_long longest_kept (judged false x).ending)) same)
        ∙ same_file (length front) (length bytes) longest_kept below.steps below.ending
        ∙ sym (ap (λ (r : Reading). whole_file (length bytes) r.steps r.ending) two)

-- a stream that isn't too long is a stream by every greater limit
not_too_long : (count limit : ℕ) (steps found : List Step) (e : Ending) → whole_file count found (too_long limit e) ≡ Ok steps → ⊥
not_too_long count limit steps found Unfinished h = cc
not_too_long count limit steps found Ended h = cc
not_too_long count limit steps found (Bad fault) h = cc

long_is_bad : (bytes : List ℕ) (steps : List Step) → longest_kept < length bytes → steps_of longest_kept false bytes ≡ Ok steps → ⊥
long_is_bad bytes steps long is =
    let below = judged false (take longest_kept bytes) in
    not_too_long (length bytes) longest_kept steps below.steps below.ending
    (sym (ap (λ (r : Reading). whole_file (length bytes) r.steps r.ending) (beyond longest_kept bytes long)) ∙ is)

within_limit : (limit : ℕ) (bytes : List ℕ) → length bytes ≤ limit → stream_of limit false bytes ≡ judged false bytes
unfolding stream_of
within_limit limit bytes few =
    ap (λ b. within_if b limit (judged false (take limit bytes))) (le-ltb limit (length bytes) few)
    ∙ ap (judged false) (take_all limit bytes few)

-- a stream that was read so far and isn't too long was read whole
pub kept_whole : (bytes content : List ℕ) (steps : List Step) → bytes ≡ take (longest_kept + 1) content →
    steps_of longest_kept false bytes ≡ Ok steps → content ≡ bytes
kept_whole bytes content steps e is = by_length (nat_le (length bytes) longest_kept) refl
  where
    by_length : (few : Bool) → nat_le (length bytes) longest_kept ≡ few → content ≡ bytes
    by_length true e2 =
        let few = leb-true (length bytes) longest_kept e2 in
        let size = length-take (longest_kept + 1) content in
        let same = ap length e in
        sym (e ∙ take_all (longest_kept + 1) content (omega (arith, size, same, few)))
    by_length false e2 = absurd (long_is_bad bytes steps (leb-false (length bytes) longest_kept e2) is)

pub kept_by_more : (limit : ℕ) (bytes : List ℕ) (steps : List Step) → longest_kept ≤ limit → steps_of longest_kept false bytes ≡ Ok steps →
    steps_of limit false bytes ≡ Ok steps
kept_by_more limit bytes steps more is = by_length (nat_le (length bytes) longest_kept) refl
  where
    by_length : (few : Bool) → nat_le (length bytes) longest_kept ≡ few → steps_of limit false bytes ≡ Ok steps
    by_length true e =
        let few = leb-true (length bytes) longest_kept e in
        ap (λ (r : Reading). whole_file (length bytes) r.steps r.ending)
        (within_limit limit bytes (omega (arith, few, more)) ∙ sym (within_limit longest_kept bytes few))
        ∙ is
    by_length false e = absurd (long_is_bad bytes steps (leb-false (length bytes) longest_kept e) is)
