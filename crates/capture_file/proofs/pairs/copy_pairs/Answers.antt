use Rattle.std.proofs.Common.{◌≡◌, ◌+◌, ◌-◌, ◌*◌, ◌/◌, ◌∙◌, [], ◌∷◌, ◌++◌, ap, drop, inl, length, min, subst, sym, arith}
use Rattle.std.proofs.lemmas.List.{take_rest}
use Rattle.capture_file.specs.Pairs.{IsPair, NoPair}
use Rattle.capture_file.specs.Streams.{most_turns}
use Rattle.capture_file.proofs.OtherRecords.{all_taken}
use Rattle.capture_file.proofs.PairRuns.{copied_more}
use Rattle.capture_file.proofs.pairs.copy_pairs.Goals as goal

pub loop-count-preserved : goal.loop-count-preserved
loop-count-preserved c =
    let known = c.loop-count.invariant in
    let within = known.3 in
    let few = c.in-Some.ensures.left in
    let before : most_turns - c.loop-count.rest ≡ most_turns - c.args.left + (c.args.left - c.loop-count.rest) =
    omega (arith, within, c.requires) in
    let sum : c.args.left - (c.loop-count.rest - c.in-Some.turns) ≡ c.args.left - c.loop-count.rest + c.in-Some.turns =
    omega (arith, within, few) in
    let is =
    subst (λ n. IsPair c.args.queue n (drop (11 * c.loop-count.count) c.args.piece.now) c.in-Some.dword c.in-Some.turns) before
    (subst (λ bytes. IsPair c.args.queue (most_turns - c.loop-count.rest) bytes c.in-Some.dword c.in-Some.turns)
    (take_rest c.args.piece.now (11 * c.loop-count.count)) c.in-Some.ensures.pair) in (
      known.0 ++ (c.in-Some.dword, c.in-Some.turns) ∷ [],
      copied_more c.args.queue (most_turns - c.args.left) c.loop-count.count (c.args.left - c.loop-count.rest)
          (c.args.left - (c.loop-count.rest - c.in-Some.turns)) c.args.piece.now
          c.loop-count.dwords c.spell_one.new.out known.0 c.in-Some.dword c.in-Some.turns known.1 is sum c.spell_one.ensures,
      omega arith,
      omega (arith, within),
    )

pub returns-clause-all : goal.returns-clause-all
returns-clause-all c =
    let room : min (length c.args.dwords.now / 4) (length c.args.piece.now / 11)
    ≡ min (length c.loop-count.dwords / 4) (length c.args.piece.now / 11) =
    ap (λ n. min (n / 4) (length c.args.piece.now / 11)) (sym c.loop-count.auto.dwords)
    in
    all_taken c.args.queue (most_turns - c.args.left + (c.args.left - c.loop-count.rest)) c.loop-count.count c.min-most.result
    (length c.loop-count.dwords) c.args.piece.now
    (c.min-most.ensures ∙ room) (omega (arith, c.loop-count-test.false))

pub returns-in_default-clause-all : goal.returns-in_default-clause-all
returns-in_default-clause-all c =
    let within = c.loop-count.invariant.3 in
    let before : most_turns - c.loop-count.rest ≡ most_turns - c.args.left + (c.args.left - c.loop-count.rest) =
    omega (arith, within, c.requires) in
    inl
    (subst (λ n. NoPair c.args.queue n (drop (11 * c.loop-count.count) c.args.piece.now)) before
    (subst (λ bytes. NoPair c.args.queue (most_turns - c.loop-count.rest) bytes)
    (take_rest c.args.piece.now (11 * c.loop-count.count)) c.in_default.ensures.none))
