use Rattle.std.proofs.Common.{◌∙◌, ap, sym}
use Rattle.toml_keys.proofs.Least.{next_known, next_sorted, next_unknown}
use Rattle.toml_keys.proofs.table.unknown_key.Goals as goal

pub returns-then-not-is_known : goal.returns-then-not-is_known
returns-then-not-is_known g c =
    next_unknown g.K.KnownKeys.is_known _ c.loop-key.key-iterator c.next.new.self
    (c.in-Some.key.now, c.in-Some._value.now) c.in-Some.ensures.steps
    (ap g.K.KnownKeys.is_known (sym c.as_str.ensures.value) ∙ sym c.is_known.ensures ∙ c.if-not-is_known.true)
    c.loop-key.invariant.2 c.loop-key.invariant.3

pub loop-key-preserved : goal.loop-key-preserved
loop-key-preserved g c = (
  tt,
  tt,
  next_known g.K.KnownKeys.is_known _ c.loop-key.key-iterator c.next.new.self
      (c.in-Some.key.now, c.in-Some._value.now) c.in-Some.ensures.steps
      (ap g.K.KnownKeys.is_known (sym c.as_str.ensures.value) ∙ sym c.is_known.ensures ∙ c.if-not-is_known.false)
      c.loop-key.invariant.2,
  next_sorted g.K.KnownKeys.is_known c.loop-key.key-iterator c.next.new.self
      (c.in-Some.key.now, c.in-Some._value.now) c.in-Some.ensures.steps c.loop-key.invariant.3,
)
