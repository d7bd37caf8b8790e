use Rattle.std.proofs.Common.{sym, ◌∙◌, arith}
use Rattle.slot_chain.specs.States.{chain_of}
use Rattle.slot_chain.proofs.Placing.{beyond, on_page, too_many, well_placed}
use Rattle.slot_chain.proofs.making.judge_place.Goals as goal

pub returns-in-None : goal.returns-in-None
returns-in-None c =
    too_many (chain_of c.args.base c.args.slots c.args.parts.now c.args.grants.now)
    (omega (arith, c.if-base-ne0.false)) c.count_words.result c.count_words.ensures c.in-None.is

pub returns-then-from-gt-CHAIN_LIMIT : goal.returns-then-from-gt-CHAIN_LIMIT
returns-then-from-gt-CHAIN_LIMIT c =
    beyond (chain_of c.args.base c.args.slots c.args.parts.now c.args.grants.now)
    (omega (arith, c.if-base-ne0.false)) c.count_words.result c.in-Some.count c.count_words.ensures c.in-Some.is
    (omega (arith, c.if-from-gt-CHAIN_LIMIT.true, c.from.ensures, c.from-2.ensures))

pub returns-then-meets_chunks : goal.returns-then-meets_chunks
returns-then-meets_chunks c =
    on_page (chain_of c.args.base c.args.slots c.args.parts.now c.args.grants.now)
    (omega (arith, c.if-base-ne0.false)) c.count_words.result c.in-Some.count c.count_words.ensures c.in-Some.is
    (omega (arith, c.if-from-gt-CHAIN_LIMIT.false, c.from.ensures, c.from-2.ensures)) (sym c.meets_chunks.ensures ∙ c.if-meets_chunks.true)

pub returns : goal.returns
returns c =
    well_placed (chain_of c.args.base c.args.slots c.args.parts.now c.args.grants.now)
    (omega (arith, c.if-base-ne0.false)) c.count_words.result c.in-Some.count c.count_words.ensures c.in-Some.is
    (omega (arith, c.if-from-gt-CHAIN_LIMIT.false, c.from.ensures, c.from-2.ensures)) (sym c.meets_chunks.ensures ∙ c.if-meets_chunks.false)
