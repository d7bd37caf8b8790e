use Rattle.std.proofs.Common.{◌∙◌, arith, subst, sym}
use Rattle.capture_file.specs.Programs.{Gives}
use Rattle.capture_file.proofs.KeptRead.{based_placed, based_value}
use Rattle.capture_file.proofs.kept.read_based.Goals as goal

pub read_behind-requires-clause-placed : goal.read_behind-requires-clause-placed
read_behind-requires-clause-placed c =
    based_placed c.args.head.layout c.args.head.start c.args.head.count _ c.args.front.now c.args.words.items c.args.rest.now
    c.truncate.new.self.items _ c.one.result c.requires.head (omega arith) c.requires.words (λ i. omega (arith, c.type_inv.front i))
    (λ i. omega (arith, c.type_inv.rest i)) c.one.ensures.fit c.truncate.ensures.items c.one.ensures.value
    (c.deref-2.ensures.value ∙ (rw c.deref.ensures.value at c.in_ok-behind.ensures.bytes)) (omega arith)

pub returns : goal.returns
returns c =
    subst (λ found. Gives (λ x. x) c.read_behind.result found)
    (sym (based_value c.args.head.layout c.args.head.start c.args.head.count _ c.args.front.now c.args.words.items c.args.rest.now
    c.truncate.new.self.items _ c.one.result c.requires.head (omega arith) c.requires.words (λ i. omega (arith, c.type_inv.front i))
    (λ i. omega (arith, c.type_inv.rest i)) c.one.ensures.fit c.truncate.ensures.items c.one.ensures.value
    (c.deref-2.ensures.value ∙ (rw c.deref.ensures.value at c.in_ok-behind.ensures.bytes)) (omega arith)))
    c.read_behind.ensures
