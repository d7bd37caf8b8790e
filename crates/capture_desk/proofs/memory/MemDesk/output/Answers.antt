use Rattle.std.proofs.Common.{◌∙◌, sym, ap, map}
use Rattle.capture_desk.specs.Desks.{output_named, output_under}
use Rattle.capture_desk.specs.Inside.{IsFirst, entry, nothing}
use Rattle.capture_desk.proofs.Names.{named_of}
use Rattle.capture_desk.proofs.Slots.{entry_at}
use Rattle.std.proofs.lemmas.List.{length-map}
use Rattle.capture_desk.proofs.memory.MemDesk.output.Goals as goal

pub returns-in-Some : goal.returns-in-Some
returns-in-Some c =
    let outputs = map entry c.self.inside.slots.items in
    let first : IsFirst c.as_bytes.result.now outputs nothing c.in-Some.i = rw c.deref.ensures.value at c.in-Some.ensures in
    let within = rw length-map at first.within in
    c.output.ensures
    ∙ ap (λ o. o.1) (sym (entry_at c.self.inside.slots.items c.in-Some.i c.index.result.now c.index.result.now within c.index.ensures))
    ∙ ap output_under (sym (named_of c.as_bytes.result.now outputs nothing c.in-Some.i first))
    ∙ ap (λ n. output_named n outputs) c.as_bytes.ensures.value
    ∙ ap (λ m. output_named c.args.name.now m.outputs) c.self.view_is
