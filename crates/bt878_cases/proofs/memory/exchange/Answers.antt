use Rattle.std.proofs.Common.{◌≡◌, ◌∙◌, ap, true, length, subst, sym}
use Rattle.page_table.specs.Grants.{granted}
use Rattle.page_table.specs.Blocks.{chunks_of}
use Rattle.page_table.proofs.Memory.{chunks_of-stored, length-stored}
use Rattle.bt878_cases.proofs.Fronts.{front_granted}
use Rattle.bt878_cases.proofs.memory.exchange.Goals as goal

pub store-requires : goal.store-requires
store-requires g c =
    front_granted (g.R.Ram.memory c.args.ram.now) c.args.chunk
    (record { at = c.page-addr.result.0; bytes = c.page-addr.result.1.now }) c.page-addr.ensures.sound c.page-addr.ensures.value

pub load-requires : goal.load-requires
load-requires g c =
    subst (λ chunks. granted chunks c.page-addr.result.0 ≡ true)
    (sym (ap chunks_of c.store.ensures.stored ∙ chunks_of-stored (g.R.Ram.memory c.args.ram.now) c.page-addr.result.0 c.args.byte))
    (front_granted (g.R.Ram.memory c.args.ram.now) c.args.chunk
    (record { at = c.page-addr.result.0; bytes = c.page-addr.result.1.now }) c.page-addr.ensures.sound c.page-addr.ensures.value)

pub returns : goal.returns
returns g c = ap length c.store.ensures.stored ∙ length-stored (g.R.Ram.memory c.args.ram.now) c.page-addr.result.0 c.args.byte
