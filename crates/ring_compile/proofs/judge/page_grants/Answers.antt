use Rattle.std.proofs.Common.{◌∙◌, ap}
use Rattle.ring_model.specs.Rings.{Ring}
use Rattle.ring_compile.proofs.Judging.{addresses_shown}
use Rattle.ring_compile.proofs.judge.page_grants.Goals as goal

pub returns-in-Ok-clause-addresses : goal.returns-in-Ok-clause-addresses
returns-in-Ok-clause-addresses c =
    addresses_shown c.args.values.now.pages c.as_slice.result.now
    (c.as_slice.ensures ∙ ap (λ (r : Ring). r.pages) c.values.view_is) c.taken.ensures.addresses

pub returns-in-Err-Unaligned-clause-addresses : goal.returns-in-Err-Unaligned-clause-addresses
returns-in-Err-Unaligned-clause-addresses c =
    addresses_shown c.args.values.now.pages c.as_slice.result.now
    (c.as_slice.ensures ∙ ap (λ (r : Ring). r.pages) c.values.view_is) c.taken.ensures.addresses

pub returns-in-Err-Twice-clause-addresses : goal.returns-in-Err-Twice-clause-addresses
returns-in-Err-Twice-clause-addresses c =
    addresses_shown c.args.values.now.pages c.as_slice.result.now
    (c.as_slice.ensures ∙ ap (λ (r : Ring). r.pages) c.values.view_is) c.taken.ensures.addresses

pub returns-in-Err-Memory-clause-addresses : goal.returns-in-Err-Memory-clause-addresses
returns-in-Err-Memory-clause-addresses c =
    addresses_shown c.args.values.now.pages c.as_slice.result.now
    (c.as_slice.ensures ∙ ap (λ (r : Ring). r.pages) c.values.view_is) c.taken.ensures.addresses
