use Rattle.std.proofs.Common.{◌≡◌, ◌∙◌, ◌%◌, sym, ap, subst}
use Rattle.page_table.specs.Blocks.{chunks_of}
use Rattle.page_table.proofs.Memory.{chunks_of-filled}
use Rattle.capture_desc.specs.declared.desc.Desc.{Desc}
use Rattle.slot_chain.specs.States.{ChainState}
use Rattle.slot_chain.specs.declared.faults.DoubleBufferError.{DoubleBufferError}
use Rattle.slot_chain.specs.Faults.{Refuses, chain_fault}
use Rattle.slot_chain.specs.Pairs.{HasBuffers}
use Rattle.slot_chain.proofs.Pairs.{chain_same, of_fragments, pair_of, refuses_with}
use Rattle.slot_chain.proofs.Standing.{has_buffers}
use Rattle.slot_chain.proofs.buffer.made_over.Goals as goal

pub new-requires-3-clause-granted : goal.new-requires-3-clause-granted
new-requires-3-clause-granted g c = ap chunks_of c.in_ok-ram.ensures ∙ chunks_of-filled _ _

pub invariant_of-result : goal.invariant_of-result
invariant_of-result g c =
    let base = ap (λ (d : Desc). d.base) c.desc.ensures.value in
    let made = ap (λ (s : ChainState). s.chain) c.in-Ok.ensures.first in
    let same =
    chain_same c.args.first.now c.args.second.now c.desc.result.now.base c.in_ok-parts.parts.items c.in_ok-grants.grants base
    c.in_ok-parts.ensures.parts c.in_ok-grants.ensures.granted in
    subst HasBuffers (sym (made ∙ same)) (has_buffers c.args.first.now c.args.second.now)

pub returns-in-Ok-clause-pair : goal.returns-in-Ok-clause-pair
returns-in-Ok-clause-pair g c =
    let base = ap (λ (d : Desc). d.base) c.desc.ensures.value in
    let made = ap (λ (s : ChainState). s.chain) c.in-Ok.ensures.first in
    let same =
    chain_same c.args.first.now c.args.second.now c.desc.result.now.base c.in_ok-parts.parts.items c.in_ok-grants.grants base
    c.in_ok-parts.ensures.parts c.in_ok-grants.ensures.granted in
    let aligned = subst (λ (d : Desc). d.base % 4 ≡ 0) c.desc.ensures.value c.if-base-ne0.false in
    pair_of c.args.first.now c.args.second.now c.in_ok-grants.ensures.framed.0 c.in_ok-grants.ensures.framed.1 c.in_ok-parts.ensures.first
    c.in_ok-parts.ensures.second aligned
    c.in_ok-grants.ensures.apart c.in_ok-grants.ensures.few c.in-Ok.running.chain (made ∙ same) c.in-Ok.ensures.sound.0

pub told-requires : goal.told-requires
told-requires g c =
    let base = ap (λ (d : Desc). d.base) c.desc.ensures.value in
    let same =
    chain_same c.args.first.now c.args.second.now c.desc.result.now.base c.in_ok-parts.parts.items c.in_ok-grants.grants base
    c.in_ok-parts.ensures.parts c.in_ok-grants.ensures.granted in
    let aligned = subst (λ (d : Desc). d.base % 4 ≡ 0) c.desc.ensures.value c.if-base-ne0.false in
    of_fragments c.args.first.now c.args.second.now c.in_ok-grants.ensures.framed.0 c.in_ok-grants.ensures.framed.1
    c.in_ok-parts.ensures.first c.in_ok-parts.ensures.second aligned
    c.in_ok-grants.ensures.apart c.in_ok-grants.ensures.few _ c.in-Err.error same c.in-Err.ensures.refused

pub returns-clause-refused : goal.returns-clause-refused
returns-clause-refused g c =
    let base = ap (λ (d : Desc). d.base) c.desc.ensures.value in
    let same =
    chain_same c.args.first.now c.args.second.now c.desc.result.now.base c.in_ok-parts.parts.items c.in_ok-grants.grants base
    c.in_ok-parts.ensures.parts c.in_ok-grants.ensures.granted in
    let aligned = subst (λ (d : Desc). d.base % 4 ≡ 0) c.desc.ensures.value c.if-base-ne0.false in
    subst (λ (e : DoubleBufferError). Refuses (chain_fault c.args.first.now c.args.second.now) e) (sym c.told.ensures)
    (refuses_with c.args.first.now c.args.second.now c.in_ok-grants.ensures.framed.0 c.in_ok-grants.ensures.framed.1
    c.in_ok-parts.ensures.first c.in_ok-parts.ensures.second aligned
    c.in_ok-grants.ensures.apart c.in_ok-grants.ensures.few _ c.in-Err.error same c.in-Err.ensures.refused)
