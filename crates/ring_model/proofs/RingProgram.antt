-- The program of a ring that has a place can be made.
use Rattle.std.proofs.Common.{◌≡◌, ◌^◌, ◌<◌, false, [], ◌∷◌, ◌∙◌, arith, refl}
use Rattle.std.proofs.lemmas.List.{length-map}
use Rattle.risc_word.specs.declared.Instr.{Instr}
use Rattle.risc_word.specs.Words.{encoded}
use Rattle.page_table.specs.Taken.{page_at}
use Rattle.page_table.proofs.Pages.{total-pages}
use Rattle.machine_model.specs.Paths.{IsProgram, shares_byte}
use Rattle.machine_model.proofs.OneSpan.{one_span-made}
use Rattle.picture_model.proofs.Each.{each_All, each_append, each_flat_map, each_only}
use Rattle.picture_model.proofs.FaultlessLines.{AreWords, IsGoodInstr}
use Rattle.picture_model.proofs.CompiledProgram.{chunks_grants, none_shares}
use Rattle.picture_model.proofs.Places.{any-in_order}
use Rattle.ring_model.specs.Rings.{IsPlaced, IsRing, Ring, closing, memory_of, opening, ring_instrs, ring_program, ring_words, round}
use Rattle.ring_model.proofs.Few.{ring_few}
use Rattle.ring_model.proofs.Lines.{aligned}
use Rattle.ring_model.proofs.Sound.{good_front, ring_length}

abbrev HasWords : Instr → Type 0
HasWords i = AreWords (encoded i)

ring_fit : (r : Ring) → IsRing r → IsPlaced r → AreWords (ring_words r)
ring_fit r is placed =
    let ends = placed.ends in
    let long = ring_length r in
    each_flat_map HasWords (λ word. word < 2 ^ 32) encoded (ring_instrs r) (λ i words. words)
    (each_append HasWords (opening ∷ round r) (closing r ∷ [])
    (each_only (IsGoodInstr (ring_program r)) HasWords (opening ∷ round r) (λ i good. good.words) (good_front r is (ring_program r) refl))
    ((omega arith, (omega arith, tt)), tt))

pub ring_made : (r : Ring) → IsRing r → IsPlaced r → IsProgram (ring_program r)
ring_made r is placed =
    let program = ring_program r in
    let bytes = total-pages r.pages in
    let pages = length-map r.pages page_at in
    let few = is.few_pages in
    let long = ring_length r in
    let ends = placed.ends in
    one_span-made r.base (ring_words r) program.grants placed.aligned (omega arith) (ring_few r is) ends
    (each_All (λ word. word < 2 ^ 32) (ring_words r) (ring_fit r is placed))
    (chunks_grants (memory_of r) (omega arith) (omega arith) (aligned r is) is.pages.apart)
    (each_All (λ c. shares_byte program c ≡ false) program.grants
    (none_shares (shares_byte program) program.grants (any-in_order (shares_byte program) (memory_of r) ∙ placed.apart)))
