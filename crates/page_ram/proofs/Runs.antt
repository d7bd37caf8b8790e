-- Bytes that are one behind the other in one chunk.
use Rattle.std.proofs.Common.{◌≡◌, ℕ, suc, ◌+◌, ◌≤◌, ◌<◌, List, [], ◌∷◌, length, get_or, refl, ap, ◌∙◌, arith}
use Rattle.std.proofs.Math.ListN.{get_or-map, set}
use Rattle.std.proofs.lemmas.List.{length-map}
use Rattle.page_table.specs.Grants.{Chunk, covers}
use Rattle.page_table.specs.Blocks.{Block, stored_run}
use Rattle.page_ram.specs.declared.raw_ram.Extent.{Extent}
use Rattle.page_ram.specs.Extents.{extent_chunk, laid, AreCut, StandsAt, StandsRun, set_run}
use Rattle.page_ram.proofs.Extents.{AreCut-set, byte_found, le-end}

first_stands : (extents : List Extent) (place address count index : ℕ) → StandsRun extents place address (suc count) index →
    StandsAt extents address place index
first_stands extents place address count index run =
    let none : Extent = record { at = 0; len = 0; from = 0 } in
    let there = run.there in
    let begins = run.begins in
    let ends = run.ends in (
      (
        omega (arith, length-map extents extent_chunk),
        ap (λ (c : Chunk). covers c address) (get_or-map extent_chunk extents place none)
            ∙ grind (arith, begins, ends),
      ),
      run.indexed,
    )

-- such bytes are written where they are
pub record IsWritten (block : List ℕ) (extents : List Extent) (address index : ℕ) (bytes : List ℕ) : Type 0 where
  pub inside : index + length bytes ≤ length block
  pub memory : stored_run (laid block extents) address bytes ≡ laid (set_run block index bytes) extents
  pub cut : AreCut (set_run block index bytes) extents

pub run_written : (block : List ℕ) (extents : List Extent) (place address index : ℕ) (bytes : List ℕ) → ((k : ℕ) → get_or bytes k 0 < 256) →
    AreCut block extents →
    StandsRun extents place address (length bytes) index → IsWritten block extents address index bytes
run_written block extents place address index [] small cut run =
    let none : Extent = record { at = 0; len = 0; from = 0 } in
    let ends = le-end 0 extents place none cut.lie run.there in
    record {
      inside = omega (arith, run.begins, run.ends, run.indexed, cut.long);
      memory = refl;
      cut = cut;
    }
run_written block extents place address index (byte ∷ bytes) small cut run =
    let at = byte_found block extents extents address place index cut refl (first_stands extents place address (length bytes) index run) in
    let next = AreCut-set block extents address index byte (small 0) cut at in
    let rest : StandsRun extents place (address + 1) (length bytes) (index + 1) = record {
      there = run.there;
      begins = omega (arith, run.begins);
      ends = omega (arith, run.ends);
      indexed = omega (arith, run.begins, run.indexed);
    } in
    let more = run_written (set block index byte) extents place (address + 1) (index + 1) bytes (λ k. small (suc k)) next rest in
    record {
      inside = omega (arith, more.inside, at.inside);
      memory = ap (λ (m : List Block). stored_run m (address + 1) bytes) (at.writes byte) ∙ more.memory;
      cut = more.cut;
    }
