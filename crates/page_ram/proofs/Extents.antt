-- Chunks that lie one behind the other in one block.
use Rattle.std.proofs.Common.{◌≡◌, ℕ, zero, suc, ◌+◌, ◌-◌, ◌≤◌, ◌<◌, true, List, [], ◌∷◌, ◌++◌, length, get_or, take, drop, replicate, refl}
use Rattle.std.proofs.Common.{sym, ap, ◌∙◌, arith, subst}
use Rattle.std.proofs.Math.ListN.{set, get_or-map, length-set}
use Rattle.std.proofs.Math.Seq.{take-set-lt}
use Rattle.std.proofs.lemmas.List.{length-map, map-append, take_more, length-drop, length-replicate, length-take-le, get_or-take}
use Rattle.std.proofs.lemmas.List.{get_or-drop, drop-set-lt, drop-set-add, take-set-le, drop-replicate, take-replicate}
use Rattle.std.proofs.lemmas.List.Sums.{sum_by-append, sum_by_more}
use Rattle.std.proofs.lemmas.Option.{slice_get-map, slice_get-get_or}
use Rattle.std.specs.Prelude.{Some, slice_get, option_map}
use Rattle.std.proofs.lemmas.Bool.{and_parts, leb-true, ltb-true}
use Rattle.page_table.specs.Grants.{Chunk, chunk, chunk_at, covers, granted, total, AreGrants}
use Rattle.page_table.specs.Blocks.{Block, chunks_of, byte_at, stored, filled, AreBlocks}
use Rattle.page_table.proofs.Memory.{with_byte, AreBlocks-stored, AreBlocks-filled}
use Rattle.page_ram.specs.declared.raw_ram.Extent.{Extent}
use Rattle.page_ram.specs.Places.{HasAddress}
use Rattle.page_ram.specs.Extents.{extent_chunk, extent_chunks, extent_block, laid, AreLaid, AreCut, StandsAt}
use Rattle.page_ram.proofs.Places.{place_held}

le-from : (from : ℕ) (extents : List Extent) (j : ℕ) (d : Extent) → AreLaid from extents → j < length extents →
    from ≤ (get_or extents j d).from
le-from from [] j d lie within = absurd (omega arith)
le-from from (e ∷ rest) zero d lie within = omega (arith, lie.0)
le-from from (e ∷ rest) (suc j) d lie within =
    let later = le-from (from + e.len) rest j d lie.1 (omega arith) in omega arith

total-more : (e : Extent) (rest : List Extent) → total (extent_chunks (e ∷ rest)) ≡ e.len + total (extent_chunks rest)
total-more e rest =
    let split : total (extent_chunks (e ∷ rest)) ≡ 0 + e.len + total (extent_chunks rest) =
    sum_by-append (λ (c : Chunk). c.len) (extent_chunk e ∷ []) (extent_chunks rest) in
    omega arith

-- each extent ends in the block
pub le-end : (from : ℕ) (extents : List Extent) (j : ℕ) (d : Extent) → AreLaid from extents → j < length extents →
    (get_or extents j d).from + (get_or extents j d).len ≤ from + total (extent_chunks extents)
le-end from [] j d lie within = absurd (omega arith)
le-end from (e ∷ rest) zero d lie within = omega (arith, lie.0, total-more e rest)
le-end from (e ∷ rest) (suc j) d lie within =
    let later = le-end (from + e.len) rest j d lie.1 (omega arith) in omega (arith, total-more e rest)

pub chunks_of-laid : (from : ℕ) (bytes : List ℕ) (extents : List Extent) → AreLaid from extents →
    from + total (extent_chunks extents) ≤ length bytes → chunks_of (laid bytes extents) ≡ extent_chunks extents
chunks_of-laid from bytes [] lie fits = refl
chunks_of-laid from bytes (e ∷ rest) lie fits =
    let long = length-take-le e.len (drop e.from bytes) (omega (arith, length-drop e.from bytes, lie.0, total-more e rest)) in
    ap (λ (len : ℕ). chunk e.at len ∷ chunks_of (laid bytes rest)) long
    ∙ ap (λ (cs : List Chunk). extent_chunk e ∷ cs) (chunks_of-laid (from + e.len) bytes rest lie.1 (omega (arith, total-more e rest)))

-- a byte before the extents is none of theirs
laid-before : (from : ℕ) (bytes : List ℕ) (extents : List Extent) (index byte : ℕ) → AreLaid from extents → index < from →
    laid (set bytes index byte) extents ≡ laid bytes extents
laid-before from bytes [] index byte lie early = refl
laid-before from bytes (e ∷ rest) index byte lie early =
    let same = drop-set-lt e.from bytes index byte (omega (arith, lie.0)) in
    ap (λ (tail : List ℕ). record { at = e.at; bytes = take e.len tail } ∷ laid (set bytes index byte) rest) same
    ∙ ap (λ (blocks : List Block). extent_block bytes e ∷ blocks) (laid-before (from + e.len) bytes rest index byte lie.1 (omega arith))

-- and none of an extent that ends before it
extent_block-after : (bytes : List ℕ) (e : Extent) (index byte : ℕ) → e.from + e.len ≤ index →
    extent_block (set bytes index byte) e ≡ extent_block bytes e
extent_block-after bytes e index byte late =
    let k = index - e.from in
    let at : index ≡ e.from + k = omega arith in
    ap (λ (tail : List ℕ). record { at = e.at; bytes = take e.len tail })
    (ap (λ (i : ℕ). drop e.from (set bytes i byte)) at ∙ drop-set-add e.from bytes k byte)
    ∙ ap (λ (kept : List ℕ). record { at = e.at; bytes = kept }) (take-set-le e.len (drop e.from bytes) k byte (omega arith))

covered_chunk : (e : Extent) (address : ℕ) → covers (extent_chunk e) address ≡ true → (e.at ≤ address) × (address < e.at + e.len)
covered_chunk e address here = let parts = and_parts _ _ here in (leb-true _ _ parts.0, ltb-true _ _ parts.1)

laid-set : (from : ℕ) (bytes : List ℕ) (extents : List Extent) (n address byte : ℕ) (d : Extent) → AreLaid from extents →
    n < length extents → covers (extent_chunk (get_or extents n d)) address ≡ true
    → laid (set bytes ((get_or extents n d).from + (address - (get_or extents n d).at)) byte) extents
    ≡ set (laid bytes extents) n (with_byte (extent_block bytes (get_or extents n d)) address byte)
laid-set from bytes [] n address byte d lie within here = absurd (omega arith)
laid-set from bytes (e ∷ rest) zero address byte d lie within here =
    let range = covered_chunk e address here in
    let k = address - e.at in
    let first : extent_block (set bytes (e.from + k) byte) e ≡ with_byte (extent_block bytes e) address byte =
    ap (λ (tail : List ℕ). record { at = e.at; bytes = take e.len tail }) (drop-set-add e.from bytes k byte)
    ∙ ap (λ (kept : List ℕ). record { at = e.at; bytes = kept }) (take-set-lt e.len (drop e.from bytes) k byte (omega arith)) in
    ap (λ (block : Block). block ∷ laid (set bytes (e.from + k) byte) rest) first
    ∙ ap (λ (blocks : List Block). with_byte (extent_block bytes e) address byte ∷ blocks)
    (laid-before (from + e.len) bytes rest (e.from + k) byte lie.1 (omega (arith, lie.0)))
laid-set from bytes (e ∷ rest) (suc n) address byte d lie within here =
    let other = get_or rest n d in
    let begins = le-from (from + e.len) rest n d lie.1 (omega arith) in
    let index = other.from + (address - other.at) in
    ap (λ (block : Block). block ∷ laid (set bytes index byte) rest) (extent_block-after bytes e index byte (omega (arith, lie.0)))
    ∙ ap (λ (blocks : List Block). extent_block bytes e ∷ blocks)
    (laid-set (from + e.len) bytes rest n address byte d lie.1 (omega arith) here)

pub cut_chunks : (bytes : List ℕ) (extents : List Extent) → AreCut bytes extents → chunks_of (laid bytes extents) ≡ extent_chunks extents
cut_chunks bytes extents cut = chunks_of-laid 0 bytes extents cut.lie (omega (arith, cut.long))

pub cut_grants : (bytes : List ℕ) (extents : List Extent) → AreCut bytes extents → AreGrants (extent_chunks extents)
cut_grants bytes extents cut = subst AreGrants (cut_chunks bytes extents cut) cut.blocks.grants

pub cut_granted : (bytes : List ℕ) (extents : List Extent) (memory : List Block) (address : ℕ) → AreCut bytes extents →
    laid bytes extents ≡ memory → granted (chunks_of memory) address ≡ true → granted (extent_chunks extents) address ≡ true
cut_granted bytes extents memory address cut same here =
    ap (λ (cs : List Chunk). granted cs address) (sym (cut_chunks bytes extents cut) ∙ ap chunks_of same) ∙ here

-- the byte at an address is the one at the index
pub record IsByte (bytes : List ℕ) (extents : List Extent) (address index : ℕ) : Type 0 where
  pub inside : index < length bytes
  pub reads : byte_at (laid bytes extents) address ≡ get_or bytes index 0
  pub writes : (byte : ℕ) → stored (laid bytes extents) address byte ≡ laid (set bytes index byte) extents

-- an index is inside the block
pub lt-index : (extents : List Extent) (address n : ℕ) (d : Extent) → AreLaid 0 extents → n < length extents →
    covers (extent_chunk (get_or extents n d)) address ≡ true →
    (get_or extents n d).from + (address - (get_or extents n d).at) < total (extent_chunks extents)
lt-index extents address n d lie within here =
    let range = covered_chunk (get_or extents n d) address here in
    let ends = le-end 0 extents n d lie within in omega arith

pub byte_found : (bytes : List ℕ) (extents called : List Extent) (address place index : ℕ) → AreCut bytes extents → called ≡ extents →
    StandsAt called address place index → IsByte bytes extents address index
byte_found bytes extents called address n index cut is_called stands_called =
    let stands = subst (λ (es : List Extent). StandsAt es address n index) is_called stands_called in
    let d : Extent = record { at = 0; len = 0; from = 0 } in
    let e = get_or extents n d in
    let k = address - e.at in
    let within : n < length extents = omega (arith, stands.0.0, length-map extents extent_chunk) in
    let here : covers (extent_chunk e) address ≡ true =
    sym (ap (λ (c : Chunk). covers c address) (get_or-map extent_chunk extents n d)) ∙ stands.0.1 in
    let range = covered_chunk e address here in
    let below = lt-index extents address n d cut.lie within here in
    let same = cut_chunks bytes extents cut in
    let at =
    place_held 0 (laid bytes extents) address n cut.blocks.grants.rising
    (subst (λ (cs : List Chunk). HasAddress cs n address) (sym same) stands.0) in
    let block = get_or-map (extent_block bytes) extents n d in
    record {
      inside = omega (arith, stands.1, cut.long);
      reads = at.reads (extent_block bytes d)
          ∙ ap (λ (b : Block). get_or b.bytes (address - b.at) 0) block
          ∙ get_or-take e.len (drop e.from bytes) k 0 (omega arith) ∙ get_or-drop e.from bytes k 0
          ∙ ap (λ (i : ℕ). get_or bytes i 0) (sym stands.1);
      writes = λ byte. at.writes (extent_block bytes d) byte
          ∙ ap (λ (b : Block). set (laid bytes extents) n (with_byte b address byte)) block
          ∙ sym (laid-set 0 bytes extents n address byte d cut.lie within here)
          ∙ ap (λ (i : ℕ). laid (set bytes i byte) extents) (sym stands.1);
    }

pub AreCut-set : (bytes : List ℕ) (extents : List Extent) (address index byte : ℕ) → byte < 256 → AreCut bytes extents →
    IsByte bytes extents address index → AreCut (set bytes index byte) extents
AreCut-set bytes extents address index byte small cut at =
    record {
      blocks = subst AreBlocks (at.writes byte) (AreBlocks-stored (laid bytes extents) address byte small cut.blocks);
      lie = cut.lie;
      long = length-set bytes index byte ∙ cut.long;
    }

-- equal bytes, cut into chunks
pub laid-replicate : (from n fill : ℕ) (extents : List Extent) → AreLaid from extents → from + total (extent_chunks extents) ≤ n →
    laid (replicate n fill) extents ≡ filled fill (extent_chunks extents)
laid-replicate from n fill [] lie fits = refl
laid-replicate from n fill (e ∷ rest) lie fits =
    ap (λ (kept : List ℕ). record { at = e.at; bytes = kept } ∷ laid (replicate n fill) rest)
    (ap (take e.len) (drop-replicate e.from n fill) ∙ take-replicate e.len (n - e.from) fill (omega (arith, lie.0, total-more e rest)))
    ∙ ap (λ (blocks : List Block). record { at = e.at; bytes = replicate e.len fill } ∷ blocks)
    (laid-replicate (from + e.len) n fill rest lie.1 (omega (arith, total-more e rest)))

-- one more extent
pub AreLaid-push : (from : ℕ) (extents : List Extent) (e : Extent) → AreLaid from extents → e.from ≡ from + total (extent_chunks extents) →
    AreLaid from (extents ++ e ∷ [])
AreLaid-push from [] e lie next = (omega arith, tt)
AreLaid-push from (first ∷ rest) e lie next = (lie.0, AreLaid-push (from + first.len) rest e lie.1 (omega (arith, total-more first rest)))

pub AreCut-filled : (fill size : ℕ) (extents : List Extent) (chunks : List Chunk) → fill < 256 → AreGrants chunks →
    extent_chunks extents ≡ chunks → AreLaid 0 extents → size ≡ total chunks →
    AreCut (replicate size fill) extents × (laid (replicate size fill) extents ≡ filled fill chunks)
AreCut-filled fill size extents chunks small grants same lie long =
    let all : size ≡ total (extent_chunks extents) = long ∙ ap total (sym same) in
    let whole = laid-replicate 0 size fill extents lie (omega arith) ∙ ap (filled fill) same in (
      record {
        blocks = subst AreBlocks (sym whole) (AreBlocks-filled fill chunks small grants);
        lie = lie;
        long = length-replicate size fill ∙ all;
      },
      whole,
    )

-- a chunk with its bytes
pub page_found : (bytes : List ℕ) (extents : List Extent) (memory : List Block) (i : ℕ) (e : Extent) → AreCut bytes extents →
    laid bytes extents ≡ memory → i < length memory → e ≡ get_or extents i e
    → (e.from + e.len ≤ length bytes) × (slice_get memory i ≡ Some (extent_block bytes e))
page_found bytes extents memory i e cut same inside is =
    let within : i < length extents = omega (arith, ap length same, length-map extents (extent_block bytes)) in
    let ends = le-end 0 extents i e cut.lie within in (
      subst (λ (x : Extent). x.from + x.len ≤ length bytes) (sym is) (omega (arith, cut.long)),
      ap (λ (m : List Block). slice_get m i) (sym same) ∙ slice_get-map (extent_block bytes) extents i
          ∙ ap (option_map (extent_block bytes)) (slice_get-get_or extents i e within)
          ∙ ap (λ (x : Extent). Some (extent_block bytes x)) (sym is),
    )

-- the extents of one more chunk
pub laid_more : (extents more : List Extent) (chunks : List Chunk) (i from : ℕ) (e : Extent) → i < length chunks →
    extent_chunks extents ≡ take i chunks → AreLaid 0 extents → from ≡ total (take i chunks)
    → e.from ≡ from → extent_chunk e ≡ chunk_at chunks i → more ≡ extents ++ e ∷ [] →
    (extent_chunks more ≡ take (i + 1) chunks) × AreLaid 0 more × (from + e.len ≡ total (take (i + 1) chunks))
laid_more extents more chunks i from e within same lie so_far begins next is =
    let longer : extent_chunks (extents ++ e ∷ []) ≡ take (i + 1) chunks =
    map-append extent_chunk extents (e ∷ []) ∙ ap (λ (cs : List Chunk). cs ++ extent_chunk e ∷ []) same
    ∙ ap (λ (c : Chunk). take i chunks ++ c ∷ []) next ∙ sym (take_more chunks i (chunk 0 0) within) in
    let sum : total (take (i + 1) chunks) ≡ total (take i chunks) + (chunk_at chunks i).len =
    sum_by_more (λ (c : Chunk). c.len) chunks i (chunk 0 0) within in
    let len : e.len ≡ (chunk_at chunks i).len = ap (λ (c : Chunk). c.len) next in (
      ap extent_chunks is ∙ longer,
      subst (AreLaid 0) (sym is) (AreLaid-push 0 extents e lie (omega (arith, begins ∙ so_far ∙ sym (ap total same)))),
      omega arith,
    )
