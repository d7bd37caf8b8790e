-- Two memories with the same image are the same.
use Rattle.std.proofs.Common.{◌≡◌, ℕ, suc, ◌+◌, ◌%◌, ◌^◌, ◌<◌, ◌≤◌, true, List, [], ◌∷◌, ◌++◌, length, drop, refl, sym, ap, ◌∙◌, arith}
use Rattle.std.proofs.Common.{append_assoc}
use Rattle.std.specs.Prelude.{◌==◌, slice_index}
use Rattle.std.specs.List.{flat_map, list_all}
use Rattle.std.proofs.lemmas.Bool.{and_parts, eqb-true}
use Rattle.byteorder.specs.Endian.{little_bytes}
use Rattle.page_table.specs.Grants.{AreRising, is_page, total}
use Rattle.page_table.specs.Blocks.{Block, chunk_of, chunks_of, AreBlocks}
use Rattle.page_table.proofs.Placing.{total-cons}
use Rattle.capture_file.specs.declared.program.Layout.{Layout}
use Rattle.capture_file.specs.declared.program.Layout.TheVariants.{Paged, Chunked}
use Rattle.capture_file.specs.Images.{block_image, image_as, image_of}
use Rattle.capture_file.specs.Programs.{number_field, layout_for}
use Rattle.capture_file.proofs.Chunks.{ok_is}
use Rattle.capture_file.proofs.Spelled.{number_again, AreFor, are_for}

number_same : (n m : ℕ) (rest others : List ℕ) → n < 2 ^ 32 → m < 2 ^ 32 → little_bytes 4 n ++ rest ≡ little_bytes 4 m ++ others →
    (n ≡ m) × (rest ≡ others)
number_same n m rest others low low' e =
    let pair : (n, rest) ≡ (m, others) =
    ok_is (n, rest) (m, others) (sym (number_again 0 n rest low) ∙ ap (number_field 0) e ∙ number_again 0 m others low') in
    (ap (λ (x : ℕ × List ℕ). x.0) pair, ap (λ (x : ℕ × List ℕ). x.1) pair)

cons_same : {A : Type 0} (x y : A) (xs ys : List A) → x ∷ xs ≡ y ∷ ys → (x ≡ y) × (xs ≡ ys)
cons_same x y xs ys e = (cc, cc)

bytes_same : (xs ys rest others : List ℕ) → length xs ≡ length ys → xs ++ rest ≡ ys ++ others → (xs ≡ ys) × (rest ≡ others)
bytes_same [] [] rest others len e = (refl, e)
bytes_same [] (y ∷ ys) rest others len e = absurd (omega arith)
bytes_same (x ∷ xs) [] rest others len e = absurd (omega arith)
bytes_same (x ∷ xs) (y ∷ ys) rest others len e =
    let both = cons_same x y (xs ++ rest) (ys ++ others) e in
    let tails = bytes_same xs ys rest others (omega arith) both.1 in
    (ap (λ (z : ℕ). z ∷ xs) both.0 ∙ ap (λ (zs : List ℕ). y ∷ zs) tails.0, tails.1)

-- a block fits into the fields of a layout
abbrev Fits : Layout → Block → Type 0
Fits Paged block = (block.at < 2 ^ 32) × (length block.bytes ≡ 4096)
Fits Chunked block = (block.at < 2 ^ 32) × (length block.bytes < 2 ^ 32)

abbrev AllFit : Layout → List Block → Type 0
AllFit layout [] = Unit {0}
AllFit layout (block ∷ rest) = Fits layout block × AllFit layout rest

block_is : (x y : Block) → x.at ≡ y.at → x.bytes ≡ y.bytes → x ≡ y
block_is x y at bytes = ap (λ (n : ℕ). record { at = n; bytes = x.bytes }) at ∙ ap (λ (zs : List ℕ). record { at = y.at; bytes = zs }) bytes

block_same : (layout : Layout) (x y : Block) (rest others : List ℕ) → Fits layout x → Fits layout y →
    block_image layout x ++ rest ≡ block_image layout y ++ others → (x ≡ y) × (rest ≡ others)
block_same Paged x y rest others fit fit' e =
    let at = number_same x.at y.at (x.bytes ++ rest) (y.bytes ++ others) fit.0 fit'.0
    (sym (append_assoc (little_bytes 4 x.at) x.bytes rest) ∙ e ∙ append_assoc (little_bytes 4 y.at) y.bytes others) in
    let bytes = bytes_same x.bytes y.bytes rest others (fit.1 ∙ sym fit'.1) at.1 in
    (block_is x y at.0 bytes.0, bytes.1)
block_same Chunked x y rest others fit fit' e =
    let long = length x.bytes in
    let long' = length y.bytes in
    let at = number_same x.at y.at (little_bytes 4 long ++ (x.bytes ++ rest)) (little_bytes 4 long' ++ (y.bytes ++ others)) fit.0 fit'.0
    (sym (regroup x.at long x.bytes rest) ∙ e ∙ regroup y.at long' y.bytes others) in
    let len = number_same long long' (x.bytes ++ rest) (y.bytes ++ others) fit.1 fit'.1 at.1 in
    let bytes = bytes_same x.bytes y.bytes rest others len.0 len.1 in
    (block_is x y at.0 bytes.0, bytes.1)
  where
    regroup : (at len : ℕ) (bytes rest : List ℕ) →
        ((little_bytes 4 at ++ little_bytes 4 len) ++ bytes) ++ rest ≡ little_bytes 4 at ++ (little_bytes 4 len ++ (bytes ++ rest))
    regroup at len bytes rest =
        append_assoc (little_bytes 4 at ++ little_bytes 4 len) bytes rest
        ∙ append_assoc (little_bytes 4 at) (little_bytes 4 len) (bytes ++ rest)

blocks_same : (layout : Layout) (blocks others : List Block) → length blocks ≡ length others → AllFit layout blocks → AllFit layout others →
    flat_map (block_image layout) blocks ≡ flat_map (block_image layout) others → blocks ≡ others
blocks_same layout [] [] len fit fit' e = refl
blocks_same layout [] (y ∷ ys) len fit fit' e = absurd (omega arith)
blocks_same layout (x ∷ xs) [] len fit fit' e = absurd (omega arith)
blocks_same layout (x ∷ xs) (y ∷ ys) len fit fit' e =
    let first = block_same layout x y (flat_map (block_image layout) xs) (flat_map (block_image layout) ys) fit.0 fit'.0 e in
    let rest = blocks_same layout xs ys (omega arith) fit.1 fit'.1 first.1 in
    ap (λ (z : Block). z ∷ xs) first.0 ∙ ap (λ (zs : List Block). y ∷ zs) rest

image_same : (layout : Layout) (memory other : List Block) → length memory < 2 ^ 32 → length other < 2 ^ 32 → AllFit layout memory →
    AllFit layout other →
    image_as layout memory ≡ image_as layout other → memory ≡ other
image_same layout memory other few few' fit fit' e =
    let counts =
    number_same (length memory) (length other) (flat_map (block_image layout) memory) (flat_map (block_image layout) other) few few'
    (behind_name layout e) in
    blocks_same layout memory other counts.0 fit fit' counts.1
  where
    behind_name : (l : Layout) → image_as l memory ≡ image_as l other →
        little_bytes 4 (length memory) ++ flat_map (block_image l) memory ≡ little_bytes 4 (length other) ++ flat_map (block_image l) other
    behind_name Paged same = ap (λ (zs : List ℕ). drop 4 zs) same
    behind_name Chunked same = ap (λ (zs : List ℕ). drop 4 zs) same

two_digits : ◌≡◌ {A = ℕ} 49 50 → ⊥
two_digits e = absurd (omega arith)

other_name : (memory other : List Block) → image_as Paged memory ≡ image_as Chunked other → ⊥
other_name memory other e = two_digits (ap (λ (zs : List ℕ). slice_index zs 3) e)

-- ---- each chunk fits the form

fits_pages : (from : ℕ) (memory : List Block) → AreRising from (chunks_of memory) → list_all is_page (chunks_of memory) ≡ true →
    AllFit Paged memory
fits_pages from [] rising all = tt
fits_pages from (block ∷ rest) rising all =
    let both = and_parts (is_page (chunk_of block)) (list_all is_page (chunks_of rest)) all in
    let page = and_parts (block.at % 4096 == 0) (length block.bytes == 4096) both.0 in
    let some = rising.1.some in
    let ends = rising.1.ends in
    ((omega arith, eqb-true (length block.bytes) 4096 page.1), fits_pages (block.at + length block.bytes) rest rising.2 both.1)

fits_chunks : (from : ℕ) (memory : List Block) → AreRising from (chunks_of memory) → total (chunks_of memory) ≤ 2 ^ 24 →
    AllFit Chunked memory
fits_chunks from [] rising small = tt
fits_chunks from (block ∷ rest) rising small =
    let some = rising.1.some in
    let ends = rising.1.ends in
    let sum = total-cons (chunk_of block) (chunks_of rest) in
    ((omega arith, omega arith), fits_chunks (block.at + length block.bytes) rest rising.2 (omega arith))

all_fit : (layout : Layout) (memory : List Block) → AreBlocks memory → AreFor layout (chunks_of memory) → AllFit layout memory
all_fit Paged memory is form = fits_pages 0 memory is.grants.rising form
all_fit Chunked memory is form = fits_chunks 0 memory is.grants.rising is.grants.small

blocks_few : (memory : List Block) → length memory ≡ length (chunks_of memory)
blocks_few [] = refl
blocks_few (block ∷ rest) = ap suc (blocks_few rest)

few_blocks : (memory : List Block) → AreBlocks memory → length memory < 2 ^ 32
few_blocks memory is = let few = is.grants.few in let len = blocks_few memory in omega arith

pub memory_same : (memory other : List Block) → AreBlocks memory → AreBlocks other → image_of memory ≡ image_of other → memory ≡ other
unfolding image_of
memory_same memory other is is' e =
    by_form (layout_for (chunks_of memory)) (layout_for (chunks_of other)) (are_for (chunks_of memory)) (are_for (chunks_of other)) e
  where
    by_form : (layout layout' : Layout) → AreFor layout (chunks_of memory) → AreFor layout' (chunks_of other) →
        image_as layout memory ≡ image_as layout' other → memory ≡ other
    by_form Paged Paged form form' same =
        image_same Paged memory other (few_blocks memory is) (few_blocks other is') (all_fit Paged memory is form)
        (all_fit Paged other is' form') same
    by_form Chunked Chunked form form' same =
        image_same Chunked memory other (few_blocks memory is) (few_blocks other is') (all_fit Chunked memory is form)
        (all_fit Chunked other is' form') same
    by_form Paged Chunked form form' same = absurd (other_name memory other same)
    by_form Chunked Paged form form' same = absurd (other_name other memory (sym same))
