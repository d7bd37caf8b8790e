-- Memory chunk by chunk.
use Rattle.std.proofs.Common.{◌≡◌, ℕ, zero, suc, ◌+◌, ◌^◌, ◌≤◌, Bool, true, false, ◌&&◌, List, [], ◌∷◌, ◌++◌, length, take, drop, Some}
use Rattle.std.proofs.Common.{Result, refl, sym, ap, subst, ◌∙◌, arith}
use Rattle.std.proofs.lemmas.Bool.{and_parts}
use Rattle.std.specs.Prelude.{slice_get}
use Rattle.std.specs.List.{flat_map, list_all}
use Rattle.page_table.specs.Grants.{is_page, total}
use Rattle.page_table.specs.Blocks.{Block, chunk_of, chunks_of, AreBlocks}
use Rattle.page_table.proofs.Placing.{total-cons}
use Rattle.std.proofs.lemmas.List.{append-nil, take-append-drop}
use Rattle.std.proofs.lemmas.List.Concat.{flat_map-append}
use Rattle.capture_desk.specs.Desks.{Told, after_write, Puts}
use Rattle.capture_file.specs.Images.{image_head, image_as, image_of, block_image}
use Rattle.capture_file.specs.declared.program.Layout.{Layout}
use Rattle.capture_file.specs.declared.program.Layout.TheVariants.{Chunked}
use Rattle.capture_file.specs.Programs.{layout_for}
use Rattle.capture_file.proofs.Puts.{Breaks, puts_after, breaks_after, breaks_within, puts_then}

-- the block at a place, behind those before it
pub front_at : (memory : List Block) (i : ℕ) (b : Block) → slice_get memory i ≡ Some b → take (suc i) memory ≡ take i memory ++ b ∷ []
front_at [] i b e = absurd (cc)
front_at (x ∷ xs) zero b e = let same : x ≡ b = cc in ap (λ (y : Block). y ∷ []) same
front_at (x ∷ xs) (suc i) b e = ap (λ (ys : List Block). x ∷ ys) (front_at xs i b e)

more_at : (memory : List Block) (i : ℕ) (b : Block) → slice_get memory i ≡ Some b → take (i + 1) memory ≡ take i memory ++ b ∷ []
more_at memory i b e = ap (λ (n : ℕ). take n memory) (let k : i + 1 ≡ suc i = omega arith in k) ∙ front_at memory i b e

-- ---- pages

all_push : (blocks : List Block) (b : Block) → list_all is_page (chunks_of blocks) ≡ true → is_page (chunk_of b) ≡ true →
    list_all is_page (chunks_of (blocks ++ b ∷ [])) ≡ true
all_push [] b h e = rw e refl
all_push (x ∷ xs) b h e =
    let both = and_parts (is_page (chunk_of x)) (list_all is_page (chunks_of xs)) h in
    rw (both.0, all_push xs b both.1 e) refl

pub pages_more : (memory : List Block) (i : ℕ) (b : Block) → slice_get memory i ≡ Some b → list_all is_page (chunks_of (take i memory))
    ≡ true → is_page (chunk_of b) ≡ true → list_all is_page (chunks_of (take (i + 1) memory)) ≡ true
pages_more memory i b e h page =
    ap (λ (blocks : List Block). list_all is_page (chunks_of blocks)) (more_at memory i b e) ∙ all_push (take i memory) b h page

pub not_all_pages : (memory : List Block) (i : ℕ) (b : Block) → slice_get memory i ≡ Some b → is_page (chunk_of b) ≡ false →
    list_all is_page (chunks_of memory) ≡ false
not_all_pages [] i b e other = absurd (cc)
not_all_pages (x ∷ xs) zero b e other = let same : x ≡ b = cc in rw (same, other) refl
not_all_pages (x ∷ xs) (suc i) b e other = rw (not_all_pages xs i b e other) (and_false (is_page (chunk_of x)))
  where
    and_false : (t : Bool) → (t && false) ≡ false
    and_false true = refl
    and_false false = refl

pub chunked_for : (memory : List Block) (i : ℕ) (b : Block) → slice_get memory i ≡ Some b → is_page (chunk_of b) ≡ false →
    layout_for (chunks_of memory) ≡ Chunked
chunked_for memory i b e other = rw (not_all_pages memory i b e other) refl

-- ---- sizes

size_at : (memory : List Block) (i : ℕ) (b : Block) → slice_get memory i ≡ Some b → length b.bytes ≤ total (chunks_of memory)
size_at [] i b e = absurd (cc)
size_at (x ∷ xs) zero b e = let same : x ≡ b = cc in rw (← same) (omega (arith, total-cons (chunk_of x) (chunks_of xs)))
size_at (x ∷ xs) (suc i) b e = let rest = size_at xs i b e in omega (arith, total-cons (chunk_of x) (chunks_of xs), rest)

pub block_small : (memory : List Block) (i : ℕ) (b : Block) → AreBlocks memory → slice_get memory i ≡ Some b → length b.bytes ≤ 2 ^ 24
block_small memory i b are e = let size = size_at memory i b e in omega (arith, are.grants.small, size)

-- ---- what is put

module _ (one : Block → List ℕ) (memory : List Block) (i : ℕ) (b : Block) (at : slice_get memory i ≡ Some b) (old mid new : Told)
    (done : mid ≡ after_write (flat_map one (take i memory)) old) where
  spelled_more : flat_map one (take i memory) ++ one b ≡ flat_map one (take (i + 1) memory)
  spelled_more =
      ap (λ (zs : List ℕ). flat_map one (take i memory) ++ zs) (sym (append-nil (one b)))
      ∙ sym (flat_map-append one (take i memory) (b ∷ []))
      ∙ ap (flat_map one) (sym (more_at memory i b at))

  pub blocks_more : new ≡ after_write (one b) mid → new ≡ after_write (flat_map one (take (i + 1) memory)) old
  blocks_more e =
      puts_after (flat_map one (take i memory)) (one b) old mid new done e ∙ ap (λ (zs : List ℕ). after_write zs old) spelled_more

  pub blocks_break : Breaks (one b) mid new → Breaks (flat_map one memory) old new
  blocks_break h =
      let c = breaks_after (flat_map one (take i memory)) (one b) old mid new done h in
      let d : Breaks (flat_map one (take (i + 1) memory)) old new = subst (λ (zs : List ℕ). Breaks zs old new) spelled_more c in
      subst (λ (zs : List ℕ). Breaks zs old new)
      (sym (flat_map-append one (take (i + 1) memory) (drop (i + 1) memory)) ∙ ap (flat_map one) (take-append-drop (i + 1) memory))
      (breaks_within (flat_map one (take (i + 1) memory)) (flat_map one (drop (i + 1) memory)) old new d)

pub image_then : {A E : Type 0} (memory : List Block) (layout : Layout) (count : ℕ) (old mid new : Told) (r : Result A E) →
    layout ≡ layout_for (chunks_of memory) → count ≡ length memory →
    mid ≡ after_write (image_head layout count) old → Puts (flat_map (block_image layout) memory) r after_write mid new →
    Puts (image_of memory) r after_write old new
unfolding image_of
image_then memory layout count old mid new r is len e h =
    subst (λ (l : Layout). Puts (image_as l memory) r after_write old new) is
    (puts_then (image_head layout (length memory)) (flat_map (block_image layout) memory) old mid new r
    (e ∙ ap (λ (n : ℕ). after_write (image_head layout n) old) len) h)
