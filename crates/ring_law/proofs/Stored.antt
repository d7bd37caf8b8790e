-- Memory after the stores of block ends.
use Rattle.std.proofs.Common.{All, Bool, List, Option, Some, [], append_assoc, arith, drop, eq-eqb, false, length, length-append}
use Rattle.std.proofs.Common.{length-drop, length-take, ne_eqb, refl, slice_index_or, suc, sym}
use Rattle.std.proofs.Common.{take, true, zero, ℕ, ◌%◌, ◌*◌, ◌++◌, ◌+◌, ◌-◌, ◌/◌, ◌<◌, ◌==◌, ◌∙◌, ◌∷◌, ◌≡◌, ◌≤◌, ap, slice_index}
use Rattle.std.proofs.Common.{append-nil, ⊎_elim, drop-drop}
use Rattle.std.proofs.lemmas.List.Elements.{All-drop, All-head, All-tail, All-take}
use Rattle.std.proofs.lemmas.Bool.{cases_eq, cases_lt, cond-false, cond-true, or_from}
use Rattle.std.proofs.lemmas.Nat.{div-add-mod', mod-mul-add, mul-le}
use Rattle.std.proofs.Math.Nat.{div-lt_iff_lt-mul, mod-lt, mul_assoc}
use Rattle.std.specs.List.{flat_map}
use Rattle.page_table.proofs.Scattered.{AreDisjoint-from_first_shared, address_at-add, address_at-injective, granted-offset}
use Rattle.page_table.specs.Blocks.{Block, chunks_of, byte_at}
use Rattle.picture_model.specs.Plans.{Cut, IsSafeCut, Strip, Writes, address_of, cuts_of}
use Rattle.field_law.specs.CutLines.{EachByte, address_in, lines_stores}
use Rattle.ring_model.proofs.Writes.{IsPlainCut, line_plain}
use Rattle.ring_model.specs.Rings.{IsRing, Ring, bytes_of, line_strip, memory_of, ring_program}
use Rattle.picture_law.proofs.Cuts.{LiesIn, lies_in, line_parts_of, track_on, unclipped_goes}
use Rattle.fifo_model.specs.declared.Queue.TheVariants.{One}
use Rattle.machine_model.specs.Turns.{Store, stored_all}
use Rattle.ring_model.proofs.Lines.{aligned, line-IsStrip, line_end}
use Rattle.picture_law.proofs.Lines.{all_stores, cut_line, stored_there}
use Rattle.ring_law.proofs.Asks.{block_carries, block_lines_cut, block_stores, ring_stores, strip_of, AreLong}
use Rattle.field_law.proofs.Painting.{byte_at-unstored}
use Rattle.machine_model.proofs.Memory.{chunks-stored_all}
use Rattle.picture_model.proofs.Safe.{cuts_follow, cuts_safe}
use Rattle.picture_model.proofs.Each.{each_both}
use Rattle.page_table.specs.Grants.{granted}
use Rattle.field_law.specs.Sections.{is_stored}
use Rattle.machine_model.proofs.Stored.{stored_all-append}
use Rattle.std.proofs.lemmas.List.Concat.{get_or-flat_map}
use Rattle.picture_model.proofs.Places.{granted-in_order}
use Rattle.page_table.specs.Scattered.{address_at}
use Rattle.picture_law.proofs.Painted.{last_at}
use Rattle.ring_law.specs.RingRuns.{IsOutside, block_address, brought, byte_of, held}
use Rattle.ring_law.proofs.Rounds.{some_blocks}

-- ---- offsets

-- a byte of a block by its number and offset
pub one_offset : (size block other x y : ℕ) → x < size → y < size → block * size + x ≡ other * size + y → (block ≡ other) × (x ≡ y)
one_offset size block other x y inside inside' same =
    let x_same : x ≡ y = sym (mod-mul-add block size x inside) ∙ ap (λ (n : ℕ). n % size) same ∙ mod-mul-add other size y inside' in
    ⊎_elim
    (λ less.
    let step = mul-le (block + 1) size other size (omega arith) (omega arith) in
    let end = line_end block size in
    absurd (omega arith))
    (λ not_less.
    ⊎_elim
    (λ more.
    let step = mul-le (other + 1) size block size (omega arith) (omega arith) in
    let end = line_end other size in
    absurd (omega arith))
    (λ not_more. (omega arith, x_same))
    (cases_lt other block))
    (cases_lt block other)

pub below_end : (size count block x : ℕ) → block < count → x < size → block * size + x < count * size
below_end size count block x below inside =
    let step = mul-le (block + 1) size count size (omega arith) (omega arith) in
    let end = line_end block size in
    omega arith

line_offset : (block lines bytes line x : ℕ) → (block * lines + line) * bytes + x ≡ block * (lines * bytes) + (line * bytes + x)
line_offset block lines bytes line x = grind arith

-- ---- lines of the same length one after another

lines_long : (bytes : ℕ) (lines : List (List ℕ)) → All (λ line. length line ≡ bytes) lines →
    length (flat_map (λ line. line) lines) ≡ length lines * bytes
lines_long bytes [] long = omega arith
lines_long bytes (line ∷ lines) long =
    let first = All-head (λ line. length line ≡ bytes) line lines long in
    let rest = lines_long bytes lines (All-tail (λ line. length line ≡ bytes) line lines long) in
    let all = length-append line (flat_map (λ line. line) lines) in
    let product = line_end (length lines) bytes in
    let count : (length lines + 1) * bytes ≡ suc (length lines) * bytes =
    ap (λ (n : ℕ). n * bytes) (let next : length lines + 1 ≡ suc (length lines) = omega arith in next) in
    omega arith

byte_in_line : (bytes : ℕ) (lines : List (List ℕ)) (line x : ℕ) → All (λ line. length line ≡ bytes) lines →
    line < length lines → x < bytes →
    slice_index (flat_map (λ line. line) lines) (line * bytes + x) ≡ slice_index (slice_index_or lines line []) x
byte_in_line bytes lines line x long within inside =
    let front = lines_long bytes (take line lines) (All-take (λ line. length line ≡ bytes) line lines long) in
    let count : length (take line lines) ≡ line = omega (arith, length-take line lines) in
    let here : length (flat_map (λ line. line) (take line lines)) ≡ line * bytes = front ∙ ap (λ (n : ℕ). n * bytes) count in
    let this_long : length (slice_index_or lines line []) ≡ bytes = long line [] within in
    ap (λ (n : ℕ). slice_index (flat_map (λ line. line) lines) (n + x)) (sym here)
    ∙ get_or-flat_map (λ line. line) lines line x [] 0 within (omega arith)

-- ---- stores to no address

unstored : (P : Store → Type 0) (address : ℕ) (stores : List Store) → All P stores →
    ((store : Store) → P store → (store.address ≡ address → ⊥)) → is_stored address stores ≡ false
unstored P address [] all other = refl
unstored P address (store ∷ stores) all other =
    or_from (store.address == address) (is_stored address stores) (ne_eqb store.address address (other store (All-head P store stores all)))
    (unstored P address stores (All-tail P store stores all) other)

module _ (r : Ring) (is : IsRing r) where
  abbrev size : ℕ
  size = r.lines * r.line_bytes

  offset_within : (block x : ℕ) → block < r.blocks → x < size → block * size + x < bytes_of r
  offset_within block x below inside =
      let whole = mul_assoc r.blocks r.lines r.line_bytes in
      let here = below_end size r.blocks block x below inside in
      omega arith

  pub one_address : (block other x y : ℕ) → block < r.blocks → other < r.blocks → x < size → y < size →
      block_address r block x ≡ block_address r other y → (block ≡ other) × (x ≡ y)
  one_address block other x y below below' inside inside' same =
      let room = is.enough in
      let one = offset_within block x below inside in
      let two = offset_within other y below' inside' in
      one_offset size block other x y inside inside'
      (address_at-injective (memory_of r) (block * size + x) (other * size + y) (AreDisjoint-from_first_shared (memory_of r) is.pages.apart)
      (omega arith) (omega arith) same)

  pub address_granted : (block x : ℕ) → block < r.blocks → x < size → granted (ring_program r).grants (block_address r block x) ≡ true
  address_granted block x below inside =
      let room = is.enough in
      let one = offset_within block x below inside in
      granted-in_order (memory_of r) (block_address r block x) ∙ granted-offset (memory_of r) (block * size + x) (omega arith)

  -- ---- where the bytes of a line go

  module _ (number : ℕ) (below : number < r.blocks * r.lines) where
    abbrev strip : Strip
    strip = line_strip r number

    abbrev begin : ℕ
    begin = number * r.line_bytes

    abbrev cuts : List Cut
    cuts = cuts_of (memory_of r) strip strip.spans

    abbrev IsGood : Cut → Type 0
    IsGood k = IsPlainCut k × IsSafeCut (memory_of r) strip k

    cut_goes : (clipped : Bool) (at n j : ℕ) → clipped ≡ false → Writes (memory_of r) clipped 1 (Some begin) at n → j < n →
        address_at (memory_of r) (begin + at * 1 + j) ≡ address_of (memory_of r) clipped 1 (Some begin) at + j
    cut_goes true at n j plain writes inside = cc
    cut_goes false at n j plain writes inside = let room = writes.room in address_at-add (memory_of r) (begin + at * 1) j (omega arith)

    goes_by : (x : ℕ) (to : Option ℕ) → LiesIn (memory_of r) strip.one IsGood x to → to ≡ Some (address_at (memory_of r) (begin + x))
    goes_by x to lies =
        let k = lies.k in
        let low = lies.low in
        let high = lies.high in
        let there : begin + k.at * 1 + (x - k.at * 1) ≡ begin + x = omega arith in
        lies.there
        ∙ unclipped_goes (memory_of r) k.clipped 1 begin k.at (x - k.at * 1) (address_at (memory_of r) (begin + x)) lies.holds.0
        (ap (address_at (memory_of r)) (sym there)
        ∙ cut_goes k.clipped k.at k.n (x - k.at * 1) lies.holds.0 lies.holds.1.one.written (omega arith))

    pub line_goes : (x : ℕ) → x < r.line_bytes →
        address_in (line_parts_of (memory_of r) (track_on One strip) cuts) x ≡ Some (address_at (memory_of r) (begin + x))
    line_goes x inside =
        goes_by x _
        (lies_in (memory_of r) strip.one IsGood r.line_bytes x cuts
        (each_both IsPlainCut (IsSafeCut (memory_of r) strip) cuts (line_plain r number)
        (cuts_safe (memory_of r) strip (aligned r is) (line-IsStrip r number is below)))
        (cuts_follow (memory_of r) strip (line-IsStrip r number is below)) (omega arith))

  -- ---- the stores of a block

  -- a store of a byte of a block
  pub record IsOfBlock (block : ℕ) (bytes : List ℕ) (store : Store) : Type 0 where
    pub x : ℕ
    pub inside : x < size
    pub there : store.address ≡ block_address r block x
    pub byte : store.byte ≡ slice_index bytes x

  module _ (block : ℕ) (below : block < r.blocks) (lines : List (List ℕ)) (many : length lines ≡ r.lines) (long : AreLong r lines) where
    abbrev bytes : List ℕ
    bytes = flat_map (λ line. line) lines

    abbrev stores : List Store
    stores = lines_stores (block_lines_cut r block lines)

    line_below : (line : ℕ) → line < r.lines → block * r.lines + line < r.blocks * r.lines
    line_below line within = below_end r.lines r.blocks block line below within

    address_of_line : (line x : ℕ) →
        address_at (memory_of r) ((block * r.lines + line) * r.line_bytes + x) ≡ block_address r block (line * r.line_bytes + x)
    address_of_line line x = ap (address_at (memory_of r)) (line_offset block r.lines r.line_bytes line x)

    each_of_block : (line : ℕ) → line < length lines →
        EachByte (IsOfBlock block bytes) (cut_line (memory_of r) One (strip_of r block line) (slice_index_or lines line []))
    each_of_block line within x address inside goes =
        let this_long : length (slice_index_or lines line []) ≡ r.line_bytes = long line [] within in
        let there = line_goes (block * r.lines + line) (line_below line (omega arith)) x (omega arith) in
        let same : Some address ≡ Some (address_at (memory_of r) ((block * r.lines + line) * r.line_bytes + x)) = sym goes ∙ there in
        let at : address ≡ address_at (memory_of r) ((block * r.lines + line) * r.line_bytes + x) = cc in
        record {
          x = line * r.line_bytes + x;
          inside = below_end r.line_bytes r.lines line x (omega arith) (omega arith);
          there = at ∙ address_of_line line x;
          byte = sym (byte_in_line r.line_bytes lines line x long within (omega arith));
        }

    pub all_of_block : All (IsOfBlock block bytes) stores
    all_of_block =
        all_stores (memory_of r) One (strip_of r block) (IsOfBlock block bytes) lines
        (block_carries r is block below lines many long) each_of_block

    pub stored_of_block : (x : ℕ) → x < size → is_stored (block_address r block x) stores ≡ true
    stored_of_block x inside =
        let some = is.line_bytes.0 in
        let wide : 0 < r.line_bytes = omega arith in
        let line = x / r.line_bytes in
        let rest = x % r.line_bytes in
        let split : line * r.line_bytes + rest ≡ x = div-add-mod' x r.line_bytes in
        let rest_inside : rest < r.line_bytes = mod-lt x (omega arith) in
        let within : line < r.lines = (div-lt_iff_lt-mul wide).1 inside in
        let this_long : length (slice_index_or lines line []) ≡ r.line_bytes = long line [] (omega arith) in
        ap (λ (at : ℕ). is_stored (block_address r block at) stores) (sym split)
        ∙ stored_there (memory_of r) One (strip_of r block) lines line rest (block_address r block (line * r.line_bytes + rest))
        (block_carries r is block below lines many long) (omega arith) (omega arith)
        (line_goes (block * r.lines + line) (line_below line within) rest rest_inside ∙ ap Some (address_of_line line rest))

    module _ (memory : List Block) (chunks : chunks_of memory ≡ (ring_program r).grants) where
      store_granted : (store : Store) → IsOfBlock block bytes store → granted (ring_program r).grants store.address ≡ true
      store_granted store of = ap (granted (ring_program r).grants) of.there ∙ address_granted block of.x below of.inside

      pub block_holds : (x : ℕ) → x < size → byte_at (stored_all memory stores) (block_address r block x) ≡ slice_index bytes x
      block_holds x inside =
          let last =
          last_at (IsOfBlock block bytes) (ring_program r).grants memory stores (block_address r block x) chunks
          (λ k other within. store_granted (slice_index_or stores k other) (all_of_block k other within)) all_of_block
          (stored_of_block x inside) in
          let of = last.holds in
          let same = one_address block block x of.x below below inside of.inside (sym last.there ∙ of.there) in
          last.byte ∙ of.byte ∙ ap (slice_index bytes) (sym same.1)

      pub others_hold : (address : ℕ) → ((x : ℕ) → x < size → (address ≡ block_address r block x → ⊥)) →
          byte_at (stored_all memory stores) address ≡ byte_at memory address
      others_hold address other =
          byte_at-unstored memory stores address
          (unstored (IsOfBlock block bytes) address stores all_of_block (λ store of same. other of.x of.inside (sym same ∙ of.there)))

  -- ---- the stores of block ends

  stores_more : (number count : ℕ) (lines : List (List ℕ)) → ring_stores r number (suc count) lines
      ≡ ring_stores r number count lines ++ block_stores r (number + count) (take r.lines (drop (count * r.lines) lines))
  stores_more number zero lines =
      let none : number + 0 ≡ number = omega arith in
      let no_lines : 0 * r.lines ≡ 0 = omega arith in
      append-nil (block_stores r number (take r.lines lines)) ∙ ap (λ (n : ℕ). block_stores r n (take r.lines lines)) (sym none)
      ∙ ap (λ (n : ℕ). block_stores r (number + 0) (take r.lines (drop n lines))) (sym no_lines)
  stores_more number (suc count) lines =
      let next : suc number + count ≡ number + suc count = omega arith in
      let first = block_stores r number (take r.lines lines) in
      let past : count * r.lines + r.lines ≡ suc count * r.lines = omega (arith, line_end count r.lines) in
      let behind : drop (count * r.lines) (drop r.lines lines) ≡ drop (suc count * r.lines) lines =
      drop-drop (count * r.lines) r.lines lines
      ∙ ap (λ (n : ℕ). drop n lines) (let turned : r.lines + count * r.lines ≡ suc count * r.lines = omega arith in turned) in
      ap (λ (rest : List Store). first ++ rest) (stores_more (suc number) count (drop r.lines lines))
      ∙ sym (append_assoc first (ring_stores r (suc number) count (drop r.lines lines))
      (block_stores r (suc number + count) (take r.lines (drop (count * r.lines) (drop r.lines lines)))))
      ∙ ap (λ (n : ℕ). (first ++ ring_stores r (suc number) count (drop r.lines lines))
      ++ block_stores r n (take r.lines (drop (count * r.lines) (drop r.lines lines)))) next
      ∙ ap (λ (rest : List (List ℕ)).
      (first ++ ring_stores r (suc number) count (drop r.lines lines)) ++ block_stores r (number + suc count) (take r.lines rest)) behind

  module _ (memory : List Block) (chunks : chunks_of memory ≡ (ring_program r).grants) (lines : List (List ℕ))
      (long : AreLong r lines) where
    abbrev after : ℕ → List Block
    after count = stored_all memory (ring_stores r 0 count lines)

    abbrev lines_at : ℕ → List (List ℕ)
    lines_at number = take r.lines (drop (number * r.lines) lines)

    after_more : (count : ℕ) →
        after (suc count) ≡ stored_all (after count) (lines_stores (block_lines_cut r (count % r.blocks) (lines_at count)))
    after_more count =
        let from : 0 + count ≡ count = omega arith in
        ap (stored_all memory) (stores_more 0 count lines)
        ∙ stored_all-append memory (ring_stores r 0 count lines) (block_stores r (0 + count) (lines_at count))
        ∙ ap (λ (n : ℕ). stored_all (after count) (block_stores r n (lines_at count))) from

    after_chunks : (count : ℕ) → chunks_of (after count) ≡ (ring_program r).grants
    after_chunks count = chunks-stored_all memory (ring_stores r 0 count lines) ∙ chunks

    at_many : (number count : ℕ) → suc number ≤ count → count * r.lines ≤ length lines → length (lines_at number) ≡ r.lines
    at_many number count below enough =
        let step = mul-le (number + 1) r.lines count r.lines (omega arith) (omega arith) in
        let end = line_end number r.lines in
        omega (arith, length-take r.lines (drop (number * r.lines) lines), length-drop (number * r.lines) lines)

    at_long : (number : ℕ) → AreLong r (lines_at number)
    at_long number =
        All-take (λ line. length line ≡ r.line_bytes) r.lines (drop (number * r.lines) lines)
        (All-drop (λ line. length line ≡ r.line_bytes) (number * r.lines) lines long)

    pub blocks_hold : (count block x : ℕ) → count * r.lines ≤ length lines → block < r.blocks → x < size →
        byte_at (after count) (block_address r block x) ≡ byte_of (held r lines block count) x (byte_at memory (block_address r block x))
    blocks_hold zero block x enough below inside = refl
    blocks_hold (suc count) block x enough below inside =
        let step = mul-le count r.lines (suc count) r.lines (omega arith) (omega arith) in
        let here = count % r.blocks in
        let here_below : here < r.blocks = mod-lt count (some_blocks r is) in
        let many = at_many count (suc count) (omega arith) enough in
        let address = block_address r block x in
        ap (λ (now : List Block). byte_at now address) (after_more count)
        ∙ ⊎_elim
        (λ same.
        ap (λ (b : ℕ). byte_at (stored_all (after count) (lines_stores (block_lines_cut r here (lines_at count)))) (block_address r b x))
        (sym same)
        ∙ block_holds here here_below (lines_at count) many (at_long count) (after count) (after_chunks count) x inside
        ∙ ap (λ (bytes : Option (List ℕ)). byte_of bytes x (byte_at memory address))
        (sym (cond-true (here == block) (Some (brought r lines count)) (held r lines block count) (eq-eqb here block same))))
        (λ other.
        others_hold here here_below (lines_at count) many (at_long count) (after count) (after_chunks count) address
        (λ y within e. other (sym (one_address block here x y below here_below inside within e).0))
        ∙ blocks_hold count block x (omega arith) below inside
        ∙ ap (λ (bytes : Option (List ℕ)). byte_of bytes x (byte_at memory address))
        (sym (cond-false (here == block) (Some (brought r lines count)) (held r lines block count) (ne_eqb here block other))))
        (cases_eq here block)

    pub rest_holds : (count address : ℕ) → count * r.lines ≤ length lines → IsOutside r address →
        byte_at (after count) address ≡ byte_at memory address
    rest_holds zero address enough outside = refl
    rest_holds (suc count) address enough outside =
        let step = mul-le count r.lines (suc count) r.lines (omega arith) (omega arith) in
        let here = count % r.blocks in
        let here_below : here < r.blocks = mod-lt count (some_blocks r is) in
        ap (λ (now : List Block). byte_at now address) (after_more count)
        ∙ others_hold here here_below (lines_at count) (at_many count (suc count) (omega arith) enough) (at_long count) (after count)
        (after_chunks count) address
        (λ y within e. outside (here * size + y) (offset_within here y here_below within) e)
        ∙ rest_holds count address (omega arith) outside
