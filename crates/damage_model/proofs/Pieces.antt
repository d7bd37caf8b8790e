-- The instructions of a field's lines, and the bytes of the field to whose places they write.
use Rattle.std.proofs.Common.{◌≡◌, ℕ, ◌+◌, ◌-◌, ◌*◌, ◌<◌, ◌≤◌, Bool, true, false, List, [], ◌∷◌, ◌++◌, length, Option, Some, None, Ok}
use Rattle.std.proofs.Common.{option_map, if◌then◌else◌, refl, sym, ap, ap₂, ◌∙◌, subst, arith, ◌==◌, nat_le}
use Rattle.std.proofs.Math.Nat.{mul-le-mul_left}
use Rattle.risc_word.specs.declared.Instr.{Instr}
use Rattle.risc_word.specs.Words.{encoded}
use Rattle.fifo_model.specs.declared.Queue.{Queue}
use Rattle.fifo_model.specs.declared.Queue.TheVariants.{One, Two, Three}
use Rattle.page_table.specs.Grants.{Chunk, granted}
use Rattle.pixel_layout.specs.declared.Parity.{Parity}
use Rattle.machine_model.specs.Paths.{demands_of, fetch}
use Rattle.machine_model.specs.Turns.{demand_on}
use Rattle.capture_desc.specs.declared.desc.Desc.{Desc}
use Rattle.picture_model.specs.declared.Piece.{Piece}
use Rattle.picture_model.specs.declared.PieceKind.{PieceKind}
use Rattle.picture_model.specs.declared.PieceKind.TheVariants.{Write, WriteLuma, Skip}
use Rattle.picture_model.specs.Described.{both, chroma_row_of, describes, field_height, layout_of, memory_of, offset, picture_row}
use Rattle.picture_model.specs.Described.{plane_row_bytes, stride}
use Rattle.picture_model.specs.Places.{byte_clipped, place}
use Rattle.picture_model.specs.Plans.{Cut, Follow, Strip, Track, cuts_of, ends_of, grain_bytes, grains_of, kind_of, piece_of, skipped_strip}
use Rattle.picture_model.specs.Plans.{skipped_vbi_strip, vbi_strip}
use Rattle.picture_model.specs.Programs.{instr_by, instr_of}
use Rattle.picture_model.proofs.Grains.{row_grains}
use Rattle.picture_model.proofs.Safe.{cuts_follow}
use Rattle.picture_model.proofs.Sections.{row_below}
use Rattle.picture_model.proofs.Strips.{IsStrip, row-IsStrip, skipped-IsStrip, skipped_vbi-IsStrip, vbi-IsStrip}
use Rattle.field_law.specs.CutLines.{address_in}
use Rattle.field_law.specs.Sections.{Ask, Await, Begin, GoOn, ask, ask_of, asked}
use Rattle.field_law.proofs.CutLines.{address_behind, address_here}
use Rattle.picture_law.specs.Pictures.{FieldByte, of_row, of_vbi, IsKeptAt, has_plane, plane_of}
use Rattle.picture_law.proofs.Body.{field_row_strip, row_starts, skipped_starts}
use Rattle.picture_law.proofs.Cuts.{Starts, cut_address, cut_asks, line_part_of, line_parts_of, moves, piece_asks, track_on}
use Rattle.picture_law.proofs.BytePlaces.{queue_plane, queue_row_goes, row_track_on, skipped_goes, skipped_vbi_goes, vbi_goes}
use Rattle.picture_law.proofs.KeptBytes.{kept_granted, kept_once, unless_clipped}
use Rattle.damage_model.proofs.Held.{IsHeld}
use Rattle.damage_model.proofs.PlacedTakes.{address_on, count_on}

-- ---- what an instruction of a line asks

abbrev ask_count : Ask → ℕ
ask_count (Await code) = 0
ask_count (Begin count address) = count
ask_count (GoOn count address) = count

abbrev ask_address : Ask → Option ℕ
ask_address (Await code) = None
ask_address (Begin count address) = address
ask_address (GoOn count address) = address

count_ask : (sol : Bool) (count : ℕ) (address : Option ℕ) → ask_count (ask sol count address) ≡ count
count_ask true count address = refl
count_ask false count address = refl

address_ask : (sol : Bool) (count : ℕ) (address : Option ℕ) → ask_address (ask sol count address) ≡ address
address_ask true count address = refl
address_ask false count address = refl

asked_piece : (q : Queue) (planar : Bool) (kind : PieceKind) (p : Piece) →
    asked q (instr_by planar kind p) ≡ ask_of (demand_on q (demands_of (instr_by planar kind p) None))
asked_piece q true Write p = refl
asked_piece q true WriteLuma p = refl
asked_piece q true Skip p = refl
asked_piece q false Write p = refl
asked_piece q false WriteLuma p = refl
asked_piece q false Skip p = refl

unmoved_piece : (q : Queue) (planar : Bool) (kind : PieceKind) (p : Piece) → moves planar q ≡ false →
    count_on q (instr_by planar kind p) ≡ 0
unmoved_piece One planar kind p still = cc
unmoved_piece Two true kind p still = cc
unmoved_piece Two false Write p still = refl
unmoved_piece Two false WriteLuma p still = refl
unmoved_piece Two false Skip p still = refl
unmoved_piece Three true kind p still = cc
unmoved_piece Three false Write p still = refl
unmoved_piece Three false WriteLuma p still = refl
unmoved_piece Three false Skip p still = refl

-- ---- bytes in cuts

pub cuts_further : (end at : ℕ) (cuts : List Cut) → Follow end at cuts → at ≤ end
cuts_further end at [] follow = omega arith
cuts_further end at (k ∷ rest) follow = let later = cuts_further end (at + k.n) rest follow.2 in omega arith

cut_within : (end at : ℕ) (before : List Cut) (k : Cut) (after : List Cut) → Follow end at (before ++ k ∷ after) →
    (at ≤ k.at) × (k.at + k.n ≤ end)
cut_within end at [] k after follow =
    let here = follow.0 in
    let later = cuts_further end (at + k.n) after follow.2 in
    (omega arith, omega arith)
cut_within end at (c ∷ before) k after follow =
    let later = cut_within end (at + c.n) before k after follow.2 in
    let low = later.0 in
    (omega arith, later.1)

in_cut : (memory : List Chunk) (t : Track) (end at : ℕ) (before : List Cut) (k : Cut) (after : List Cut) (y : ℕ) →
    Follow end at (before ++ k ∷ after) → y < k.n * t.size →
    address_in (line_parts_of memory t (before ++ k ∷ after)) (k.at * t.size + y - at * t.size)
    ≡ option_map (λ a. a + y) (cut_address memory k.clipped t k.at)
in_cut memory t end at [] k after y follow inside =
    let same : k.at * t.size ≡ at * t.size = ap (λ (n : ℕ). n * t.size) follow.0 in
    let here : k.at * t.size + y - at * t.size ≡ y = omega arith in
    ap (address_in (line_parts_of memory t (k ∷ after))) here
    ∙ address_here (line_part_of memory t k) (line_parts_of memory t after) y inside
in_cut memory t end at (c ∷ before) k after y follow inside =
    let low = (cut_within end (at + c.n) before k after follow.2).0 in
    let product : t.size * (at + c.n) ≤ t.size * k.at = mul-le-mul_left t.size low in
    let split : (at + c.n) * t.size ≡ at * t.size + c.n * t.size = omega arith in
    let behind : k.at * t.size + y - at * t.size - c.n * t.size ≡ k.at * t.size + y - (at + c.n) * t.size = omega arith in
    address_behind (line_part_of memory t c) (line_parts_of memory t (before ++ k ∷ after)) (k.at * t.size + y - at * t.size) (omega arith)
    ∙ ap (address_in (line_parts_of memory t (before ++ k ∷ after))) behind
    ∙ in_cut memory t end (at + c.n) before k after y follow.2 inside

-- a byte lies in one cut
both_cuts : (size end at : ℕ) (before before' : List Cut) (k k' : Cut) (after after' : List Cut) (y y' : ℕ) →
    Follow end at (before ++ k ∷ after) → before ++ k ∷ after ≡ before' ++ k' ∷ after' →
    y < k.n * size → y' < k'.n * size → k.at * size + y ≡ k'.at * size + y' → (before ≡ before') × (k ≡ k')
both_cuts size end at [] [] k k' after after' y y' follow same inside inside' is = (refl, cc)
both_cuts size end at [] (c ∷ before') k k' after after' y y' follow same inside inside' is =
    let first : k ≡ c = cc in
    let rest : after ≡ before' ++ k' ∷ after' = cc in
    let later = (cut_within end (at + k.n) before' k' after' (subst (Follow end (at + k.n)) rest follow.2)).0 in
    let here = follow.0 in
    let product : size * (k.at + k.n) ≤ size * k'.at = mul-le-mul_left size (omega arith) in
    let split : (k.at + k.n) * size ≡ k.at * size + k.n * size = omega arith in
    absurd (omega arith)
both_cuts size end at (c ∷ before) [] k k' after after' y y' follow same inside inside' is =
    let first : c ≡ k' = cc in
    let low = (cut_within end (at + c.n) before k after follow.2).0 in
    let here : k'.at ≡ at = ap (λ (x : Cut). x.at) (sym first) ∙ follow.0 in
    let count : k'.n ≡ c.n = ap (λ (x : Cut). x.n) (sym first) in
    let product : size * (k'.at + k'.n) ≤ size * k.at = mul-le-mul_left size (omega arith) in
    let split : (k'.at + k'.n) * size ≡ k'.at * size + k'.n * size = omega arith in
    absurd (omega arith)
both_cuts size end at (c ∷ before) (c' ∷ before') k k' after after' y y' follow same inside inside' is =
    let first : c ≡ c' = cc in
    let rest : before ++ k ∷ after ≡ before' ++ k' ∷ after' = cc in
    let later = both_cuts size end (at + c.n) before before' k k' after after' y y' follow.2 rest inside inside' is in
    (ap₂ (λ (x : Cut) (xs : List Cut). x ∷ xs) first later.0, later.1)

-- ---- the lines of a field

pub data Kind : Type 0 where
  OfVbi : ℕ → Kind
  OfSkippedVbi : Kind
  OfSkipped : Kind
  OfRow : ℕ → Kind

-- of skipped lines nothing is kept
abbrev pub IsKept : Kind → Type 0
IsKept (OfVbi line) = Unit {0}
IsKept OfSkippedVbi = ⊥
IsKept OfSkipped = ⊥
IsKept (OfRow row) = Unit {0}

pub plane_moves : (planar : Bool) (q : Queue) → moves planar q ≡ true → nat_le (plane_of q) (if planar then 3 else 1) ≡ true
plane_moves true One does = refl
plane_moves true Two does = refl
plane_moves true Three does = refl
plane_moves false One does = refl
plane_moves false Two does = cc
plane_moves false Three does = cc

moved_from : (start : Option ℕ) (s y : ℕ) → start ≡ Some s → option_map (λ a. a + y) start ≡ Some (s + y)
moved_from None s y is = cc
moved_from (Some a) s y is = let same : a ≡ s = cc in ap (λ (b : ℕ). Some (b + y)) same

module _ (d : Desc) (held : IsHeld d) (field : Parity) (described : describes d.fields field ≡ true) where
  abbrev pub strip_of : Kind → Strip
  strip_of (OfVbi line) = vbi_strip d field line
  strip_of OfSkippedVbi = skipped_vbi_strip d
  strip_of OfSkipped = skipped_strip d
  strip_of (OfRow row) = field_row_strip d field row

  abbrev pub IsLineOf : Kind → Type 0
  IsLineOf (OfVbi line) = line < d.vbi_lines
  IsLineOf OfSkippedVbi = Unit {0}
  IsLineOf OfSkipped = Unit {0}
  IsLineOf (OfRow row) = row < field_height d field

  abbrev pub byte_of : Kind → Queue → ℕ → FieldByte
  byte_of (OfVbi line) q x = of_vbi line x
  byte_of OfSkippedVbi q x = of_vbi 0 x
  byte_of OfSkipped q x = of_vbi 0 x
  byte_of (OfRow row) q x = of_row q row x

  abbrev pub cuts_on : Kind → List Cut
  cuts_on kind = cuts_of (memory_of d) (strip_of kind) (strip_of kind).spans

  abbrev pub instr_on : Kind → Cut → Instr
  instr_on kind k = instr_of (strip_of kind).planar (piece_of (memory_of d) (strip_of kind) k)

  pub fit_of : (kind : Kind) → IsLineOf kind → IsStrip (memory_of d) (strip_of kind)
  fit_of (OfVbi line) below = vbi-IsStrip d field line held.right described below
  fit_of OfSkippedVbi below = skipped_vbi-IsStrip d
  fit_of OfSkipped below = skipped-IsStrip d
  fit_of (OfRow row) below = row-IsStrip d (picture_row (both d) field row) held.right (row_below d field row below)

  starts_of : (kind : Kind) →
      Starts (strip_of kind).planar (strip_of kind).kind (strip_of kind).one.start (strip_of kind).two.start (strip_of kind).three.start
  starts_of (OfVbi line) = tt
  starts_of OfSkippedVbi = tt
  starts_of OfSkipped = skipped_starts (layout_of d).planar
  starts_of (OfRow row) =
      row_starts (layout_of d).planar (chroma_row_of d (picture_row (both d) field row))
      (offset d 1 + picture_row (both d) field row * stride d 1)
      (λ kept. offset d 2 + kept * stride d 2) (λ kept. offset d 3 + kept * stride d 3)

  module _ (kind : Kind) (k : Cut) (q : Queue) where
    abbrev pub track_of : Track
    track_of = track_on q (strip_of kind)

    asks_is : moves (strip_of kind).planar q ≡ true →
        ask_of (demand_on q (demands_of (instr_on kind k) None)) ≡ cut_asks (memory_of d) (k.at == 0) k.clipped k.at k.n track_of
    asks_is moved =
        sym (asked_piece q (strip_of kind).planar (kind_of k.clipped (strip_of kind).kind) (piece_of (memory_of d) (strip_of kind) k))
        ∙ piece_asks (memory_of d) (ends_of (strip_of kind) k) k.at k.n (strip_of kind).one.size (strip_of kind).two.size
        (strip_of kind).three.size q (strip_of kind).planar k.clipped (strip_of kind).kind
        (strip_of kind).one.start (strip_of kind).two.start (strip_of kind).three.start (starts_of kind) moved

    pub count_is : moves (strip_of kind).planar q ≡ true → count_on q (instr_on kind k) ≡ k.n * track_of.size
    count_is moved =
        sym (count_ask (demand_on q (demands_of (instr_on kind k) None)).needs_sol (count_on q (instr_on kind k))
        (address_on q (instr_on kind k))) ∙ ap ask_count (asks_is moved) ∙ count_ask _ (k.n * track_of.size) _

    pub address_is : moves (strip_of kind).planar q ≡ true →
        address_on q (instr_on kind k) ≡ cut_address (memory_of d) k.clipped track_of k.at
    address_is moved =
        sym (address_ask (demand_on q (demands_of (instr_on kind k) None)).needs_sol (count_on q (instr_on kind k))
        (address_on q (instr_on kind k))) ∙ ap ask_address (asks_is moved) ∙ address_ask _ (k.n * track_of.size) _

    pub unmoved_none : moves (strip_of kind).planar q ≡ false → count_on q (instr_on kind k) ≡ 0
    unmoved_none still =
        unmoved_piece q (strip_of kind).planar (kind_of k.clipped (strip_of kind).kind) (piece_of (memory_of d) (strip_of kind) k) still

    moved_by : (y : ℕ) → y < count_on q (instr_on kind k) → (does : Bool) → moves (strip_of kind).planar q ≡ does →
        moves (strip_of kind).planar q ≡ true
    moved_by y inside true is = is
    moved_by y inside false is = let none = unmoved_none is in absurd (omega arith)

    -- what it writes, by the bytes of its line
    goes_there : (within : IsLineOf kind) (before after : List Cut) (s y : ℕ) → cuts_on kind ≡ before ++ k ∷ after →
        moves (strip_of kind).planar q ≡ true → address_on q (instr_on kind k) ≡ Some s →
        y < count_on q (instr_on kind k) →
        address_in (line_parts_of (memory_of d) track_of (cuts_on kind)) (k.at * track_of.size + y) ≡ Some (s + y)
    goes_there within before after s y split moved goes inside =
        let follow = subst (Follow (strip_of kind).grains 0) split (cuts_follow (memory_of d) (strip_of kind) (fit_of kind within)) in
        let few : y < k.n * track_of.size = subst (λ (n : ℕ). y < n) (count_is moved) inside in
        let from : k.at * track_of.size + y - 0 * track_of.size ≡ k.at * track_of.size + y = omega arith in
        ap (λ (cuts : List Cut). address_in (line_parts_of (memory_of d) track_of cuts) (k.at * track_of.size + y)) split
        ∙ ap (address_in (line_parts_of (memory_of d) track_of (before ++ k ∷ after))) (sym from)
        ∙ in_cut (memory_of d) track_of (strip_of kind).grains 0 before k after y follow few
        ∙ moved_from (cut_address (memory_of d) k.clipped track_of k.at) s y (sym (address_is moved) ∙ goes)

  -- bytes that go somewhere go to places of the field
  size_of_row : (row : ℕ) (q : Queue) → (track_on q (field_row_strip d field row)).size ≡ grain_bytes (layout_of d) (plane_of q)
  size_of_row row q = ap (λ (t : Track). t.size) (sym (row_track_on d (picture_row (both d) field row) q))

  kept_on : (kind : Kind) (q : Queue) (x address : ℕ) → IsLineOf kind → moves (strip_of kind).planar q ≡ true →
      x < (strip_of kind).grains * (track_on q (strip_of kind)).size →
      address_in (line_parts_of (memory_of d) (track_on q (strip_of kind)) (cuts_on kind)) x ≡ Some address →
      IsKeptAt d field (byte_of kind q x) address
  kept_on (OfVbi line) One x address below moved inside goes =
      let all : x < d.vbi_bytes = omega arith in ((below, all), sym (vbi_goes d held.right field line described below x all) ∙ goes)
  kept_on (OfVbi line) Two x address below moved inside goes = cc
  kept_on (OfVbi line) Three x address below moved inside goes = cc
  kept_on OfSkippedVbi One x address below moved inside goes =
      let nowhere = skipped_vbi_goes d x (cuts_on OfSkippedVbi) in let none : None ≡ Some address = sym nowhere ∙ goes in cc
  kept_on OfSkippedVbi Two x address below moved inside goes = cc
  kept_on OfSkippedVbi Three x address below moved inside goes = cc
  kept_on OfSkipped q x address below moved inside goes =
      let nowhere = skipped_goes d q x (cuts_on OfSkipped) in
      let none : None ≡ Some address = sym nowhere ∙ goes in cc
  kept_on (OfRow row) q x address below moved inside goes =
      let has : has_plane d q ≡ true = plane_moves (layout_of d).planar q moved in
      let number = picture_row (both d) field row in
      let wide : grains_of (layout_of d) d.width * (track_on q (field_row_strip d field row)).size ≡ plane_row_bytes d (plane_of q) =
      ap (λ (n : ℕ). grains_of (layout_of d) d.width * n) (size_of_row row q) ∙ row_grains d (plane_of q) (queue_plane d q has) in
      let all : x < plane_row_bytes d (plane_of q) = omega arith in
      let known =
      unless_clipped (byte_clipped d (plane_of q) number x) (place d (plane_of q) number x) address
      (sym (queue_row_goes d held.right q number x has (row_below d field row below) all) ∙ goes) in
      ((has, below, all, known.0), known.1)

  -- ---- where an instruction is

  module _ (begin_of : Kind → ℕ) (words_before : Kind → List Cut → ℕ) where
    abbrev pub IsPlace : Kind → ℕ → List Cut → Type 0
    IsPlace OfSkippedVbi a before = Unit {0}
    IsPlace OfSkipped a before = Unit {0}
    IsPlace (OfVbi line) a before = a ≡ begin_of (OfVbi line) + words_before (OfVbi line) before
    IsPlace (OfRow row) a before = a ≡ begin_of (OfRow row) + words_before (OfRow row) before

    pub record PieceAt (a : ℕ) (i : Instr) : Type 0 where
      pub kind : Kind
      pub within : IsLineOf kind
      pub before : List Cut
      pub k : Cut
      pub after : List Cut
      pub split : cuts_on kind ≡ before ++ k ∷ after
      pub is : i ≡ instr_on kind k
      pub read : fetch held.program a ≡ Ok (i, length (encoded i))
      pub there : IsPlace kind a before

    -- the byte to whose place it writes
    pub record Written (a : ℕ) (i : Instr) (q : Queue) (s y : ℕ) (p : PieceAt a i) : Type 0 where
      pub moved : moves (strip_of p.kind).planar q ≡ true
      pub inside : y < p.k.n * (track_on q (strip_of p.kind)).size
      pub goes : address_in (line_parts_of (memory_of d) (track_on q (strip_of p.kind)) (cuts_on p.kind))
          (p.k.at * (track_on q (strip_of p.kind)).size + y) ≡ Some (s + y)
      pub kept : IsKeptAt d field (byte_of p.kind q (p.k.at * (track_on q (strip_of p.kind)).size + y)) (s + y)

    pub written : (a : ℕ) (i : Instr) (q : Queue) (s y : ℕ) (p : PieceAt a i) → address_on q i ≡ Some s → y < count_on q i →
        Written a i q s y p
    written a i q s y p goes inside =
        let goes_piece : address_on q (instr_on p.kind p.k) ≡ Some s = ap (address_on q) (sym p.is) ∙ goes in
        let inside_piece : y < count_on q (instr_on p.kind p.k) = subst (λ (x : Instr). y < count_on q x) p.is inside in
        let moved = moved_by p.kind p.k q y inside_piece (moves (strip_of p.kind).planar q) refl in
        let t = track_on q (strip_of p.kind) in
        let few : y < p.k.n * t.size = subst (λ (n : ℕ). y < n) (count_is p.kind p.k q moved) inside_piece in
        let follow =
        subst (Follow (strip_of p.kind).grains 0) p.split (cuts_follow (memory_of d) (strip_of p.kind) (fit_of p.kind p.within)) in
        let ends = (cut_within (strip_of p.kind).grains 0 p.before p.k p.after follow).1 in
        let product : t.size * (p.k.at + p.k.n) ≤ t.size * (strip_of p.kind).grains = mul-le-mul_left t.size ends in
        let parts : (p.k.at + p.k.n) * t.size ≡ p.k.at * t.size + p.k.n * t.size = omega arith in
        let there = goes_there p.kind p.k q p.within p.before p.after s y p.split moved goes_piece inside_piece in
        record {
          moved = moved;
          inside = few;
          goes = there;
          kept = kept_on p.kind q (p.k.at * t.size + y) (s + y) p.within moved (omega arith) there;
        }

    -- ---- no two write to one address

    same_line : (one two : Kind) (p q : Queue) (x y : ℕ) → IsKept one → IsKept two → moves (strip_of one).planar p ≡ true →
        moves (strip_of two).planar q ≡ true →
        byte_of one p x ≡ byte_of two q y → (one ≡ two) × (p ≡ q) × (x ≡ y)
    same_line OfSkipped two p q x y some other moved moved' same = absurd some
    same_line OfSkippedVbi two p q x y some other moved moved' same = absurd some
    same_line (OfVbi line) OfSkipped p q x y some other moved moved' same = absurd other
    same_line (OfVbi line) OfSkippedVbi p q x y some other moved moved' same = absurd other
    same_line (OfRow row) OfSkipped p q x y some other moved moved' same = absurd other
    same_line (OfRow row) OfSkippedVbi p q x y some other moved moved' same = absurd other
    same_line (OfVbi line) (OfRow row) p q x y some other moved moved' same = cc
    same_line (OfRow row) (OfVbi line) p q x y some other moved moved' same = cc
    same_line (OfRow row) (OfRow row') p q x y some other moved moved' same = let number : row ≡ row' = cc in (ap OfRow number, cc, cc)
    same_line (OfVbi line) (OfVbi line') p q x y some other moved moved' same =
        let number : line ≡ line' = cc in (ap OfVbi number, packed p q moved moved', cc)
      where
        packed : (p q : Queue) → moves false p ≡ true → moves false q ≡ true → p ≡ q
        packed One One moved moved' = refl
        packed One Two moved moved' = cc
        packed One Three moved moved' = cc
        packed Two q moved moved' = cc
        packed Three q moved moved' = cc

    never_skipped : (kind : Kind) (q : Queue) (x address : ℕ) → moves (strip_of kind).planar q ≡ true →
        address_in (line_parts_of (memory_of d) (track_on q (strip_of kind)) (cuts_on kind)) x ≡ Some address → IsKept kind
    never_skipped (OfVbi line) q x address moved goes = tt
    never_skipped (OfRow row) q x address moved goes = tt
    never_skipped OfSkipped q x address moved goes =
        let nowhere = skipped_goes d q x (cuts_on OfSkipped) in
        let none : None ≡ Some address = sym nowhere ∙ goes in cc
    never_skipped OfSkippedVbi One x address moved goes =
        let nowhere = skipped_vbi_goes d x (cuts_on OfSkippedVbi) in let none : None ≡ Some address = sym nowhere ∙ goes in cc
    never_skipped OfSkippedVbi Two x address moved goes = cc
    never_skipped OfSkippedVbi Three x address moved goes = cc

    same_place : (kind : Kind) (a b : ℕ) (before before' : List Cut) → IsKept kind → before ≡ before' → IsPlace kind a before →
        IsPlace kind b before' → a ≡ b
    same_place OfSkipped a b before before' some same one two = absurd some
    same_place OfSkippedVbi a b before before' some same one two = absurd some
    same_place (OfVbi line) a b before before' some same one two =
        one ∙ ap (λ (cuts : List Cut). begin_of (OfVbi line) + words_before (OfVbi line) cuts) same ∙ sym two
    same_place (OfRow row) a b before before' some same one two =
        one ∙ ap (λ (cuts : List Cut). begin_of (OfRow row) + words_before (OfRow row) cuts) same ∙ sym two

    same_piece : (kind : Kind) (a b : ℕ) (p q : Queue) (before before' after after' : List Cut) (k k' : Cut) (x y : ℕ) → IsLineOf kind →
        IsKept kind → p ≡ q →
        cuts_on kind ≡ before ++ k ∷ after → cuts_on kind ≡ before' ++ k' ∷ after' → IsPlace kind a before → IsPlace kind b before' →
        x < k.n * (track_on p (strip_of kind)).size → y < k'.n * (track_on q (strip_of kind)).size →
        k.at * (track_on p (strip_of kind)).size + x ≡ k'.at * (track_on q (strip_of kind)).size + y → (a ≡ b) × (p ≡ q) × (x ≡ y)
    same_piece kind a b p q before before' after after' k k' x y within some queue split split' there there' inside inside' same =
        let size = (track_on p (strip_of kind)).size in
        let sizes : (track_on q (strip_of kind)).size ≡ size = ap (λ (r : Queue). (track_on r (strip_of kind)).size) (sym queue) in
        let inside_y : y < k'.n * size = subst (λ (n : ℕ). y < k'.n * n) sizes inside' in
        let same_x : k.at * size + x ≡ k'.at * size + y = same ∙ ap (λ (n : ℕ). k'.at * n + y) sizes in
        let both = both_cuts size (strip_of kind).grains 0 before before' k k' after after' x y
        (subst (Follow (strip_of kind).grains 0) split (cuts_follow (memory_of d) (strip_of kind) (fit_of kind within)))
        (sym split ∙ split') inside inside_y same_x in
        let at : k.at * size ≡ k'.at * size = ap (λ (c : Cut). c.at * size) both.1 in
        (same_place kind a b before before' some both.0 there there', queue, omega arith)

    pub pieces_apart : (a b : ℕ) (i j : Instr) (p q : Queue) (s t x y : ℕ) → PieceAt a i → PieceAt b j → address_on p i ≡ Some s →
        address_on q j ≡ Some t → x < count_on p i → y < count_on q j →
        s + x ≡ t + y → (a ≡ b) × (p ≡ q) × (x ≡ y)
    pieces_apart a b i j p q s t x y one two goes goes' inside inside' same =
        let w = written a i p s x one goes inside in
        let v = written b j q t y two goes' inside' in
        let size = (track_on p (strip_of one.kind)).size in
        let size' = (track_on q (strip_of two.kind)).size in
        let some = never_skipped one.kind p (one.k.at * size + x) (s + x) w.moved w.goes in
        let other = never_skipped two.kind q (two.k.at * size' + y) (t + y) v.moved v.goes in
        let once =
        kept_once d held.right field described (byte_of one.kind p (one.k.at * size + x)) (byte_of two.kind q (two.k.at * size' + y))
        (s + x) w.kept
        (subst (λ (n : ℕ). IsKeptAt d field (byte_of two.kind q (two.k.at * size' + y)) n) (sym same) v.kept) in
        let line = same_line one.kind two.kind p q (one.k.at * size + x) (two.k.at * size' + y) some other w.moved v.moved once in
        let back = sym line.0 in
        let sizes : (track_on q (strip_of one.kind)).size ≡ size' = ap (λ (kind : Kind). (track_on q (strip_of kind)).size) line.0 in
        same_piece one.kind a b p q one.before two.before one.after two.after one.k two.k x y one.within some line.1 one.split
        (subst (λ (kind : Kind). cuts_on kind ≡ two.before ++ two.k ∷ two.after) back two.split) one.there
        (subst (λ (kind : Kind). IsPlace kind b two.before) back two.there)
        w.inside (subst (λ (kind : Kind). y < two.k.n * (track_on q (strip_of kind)).size) back v.inside)
        (line.2 ∙ ap (λ (n : ℕ). two.k.at * n + y) (sym sizes))

    -- each writes to granted memory
    pub pieces_granted : (a : ℕ) (i : Instr) (p : Queue) (s x : ℕ) → PieceAt a i → address_on p i ≡ Some s → x < count_on p i →
        granted held.program.grants (s + x) ≡ true
    pieces_granted a i p s x one goes inside =
        let w = written a i p s x one goes inside in
        held.covers (s + x)
        (kept_granted d held.right field described (byte_of one.kind p (one.k.at * (track_on p (strip_of one.kind)).size + x)) (s + x)
        w.kept)
