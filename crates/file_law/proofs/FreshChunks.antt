-- Where there is room, the beginning of a program file goes on to the end of a good file.
use Rattle.std.proofs.Common.{◌≡◌, ℕ, zero, suc, ◌+◌, ◌-◌, ◌*◌, ◌/◌, ◌%◌, ◌^◌, max, min, ◌<◌, ◌≤◌, Bool, true, false, cond, ◌&&◌, ◌||◌}
use Rattle.std.proofs.Common.{List, [], ◌∷◌, ◌++◌, length, refl, sym, ap, ◌∙◌, arith, append_assoc, length-append}
use Rattle.std.specs.Prelude.{nat_le, ◌==◌}
use Rattle.std.specs.List.{All, flat_map, list_all, list_any}
use Rattle.std.proofs.lemmas.Bool.{le-ltb, leb-true, leb-false}
use Rattle.std.proofs.lemmas.Grind.{flat_map-append}
use Rattle.std.proofs.lemmas.List.Elements.{All-append, All-cons, All-nil}
use Rattle.std.proofs.lemmas.List.Folds.{list_all-append}
use Rattle.std.proofs.lemmas.List.Sums.{sum_by-append}
use Rattle.byteorder.specs.Endian.{little_bytes}
use Rattle.page_table.specs.Grants.{AreRising, Chunk, chunk, is_met, is_page, total}
use Rattle.page_table.proofs.Placing.{total-cons}
use Rattle.machine_model.specs.Paths.{begins_at, AreApart, IsProgram, RiscProgram, Span, all_words, end_of, shares_byte}
use Rattle.machine_model.proofs.OneSpan.{shares_byte-one_span}
use Rattle.capture_file.specs.declared.program.Layout.{Layout}
use Rattle.capture_file.specs.declared.program.Layout.TheVariants.{Paged, Chunked}
use Rattle.capture_file.specs.declared.program.ProgramForm.{ProgramForm}
use Rattle.capture_file.specs.declared.program.ProgramForm.TheVariants.{Based, Spanned}
use Rattle.capture_file.specs.Programs.{chunk_in, form_for, layout_for, layout_of, name_of, placed_spelled, spelled, spelled_as}
use Rattle.capture_file.specs.Programs.{with_grants}
use Rattle.capture_file.proofs.Spelled.{alone_is_one}
use Rattle.file_law.specs.ProgramBeginnings.{BeginsFile}
use Rattle.file_law.specs.ProgramRoom.{HasRoom, StandIn, beginning, chunks_end, least_length, spans_end}

-- ---- chunks one behind the other

abbrev fresh : ℕ → ℕ → ℕ → List Chunk
fresh len at zero = []
fresh len at (suc count) = chunk at len ∷ fresh len (at + len) count

fresh-length : (len at count : ℕ) → length (fresh len at count) ≡ count
fresh-length len at zero = refl
fresh-length len at (suc count) = ap suc (fresh-length len (at + len) count)

page_total : (at count : ℕ) → total (fresh 4096 at count) ≡ 4096 * count
page_total at zero = refl
page_total at (suc count) = omega (arith, total-cons (chunk at 4096) (fresh 4096 (at + 4096) count), page_total (at + 4096) count)

word_total : (at count : ℕ) → total (fresh 4 at count) ≡ 4 * count
word_total at zero = refl
word_total at (suc count) = omega (arith, total-cons (chunk at 4) (fresh 4 (at + 4) count), word_total (at + 4) count)

fresh_total : (layout : Layout) (at count : ℕ) → total (fresh (least_length layout) at count) ≡ least_length layout * count
fresh_total Paged at count = page_total at count
fresh_total Chunked at count = word_total at count

fresh_rising : (len from at count : ℕ) → 4 ≤ len → len % 4 ≡ 0 → at % 4 ≡ 0 → from ≤ at → at + total (fresh len at count) ≤ 2 ^ 32 →
    AreRising from (fresh len at count)
fresh_rising len from at zero some even aligned above ends = tt
fresh_rising len from at (suc count) some even aligned above ends =
    let sum = total-cons (chunk at len) (fresh len (at + len) count) in (
      above,
      record { at_aligned = aligned; len_aligned = even; some = some; ends = omega (arith, sum) },
      fresh_rising len (at + len) (at + len) count some even (omega arith) (omega arith) (omega (arith, sum)),
    )

-- chunks in a place where none shares a byte with the program
fresh_beside : (program : RiscProgram) (from top len at count : ℕ) →
    ((c : Chunk) → from ≤ c.at → c.at + c.len ≤ top → shares_byte program c ≡ false) → from ≤ at → at + total (fresh len at count) ≤ top →
    All (λ c. shares_byte program c ≡ false) (fresh len at count)
fresh_beside program from top len at zero free above ends = All-nil (λ (c : Chunk). shares_byte program c ≡ false)
fresh_beside program from top len at (suc count) free above ends =
    let sum = total-cons (chunk at len) (fresh len (at + len) count) in
    All-cons (λ (c : Chunk). shares_byte program c ≡ false) (chunk at len) (fresh len (at + len) count)
    (free (chunk at len) above (omega (arith, sum, ends)))
    (fresh_beside program from top len (at + len) count free (omega (arith, above)) (omega (arith, sum, ends)))

fresh_pages : (at count : ℕ) → at % 4096 ≡ 0 → list_all is_page (fresh 4096 at count) ≡ true
fresh_pages at zero aligned = refl
fresh_pages at (suc count) aligned =
    let next : (at + 4096) % 4096 ≡ 0 = omega arith in
    rw (aligned, fresh_pages (at + 4096) count next) refl

no_page : (at : ℕ) → is_page (chunk at 4) ≡ false
no_page at = by_test (at % 4096 == 0)
  where
    by_test : (b : Bool) → (b && false) ≡ false
    by_test true = refl
    by_test false = refl

no_pages : (at count : ℕ) → 0 < count → list_all is_page (fresh 4 at count) ≡ false
no_pages at zero some = absurd (omega arith)
no_pages at (suc count) some = rw (no_page at) refl

rising_append : (from : ℕ) (chunks more : List Chunk) → AreRising from chunks → AreRising (chunks_end from chunks) more →
    AreRising from (chunks ++ more)
rising_append from [] more rising behind = behind
rising_append from (c ∷ chunks) more rising behind = (rising.0, rising.1, rising_append (c.at + c.len) chunks more rising.2 behind)

-- ---- a place for them

-- the first page behind an address, or where the program is in the way one far behind both
abbrev spot_if : Bool → ℕ → ℕ
spot_if true from = (from + 4095) / 4096 * 4096
spot_if false from = (from + 4095) / 4096 * 4096 + 33554432

-- a place for chunks of 16 MiB together, behind an address and beside a program
pub record IsSpot (program : RiscProgram) (from at : ℕ) : Type 0 where
  pub above : from ≤ at
  pub aligned : at % 4096 ≡ 0
  pub ends : at + 2 ^ 24 ≤ 2 ^ 32
  pub free : (c : Chunk) → at ≤ c.at → c.at + c.len ≤ at + 2 ^ 24 → shares_byte program c ≡ false

-- beside a program that begins alone
met_as_one : (program : RiscProgram) (c : Chunk) → IsProgram program → begins_at program.base program.spans ≡ true →
    shares_byte program c ≡ is_met program.base (program.base + 4 * length (all_words program)) c
met_as_one program c made alone =
    ap (λ (spans : List Span). list_any (λ s. is_met s.at (end_of s) c) spans) (alone_is_one program made.spans alone)
    ∙ shares_byte-one_span program.base (all_words program) [] c

spot : (program : RiscProgram) (from : ℕ) (b : Bool) → IsProgram program → begins_at program.base program.spans ≡ true →
    nat_le ((from + 4095) / 4096 * 4096 + 2 ^ 24) program.base ≡ b → from ≤ 2 ^ 31 →
    IsSpot program from (spot_if b from)
spot program from true made alone is low =
    let le = leb-true ((from + 4095) / 4096 * 4096 + 2 ^ 24) program.base is in
    record {
      above = omega arith;
      aligned = omega arith;
      ends = omega arith;
      free =
          λ c above ends. met_as_one program c made alone
          ∙ le-ltb (max program.base c.at) (min (program.base + 4 * length (all_words program)) (c.at + c.len)) (omega (arith, le, ends));
    }
spot program from false made alone is low =
    let lt = leb-false ((from + 4095) / 4096 * 4096 + 2 ^ 24) program.base is in
    let few = made.few in
    record {
      above = omega arith;
      aligned = omega arith;
      ends = omega arith;
      free =
          λ c above ends. met_as_one program c made alone
          ∙ le-ltb (max program.base c.at) (min (program.base + 4 * length (all_words program)) (c.at + c.len))
          (omega (arith, lt, few, above));
    }

-- behind all spans
later_end : (spans : List Span) (from : ℕ) → AreApart (from + 1) spans → from ≤ spans_end from spans
later_end [] from apart = omega arith
later_end (s ∷ spans) from apart =
    let rest = later_end spans (end_of s) apart.2 in
    let above = apart.0 in
    omega (arith, rest, above)

none_met : (spans : List Span) (from last : ℕ) (c : Chunk) → AreApart from spans → spans_end last spans ≤ c.at →
    list_any (λ s. is_met s.at (end_of s) c) spans ≡ false
none_met [] from last c apart below = refl
none_met (s ∷ spans) from last c apart below =
    let later = later_end spans (end_of s) apart.2 in
    ap (λ (b : Bool). b || list_any (λ t. is_met t.at (end_of t) c) spans)
    (le-ltb (max s.at c.at) (min (end_of s) (c.at + c.len)) (omega (arith, later, below)))
    ∙ none_met spans (end_of s + 1) (end_of s) c apart.2 below

high_spot : (program : RiscProgram) (from : ℕ) → IsProgram program → from ≤ 2 ^ 31 → spans_end 0 program.spans ≤ 2 ^ 31 →
    IsSpot program from (2 ^ 31)
high_spot program from made low lower =
    record {
      above = low;
      aligned = refl;
      ends = omega arith;
      free = λ c above ends. none_met program.spans 0 0 c made.spans (omega (arith, lower, above));
    }

spot_of : (form : ProgramForm) (program : RiscProgram) (from : ℕ) → IsProgram program → StandIn form program → from ≤ 2 ^ 31 →
    (at : ℕ) × IsSpot program from at
spot_of (Based Paged) program from made stands low =
    let b : Bool = nat_le ((from + 4095) / 4096 * 4096 + 2 ^ 24) program.base in
    (spot_if b from, spot program from b made stands.0 refl low)
spot_of (Based Chunked) program from made stands low =
    let b : Bool = nat_le ((from + 4095) / 4096 * 4096 + 2 ^ 24) program.base in (spot_if b from, spot program from b made stands refl low)
spot_of Spanned program from made stands low = (2 ^ 31, high_spot program from made low stands.1)

-- ---- the whole program

module _ (form : ProgramForm) (program : RiscProgram) (count : ℕ) (room : HasRoom form program count) where
  abbrev least : ℕ
  least = least_length (layout_of form)

  abbrev from : ℕ
  from = chunks_end 0 program.grants

  abbrev left : ℕ
  left = count - length program.grants

  abbrev Fresh : ℕ → List Chunk
  Fresh at = fresh least at left

  abbrev with_fresh : ℕ → RiscProgram
  with_fresh at = with_grants program (program.grants ++ Fresh at)

  abbrev Apart : Chunk → Type 0
  Apart c = shares_byte program c ≡ false

  fresh_apart : (at : ℕ) → IsSpot program from at → least * left ≤ 2 ^ 24 → All Apart (Fresh at)
  fresh_apart at is small =
      let sum = fresh_total (layout_of form) at left in
      fresh_beside program at (at + 2 ^ 24) least at left is.free (omega arith) (omega (arith, sum, small))

  length_fits : (layout : Layout) → (4 ≤ least_length layout) × (least_length layout % 4 ≡ 0)
  length_fits Paged = (omega arith, refl)
  length_fits Chunked = (omega arith, refl)

  program_made : (at : ℕ) → IsSpot program from at → IsProgram (with_fresh at)
  program_made at is =
      let made = room.made in
      let small : total program.grants + least * left ≤ 2 ^ 24 = room.small in
      let less : least * left ≤ 2 ^ 24 = omega (arith, small) in
      let sum = fresh_total (layout_of form) at left in
      let both = sum_by-append (λ (c : Chunk). c.len) program.grants (Fresh at) in
      let lengths = length-append program.grants (Fresh at) in
      let fresh_len = fresh-length least at left in
      let more = room.more in
      let few = room.few in
      let aligned = is.aligned in
      let ends = is.ends in
      record {
        aligned = made.aligned;
        low = made.low;
        begins = made.begins;
        spans = made.spans;
        many = made.many;
        few = made.few;
        grants = record {
          few = omega (arith, lengths, fresh_len, more, few);
          small = omega (arith, both, sum, small);
          rising =
              rising_append 0 program.grants (Fresh at) made.grants.rising
              (fresh_rising least from at left (length_fits (layout_of form)).0 (length_fits (layout_of form)).1
              (omega (arith, aligned)) is.above (omega (arith, sum, less, ends)));
        };
        apart = All-append Apart program.grants (Fresh at) made.apart (fresh_apart at is less);
      }

-- the form of the whole
layout_is : (layout : Layout) (chunks : List Chunk) (at left : ℕ) → (layout ≡ Paged → list_all is_page chunks ≡ true) → at % 4096 ≡ 0 →
    0 < left → layout_for (chunks ++ fresh (least_length layout) at left) ≡ layout
layout_is Paged chunks at left form aligned some =
    ap (λ (t : Bool). cond t Paged Chunked)
    (list_all-append is_page chunks (fresh 4096 at left) ∙ ap (λ (t : Bool). t && list_all is_page (fresh 4096 at left)) (form refl)
    ∙ fresh_pages at left aligned)
layout_is Chunked chunks at left form aligned some =
    ap (λ (t : Bool). cond t Paged Chunked)
    (list_all-append is_page chunks (fresh 4 at left) ∙ ap (λ (t : Bool). list_all is_page chunks && t) (no_pages at left some)
    ∙ never (list_all is_page chunks))
  where
    never : (b : Bool) → (b && false) ≡ false
    never true = refl
    never false = refl

form_is : (form : ProgramForm) (program : RiscProgram) (at left : ℕ) → StandIn form program → at % 4096 ≡ 0 → 0 < left →
    form_for (with_grants program (program.grants ++ fresh (least_length (layout_of form)) at left)) ≡ form
form_is (Based Paged) program at left stands aligned some =
    ap (λ (b : Bool). cond b (Based (layout_for (program.grants ++ fresh 4096 at left))) Spanned) stands.0
    ∙ ap Based (layout_is Paged program.grants at left (λ paged. stands.1) aligned some)
form_is (Based Chunked) program at left stands aligned some =
    ap (λ (b : Bool). cond b (Based (layout_for (program.grants ++ fresh 4 at left))) Spanned) stands
    ∙ ap Based (layout_is Chunked program.grants at left (λ paged. absurd (cc)) aligned some)
form_is Spanned program at left stands aligned some =
    ap (λ (b : Bool). cond b (Based (layout_for (program.grants ++ fresh 4 at left))) Spanned) stands.0

still_placed : (form : ProgramForm) (program : RiscProgram) (grants : List Chunk) →
    placed_spelled form program ≡ placed_spelled form (with_grants program grants)
still_placed (Based layout) program grants = refl
still_placed Spanned program grants = refl

-- the bytes from left to right
in_line : (front counted old new last : List ℕ) →
    (((front ++ counted) ++ old) ++ (new ++ last)) ≡ ((front ++ (counted ++ (old ++ new))) ++ last)
in_line front counted old new last =
    append_assoc (front ++ counted) old (new ++ last)
    ∙ append_assoc front counted (old ++ (new ++ last))
    ∙ ap (λ (zs : List ℕ). front ++ (counted ++ zs)) (sym (append_assoc old new last))
    ∙ ap (λ (zs : List ℕ). front ++ zs) (sym (append_assoc counted (old ++ new) last))
    ∙ sym (append_assoc front (counted ++ (old ++ new)) last)

goes_on_at : (form : ProgramForm) (program : RiscProgram) (count : ℕ) (room : HasRoom form program count) (at : ℕ) →
    IsSpot program (chunks_end 0 program.grants) at → BeginsFile (beginning form program count)
unfolding spelled
goes_on_at form program count room at is =
    let left : ℕ = count - length program.grants in
    let layout : Layout = layout_of form in
    let added : List Chunk = fresh (least_length layout) at left in
    let grants : List Chunk = program.grants ++ added in
    let whole : RiscProgram = with_fresh form program count room at in
    let front : List ℕ = name_of form ++ placed_spelled form program in
    let more = room.more in
    let counted : count ≡ length grants =
    omega (arith, length-append program.grants added, fresh-length (least_length layout) at left, more) in
    let own : form_for whole ≡ form = form_is form program at left room.stands is.aligned (omega (arith, more)) in
    let parts : beginning form program count ++ (flat_map (chunk_in layout) added ++ 0 ∷ []) ≡ spelled_as form whole 0 =
    in_line front (little_bytes 4 count) (flat_map (chunk_in layout) program.grants) (flat_map (chunk_in layout) added) (0 ∷ [])
    ∙ ap (λ (zs : List ℕ). (front ++ (little_bytes 4 count ++ zs)) ++ 0 ∷ []) (sym (flat_map-append (chunk_in layout) program.grants added))
    ∙ ap (λ (n : ℕ). (front ++ (little_bytes 4 n ++ flat_map (chunk_in layout) grants)) ++ 0 ∷ []) counted
    ∙ ap (λ (zs : List ℕ). ((name_of form ++ zs) ++ (little_bytes 4 (length grants) ++ flat_map (chunk_in layout) grants)) ++ 0 ∷ [])
    (still_placed form program grants) in (
      flat_map (chunk_in layout) added ++ 0 ∷ [],
      (
        record { program = whole; fill = 0 },
        record {
          parts = parts ∙ ap (λ (f : ProgramForm). spelled_as f whole 0) (sym own);
          made = program_made form program count room at is;
          fill = omega arith;
        },
      ),
    )

pub beginning_goes_on : (form : ProgramForm) (program : RiscProgram) (count : ℕ) → HasRoom form program count →
    BeginsFile (beginning form program count)
beginning_goes_on form program count room =
    let place = spot_of form program (chunks_end 0 program.grants) room.made room.stands room.low in
    goes_on_at form program count room place.0 place.1
