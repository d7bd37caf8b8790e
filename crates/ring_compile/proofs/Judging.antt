-- What a ring without a fault meets.
use Rattle.std.proofs.Common.{◌≡◌, ℕ, ◌+◌, ◌*◌, ◌%◌, ◌^◌, ◌<◌, ◌≤◌, Bool, true, false, nat_le, Ok, Err, List, [], ◌∷◌, ◌++◌, Some, None}
use Rattle.std.proofs.Common.{Result, length, map, get_or, refl, subst, sym, ap, ◌∙◌, arith, Fits, w32}
use Rattle.std.specs.Prelude.{IfOk}
use Rattle.std.specs.List.{All, list_any, range_with_len}
use Rattle.std.proofs.lemmas.Bool.{and_parts, eqb-true, leb-true, not-false}
use Rattle.std.proofs.lemmas.Grind.{flat_map-append}
use Rattle.std.proofs.lemmas.List.{append-nil, get_or_default}
use Rattle.risc_word.specs.Words.{encoded}
use Rattle.picture_model.specs.Geometry.{is_multiple}
use Rattle.picture_model.specs.Programs.{words_of}
use Rattle.ring_compile.specs.declared.fault.RingFault.{RingFault}
use Rattle.ring_compile.specs.declared.fault.RingFault.TheVariants.{ProgramBase, ProgramOnPage}
use Rattle.ring_compile.specs.Files.{program_base, program_on_page, when}
use Rattle.ring_compile.specs.Placed.{program_end}
use Rattle.std.proofs.lemmas.List.FromFn.{length-map-range_with_len}
use Rattle.page_table.specs.Grants.{Chunk, is_met, total}
use Rattle.page_table.specs.Taken.{in_order, page_at}
use Rattle.page_table.proofs.Listed.{any_map}
use Rattle.machine_model.specs.Paths.{IsSound, RiscProgram, one_span, shares_byte}
use Rattle.machine_model.proofs.OneSpan.{any-shares_byte}
use Rattle.page_table.specs.Scattered.{ArePages, IsScatterList, ScatterList}
use Rattle.ring_model.specs.Rings.{IsRing, Ring, closing, last_write, memory_of, opening, ring_program, ring_words, round}
use Rattle.ring_model.proofs.Few.{ring_few}
use Rattle.ring_model.proofs.RingProgram.{ring_made}
use Rattle.ring_model.proofs.Sound.{ring_length, ring_sound}
use Rattle.ring_compile.specs.declared.fault.RingError.{RingError}
use Rattle.ring_compile.specs.Kept.{IsFront, IsInBounds, IsJudged, IsKept}
use Rattle.ring_compile.specs.Writes.{scattered}

pub pages_judged : (r : Ring) (result : Result ScatterList RingError) → IsInBounds r → All (λ page. page < 2 ^ 32) r.pages →
    ArePages r.pages → IfOk result (λ scatter. scatter ≡ scattered r) →
    IfOk result IsScatterList → IfOk result (λ _. IsRing r)
pages_judged r (Err error) bounds addresses pages list sound = tt
pages_judged r (Ok scatter) bounds addresses pages list sound =
    record {
      blocks = bounds.blocks;
      lines = bounds.lines;
      line_bytes = bounds.line_bytes;
      few_pages = bounds.few_pages;
      addresses = addresses;
      pages = pages;
      enough = subst (λ (s : ScatterList). s.len ≤ total s.chunks) list sound.enough;
    }

pub addresses_fit : (pages : List ℕ) → ((k : ℕ) → Fits w32 (get_or pages k 0)) → All (λ page. page < 2 ^ 32) pages
addresses_fit pages fit =
    λ k d within. let fits = fit k in subst (λ page. page < 2 ^ 32) (get_or_default pages k 0 d within) (omega arith)

pub addresses_shown : (pages shown : List ℕ) → shown ≡ pages → All (λ page. page < 2 ^ 32) shown → All (λ page. page < 2 ^ 32) pages
addresses_shown pages shown same fit = subst (All (λ page. page < 2 ^ 32)) same fit

-- where a block ends

pub few_places : (r : Ring) (places : List ℕ) (place : ℕ) → r.blocks ≤ 16 → places ≡ map (last_write r) (range_with_len 0 r.blocks) →
    place < length places → place < 16
few_places r places place few same within =
    let all = ap length same in
    let each = length-map-range_with_len (last_write r) 0 r.blocks in
    omega arith

-- faults that don't hold

when_false : (holds : Bool) (fault : RingFault) → when holds fault ≡ None → holds ≡ false
when_false false fault none = refl
when_false true fault none = cc

base_judged : (r : Ring) → program_base r ≡ None → (r.base % 4 ≡ 0) × (program_end r ≤ 2 ^ 32)
base_judged r none =
    let parts = and_parts (is_multiple 4 r.base) (nat_le (program_end r) (2 ^ 32)) (not-false _ (when_false _ ProgramBase none)) in
    (eqb-true (r.base % 4) 0 parts.0, leb-true (program_end r) (2 ^ 32) parts.1)

-- the program that is made

pub program_is : (r : Ring) (base : ℕ) (words : List ℕ) (grants : List Chunk) → base ≡ r.base → words ≡ ring_words r →
    grants ≡ in_order (memory_of r) → one_span base words grants ≡ ring_program r
program_is r base words grants one two three =
    ap (λ (b : ℕ). one_span b words grants) one
    ∙ ap (λ (w : List ℕ). one_span r.base w grants) two
    ∙ ap (one_span r.base (ring_words r)) three

pub made_few : (r : Ring) (words : List ℕ) → IsJudged r → words ≡ ring_words r → length words ≤ 1048576
made_few r words judged same = subst (λ (w : List ℕ). length w ≤ 1048576) (sym same) (ring_few r judged.ring)

pub made_apart : (r : Ring) (base : ℕ) (words : List ℕ) (grants : List Chunk) → IsJudged r → base ≡ r.base → words ≡ ring_words r →
    grants ≡ in_order (memory_of r) → All (λ c. shares_byte (one_span base words grants) c ≡ false) grants
made_apart r base words grants judged one two three =
    subst (λ (p : RiscProgram). All (λ c. shares_byte p c ≡ false) p.grants) (sym (program_is r base words grants one two three))
    (ring_made r judged.ring judged.placed).apart

pub made_sound : (r : Ring) (program : RiscProgram) → IsJudged r → program ≡ ring_program r → IsSound program
made_sound r program judged same = subst IsSound (sym same) (ring_sound r judged.ring)

-- the place of a program

pub end_is : (r : Ring) (words : ℕ) → words ≡ length (words_of (opening ∷ round r)) → r.base + 4 * (words + 2) ≡ program_end r
end_is r words front = let long = ring_length r in omega arith

pub closing_fits : (r : Ring) → program_base r ≡ None → r.base + 8 < 2 ^ 32
closing_fits r none = let ends = (base_judged r none).1 in let long = ring_length r in omega arith

pub pages_met : (r : Ring) (end : ℕ) → end ≡ program_end r →
    list_any (λ page. is_met r.base end (page_at page)) r.pages ≡ list_any (shares_byte (ring_program r)) (memory_of r)
pages_met r end is =
    ap (λ (e : ℕ). list_any (λ page. is_met r.base e (page_at page)) r.pages) is
    ∙ sym (any_map (is_met r.base (program_end r)) page_at r.pages)
    ∙ sym (any-shares_byte r.base (ring_words r) (in_order (memory_of r)) (memory_of r))

pub kept : (r : Ring) (front words places : List ℕ) → IsRing r → IsFront r front places → program_base r ≡ None → program_on_page r ≡ None →
    words ≡ front ++ encoded (closing r) → IsKept r words places
kept r front words places is front_is base pages added =
    let placed = base_judged r base in
    record {
      judged = record {
        ring = is;
        placed = record { aligned = placed.0; ends = placed.1; apart = when_false _ ProgramOnPage pages };
      };
      words =
          added
          ∙ ap (λ (w : List ℕ). w ++ encoded (closing r)) front_is.words
          ∙ ap (λ (w : List ℕ). words_of (opening ∷ round r) ++ w) (sym (append-nil (encoded (closing r))))
          ∙ sym (flat_map-append encoded (opening ∷ round r) (closing r ∷ []));
      last_writes = front_is.last_writes;
    }

pub meets : (r : Ring) (met : Bool) → met ≡ list_any (shares_byte (ring_program r)) (memory_of r) → met ≡ true →
    program_on_page r ≡ Some ProgramOnPage
meets r met is yes_met = ap (λ (b : Bool). when b ProgramOnPage) (sym is ∙ yes_met)

pub meets_none : (r : Ring) (met : Bool) → met ≡ list_any (shares_byte (ring_program r)) (memory_of r) → met ≡ false →
    program_on_page r ≡ None
meets_none r met is none_met = ap (λ (b : Bool). when b ProgramOnPage) (sym is ∙ none_met)
