-- Where there is room for the spans that are counted, the beginning of a file up to some of them goes on to the end of a good file.
use Rattle.std.proofs.Common.{◌≡◌, ℕ, zero, suc, ◌+◌, ◌-◌, ◌*◌, ◌/◌, ◌%◌, ◌^◌, ◌<◌, ◌≤◌, inl, inr, Bool, true, false, cond, List, [], ◌∷◌}
use Rattle.std.proofs.Common.{◌++◌, length, Some, refl, sym, ap, subst, ◌∙◌, arith, append_assoc, length-append}
use Rattle.std.specs.Prelude.{slice_index}
use Rattle.std.specs.List.{All, flat_map}
use Rattle.std.proofs.lemmas.Bool.{cases_lt, ne_eqb}
use Rattle.std.proofs.lemmas.List.{append-nil}
use Rattle.std.proofs.lemmas.Grind.{flat_map-append}
use Rattle.std.proofs.lemmas.List.Elements.{All-cons, All-nil}
use Rattle.byteorder.specs.Endian.{little_bytes}
use Rattle.page_table.specs.Grants.{Chunk}
use Rattle.machine_model.specs.Paths.{begins_at, AreApart, BeginsAtWord, IsProgram, RiscProgram, Span, end_of, is_there, shares_byte, span}
use Rattle.machine_model.specs.Paths.{stands_in, word_among, words_of}
use Rattle.machine_model.proofs.Spans.{stands_at}
use Rattle.capture_file.specs.declared.program.ProgramForm.{ProgramForm}
use Rattle.capture_file.specs.declared.program.ProgramForm.TheVariants.{Based, Spanned}
use Rattle.capture_file.specs.declared.program.Layout.TheVariants.{Chunked}
use Rattle.capture_file.specs.Programs.{form_for, layout_for, name_of, span_spelled, spelled, spelled_as, without_grants}
use Rattle.capture_file.proofs.Spelled.{in_line, spanned_line, tail_of}
use Rattle.file_law.specs.ProgramBeginnings.{BeginsFile}
use Rattle.file_law.specs.ProgramRoom.{HasSpanRoom, span_beginning, spans_end}

-- ---- spans of two words one behind the other

abbrev fresh : ℕ → ℕ → List Span
fresh at zero = []
fresh at (suc count) = span at (0 ∷ 0 ∷ []) ∷ fresh (at + 12) count

fresh-length : (at count : ℕ) → length (fresh at count) ≡ count
fresh-length at zero = refl
fresh-length at (suc count) = ap suc (fresh-length (at + 12) count)

fresh_words : (at count : ℕ) → length (words_of (fresh at count)) ≡ 2 * count
fresh_words at zero = refl
fresh_words at (suc count) = let rest = fresh_words (at + 12) count in omega arith

two_zeros : All (λ word. word < 2 ^ 32) (0 ∷ 0 ∷ [])
two_zeros =
    All-cons (λ (word : ℕ). word < 2 ^ 32) 0 (0 ∷ []) (omega arith)
    (All-cons (λ (word : ℕ). word < 2 ^ 32) 0 [] (omega arith) (All-nil (λ (word : ℕ). word < 2 ^ 32)))

fresh_apart : (from at count : ℕ) → from ≤ at → at % 4 ≡ 0 → at + 12 * count ≤ 2 ^ 32 → AreApart from (fresh at count)
fresh_apart from at zero above aligned ends = tt
fresh_apart from at (suc count) above aligned ends = (
  above,
  record { aligned = aligned; some = omega arith; ends = omega arith; fit = two_zeros },
  fresh_apart (at + 8 + 1) (at + 12) count (omega arith) (omega arith) (omega arith),
)

lower : (from other : ℕ) (spans : List Span) → from ≤ other → AreApart other spans → AreApart from spans
lower from other [] le apart = tt
lower from other (s ∷ spans) le apart = let above = apart.0 in (omega (arith, le, above), apart.1, apart.2)

apart_append : (from last : ℕ) (spans more : List Span) → from ≤ last + 1 → AreApart from spans → AreApart (spans_end last spans + 1) more →
    AreApart from (spans ++ more)
apart_append from last [] more le apart behind = lower from (last + 1) more le behind
apart_append from last (s ∷ spans) more le apart behind =
    (apart.0, apart.1, apart_append (end_of s + 1) (end_of s) spans more (omega arith) apart.2 behind)

words_append : (spans more : List Span) → length (words_of (spans ++ more)) ≡ length (words_of spans) + length (words_of more)
words_append [] more = omega arith
words_append (s ∷ spans) more =
    let rest = words_append spans more in
    let all = length-append s.words (words_of (spans ++ more)) in
    let first = length-append s.words (words_of spans) in
    omega arith

-- ---- an entry: of one span the second word, of more the first

pub record IsEntry (spans : List Span) (entry : ℕ) : Type 0 where
  pub aligned : entry % 4 ≡ 0
  pub low : entry < 2 ^ 32
  pub begins : BeginsAtWord entry spans
  pub alone : begins_at entry spans ≡ false

stands_there : (s : Span) (rest : List Span) (entry : ℕ) → stands_in s entry ≡ true → is_there (word_among (s ∷ rest) entry) ≡ true
stands_there s rest entry stands =
    ap (λ (b : Bool). is_there (cond b (Some (slice_index s.words ((entry - s.at) / 4))) (word_among rest entry))) stands

entry_of : (spans : List Span) → AreApart 0 spans → 1 < length (words_of spans) → (entry : ℕ) × IsEntry spans entry
entry_of [] apart some = absurd (omega arith)
entry_of (s ∷ []) apart some =
    let two : 1 < length s.words = subst (λ (ws : List ℕ). 1 < length ws) (append-nil s.words) some in
    let is = apart.1 in
    let aligned = is.aligned in
    let ends = is.ends in (
      s.at + 4,
      record {
        aligned = omega (arith, aligned);
        low = omega (arith, two, ends);
        begins = stands_there s [] (s.at + 4) (stands_at s 1 two);
        alone = ne_eqb s.at (s.at + 4) (λ (e : s.at ≡ s.at + 4). omega (arith, e));
      },
    )
entry_of (s ∷ other ∷ rest) apart some =
    let is = apart.1 in
    let words = is.some in
    let ends = is.ends in
    let first : s.at + 4 * 0 ≡ s.at = omega arith in (
      s.at,
      record {
        aligned = is.aligned;
        low = omega (arith, words, ends);
        begins = stands_there s (other ∷ rest) s.at (subst (λ (n : ℕ). stands_in s n ≡ true) first (stands_at s 0 words));
        alone = refl;
      },
    )

-- ---- the whole program

spans_made : (spans : List Span) (entry : ℕ) → AreApart 0 spans → length spans ≤ 4096 → length (words_of spans) ≤ 1048576 →
    IsEntry spans entry → IsProgram (without_grants entry spans)
spans_made spans entry apart many few is = record {
  aligned = is.aligned;
  low = is.low;
  begins = is.begins;
  spans = apart;
  many = many;
  few = few;
  grants = record { few = omega arith; small = omega arith; rising = tt };
  apart = All-nil (λ (c : Chunk). shares_byte (without_grants entry spans) c ≡ false);
}

goes_on_with : (count : ℕ) (spans more : List Span) (entry : ℕ) → count ≡ length (spans ++ more) →
    IsProgram (without_grants entry (spans ++ more)) → begins_at entry (spans ++ more) ≡ false → BeginsFile (span_beginning count spans)
unfolding spelled
goes_on_with count spans more entry counted made alone =
    let all : List Span = spans ++ more in
    let whole : RiscProgram = without_grants entry all in
    let name : List ℕ = name_of Spanned in
    let old : List ℕ = flat_map span_spelled spans in
    let new : List ℕ = flat_map span_spelled more in
    let last : List ℕ = little_bytes 4 entry ++ tail_of Chunked [] 0 in
    let parts : span_beginning count spans ++ (new ++ last) ≡ spelled_as Spanned whole 0 =
    append_assoc (name ++ little_bytes 4 count) old (new ++ last)
    ∙ append_assoc name (little_bytes 4 count) (old ++ (new ++ last))
    ∙ ap (λ (zs : List ℕ). name ++ (little_bytes 4 count ++ zs)) (sym (append_assoc old new last))
    ∙ ap (λ (zs : List ℕ). name ++ (little_bytes 4 count ++ (zs ++ last))) (sym (flat_map-append span_spelled spans more))
    ∙ ap (λ (n : ℕ). name ++ (little_bytes 4 n ++ (flat_map span_spelled all ++ last))) counted
    ∙ ap (λ (zs : List ℕ). name ++ zs) (sym (spanned_line entry all (tail_of Chunked [] 0)))
    ∙ sym (in_line Spanned whole 0) in
    let own : form_for whole ≡ Spanned = ap (λ (b : Bool). cond b (Based (layout_for [])) Spanned) alone in (
      new ++ last,
      (
        record { program = whole; fill = 0 },
        record { parts = parts ∙ ap (λ (f : ProgramForm). spelled_as f whole 0) (sym own); made = made; fill = omega arith },
      ),
    )

pub spans_go_on : (count : ℕ) (spans : List Span) → HasSpanRoom count spans → BeginsFile (span_beginning count spans)
spans_go_on count spans room =
    let last : ℕ = spans_end 0 spans in
    let at : ℕ = (last + 7) / 4 * 4 in
    let left : ℕ = count - length spans in
    let more : List Span = fresh at left in
    let some = room.some in
    let fewer = room.more in
    let many = room.many in
    let few = room.few in
    let low = room.low in
    let lengths = length-append spans more in
    let fresh_len = fresh-length at left in
    let counted : count ≡ length (spans ++ more) = omega (arith, lengths, fresh_len, fewer) in
    let words = words_append spans more in
    let new_words = fresh_words at left in
    let apart =
    apart_append 0 0 spans more (omega arith) room.apart
    (fresh_apart (last + 1) at left (omega arith) (omega arith) (omega (arith, low, many))) in
    let enough : 1 < length (words_of (spans ++ more)) =
    elim (cases_lt (length spans) count) [
      | inl less ↦ omega (arith, words, new_words, less)
      | inr whole ↦ (let two = room.entry (omega (arith, whole, fewer)) in omega (arith, words, two))
    ] in
    let entry = entry_of (spans ++ more) apart enough in
    goes_on_with count spans more entry.0 counted
    (spans_made (spans ++ more) entry.0 apart (omega (arith, counted, many)) (omega (arith, words, new_words, few)) entry.1) entry.1.alone
