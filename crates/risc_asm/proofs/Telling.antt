-- A text is kept as the words of its lines: what is read and listed again is the same bytes.
use Rattle.std.proofs.Common.{◌≡◌, ℕ, ◌+◌, ◌-◌, ◌*◌, ◌^◌, ◌<◌, ◌≤◌, Bool, true, List, [], ◌∷◌, ◌++◌, length, length-append, take, drop}
use Rattle.std.proofs.Common.{Some, None, refl, sym, ap, subst, ◌∙◌, arith, append_assoc}
use Rattle.std.specs.Prelude.{◌==◌}
use Rattle.std.specs.Cmp.Lexicographic.{pointwise}
use Rattle.std.proofs.lemmas.List.{append-nil, length-take-le, take-append-drop}
use Rattle.std.proofs.Math.Seq.{take-append_seam}
use Rattle.std.specs.List.{flat_map}
use Rattle.machine_model.specs.Paths.{begins_at_base, RiscProgram, Span, all_words}
use Rattle.risc_listing.specs.Listings.{base_line, chunk_line, fill_line, lines_by, listing, word_lines}
use Rattle.risc_text.specs.declared.Line.{Line}
use Rattle.risc_text.specs.declared.Line.TheVariants as lines
use Rattle.risc_word.specs.Words.{encoded}
use Rattle.risc_text.specs.Drafts.{Draft, more_words, taken}
use Rattle.risc_text.specs.Readers.{Read}
use Rattle.risc_text.proofs.Spelling.{some_is}
use Rattle.risc_asm.specs.Drafts.{carried}
use Rattle.risc_asm.specs.Texts.{IsGrown, IsSettled, TellsMore, told}
use Rattle.risc_asm.proofs.Matching.{found}

abbrev later_lines : ℕ → List ℕ → ℕ → List ℕ → List ℕ
later_lines base words number later = word_lines (base + 4 * number) 0 (drop number (words ++ later))

pub tells_more : (base : ℕ) (words : List ℕ) (number next : ℕ) (text rest piece : List ℕ) → next ≤ length words → number ≤ next →
    pointwise (λ one other. one == other) (take (length piece) text) piece ≡ true → rest ≡ drop (length piece) text →
    ((later : List ℕ) → piece ++ word_lines (base + 4 * next) 0 (drop next (words ++ later))
    ≡ word_lines (base + 4 * number) 0 (drop number (words ++ later))) →
    TellsMore base words number next text rest
tells_more base words number next text rest piece within more is rest_is told_is = record {
  within = within;
  more = more;
  shown = piece;
  text_is = found text piece is ∙ ap (λ (list : List ℕ). piece ++ list) (sym rest_is);
  lines = λ later. sym (told_is later);
}

told_all : (base : ℕ) (words : List ℕ) → told base (words ++ []) ≡ told base words
told_all base words = ap (told base) (append-nil words)

front_long : (base : ℕ) (words : List ℕ) (number front : ℕ) → IsSettled base words number front →
    length (take front (told base words)) ≡ front
front_long base words number front is = length-take-le front (told base words) is.long

-- the same first bytes are in front of more
same_front : (front : ℕ) (first rest text : List ℕ) → length first ≡ front → first ++ rest ≡ text → take front text ≡ first
same_front front first rest text long is =
    sym (ap (take front) is) ∙ ap (λ (n : ℕ). take n (first ++ rest)) (sym long) ∙ take-append_seam first rest

within_front : (front : ℕ) (first rest text : List ℕ) → length first ≡ front → first ++ rest ≡ text → front ≤ length text
within_front front first rest text long is =
    let all : length first + length rest ≡ length text = sym (length-append first rest) ∙ ap length is in omega arith

-- ---- more lines are listed again

pub record Goes (base : ℕ) (words : List ℕ) (next front : ℕ) (first shown : List ℕ) : Type 0 where
  pub settled : IsSettled base words next front
  pub front_is : take front (told base words) ≡ first ++ shown

pub settled_on : (base : ℕ) (words : List ℕ) (number next front more : ℕ) (text rest : List ℕ) → IsSettled base words number front →
    (tells : TellsMore base words number next text rest) →
    more ≡ front + (length text - length rest) → Goes base words next more (take front (told base words)) tells.shown
settled_on base words number next front more text rest is tells more_is =
    let first = take front (told base words) in
    let shown = tells.shown in
    let size : length text ≡ length shown + length rest = ap length tells.text_is ∙ length-append shown rest in
    let long : length (first ++ shown) ≡ more =
    length-append first shown ∙ (let f = front_long base words number front is in omega arith) in
    let on : (later : List ℕ) → (first ++ shown) ++ later_lines base words next later ≡ told base (words ++ later) =
    λ later. append_assoc first shown (later_lines base words next later) ∙ ap (λ (list : List ℕ). first ++ list) (sym (tells.lines later))
    ∙ is.lines later
    in
    let all : (first ++ shown) ++ later_lines base words next [] ≡ told base words = on [] ∙ told_all base words in
    let same : take more (told base words) ≡ first ++ shown =
    same_front more (first ++ shown) (later_lines base words next []) (told base words) long all in
    record {
      settled = record {
        within = tells.within;
        ends = is.ends;
        long = within_front more (first ++ shown) (later_lines base words next []) (told base words) long all;
        lines = λ later. ap (λ (list : List ℕ). list ++ later_lines base words next later) same ∙ on later;
      };
      front_is = same;
    }

-- ---- words behind the words

pub record Stays (base : ℕ) (words new : List ℕ) (number front : ℕ) : Type 0 where
  pub settled : IsSettled base new number front
  pub front_is : take front (told base new) ≡ take front (told base words)

stays_by : (base : ℕ) (words more : List ℕ) (number front : ℕ) → IsSettled base words number front →
    base + 4 * length (words ++ more) ≤ 2 ^ 32 → Stays base words (words ++ more) number front
stays_by base words more number front is ends =
    let first = take front (told base words) in
    let long = front_long base words number front is in
    let same : take front (told base (words ++ more)) ≡ first =
    same_front front first (later_lines base words number more) (told base (words ++ more)) long (is.lines more) in
    let size = length-append words more in
    record {
      settled = record {
        within = let h = is.within in omega arith;
        ends = ends;
        long = within_front front first (later_lines base words number more) (told base (words ++ more)) long (is.lines more);
        lines = λ later.
            ap (λ (list : List ℕ). list ++ word_lines (base + 4 * number) 0 (drop number ((words ++ more) ++ later))) same
            ∙ ap (λ (list : List ℕ). first ++ word_lines (base + 4 * number) 0 (drop number list)) (append_assoc words more later)
            ∙ is.lines (more ++ later)
            ∙ ap (told base) (sym (append_assoc words more later));
      };
      front_is = same;
    }

pub stays : (base : ℕ) (words new : List ℕ) (number front : ℕ) → IsSettled base words number front → IsGrown words new →
    base + 4 * length new ≤ 2 ^ 32 → Stays base words new number front
stays base words new number front is grown ends =
    subst (λ (list : List ℕ). Stays base words list number front) (sym grown.1)
    (stays_by base words grown.0 number front is (subst (λ (list : List ℕ). base + 4 * length list ≤ 2 ^ 32) grown.1 ends))

-- ---- lines add words

grows_by : (spans : List Span) (words more : List ℕ) → IsGrown words (more_words spans words more)
grows_by [] words more = (more, refl)
grows_by (s ∷ rest) words more = ([], sym (append-nil words))

grows : (d : Draft) (l : Line) → IsGrown d.words (taken d l).words
grows d (lines.Base base) = ([], sym (append-nil d.words))
grows d (lines.Span at) = ([], sym (append-nil d.words))
grows d (lines.Entry entry) = ([], sym (append-nil d.words))
grows d (lines.Instr instr) = grows_by d.spans d.words (encoded instr)
grows d (lines.Word word) = grows_by d.spans d.words (word ∷ [])
grows d (lines.Chunk at len) = ([], sym (append-nil d.words))
grows d (lines.Fill fill) = ([], sym (append-nil d.words))

pub grown_further : (one two three : List ℕ) → IsGrown one two → IsGrown two three → IsGrown one three
grown_further one two three first second =
    (first.0 ++ second.0, second.1 ∙ ap (λ (list : List ℕ). list ++ second.0) first.1 ∙ append_assoc one first.0 second.0)

pub grown_by : (d new : Draft) (read : Read Line) (rest : List ℕ) → carried d read ≡ Some (new, rest) → IsGrown d.words new.words
grown_by d new None rest is = absurd cc
grown_by d new (Some read) rest is =
    let same : (taken d read.0, read.1) ≡ (new, rest) = some_is (taken d read.0, read.1) (new, rest) is in
    subst (λ (e : Draft). IsGrown d.words e.words) (ap (λ (pair : Draft × List ℕ). pair.0) same) (grows d read.0)

-- ---- the first line

pub record Begins (base : ℕ) (words text : List ℕ) (front : ℕ) : Type 0 where
  pub settled : IsSettled base words 0 front
  pub front_is : take front text ≡ take front (told base words)

begins_by : (base front : ℕ) (text rest piece : List ℕ) → base < 2 ^ 32 → piece ≡ base_line base → text ≡ piece ++ rest →
    front ≡ length piece → Begins base [] text front
unfolding word_lines
begins_by base front text rest piece small piece_is text_is front_is =
    let long : length (base_line base) ≡ front = ap length (sym piece_is) ∙ sym front_is in
    let whole : told base [] ≡ base_line base = append-nil (base_line base) in
    let first : take front (told base []) ≡ base_line base = same_front front (base_line base) [] (told base []) long refl in
    let on : (n : ℕ) → base ≡ base + 4 * 0 = λ n. omega arith in
    record {
      settled = record {
        within = omega arith;
        ends = omega arith;
        long = within_front front (base_line base) [] (told base []) long refl;
        lines = λ later.
            ap (λ (list : List ℕ). list ++ word_lines (base + 4 * 0) 0 later) first
            ∙ ap (λ (n : ℕ). base_line base ++ word_lines n 0 later) (sym (on 0));
      };
      front_is =
          same_front front (base_line base) rest text long (ap (λ (list : List ℕ). list ++ rest) (sym piece_is) ∙ sym text_is) ∙ sym first;
    }

pub begins : (base front : ℕ) (words text rest piece : List ℕ) → base < 2 ^ 32 → words ≡ [] → piece ≡ base_line base →
    pointwise (λ one other. one == other) (take (length piece) text) piece ≡ true → rest ≡ drop (length piece) text →
    front ≡ length text - length rest → Begins base words text front
begins base front words text rest piece small none piece_is is rest_is front_is =
    let text_is : text ≡ piece ++ rest = found text piece is ∙ ap (λ (list : List ℕ). piece ++ list) (sym rest_is) in
    let size : length text ≡ length piece + length rest = ap length text_is ∙ length-append piece rest in
    subst (λ (list : List ℕ). Begins base list text front) (sym none)
    (begins_by base front text rest piece small piece_is text_is (omega arith))

-- bytes go from the tail to the front
pub moved : (first one two tail rest : List ℕ) (at : ℕ) → two ≡ one ++ take at tail → one ≡ first → rest ≡ drop at tail →
    two ++ rest ≡ first ++ tail
moved first one two tail rest at two_is one_is rest_is =
    ap (λ (list : List ℕ). list ++ rest) (two_is ∙ ap (λ (list : List ℕ). list ++ take at tail) one_is)
    ∙ ap (λ (list : List ℕ). (first ++ take at tail) ++ list) rest_is
    ∙ append_assoc first (take at tail) (drop at tail)
    ∙ ap (λ (list : List ℕ). first ++ list) (take-append-drop at tail)

-- ---- the whole listing

pub whole : (base number front fill : ℕ) (words tail : List ℕ) (program : RiscProgram) → IsSettled base words number front →
    program.base ≡ base → all_words program ≡ words → begins_at_base program ≡ true →
    tail
    ≡ word_lines (program.base + 4 * number) 0 (drop number (all_words program)) ++ (flat_map chunk_line program.grants ++ fill_line fill) →
    listing program fill ≡ take front (told base words) ++ tail
whole base number front fill words tail program is base_is words_is by_base tail_is =
    let first = take front (told base words) in
    let last = flat_map chunk_line program.grants ++ fill_line fill in
    let left = word_lines (base + 4 * number) 0 (drop number words) in
    let split : told base words ≡ first ++ left =
    sym (told_all base words) ∙ sym (is.lines [])
    ∙ ap (λ (list : List ℕ). first ++ word_lines (base + 4 * number) 0 (drop number list)) (append-nil words)
    in
    let same : told program.base (all_words program) ≡ told base words = (λ i. told (base_is i) (words_is i)) in
    let end : tail ≡ left ++ last = tail_is ∙ (λ i. word_lines (base_is i + 4 * number) 0 (drop number (words_is i)) ++ last) in
    ap (λ (by_base : Bool). lines_by by_base program ++ last) by_base
    ∙ ap (λ (list : List ℕ). list ++ last) (same ∙ split)
    ∙ append_assoc first left last
    ∙ ap (λ (list : List ℕ). first ++ list) (sym end)
