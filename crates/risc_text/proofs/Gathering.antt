-- A listing is read back to its program.
use Rattle.std.proofs.Common.{◌≡◌, ℕ, zero, suc, Bool, true, false, ◌+◌, ◌-◌, ◌*◌, ◌^◌, ◌<◌, ◌≤◌, List, [], ◌∷◌, ◌++◌, length}
use Rattle.std.proofs.Common.{length-append, map, drop, Option, Some, None, refl, sym, ap, subst, ◌∙◌, arith, append_assoc}
use Rattle.std.specs.Prelude.{slice_index}
use Rattle.std.specs.List.{All, flat_map}
use Rattle.std.proofs.lemmas.List.{append-nil}
use Rattle.std.proofs.lemmas.List.Elements.{All-nil, All-tail}
use Rattle.std.proofs.Math.Seq.{drop-append_seam}
use Rattle.std.proofs.lemmas.Bool.{cond_both}
use Rattle.risc_word.specs.declared.Instr.{Instr}
use Rattle.risc_word.specs.Words.{encoded}
use Rattle.page_table.specs.Grants.{Chunk, is_page, AreRising, total}
use Rattle.page_table.specs.Taken.{listed}
use Rattle.page_table.proofs.Placing.{total-cons}
use Rattle.machine_model.specs.Paths.{begins_at_base, RiscProgram, Span, IsProgram, IsSpan, AreApart, all_words, end_of, one_span, span}
use Rattle.risc_listing.specs.Lines.{address_text, instr_line, word_line}
use Rattle.risc_listing.specs.Listings.{all_word_lines, base_line, chunk_line, entry_line, fill_line, line_of, lines_by, listing, span_line}
use Rattle.risc_listing.specs.Listings.{span_lines, spelled, word_lines, words_of}
use Rattle.risc_text.specs.declared.Line.{Line}
use Rattle.risc_text.specs.declared.Line.TheVariants as lines
use Rattle.risc_text.specs.Readers.{line_at, ◌>>=◌}
use Rattle.risc_text.specs.Drafts.{Draft, blank, draft_by, draft_of, drafted, gathered, longer, more_words, pair_of, taken, with_words}
use Rattle.risc_text.specs.Assembly.{IsListed, filled, some_words}
use Rattle.risc_text.proofs.OneSpan.{is_one, words_of_one}
use Rattle.risc_text.proofs.Lines.{base_line_back, chunk_line_back, entry_line_back, fill_line_back, span_line_back, instr_line_back}
use Rattle.risc_text.proofs.Lines.{word_line_back}
use Rattle.risc_text.proofs.Spelling.{IsSpelled, addresses_fit, none_some, some_is, spelled_is}

-- from one draft and text to another, with enough lines left
pub record Left (most : ℕ) (d : Draft) (text : List ℕ) (e : Draft) (rest : List ℕ) : Type 0 where
  pub lines : ℕ
  pub enough : length rest ≤ lines
  pub same : gathered most d text ≡ gathered lines e rest

abbrev pub Goes : Draft → List ℕ → Draft → List ℕ → Type 0
Goes d text e rest = (most : ℕ) → length text ≤ most → Left most d text e rest

goes_on : (d e f : Draft) (text middle rest : List ℕ) → Goes d text e middle → Goes e middle f rest → Goes d text f rest
goes_on d e f text middle rest first second most enough =
    let one = first most enough in
    let two = second one.lines one.enough in
    record { lines = two.lines; enough = two.enough; same = one.same ∙ two.same }

goes_line : (d : Draft) (shown rest : List ℕ) (l : Line) → 1 ≤ length shown → line_at (shown ++ rest) ≡ Some (l, rest) →
    Goes d (shown ++ rest) (taken d l) rest
unfolding gathered
goes_line d [] rest l some is most enough = absurd (omega arith)
goes_line d (byte ∷ shown) rest l some is zero enough = absurd (omega arith)
goes_line d (byte ∷ shown) rest l some is (suc most) enough =
    record {
      lines = most;
      enough = omega (arith, length-append shown rest);
      same = ap (λ found. found >>= (λ (read : Line × List ℕ). gathered most (taken d read.0) read.1)) is;
    }

-- words more, and none
pub longer-none : (spans : List Span) → longer spans [] ≡ spans
longer-none [] = refl
longer-none (s ∷ []) = ap (λ (words : List ℕ). span s.at words ∷ []) (append-nil s.words)
longer-none (s ∷ other ∷ rest) = ap (λ (spans : List Span). s ∷ spans) (longer-none (other ∷ rest))

more-none : (spans : List Span) (words : List ℕ) → more_words spans words [] ≡ words
more-none [] words = append-nil words
more-none (s ∷ rest) words = refl

pub longer-both : (spans : List Span) (a b : List ℕ) → longer (longer spans a) b ≡ longer spans (a ++ b)
longer-both [] a b = refl
longer-both (s ∷ []) a b = ap (λ (words : List ℕ). span s.at words ∷ []) (append_assoc s.words a b)
longer-both (s ∷ other ∷ []) a b = ap (λ (spans : List Span). s ∷ spans) (longer-both (other ∷ []) a b)
longer-both (s ∷ other ∷ third ∷ rest) a b = ap (λ (spans : List Span). s ∷ spans) (longer-both (other ∷ third ∷ rest) a b)

more-both : (spans : List Span) (words a b : List ℕ) →
    more_words (longer spans a) (more_words spans words a) b ≡ more_words spans words (a ++ b)
more-both [] words a b = append_assoc words a b
more-both (s ∷ []) words a b = refl
more-both (s ∷ other ∷ rest) words a b = refl

with_none : (d : Draft) → with_words d [] ≡ d
with_none d =
    let words = more-none d.spans d.words in
    let spans = longer-none d.spans in
    (λ i. record d { words = words i; spans = spans i })

with_both : (d : Draft) (a b : List ℕ) → with_words (with_words d a) b ≡ with_words d (a ++ b)
with_both d a b =
    let words = more-both d.spans d.words a b in
    let spans = longer-both d.spans a b in
    (λ i. record d { words = words i; spans = spans i })

abbrev pub with_chunks : Draft → List (ℕ × ℕ) → Draft
with_chunks d chunks = record d { chunks = d.chunks ++ chunks }

abbrev pub Fit : List ℕ → Type 0
Fit words = (k : ℕ) → slice_index words k < 2 ^ 32

pub fit_all : (words : List ℕ) → All (λ word. word < 2 ^ 32) words → Fit words
fit_all [] all k = omega arith
fit_all (word ∷ rest) all zero = all 0 0 (omega arith)
fit_all (word ∷ rest) all (suc k) = fit_all rest (All-tail (λ word. word < 2 ^ 32) word rest all) k

some_after : (front : List ℕ) (byte : ℕ) (rest : List ℕ) → 1 ≤ length (front ++ byte ∷ rest)
some_after front byte rest = omega (arith, length-append front (byte ∷ rest))

pub drop_one_less : (number word : ℕ) (rest : List ℕ) → 1 ≤ number → drop (number - 1) rest ≡ drop number (word ∷ rest)
drop_one_less zero word rest some = absurd (omega arith)
drop_one_less (suc number) word rest some = ap (λ (n : ℕ). drop n rest) (let e : suc number - 1 ≡ number = omega arith in e)

-- the words after the canonical encoding of an instruction
pub rest_is : (word : ℕ) (rest : List ℕ) (instr : Instr) (number : ℕ) → IsSpelled (word ∷ rest) instr number →
    encoded instr ++ drop (number - 1) rest ≡ word ∷ rest
rest_is word rest instr number known =
    ap (λ (list : List ℕ). encoded instr ++ list) (
    drop_one_less number word rest known.some
    ∙ ap (λ (n : ℕ). drop n (word ∷ rest)) known.number_is
    ∙ ap (drop (length (encoded instr))) known.words_are
    ∙ drop-append_seam (encoded instr) known.rest)
    ∙ sym known.words_are

-- the lines of words
module _ (d : Draft) (at : ℕ) (word : ℕ) (rest tail : List ℕ) (at_small : at < 2 ^ 32) (fit : Fit (word ∷ rest)) where
  Further : ℕ → Draft → Type 0
  Further skip e = Goes e (word_lines (at + 4) skip rest ++ tail) (with_words e (drop skip rest)) tail

  front_by : (found : Option (Instr × ℕ)) → spelled (word ∷ rest) ≡ found → ((skip : ℕ) (e : Draft) → Further skip e) →
      Goes d ((line_of at word found ++ word_lines (at + 4) (words_of found - 1) rest) ++ tail) (with_words d (word ∷ rest)) tail
  unfolding Further
  front_by None is further =
      let after = word_lines (at + 4) 0 rest ++ tail in
      let e = taken d (lines.Word word) in
      subst (λ (text : List ℕ). Goes d text (with_words d (word ∷ rest)) tail)
      (sym (append_assoc (word_line at word) (word_lines (at + 4) 0 rest) tail))
      (subst (λ (end : Draft). Goes d (word_line at word ++ after) end tail) (with_both d (word ∷ []) rest)
      (goes_on d e (with_words e rest) (word_line at word ++ after) after tail
      (goes_line d (word_line at word) after (lines.Word word) (some_after (address_text at) 32 _)
      (word_line_back at word after at_small (fit 0)))
      (further 0 e)))
  front_by (Some (instr, number)) is further =
      let known = spelled_is (word ∷ rest) instr number is in
      let after = word_lines (at + 4) (number - 1) rest ++ tail in
      let e = taken d (lines.Instr instr) in
      let words_are : with_words (with_words d (encoded instr)) (drop (number - 1) rest) ≡ with_words d (word ∷ rest) =
      with_both d (encoded instr) (drop (number - 1) rest) ∙ ap (with_words d) (rest_is word rest instr number known)
      in
      subst (λ (text : List ℕ). Goes d text (with_words d (word ∷ rest)) tail)
      (sym (append_assoc (instr_line at instr) (word_lines (at + 4) (number - 1) rest) tail))
      (subst (λ (end : Draft). Goes d (instr_line at instr ++ after) end tail) words_are
      (goes_on d e (with_words e (drop (number - 1) rest)) (instr_line at instr ++ after) after tail
      (goes_line d (instr_line at instr) after (lines.Instr instr) (some_after (address_text at) 32 _)
      (instr_line_back at instr after at_small known.is_instr
      (addresses_fit instr known.rest known.is_instr (subst Fit known.words_are fit))))
      (further (number - 1) e)))

goes_nowhere : (d : Draft) (tail : List ℕ) → Goes d tail d tail
goes_nowhere d tail most enough = record { lines = most; enough = enough; same = refl }

no_words : (d : Draft) (tail : List ℕ) → Goes d tail (with_words d []) tail
no_words d tail = subst (λ (end : Draft). Goes d tail end tail) (sym (with_none d)) (goes_nowhere d tail)

no_chunks : (d : Draft) (tail : List ℕ) → Goes d tail (with_chunks d []) tail
no_chunks d tail =
    subst (λ (chunks : List (ℕ × ℕ)). Goes d tail (record d { chunks = chunks }) tail) (sym (append-nil d.chunks)) (goes_nowhere d tail)

goes_words : (at skip : ℕ) (words tail : List ℕ) (d : Draft) → at + 4 * length words ≤ 2 ^ 32 → Fit words →
    Goes d (word_lines at skip words ++ tail) (with_words d (drop skip words)) tail
unfolding word_lines Further
goes_words at zero [] tail d small fit = no_words d tail
goes_words at (suc skip) [] tail d small fit = no_words d tail
goes_words at (suc skip) (word ∷ rest) tail d small fit = goes_words (at + 4) skip rest tail d (omega arith) (λ k. fit (suc k))
goes_words at zero (word ∷ rest) tail d small fit =
    front_by d at word rest tail (omega arith) fit (spelled (word ∷ rest)) refl
    (λ skip e. goes_words (at + 4) skip rest tail e (omega arith) (λ k. fit (suc k)))

-- the lines of chunks
chunk_line-some : (c : Chunk) → 1 ≤ length (chunk_line c)
chunk_line-some c = cond_both (is_page c) _ _ (λ (line : List ℕ). 1 ≤ length line) (λ _. omega arith) (λ _. omega arith)

goes_chunks : (from : ℕ) (chunks : List Chunk) (tail : List ℕ) (d : Draft) → AreRising from chunks → total chunks ≤ 2 ^ 24 →
    Goes d (flat_map chunk_line chunks ++ tail) (with_chunks d (map pair_of chunks)) tail
goes_chunks from [] tail d rising small = no_chunks d tail
goes_chunks from (c ∷ rest) tail d rising small =
    let whole = total-cons c rest in
    let is = rising.1 in
    let ends = is.ends in
    let some = is.some in
    let after = flat_map chunk_line rest ++ tail in
    let e = taken d (lines.Chunk c.at c.len) in
    subst (λ (text : List ℕ). Goes d text (with_chunks d (map pair_of (c ∷ rest))) tail)
    (sym (append_assoc (chunk_line c) (flat_map chunk_line rest) tail))
    (subst (λ (chunks : List (ℕ × ℕ)). Goes d (chunk_line c ++ after) (record d { chunks = chunks }) tail)
    (append_assoc d.chunks ((c.at, c.len) ∷ []) (map pair_of rest))
    (goes_on d e (with_chunks e (map pair_of rest)) (chunk_line c ++ after) after tail
    (goes_line d (chunk_line c) after (lines.Chunk c.at c.len) (chunk_line-some c) (chunk_line_back c after (omega arith) (omega arith)))
    (goes_chunks (c.at + c.len) rest tail e rising.2 (omega arith))))

-- the lines of spans
longer_last : (spans : List Span) (at : ℕ) (words : List ℕ) → longer (spans ++ span at [] ∷ []) words ≡ spans ++ span at words ∷ []
longer_last [] at words = refl
longer_last (s ∷ []) at words = refl
longer_last (s ∷ other ∷ rest) at words = ap (λ (spans : List Span). s ∷ spans) (longer_last (other ∷ rest) at words)

no_more_words : (spans : List Span) (s : Span) (words more : List ℕ) → more_words (spans ++ s ∷ []) words more ≡ words
no_more_words [] s words more = refl
no_more_words (first ∷ rest) s words more = refl

abbrev with_spans : Draft → List Span → Draft
with_spans d spans = record d { spans = d.spans ++ spans }

-- a span whose lines can be read
record CanBeRead (s : Span) : Type 0 where
  pub low : s.at < 2 ^ 32
  pub ends : end_of s ≤ 2 ^ 32
  pub fit : All (λ word. word < 2 ^ 32) s.words

abbrev CanAllBeRead : List Span → Type 0
CanAllBeRead [] = Unit {0}
CanAllBeRead (s ∷ rest) = CanBeRead s × CanAllBeRead rest

is_read : (s : Span) → IsSpan s → CanBeRead s
is_read s is = let ends = is.ends in let some = is.some in record { low = omega arith; ends = ends; fit = is.fit }

some_read : (at : ℕ) (words : List ℕ) → IsSpan (span at (some_words words)) → CanBeRead (span at words)
some_read at [] is = let ends = is.ends in record { low = omega arith; ends = omega arith; fit = All-nil (λ word. word < 2 ^ 32) }
some_read at (word ∷ words) is = is_read (span at (word ∷ words)) is

all_read : (from : ℕ) (spans : List Span) → AreApart from spans → CanAllBeRead spans
all_read from [] apart = tt
all_read from (s ∷ rest) apart = (is_read s apart.1, all_read (end_of s + 1) rest apart.2)

filled_read : (from : ℕ) (spans : List Span) → AreApart from (filled spans) → CanAllBeRead spans
filled_read from [] apart = tt
filled_read from (s ∷ []) apart = (some_read s.at s.words apart.1, tt)
filled_read from (s ∷ other ∷ rest) apart = (is_read s apart.1, filled_read (end_of s + 1) (other ∷ rest) apart.2)

goes_span : (s : Span) (tail : List ℕ) (d : Draft) → CanBeRead s → Goes d (span_lines s ++ tail) (with_spans d (s ∷ [])) tail
goes_span s tail d is =
    let begun = taken d (lines.Span s.at) in
    let after = word_lines s.at 0 s.words ++ tail in
    let words_same = no_more_words d.spans (span s.at []) d.words s.words in
    let spans_same = longer_last d.spans s.at s.words in
    let same : with_words begun s.words ≡ with_spans d (s ∷ []) = (λ i. record d { words = words_same i; spans = spans_same i }) in
    subst (λ (text : List ℕ). Goes d text (with_spans d (s ∷ [])) tail)
    (sym (append_assoc (span_line s.at) (word_lines s.at 0 s.words) tail))
    (subst (λ (end : Draft). Goes d (span_line s.at ++ after) end tail) same
    (goes_on d begun (with_words begun s.words) (span_line s.at ++ after) after tail
    (goes_line d (span_line s.at) after (lines.Span s.at) (omega arith) (span_line_back s.at after is.low))
    (goes_words s.at 0 s.words tail begun is.ends (fit_all s.words is.fit))))

goes_spans : (spans : List Span) (tail : List ℕ) (d : Draft) → CanAllBeRead spans →
    Goes d (flat_map span_lines spans ++ tail) (with_spans d spans) tail
goes_spans [] tail d are_read =
    subst (λ (spans : List Span). Goes d tail (record d { spans = spans }) tail) (sym (append-nil d.spans)) (goes_nowhere d tail)
goes_spans (s ∷ rest) tail d are_read =
    let after = flat_map span_lines rest ++ tail in
    let e = with_spans d (s ∷ []) in
    subst (λ (text : List ℕ). Goes d text (with_spans d (s ∷ rest)) tail)
    (sym (append_assoc (span_lines s) (flat_map span_lines rest) tail))
    (subst (λ (spans : List Span). Goes d (span_lines s ++ after) (record d { spans = spans }) tail) (append_assoc d.spans (s ∷ []) rest)
    (goes_on d e (with_spans e rest) (span_lines s ++ after) after tail (goes_span s after d are_read.0)
    (goes_spans rest tail e are_read.1)))

-- the lines of all words, by the base or span by span
abbrev words_draft : Bool → RiscProgram → Draft
words_draft true program = record (draft_by true program None) { chunks = [] }
words_draft false program = record (draft_by false program None) { chunks = [] }

goes_by : (by_base : Bool) (program : RiscProgram) (tail : List ℕ) → IsProgram program → begins_at_base program ≡ by_base →
    Goes blank (lines_by by_base program ++ tail) (words_draft by_base program) tail
goes_by true program tail made is =
    let all = words_of_one program made is in
    let words = all_words program in
    let one = taken blank (lines.Base program.base) in
    let words_after = word_lines program.base 0 words ++ tail in
    subst (λ (text : List ℕ). Goes blank text (words_draft true program) tail)
    (sym (append_assoc (base_line program.base) (word_lines program.base 0 words) tail))
    (goes_on blank one (words_draft true program) (base_line program.base ++ words_after) words_after tail
    (goes_line blank (base_line program.base) words_after (lines.Base program.base) (omega arith)
    (base_line_back program.base words_after made.low))
    (goes_words program.base 0 words tail one all.ends (fit_all words all.fit)))
goes_by false program tail made is =
    let shown = flat_map span_lines program.spans in
    let entry_after = entry_line program.base ++ tail in
    let one = with_spans blank program.spans in
    subst (λ (text : List ℕ). Goes blank text (words_draft false program) tail) (sym (append_assoc shown (entry_line program.base) tail))
    (goes_on blank one (words_draft false program) (shown ++ entry_after) entry_after tail
    (goes_spans program.spans entry_after blank (all_read 0 program.spans made.spans))
    (goes_line one (entry_line program.base) tail (lines.Entry program.base) (omega arith) (entry_line_back program.base tail made.low)))

-- all lines but the last
abbrev pub trunk : RiscProgram → List ℕ
trunk program = all_word_lines program ++ flat_map chunk_line program.grants

all_chunks : (by_base : Bool) (program : RiscProgram) →
    with_chunks (words_draft by_base program) (map pair_of program.grants) ≡ draft_by by_base program None
all_chunks true program = refl
all_chunks false program = refl

goes_trunk : (program : RiscProgram) (tail : List ℕ) → IsProgram program →
    Goes blank (all_word_lines program ++ (flat_map chunk_line program.grants ++ tail)) (draft_of program None) tail
goes_trunk program tail made =
    let by_base = begins_at_base program in
    let told = words_draft by_base program in
    let after = flat_map chunk_line program.grants ++ tail in
    goes_on blank told (draft_of program None) (all_word_lines program ++ after) after tail
    (goes_by by_base program after made refl)
    (subst (λ (end : Draft). Goes told after end tail) (all_chunks by_base program)
    (goes_chunks 0 program.grants tail told made.grants.rising made.grants.small))

gathered_end : (most : ℕ) (d : Draft) → gathered most d [] ≡ Some d
unfolding gathered
gathered_end zero d = refl
gathered_end (suc most) d = refl

drafted_by : (text : List ℕ) (d : Draft) → Goes blank text d [] → drafted text ≡ Some d
drafted_by text d goes = let all = goes (length text) (omega arith) in all.same ∙ gathered_end all.lines d

pub trunk_is_read : (program : RiscProgram) → IsProgram program → drafted (trunk program) ≡ Some (draft_of program None)
trunk_is_read program made =
    drafted_by (trunk program) (draft_of program None)
    (subst (λ (text : List ℕ). Goes blank (all_word_lines program ++ text) (draft_of program None) [])
    (append-nil (flat_map chunk_line program.grants)) (goes_trunk program [] made))

with_fill : (by_base : Bool) (program : RiscProgram) (fill : ℕ) →
    taken (draft_by by_base program None) (lines.Fill fill) ≡ draft_by by_base program (Some fill)
with_fill true program fill = refl
with_fill false program fill = refl

pub listing_is_read : (program : RiscProgram) (fill : ℕ) → IsListed program fill →
    drafted (listing program fill) ≡ Some (draft_of program (Some fill))
listing_is_read program fill listed =
    let last =
    subst (λ (end : Draft). Goes (draft_of program None) (fill_line fill) end []) (with_fill (begins_at_base program) program fill)
    (subst (λ (text : List ℕ). Goes (draft_of program None) text (taken (draft_of program None) (lines.Fill fill)) [])
    (append-nil (fill_line fill))
    (goes_line (draft_of program None) (fill_line fill) [] (lines.Fill fill) (omega arith)
    (ap line_at (append-nil (fill_line fill)) ∙ fill_line_back fill listed.fill_small)))
    in
    drafted_by (listing program fill) (draft_of program (Some fill))
    (goes_on blank (draft_of program None) (draft_of program (Some fill)) (listing program fill) (fill_line fill) []
    (goes_trunk program (fill_line fill) listed.made) last)

-- what lines of spans give, of which the last may have no word yet
pub spans_are_read : (spans : List Span) → AreApart 0 (filled spans) →
    drafted (flat_map span_lines spans) ≡ Some (record blank { spans = spans })
spans_are_read spans apart =
    drafted_by (flat_map span_lines spans) (record blank { spans = spans })
    (subst (λ (text : List ℕ). Goes blank text (record blank { spans = spans }) []) (append-nil (flat_map span_lines spans))
    (goes_spans spans [] blank (filled_read 0 spans apart)))

-- no two programs have one listing
pub listed_pairs : (chunks : List Chunk) → listed (map pair_of chunks) ≡ chunks
listed_pairs [] = refl
listed_pairs (c ∷ rest) = ap (λ (more : List Chunk). c ∷ more) (listed_pairs rest)

fill_is : (by_base : Bool) (program : RiscProgram) (fill : Option ℕ) → (draft_by by_base program fill).fill ≡ fill
fill_is true program fill = refl
fill_is false program fill = refl

chunks_are : (by_base : Bool) (program : RiscProgram) (fill : Option ℕ) →
    (draft_by by_base program fill).chunks ≡ map pair_of program.grants
chunks_are true program fill = refl
chunks_are false program fill = refl

pub draft_fill : (program : RiscProgram) (fill : Option ℕ) → (draft_of program fill).fill ≡ fill
draft_fill program fill = fill_is (begins_at_base program) program fill

pub draft_chunks : (program : RiscProgram) (fill : Option ℕ) → listed (draft_of program fill).chunks ≡ program.grants
draft_chunks program fill = ap listed (chunks_are (begins_at_base program) program fill) ∙ listed_pairs program.grants

same_by : (one two : Bool) (program other : RiscProgram) (fill more : ℕ) → IsProgram program → IsProgram other →
    begins_at_base program ≡ one → begins_at_base other ≡ two →
    draft_by one program (Some fill) ≡ draft_by two other (Some more) → program.grants ≡ other.grants → program ≡ other
same_by true false program other fill more made found one two same grants =
    absurd (none_some program.base (sym (ap (λ (d : Draft). d.base) same)))
same_by false true program other fill more made found one two same grants = absurd (none_some other.base (ap (λ (d : Draft). d.base) same))
same_by true true program other fill more made found one two same grants =
    let base_same : program.base ≡ other.base = some_is program.base other.base (ap (λ (d : Draft). d.base) same) in
    let words_same : all_words program ≡ all_words other = ap (λ (d : Draft). d.words) same in
    is_one program made one ∙ (λ i. one_span (base_same i) (words_same i) (grants i)) ∙ sym (is_one other found two)
same_by false false program other fill more made found one two same grants =
    let base_same : program.base ≡ other.base = some_is program.base other.base (ap (λ (d : Draft). d.entry) same) in
    let spans_same : program.spans ≡ other.spans = ap (λ (d : Draft). d.spans) same in
    (λ i. record { base = base_same i; spans = spans_same i; grants = grants i })

pub same_draft : (program other : RiscProgram) (fill more : ℕ) → IsProgram program → IsProgram other →
    Some (draft_of program (Some fill)) ≡ Some (draft_of other (Some more)) → (program ≡ other) × (fill ≡ more)
same_draft program other fill more made found same =
    let drafts : draft_of program (Some fill) ≡ draft_of other (Some more) =
    some_is (draft_of program (Some fill)) (draft_of other (Some more)) same in
    let grants_same : program.grants ≡ other.grants =
    sym (draft_chunks program (Some fill)) ∙ ap (λ (d : Draft). listed d.chunks) drafts ∙ draft_chunks other (Some more) in
    let fills : Some fill ≡ Some more =
    sym (draft_fill program (Some fill)) ∙ ap (λ (d : Draft). d.fill) drafts ∙ draft_fill other (Some more) in (
      same_by (begins_at_base program) (begins_at_base other) program other fill more made found refl refl drafts grants_same,
      some_is fill more fills,
    )

pub one_program : (program other : RiscProgram) (fill more : ℕ) → IsListed program fill → IsListed other more →
    listing program fill ≡ listing other more → (program ≡ other) × (fill ≡ more)
one_program program other fill more one two same =
    same_draft program other fill more one.made two.made
    (sym (listing_is_read program fill one) ∙ ap drafted same ∙ listing_is_read other more two)
