-- What is found of a text follows from what was read of it and listed again.
use Rattle.std.proofs.Common.{◌≡◌, ℕ, ◌+◌, ◌^◌, ◌<◌, Bool, true, false, List, [], ◌∷◌, ◌++◌, length, take, Option, Some, None, refl, sym}
use Rattle.std.proofs.Common.{ap, subst, ◌∙◌, arith, inl, inr}
use Rattle.std.specs.Prelude.{IsTrue, nat_le, nat_lt, Result, Ok, Err}
use Rattle.std.specs.Option.{unwrap_or}
use Rattle.std.specs.List.{flat_map}
use Rattle.std.proofs.lemmas.List.{append-nil}
use Rattle.std.proofs.Math.Seq.{take-length}
use Rattle.page_table.specs.Taken.{listed}
use Rattle.machine_model.specs.Paths.{begins_at, begins_at_base, IsProgram, RiscProgram, Span, all_words}
use Rattle.risc_listing.specs.Listings.{fill_line, listing, span_lines}
use Rattle.risc_text.specs.Drafts.{Draft, blank, draft_by, draft_of, drafted, gathered}
use Rattle.risc_text.specs.Assembly.{BeginsListing, IsListed, IsListing, are_lines, completed, filled, of_one_by, with_entry}
use Rattle.risc_text.proofs.Cutting.{Starts, begun_starts, starts_begun, trunk_and_last}
use Rattle.risc_text.proofs.Gathering.{draft_fill, listed_pairs, listing_is_read, spans_are_read, trunk_is_read}
use Rattle.risc_text.proofs.Spelling.{some_is, none_some}
use Rattle.risc_asm.specs.Programs.{meant}
use Rattle.risc_asm.specs.Verdicts.{IsAlike, IsBegun, IsDraftOfBase, IsDraftOfSpans, IsToldBy}

-- a program that is given by spans has some
some_spans : (entry : ℕ) (spans : List Span) → begins_at entry spans ≡ false → length spans ≡ 0 → ⊥
some_spans entry [] is none = absurd cc
some_spans entry (s ∷ rest) is none = absurd (omega arith)

no_text : (spans : List Span) → length spans ≡ 0 → 0 < length (flat_map span_lines spans) → ⊥
no_text [] none some = absurd (omega arith)
no_text (s ∷ rest) none some = absurd (omega arith)

-- what lines give, in parts
abbrev told : Option ℕ → List ℕ → List Span → Option ℕ → List (ℕ × ℕ) → Option ℕ → Draft
told base words spans entry chunks fill = record { base = base; words = words; spans = spans; entry = entry; chunks = chunks; fill = fill }

-- ---- the program that a text begins with

-- a listing begins with the text, and this is what the text gives of it
pub record StartOf (text : List ℕ) (d : Draft) : Type 0 where
  pub program : RiscProgram
  pub made : IsProgram program
  pub rest : List ℕ
  pub fill : ℕ
  pub fill_is : unwrap_or d.fill 0 ≡ fill
  pub goes_on : listing program fill ≡ text ++ rest
  pub by_base : (base : ℕ) → d.base ≡ Some base →
      (begins_at_base program ≡ true) × (program.base ≡ base) × (all_words program ≡ d.words) × (program.grants ≡ listed d.chunks)
  pub by_spans : 0 < length d.spans → meant d.entry d.spans (listed d.chunks) ≡ program

base_by : (by : Bool) (program : RiscProgram) (fill : Option ℕ) (d : Draft) (base : ℕ) → begins_at_base program ≡ by →
    draft_by by program fill ≡ d → d.base ≡ Some base →
    (begins_at_base program ≡ true) × (program.base ≡ base) × (all_words program ≡ d.words) × (program.grants ≡ listed d.chunks)
base_by true program fill d base by same is = (
  by,
  some_is program.base base (ap (λ (d : Draft). d.base) same ∙ is),
  ap (λ (d : Draft). d.words) same,
  sym (listed_pairs program.grants) ∙ ap (λ (d : Draft). listed d.chunks) same,
)
base_by false program fill d base by same is = absurd (none_some base (ap (λ (d : Draft). d.base) same ∙ is))

spans_by : (by : Bool) (program : RiscProgram) (fill : Option ℕ) (d : Draft) → draft_by by program fill ≡ d → 0 < length d.spans →
    meant d.entry d.spans (listed d.chunks) ≡ program
spans_by true program fill d same some = absurd (let none : 0 ≡ length d.spans = ap (λ (d : Draft). length d.spans) same in omega arith)
spans_by false program fill d same some =
    let entry : d.entry ≡ Some program.base = ap (λ (d : Draft). d.entry) (sym same) in
    let spans : d.spans ≡ program.spans = ap (λ (d : Draft). d.spans) (sym same) in
    let grants : listed d.chunks ≡ program.grants = ap (λ (d : Draft). listed d.chunks) (sym same) ∙ listed_pairs program.grants in
    (λ i. meant (entry i) (spans i) (grants i))

fill_by : (by : Bool) (program : RiscProgram) (fill : Option ℕ) (d : Draft) → draft_by by program fill ≡ d → d.fill ≡ fill
fill_by true program fill d same = ap (λ (d : Draft). d.fill) (sym same)
fill_by false program fill d same = ap (λ (d : Draft). d.fill) (sym same)

start_at : (text : List ℕ) (d : Draft) (program : RiscProgram) (filled : Option ℕ) (rest : List ℕ) → IsProgram program →
    draft_of program filled ≡ d → listing program (unwrap_or filled 0) ≡ text ++ rest → StartOf text d
start_at text d program filled rest made same goes_on = record {
  program = program;
  made = made;
  rest = rest;
  fill = unwrap_or filled 0;
  fill_is = ap (λ (fill : Option ℕ). unwrap_or fill 0) (fill_by (begins_at_base program) program filled d same);
  goes_on = goes_on;
  by_base = λ base is. base_by (begins_at_base program) program filled d base refl same is;
  by_spans = λ some. spans_by (begins_at_base program) program filled d same some;
}

start_by : (text : List ℕ) (d : Draft) → Starts text → drafted text ≡ Some d → 0 < length text → StartOf text d
start_by text d (inl none) is some = absurd (let e = ap length none in omega arith)
start_by text d (inr (inl part)) is some =
    start_at text d part.program None (fill_line 0) part.made
    (some_is (draft_of part.program None) d (sym (trunk_is_read part.program part.made) ∙ ap drafted (sym part.is) ∙ is))
    (sym (trunk_and_last part.program 0) ∙ ap (λ (list : List ℕ). list ++ fill_line 0) (sym part.is))
start_by text d (inr (inr (inl are))) is some =
    let same : record blank {
      spans = are.spans;
    } ≡ d = some_is (record blank { spans = are.spans }) d (sym (spans_are_read are.spans are.apart) ∙ ap drafted (sym are.is) ∙ is) in
    record {
      program = completed are.spans;
      made = are.made;
      rest = are.rest;
      fill = 0;
      fill_is = ap (λ (d : Draft). unwrap_or d.fill 0) (sym same);
      goes_on = are.goes_on;
      by_base = λ base told. absurd (none_some base (ap (λ (d : Draft). d.base) same ∙ told));
      by_spans = λ more. (λ i. meant ((sym same i).entry) ((sym same i).spans) (listed (sym same i).chunks)) ∙ no_grants are.spans;
    }
  where
    no_grants : (spans : List Span) → meant None spans (listed []) ≡ completed spans
    no_grants spans = by (filled spans)
      where
        one : (two room : Bool) (s : Span) →
            record { base = (of_one_by two room s).base; spans = (of_one_by two room s).spans; grants = [] } ≡ of_one_by two room s
        one true room s = refl
        one false true s = refl
        one false false s = refl

        by : (spans : List Span) →
            record { base = (with_entry spans).base; spans = (with_entry spans).spans; grants = [] } ≡ with_entry spans
        by [] = refl
        by (s ∷ []) = one (nat_lt 1 (length s.words)) (nat_le (s.at + 12) (2 ^ 32)) s
        by (s ∷ other ∷ rest) = refl
start_by text d (inr (inr (inr (program, fill, (listed_is, same))))) is some =
    start_at text d program (Some fill) [] listed_is.made
    (some_is (draft_of program (Some fill)) d (sym (listing_is_read program fill listed_is) ∙ ap drafted same ∙ is))
    (same ∙ sym (append-nil text))

pub start_of : (text : List ℕ) (d : Draft) → IsTrue (are_lines text) → BeginsListing text → drafted text ≡ Some d → 0 < length text →
    StartOf text d
start_of text d whole begun is some = start_by text d (begun_starts text begun whole) is some

listing_start : (text : List ℕ) (d : Draft) → (found : IsListing text) → drafted text ≡ Some d → 0 < length text →
    (start : StartOf text d) × (listing start.program start.fill ≡ text)
unfolding start_by start_at
listing_start text d (program, fill, (listed_is, same)) is some =
    (start_by text d (inr (inr (inr (program, fill, (listed_is, same))))) is some, same)

pub undrafted : (text : List ℕ) → drafted text ≡ None → 0 < length text → IsTrue (are_lines text) → BeginsListing text → ⊥
undrafted text is some whole begun = by (begun_starts text begun whole)
  where
    by : Starts text → ⊥
    by (inl none) = absurd (let e = ap length none in omega arith)
    by (inr (inl part)) = none_some (draft_of part.program None) (sym is ∙ ap drafted part.is ∙ trunk_is_read part.program part.made)
    by (inr (inr (inl are))) =
        none_some (record blank { spans = are.spans }) (sym is ∙ ap drafted are.is ∙ spans_are_read are.spans are.apart)
    by (inr (inr (inr (program, fill, (listed_is, same))))) =
        none_some (draft_of program (Some fill)) (sym is ∙ ap drafted (sym same) ∙ listing_is_read program fill listed_is)

-- ---- the program that is made of what lines give

pub told_by_start : (text : List ℕ) (d : Draft) (program : RiscProgram) → drafted text ≡ Some d → 0 < length text →
    ((start : StartOf text d) → start.program ≡ program) → IsToldBy text program (unwrap_or d.fill 0)
told_by_start text d program is some same = record {
  front = λ whole begun.
      let start = start_of text d whole begun is some in (
        start.rest,
        ap (λ (p : RiscProgram). listing p (unwrap_or d.fill 0)) (sym (same start)) ∙ ap (listing start.program) start.fill_is
            ∙ start.goes_on,
      );
  whole = λ found.
      let at = listing_start text d found is some in
      ap (λ (p : RiscProgram). listing p (unwrap_or d.fill 0)) (sym (same at.0)) ∙ ap (listing at.0.program) at.0.fill_is ∙ at.1;
}

-- by a base
abbrev pub Finds : {E : Type 0} → Result RiscProgram E → ℕ → List ℕ → List (ℕ × ℕ) → Type 0
Finds made base words chunks =
    (program : RiscProgram) → IsProgram program → begins_at_base program ≡ true → program.base ≡ base → all_words program ≡ words →
    program.grants ≡ listed chunks → made ≡ Ok program

ok_is : {E : Type 0} (made : Result RiscProgram E) (one other : RiscProgram) → made ≡ Ok one → made ≡ Ok other → one ≡ other
ok_is made one other first second = let same = sym first ∙ second in cc

err_ok : {E : Type 0} (e : E) (program : RiscProgram) → Err e ≡ Ok program → ⊥
err_ok e program is = cc

pub base_told : {E : Type 0} (text : List ℕ) (base : ℕ) (words : List ℕ) (chunks : List (ℕ × ℕ)) (fill : Option ℕ)
    (made : Result RiscProgram E) (program : RiscProgram) → IsDraftOfBase text base words chunks fill →
    0 < length text → Finds made base words chunks → made ≡ Ok program → IsToldBy text program (unwrap_or fill 0)
base_told text base words chunks fill made program drafted_is some finds is =
    told_by_start text (told (Some base) words [] drafted_is.0 chunks fill) program drafted_is.1 some
    (λ start. let parts = start.by_base base refl in
    ok_is made start.program program (finds start.program start.made parts.0 parts.1 parts.2 parts.3) is)

pub no_base_program : {E : Type 0} (text : List ℕ) (base : ℕ) (words : List ℕ) (chunks : List (ℕ × ℕ)) (fill : Option ℕ) (e : E) →
    IsDraftOfBase text base words chunks fill →
    0 < length text → Finds (Err e) base words chunks → IsTrue (are_lines text) → BeginsListing text → ⊥
no_base_program text base words chunks fill e drafted_is some finds whole begun =
    let start = start_of text (told (Some base) words [] drafted_is.0 chunks fill) whole begun drafted_is.1 some in
    let parts = start.by_base base refl in
    err_ok e start.program (finds start.program start.made parts.0 parts.1 parts.2 parts.3)

-- by spans
pub spans_told : (text : List ℕ) (entry : Option ℕ) (spans : List Span) (chunks : List (ℕ × ℕ)) (fill : Option ℕ)
    (found : Option RiscProgram) (program : RiscProgram) → IsDraftOfSpans text entry spans chunks fill →
    0 < length spans → 0 < length text →
    (IsProgram (meant entry spans (listed chunks)) → found ≡ Some (meant entry spans (listed chunks))) → found ≡ Some program →
    IsToldBy text program (unwrap_or fill 0)
spans_told text entry spans chunks fill found program drafted_is more some finds is =
    told_by_start text (told drafted_is.0 drafted_is.1 spans entry chunks fill) program drafted_is.2 some
    (λ start.
    let same = start.by_spans more in
    sym same ∙ some_is (meant entry spans (listed chunks)) program (sym (finds (subst IsProgram (sym same) start.made)) ∙ is))

pub no_spans_program : (text : List ℕ) (entry : Option ℕ) (spans : List Span) (chunks : List (ℕ × ℕ)) (fill : Option ℕ) →
    IsDraftOfSpans text entry spans chunks fill →
    0 < length spans → 0 < length text → (IsProgram (meant entry spans (listed chunks)) → None ≡ Some (meant entry spans (listed chunks))) →
    IsTrue (are_lines text) → BeginsListing text → ⊥
no_spans_program text entry spans chunks fill drafted_is more some finds whole begun =
    let start = start_of text (told drafted_is.0 drafted_is.1 spans entry chunks fill) whole begun drafted_is.2 some in
    none_some (meant entry spans (listed chunks)) (finds (subst IsProgram (sym (start.by_spans more)) start.made))

-- by neither
pub no_program_told : (text : List ℕ) (d : Draft) → drafted text ≡ Some d → d.base ≡ None → length d.spans ≡ 0 → 0 < length text →
    IsTrue (are_lines text) → BeginsListing text → ⊥
no_program_told text d is none no_spans some whole begun = by (begun_starts text begun whole)
  where
    neither : (by : Bool) (program : RiscProgram) (fill : Option ℕ) → IsProgram program → begins_at_base program ≡ by →
        draft_by by program fill ≡ d → ⊥
    neither true program fill made by same = none_some program.base (sym none ∙ ap (λ (d : Draft). d.base) (sym same))
    neither false program fill made by same =
        some_spans program.base program.spans by (sym (ap (λ (d : Draft). length d.spans) (sym same)) ∙ no_spans)

    by : Starts text → ⊥
    by (inl nothing) = absurd (let e = ap length nothing in omega arith)
    by (inr (inl part)) =
        neither (begins_at_base part.program) part.program None part.made refl
        (some_is (draft_of part.program None) d (sym (trunk_is_read part.program part.made) ∙ ap drafted (sym part.is) ∙ is))
    by (inr (inr (inl are))) =
        let same : record blank {
          spans = are.spans;
        } ≡ d = some_is (record blank { spans = are.spans }) d (sym (spans_are_read are.spans are.apart) ∙ ap drafted (sym are.is) ∙ is) in
        no_text are.spans (ap (λ (d : Draft). length d.spans) same ∙ no_spans) (let e = ap length are.is in omega arith)
    by (inr (inr (inr (program, fill, (listed_is, same))))) =
        neither (begins_at_base program) program (Some fill) listed_is.made refl
        (some_is (draft_of program (Some fill)) d (sym (listing_is_read program fill listed_is) ∙ ap drafted same ∙ is))

-- ---- verdicts

-- so many bytes begin a listing
pub begun_nowhere : (text : List ℕ) → IsBegun text 0
begun_nowhere text = (omega arith, starts_begun [] (inl refl))

pub begun_alike : (text : List ℕ) (program : RiscProgram) (fill n : ℕ) → IsListed program fill → IsAlike n text (listing program fill) →
    IsBegun text n
begun_alike text program fill n listed_is alike =
    let starts = alike.starts in
    (starts.within, (starts.more, (program, fill, (listed_is, starts.is))))

pub begins_all : (text : List ℕ) (program : RiscProgram) (fill n : ℕ) → IsListed program fill → IsToldBy text program fill →
    IsAlike n text (listing program fill) → n ≡ length text →
    BeginsListing text × (IsListing text → ⊥)
begins_all text program fill n listed_is told_is alike all =
    let starts = alike.starts in (
      (
        starts.more,
        (
          program,
          fill,
          (listed_is, starts.is ∙ ap (λ (list : List ℕ). list ++ starts.more) (ap (λ (n : ℕ). take n text) all ∙ take-length text)),
        ),
      ),
      λ found. alike.other (sym (told_is.whole found)),
    )

pub begins_none : (text : List ℕ) (program : RiscProgram) (fill n : ℕ) → IsListed program fill → IsToldBy text program fill →
    IsAlike n text (listing program fill) → (n ≡ length text → ⊥) →
    IsBegun text n × (IsTrue (are_lines text) → BeginsListing text → ⊥)
begins_none text program fill n listed_is told_is alike short = (
  begun_alike text program fill n listed_is alike,
  λ whole begun. (let front = told_is.front whole begun in let within = alike.starts.within in alike.apart (omega arith) front.0 front.1),
)

nothing_drafted : drafted [] ≡ Some blank
unfolding gathered
nothing_drafted = refl

pub none_begins_none_is : (text : List ℕ) → length text ≡ 0 → BeginsListing text × (IsListing text → ⊥)
none_begins_none_is [] none = (
  starts_begun [] (inl refl),
  λ all.
      let same : Some blank ≡ Some (draft_of all.0 (Some all.1)) =
      sym nothing_drafted ∙ ap drafted (sym all.2.1) ∙ listing_is_read all.0 all.1 all.2.0 in
      none_some all.1 (ap (λ (d : Draft). d.fill) (some_is blank (draft_of all.0 (Some all.1)) same) ∙ draft_fill all.0 (Some all.1)),
)
none_begins_none_is (byte ∷ rest) none = absurd (omega arith)

pub no_spans_left : (spans : List Span) → length spans ≡ 0 → spans ≡ []
no_spans_left [] none = refl
no_spans_left (s ∷ rest) none = absurd (omega arith)
