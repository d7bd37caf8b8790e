-- No two answers but out of memory fit one text.
use Rattle.std.proofs.Common.{◌≡◌, ℕ, ◌+◌, ◌≤◌, ◌⊎◌, inl, inr, Bool, true, false, not, ◌&&◌, List, [], ◌∷◌, ◌++◌, length, Result, Ok, Err}
use Rattle.std.proofs.Common.{refl, sym, ap, subst, ◌∙◌, arith}
use Rattle.std.specs.Prelude.{◌==◌, if◌then◌else◌}
use Rattle.std.proofs.lemmas.Bool.{and_parts, eqb-true}
use Rattle.std.proofs.lemmas.List.{append_assoc, append-nil}
use Rattle.std.proofs.lemmas.List.Sums.{sum_by-cons}
use Rattle.risc_listing.specs.Listings.{fill_line}
use Rattle.risc_text.specs.Assembly.{Assembles, BeginsListing, EndsShort, IsListing, IsRestAtFault, IsWrongLine, LineAtFault, are_lines}
use Rattle.risc_text.specs.Assembly.{has_no_newline, line_count}
use Rattle.risc_text.proofs.Cutting.{Past, cut_line, listing_begins, later_lines, not_newline, trunk_and_last}
use Rattle.risc_text.proofs.Gathering.{one_program, trunk}
use Rattle.risc_text.proofs.Plain.{IsLine, fill_line-is}
use Rattle.risc_text.proofs.TwoWords.{first_is}
use Rattle.capture_file.specs.declared.program.ProgramFile.{ProgramFile}
use Rattle.risc_asm.specs.Answers.{Answers, IsFault, IsTold, most_bytes}
use Rattle.risc_asm.specs.declared.AsmError.{AsmError}
use Rattle.risc_asm.specs.declared.AsmError.TheVariants.{Bad, Memory}
use Rattle.risc_asm.specs.declared.AsmFault.{AsmFault}
use Rattle.risc_asm.specs.declared.AsmFault.TheVariants.{Line, Short, TooLong}

-- ---- lists

-- the second front is the first and more
record Goes (front rest other left : List ℕ) : Type 0 where
  more : List ℕ
  other_is : other ≡ front ++ more
  rest_is : rest ≡ more ++ left

cons_rest : (a b : ℕ) (x y : List ℕ) → a ∷ x ≡ b ∷ y → x ≡ y
cons_rest a b x y e = cc

goes_on : (a b : ℕ) (front rest other left : List ℕ) → a ≡ b → Goes front rest other left → Goes (a ∷ front) rest (b ∷ other) left
goes_on a b front rest other left same goes =
    record { more = goes.more; other_is = (let back = sym same in λ i. back i ∷ goes.other_is i); rest_is = goes.rest_is }

-- of two fronts of a list one goes on the other
two_fronts : (front rest other left : List ℕ) → front ++ rest ≡ other ++ left → Goes front rest other left ⊎ Goes other left front rest
two_fronts [] rest other left e = inl (record { more = other; other_is = refl; rest_is = e })
two_fronts (a ∷ front) rest [] left e = inr (record { more = a ∷ front; other_is = refl; rest_is = sym e })
two_fronts (a ∷ front) rest (b ∷ other) left e =
    let first = first_is a b (front ++ rest) (other ++ left) e in
    elim (two_fronts front rest other left (cons_rest a b (front ++ rest) (other ++ left) e)) as
    (λ _. Goes (a ∷ front) rest (b ∷ other) left ⊎ Goes (b ∷ other) left (a ∷ front) rest) [
      | inl goes ↦ inl (goes_on a b front rest other left first goes)
      | inr goes ↦ inr (goes_on b a other left front rest (sym first) goes)
    ]

-- ---- whole lines

last_lines : (front rest : List ℕ) → are_lines (front ++ rest) ≡ true → are_lines rest ≡ true
last_lines [] rest is = is
last_lines (byte ∷ front) rest is = last_lines front rest (later_lines byte (front ++ rest) is)

newline_last : (front : List ℕ) → are_lines (front ++ 10 ∷ []) ≡ true
newline_last [] = refl
newline_last (byte ∷ []) = refl
newline_last (byte ∷ second ∷ front) = newline_last (second ∷ front)

-- a text without a newline that is whole lines is empty
plain_lines : (text : List ℕ) → has_no_newline text ≡ true → are_lines text ≡ true → text ≡ []
plain_lines [] plain whole = refl
plain_lines (byte ∷ []) plain whole =
    let parts = and_parts (not (byte == 10)) (has_no_newline []) plain in absurd (not_newline byte parts.0 whole)
plain_lines (byte ∷ second ∷ rest) plain whole =
    let parts = and_parts (not (byte == 10)) (has_no_newline (second ∷ rest)) plain in
    let none = plain_lines (second ∷ rest) parts.1 whole in
    absurd (let no : length (second ∷ rest) ≡ 0 = ap (λ (list : List ℕ). length list) none in omega arith)

plain_front : (front rest : List ℕ) → has_no_newline (front ++ rest) ≡ true → has_no_newline front ≡ true
plain_front [] rest plain = refl
plain_front (byte ∷ front) rest plain =
    let parts = and_parts (not (byte == 10)) (has_no_newline (front ++ rest)) plain in
    ap (λ (test : Bool). test && has_no_newline front) parts.0 ∙ plain_front front rest parts.1

plain_rest : (front rest : List ℕ) → has_no_newline (front ++ rest) ≡ true → has_no_newline rest ≡ true
plain_rest [] rest plain = plain
plain_rest (byte ∷ front) rest plain =
    let parts = and_parts (not (byte == 10)) (has_no_newline (front ++ rest)) plain in plain_rest front rest parts.1

-- a line is not without a newline
line_not_plain : (line : List ℕ) → IsLine line → has_no_newline line ≡ true → ⊥
line_not_plain line is plain =
    let shown : has_no_newline (is.front ++ 10 ∷ []) ≡ true = ap has_no_newline (sym is.is) ∙ plain in
    let last : has_no_newline (10 ∷ []) ≡ true = plain_rest is.front (10 ∷ []) shown in
    cc

-- a newline counts
abbrev counted : Bool → ℕ
counted test = if test then 1 else 0

line_count-cons : (byte : ℕ) (rest : List ℕ) → line_count (byte ∷ rest) ≡ counted (byte == 10) + line_count rest
line_count-cons byte rest = sum_by-cons (λ (byte : ℕ). counted (byte == 10)) byte rest

-- whole lines that are some have a newline
some_lines : (byte : ℕ) (rest : List ℕ) → are_lines (byte ∷ rest) ≡ true → 1 ≤ line_count (byte ∷ rest)
some_lines byte [] whole =
    let count = line_count-cons byte [] in
    let one : counted (byte == 10) ≡ 1 = ap counted whole in
    omega (arith, count, one)
some_lines byte (second ∷ rest) whole =
    let count = line_count-cons byte (second ∷ rest) in
    let later = some_lines second rest whole in
    omega (arith, count, later)

one_newline : (byte second : ℕ) (rest : List ℕ) (test : Bool) → (byte == 10) ≡ test → are_lines (second ∷ rest) ≡ true →
    line_count (byte ∷ second ∷ rest) ≡ 1 →
    (test ≡ false) × (line_count (second ∷ rest) ≡ 1)
one_newline byte second rest true is whole one =
    let count = line_count-cons byte (second ∷ rest) in
    let first : counted (byte == 10) ≡ 1 = ap counted is in
    let later = some_lines second rest whole in
    absurd (omega (arith, count, first, later, one))
one_newline byte second rest false is whole one =
    let count = line_count-cons byte (second ∷ rest) in
    let first : counted (byte == 10) ≡ 0 = ap counted is in
    (refl, omega (arith, count, first, one))

line_is : (line : List ℕ) → are_lines line ≡ true → line_count line ≡ 1 → IsLine line
line_is [] whole one = absurd (omega arith)
line_is (byte ∷ []) whole one =
    record { front = []; is = (let same = eqb-true byte 10 whole in ap (λ (b : ℕ). b ∷ []) same); plain = refl }
line_is (byte ∷ second ∷ rest) whole one =
    let parts = one_newline byte second rest (byte == 10) refl whole one in
    let later = line_is (second ∷ rest) whole parts.1 in
    record {
      front = byte ∷ later.front;
      is = ap (λ (list : List ℕ). byte ∷ list) later.is;
      plain = ap (λ (test : Bool). not test && has_no_newline later.front) parts.0 ∙ later.plain;
    }

-- ---- the lines of a text

-- the whole lines of a text, and what is after the last newline
record SameLines (lines other rest left : List ℕ) : Type 0 where
  lines_same : lines ≡ other
  rest_same : rest ≡ left

longer_same : (lines rest other left : List ℕ) → Goes lines rest other left → are_lines other ≡ true → has_no_newline rest ≡ true →
    SameLines lines other rest left
longer_same lines rest other left goes whole plain =
    let more_whole : are_lines goes.more ≡ true = last_lines lines goes.more (ap are_lines (sym goes.other_is) ∙ whole) in
    let more_plain : has_no_newline goes.more ≡ true = plain_front goes.more left (ap has_no_newline (sym goes.rest_is) ∙ plain) in
    let none = plain_lines goes.more more_plain more_whole in
    record {
      lines_same = sym (append-nil lines) ∙ ap (λ (list : List ℕ). lines ++ list) (sym none) ∙ sym goes.other_is;
      rest_same = goes.rest_is ∙ ap (λ (list : List ℕ). list ++ left) none;
    }

same_lines : (lines rest other left : List ℕ) → lines ++ rest ≡ other ++ left → are_lines lines ≡ true → are_lines other ≡ true →
    has_no_newline rest ≡ true → has_no_newline left ≡ true →
    SameLines lines other rest left
same_lines lines rest other left e whole other_whole plain other_plain =
    elim (two_fronts lines rest other left e) as (λ _. SameLines lines other rest left) [
      | inl goes ↦ longer_same lines rest other left goes other_whole plain
      | inr goes ↦ (let back = longer_same other left lines rest goes whole other_plain in
          record { lines_same = sym back.lines_same; rest_same = sym back.rest_same })
    ]

-- a line within a text is one of its whole lines
record IsWithin (before line lines : List ℕ) : Type 0 where
  more : List ℕ
  lines_are : lines ≡ (before ++ line) ++ more

past_within : (before line after lines rest more : List ℕ) → lines ≡ before ++ more → Past line after more rest → IsWithin before line lines
past_within before line after lines rest more is past =
    record {
      more = past.more;
      lines_are = is ∙ ap (λ (list : List ℕ). before ++ list) past.lines_are ∙ sym (append_assoc before line past.more);
    }

line_within : (before line after lines rest : List ℕ) → before ++ (line ++ after) ≡ lines ++ rest → IsLine line → are_lines lines ≡ true →
    has_no_newline rest ≡ true → IsWithin before line lines
line_within before line after lines rest e is whole plain =
    elim (two_fronts before (line ++ after) lines rest e) as (λ _. IsWithin before line lines) [
      | inl goes ↦
          elim (cut_line line after goes.more rest is goes.rest_is (last_lines before goes.more (ap are_lines (sym goes.other_is) ∙ whole)))
          as (λ _. IsWithin before line lines) [
            | inl none ↦
                absurd (line_not_plain line is
                (plain_front line after (ap has_no_newline (goes.rest_is ∙ ap (λ (list : List ℕ). list ++ rest) none) ∙ plain)))
            | inr past ↦ past_within before line after lines rest goes.more goes.other_is past
          ]
      | inr goes ↦
          absurd (line_not_plain line is
          (plain_front line after (plain_rest goes.more (line ++ after) (ap has_no_newline (sym goes.rest_is) ∙ plain))))
    ]

pub begins_front : (front more : List ℕ) → BeginsListing (front ++ more) → BeginsListing front
begins_front front more begins = (more ++ begins.0, subst IsListing (append_assoc front more begins.0) begins.1)

-- a wrong line is not among lines that begin a listing
never_begun : (before line after lines rest : List ℕ) → before ++ (line ++ after) ≡ lines ++ rest → IsWrongLine before line →
    are_lines lines ≡ true → has_no_newline rest ≡ true →
    BeginsListing lines → ⊥
never_begun before line after lines rest e wrong whole plain begun =
    let within = line_within before line after lines rest e (line_is line wrong.whole wrong.one) whole plain in
    wrong.no_more (begins_front (before ++ line) within.more (subst BeginsListing within.lines_are begun))

-- a listing is whole lines
line_ends : (front line : List ℕ) → IsLine line → are_lines (front ++ line) ≡ true
line_ends front line is =
    ap (λ (list : List ℕ). are_lines (front ++ list)) is.is ∙ ap are_lines (sym (append_assoc front is.front (10 ∷ [])))
    ∙ newline_last (front ++ is.front)

listing_whole : (text : List ℕ) → IsListing text → are_lines text ≡ true
listing_whole text is =
    ap are_lines (sym (trunk_and_last is.0 is.1 ∙ is.2.1)) ∙ line_ends (trunk is.0) (fill_line is.1) (fill_line-is is.1 is.2.0.fill_small)

-- ---- two answers

abbrev answered : ProgramFile → Result ProgramFile AsmError
answered file = Ok file

abbrev refused : AsmFault → Result ProgramFile AsmError
refused fault = Err (Bad fault)

-- where a rest is at fault, nothing is after it
rest_at : {text : List ℕ} {k : ℕ} (fault : LineAtFault text k) → fault.after ≡ [] → text ≡ fault.before ++ fault.line
rest_at fault none =
    fault.parts ∙ ap (λ (list : List ℕ). fault.before ++ (fault.line ++ list)) none
    ∙ ap (λ (list : List ℕ). fault.before ++ list) (append-nil fault.line)

-- lines that begin a listing and go on other lines with a wrong line behind them are no more than those
ahead : (before line after other left : List ℕ) → Goes before (line ++ after) other left → IsWrongLine before line →
    are_lines other ≡ true → BeginsListing other → before ≡ other
ahead before line after other left goes wrong whole begun =
    elim (cut_line line after goes.more left (line_is line wrong.whole wrong.one) goes.rest_is
    (last_lines before goes.more (ap are_lines (sym goes.other_is) ∙ whole))) as (λ _. before ≡ other) [
      | inl none ↦ sym (append-nil before) ∙ ap (λ (list : List ℕ). before ++ list) (sym none) ∙ sym goes.other_is
      | inr past ↦
          (let within = past_within before line after other left goes.more goes.other_is past in
          absurd (wrong.no_more (begins_front (before ++ line) within.more (subst BeginsListing within.lines_are begun))))
    ]

-- two wrong lines are one: that after which lines still begin a listing isn't wrong
wrong_same : (before line after other more rest : List ℕ) → before ++ (line ++ after) ≡ other ++ (more ++ rest) → IsWrongLine before line →
    IsWrongLine other more →
    are_lines before ≡ true → are_lines other ≡ true → {k l : ℕ} → (before ≡ other → k ≡ l) → k ≡ l
wrong_same before line after other more rest e wrong worse whole also {k} {l} counted =
    elim (two_fronts before (line ++ after) other (more ++ rest) e) as (λ _. k ≡ l) [
      | inl goes ↦ counted (ahead before line after other (more ++ rest) goes wrong also worse.so_far)
      | inr goes ↦ counted (sym (ahead other more rest before (line ++ after) goes worse whole wrong.so_far))
    ]

after_none : (text : List ℕ) → text ++ [] ≡ text
after_none text = append-nil text

-- a listing has no line at fault
listing_no_line : (text : List ℕ) (k : ℕ) → IsListing text → LineAtFault text k → ⊥
listing_no_line text k is fault = by_kind fault.wrong
  where
    by_kind : IsWrongLine fault.before fault.line ⊎ ((fault.after ≡ []) × IsRestAtFault fault.before fault.line) → ⊥
    by_kind (inl wrong) =
        never_begun fault.before fault.line fault.after text [] (sym fault.parts ∙ sym (after_none text)) wrong (listing_whole text is) refl
        (listing_begins text is)
    by_kind (inr rest) =
        let some = rest.1.some in
        let same =
        same_lines fault.before fault.line text [] (sym (rest_at fault rest.0) ∙ sym (after_none text)) fault.whole
        (listing_whole text is) rest.1.plain refl in
        let none : length fault.line ≡ 0 = ap (λ (list : List ℕ). length list) same.rest_same in
        omega arith

-- nor is one cut short
listing_not_short : (text : List ℕ) (k : ℕ) → IsListing text → EndsShort text k → ⊥
listing_not_short text k is short =
    let same =
    same_lines short.lines short.rest text [] (sym short.parts ∙ sym (after_none text)) short.whole
    (listing_whole text is) short.plain refl in
    short.unfinished (subst IsListing (sym same.lines_same) is)

-- one line is the first at fault
lines_at_fault_same : (text : List ℕ) (k other : ℕ) → LineAtFault text k → LineAtFault text other → k ≡ other
lines_at_fault_same text k other fault also = by_kinds fault.wrong also.wrong
  where
    joined : fault.before ++ (fault.line ++ fault.after) ≡ also.before ++ (also.line ++ also.after)
    joined = sym fault.parts ∙ also.parts

    numbered : fault.before ≡ also.before → k ≡ other
    numbered same = fault.number ∙ ap (λ (lines : List ℕ). line_count lines + 1) same ∙ sym also.number

    by_kinds : IsWrongLine fault.before fault.line ⊎ ((fault.after ≡ []) × IsRestAtFault fault.before fault.line) →
        IsWrongLine also.before also.line ⊎ ((also.after ≡ []) × IsRestAtFault also.before also.line) → k ≡ other
    by_kinds (inl wrong) (inl worse) =
        wrong_same fault.before fault.line fault.after also.before also.line also.after joined wrong worse fault.whole also.whole numbered
    by_kinds (inl wrong) (inr rest) =
        absurd (never_begun fault.before fault.line fault.after also.before also.line
        (sym fault.parts ∙ rest_at also rest.0) wrong also.whole rest.1.plain (listing_begins also.before rest.1.all))
    by_kinds (inr rest) (inl wrong) =
        absurd (never_begun also.before also.line also.after fault.before fault.line
        (sym also.parts ∙ rest_at fault rest.0) wrong fault.whole rest.1.plain (listing_begins fault.before rest.1.all))
    by_kinds (inr rest) (inr last) =
        let same =
        same_lines fault.before fault.line also.before also.line
        (sym (rest_at fault rest.0) ∙ rest_at also last.0) fault.whole also.whole rest.1.plain last.1.plain in
        numbered same.lines_same

-- a text with a line at fault isn't cut short before it
line_not_short : (text : List ℕ) (k other : ℕ) → LineAtFault text k → EndsShort text other → ⊥
line_not_short text k other fault short = by_kind fault.wrong
  where
    by_kind : IsWrongLine fault.before fault.line ⊎ ((fault.after ≡ []) × IsRestAtFault fault.before fault.line) → ⊥
    by_kind (inl wrong) =
        never_begun fault.before fault.line fault.after short.lines short.rest
        (sym fault.parts ∙ short.parts) wrong short.whole short.plain short.begun
    by_kind (inr rest) =
        let same =
        same_lines fault.before fault.line short.lines short.rest
        (sym (rest_at fault rest.0) ∙ short.parts) fault.whole short.whole rest.1.plain short.plain in
        short.unfinished (subst IsListing same.lines_same rest.1.all)

short_same : (text : List ℕ) (k other : ℕ) → EndsShort text k → EndsShort text other → k ≡ other
short_same text k other short also =
    let same =
    same_lines short.lines short.rest also.lines also.rest (sym short.parts ∙ also.parts) short.whole also.whole short.plain also.plain in
    short.number ∙ ap line_count same.lines_same ∙ sym also.number

faults_same : (text : List ℕ) (first second : AsmFault) → IsFault text first → IsFault text second → first ≡ second
faults_same text (Line k) (Line other) is also = ap (λ (n : ℕ). Line n) (lines_at_fault_same text k other is.1 also.1)
faults_same text (Line k) (Short other) is also = absurd (line_not_short text k other is.1 also.1)
faults_same text (Line k) TooLong is also = absurd (let few = is.0 in omega arith)
faults_same text (Short k) (Line other) is also = absurd (line_not_short text other k also.1 is.1)
faults_same text (Short k) (Short other) is also = ap (λ (n : ℕ). Short n) (short_same text k other is.1 also.1)
faults_same text (Short k) TooLong is also = absurd (let few = is.0 in omega arith)
faults_same text TooLong (Line other) is also = absurd (let few = also.0 in omega arith)
faults_same text TooLong (Short other) is also = absurd (let few = also.0 in omega arith)
faults_same text TooLong TooLong is also = refl

files_same : (text : List ℕ) (file other : ProgramFile) → Assembles text file.program file.fill → Assembles text other.program other.fill →
    file ≡ other
files_same text file other is also =
    let same = one_program file.program other.program file.fill other.fill is.0 also.0 (is.1 ∙ sym also.1) in
    λ i. record { program = same.0 i; fill = same.1 i }

no_fault_too : (text : List ℕ) (file : ProgramFile) (fault : AsmFault) → length text ≤ most_bytes → Assembles text file.program file.fill →
    IsFault text fault → ⊥
no_fault_too text file (Line k) few is fault = listing_no_line text k (file.program, file.fill, is) fault.1
no_fault_too text file (Short k) few is fault = listing_not_short text k (file.program, file.fill, is) fault.1
no_fault_too text file TooLong few is fault = omega arith

pub one_answer : (text : List ℕ) (first second : Result ProgramFile AsmError) → Answers text first → Answers text second → IsTold first →
    IsTold second → first ≡ second
one_answer text (Ok file) (Ok other) is also told too = ap (λ (f : ProgramFile). answered f) (files_same text file other is.1 also.1)
one_answer text (Ok file) (Err (Bad fault)) is also told too = absurd (no_fault_too text file fault is.0 is.1 also)
one_answer text (Ok file) (Err Memory) is also told too = absurd too
one_answer text (Err (Bad fault)) (Ok file) is also told too = absurd (no_fault_too text file fault also.0 also.1 is)
one_answer text (Err (Bad fault)) (Err (Bad other)) is also told too =
    ap (λ (f : AsmFault). refused f) (faults_same text fault other is also)
one_answer text (Err (Bad fault)) (Err Memory) is also told too = absurd too
one_answer text (Err Memory) second is also told too = absurd told
