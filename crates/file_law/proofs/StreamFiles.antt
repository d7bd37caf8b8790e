-- A file without a fault spells one list of records of one form.
use Rattle.std.proofs.Common.{◌≡◌, ℕ, ◌+◌, ◌≤◌, Bool, true, false, cond, List, [], ◌∷◌, ◌++◌, length, take, drop, Option, Some, None}
use Rattle.std.proofs.Common.{Result, Ok, Err, refl, sym, ap, ◌∙◌, arith, slice_index}
use Rattle.std.specs.Prelude.{codes, nat_lt, ◌==◌}
use Rattle.std.proofs.lemmas.Bool.{eqb-true}
use Rattle.std.proofs.lemmas.Bool.Decides.{nat_tests}
use Rattle.byteorder.specs.Endian.{little_number, little_bytes}
use Rattle.capture_file.specs.declared.FileFault.{FileFault}
use Rattle.capture_file.specs.declared.Step.{Step}
use Rattle.capture_file.specs.declared.records.Form.{Form}
use Rattle.capture_file.specs.declared.records.Form.TheVariants.{Bfs1, Bfs2, Bfs3}
use Rattle.capture_file.specs.Streams.{Ending, Unfinished, Ended, Bad, Reading, form_of, judged, opened, reading, records, steps_of}
use Rattle.capture_file.specs.Streams.{stream_of, too_long, whole_file, within_if}
use Rattle.capture_file.proofs.Chunks.{IsBytes, IsBytes-drop}
use Rattle.capture_file.proofs.FourBytes.{four_back}
use Rattle.file_law.specs.StreamSpellings.{AreRecords, HasSpelling, first_steps, form_name, is_chained, spelled}
use Rattle.file_law.proofs.ReadBack.{spelled_back, stream_back}
use Rattle.file_law.proofs.Records.{AreSpelled, records_spell}

-- ---- a file that is read ends with its end record, within the limit

pub record IsRead (found : Reading) (read : List Step) : Type 0 where
  pub ended : found.ending ≡ Ended
  pub steps : found.steps ≡ read

steps_in : Result (List Step) FileFault → List Step
steps_in (Ok steps) = steps
steps_in (Err fault) = []

abbrev is_read : Result (List Step) FileFault → Bool
is_read (Ok steps) = true
is_read (Err fault) = false

whole_read : (count : ℕ) (steps read : List Step) (ending : Ending) → whole_file count steps ending ≡ Ok read →
    IsRead (reading steps ending) read
unfolding steps_in
whole_read count steps read Unfinished e = absurd (let no : false ≡ true = ap is_read e in cc)
whole_read count steps read Ended e = record { ended = refl; steps = ap steps_in e }
whole_read count steps read (Bad fault) e = absurd (let no : false ≡ true = ap is_read e in cc)

abbrev is_ended : Ending → Bool
is_ended Unfinished = false
is_ended Ended = true
is_ended (Bad fault) = false

never_long : (limit : ℕ) (ending : Ending) → too_long limit ending ≡ Ended → ⊥
never_long limit Unfinished e = let no : false ≡ true = ap is_ended e in cc
never_long limit Ended e = let no : false ≡ true = ap is_ended e in cc
never_long limit (Bad fault) e = let no : false ≡ true = ap is_ended e in cc

within_ended : (limit count : ℕ) (below : Reading) (test : Bool) → nat_lt limit count ≡ test → (within_if test limit below).ending ≡ Ended →
    count ≤ limit
within_ended limit count below true long e = absurd (never_long limit below.ending e)
within_ended limit count below false short e = grind (arith, nat_tests)

ended_short : (limit : ℕ) (chained : Bool) (bytes : List ℕ) → (stream_of limit chained bytes).ending ≡ Ended → length bytes ≤ limit
unfolding stream_of
ended_short limit chained bytes e =
    within_ended limit (length bytes) (judged chained (take limit bytes)) (nat_lt limit (length bytes)) refl e

-- ---- the first word

-- a first word that names a form is the name's
abbrev pub Names : Bool → ℕ → Option Form → Type 0
Names chained word None = Unit {0}
Names chained word (Some form) = (is_chained form ≡ chained) × (word ≡ little_number 4 (form_name form))

named_if : (chained : Bool) (word : ℕ) (form : Form) (rest : Option Form) (test : Bool) → (test ≡ true → Names chained word (Some form)) →
    Names chained word rest →
    Names chained word (cond test (Some form) rest)
named_if chained word form rest true at_true at_false = at_true refl
named_if chained word form rest false at_true at_false = at_false

pub word_names : (chained : Bool) (word : ℕ) → Names chained word (form_of chained word)
word_names true word =
    named_if true word Bfs3 None (word == little_number 4 (codes "BFS3")) (λ e. (refl, eqb-true word (little_number 4 (codes "BFS3")) e)) tt
word_names false word =
    named_if false word Bfs1 _ (word == little_number 4 (codes "BFS1")) (λ e. (refl, eqb-true word (little_number 4 (codes "BFS1")) e))
    (named_if false word Bfs2 None (word == little_number 4 (codes "BFS2"))
    (λ e. (refl, eqb-true word (little_number 4 (codes "BFS2")) e)) tt)

pub name_back : (form : Form) → little_bytes 4 (little_number 4 (form_name form)) ≡ form_name form
name_back Bfs1 = refl
name_back Bfs2 = refl
name_back Bfs3 = refl

-- ---- the records behind it

record IsOpened (form : Form) (read : List Step) (rest : List ℕ) : Type 0 where
  steps : List Step
  stands_for : read ≡ first_steps form ++ steps
  spelled : AreSpelled form 0 rest steps

form_spells : (form : Form) (rest : List ℕ) → IsBytes rest → (opened (Some form) rest).ending ≡ Ended →
    IsOpened form (opened (Some form) rest).steps rest
form_spells Bfs1 rest fits ended =
    record {
      steps = (records Bfs1 0 4 0 rest).steps;
      stands_for = refl;
      spelled = records_spell Bfs1 (length rest) 0 4 rest (omega arith) (omega arith) fits ended;
    }
form_spells Bfs2 rest fits ended =
    record {
      steps = (records Bfs2 0 4 0 rest).steps;
      stands_for = refl;
      spelled = records_spell Bfs2 (length rest) 0 4 rest (omega arith) (omega arith) fits ended;
    }
form_spells Bfs3 rest fits ended =
    record {
      steps = (records Bfs3 0 4 0 rest).steps;
      stands_for = refl;
      spelled = records_spell Bfs3 (length rest) 0 4 rest (omega arith) (omega arith) fits ended;
    }

-- a file without a limit
abbrev HasForm : Bool → List ℕ → List Step → Type 0
HasForm chained bytes read =
    (form : Form) × (steps : List Step) × (AreRecords form steps) × (bytes ≡ spelled form steps) × (is_chained form ≡ chained)
    × (read ≡ first_steps form ++ steps)

opened_spells : (chained : Bool) (a b c d : ℕ) (rest : List ℕ) (found : Option Form) →
    Names chained (little_number 4 (a ∷ b ∷ c ∷ d ∷ [])) found → IsBytes (a ∷ b ∷ c ∷ d ∷ rest) →
    (opened found rest).ending ≡ Ended → HasForm chained (a ∷ b ∷ c ∷ d ∷ rest) (opened found rest).steps
opened_spells chained a b c d rest None names fits ended = absurd (let no : false ≡ true = ap is_ended ended in cc)
opened_spells chained a b c d rest (Some form) names fits ended =
    let is = form_spells form rest (IsBytes-drop 4 (a ∷ b ∷ c ∷ d ∷ rest) fits) ended in
    let all = is.spelled in
    let name : a ∷ b ∷ c ∷ d ∷ [] ≡ form_name form = sym (four_back a b c d rest fits) ∙ ap (little_bytes 4) names.1 ∙ name_back form in (
      form,
      is.steps,
      record { each = all.each; few = let few = all.few in omega (arith, few) },
      ap (λ (zs : List ℕ). zs ++ rest) name ∙ ap (λ (zs : List ℕ). form_name form ++ zs) all.same,
      names.0,
      is.stands_for,
    )

judged_spells : (chained : Bool) (bytes : List ℕ) → IsBytes bytes → (judged chained bytes).ending ≡ Ended →
    HasForm chained bytes (judged chained bytes).steps
judged_spells chained [] fits ended = absurd (let no : false ≡ true = ap is_ended ended in cc)
judged_spells chained (a ∷ []) fits ended = absurd (let no : false ≡ true = ap is_ended ended in cc)
judged_spells chained (a ∷ b ∷ []) fits ended = absurd (let no : false ≡ true = ap is_ended ended in cc)
judged_spells chained (a ∷ b ∷ c ∷ []) fits ended = absurd (let no : false ≡ true = ap is_ended ended in cc)
judged_spells chained (a ∷ b ∷ c ∷ d ∷ rest) fits ended =
    opened_spells chained a b c d rest (form_of chained (little_number 4 (a ∷ b ∷ c ∷ d ∷ [])))
    (word_names chained (little_number 4 (a ∷ b ∷ c ∷ d ∷ []))) fits ended

pub has_spelling : (limit : ℕ) (chained : Bool) (bytes : List ℕ) (read : List Step) → IsBytes bytes →
    steps_of limit chained bytes ≡ Ok read → HasSpelling limit chained bytes read
has_spelling limit chained bytes read fits e =
    let found : Reading = stream_of limit chained bytes in
    let is = whole_read (length bytes) found.steps read found.ending e in
    let short = ended_short limit chained bytes is.ended in
    let same = stream_back limit chained bytes short in
    let h = judged_spells chained bytes fits (sym (ap (λ (r : Reading). r.ending) same) ∙ is.ended) in (
      h.0,
      h.1,
      record {
        records = h.2;
        same = h.3;
        kind = h.4;
        stands_for = sym is.steps ∙ ap (λ (r : Reading). r.steps) same ∙ h.5;
        short = short;
      },
    )

-- ---- one encoding

-- the fourth byte, by which the forms differ
abbrev fourth : List ℕ → ℕ
fourth bytes = slice_index bytes 3

abbrev ok : List Step → Result (List Step) FileFault
ok steps = Ok steps

steps_same : (form : Form) (steps others : List Step) → ok (first_steps form ++ steps) ≡ ok (first_steps form ++ others) → steps ≡ others
unfolding steps_in
steps_same Bfs1 steps others e = ap steps_in e
steps_same Bfs2 steps others e = ap (drop 1) (ap steps_in e)
steps_same Bfs3 steps others e = ap (drop 1) (ap steps_in e)

read_same : (form : Form) (steps others : List Step) → AreRecords form steps → AreRecords form others →
    spelled form steps ≡ spelled form others → steps ≡ others
read_same form steps others are too e =
    let limit : ℕ = length (spelled form steps) + length (spelled form others) in
    steps_same form steps others
    (sym (spelled_back form steps limit are (omega arith))
    ∙ ap (steps_of limit (is_chained form)) e
    ∙ spelled_back form others limit too (omega arith))

pub one_spelling : (form other : Form) (steps others : List Step) → AreRecords form steps → AreRecords other others →
    spelled form steps ≡ spelled other others → (form ≡ other) × (steps ≡ others)
one_spelling Bfs1 Bfs1 steps others are too e = (refl, read_same Bfs1 steps others are too e)
one_spelling Bfs2 Bfs2 steps others are too e = (refl, read_same Bfs2 steps others are too e)
one_spelling Bfs3 Bfs3 steps others are too e = (refl, read_same Bfs3 steps others are too e)
one_spelling Bfs1 Bfs2 steps others are too e = absurd (let no : 49 ≡ 50 = ap fourth e in omega arith)
one_spelling Bfs1 Bfs3 steps others are too e = absurd (let no : 49 ≡ 51 = ap fourth e in omega arith)
one_spelling Bfs2 Bfs1 steps others are too e = absurd (let no : 50 ≡ 49 = ap fourth e in omega arith)
one_spelling Bfs2 Bfs3 steps others are too e = absurd (let no : 50 ≡ 51 = ap fourth e in omega arith)
one_spelling Bfs3 Bfs1 steps others are too e = absurd (let no : 51 ≡ 49 = ap fourth e in omega arith)
one_spelling Bfs3 Bfs2 steps others are too e = absurd (let no : 51 ≡ 50 = ap fourth e in omega arith)
