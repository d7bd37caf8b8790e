-- What a queue's mark means for the line under way, and how applications to the queue's front keep it true.
use Rattle.std.proofs.Common.{◌≡◌, ℕ, zero, suc, ◌+◌, ◌<◌, ◌≤◌, Bool, true, false, ◌&&◌, ◌||◌, ◌==◌, List, [], ◌∷◌, ◌++◌, append_assoc}
use Rattle.std.proofs.Common.{Option, Some, None, if◌then◌else◌, refl, sym, ap, ap₂, ◌∙◌, subst, arith}
use Rattle.std.proofs.Math.Bool.{and-false, and-true}
use Rattle.std.proofs.lemmas.Bool.{and_left, and_right, cond-true, cond-false, eq-eqb, ne_eqb}
use Rattle.std.proofs.lemmas.List.{append-nil}
use Rattle.sync_status.specs.declared.StatusKind.{StatusKind}
use Rattle.sync_status.specs.declared.StatusKind.TheVariants.{Control, Start, Pixels, End, Reserved}
use Rattle.sync_status.specs.Statuses.{is_end, kind_of, valid_bytes}
use Rattle.fifo_model.specs.declared.Entry.{Entry}
use Rattle.fifo_model.specs.Queues.{QueueState, front, removed}
use Rattle.picture_model.proofs.Each.{Each}
use Rattle.field_law.specs.Fields.{begins_line, ends_line, is_ending, is_line}
use Rattle.damage_model.specs.Takings.{Taking}
use Rattle.damage_model.specs.Lines.{entries_taken, go_on, make_line, no_takings}
use Rattle.damage_map.specs.declared.mark.LineMark.{LineMark}
use Rattle.damage_map.specs.declared.mark.LineMark.TheVariants.{Fresh, Within, Done, Spoilt}
use Rattle.damage_map.specs.Tracks.{is_good, left_mark, met_mark, taken_mark}

-- the entries of a line behind one of which something is taken
abbrev pub shape_after : StatusKind → List Entry → Bool
shape_after Start rest = is_ending rest
shape_after (Control code) rest = false
shape_after Pixels rest = is_ending rest
shape_after (End count) rest = ends_line (End count) rest (is_ending rest)
shape_after Reserved rest = false

-- from its next byte on: within the front of its queue, or at the next entry
abbrev pub shape_from : ℕ → Option Entry → List Taking → Bool
shape_from zero top more = is_ending (entries_taken more)
shape_from (suc taken) None more = false
shape_from (suc taken) (Some entry) more = shape_after (kind_of entry.status) (entries_taken more)

-- takings that end a line of which something is taken
abbrev pub goes_on : ℕ → QueueState → List Taking → Bool
goes_on place held more = go_on place held.taken more && shape_from held.taken (front held) more

abbrev pub AllFrom : ℕ → List Taking → Type 0
AllFrom place more = Each (λ t. place ≤ t.place) more

-- what a mark means for the takings of a line, where so many entries left the queue
abbrev pub Tells : ℕ → QueueState → List Taking → LineMark → Type 0
Tells place held ts Fresh = ts ≡ []
Tells place held ts Within = (more : List Taking) → make_line (ts ++ more) ≡ goes_on place held more
Tells place held ts Done = (more : List Taking) → make_line (ts ++ more) ≡ no_takings more
Tells place held ts Spoilt = (more : List Taking) → AllFrom place more → make_line (ts ++ more) ≡ false

-- ---- at the end of a line

unfinished : (taken : ℕ) (top : Option Entry) → (taken == 0 && shape_from taken top []) ≡ false
unfinished zero top = and_right (0 == 0) (shape_from 0 top []) refl
unfinished (suc taken) top = and_left (suc taken == 0) (shape_from (suc taken) top []) (ne_eqb (suc taken) 0 (λ none. absurd (omega arith)))

-- a queue's takings make a line where its mark is good
pub tells-good : (place : ℕ) (held : QueueState) (ts : List Taking) (mark : LineMark) → Tells place held ts mark →
    make_line ts ≡ is_good mark
tells-good place held ts Fresh tells = ap make_line tells
tells-good place held ts Within tells = ap make_line (sym (append-nil ts)) ∙ tells [] ∙ unfinished held.taken (front held)
tells-good place held ts Done tells = ap make_line (sym (append-nil ts)) ∙ tells []
tells-good place held ts Spoilt tells = ap make_line (sym (append-nil ts)) ∙ tells [] tt

-- ---- an entry leaves of which nothing is taken

past : (place behind : ℕ) (held : QueueState) (more : List Taking) → place < behind → AllFrom behind more → goes_on place held more ≡ false
past place behind held [] less all = unfinished held.taken (front held)
past place behind held (t ∷ rest) less all =
    let later = all.0 in
    and_left (go_on place held.taken (t ∷ rest)) (shape_from held.taken (front held) (t ∷ rest))
    (and_left (t.place == place && t.taken == held.taken) _
    (and_left (t.place == place) (t.taken == held.taken) (ne_eqb t.place place (λ same. absurd (omega arith)))))

pub from_later : (place behind : ℕ) (more : List Taking) → place ≤ behind → AllFrom behind more → AllFrom place more
from_later place behind [] less all = tt
from_later place behind (t ∷ rest) less all = let here = all.0 in (omega arith, from_later place behind rest less all.1)

pub left-tells : (place behind : ℕ) (held after : QueueState) (ts : List Taking) (mark : LineMark) → place < behind →
    Tells place held ts mark → Tells behind after ts (left_mark mark)
left-tells place behind held after ts Fresh less tells = tells
left-tells place behind held after ts Within less tells = λ more all. tells more ∙ past place behind held more less all
left-tells place behind held after ts Done less tells = tells
left-tells place behind held after ts Spoilt less tells = λ more all. tells more (from_later place behind more (omega arith) all)

-- ---- nothing leaves

same_shape : (taken : ℕ) (top other : Option Entry) (more : List Taking) → (0 < taken → other ≡ top) →
    shape_from taken top more ≡ shape_from taken other more
same_shape zero top other more same = refl
same_shape (suc taken) top other more same = ap (λ (t : Option Entry). shape_from (suc taken) t more) (sym (same (omega arith)))

pub kept-tells : (place : ℕ) (held after : QueueState) (ts : List Taking) (mark : LineMark) → after.taken ≡ held.taken →
    (0 < held.taken → front after ≡ front held) →
    Tells place held ts mark → Tells place after ts mark
kept-tells place held after ts Fresh count top tells = tells
kept-tells place held after ts Within count top tells =
    λ more.
    tells more
    ∙ ap (λ (shape : Bool). go_on place held.taken more && shape) (same_shape held.taken (front held) (front after) more top)
    ∙ ap (λ (taken : ℕ). go_on place taken more && shape_from taken (front after) more) (sym count)
kept-tells place held after ts Done count top tells = tells
kept-tells place held after ts Spoilt count top tells = tells

-- ---- bytes are taken

-- such an entry has bytes
abbrev pub has_lanes : StatusKind → Bool
has_lanes Start = true
has_lanes (Control code) = false
has_lanes Pixels = true
has_lanes (End count) = true
has_lanes Reserved = false

end_alone : (place : ℕ) (more : List Taking) →
    (go_on place 0 more && ends_line (End 4) (entries_taken more) (is_ending (entries_taken more))) ≡ no_takings more
end_alone place [] = eq-eqb 0 0 refl
end_alone place (t ∷ rest) = by_taken (t.taken == 0) refl
  where
    by_taken : (begins : Bool) → (t.taken == 0) ≡ begins →
        (go_on place 0 (t ∷ rest) && ends_line (End 4) (entries_taken (t ∷ rest)) (is_ending (entries_taken (t ∷ rest)))) ≡ false
    by_taken true is =
        and_right (go_on place 0 (t ∷ rest)) _ (ap (λ (es : List Entry). ends_line (End 4) es (is_ending es))
        (cond-true (t.taken == 0) (t.entry ∷ entries_taken rest) (entries_taken rest) is))
    by_taken false is =
        and_left (go_on place 0 (t ∷ rest)) _
        (and_left (t.place == place && t.taken == 0) _ (and_right (t.place == place) (t.taken == 0) is))

module _ (at place : ℕ) (held : QueueState) (entry : Entry) (count : ℕ) (there : front held ≡ Some entry)
    (some : 0 < held.taken + count) where
  abbrev pub taking : Taking
  taking = record { at = at; place = place; entry = entry; taken = held.taken; count = count }

  abbrev pub place_after : Bool → ℕ
  place_after whole = if whole then place + 1 else place

  abbrev pub held_after : Bool → QueueState
  held_after whole = if whole then removed held else record held { taken = held.taken + count }

  abbrev goes_behind : Bool → List Taking → Bool
  goes_behind whole more = if whole then go_on (place + 1) 0 more else go_on place (held.taken + count) more

  go_here : (more : List Taking) →
      go_on place held.taken (taking ∷ more) ≡ goes_behind (held.taken + count == valid_bytes entry.status) more
  go_here more =
      ap₂ (λ (p q : Bool). p && q && goes_behind (held.taken + count == valid_bytes entry.status) more) (eq-eqb place place refl)
      (eq-eqb held.taken held.taken refl)

  shape_behind : (kind : StatusKind) (rest : List Entry) → has_lanes kind ≡ true → (kind ≡ Start → ⊥) →
      ends_line kind rest (is_ending rest) ≡ shape_after kind rest
  shape_behind Start rest lanes begins = absurd (begins refl)
  shape_behind (Control code) rest lanes begins = refl
  shape_behind Pixels rest lanes begins = refl
  shape_behind (End count) rest lanes begins = refl
  shape_behind Reserved rest lanes begins = refl

  shape_here : (taken : ℕ) (top : Option Entry) (more : List Taking) → held.taken ≡ taken → top ≡ Some entry →
      has_lanes (kind_of entry.status) ≡ true →
      (taken ≡ 0 → kind_of entry.status ≡ Start → ⊥) →
      shape_from taken top (taking ∷ more) ≡ shape_after (kind_of entry.status) (entries_taken more)
  shape_here zero top more same is lanes begins =
      ap is_ending (cond-true (held.taken == 0) (entry ∷ entries_taken more) (entries_taken more) (eq-eqb held.taken 0 same))
      ∙ shape_behind (kind_of entry.status) (entries_taken more) lanes (begins refl)
  shape_here (suc taken) top more same is lanes begins =
      ap (λ (t : Option Entry). shape_from (suc taken) t (taking ∷ more)) is
      ∙ ap (shape_after (kind_of entry.status))
      (cond-false (held.taken == 0) (entry ∷ entries_taken more) (entries_taken more) (ne_eqb held.taken 0 (λ none. absurd (omega arith))))

  -- the takings go on behind this one
  abbrev GoesOn : List Taking → StatusKind → Bool → Type 0
  GoesOn ts kind whole =
      (more : List Taking) → make_line (ts ++ taking ∷ more) ≡ (goes_behind whole more && shape_after kind (entries_taken more))

  regrouped : (ts more : List Taking) → make_line ((ts ++ taking ∷ []) ++ more) ≡ make_line (ts ++ taking ∷ more)
  regrouped ts more = ap make_line (append_assoc ts (taking ∷ []) more)

  shape_positive : (taken : ℕ) (more : List Taking) → 0 < taken →
      shape_from taken (front held) more ≡ shape_after (kind_of entry.status) (entries_taken more)
  shape_positive zero more less = absurd (omega arith)
  shape_positive (suc taken) more less = ap (λ (t : Option Entry). shape_from (suc taken) t more) there

  part_of : (ts : List Taking) → GoesOn ts (kind_of entry.status) false → Tells place (held_after false) (ts ++ taking ∷ []) Within
  part_of ts on =
      λ more. regrouped ts more ∙ on more
      ∙ ap (λ (shape : Bool). go_on place (held.taken + count) more && shape) (sym (shape_positive (held.taken + count) more some))

  whole_of : (ts : List Taking) (kind : StatusKind) → has_lanes kind ≡ true → GoesOn ts kind true →
      Tells (place + 1) (held_after true) (ts ++ taking ∷ []) (taken_mark (is_end kind) Within)
  whole_of ts Start lanes on = λ more. regrouped ts more ∙ on more
  whole_of ts (Control code) lanes on = cc
  whole_of ts Pixels lanes on = λ more. regrouped ts more ∙ on more
  whole_of ts (End count) lanes on = λ more. regrouped ts more ∙ on more ∙ end_alone (place + 1) more
  whole_of ts Reserved lanes on = cc

  ended_if : (whole : Bool) (ts : List Taking) → has_lanes (kind_of entry.status) ≡ true → GoesOn ts (kind_of entry.status) whole →
      Tells (place_after whole) (held_after whole) (ts ++ taking ∷ []) (taken_mark (is_end (kind_of entry.status) && whole) Within)
  ended_if true ts lanes on =
      subst (λ (ends : Bool). Tells (place + 1) (held_after true) (ts ++ taking ∷ []) (taken_mark ends Within))
      (sym (and-true (is_end (kind_of entry.status))))
      (whole_of ts (kind_of entry.status) lanes on)
  ended_if false ts lanes on =
      subst (λ (ends : Bool). Tells place (held_after false) (ts ++ taking ∷ []) (taken_mark ends Within))
      (sym (and-false (is_end (kind_of entry.status)))) (part_of ts on)

  first_goes_on : (more : List Taking) → held.taken ≡ 0 → kind_of entry.status ≡ Start →
      make_line (taking ∷ more)
      ≡ (goes_behind (held.taken + count == valid_bytes entry.status) more && shape_after (kind_of entry.status) (entries_taken more))
  first_goes_on more none start =
      ap₂ (λ (a b : Bool). a && b) (ap (λ (taken : ℕ). go_on place taken (taking ∷ more)) (sym none) ∙ go_here more)
      (ap is_line (cond-true (held.taken == 0) (entry ∷ entries_taken more) (entries_taken more) (eq-eqb held.taken 0 none))
      ∙ ap (λ (kind : StatusKind). begins_line kind (is_ending (entries_taken more))) start
      ∙ ap (λ (kind : StatusKind). shape_after kind (entries_taken more)) (sym start))

  within_goes_on : (ts more : List Taking) → has_lanes (kind_of entry.status) ≡ true → (held.taken ≡ 0 → kind_of entry.status ≡ Start → ⊥) →
      Tells place held ts Within →
      make_line (ts ++ taking ∷ more)
      ≡ (goes_behind (held.taken + count == valid_bytes entry.status) more && shape_after (kind_of entry.status) (entries_taken more))
  within_goes_on ts more lanes begins tells =
      tells (taking ∷ more) ∙ ap₂ (λ (a b : Bool). a && b) (go_here more) (shape_here held.taken (front held) more refl there lanes begins)

  fresh_alike : (ends : Bool) → taken_mark ends Fresh ≡ taken_mark ends Within
  fresh_alike true = refl
  fresh_alike false = refl

  done_spoilt : (ends : Bool) → taken_mark ends Done ≡ Spoilt
  done_spoilt true = refl
  done_spoilt false = refl

  spoilt_spoilt : (ends : Bool) → taken_mark ends Spoilt ≡ Spoilt
  spoilt_spoilt true = refl
  spoilt_spoilt false = refl

  after_from : (whole : Bool) (more : List Taking) → AllFrom (place_after whole) more → AllFrom place more
  after_from true more all = from_later place (place + 1) more (omega arith) all
  after_from false more all = all

  -- the mark that follows is true of what is taken of a front
  pub taken-tells : (whole : Bool) (ts : List Taking) (mark : LineMark) → (held.taken + count == valid_bytes entry.status) ≡ whole →
      has_lanes (kind_of entry.status) ≡ true →
      (mark ≡ Fresh → (held.taken ≡ 0) × (kind_of entry.status ≡ Start)) →
      ((mark ≡ Fresh → ⊥) → held.taken ≡ 0 → kind_of entry.status ≡ Start → ⊥) → Tells place held ts mark →
      Tells (place_after whole) (held_after whole) (ts ++ taking ∷ []) (taken_mark (is_end (kind_of entry.status) && whole) mark)
  taken-tells whole ts Fresh is lanes first begins tells =
      let starts = first refl in
      subst (λ (mark : LineMark). Tells (place_after whole) (held_after whole) (ts ++ taking ∷ []) mark)
      (sym (fresh_alike (is_end (kind_of entry.status) && whole)))
      (ended_if whole ts lanes
      (λ more.
      ap (λ (some_taken : List Taking). make_line (some_taken ++ taking ∷ more)) tells ∙ first_goes_on more starts.0 starts.1
      ∙ ap (λ (b : Bool). goes_behind b more && shape_after (kind_of entry.status) (entries_taken more)) is))
  taken-tells whole ts Within is lanes first begins tells =
      ended_if whole ts lanes
      (λ more.
      within_goes_on ts more lanes (begins (λ same. cc)) tells
      ∙ ap (λ (b : Bool). goes_behind b more && shape_after (kind_of entry.status) (entries_taken more)) is)
  taken-tells whole ts Done is lanes first begins tells =
      subst (λ (mark : LineMark). Tells (place_after whole) (held_after whole) (ts ++ taking ∷ []) mark)
      (sym (done_spoilt (is_end (kind_of entry.status) && whole)))
      (λ more all. regrouped ts more ∙ tells (taking ∷ more))
  taken-tells whole ts Spoilt is lanes first begins tells =
      subst (λ (mark : LineMark). Tells (place_after whole) (held_after whole) (ts ++ taking ∷ []) mark)
      (sym (spoilt_spoilt (is_end (kind_of entry.status) && whole)))
      (λ more all. regrouped ts more ∙ tells (taking ∷ more) (omega arith, after_from whole more all))

-- ---- one turn's marks are those of its applications, one after the other

pub marks_follow : (took left ended took_later left_later ended_later : Bool) (mark : LineMark) →
    (took ≡ true → left ≡ false) → (took ≡ false → ended ≡ false) → (took_later ≡ false → ended_later ≡ false) →
    (ended ≡ true → (took_later ≡ false) × (left_later ≡ false)) → (left ≡ true → mark ≡ Fresh → ⊥) →
    met_mark took_later left_later ended_later (met_mark took left ended mark)
    ≡ met_mark (took || took_later) (left || left_later) (ended || ended_later) mark
marks_follow true true ended tl ll el mark one two three four five = let no : true ≡ false = one refl in cc
marks_follow true false true true ll el mark one two three four five = let no : true ≡ false = (four refl).0 in cc
marks_follow true false true false true el mark one two three four five = let no : true ≡ false = (four refl).1 in cc
marks_follow true false true false false true mark one two three four five = let no : true ≡ false = three refl in cc
marks_follow true false true false false false mark one two three four five = refl
marks_follow true false false true true el mark one two three four five = refl
marks_follow true false false false true el Fresh one two three four five = refl
marks_follow true false false false true el Within one two three four five = refl
marks_follow true false false false true el Done one two three four five = refl
marks_follow true false false false true el Spoilt one two three four five = refl
marks_follow true false false true false true Fresh one two three four five = refl
marks_follow true false false true false true Within one two three four five = refl
marks_follow true false false true false true Done one two three four five = refl
marks_follow true false false true false true Spoilt one two three four five = refl
marks_follow true false false true false false Fresh one two three four five = refl
marks_follow true false false true false false Within one two three four five = refl
marks_follow true false false true false false Done one two three four five = refl
marks_follow true false false true false false Spoilt one two three four five = refl
marks_follow true false false false false true mark one two three four five = let no : true ≡ false = three refl in cc
marks_follow true false false false false false mark one two three four five = refl
marks_follow false left true tl ll el mark one two three four five = let no : true ≡ false = two refl in cc
marks_follow false false false tl ll el mark one two three four five = refl
marks_follow false true false tl ll el Fresh one two three four five = absurd (five refl refl)
marks_follow false true false true true el mark one two three four five = refl
marks_follow false true false true false true Within one two three four five = refl
marks_follow false true false true false true Done one two three four five = refl
marks_follow false true false true false true Spoilt one two three four five = refl
marks_follow false true false true false false Within one two three four five = refl
marks_follow false true false true false false Done one two three four five = refl
marks_follow false true false true false false Spoilt one two three four five = refl
marks_follow false true false false true el Within one two three four five = refl
marks_follow false true false false true el Done one two three four five = refl
marks_follow false true false false true el Spoilt one two three four five = refl
marks_follow false true false false false el mark one two three four five = refl
