-- Takings that follow one another take entries that follow one another, each whole, and the other way round.
use Rattle.std.proofs.Common.{◌≡◌, ℕ, zero, suc, ◌+◌, ◌-◌, ◌<◌, ◌≤◌, ◌⊎◌, inl, inr, ◌==◌, Bool, true, ◌&&◌, List, [], ◌∷◌, if◌then◌else◌}
use Rattle.std.proofs.Common.{refl, sym, ap, subst, ◌∙◌, arith}
use Rattle.std.specs.Prelude.{◌↔◌}
use Rattle.std.proofs.lemmas.Bool.{and_from, and_parts, cases_Bool, cases_eq, cases_lt, cond-false, cond-true, eq-eqb, eqb-false, eqb-true}
use Rattle.std.proofs.lemmas.Bool.{false≢true, ne_eqb}
use Rattle.sync_status.specs.declared.StatusKind.{StatusKind}
use Rattle.sync_status.specs.declared.StatusKind.TheVariants.{Control, Start, Pixels, End, Reserved}
use Rattle.sync_status.specs.Statuses.{kind_of, valid_bytes, valid_lanes}
use Rattle.sync_status.proofs.Verdicts.{EndHasBytes, end-has_bytes}
use Rattle.fifo_model.specs.declared.Entry.{Entry}
use Rattle.field_law.specs.Fields.{begins_line, ends_line, is_ending, is_line}
use Rattle.damage_model.specs.Takings.{Taking}
use Rattle.damage_model.specs.Lines.{AreInOrder, IsFrom, IsTaken, IsWholeLine, are_line, entries_from, entries_taken, follow_on, go_on}

module _ (entry_at : ℕ → Entry) where
  abbrev pub valid_at : ℕ → ℕ
  valid_at place = valid_bytes (entry_at place).status

  -- the valid bytes from byte x of the entry at a place up to the beginning of that at another
  abbrev pub IsWithin : ℕ → ℕ → ℕ → ℕ → ℕ → Type 0
  IsWithin place x end other y = IsFrom place x other y × (other < end) × (y < valid_at other)

  -- the first place from there on at which an entry begins
  abbrev pub next_begin : ℕ → ℕ → ℕ
  next_begin place zero = place
  next_begin place (suc x) = place + 1

  -- where takings that go on from there end
  pub record Reaches (place x end : ℕ) (ts : List Taking) : Type 0 where
    ends : next_begin place x ≤ end
    bytes : (other y : ℕ) → IsTaken ts other y ↔ IsWithin place x end other y
    entries : entries_taken ts ≡ entries_from entry_at (next_begin place x) (end - next_begin place x)

  -- what begins at a byte of an entry
  abbrev pub first_at : ℕ → Entry → List Entry → List Entry
  first_at zero entry rest = entry ∷ rest
  first_at (suc x) entry rest = rest

  taken_first : (t : Taking) (rest : List Taking) (x : ℕ) → t.taken ≡ x → entries_taken (t ∷ rest) ≡ first_at x t.entry (entries_taken rest)
  taken_first t rest zero is = cond-true (t.taken == 0) (t.entry ∷ entries_taken rest) (entries_taken rest) (eq-eqb t.taken 0 is)
  taken_first t rest (suc x) is =
      cond-false (t.taken == 0) (t.entry ∷ entries_taken rest) (entries_taken rest) (ne_eqb t.taken 0 (λ none. absurd (omega arith)))

  -- the entries from a byte on are one more than those from the next entry on, where the first begins there
  entries_more : (place end x : ℕ) → place < end → first_at x (entry_at place) (entries_from entry_at (place + 1) (end - (place + 1)))
      ≡ entries_from entry_at (next_begin place x) (end - next_begin place x)
  entries_more place end zero less =
      let one : end - place ≡ suc (end - (place + 1)) = omega arith in rw one refl
  entries_more place end (suc x) less = refl

  -- from a byte of an entry on, and on from there
  pub from_from : (a x b y c z : ℕ) → IsFrom a x b y → IsFrom b y c z → IsFrom a x c z
  from_from a x b y c z first second = (
    omega (arith, first.0, second.0),
    λ same.
        let one = first.1 (omega (arith, same, first.0, second.0)) in
        let two = second.1 (omega (arith, same, first.0, second.0)) in
        omega arith,
  )

  from_part : (place x count other y : ℕ) → IsFrom place (x + count) other y → IsFrom place x other y
  from_part place x count other y from = (from.0, λ same. let later = from.1 same in omega arith)

  -- what takings in order take is from where they begin on
  taken_from : (place x other y : ℕ) (ts : List Taking) → AreInOrder entry_at place x ts → IsTaken ts other y → IsFrom place x other y
  taken_from place x other y [] order taken = absurd taken
  taken_from place x other y (t ∷ rest) order (inl here) =
      from_from place x t.place t.taken other y order.0 (omega (arith, here.0), λ _. here.1)
  taken_from place x other y (t ∷ rest) order (inr later) =
      from_from place x t.place t.taken other y order.0
      (from_part t.place t.taken t.count other y (taken_from t.place (t.taken + t.count) other y rest order.4 later))

  -- a taking that takes an entry to its end, and then the entries after it are taken
  module _ (place x end : ℕ) (t : Taking) (rest : List Taking) (there : t.place ≡ place) (same : t.taken ≡ x) where
    ends_entry : x + t.count ≡ valid_at place → place < end → ((other y : ℕ) → IsTaken rest other y ↔ IsWithin (place + 1) 0 end other y) →
        (other y : ℕ) → IsTaken (t ∷ rest) other y ↔ IsWithin place x end other y
    ends_entry whole less bytes other y = (forth, back)
      where
        forth : IsTaken (t ∷ rest) other y → IsWithin place x end other y
        forth (inl here) =
            let at : place ≡ other = sym there ∙ here.0 in (
              (omega arith, λ _. omega (arith, same, here.1)),
              omega arith,
              subst (λ (p : ℕ). y < valid_at p) at (omega (arith, same, whole, here.2)),
            )
        forth (inr later) =
            let within = (bytes other y).0 later in
            ((omega (arith, within.0.0), λ at. absurd (omega (arith, within.0.0, at))), within.1, within.2)

        back : IsWithin place x end other y → IsTaken (t ∷ rest) other y
        back within =
            elim (cases_eq other place) [
              | inl at ↦ (let valid : y < valid_at place = subst (λ (p : ℕ). y < valid_at p) at within.2 in let from = within.0.1 at in
                  inl (there ∙ sym at, omega arith, omega arith))
              | inr apart ↦ inr ((bytes other y).1 ((omega (arith, within.0.0, apart), λ _. omega arith), within.1, within.2))
            ]

    -- one that does not, and then the rest of it is taken
    stays_in_entry : x + t.count < valid_at place →
        place < end → ((other y : ℕ) → IsTaken rest other y ↔ IsWithin place (x + t.count) end other y) → (other y : ℕ) →
        IsTaken (t ∷ rest) other y ↔ IsWithin place x end other y
    stays_in_entry part less bytes other y = (forth, back)
      where
        forth : IsTaken (t ∷ rest) other y → IsWithin place x end other y
        forth (inl here) =
            let at : place ≡ other = sym there ∙ here.0 in (
              (omega arith, λ _. omega (arith, same, here.1)),
              omega arith,
              subst (λ (p : ℕ). y < valid_at p) at (omega (arith, same, part, here.2)),
            )
        forth (inr later) =
            let within = (bytes other y).0 later in (from_part place x t.count other y within.0, within.1, within.2)

        back : IsWithin place x end other y → IsTaken (t ∷ rest) other y
        back within = elim (cases_lt y (x + t.count)) [
          | inl below ↦ below_case below
          | inr above ↦ inr ((bytes other y).1 ((within.0.0, λ _. above), within.1, within.2))
        ]
          where
            below_case : y < x + t.count → IsTaken (t ∷ rest) other y
            below_case below =
                elim (cases_eq other place) [
                  | inl at ↦ (let from = within.0.1 at in inl (there ∙ sym at, omega arith, omega arith))
                  | inr apart ↦ inr ((bytes other y).1 ((within.0.0, λ at. absurd (apart at)), within.1, within.2))
                ]

  -- the first entry that begins from a byte on
  begin_at_most : (place x : ℕ) → next_begin place x ≤ place + 1
  begin_at_most place zero = omega arith
  begin_at_most place (suc x) = omega arith

  begin_within : (place x : ℕ) → 0 < x → next_begin place x ≡ place + 1
  begin_within place zero some = absurd (omega arith)
  begin_within place (suc x) some = refl

  begin_from : (place x : ℕ) → place ≤ next_begin place x
  begin_from place zero = omega arith
  begin_from place (suc x) = omega arith

  -- the entries of which something is taken, where those of the rest are all from the next entry on
  entries_with : (place x end : ℕ) (t : Taking) (rest : List Taking) → place < end → t.taken ≡ x → t.entry ≡ entry_at place →
      entries_taken rest ≡ entries_from entry_at (place + 1) (end - (place + 1)) →
      entries_taken (t ∷ rest) ≡ entries_from entry_at (next_begin place x) (end - next_begin place x)
  entries_with place x end t rest less same is others =
      taken_first t rest x same ∙ ap (λ e. first_at x e (entries_taken rest)) is ∙ ap (first_at x (entry_at place)) others
      ∙ entries_more place end x less

  -- one step of takings that go on
  go_step : (place x : ℕ) (t : Taking) (rest : List Taking) → t.place ≡ place → t.taken ≡ x →
      (if x + t.count == valid_bytes t.entry.status then go_on (place + 1) 0 rest else go_on place (x + t.count) rest) ≡ true →
      go_on place x (t ∷ rest) ≡ true
  go_step place x t rest there same on =
      and_from (t.place == place && t.taken == x) _ (and_from (t.place == place) (t.taken == x) (eq-eqb _ _ there) (eq-eqb _ _ same)) on

  -- takings that go on from a byte take all from there to an end
  module _ (place x : ℕ) (t : Taking) (rest : List Taking) (there : t.place ≡ place) (same : t.taken ≡ x) (is : t.entry ≡ entry_at place)
      (some : 0 < t.count) where
    reaches_after : (end : ℕ) → x + t.count ≡ valid_at place → Reaches (place + 1) 0 end rest → Reaches place x end (t ∷ rest)
    reaches_after end whole r =
        let less : place < end = omega (arith, r.ends) in
        record {
          ends = omega (arith, begin_at_most place x, r.ends);
          bytes = ends_entry place x end t rest there same whole less r.bytes;
          entries = entries_with place x end t rest less same is r.entries;
        }

    reaches_within : (end : ℕ) → x + t.count < valid_at place → Reaches place (x + t.count) end rest → Reaches place x end (t ∷ rest)
    reaches_within end part r =
        let next = begin_within place (x + t.count) (omega arith) in
        let less : place < end = omega (arith, next, r.ends) in
        record {
          ends = omega (arith, begin_at_most place x, next, r.ends);
          bytes = stays_in_entry place x end t rest there same part less r.bytes;
          entries =
              entries_with place x end t rest less same is
              (subst (λ (n : ℕ). entries_taken rest ≡ entries_from entry_at n (end - n)) next r.entries);
        }

  reaches_none : (place : ℕ) → Reaches place 0 place []
  reaches_none place =
      record {
        ends = omega arith;
        bytes = λ other y. ((λ taken. absurd taken), (λ within. absurd (omega (arith, within.0.0, within.1))));
        entries = (let none : place - place ≡ 0 = omega arith in rw none refl);
      }

  valid_of : (place : ℕ) (t : Taking) → t.entry ≡ entry_at place → valid_bytes t.entry.status ≡ valid_at place
  valid_of place t is = ap (λ e. valid_bytes e.status) is

  pub go_on-reaches : (from y place x : ℕ) (ts : List Taking) → AreInOrder entry_at from y ts → go_on place x ts ≡ true →
      (end : ℕ) × Reaches place x end ts
  go_on-reaches from y place zero [] order on = (place, reaches_none place)
  go_on-reaches from y place (suc x) [] order on = let none = eqb-true (suc x) 0 on in absurd (omega arith)
  go_on-reaches from y place x (t ∷ rest) order on =
      let (heads, tail) = and_parts (t.place == place && t.taken == x) _ on in
      let (at, start) = and_parts (t.place == place) (t.taken == x) heads in
      let there : t.place ≡ place = eqb-true _ _ at in
      let same : t.taken ≡ x = eqb-true _ _ start in
      let is : t.entry ≡ entry_at place = order.1 ∙ ap entry_at there in
      let valid = valid_of place t is in
      elim (cases_Bool (x + t.count == valid_bytes t.entry.status)) [
        | inl whole ↦
            (let now = rw whole at tail in let (end, r) = go_on-reaches t.place (t.taken + t.count) (place + 1) 0 rest order.4 now in
            let all = eqb-true _ _ whole in (end, reaches_after place x t rest there same is order.2 end (all ∙ valid) r))
        | inr part ↦
            (let now = rw part at tail in let (end, r) = go_on-reaches t.place (t.taken + t.count) place (x + t.count) rest order.4 now in
            let apart = eqb-false _ _ part in let most = order.3 in (
              end,
              reaches_within place x t rest there same is order.2 end (omega (arith, apart, most, valid, same)) r,
            ))
      ]

  -- and the other way round: takings in order that take just the bytes from there to an end go on so
  abbrev pub TakesJust : ℕ → ℕ → ℕ → List Taking → Type 0
  TakesJust place x end ts = (other y : ℕ) → IsTaken ts other y ↔ IsWithin place x end other y

  -- every entry up to the end has valid bytes
  abbrev pub HasBytes : ℕ → ℕ → Type 0
  HasBytes place end = (other : ℕ) → place ≤ other → other < end → 0 < valid_at other

  -- a byte at which takings may go on: one of an entry before the end, or the end
  record IsOpen (place x end : ℕ) : Type 0 where
    upto : place ≤ end
    valid : place < end → x < valid_at place
    over : end ≤ place → x ≡ 0

  abbrev pub GoesOn : ℕ → ℕ → ℕ → List Taking → Type 0
  GoesOn place x end ts =
      (go_on place x ts ≡ true) × (entries_taken ts ≡ entries_from entry_at (next_begin place x) (end - next_begin place x))

  module _ (place x end : ℕ) (t : Taking) (rest : List Taking) (order : AreInOrder entry_at t.place (t.taken + t.count) rest)
      (some : 0 < t.count) (open_ : IsOpen place x end) (just : TakesJust place x end (t ∷ rest)) where
    first_begins : t.taken + t.count ≤ valid_at t.place → (place < end) × (t.place ≡ place) × (t.taken ≡ x)
    first_begins most =
        let begin : IsWithin place x end t.place t.taken = (just t.place t.taken).0 (inl (refl, omega arith, omega arith)) in
        let less : place < end = omega (arith, begin.0.0, begin.1) in
        elim ((just place x).1 ((omega arith, λ _. omega arith), less, open_.valid less)) [
          | inl here ↦ (let from = begin.0.1 here.0 in (less, here.0, omega (arith, here.1, from)))
          | inr later ↦ (let after = taken_from t.place (t.taken + t.count) place x rest order later in
              let same : place ≡ t.place = omega (arith, after.0, begin.0.0) in
              let more = after.1 same in let from = begin.0.1 (sym same) in absurd (omega (arith, more, from, some)))
        ]

    module _ (there : t.place ≡ place) (same : t.taken ≡ x) where
      rest_after : x + t.count ≡ valid_at place → TakesJust (place + 1) 0 end rest
      rest_after whole other y = (forth, back)
        where
          forth : IsTaken rest other y → IsWithin (place + 1) 0 end other y
          forth later =
              let within = (just other y).0 (inr later) in
              let after = taken_from t.place (t.taken + t.count) other y rest order later in
              elim (cases_eq other place) [
                | inl at ↦ (let valid : y < valid_at place = subst (λ (p : ℕ). y < valid_at p) at within.2 in
                    let more = after.1 (at ∙ sym there) in absurd (omega (arith, valid, more, whole, same)))
                | inr apart ↦ ((omega (arith, apart, within.0.0), λ _. omega arith), within.1, within.2)
              ]

          back : IsWithin (place + 1) 0 end other y → IsTaken rest other y
          back within =
              elim ((just other y).1 ((omega (arith, within.0.0), λ at. absurd (omega (arith, within.0.0, at))), within.1, within.2)) [
                | inl here ↦ absurd (omega (arith, here.0, there, within.0.0))
                | inr later ↦ later
              ]

      rest_within : TakesJust place (x + t.count) end rest
      rest_within other y = (forth, back)
        where
          forth : IsTaken rest other y → IsWithin place (x + t.count) end other y
          forth later =
              let within = (just other y).0 (inr later) in
              let after = taken_from t.place (t.taken + t.count) other y rest order later in
              ((within.0.0, λ at. let more = after.1 (at ∙ sym there) in omega (arith, more, same)), within.1, within.2)

          back : IsWithin place (x + t.count) end other y → IsTaken rest other y
          back within =
              elim ((just other y).1 (from_part place x t.count other y within.0, within.1, within.2)) [
                | inl here ↦ (let more = within.0.1 (sym here.0 ∙ there) in absurd (omega (arith, here.2, more, same)))
                | inr later ↦ later
              ]

  goes_on-none : (place x end : ℕ) → IsOpen place x end → TakesJust place x end [] → GoesOn place x end []
  goes_on-none place x end open_ just =
      elim (cases_lt place end) [
        | inl less ↦ absurd ((just place x).1 ((omega arith, λ _. omega arith), less, open_.valid less))
        | inr over ↦ (let none = open_.over over in let upto = open_.upto in
            let same : end ≡ place = omega arith in subst (λ (n : ℕ). GoesOn place n end []) (sym none) (
              refl,
              (let nothing : end - place ≡ 0 = omega arith in rw nothing refl),
            ))
      ]

  takes-go_on : (from y place x end : ℕ) (ts : List Taking) → HasBytes place end → AreInOrder entry_at from y ts → IsOpen place x end →
      TakesJust place x end ts → GoesOn place x end ts
  takes-go_on from y place x end [] has order open_ just = goes_on-none place x end open_ just
  takes-go_on from y place x end (t ∷ rest) has order open_ just =
      let most : t.taken + t.count ≤ valid_at t.place = subst (λ (e : Entry). t.taken + t.count ≤ valid_bytes e.status) order.1 order.3 in
      let (less, there, same) = first_begins place x end t rest order.4 order.2 open_ just most in
      let is : t.entry ≡ entry_at place = order.1 ∙ ap entry_at there in
      let valid = valid_of place t is in
      elim (cases_Bool (x + t.count == valid_bytes t.entry.status)) [
        | inl whole ↦
            (let all = eqb-true _ _ whole ∙ valid in
            let next : IsOpen (place + 1) 0 end = record {
              upto = omega arith;
              valid = λ more. has (place + 1) (omega arith) more;
              over = λ _. refl;
            } in
            let later =
            takes-go_on t.place (t.taken + t.count) (place + 1) 0 end rest (λ other from below. has other (omega arith) below) order.4 next
            (rest_after place x end t rest order.4 order.2 open_ just there same all) in (
              go_step place x t rest there same (cond-true _ (go_on (place + 1) 0 rest) (go_on place (x + t.count) rest) whole ∙ later.0),
              entries_with place x end t rest less same is later.1,
            ))
        | inr part ↦
            (let apart = eqb-false _ _ part in
            let below : x + t.count < valid_at place = omega (arith, apart, order.3, valid, same) in
            let next : IsOpen place (x + t.count) end = record {
              upto = omega arith;
              valid = λ _. below;
              over = λ over. absurd (omega (arith, over, less));
            } in
            let later =
            takes-go_on t.place (t.taken + t.count) place (x + t.count) end rest has order.4 next
            (rest_within place x end t rest order.4 order.2 open_ just there same) in
            let begin = begin_within place (x + t.count) (omega (arith, order.2)) in (
              go_step place x t rest there same (cond-false _ (go_on (place + 1) 0 rest) (go_on place (x + t.count) rest) part ∙ later.0),
              entries_with place x end t rest less same is
                  (subst (λ (n : ℕ). entries_taken rest ≡ entries_from entry_at n (end - n)) begin later.1),
            ))
      ]

  -- the entries of a line have valid bytes
  ends_line_parts : (kind : StatusKind) (rest : List Entry) (ending : Bool) → EndHasBytes kind → ends_line kind rest ending ≡ true →
      (0 < valid_lanes kind) × ((rest ≡ []) ⊎ (ending ≡ true))
  ends_line_parts Pixels rest ending some is = (omega arith, inr is)
  ends_line_parts (End count) [] ending some is = (omega (arith, some), inl refl)
  ends_line_parts (End count) (e ∷ es) ending some is = absurd (false≢true is)
  ends_line_parts Start rest ending some is = absurd (false≢true is)
  ends_line_parts Reserved rest ending some is = absurd (false≢true is)
  ends_line_parts (Control code) rest ending some is = absurd (false≢true is)

  begins_line_parts : (kind : StatusKind) (ending : Bool) → begins_line kind ending ≡ true → (0 < valid_lanes kind) × (ending ≡ true)
  begins_line_parts Start ending is = (omega arith, is)
  begins_line_parts Pixels ending is = absurd (false≢true is)
  begins_line_parts (End count) ending is = absurd (false≢true is)
  begins_line_parts Reserved ending is = absurd (false≢true is)
  begins_line_parts (Control code) ending is = absurd (false≢true is)

  no_entries : (from count : ℕ) → entries_from entry_at from count ≡ [] → count ≡ 0
  no_entries from zero is = refl
  no_entries from (suc count) is = absurd (cc)

  more_bytes : (from count : ℕ) → 0 < valid_at from → HasBytes (from + 1) (from + 1 + count) → HasBytes from (from + suc count)
  more_bytes from count here later other above below =
      elim (cases_eq other from) [
        | inl at ↦ subst (λ (p : ℕ). 0 < valid_at p) (sym at) here
        | inr apart ↦ later other (omega arith) (omega arith)
      ]

  ending-has_bytes : (from count : ℕ) → is_ending (entries_from entry_at from count) ≡ true → HasBytes from (from + count)
  ending-has_bytes from zero is = absurd (false≢true is)
  ending-has_bytes from (suc count) is =
      let (here, rest) =
      ends_line_parts (kind_of (entry_at from).status) (entries_from entry_at (from + 1) count)
      (is_ending (entries_from entry_at (from + 1) count)) (end-has_bytes (entry_at from).status) is in
      more_bytes from count here
      (elim rest [
        | inl none ↦ (λ other above below. let nothing = no_entries (from + 1) count none in absurd (omega arith))
        | inr ending ↦ ending-has_bytes (from + 1) count ending
      ])

  line-has_bytes : (from count : ℕ) → is_line (entries_from entry_at from count) ≡ true → (0 < count) × HasBytes from (from + count)
  line-has_bytes from zero is = absurd (false≢true is)
  line-has_bytes from (suc count) is =
      let (here, ending) = begins_line_parts (kind_of (entry_at from).status) (is_ending (entries_from entry_at (from + 1) count)) is in
      (omega arith, more_bytes from count here (ending-has_bytes (from + 1) count ending))

  -- a whole line by places is one by the sentence, and the other way round
  pub line-whole : (ts : List Taking) → AreInOrder entry_at 0 0 ts → are_line ts ≡ true → IsWholeLine entry_at ts
  line-whole [] order is = absurd (false≢true is)
  line-whole (t ∷ rest) order is =
      let (on, shape) = and_parts (follow_on (t ∷ rest)) (is_line (entries_taken (t ∷ rest))) is in
      let (end, r) = go_on-reaches 0 0 t.place 0 (t ∷ rest) order on in
      let upto : t.place ≤ end = r.ends in
      record {
        from = t.place;
        count = end - t.place;
        bytes = λ place x. (
          (λ taken. let within = (r.bytes place x).0 taken in (within.0.0, omega (arith, within.1, upto), within.2)),
          (λ byte. (r.bytes place x).1 ((byte.0, λ _. omega arith), omega (arith, byte.1, upto), byte.2)),
        );
        line = subst (λ (es : List Entry). is_line es ≡ true) r.entries shape;
      }

  -- the entries of a line follow one another
  pub line-entered : (ts : List Taking) → AreInOrder entry_at 0 0 ts → are_line ts ≡ true →
      (from : ℕ) × (count : ℕ) × (entries_taken ts ≡ entries_from entry_at from count)
  line-entered [] order is = absurd (false≢true is)
  line-entered (t ∷ rest) order is =
      let (on, shape) = and_parts (follow_on (t ∷ rest)) (is_line (entries_taken (t ∷ rest))) is in
      let (end, r) = go_on-reaches 0 0 t.place 0 (t ∷ rest) order on in
      (t.place, end - t.place, r.entries)

  follows_on : (from : ℕ) (ts : List Taking) → go_on from 0 ts ≡ true → follow_on ts ≡ true
  follows_on from [] on = refl
  follows_on from (t ∷ rest) on =
      let (heads, tail) = and_parts (t.place == from && t.taken == 0) _ on in
      let (at, start) = and_parts (t.place == from) (t.taken == 0) heads in
      subst (λ (p : ℕ). go_on p 0 (t ∷ rest) ≡ true) (sym (eqb-true _ _ at)) on

  pub whole-line : (ts : List Taking) → AreInOrder entry_at 0 0 ts → IsWholeLine entry_at ts → are_line ts ≡ true
  whole-line ts order whole =
      let (some, has) = line-has_bytes whole.from whole.count whole.line in
      let begun : IsOpen whole.from 0 (whole.from + whole.count) = record {
        upto = omega arith;
        valid = λ less. has whole.from (omega arith) less;
        over = λ _. refl;
      } in
      let just : TakesJust whole.from 0 (whole.from + whole.count) ts =
      λ other y. (
        (λ taken. let byte = (whole.bytes other y).0 taken in ((byte.0, λ _. omega arith), byte.1, byte.2)),
        (λ within. (whole.bytes other y).1 (within.0.0, within.1, within.2)),
      ) in
      let (on, entries) = takes-go_on 0 0 whole.from 0 (whole.from + whole.count) ts has order begun just in
      let many : whole.from + whole.count - whole.from ≡ whole.count = omega arith in
      and_from (follow_on ts) (is_line (entries_taken ts)) (follows_on whole.from ts on)
      (subst (λ (es : List Entry). is_line es ≡ true) (sym (entries ∙ ap (entries_from entry_at whole.from) many)) whole.line)
