-- Files by name: the first file of a name, and what is under it.
use Rattle.std.proofs.Common.{ℕ, suc, zero, ◌+◌, ◌<◌, List, [], ◌∷◌, ◌++◌, map, set, get_or, length, Option, Some, None, is_some}
use Rattle.std.proofs.Common.{option_map, Bool, true, false, ◌||◌, if◌then◌else◌, ◌≡◌, refl, sym, ap, ◌∙◌, arith, below_more}
use Rattle.std.specs.Str.{bytes_eq}
use Rattle.capture_desk.specs.Desks.{Outputs, appended, created, is_among, named}
use Rattle.capture_desk.specs.Inside.{IsFirst, entry, nothing}
use Rattle.capture_desk.specs.declared.memory.Slot.{Slot}
use Rattle.std.proofs.lemmas.List.{get_or-map}
use Rattle.capture_desk.specs.Memory.{names_of}

-- no file of a name
pub named_none : {V : Type 0} → (name : List ℕ) (files : List (List ℕ × V)) (none : List ℕ × V) →
    ((k : ℕ) → k < length files → bytes_eq (get_or files k none).0 name ≡ false) → named name files ≡ None
named_none name [] none h = refl
named_none name (file ∷ files) none h =
    let head : bytes_eq file.0 name ≡ false = h 0 (omega arith) in
    rw head (named_none name files none (λ k l. h (suc k) (omega arith)))

pub is_some-named : {V : Type 0} → (name : List ℕ) (files : List (List ℕ × V)) → is_some (named name files) ≡ is_among name (names_of files)
is_some-named name [] = refl
is_some-named name (file ∷ files) = is_some_cases (bytes_eq file.0 name) file.1 _ _ (is_some-named name files)
  where
    is_some_cases : {V : Type 0} → (t : Bool) (v : V) (rest : Option V) (among : Bool) → is_some rest ≡ among →
        is_some (if t then Some v else rest) ≡ (t || among)
    is_some_cases true v rest among e = refl
    is_some_cases false v rest among e = e

-- the first file of a name
pub named_first : {V : Type 0} → (name : List ℕ) (files : List (List ℕ × V)) (none : List ℕ × V) (i : ℕ) →
    i < length files → bytes_eq (get_or files i none).0 name ≡ true → ((k : ℕ) → k < i → bytes_eq (get_or files k none).0 name ≡ false) →
    named name files ≡ Some (get_or files i none).1
named_first name [] none i l s b = absurd (omega arith)
named_first name (file ∷ files) none zero l s b = rw s refl
named_first name (file ∷ files) none (suc i) l s b =
    let head : bytes_eq file.0 name ≡ false = b 0 (omega arith) in
    rw head (named_first name files none i (omega arith) s (λ k m. b (suc k) (omega arith)))

pub created_first : (name : List ℕ) (files : Outputs) (none : List ℕ × Option (List ℕ)) (i : ℕ) →
    i < length files → bytes_eq (get_or files i none).0 name ≡ true → ((k : ℕ) → k < i → bytes_eq (get_or files k none).0 name ≡ false) →
    created name files ≡ set files i ((get_or files i none).0, Some [])
created_first name [] none i l s b = absurd (omega arith)
created_first name (file ∷ files) none zero l s b = rw s refl
created_first name (file ∷ files) none (suc i) l s b =
    let head : bytes_eq file.0 name ≡ false = b 0 (omega arith) in
    rw head (ap (λ x. file ∷ x) (created_first name files none i (omega arith) s (λ k m. b (suc k) (omega arith))))

pub appended_first : (name bytes : List ℕ) (files : Outputs) (none : List ℕ × Option (List ℕ)) (i : ℕ) →
    i < length files → bytes_eq (get_or files i none).0 name ≡ true → ((k : ℕ) → k < i → bytes_eq (get_or files k none).0 name ≡ false) →
    appended name bytes files ≡ set files i ((get_or files i none).0, option_map (λ old. old ++ bytes) (get_or files i none).1)
appended_first name bytes [] none i l s b = absurd (omega arith)
appended_first name bytes (file ∷ files) none zero l s b = rw s refl
appended_first name bytes (file ∷ files) none (suc i) l s b =
    let head : bytes_eq file.0 name ≡ false = b 0 (omega arith) in
    rw head (ap (λ x. file ∷ x) (appended_first name bytes files none i (omega arith) s (λ k m. b (suc k) (omega arith))))

-- the file that was read is the first of its name
pub first_by : {V : Type 0} → (name text : List ℕ) (files : List (List ℕ × V)) (none : List ℕ × V) (i : ℕ) →
    i < length files → text ≡ (get_or files i none).0 → bytes_eq text name ≡ true →
    ((k : ℕ) → k < i → bytes_eq (get_or files k none).0 name ≡ false) → IsFirst name files none i
first_by name text files none i l e t b =
    record { within = l; same = ap (λ x. bytes_eq x name) (sym e) ∙ t; before = b }

-- no file so far, and not this one
pub none_by : {V : Type 0} → (name text : List ℕ) (files : List (List ℕ × V)) (none : List ℕ × V) (i : ℕ) →
    text ≡ (get_or files i none).0 → bytes_eq text name ≡ false →
    ((k : ℕ) → k < i → bytes_eq (get_or files k none).0 name ≡ false) →
    (k : ℕ) → k < i + 1 → bytes_eq (get_or files k none).0 name ≡ false
none_by name text files none i e t b = below_more _ i b (ap (λ x. bytes_eq x name) (sym e) ∙ t)

-- the entry of a slot that was read
pub entry_read : (slots : List Slot) (i : ℕ) (slot : Slot) → i < length slots → slot ≡ get_or slots i slot →
    entry slot ≡ get_or (map entry slots) i nothing
entry_read slots i slot l e = ap entry e ∙ sym (get_or-map entry slots i slot nothing l)

pub named_of : {V : Type 0} → (name : List ℕ) (files : List (List ℕ × V)) (none : List ℕ × V) (i : ℕ) → IsFirst name files none i →
    named name files ≡ Some (get_or files i none).1
named_of name files none i h = named_first name files none i h.within h.same h.before

pub created_of : (name : List ℕ) (files : Outputs) (none : List ℕ × Option (List ℕ)) (i : ℕ) → IsFirst name files none i →
    created name files ≡ set files i ((get_or files i none).0, Some [])
created_of name files none i h = created_first name files none i h.within h.same h.before

pub appended_of : (name bytes : List ℕ) (files : Outputs) (none : List ℕ × Option (List ℕ)) (i : ℕ) → IsFirst name files none i →
    appended name bytes files ≡ set files i ((get_or files i none).0, option_map (λ old. old ++ bytes) (get_or files i none).1)
appended_of name bytes files none i h = appended_first name bytes files none i h.within h.same h.before
