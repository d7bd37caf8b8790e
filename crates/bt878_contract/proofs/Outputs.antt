-- Files that are written and a text that is printed, whole or in part, and what is left as it was.
use Rattle.std.proofs.Common.{◌≡◌, ◌≢◌, ℕ, ◌⊎◌, length, arith, inl, inr, true, false, Bool, ◌||◌, List, [], ◌∷◌, ◌++◌, take, Option, Some}
use Rattle.std.proofs.Common.{None, option_map, refl, sym, ap, subst, ◌∙◌}
use Rattle.std.specs.Prelude.{⊤}
use Rattle.std.specs.Str.{bytes_eq}
use Rattle.std.proofs.lemmas.Slice.Eq.{bytes_eq-Decides}
use Rattle.std.proofs.lemmas.Bool.{or_right, or_parts}
use Rattle.capture_desk.specs.Desks.{HasRisen, Seen, Outputs, Told, counted, is_among, output_named, created, written, after_say}
use Rattle.capture_desk.proofs.Outputs.{output_created, output_created_other, output_appended, output_appended_other}
use Rattle.command_steps.specs.Outputs.{LastWriteFailed, Says, IsPart, after_file, delivered, names_of}
use Rattle.command_steps.specs.Inputs.{WritesRose, apart}
use Rattle.bt878_contract.specs.Clauses.{CreatesNone, IsCutOff, IsOutput, OnlySays, SameNames, SameOutput, SameOutputs, SaysAll}

-- ---- names

pub same_name : (name : List ℕ) → bytes_eq name name ≡ true
same_name name = (bytes_eq-Decides name name).1 refl

pub first_among : (name : List ℕ) (names : List (List ℕ)) → is_among name (name ∷ names) ≡ true
first_among name names = ap (λ t. t || is_among name names) (same_name name)

pub later_among : (name other : List ℕ) (names : List (List ℕ)) → is_among name names ≡ true → is_among name (other ∷ names) ≡ true
later_among name other names h = or_right (bytes_eq other name) (is_among name names) h

-- a name that isn't among some
not_first : (name other : List ℕ) (names : List (List ℕ)) → is_among name (other ∷ names) ≡ false → name ≢ other
not_first name other names e same =
    let there = first_among name names in
    let equal : is_among name (other ∷ names) ≡ is_among name (name ∷ names) = ap (λ n. is_among name (n ∷ names)) (sym same) in absurd (cc)

not_later : (name other : List ℕ) (names : List (List ℕ)) → is_among name (other ∷ names) ≡ false → is_among name names ≡ false
not_later name other names e = (or_parts (bytes_eq other name) (is_among name names) e).1

pub not_among : (name other : List ℕ) (names : List (List ℕ)) → name ≢ other → is_among name names ≡ false →
    is_among name (other ∷ names) ≡ false
not_among name other names h e = by_test (bytes_eq other name) refl
  where
    by_test : (t : Bool) → bytes_eq other name ≡ t → (t || is_among name names) ≡ false
    by_test true is = absurd (h (sym ((bytes_eq-Decides other name).0 is)))
    by_test false is = e

-- no name is among the later ones
abbrev pub AreApart : List (List ℕ) → Type 0
AreApart [] = ⊤
AreApart (name ∷ names) = (is_among name names ≡ false) × AreApart names

-- ---- one file

-- what the outputs are after a file of these bytes, or after some of its first bytes
abbrev with_file : List ℕ → List ℕ → Option Outputs → Option Outputs
with_file name bytes o = option_map (written (option_map (λ _. name) o) bytes) (option_map (created name) o)

output_there : (name bytes : List ℕ) (o : Option Outputs) → IsOutput name bytes (with_file name bytes o)
output_there name bytes None = tt
output_there name bytes (Some outputs) =
    output_appended name bytes (created name outputs) ∙ ap (option_map (λ old. old ++ bytes)) (output_created name outputs)

output_other : (name other bytes : List ℕ) (o : Option Outputs) → other ≢ name → SameOutput other o (with_file name bytes o)
output_other name other bytes None h = refl
output_other name other bytes (Some outputs) h =
    ap Some (output_appended_other name other bytes (created name outputs) h ∙ output_created_other name other outputs h)

still_output : (name bytes : List ℕ) (o p : Option Outputs) → SameOutput name o p → IsOutput name bytes o → IsOutput name bytes p
still_output name bytes o None same h = tt
still_output name bytes None (Some outputs) same h = absurd (cc)
still_output name bytes (Some before) (Some outputs) same h = cc

-- ---- many files

same_after : (files : List (List ℕ × List ℕ)) (name bytes : List ℕ) (o p : Option Outputs) → is_among name (names_of files) ≡ false →
    SameOutputs files o p → SameOutputs files o (with_file name bytes p)
same_after [] name bytes o p absent same = tt
same_after (file ∷ files) name bytes o p absent same = (
  output_other name file.0 bytes p (λ is. not_first name file.0 (names_of files) absent (sym is)) ∙ same.0,
  same_after files name bytes o p (not_later name file.0 (names_of files) absent) same.1,
)

same_from : (files : List (List ℕ × List ℕ)) (o p q : Option Outputs) → q ≡ p → SameOutputs files o p → SameOutputs files o q
same_from files o p q e h = subst (SameOutputs files o) (sym e) h

pub all_same : (files : List (List ℕ × List ℕ)) (o : Option Outputs) → SameOutputs files o o
all_same [] o = tt
all_same (file ∷ files) o = (refl, all_same files o)

part_other : (name : List ℕ) (files : List (List ℕ × List ℕ)) (text : List ℕ) (t new : Told) → is_among name (names_of files) ≡ false →
    IsPart files text t new → SameOutput name t.outputs new.outputs
part_other name [] text t new absent (n, few, e) = ap (λ (s : Told). option_map (output_named name) s.outputs) e
part_other name (file ∷ files) text t new absent (inl e) = ap (λ (s : Told). option_map (output_named name) s.outputs) e
part_other name (file ∷ files) text t new absent (inr (inl (n, few, e))) =
    ap (λ (s : Told). option_map (output_named name) s.outputs) e
    ∙ output_other file.0 name (take n file.1) t.outputs (not_first name file.0 (names_of files) absent)
part_other name (file ∷ files) text t new absent (inr (inr h)) =
    part_other name files text (after_file file t) new (not_later name file.0 (names_of files) absent) h
    ∙ output_other file.0 name file.1 t.outputs (not_first name file.0 (names_of files) absent)

delivered_other : (name : List ℕ) (files : List (List ℕ × List ℕ)) (text : List ℕ) (t : Told) → is_among name (names_of files) ≡ false →
    SameOutput name t.outputs (delivered files text t).outputs
delivered_other name [] text t absent = refl
delivered_other name (file ∷ files) text t absent =
    delivered_other name files text (after_file file t) (not_later name file.0 (names_of files) absent)
    ∙ output_other file.0 name file.1 t.outputs (not_first name file.0 (names_of files) absent)

-- ---- delivered whole

abbrev pub AreOutputs : List (List ℕ × List ℕ) → Option Outputs → Type 0
AreOutputs [] o = ⊤
AreOutputs (file ∷ files) o = IsOutput file.0 file.1 o × AreOutputs files o

delivered_outputs : (files : List (List ℕ × List ℕ)) (text : List ℕ) (t : Told) → AreApart (names_of files) →
    AreOutputs files (delivered files text t).outputs
delivered_outputs [] text t h = tt
delivered_outputs (file ∷ files) text t h = (
  still_output file.0 file.1 (after_file file t).outputs (delivered files text (after_file file t)).outputs
      (delivered_other file.0 files text (after_file file t) h.0) (output_there file.0 file.1 t.outputs),
  delivered_outputs files text (after_file file t) h.1,
)

delivered_said : (files : List (List ℕ × List ℕ)) (text : List ℕ) (t : Told) →
    (delivered files text t).said ≡ option_map (λ said. said ++ text) t.said
delivered_said [] text t = refl
delivered_said (file ∷ files) text t = delivered_said files text (after_file file t)

module _ (files : List (List ℕ × List ℕ)) (text : List ℕ) (old new : Told) (left : apart new ≡ delivered files text (apart old)) where
  pub all_written : AreApart (names_of files) → AreOutputs files new.outputs
  all_written h = subst (AreOutputs files) (sym (ap (λ (t : Told). t.outputs) left)) (delivered_outputs files text (apart old) h)

  pub all_said : SaysAll text old new
  all_said = ap (λ (t : Told). t.said) left ∙ delivered_said files text (apart old)

  pub done_other : (name : List ℕ) → is_among name (names_of files) ≡ false → SameOutput name old.outputs new.outputs
  done_other name absent =
      ap (λ (t : Told). option_map (output_named name) t.outputs) left ∙ delivered_other name files text (apart old) absent

-- ---- delivered in part

cut_from : (files : List (List ℕ × List ℕ)) (text : List ℕ) (old new t : Told) → AreApart (names_of files) →
    SameOutputs files old.outputs t.outputs → t.said ≡ old.said →
    IsPart files text t (apart new) → IsCutOff files text old new
cut_from [] text old new t h same said (n, few, e) =
    (n, few, ap (λ (s : Told). s.said) e ∙ ap (option_map (λ said. said ++ take n text)) said)
cut_from (file ∷ files) text old new t h same said (inl e) =
    inl
    (same_from (file ∷ files) old.outputs t.outputs new.outputs (ap (λ (s : Told). s.outputs) e) same, ap (λ (s : Told). s.said) e ∙ said)
cut_from (file ∷ files) text old new t h same said (inr (inl (n, few, e))) =
    let outputs : new.outputs ≡ with_file file.0 (take n file.1) t.outputs = ap (λ (s : Told). s.outputs) e in
    inr (inl (
      n,
      few,
      subst (IsOutput file.0 (take n file.1)) (sym outputs) (output_there file.0 (take n file.1) t.outputs),
      same_from files old.outputs _ new.outputs outputs (same_after files file.0 (take n file.1) old.outputs t.outputs h.0 same.1),
      ap (λ (s : Told). s.said) e ∙ said,
    ))
cut_from (file ∷ files) text old new t h same said (inr (inr part)) =
    inr (inr (
      still_output file.0 file.1 (after_file file t).outputs new.outputs
          (part_other file.0 files text (after_file file t) (apart new) h.0 part) (output_there file.0 file.1 t.outputs),
      cut_from files text old new (after_file file t) h.1 (same_after files file.0 file.1 old.outputs t.outputs h.0 same.1) said part,
    ))

module _ (files : List (List ℕ × List ℕ)) (text : List ℕ) (old new : Told) (left : IsPart files text (apart old) (apart new)) where
  pub cut_off : AreApart (names_of files) → IsCutOff files text old new
  cut_off h = cut_from files text old new (apart old) h (all_same files old.outputs) refl left

  pub part_done_other : (name : List ℕ) → is_among name (names_of files) ≡ false → SameOutput name old.outputs new.outputs
  part_done_other name absent = part_other name files text (apart old) (apart new) absent left

-- ---- a text alone

pub says_only : (text : List ℕ) (old new : Told) → apart new ≡ after_say text (apart old) → CreatesNone old new × SaysAll text old new
says_only text old new e = (
  (ap (λ (t : Told). t.outputs) e, ap (λ (t : Told). t.writing) e, ap (λ (t : Told). t.output_open) e),
  ap (λ (t : Told). t.said) e,
)

-- a count that has one more has risen
pub rises : (old new : ℕ) → new ≡ counted old → HasRisen old new
rises old new e = omega (arith, e)

pub only_says : (text : List ℕ) (old new : Seen) → Says text old new → OnlySays text old new
only_says text old new (n, few, e, whole) = let s = says_only (take n text) old.told new.told e in (s.0, (n, few, s.1, said whole))
  where
    said : ((n ≡ length text) × (new.writes ≡ old.writes)) ⊎ LastWriteFailed old new → (n ≡ length text) ⊎ WritesRose old new
    said (inl all) = inl all.0
    said (inr fault) = inr (rises old.writes new.writes fault.0)

pub same_outputs : (name : List ℕ) (old new : Told) → CreatesNone old new → SameOutput name old.outputs new.outputs
same_outputs name old new h = ap (option_map (output_named name)) h.0

pub no_files : (files : List (List ℕ × List ℕ)) → names_of files ≡ [] → files ≡ []
no_files [] e = refl
no_files (file ∷ files) e = absurd (cc)

-- ---- the names

same_names : (old mid new : Told) → SameNames old mid → apart new ≡ mid → SameNames old new
same_names old mid new h e = (
  ap (λ (t : Told). t.inputs) e ∙ h.0,
  ap (λ (t : Told). t.may_open) e ∙ h.1,
  ap (λ (t : Told). t.may_create) e ∙ h.2,
)

delivered_names : (files : List (List ℕ × List ℕ)) (text : List ℕ) (t : Told) → SameNames t (delivered files text t)
delivered_names [] text t = (refl, refl, refl)
delivered_names (file ∷ files) text t = delivered_names files text (after_file file t)

pub part_names : (files : List (List ℕ × List ℕ)) (text : List ℕ) (t new : Told) → IsPart files text t new → SameNames t new
part_names [] text t new (n, few, e) = (ap (λ (s : Told). s.inputs) e, ap (λ (s : Told). s.may_open) e, ap (λ (s : Told). s.may_create) e)
part_names (file ∷ files) text t new (inl e) =
    (ap (λ (s : Told). s.inputs) e, ap (λ (s : Told). s.may_open) e, ap (λ (s : Told). s.may_create) e)
part_names (file ∷ files) text t new (inr (inl (n, few, e))) =
    (ap (λ (s : Told). s.inputs) e, ap (λ (s : Told). s.may_open) e, ap (λ (s : Told). s.may_create) e)
part_names (file ∷ files) text t new (inr (inr h)) = part_names files text (after_file file t) new h

pub done_names : (files : List (List ℕ × List ℕ)) (text : List ℕ) (old new : Told) → apart new ≡ delivered files text (apart old) →
    SameNames old new
done_names files text old new e = same_names old (delivered files text (apart old)) new (delivered_names files text (apart old)) e

pub said_names : (text : List ℕ) (old new : Seen) → Says text old new → SameNames old.told new.told
said_names text old new (n, few, e, whole) = same_names old.told (after_say (take n text) (apart old.told)) new.told (refl, refl, refl) e
