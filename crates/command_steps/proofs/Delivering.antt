-- Outputs that are written one after the other.
use Rattle.std.proofs.Common.{◌≡◌, ℕ, ◌<◌, ◌≤◌, inl, inr, true, List, [], ◌∷◌, ◌++◌, length, Result, Ok, Err, refl, sym, ap, subst, ◌∙◌}
use Rattle.std.proofs.Common.{append_assoc, suc, ◌+◌, All, drop, slice_index_or, arith}
use Rattle.std.proofs.Math.Seq.{drop-cons}
use Rattle.std.proofs.Math.ListN.{drop_of_length-le}
use Rattle.capture_desk.specs.declared.calls.Call.{Call}
use Rattle.capture_desk.specs.declared.calls.Call.TheVariants.{CreateOut, Finish, Say}
use Rattle.capture_desk.specs.Desks.{OnlySaid, SayCounts, Seen, Told, Tells, said_by}
use Rattle.capture_desk.proofs.Telling.{tells_both}
use Rattle.command_steps.specs.declared.outputs.Output.{Output}
use Rattle.command_steps.specs.Inputs.{SameCounts}
use Rattle.command_steps.specs.Reading.{Calls}
use Rattle.command_steps.specs.Outputs.{IsDeliveryOf, IsDeliveryPart, IsFileOf, IsPart, after_file, delivered, delivery, files_of, names_of}

-- Of all files some were written, and others are left: what delivers these delivers all.
pub record IsUnderWay (files left : List (List ℕ × List ℕ)) (old now : Seen) : Type 0 where
  pub whole : (text : List ℕ) → delivered left text now.told ≡ delivered files text old.told
  pub part : (text : List ℕ) (t : Told) → IsPart left text now.told t → IsPart files text old.told t
  pub counts : SameCounts old now
  pub made : List Call
  pub tells : Tells made old.calls now.calls
  pub all_made : (text : List ℕ) → made ++ delivery (names_of left) text ≡ delivery (names_of files) text
  pub part_made : (calls : List Call) → IsDeliveryPart (names_of left) calls → IsDeliveryPart (names_of files) (made ++ calls)

abbrev both : List ℕ → List Call
both name = CreateOut name true ∷ Finish true ∷ []

-- one more is written
pub one_written : (A E : Type 0) (done : A) (files left : List (List ℕ × List ℕ)) (name bytes : List ℕ) (old mid new : Seen) →
    IsUnderWay files ((name, bytes) ∷ left) old mid →
    new.told ≡ after_file (name, bytes) mid.told → SameCounts mid new → Calls (IsFileOf {A = A} {E = E} name (Ok done)) mid new →
    IsUnderWay files left old new
one_written A E done files left name bytes old mid new h is counts (calls, same, tells) =
    record {
      whole = λ text. ap (delivered left text) is ∙ h.whole text;
      part = λ text t p. h.part text t (inr (inr (subst (λ now. IsPart left text now t) is p)));
      counts = (counts.0 ∙ h.counts.0, counts.1 ∙ h.counts.1);
      made = h.made ++ both name;
      tells =
          tells_both h.made (both name) old.calls mid.calls new.calls h.tells (subst (λ made. Tells made mid.calls new.calls) same tells);
      all_made = λ text. append_assoc h.made (both name) (delivery (names_of left) text) ∙ h.all_made text;
      part_made =
          λ calls p. subst (IsDeliveryPart (names_of files)) (sym (append_assoc h.made (both name) calls))
          (h.part_made (both name ++ calls) (inr (inr (inr (calls, refl, p)))));
    }

pub not_written_calls : (A E : Type 0) (failed : E) (files left : List (List ℕ × List ℕ)) (name bytes : List ℕ) (old mid new : Seen) →
    IsUnderWay files ((name, bytes) ∷ left) old mid →
    Calls (IsFileOf {A = A} {E = E} name (Err failed)) mid new → Calls (IsDeliveryPart (names_of files)) old new
not_written_calls A E failed files left name bytes old mid new h (calls, is, tells) =
    (h.made ++ calls, h.part_made calls (a_part is), tells_both h.made calls old.calls mid.calls new.calls h.tells tells)
  where
    a_part : IsFileOf {A = A} {E = E} name (Err failed) calls → IsDeliveryPart (name ∷ names_of left) calls
    a_part (inl e) = inl e
    a_part (inr (inl e)) = inr (inl e)
    a_part (inr (inr e)) = inr (inr (inl e))

-- ---- all are written, and the text is printed

pub text_calls : (files : List (List ℕ × List ℕ)) (text : List ℕ) (old mid new : Seen) → IsUnderWay files [] old mid →
    OnlySaid text mid new →
    Tells (delivery (names_of files) text) old.calls new.calls
text_calls files text old mid new h said =
    subst (λ made. Tells made old.calls new.calls) (h.all_made text)
    (tells_both h.made (said_by text) old.calls mid.calls new.calls h.tells said.2)

pub part_calls : (files : List (List ℕ × List ℕ)) (old mid new : Seen) → IsUnderWay files [] old mid →
    Tells (Say ∷ []) mid.calls new.calls →
    Calls (IsDeliveryPart (names_of files)) old new
part_calls files old mid new h tells =
    (h.made ++ (Say ∷ []), h.part_made (Say ∷ []) refl, tells_both h.made (Say ∷ []) old.calls mid.calls new.calls h.tells tells)

pub said_calls : (A E : Type 0) (r : Result A E) (files : List (List ℕ × List ℕ)) (text said : List ℕ) (old mid new : Seen) →
    IsUnderWay files [] old mid → said ≡ text → SayCounts said r mid new →
    Calls (IsDeliveryOf (names_of files) text r) old new
said_calls A E (Ok done) files text said old mid new h e counts =
    (delivery (names_of files) text, refl, text_calls files text old mid new h (subst (λ t. OnlySaid t mid new) e counts))
said_calls A E (Err failed) files text said old mid new h e counts = part_calls files old mid new h counts.1

-- ---- the next output

module _ {C : Type 0} (bytes : C → List ℕ) (outputs : List (Output C)) (i : ℕ) (x : Output C) (few : i < length outputs)
    (is : x ≡ slice_index_or outputs i x) where
  rest_is : drop i outputs ≡ x ∷ drop (i + 1) outputs
  rest_is =
      let next : suc i ≡ i + 1 = omega arith in
      drop-cons outputs i x few ∙ ap (λ n. slice_index_or outputs i x ∷ drop n outputs) next ∙ ap (λ y. y ∷ drop (i + 1) outputs) (sym is)

  pub left_is : files_of bytes (drop i outputs) ≡ (x.name.now, bytes x.content) ∷ files_of bytes (drop (i + 1) outputs)
  left_is = ap (files_of bytes) rest_is

  pub of_next : (P : Output C → Type 0) → All P (drop i outputs) → P x
  of_next P h = subst (All P) rest_is h 0 x (omega arith)

  pub of_later : (P : Output C → Type 0) → All P (drop i outputs) → All P (drop (i + 1) outputs)
  of_later P h = λ k d less. subst (All P) rest_is h (suc k) d (omega (arith, less))

pub none_left : {C : Type 0} (bytes : C → List ℕ) (outputs : List (Output C)) (i : ℕ) → length outputs ≤ i →
    files_of bytes (drop i outputs) ≡ []
none_left bytes outputs i done = ap (files_of bytes) (drop_of_length-le outputs done)
