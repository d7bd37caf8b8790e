-- Memory on its way to what it is to be: each address holds that already, or is still to be stored to.
use Rattle.std.proofs.Common.{◌≡◌, ℕ, true, false, ◌==◌, List, [], ◌∷◌, ◌++◌, All, refl, sym, ap, subst, ◌∙◌, ⊎_elim}
use Rattle.std.proofs.lemmas.List.Folds.{list_any-append}
use Rattle.std.proofs.lemmas.Bool.{cases_Bool, or_parts, or_from, or_cases, eqb-true, eqb-false}
use Rattle.std.proofs.lemmas.List.Elements.{All-nil, All-cons, All-head, All-tail}
use Rattle.fifo_model.specs.declared.Queue.{Queue}
use Rattle.page_table.specs.Grants.{Chunk, granted}
use Rattle.page_table.specs.Blocks.{Block, chunks_of, byte_at, stored}
use Rattle.page_table.proofs.Memory.{chunks_of-stored, byte_at-stored_same, byte_at-stored_other}
use Rattle.machine_model.specs.Turns.{Store, stored_all}
use Rattle.machine_model.proofs.Memory.{chunks-stored_all}
use Rattle.field_law.specs.Sections.{is_stored}
use Rattle.field_law.proofs.Changed.{changed, changed_here, each_changed, each_unchanged}
use Rattle.field_law.proofs.Within.{IsMade}

-- ---- stores one after another

-- an address to which nothing is stored keeps its byte
pub byte_at-unstored : (memory : List Block) (stores : List Store) (address : ℕ) → is_stored address stores ≡ false →
    byte_at (stored_all memory stores) address ≡ byte_at memory address
byte_at-unstored memory [] address none = refl
byte_at-unstored memory (store ∷ stores) address none =
    let parts = or_parts (store.address == address) (is_stored address stores) none in
    byte_at-unstored (stored memory store.address store.byte) stores address parts.1
    ∙ byte_at-stored_other memory store.address store.byte address (λ same. eqb-false _ _ parts.0 (sym same))

-- a store of the byte that is to be there
abbrev pub IsAgreed : (ℕ → ℕ) → Store → Type 0
IsAgreed final store = final store.address ≡ store.byte

-- an address to which something is stored has the byte that is to be there
pub byte_at-stored_all : (chunks : List Chunk) (final : ℕ → ℕ) (memory : List Block) (stores : List Store) (address : ℕ) →
    chunks_of memory ≡ chunks →
    All (λ store. granted chunks store.address ≡ true) stores → All (λ store. final store.address ≡ store.byte) stores →
    is_stored address stores ≡ true → byte_at (stored_all memory stores) address ≡ final address
byte_at-stored_all chunks final memory [] address same within agree some = cc
byte_at-stored_all chunks final memory (store ∷ stores) address same within agree some =
    let after : List Block = stored memory store.address store.byte in
    ⊎_elim
    (λ later.
    byte_at-stored_all chunks final after stores address (chunks_of-stored memory store.address store.byte ∙ same)
    (All-tail (λ store. granted chunks store.address ≡ true) store stores within)
    (All-tail (λ store. final store.address ≡ store.byte) store stores agree) later)
    (λ last.
    let here = ⊎_elim (λ here. here) (λ later. cc) (or_cases (store.address == address) (is_stored address stores) some) in
    let at = eqb-true store.address address here in
    let allowed : granted (chunks_of memory) store.address ≡ true =
    ap (λ (chunks : List Chunk). granted chunks store.address) same
    ∙ All-head (λ store. granted chunks store.address ≡ true) store stores within in
    byte_at-unstored after stores address last ∙ ap (byte_at after) (sym at) ∙ byte_at-stored_same memory store.address store.byte allowed
    ∙ sym (All-head (λ store. final store.address ≡ store.byte) store stores agree) ∙ ap final at)
    (cases_Bool (is_stored address stores))

pub all_left : {X : Type 0} (P : X → Type 0) (xs ys : List X) → All P (xs ++ ys) → All P xs
all_left P [] ys h = All-nil P
all_left P (x ∷ xs) ys h = All-cons P x xs (All-head P x (xs ++ ys) h) (all_left P xs ys (All-tail P x (xs ++ ys) h))

all_right : (P : Store → Type 0) (xs ys : List Store) → All P (xs ++ ys) → All P ys
all_right P [] ys h = h
all_right P (x ∷ xs) ys h = all_right P xs ys (All-tail P x (xs ++ ys) h)

stored_in_neither : (address : ℕ) (xs ys : List Store) → is_stored address xs ≡ false → is_stored address ys ≡ false →
    is_stored address (xs ++ ys) ≡ false
stored_in_neither address xs ys none none' =
    list_any-append (λ store. store.address == address) xs ys ∙ or_from (is_stored address xs) (is_stored address ys) none none'

-- ---- memory under way

pub record Settles (chunks : List Chunk) (final : ℕ → ℕ) (memory : List Block) (stores : Queue → List Store) : Type 0 where
  pub same : chunks_of memory ≡ chunks
  pub within : (q : Queue) → All (λ store. granted chunks store.address ≡ true) (stores q)
  pub agree : (q : Queue) → All (λ store. final store.address ≡ store.byte) (stores q)
  pub settled : (address : ℕ) → ((q : Queue) → is_stored address (stores q) ≡ false) → byte_at memory address ≡ final address

module _ (chunks : List Chunk) (final : ℕ → ℕ) (memory : List Block) (stores : Queue → List Store) (q : Queue) (made rest : List Store)
    (split : stores q ≡ made ++ rest) (h : Settles chunks final memory stores) where
  abbrev IsWithin : Store → Type 0
  IsWithin store = granted chunks store.address ≡ true

  both_within : All IsWithin (made ++ rest)
  both_within = subst (λ (stores : List Store). All IsWithin stores) split (h.within q)

  both_agree : All (IsAgreed final) (made ++ rest)
  both_agree = subst (λ (stores : List Store). All (IsAgreed final) stores) split (h.agree q)

  settled : (address : ℕ) → ((p : Queue) → is_stored address (changed q rest stores p) ≡ false) →
      byte_at (stored_all memory made) address ≡ final address
  settled address none =
      let none_left : is_stored address rest ≡ false = sym (ap (is_stored address) (changed_here q rest stores)) ∙ none q in
      ⊎_elim
      (λ some. byte_at-stored_all chunks final memory made address h.same (all_left IsWithin made rest both_within)
      (all_left (IsAgreed final) made rest both_agree) some)
      (λ unstored.
      byte_at-unstored memory made address unstored
      ∙ h.settled address (each_unchanged (λ _ stores. is_stored address stores ≡ false) q rest stores none
      (subst (λ (stores : List Store). is_stored address stores ≡ false) (sym split)
      (stored_in_neither address made rest unstored none_left))))
      (cases_Bool (is_stored address made))

  -- some of the stores of a queue are made
  pub settles_made : Settles chunks final (stored_all memory made) (changed q rest stores)
  settles_made =
      record {
        same = chunks-stored_all memory made ∙ h.same;
        within = each_changed (λ _ stores. All IsWithin stores) q rest stores h.within (all_right IsWithin made rest both_within);
        agree =
            each_changed (λ _ stores. All (IsAgreed final) stores) q rest stores h.agree (all_right (IsAgreed final) made rest both_agree);
        settled = settled;
      }

-- `given` is what is known of the stores, if anything is
abbrev pub Settling : Type 0 → List Chunk → (ℕ → ℕ) → List Block → (Queue → List Store) → Type 0
Settling given chunks final memory stores = given → Settles chunks final memory stores

pub settling_made : (given : Type 0) (chunks : List Chunk) (final : ℕ → ℕ) → IsMade (Settling given chunks final)
settling_made given chunks final memory stores q made rest split settling =
    λ known. settles_made chunks final memory stores q made rest split (settling known)
