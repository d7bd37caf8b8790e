-- The outputs of words without a fault have different names, and their names may be used.
use Rattle.std.proofs.Common.{◌≡◌, ℕ, Bool, true, false, ◌||◌, List, [], ◌∷◌, Option, Some, None, Result, Ok, Err, refl, subst, ◌∙◌}
use Rattle.std.specs.Prelude.{if◌then◌else◌}
use Rattle.std.proofs.lemmas.Bool.{or_parts}
use Rattle.bt878_words.specs.declared.Task.{Task}
use Rattle.bt878_words.specs.declared.UsageFault.{UsageFault}
use Rattle.bt878_words.specs.declared.UsageFault.TheVariants.{SameName}
use Rattle.bt878_words.specs.Words.{Word, apart_if, has_clash, named, reads, task_of, verb_named, with_verb, writes}
use Rattle.capture_desk.specs.Desks.{IsAllowed, is_among}
use Rattle.bt878_contract.specs.Tasks.{AreAllowed, AreNames}
use Rattle.bt878_contract.proofs.Outputs.{AreApart, first_among, later_among}

-- ---- different names

unclashed : (b : Bool) (found task : Task) → (if b then Err SameName else Ok found) ≡ Ok task → (b ≡ false) × (found ≡ task)
unclashed true found task e = absurd (cc)
unclashed false found task e = (refl, cc)

no_clash_in : (r : Result Task UsageFault) (task : Task) → apart_if r ≡ Ok task → has_clash (reads task) (writes task) ≡ false
no_clash_in (Err fault) task e = absurd (cc)
no_clash_in (Ok found) task e =
    let u = unclashed (has_clash (reads found) (writes found)) found task e in
    subst (λ t. has_clash (reads t) (writes t) ≡ false) u.1 u.0

no_clash : (words : List Word) (task : Task) → task_of words ≡ Ok task → has_clash (reads task) (writes task) ≡ false
no_clash [] task e = absurd (cc)
no_clash (word ∷ others) task e =
    (elim (verb_named word.now) as (λ verb. with_verb verb others ≡ Ok task → has_clash (reads task) (writes task) ≡ false)
    [ None ↦ (λ e. absurd (cc)) | Some verb ↦ (λ e. no_clash_in (named verb others) task e) ]) e

apart_from : (taken names : List (List ℕ)) → has_clash taken names ≡ false → AreApart names
apart_from taken [] e = tt
apart_from taken (name ∷ names) e =
    let parts = or_parts (is_among name taken || is_among name names) (has_clash taken names) e in
    ((or_parts (is_among name taken) (is_among name names) parts.0).1, apart_from taken names parts.1)

pub outputs_apart : (words : List Word) (task : Task) → task_of words ≡ Ok task → AreApart (writes task)
outputs_apart words task e = apart_from (reads task) (writes task) (no_clash words task e)

-- ---- names that may be used

module _ (names : List (List ℕ)) where
  allowed : (told : Option (List (List ℕ))) → AreNames names told → (name : List ℕ) → is_among name names ≡ true → IsAllowed name told
  allowed None are name among = tt
  allowed (Some known) are name among = are name ∙ among

  each_of : (some : List (List ℕ)) (told : Option (List (List ℕ))) → AreNames names told →
      ((name : List ℕ) → is_among name some ≡ true → is_among name names ≡ true) → AreAllowed some told
  each_of [] told are within = tt
  each_of (name ∷ some) told are within = (
    allowed told are name (within name (first_among name some)),
    each_of some told are (λ other among. within other (later_among other name some among)),
  )

  -- each of these names may be used, where those that the desk tells are these
  pub all_allowed : (told : Option (List (List ℕ))) → AreNames names told → AreAllowed names told
  all_allowed told are = each_of names told are (λ name among. among)
