-- Whether a text begins with a name, seen byte by byte.
use Rattle.std.proofs.Common.{◌≡◌, ◌≢◌, ℕ, ◌<◌, Bool, true, false, List, ◌++◌, length, take, drop, refl, sym, ap, ◌∙◌}
use Rattle.std.proofs.Common.{Some, None, take-append-drop, if◌then◌else◌}
use Rattle.std.specs.Cmp.Lexicographic.{bytes_decides}
use Rattle.std.specs.Prelude.{slice_index}
use Rattle.std.proofs.lemmas.List.{get_or_append_left}
use Rattle.risc_text.specs.Readers.{after, begins}

pub name_read : (name text rest : List ℕ) → take (length name) text ≡ name → rest ≡ drop (length name) text → after name text ≡ Some rest
name_read name text rest front rest_is =
    let yes = (bytes_decides (take (length name) text) name).1 front in
    ap (λ (b : Bool). if b then Some (drop (length name) text) else None) yes ∙ ap Some (sym rest_is)

none_read : (name text : List ℕ) → (take (length name) text ≡ name → ⊥) → after name text ≡ None
none_read name text other = by_test (begins name text) refl
  where
    by_test : (b : Bool) → begins name text ≡ b → after name text ≡ None
    by_test true is = absurd (other ((bytes_decides (take (length name) text) name).0 is))
    by_test false is = ap (λ (b : Bool). if b then Some (drop (length name) text) else None) is

pub other_byte : (name text : List ℕ) (at : ℕ) → at < length name → slice_index text at ≢ slice_index name at → after name text ≡ None
other_byte name text at within other =
    none_read name text (λ front.
    let whole : text ≡ name ++ drop (length name) text =
    sym (take-append-drop (length name) text) ∙ ap (λ (list : List ℕ). list ++ drop (length name) text) front in
    other (ap (λ (list : List ℕ). slice_index list at) whole ∙ get_or_append_left name (drop (length name) text) 0 at within))
