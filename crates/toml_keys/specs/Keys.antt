-- The document that a text is, and the keys of a table that are none of a form's.
use Rattle.std.specs.Prelude.{◌≡◌, ℕ, Bool, false, not, Contains, List, [], ◌∷◌, Option, Some, None, is_some, filter, unwrap_or}
use Rattle.std.specs.Prelude.{if◌then◌else◌}
use Rattle.std.specs.Ordering.{nat_cmp, is_gt, match_ordering}
use Rattle.std.specs.Cmp.Lexicographic.{slice_cmp}
use Rattle.std.specs.Str.{is_utf8}
use Rattle.toml.specs.Data.{Members, no_members, member, get_member}
use Rattle.toml.specs.Parse.{parse_document}

-- the document that a text is
abbrev pub document_of : List ℕ → Option Members
document_of text = if is_utf8 text then parse_document text else None

abbrev pub names : Members → List (List ℕ)
names no_members = []
names (member name _ members) = name ∷ names members

-- whether a table has a key
abbrev pub is_there : List ℕ → Members → Bool
is_there name members = is_some (get_member name members)

-- the keys that a form doesn't know
abbrev pub unknown_names : (List ℕ → Bool) → Members → List (List ℕ)
unknown_names is_known members = filter (λ name. not (is_known name)) (names members)

-- the lesser of two names in byte order
abbrev pub lesser : List ℕ → List ℕ → List ℕ
lesser a b = match_ordering (slice_cmp nat_cmp a b) a a b

abbrev pub least : List (List ℕ) → Option (List ℕ)
least [] = None
least (name ∷ others) = Some (lesser name (unwrap_or (least others) name))

-- a key of the table that the form doesn't know, and no such key is below it in byte order
pub record IsLeastUnknown (is_known : List ℕ → Bool) (name : List ℕ) (members : Members) : Type 0 where
  pub here : Contains (names members) name
  pub unknown : is_known name ≡ false
  pub least : (other : List ℕ) → Contains (names members) other → is_known other ≡ false → is_gt (slice_cmp nat_cmp name other) ≡ false
