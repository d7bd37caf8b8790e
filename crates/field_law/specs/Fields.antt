-- What each queue brings in a field, and which lists of entries bring it.
use Rattle.std.specs.Prelude.{◌≡◌, ℕ, Bool, true, false, List, [], ◌∷◌, ◌++◌, take, Some}
use Rattle.risc_word.specs.declared.Code.{Code}
use Rattle.sync_status.specs.declared.StatusKind.{StatusKind}
use Rattle.sync_status.specs.declared.StatusKind.TheVariants.{Start, Pixels, End}
use Rattle.sync_status.specs.Statuses.{kind_of, valid_bytes}
use Rattle.fifo_model.specs.declared.Entry.{Entry}
use Rattle.fifo_model.specs.Queues.{lane_bytes, code_of_kind}

-- a control code, or a line of these bytes
pub data Token : Type 0 where
  Mark : Code → Token
  Row : List ℕ → Token

-- the bytes in the valid lanes of an entry, and of entries in order
abbrev pub valid_part : Entry → List ℕ
valid_part entry = take (valid_bytes entry.status) (lane_bytes entry.dword)

abbrev pub carried : List Entry → List ℕ
carried [] = []
carried (entry ∷ rest) = valid_part entry ++ carried rest

-- a line: one SOL, any number of PXV and one EOL
abbrev pub ends_line : StatusKind → List Entry → Bool → Bool
ends_line Pixels rest ending = ending
ends_line (End count) [] ending = true
ends_line _ rest ending = false

abbrev pub is_ending : List Entry → Bool
is_ending [] = false
is_ending (entry ∷ rest) = ends_line (kind_of entry.status) rest (is_ending rest)

abbrev pub begins_line : StatusKind → Bool → Bool
begins_line Start ending = ending
begins_line _ ending = false

abbrev pub is_line : List Entry → Bool
is_line [] = false
is_line (entry ∷ rest) = begins_line (kind_of entry.status) (is_ending rest)

pub record IsLine (bytes : List ℕ) (entries : List Entry) : Type 0 where
  pub shape : is_line entries ≡ true
  pub valid : carried entries ≡ bytes

-- entries that bring these tokens, in order
abbrev pub Brings : List Token → List Entry → Type 0
Brings [] entries = entries ≡ []
Brings (Mark code ∷ tokens) entries =
    (entry : Entry) × (rest : List Entry) × (entries ≡ entry ∷ rest) × (code_of_kind (kind_of entry.status) ≡ Some code)
    × Brings tokens rest
Brings (Row bytes ∷ tokens) entries =
    (line : List Entry) × (rest : List Entry) × (entries ≡ line ++ rest) × IsLine bytes line × Brings tokens rest
