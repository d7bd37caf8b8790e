-- How the control codes of a queue change with its entries.
use Rattle.std.proofs.Common.{◌≡◌, ◌≤◌, false, List, [], ◌∷◌, ◌++◌, drop, Option, Some, None, refl, ap, sym, ◌∙◌, arith}
use Rattle.risc_word.specs.declared.Code.{Code}
use Rattle.sync_status.specs.declared.StatusKind.{StatusKind}
use Rattle.sync_status.specs.declared.StatusKind.TheVariants.{Control, Start, Pixels, End, Reserved}
use Rattle.sync_status.specs.Statuses.{kind_of, is_control, valid_lanes}
use Rattle.fifo_model.specs.declared.Entry.{Entry}
use Rattle.fifo_model.specs.Queues.{first, valid_of, code_of_kind, front_code_of, code_before, codes_of}

-- a kind that is no control code has none
pub code-data : (kind : StatusKind) → is_control kind ≡ false → code_of_kind kind ≡ None
code-data (Control code) bad = cc
code-data Start none = refl
code-data Pixels none = refl
code-data (End count) none = refl
code-data Reserved none = refl

-- nor has a kind with valid bytes
pub code-valid : (kind : StatusKind) → 1 ≤ valid_lanes kind → code_of_kind kind ≡ None
code-valid (Control code) some = absurd (omega arith)
code-valid Start some = refl
code-valid Pixels some = refl
code-valid (End count) some = refl
code-valid Reserved some = refl

before-append : (code : Option Code) (xs ys : List Code) → code_before code (xs ++ ys) ≡ code_before code xs ++ ys
before-append None xs ys = refl
before-append (Some code) xs ys = refl

pub codes-append : (xs ys : List Entry) → codes_of (xs ++ ys) ≡ codes_of xs ++ codes_of ys
codes-append [] ys = refl
codes-append (entry ∷ rest) ys =
    let code = code_of_kind (kind_of entry.status) in
    ap (code_before code) (codes-append rest ys) ∙ before-append code (codes_of rest) (codes_of ys)

-- the codes after a data entry, and after a control entry
pub codes-entered : (entries : List Entry) (entry : Entry) → is_control (kind_of entry.status) ≡ false →
    codes_of (entries ++ entry ∷ []) ≡ codes_of entries
codes-entered [] entry none = ap (λ code. code_before code []) (code-data (kind_of entry.status) none)
codes-entered (front ∷ rest) entry none = ap (code_before (code_of_kind (kind_of front.status))) (codes-entered rest entry none)

-- without a front that is no control code, and without one that is
pub codes-without_data : (entries : List Entry) → front_code_of (first entries) ≡ None → codes_of (drop 1 entries) ≡ codes_of entries
codes-without_data [] none = refl
codes-without_data (entry ∷ rest) none = sym (ap (λ code. code_before code (codes_of rest)) none)

pub codes-without_code : (entries : List Entry) (code : Code) → front_code_of (first entries) ≡ Some code →
    codes_of entries ≡ code ∷ codes_of (drop 1 entries)
codes-without_code [] code some = cc
codes-without_code (entry ∷ rest) code some = ap (λ found. code_before found (codes_of rest)) some

-- a front with valid bytes is no control code
pub front-valid : (front : Option Entry) → 1 ≤ valid_of front → front_code_of front ≡ None
front-valid None some = refl
front-valid (Some entry) some = code-valid (kind_of entry.status) some
