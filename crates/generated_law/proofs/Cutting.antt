-- The bytes that entries carry, cut into the lines that they bring.
use Rattle.std.proofs.Common.{◌≡◌, ℕ, zero, suc, ◌+◌, ◌*◌, List, [], ◌∷◌, ◌++◌, length, take, drop, Some, refl, sym, ap, ◌∙◌, arith}
use Rattle.std.proofs.Common.{length-append}
use Rattle.std.specs.List.{concat}
use Rattle.std.proofs.Math.Seq.{take-append_seam, drop-append_seam}
use Rattle.std.proofs.lemmas.List.{append_assoc, nil_from_length}
use Rattle.std.proofs.lemmas.List.Elements.{All-head, All-tail}
use Rattle.risc_word.specs.declared.Code.{Code}
use Rattle.sync_status.specs.declared.StatusKind.{StatusKind}
use Rattle.sync_status.specs.declared.StatusKind.TheVariants.{Control, Start, Pixels, End, Reserved}
use Rattle.sync_status.specs.Statuses.{kind_of, valid_lanes}
use Rattle.fifo_model.specs.declared.Entry.{Entry}
use Rattle.fifo_model.specs.Queues.{code_of_kind, lane_bytes}
use Rattle.field_law.specs.Fields.{Token, Mark, Row, Brings, carried, valid_part}
use Rattle.picture_law.specs.Pictures.{AreLines, lines_of, vbi_tokens}
use Rattle.generated_law.specs.Drawn.{cut, vbi_bytes_by}

-- ---- what entries carry

carried-append : (a b : List Entry) → carried (a ++ b) ≡ carried a ++ carried b
carried-append [] b = refl
carried-append (entry ∷ a) b =
    ap (λ (bytes : List ℕ). valid_part entry ++ bytes) (carried-append a b) ∙ sym (append_assoc (valid_part entry) (carried a) (carried b))

abbrev pub bytes_in : List Token → List ℕ
bytes_in [] = []
bytes_in (Mark code ∷ tokens) = bytes_in tokens
bytes_in (Row bytes ∷ tokens) = bytes ++ bytes_in tokens

no_lanes : (kind : StatusKind) (code : Code) → code_of_kind kind ≡ Some code → valid_lanes kind ≡ 0
no_lanes (Control seen) code is = refl
no_lanes Start code is = cc
no_lanes Pixels code is = cc
no_lanes (End count) code is = cc
no_lanes Reserved code is = refl

pub carried-brings : (tokens : List Token) (entries : List Entry) → Brings tokens entries → carried entries ≡ bytes_in tokens
carried-brings [] entries here = ap carried here
carried-brings (Mark code ∷ tokens) entries here =
    ap carried here.2
    ∙ ap (λ (n : ℕ). take n (lane_bytes here.0.dword) ++ carried here.1) (no_lanes (kind_of here.0.status) code here.3)
    ∙ carried-brings tokens here.1 here.4
carried-brings (Row bytes ∷ tokens) entries here =
    ap carried here.2 ∙ carried-append here.0 here.1
    ∙ ap (λ (first : List ℕ). first ++ carried here.1) here.3.valid
    ∙ ap (λ (rest : List ℕ). bytes ++ rest) (carried-brings tokens here.1 here.4)

pub bytes_in-append : (a b : List Token) → bytes_in (a ++ b) ≡ bytes_in a ++ bytes_in b
bytes_in-append [] b = refl
bytes_in-append (Mark code ∷ a) b = bytes_in-append a b
bytes_in-append (Row bytes ∷ a) b =
    ap (λ (rest : List ℕ). bytes ++ rest) (bytes_in-append a b) ∙ sym (append_assoc bytes (bytes_in a) (bytes_in b))

pub bytes_in-lines : (lines : List (List ℕ)) → bytes_in (lines_of lines) ≡ concat lines
bytes_in-lines [] = refl
bytes_in-lines (line ∷ lines) = ap (λ (rest : List ℕ). line ++ rest) (bytes_in-lines lines)

-- ---- cutting

lines_head : (count long : ℕ) (line : List ℕ) (lines : List (List ℕ)) → AreLines (suc count) long (line ∷ lines) →
    (length line ≡ long) × AreLines count long lines
lines_head count long line lines are =
    let many = are.many in (
      All-head (λ line. length line ≡ long) line lines are.long,
      record { many = omega arith; long = All-tail (λ line. length line ≡ long) line lines are.long },
    )

take_first : (long : ℕ) (line rest : List ℕ) → length line ≡ long → take long (line ++ rest) ≡ line
take_first long line rest is = ap (λ (n : ℕ). take n (line ++ rest)) (sym is) ∙ take-append_seam line rest

pub drop_first : (long : ℕ) (line rest : List ℕ) → length line ≡ long → drop long (line ++ rest) ≡ rest
drop_first long line rest is = ap (λ (n : ℕ). drop n (line ++ rest)) (sym is) ∙ drop-append_seam line rest

pub cut-concat : (count long : ℕ) (lines : List (List ℕ)) (more : List ℕ) → AreLines count long lines →
    cut count long (concat lines ++ more) ≡ lines
cut-concat zero long lines more are = sym (nil_from_length lines are.many)
cut-concat (suc count) long [] more are = let many = are.many in absurd (omega arith)
cut-concat (suc count) long (line ∷ lines) more are =
    let parts = lines_head count long line lines are in
    ap (cut (suc count) long) (append_assoc line (concat lines) more)
    ∙ ap (λ (first : List ℕ). first ∷ cut count long (drop long (line ++ (concat lines ++ more))))
    (take_first long line (concat lines ++ more) parts.0)
    ∙ ap (λ (rest : List ℕ). line ∷ cut count long rest) (drop_first long line (concat lines ++ more) parts.0)
    ∙ ap (λ (rest : List (List ℕ)). line ∷ rest) (cut-concat count long lines more parts.1)

pub length-concat : (count long : ℕ) (lines : List (List ℕ)) → AreLines count long lines → length (concat lines) ≡ count * long
length-concat zero long lines are = ap (λ (lines : List (List ℕ)). length (concat lines)) (nil_from_length lines are.many) ∙ omega arith
length-concat (suc count) long [] are = let many = are.many in absurd (omega arith)
length-concat (suc count) long (line ∷ lines) are =
    let parts = lines_head count long line lines are in
    let first = parts.0 in
    let rest = length-concat count long lines parts.1 in
    let more : suc count * long ≡ long + count * long = omega arith in
    omega (arith, length-append line (concat lines))

-- behind bytes that come first
pub drop_both : (a b : ℕ) (first second rest : List ℕ) → length first ≡ a → length second ≡ b →
    drop (a + b) (first ++ (second ++ rest)) ≡ rest
drop_both a b first second rest one two =
    ap (drop (a + b)) (sym (append_assoc first second rest))
    ∙ drop_first (a + b) (first ++ second) rest (length-append first second ∙ omega arith)

-- ---- the VBI part

pub bytes_in-vbi : (more : ℕ) (skipped rows : List (List ℕ)) → bytes_in (vbi_tokens (suc more) skipped rows) ≡ concat skipped ++ concat rows
bytes_in-vbi more skipped rows =
    bytes_in-append (lines_of skipped) (lines_of rows)
    ∙ ap (λ (first : List ℕ). first ++ bytes_in (lines_of rows)) (bytes_in-lines skipped)
    ∙ ap (λ (rest : List ℕ). concat skipped ++ rest) (bytes_in-lines rows)

pub length-vbi : (count skip long : ℕ) (skipped rows : List (List ℕ)) → AreLines skip long skipped → AreLines count long rows →
    length (bytes_in (vbi_tokens count skipped rows)) ≡ vbi_bytes_by count skip long
length-vbi zero skip long skipped rows passed are = refl
length-vbi (suc more) skip long skipped rows passed are =
    let first = length-concat skip long skipped passed in
    let second = length-concat (suc more) long rows are in
    let parts : (skip + suc more) * long ≡ skip * long + suc more * long = omega arith in
    ap length (bytes_in-vbi more skipped rows) ∙ length-append (concat skipped) (concat rows) ∙ omega arith

pub length-no_vbi : (count : ℕ) → length (bytes_in (vbi_tokens count [] [])) ≡ 0
length-no_vbi zero = refl
length-no_vbi (suc more) = refl

-- behind the skipped lines are the VBI lines
pub cut-vbi : (count skip long : ℕ) (skipped rows : List (List ℕ)) (more : List ℕ) → AreLines skip long skipped → AreLines count long rows →
    cut count long (drop (skip * long) (bytes_in (vbi_tokens count skipped rows) ++ more)) ≡ rows
cut-vbi zero skip long skipped rows more passed are = sym (nil_from_length rows are.many)
cut-vbi (suc others) skip long skipped rows more passed are =
    ap (λ (bytes : List ℕ). cut (suc others) long (drop (skip * long) (bytes ++ more))) (bytes_in-vbi others skipped rows)
    ∙ ap (λ (bytes : List ℕ). cut (suc others) long (drop (skip * long) bytes)) (append_assoc (concat skipped) (concat rows) more)
    ∙ ap (cut (suc others) long) (drop_first (skip * long) (concat skipped) (concat rows ++ more) (length-concat skip long skipped passed))
    ∙ cut-concat (suc others) long rows more are
