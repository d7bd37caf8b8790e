-- The bytes in the valid lanes of entries are those that are drawn.
use Rattle.std.proofs.Common.{◌≡◌, ℕ, zero, suc, ◌+◌, ◌-◌, ◌/◌, ◌%◌, ◌^◌, ◌<◌, ◌≤◌, List, [], ◌∷◌, ◌++◌, length, take, replicate, refl, sym}
use Rattle.std.proofs.Common.{ap, ◌∙◌, arith}
use Rattle.std.proofs.Math.Seq.{take-append_seam}
use Rattle.byteorder.specs.Endian.{little_number}
use Rattle.sync_status.specs.Statuses.{valid_bytes}
use Rattle.fifo_model.specs.Queues.{lane_bytes}
use Rattle.field_law.specs.Fields.{carried}
use Rattle.field_law.proofs.Lines.{valid-most}
use Rattle.field_stream.specs.Generator.{drawn, lanes, next, number_after}
use Rattle.field_stream.specs.Made.{after}
use Rattle.field_stream.specs.Pushes.{Mark, Fill}
use Rattle.generated_law.specs.Drawn.{CarriesDrawn, data_in, drawn_count, drawn_steps}

drawn-add : (number a b : ℕ) → drawn number (a + b) ≡ drawn number a ++ drawn (number_after number a) b
drawn-add number zero b = let none : 0 + b ≡ b = omega arith in ap (drawn number) none
drawn-add number (suc a) b =
    let more : suc a + b ≡ suc (a + b) = omega arith in
    ap (drawn number) more ∙ ap (λ (rest : List ℕ). next number % 256 ∷ rest) (drawn-add (next number) a b)

drawn_long : (number count : ℕ) → length (drawn number count) ≡ count
drawn_long number zero = refl
drawn_long number (suc count) = ap suc (drawn_long (next number) count)

-- the lanes of four bytes are these bytes
lanes_of_bytes : (a b c e : ℕ) → a < 256 → b < 256 → c < 256 → e < 256 →
    lane_bytes (little_number 4 (a ∷ b ∷ c ∷ e ∷ [])) ≡ a ∷ b ∷ c ∷ e ∷ []
lanes_of_bytes a b c e first second third fourth =
    let whole = little_number 4 (a ∷ b ∷ c ∷ e ∷ []) in
    let one : whole % 256 ≡ a = omega arith in
    let two : whole / 2 ^ 8 % 256 ≡ b = omega arith in
    let three : whole / 2 ^ 16 % 256 ≡ c = omega arith in
    let four : whole / 2 ^ 24 % 256 ≡ e = omega arith in
    cc

lanes_same : (number valid : ℕ) → valid ≤ 4 → lane_bytes (little_number 4 (lanes number valid)) ≡ lanes number valid
lanes_same number zero few = refl
lanes_same number (suc zero) few = lanes_of_bytes _ 255 255 255 (omega arith) (omega arith) (omega arith) (omega arith)
lanes_same number (suc (suc zero)) few = lanes_of_bytes _ _ 255 255 (omega arith) (omega arith) (omega arith) (omega arith)
lanes_same number (suc (suc (suc zero))) few = lanes_of_bytes _ _ _ 255 (omega arith) (omega arith) (omega arith) (omega arith)
lanes_same number (suc (suc (suc (suc zero)))) few = lanes_of_bytes _ _ _ _ (omega arith) (omega arith) (omega arith) (omega arith)
lanes_same number (suc (suc (suc (suc (suc valid))))) few = absurd (omega arith)

valid_lanes_drawn : (number valid : ℕ) → valid ≤ 4 → take valid (lane_bytes (little_number 4 (lanes number valid))) ≡ drawn number valid
valid_lanes_drawn number valid few =
    let rest = replicate (4 - valid) 255 in
    ap (take valid) (lanes_same number valid few)
    ∙ ap (λ (n : ℕ). take n (drawn number valid ++ rest)) (sym (drawn_long number valid))
    ∙ take-append_seam (drawn number valid) rest

pub carries_drawn : CarriesDrawn
carries_drawn number [] = refl
carries_drawn number (Mark code ∷ rest) = carries_drawn number rest
carries_drawn number (Fill queue status ∷ rest) =
    let valid = valid_bytes status in
    let later = carried (data_in (drawn_steps (after number (Fill queue status)) rest)) in
    ap (λ (bytes : List ℕ). bytes ++ later) (valid_lanes_drawn number valid (valid-most status))
    ∙ ap (λ (bytes : List ℕ). drawn number valid ++ bytes) (carries_drawn (number_after number valid) rest)
    ∙ sym (drawn-add number valid (drawn_count rest))
