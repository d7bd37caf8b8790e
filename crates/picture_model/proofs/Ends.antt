-- How many chunks end at an offset or before it.
use Rattle.std.proofs.Common.{◌≡◌, ℕ, zero, suc, ◌+◌, ◌-◌, ◌*◌, ◌<◌, ◌≤◌, List, [], ◌∷◌, length, map, Option, Some, None, refl, sym, ap}
use Rattle.std.proofs.Common.{arith, ⊎_elim, if◌then◌else◌}
use Rattle.std.specs.Prelude.{nat_lt}
use Rattle.std.specs.List.{range_with_len}
use Rattle.std.proofs.lemmas.Bool.{cases_lt, cond-true, cond-false, lt-ltb, le-ltb}
use Rattle.page_table.specs.Grants.{Chunk, total}
use Rattle.page_table.specs.Scattered.{room_at}
use Rattle.page_table.proofs.Placing.{total-cons}
use Rattle.page_table.proofs.Scattered.{room_at-here, room_at-later}

abbrev pub ended : List Chunk → ℕ → ℕ
ended [] o = 0
ended (c ∷ rest) o = if nat_lt o c.len then 0 else suc (ended rest (o - c.len))

pub ended-here : (c : Chunk) (rest : List Chunk) (o : ℕ) → o < c.len → ended (c ∷ rest) o ≡ 0
ended-here c rest o within = cond-true (nat_lt o c.len) 0 (suc (ended rest (o - c.len))) (lt-ltb o c.len within)

pub ended-later : (c : Chunk) (rest : List Chunk) (o : ℕ) → c.len ≤ o → ended (c ∷ rest) o ≡ suc (ended rest (o - c.len))
ended-later c rest o past = cond-false (nat_lt o c.len) 0 (suc (ended rest (o - c.len))) (le-ltb o c.len past)

pub ended-few : (memory : List Chunk) (o : ℕ) → ended memory o ≤ length memory
ended-few [] o = omega arith
ended-few (c ∷ rest) o =
    ⊎_elim
    (λ here. omega (arith, ended-here c rest o here))
    (λ past. let more = ended-few rest (o - c.len) in omega (arith, ended-later c rest o past))
    (cases_lt o c.len)

pub ended-le : (memory : List Chunk) (o p : ℕ) → o ≤ p → ended memory o ≤ ended memory p
ended-le [] o p order = omega arith
ended-le (c ∷ rest) o p order =
    ⊎_elim
    (λ here. omega (arith, ended-here c rest o here))
    (λ past. let more = ended-le rest (o - c.len) (p - c.len) (omega arith) in
    omega (arith, ended-later c rest o past, ended-later c rest p (omega arith)))
    (cases_lt o c.len)

-- past the room of its chunk an offset has one more chunk behind it
pub ended-past : (memory : List Chunk) (o n : ℕ) → o < total memory → room_at memory o ≤ n → ended memory o + 1 ≤ ended memory (o + n)
ended-past [] o n within past = absurd (omega arith)
ended-past (c ∷ rest) o n within past =
    let whole = total-cons c rest in
    ⊎_elim
    (λ here.
    let room = room_at-here c rest o here in
    omega (arith, ended-here c rest o here, ended-later c rest (o + n) (omega arith)))
    (λ later.
    let room = room_at-later c rest o later in
    let more = ended-past rest (o - c.len) n (omega arith) (omega arith) in
    let e : o + n - c.len ≡ o - c.len + n = omega arith in
    let same : ended rest (o + n - c.len) ≡ ended rest (o - c.len + n) = ap (ended rest) e in
    omega (arith, ended-later c rest o later, ended-later c rest (o + n) (omega arith)))
    (cases_lt o c.len)

-- the chunks that have ended at the offset so many bytes after a line's beginning
abbrev pub ended_after : List Chunk → ℕ → Option ℕ → ℕ
ended_after memory bytes None = 0
ended_after memory bytes (Some from) = ended memory (from + bytes)

abbrev pub all_ended : List Chunk → ℕ → List (Option ℕ) → ℕ
all_ended memory bytes [] = 0
all_ended memory bytes (start ∷ rest) = ended_after memory bytes start + all_ended memory bytes rest

-- what the even and the odd ones of a range have passed, all of it has
pub interleaved : (memory : List Chunk) (bytes : ℕ) (f : ℕ → Option ℕ) (from count low m : ℕ) → low ≡ 2 * from → m ≡ 2 * count →
    all_ended memory bytes (map f (map (λ n. 2 * n) (range_with_len from count))) + all_ended memory bytes
    (map f (map (λ n. 2 * n + 1) (range_with_len from count))) ≡ all_ended memory bytes (map f (range_with_len low m))
interleaved memory bytes f from zero low zero begins twice = refl
interleaved memory bytes f from zero low (suc m) begins twice = absurd (omega arith)
interleaved memory bytes f from (suc count) low zero begins twice = absurd (omega arith)
interleaved memory bytes f from (suc count) low (suc zero) begins twice = absurd (omega arith)
interleaved memory bytes f from (suc count) low (suc (suc m)) begins twice =
    let more = interleaved memory bytes f (from + 1) count (low + 1 + 1) m (omega arith) (omega arith) in
    let even : ended_after memory bytes (f (2 * from)) ≡ ended_after memory bytes (f low) =
    ap (λ (n : ℕ). ended_after memory bytes (f n)) (sym begins) in
    let next : 2 * from + 1 ≡ low + 1 = omega arith in
    let odd : ended_after memory bytes (f (2 * from + 1)) ≡ ended_after memory bytes (f (low + 1)) =
    ap (λ (n : ℕ). ended_after memory bytes (f n)) next in
    omega arith
