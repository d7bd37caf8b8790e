-- What the desk over memory tells after a call is what the call's clauses of the trait state.
use Rattle.std.proofs.Common.{ℕ, ◌<◌, ◌≤◌, List, [], ◌∷◌, ◌++◌, take, length, Option, Some, None, option_map, Bool, true, false, ◌||◌}
use Rattle.std.proofs.Common.{Result, Ok, Err, if◌then◌else◌, ◌≡◌, refl, sym, ap, subst, IfOk}
use Rattle.std.specs.Str.{bytes_eq}
use Rattle.capture_desk.specs.declared.desk.Failed.{Failed}
use Rattle.capture_desk.specs.Desks.{Appends, Makes, Outputs, Told, after_create, after_write, appended, created, is_among, written}
use Rattle.capture_desk.specs.Memory.{Memory, all_told, append_answer, append_count, called, created_by, held, is_failing, is_full, made}
use Rattle.capture_desk.specs.Memory.{names_of, write_answer, write_failed, wrote}

-- ---- names stay

names_appended : (name bytes : List ℕ) (outputs : Outputs) → names_of (appended name bytes outputs) ≡ names_of outputs
names_appended name bytes [] = refl
names_appended name bytes (file ∷ files) = cases (bytes_eq file.0 name) file _ files (names_appended name bytes files)
  where
    cases : (t : Bool) (file : List ℕ × Option (List ℕ)) (rest files : Outputs) → names_of rest ≡ names_of files →
        names_of (if t then (file.0, option_map (λ old. old ++ bytes) file.1) ∷ files else file ∷ rest) ≡ file.0 ∷ names_of files
    cases true file rest files e = refl
    cases false file rest files e = ap (λ names. file.0 ∷ names) e

names_written : (writing : Option (List ℕ)) (bytes : List ℕ) (outputs : Outputs) →
    names_of (written writing bytes outputs) ≡ names_of outputs
names_written None bytes outputs = refl
names_written (Some name) bytes outputs = names_appended name bytes outputs

names_created : (name : List ℕ) (outputs : Outputs) → is_among name (names_of outputs) ≡ true →
    names_of (created name outputs) ≡ names_of outputs
names_created name [] h = cc
names_created name (file ∷ files) h =
    cases (bytes_eq file.0 name) file _ files (is_among name (names_of files)) h (names_created name files)
  where
    cases : (t : Bool) (file : List ℕ × Option (List ℕ)) (rest files : Outputs) (among : Bool) → (t || among) ≡ true →
        (among ≡ true → names_of rest ≡ names_of files) →
        names_of (if t then (file.0, Some []) ∷ files else file ∷ rest) ≡ file.0 ∷ names_of files
    cases true file rest files among h e = refl
    cases false file rest files among h e = ap (λ names. file.0 ∷ names) (e h)

-- ---- create_out

create_cases : (fails : Bool) (name : List ℕ) (m : Memory) → is_among name (names_of m.outputs) ≡ true →
    Makes {A = Unit {0}} {E = Failed} (if fails then Err (record {}) else Ok tt) (after_create name (all_told m)) (all_told m)
    (all_told (if fails then write_failed (called m) else made name (called m)))
create_cases true name m h = refl
create_cases false name m h =
    ap {B = Told} (λ names. record (after_create name (all_told m)) { may_create = Some names }) (names_created name m.outputs h)

pub creates_told : (name : List ℕ) (m n : Memory) (r : Result (Unit {0}) Failed) → is_among name (names_of m.outputs) ≡ true →
    r ≡ write_answer m → n ≡ created_by name m → Makes r (after_create name (all_told m)) (all_told m) (all_told n)
creates_told name m n r h e f =
    subst (λ x. Makes x (after_create name (all_told m)) (all_told m) (all_told n)) (sym e)
    (subst (λ x. Makes (write_answer m) (after_create name (all_told m)) (all_told m) (all_told x)) (sym f)
    (create_cases (is_failing m) name m h))

-- ---- write

write_cases : (fails full : Bool) (n : ℕ) (bytes : List ℕ) (m : Memory) →
    IfOk {T = ℕ} {E = Failed} (if fails then Err (record {}) else (if full then Err (record {}) else Ok n))
    (λ k. (0 < k) × (k ≤ length bytes)) →
    Appends {E = Failed} bytes (if fails then Err (record {}) else (if full then Err (record {}) else Ok n)) after_write (all_told m)
    (all_told (if fails then write_failed (called m)
    else (if full then write_failed (called m) else record (called m) { outputs = written m.writing (take n bytes) m.outputs })))
write_cases true full n bytes m h = refl
write_cases false true n bytes m h = refl
write_cases false false n bytes m h = (
  h.0,
  h.1,
  ap {B = Told} (λ names. record (after_write (take n bytes) (all_told m)) { may_create = Some names })
      (names_written m.writing (take n bytes) m.outputs),
)

pub writes_told : (bytes : List ℕ) (m n : Memory) (r : Result ℕ Failed) →
    r ≡ append_answer (length bytes) (held m.writing m.outputs) m → n ≡ wrote bytes m → IfOk r (λ k. (0 < k) × (k ≤ length bytes)) →
    Appends bytes r after_write (all_told m) (all_told n)
writes_told bytes m n r e f h =
    let old = held m.writing m.outputs in
    let answer = append_answer (length bytes) old m in
    let some = subst (λ x. IfOk x (λ k. (0 < k) × (k ≤ length bytes))) e h in
    subst (λ x. Appends bytes x after_write (all_told m) (all_told n)) (sym e)
    (subst (λ x. Appends bytes answer after_write (all_told m) (all_told x)) (sym f)
    (write_cases (is_failing m) (is_full old m) (append_count (length bytes) old m) bytes m some))
