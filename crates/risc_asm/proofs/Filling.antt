-- Spans that are filled and get an entry with as few words and spans as can be.
use Rattle.std.proofs.Common.{◌≡◌, ℕ, zero, suc, ◌+◌, ◌^◌, ◌<◌, ◌≤◌, Bool, true, false, List, [], ◌∷◌, ◌++◌, length, get_or, Option, Some}
use Rattle.std.proofs.Common.{Ok, Err, refl, sym, ap, arith, lt-ltb, le-leb}
use Rattle.std.specs.Prelude.{IfOk, Result, nat_le, nat_lt}
use Rattle.std.proofs.lemmas.Bool.{lt-leb, le-ltb}
use Rattle.machine_model.specs.Paths.{Span, span}
use Rattle.risc_verify.specs.Places.{with_word}
use Rattle.risc_text.proofs.Spelling.{some_is}
use Rattle.risc_text.specs.Assembly.{completed, filled, of_one_by, of_spans, other_word, some_words, with_entry}

pub map_ok : {A E : Type 0} (P Q : A → Type 0) (r : Result A E) → ((x : A) → P x → Q x) → IfOk r P → IfOk r Q
map_ok P Q (Ok x) f p = f x p
map_ok P Q (Err e) f p = p

some_kept : (words : List ℕ) → 0 < length words → some_words words ≡ words
some_kept [] some = absurd (omega arith)
some_kept (word ∷ words) some = refl

none_filled : (words : List ℕ) → length words ≡ 0 → some_words words ≡ words ++ other_word ∷ []
none_filled [] none = refl
none_filled (word ∷ words) none = absurd (omega arith)

pub filled_some : (spans : List Span) (n : ℕ) (d : Span) → n + 1 ≡ length spans → 0 < length (get_or spans n d).words → filled spans ≡ spans
filled_some [] n d last some = absurd (omega arith)
filled_some (s ∷ []) zero d last some = ap (λ (words : List ℕ). span s.at words ∷ []) (some_kept s.words some)
filled_some (s ∷ []) (suc n) d last some = absurd (omega arith)
filled_some (s ∷ other ∷ rest) zero d last some = absurd (omega arith)
filled_some (s ∷ other ∷ rest) (suc n) d last some =
    ap (λ (spans : List Span). s ∷ spans) (filled_some (other ∷ rest) n d (omega arith) some)

pub filled_none : (spans : List Span) (n : ℕ) (d : Span) → n + 1 ≡ length spans → length (get_or spans n d).words ≡ 0 →
    with_word spans other_word ≡ filled spans
filled_none [] n d last none = absurd (omega arith)
filled_none (s ∷ []) zero d last none = ap (λ (words : List ℕ). span s.at words ∷ []) (sym (none_filled s.words none))
filled_none (s ∷ []) (suc n) d last none = absurd (omega arith)
filled_none (s ∷ other ∷ rest) zero d last none = absurd (omega arith)
filled_none (s ∷ other ∷ rest) (suc n) d last none =
    ap (λ (spans : List Span). s ∷ spans) (filled_none (other ∷ rest) n d (omega arith) none)

pub filled_length : (spans : List Span) → length (filled spans) ≡ length spans
filled_length [] = refl
filled_length (s ∷ []) = refl
filled_length (s ∷ other ∷ rest) = ap suc (filled_length (other ∷ rest))

pub entry_second : (spans : List Span) (d : Span) → length spans ≡ 1 → 1 < length (get_or spans 0 d).words →
    with_entry spans ≡ of_spans ((get_or spans 0 d).at + 4) spans
entry_second [] d one two = absurd (omega arith)
entry_second (s ∷ []) d one two = ap (λ (two : Bool). of_one_by two (nat_le (s.at + 12) (2 ^ 32)) s) (lt-ltb 1 (length s.words) two)
entry_second (s ∷ other ∷ rest) d one two = absurd (omega arith)

pub entry_room : (spans : List Span) (d : Span) → length spans ≡ 1 → length (get_or spans 0 d).words ≤ 1 →
    (get_or spans 0 d).at + 12 ≤ 2 ^ 32 →
    with_entry spans ≡ of_spans (get_or spans 0 d).at (with_word (spans ++ span ((get_or spans 0 d).at + 8) [] ∷ []) other_word)
entry_room [] d one few room = absurd (omega arith)
entry_room (s ∷ []) d one few room =
    let two_is = le-ltb 1 (length s.words) few in
    let room_is = le-leb (s.at + 12) (2 ^ 32) room in
    (λ i. of_one_by (two_is i) (room_is i) s)
entry_room (s ∷ other ∷ rest) d one few room = absurd (omega arith)

pub entry_near : (spans : List Span) (d : Span) → length spans ≡ 1 → length (get_or spans 0 d).words ≤ 1 →
    2 ^ 32 < (get_or spans 0 d).at + 12 →
    with_entry spans ≡ of_spans ((get_or spans 0 d).at + 4) (with_word spans other_word)
entry_near [] d one few near = absurd (omega arith)
entry_near (s ∷ []) d one few near =
    let two_is = le-ltb 1 (length s.words) few in
    let room_is = lt-leb (s.at + 12) (2 ^ 32) near in
    (λ i. of_one_by (two_is i) (room_is i) s)
entry_near (s ∷ other ∷ rest) d one few near = absurd (omega arith)

pub entry_many : (spans : List Span) (d : Span) → 1 < length spans → with_entry spans ≡ of_spans (get_or spans 0 d).at spans
entry_many [] d many = absurd (omega arith)
entry_many (s ∷ []) d many = absurd (omega arith)
entry_many (s ∷ other ∷ rest) d many = refl

with_entry_some : (spans : List Span) → 0 < length spans → 0 < length (with_entry spans).spans
with_entry_some [] some = absurd (omega arith)
with_entry_some (s ∷ []) some = by (nat_lt 1 (length s.words)) (nat_le (s.at + 12) (2 ^ 32))
  where
    by : (two room : Bool) → 0 < length (of_one_by two room s).spans
    by true room = omega arith
    by false true = omega arith
    by false false = omega arith
with_entry_some (s ∷ other ∷ rest) some = omega arith

pub completed_some : (spans : List Span) → 0 < length spans → 0 < length (completed spans).spans
completed_some spans some = with_entry_some (filled spans) (let long = filled_length spans in omega arith)

abbrev pair : ℕ → List Span → Option (ℕ × List Span)
pair entry spans = Some (entry, spans)

pub pair_is : (one other : ℕ) (spans more : List Span) → pair one spans ≡ pair other more → (one ≡ other) × (spans ≡ more)
pair_is one other spans more same =
    let first : ℕ × List Span = (one, spans) in
    let second : ℕ × List Span = (other, more) in
    let both : first ≡ second = some_is first second same in
    (ap (λ (pair : ℕ × List Span). pair.0) both, ap (λ (pair : ℕ × List Span). pair.1) both)
