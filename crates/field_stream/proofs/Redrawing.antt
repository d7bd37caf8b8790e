-- The records of entries that all hold four bytes, drawn anew one after the other.
use Rattle.std.proofs.Common.{◌≡◌, ℕ, zero, suc, ◌+◌, ◌*◌, ◌<◌, List, [], ◌∷◌, ◌++◌, length, take, drop, refl, sym, ap, ap₂, ◌∙◌, arith}
use Rattle.std.proofs.Common.{append_assoc, length-append}
use Rattle.std.proofs.Math.Seq.{drop-append-add, take-append-add}
use Rattle.sync_status.specs.Statuses.{valid_bytes}
use Rattle.fifo_model.specs.declared.Queue.{Queue}
use Rattle.field_stream.specs.Generator.{drawn, lanes, number_after}
use Rattle.field_stream.specs.Pushes.{Push, Mark, Fill}
use Rattle.field_stream.specs.Made.{after, records, records_of, tag_of, turns_record}
use Rattle.field_stream.specs.Lines.{AreWhole}
use Rattle.field_stream.specs.Drafts.{AreRecords, Drafted, pushed, pushed_all}
use Rattle.field_stream.proofs.Moving.{pushed_all-bytes}
use Rattle.field_stream.proofs.Turning.{number_after-add}

-- the records of an entry of four bytes
abbrev whole_record : ℕ → Queue → ℕ → List ℕ
whole_record number queue status = tag_of queue ∷ status ∷ drawn number 4 ++ turns_record

whole_is : (number : ℕ) (queue : Queue) (status : ℕ) → valid_bytes status ≡ 4 →
    records_of number (Fill queue status) ≡ whole_record number queue status
whole_is number queue status four = ap (λ (n : ℕ). (tag_of queue ∷ status ∷ lanes number n) ++ turns_record) four

record_length : (number : ℕ) (queue : Queue) (status : ℕ) → valid_bytes status ≡ 4 →
    length (records_of number (Fill queue status)) ≡ 11
record_length number queue status four = ap (λ (bs : List ℕ). length bs) (whole_is number queue status four)

-- how long the records are, and how many bytes are drawn
pub whole_length : (pushes : List Push) (number : ℕ) → AreWhole pushes → length (records number pushes) ≡ 11 * length pushes
whole_length [] number whole = refl
whole_length (Mark code ∷ rest) number whole = absurd whole
whole_length (Fill queue status ∷ rest) number whole =
    let others = records (number_after number (valid_bytes status)) rest in
    length-append (records_of number (Fill queue status)) others
    ∙ ap (λ (n : ℕ). n + length others) (record_length number queue status whole.0)
    ∙ ap (λ (n : ℕ). 11 + n) (whole_length rest (number_after number (valid_bytes status)) whole.1)
    ∙ (let same : 11 + 11 * length rest ≡ 11 * length (Fill queue status ∷ rest) = omega arith in same)

pub whole_number : (pushes : List Push) (d : Drafted) → AreWhole pushes →
    (pushed_all pushes d).number ≡ number_after d.number (4 * length pushes)
whole_number [] d whole = refl
whole_number (Mark code ∷ rest) d whole = absurd whole
whole_number (Fill queue status ∷ rest) d whole =
    whole_number rest (pushed (Fill queue status) d) whole.1
    ∙ ap (λ (n : ℕ). number_after (number_after d.number n) (4 * length rest)) whole.0
    ∙ sym (number_after-add d.number 4 (4 * length rest))
    ∙ ap (number_after d.number) (let same : 4 + 4 * length rest ≡ 4 * length (Fill queue status ∷ rest) = omega arith in same)

-- how many there are
pub whole_count : (pushes : List Push) (bytes : List ℕ) (len : ℕ) → AreWhole pushes → AreRecords pushes bytes → length bytes ≡ len →
    len ≡ 11 * length pushes
whole_count pushes bytes len whole are same =
    sym same ∙ ap (λ (bs : List ℕ). length bs) are.1 ∙ whole_length pushes are.0 whole

abbrev drafted : List ℕ → ℕ → Drafted
drafted bytes number = record { bytes = bytes; number = number }

-- a draft with their records
pub drafted_whole : (pushes : List Push) (before now : Drafted) (piece : List ℕ) (count : ℕ) → AreWhole pushes →
    piece ≡ records before.number pushes → count ≡ 4 * length pushes → now.bytes ≡ before.bytes ++ piece →
    now.number ≡ number_after before.number count → now ≡ pushed_all pushes before
drafted_whole pushes before now piece count whole is all bytes number =
    ap₂ drafted
    (bytes ∙ ap (λ (bs : List ℕ). before.bytes ++ bs) is ∙ sym (pushed_all-bytes pushes before))
    (number ∙ ap (number_after before.number) all ∙ sym (whole_number pushes before whole))

-- the first entries have the bytes from one number on, and the others those from another
abbrev pub redrawn : ℕ → ℕ → ℕ → List Push → List ℕ
redrawn zero now old pushes = records old pushes
redrawn (suc k) now old [] = []
redrawn (suc k) now old (push ∷ rest) = records_of now push ++ redrawn k (after now push) (after old push) rest

pub redrawn_all : (pushes : List Push) (now old : ℕ) → redrawn (length pushes) now old pushes ≡ records now pushes
redrawn_all [] now old = refl
redrawn_all (push ∷ rest) now old = ap (λ (bs : List ℕ). records_of now push ++ bs) (redrawn_all rest (after now push) (after old push))

-- four bytes in place of others
abbrev pub put_at : ℕ → List ℕ → List ℕ → List ℕ
put_at at four bytes = take at bytes ++ (four ++ drop (at + 4) bytes)

put_front : (front rest four : List ℕ) (at : ℕ) → put_at (length front + at) four (front ++ rest) ≡ front ++ put_at at four rest
put_front front rest four at =
    ap (λ (bs : List ℕ). bs ++ (four ++ drop (length front + at + 4) (front ++ rest))) (take-append-add front rest at)
    ∙ ap (λ (bs : List ℕ). (front ++ take at rest) ++ (four ++ bs))
    (ap (λ (n : ℕ). drop n (front ++ rest)) (let same : length front + at + 4 ≡ length front + (at + 4) = omega arith in same)
    ∙ drop-append-add front rest (at + 4))
    ∙ append_assoc front (take at rest) (four ++ drop (at + 4) rest)

-- the number behind one entry more
number_more : (k now status : ℕ) → valid_bytes status ≡ 4 →
    number_after now (4 * suc k) ≡ number_after (number_after now (valid_bytes status)) (4 * k)
number_more k now status four =
    ap (number_after now) (let same : 4 * suc k ≡ 4 + 4 * k = omega arith in same)
    ∙ number_after-add now 4 (4 * k)
    ∙ ap (λ (n : ℕ). number_after (number_after now n) (4 * k)) (sym four)

first_drawn : (now old status : ℕ) (queue : Queue) (rest : List ℕ) → valid_bytes status ≡ 4 →
    put_at 2 (drawn now 4) (records_of old (Fill queue status) ++ rest) ≡ records_of now (Fill queue status) ++ rest
first_drawn now old status queue rest four =
    ap (λ (bs : List ℕ). put_at 2 (drawn now 4) (bs ++ rest)) (whole_is old queue status four)
    ∙ sym (ap (λ (bs : List ℕ). bs ++ rest) (whole_is now queue status four))

-- the bytes of one entry more
pub redrawn_more : (k : ℕ) (pushes : List Push) (now old : ℕ) → AreWhole pushes → k < length pushes →
    put_at (11 * k + 2) (drawn (number_after now (4 * k)) 4) (redrawn k now old pushes) ≡ redrawn (k + 1) now old pushes
redrawn_more k [] now old whole inside = absurd (omega arith)
redrawn_more k (Mark code ∷ rest) now old whole inside = absurd whole
redrawn_more zero (Fill queue status ∷ rest) now old whole inside =
    first_drawn now old status queue (records (number_after old (valid_bytes status)) rest) whole.0
redrawn_more (suc k) (Fill queue status ∷ rest) now old whole inside =
    let push = Fill queue status in
    let front = records_of now push in
    let one = record_length now queue status whole.0 in
    let place : 11 * suc k + 2 ≡ length front + (11 * k + 2) = omega (arith, one) in
    let more = redrawn k (after now push) (after old push) rest in
    ap (λ (at : ℕ). put_at at (drawn (number_after now (4 * suc k)) 4) (front ++ more)) place
    ∙ put_front front more (drawn (number_after now (4 * suc k)) 4) (11 * k + 2)
    ∙ ap (λ (n : ℕ). front ++ put_at (11 * k + 2) (drawn n 4) more) (number_more k now status whole.0)
    ∙ ap (λ (bs : List ℕ). front ++ bs) (redrawn_more k rest (after now push) (after old push) whole.1 (omega (arith, inside)))
    ∙ ap (λ (n : ℕ). redrawn n now old (push ∷ rest)) (let next : suc (k + 1) ≡ suc k + 1 = omega arith in next)
