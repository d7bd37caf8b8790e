-- Bytes that are drafted and put, one part after the other.
use Rattle.std.proofs.Common.{◌≡◌, ℕ, zero, suc, ◌+◌, ◌-◌, ◌<◌, ◌≤◌, zero-add, suc-add, List, [], ◌∷◌, ◌++◌}
use Rattle.std.proofs.Common.{length, take, Result, Ok, Err, refl}
use Rattle.std.proofs.Common.{sym, ap, subst, ◌∙◌, arith, append_assoc, length-append}
use Rattle.std.proofs.lemmas.List.{take-append-le, append-nil}
use Rattle.std.proofs.Math.Seq.{take-append-add}
use Rattle.capture_desk.specs.Desks.{Told, after_write, Puts}
use Rattle.capture_desk.proofs.Laws.{after_write-nil, after_write-after_write}
use Rattle.risc_word.specs.declared.Code.TheVariants.{Fm1}
use Rattle.field_stream.specs.Pushes.{Push, Mark, packed_line, repeated, vbi_pushes}
use Rattle.field_stream.specs.Made.{after, records, records_of}
use Rattle.field_stream.specs.Drafts.{Drafted, IsBroken, IsMoved, Moves, pushed, pushed_all}
use Rattle.field_stream.proofs.Drafting.{pushed_all-append}

-- the bytes of a draft with more pushes
pub pushed_all-bytes : (pushes : List Push) (d : Drafted) → (pushed_all pushes d).bytes ≡ d.bytes ++ records d.number pushes
pushed_all-bytes [] d = sym (append-nil d.bytes)
pushed_all-bytes (push ∷ rest) d =
    pushed_all-bytes rest (pushed push d) ∙ append_assoc d.bytes (records_of d.number push) (records (after d.number push) rest)

-- nothing was put
pub moved_none : (d : Drafted) (old : Told) → IsMoved d d old old
moved_none d old = record { front = []; bytes = refl; put = sym (after_write-nil old); number = refl }

pushed_on : (push : Push) (whole held : Drafted) (old told : Told) → IsMoved whole held old told →
    IsMoved (pushed push whole) (pushed push held) old told
pushed_on push whole held old told m =
    record {
      front = m.front;
      bytes =
          ap (λ (bs : List ℕ). bs ++ records_of whole.number push) m.bytes
          ∙ append_assoc m.front held.bytes (records_of whole.number push)
          ∙ ap (λ (n : ℕ). m.front ++ (held.bytes ++ records_of n push)) (sym m.number);
      put = m.put;
      number = ap (λ (n : ℕ). after n push) m.number;
    }

pub moved_on : (pushes : List Push) (whole held : Drafted) (old told : Told) → IsMoved whole held old told →
    IsMoved (pushed_all pushes whole) (pushed_all pushes held) old told
moved_on [] whole held old told m = m
moved_on (push ∷ rest) whole held old told m =
    moved_on rest (pushed push whole) (pushed push held) old told (pushed_on push whole held old told m)

-- one after the other
pub moved_twice : (whole mid held : Drafted) (old t told : Told) → IsMoved whole mid old t → IsMoved mid held t told →
    IsMoved whole held old told
moved_twice whole mid held old t told m n =
    record {
      front = m.front ++ n.front;
      bytes = m.bytes ∙ ap (λ (bs : List ℕ). m.front ++ bs) n.bytes ∙ sym (append_assoc m.front n.front held.bytes);
      put = n.put ∙ ap (after_write n.front) m.put ∙ after_write-after_write m.front n.front old;
      number = n.number ∙ m.number;
    }

pub broken_after : (whole mid : Drafted) (old t told : Told) → IsMoved whole mid old t → IsBroken mid t told → IsBroken whole old told
broken_after whole mid old t told m b =
    record {
      count = length m.front + b.count;
      within = let n = ap (λ (bs : List ℕ). length bs) m.bytes in omega (arith, n, length-append m.front mid.bytes, b.within);
      put =
          b.put ∙ ap (after_write (take b.count mid.bytes)) m.put
          ∙ after_write-after_write m.front (take b.count mid.bytes) old
          ∙ ap (λ (bs : List ℕ). after_write bs old)
          (sym (take-append-add m.front mid.bytes b.count) ∙ ap (λ (bs : List ℕ). take (length m.front + b.count) bs) (sym m.bytes));
    }

pub broken_within : (pushes : List Push) (whole : Drafted) (old told : Told) → IsBroken whole old told →
    IsBroken (pushed_all pushes whole) old told
broken_within pushes whole old told b =
    let all = pushed_all-bytes pushes whole in
    let more = records whole.number pushes in
    record {
      count = b.count;
      within = let n = ap (λ (bs : List ℕ). length bs) all in omega (arith, n, length-append whole.bytes more, b.within);
      put =
          b.put
          ∙ ap (λ (bs : List ℕ). after_write bs old)
          (sym (take-append-le b.count whole.bytes more (omega (arith, b.within))) ∙ ap (take b.count) (sym all));
    }

pub moves_after : {A E : Type 0} (whole mid held : Drafted) (old t told : Told) (r : Result A E) → IsMoved whole mid old t →
    Moves mid r held t told → Moves whole r held old told
moves_after whole mid held old t told (Ok x) m n = moved_twice whole mid held old t told m n
moves_after whole mid held old t told (Err e) m n = broken_after whole mid old t told m n

-- more pushes behind those that were drafted
pub moves_more : {A E : Type 0} (pushes : List Push) (whole mid held : Drafted) (old t told : Told) (r : Result A E) →
    IsMoved whole mid old t →
    Moves (pushed_all pushes mid) r held t told → Moves (pushed_all pushes whole) r held old told
moves_more pushes whole mid held old t told r m n =
    moves_after (pushed_all pushes whole) (pushed_all pushes mid) held old t told r (moved_on pushes whole mid old t m) n

-- pushes that are drafted behind what was moved
pub moved_filled : (pushes : List Push) (whole held now : Drafted) (old told : Told) → IsMoved whole held old told →
    now ≡ pushed_all pushes held →
    IsMoved (pushed_all pushes whole) now old told
moved_filled pushes whole held now old told m e = rw e (moved_on pushes whole held old told m)

-- ---- the same pushes again and again

pub repeated_split : (i k : ℕ) (pushes : List Push) → repeated (i + k) pushes ≡ repeated i pushes ++ repeated k pushes
repeated_split zero k pushes = ap (λ (n : ℕ). repeated n pushes) (zero-add k)
repeated_split (suc i) k pushes =
    ap (λ (n : ℕ). repeated n pushes) (suc-add i k)
    ∙ ap (λ (ps : List Push). pushes ++ ps) (repeated_split i k pushes)
    ∙ sym (append_assoc pushes (repeated i pushes) (repeated k pushes))

pushed_split : (i k count : ℕ) (pushes : List Push) (d : Drafted) → i + k ≡ count →
    pushed_all (repeated k pushes) (pushed_all (repeated i pushes) d) ≡ pushed_all (repeated count pushes) d
pushed_split i k count pushes d e =
    sym (pushed_all-append (repeated i pushes) (repeated k pushes) d)
    ∙ ap (λ (ps : List Push). pushed_all ps d) (sym (repeated_split i k pushes) ∙ ap (λ (n : ℕ). repeated n pushes) e)

pushed_once : (pushes : List Push) (d : Drafted) → pushed_all (repeated 1 pushes) d ≡ pushed_all pushes d
pushed_once pushes d = ap (λ (ps : List Push). pushed_all ps d) (append-nil pushes)

pushed_next : (i : ℕ) (pushes : List Push) (d : Drafted) →
    pushed_all pushes (pushed_all (repeated i pushes) d) ≡ pushed_all (repeated (i + 1) pushes) d
pushed_next i pushes d = sym (pushed_once pushes (pushed_all (repeated i pushes) d)) ∙ pushed_split i 1 (i + 1) pushes d refl

-- the first, and the others
pub repeated_some : (count : ℕ) (pushes : List Push) → 1 ≤ count → pushes ++ repeated (count - 1) pushes ≡ repeated count pushes
repeated_some zero pushes some = absurd (omega arith)
repeated_some (suc more) pushes some =
    ap (λ (n : ℕ). pushes ++ repeated n pushes) (let same : suc more - 1 ≡ more = omega arith in same)

pub repeat_moved : (i : ℕ) (pushes : List Push) (first mid held : Drafted) (old t told : Told) →
    IsMoved (pushed_all (repeated i pushes) first) mid old t →
    IsMoved (pushed_all pushes mid) held t told → IsMoved (pushed_all (repeated (i + 1) pushes) first) held old told
repeat_moved i pushes first mid held old t told m n =
    subst
    (λ (whole : Drafted). IsMoved whole held old told)
    (pushed_next i pushes first)
    (moved_twice (pushed_all pushes (pushed_all (repeated i pushes) first)) (pushed_all pushes mid) held old t told
    (moved_on pushes (pushed_all (repeated i pushes) first) mid old t m) n)

pub repeat_broken : (i count : ℕ) (pushes : List Push) (first mid : Drafted) (old t told : Told) → i < count →
    IsMoved (pushed_all (repeated i pushes) first) mid old t →
    IsBroken (pushed_all pushes mid) t told → IsBroken (pushed_all (repeated count pushes) first) old told
repeat_broken i count pushes first mid old t told below m b =
    let now =
    broken_after (pushed_all pushes (pushed_all (repeated i pushes) first)) (pushed_all pushes mid) old t told
    (moved_on pushes (pushed_all (repeated i pushes) first) mid old t m) b in
    let next = subst (λ (whole : Drafted). IsBroken whole old told) (pushed_next i pushes first) now in
    subst
    (λ (whole : Drafted). IsBroken whole old told)
    (pushed_split (i + 1) (count - (i + 1)) count pushes first (omega arith))
    (broken_within (repeated (count - (i + 1)) pushes) (pushed_all (repeated (i + 1) pushes) first) old told next)

-- ---- parts of a field

pub moves_as : {A E : Type 0} (a b : List Push) (d held : Drafted) (old told : Told) (r : Result A E) → a ≡ b →
    Moves (pushed_all a d) r held old told → Moves (pushed_all b d) r held old told
moves_as a b d held old told r e m = subst (λ (ps : List Push). Moves (pushed_all ps d) r held old told) e m

pub moved_as : (a b : List Push) (d held : Drafted) (old told : Told) → a ≡ b → IsMoved (pushed_all a d) held old told →
    IsMoved (pushed_all b d) held old told
moved_as a b d held old told e m = subst (λ (ps : List Push). IsMoved (pushed_all ps d) held old told) e m

pub broken_as : (a b : List Push) (d : Drafted) (old told : Told) → a ≡ b → IsBroken (pushed_all a d) old told →
    IsBroken (pushed_all b d) old told
broken_as a b d old told e m = subst (λ (ps : List Push). IsBroken (pushed_all ps d) old told) e m

pub lines_as : {A E : Type 0} (i k : ℕ) (a b : List Push) (d held : Drafted) (old told : Told) (r : Result A E) → i ≡ k → a ≡ b →
    Moves (pushed_all (repeated i a) d) r held old told → Moves (pushed_all (repeated k b) d) r held old told
lines_as i k a b d held old told r e f m =
    moves_as (repeated i a) (repeated k b) d held old told r (ap (λ (n : ℕ). repeated n a) e ∙ ap (repeated k) f) m

pub moves_both : {A E : Type 0} (a b : List Push) (d mid held : Drafted) (old t told : Told) (r : Result A E) →
    IsMoved (pushed_all a d) mid old t → Moves (pushed_all b mid) r held t told →
    Moves (pushed_all (a ++ b) d) r held old told
moves_both a b d mid held old t told r m n =
    subst (λ (whole : Drafted). Moves whole r held old told) (sym (pushed_all-append a b d))
    (moves_more b (pushed_all a d) mid held old t told r m n)

pub moved_both : (a b : List Push) (d mid held : Drafted) (old t told : Told) → IsMoved (pushed_all a d) mid old t →
    IsMoved (pushed_all b mid) held t told →
    IsMoved (pushed_all (a ++ b) d) held old told
moved_both a b d mid held old t told m n =
    subst (λ (whole : Drafted). IsMoved whole held old told) (sym (pushed_all-append a b d))
    (moved_twice (pushed_all b (pushed_all a d)) (pushed_all b mid) held old t told (moved_on b (pushed_all a d) mid old t m) n)

pub broken_first : (a b : List Push) (d : Drafted) (old told : Told) → IsBroken (pushed_all a d) old told →
    IsBroken (pushed_all (a ++ b) d) old told
broken_first a b d old told m =
    subst (λ (whole : Drafted). IsBroken whole old told) (sym (pushed_all-append a b d)) (broken_within b (pushed_all a d) old told m)

pub vbi_some : (lines skipped bytes : ℕ) → 0 < lines →
    vbi_pushes lines skipped bytes ≡ Mark Fm1 ∷ repeated (skipped + lines) (packed_line bytes)
vbi_some zero skipped bytes some = absurd (omega arith)
vbi_some (suc more) skipped bytes some = refl

pub vbi_none : (lines skipped bytes : ℕ) (d : Drafted) (old : Told) → lines ≡ 0 →
    IsMoved (pushed_all (vbi_pushes lines skipped bytes) d) d old old
vbi_none lines skipped bytes d old none =
    subst (λ (n : ℕ). IsMoved (pushed_all (vbi_pushes n skipped bytes) d) d old old) (sym none) (moved_none d old)

pub vbi_broken : (lines skipped bytes : ℕ) (d : Drafted) (old told : Told) → 0 < lines → IsBroken (pushed (Mark Fm1) d) old told →
    IsBroken (pushed_all (vbi_pushes lines skipped bytes) d) old told
vbi_broken lines skipped bytes d old told some b =
    subst (λ (ps : List Push). IsBroken (pushed_all ps d) old told) (sym (vbi_some lines skipped bytes some))
    (broken_within (repeated (skipped + lines) (packed_line bytes)) (pushed (Mark Fm1) d) old told b)

-- a fault in the second of three parts
pub broken_second : (a b e : List Push) (d mid : Drafted) (old t told : Told) → IsMoved (pushed_all a d) mid old t →
    IsBroken (pushed_all b mid) t told →
    IsBroken (pushed_all (a ++ (b ++ e)) d) old told
broken_second a b e d mid old t told m n =
    subst (λ (ps : List Push). IsBroken (pushed_all ps d) old told) (append_assoc a b e) (broken_first (a ++ b) e d old told
    (subst (λ (whole : Drafted). IsBroken whole old told) (sym (pushed_all-append a b d))
    (broken_after (pushed_all b (pushed_all a d)) (pushed_all b mid) old t told (moved_on b (pushed_all a d) mid old t m) n)))

-- ---- the end

-- the last piece
last_by : {A E : Type 0} (front piece all : List ℕ) (old t told : Told) (r : Result A E) → t ≡ after_write front old →
    front ++ piece ≡ all → Puts piece r after_write t told → Puts all r after_write old told
last_by front piece all old t told (Ok x) m e p =
    p ∙ ap (after_write piece) m ∙ after_write-after_write front piece old ∙ ap (λ (bs : List ℕ). after_write bs old) e
last_by front piece all old t told (Err x) m e p = (
  length front + p.0,
  (let n = ap (λ (bs : List ℕ). length bs) e in omega (arith, n, length-append front piece, p.1)),
  p.2 ∙ ap (after_write (take p.0 piece)) m
      ∙ after_write-after_write front (take p.0 piece) old
      ∙ ap (λ (bs : List ℕ). after_write bs old)
      (sym (take-append-add front piece p.0) ∙ ap (λ (bs : List ℕ). take (length front + p.0) bs) e),
)

pub puts_last : {A E : Type 0} (whole held : Drafted) (last piece : List ℕ) (old t told : Told) (r : Result A E) →
    IsMoved whole held old t → piece ≡ held.bytes ++ last →
    Puts piece r after_write t told → Puts (whole.bytes ++ last) r after_write old told
puts_last whole held last piece old t told r m e p =
    last_by m.front piece (whole.bytes ++ last) old t told r m.put
    (ap (λ (bs : List ℕ). m.front ++ bs) e ∙ sym (append_assoc m.front held.bytes last) ∙ ap (λ (bs : List ℕ). bs ++ last) (sym m.bytes))
    p

-- a fault came before it
pub broken_puts : (whole : Drafted) (last all : List ℕ) (old told : Told) → whole.bytes ++ last ≡ all → IsBroken whole old told →
    (n : ℕ) × (n < length all) × (told ≡ after_write (take n all) old)
broken_puts whole last all old told e b = (
  b.count,
  (let n = ap (λ (bs : List ℕ). length bs) e in omega (arith, n, length-append whole.bytes last, b.within)),
  b.put ∙ ap (λ (bs : List ℕ). after_write bs old)
      (sym (take-append-le b.count whole.bytes last (omega (arith, b.within))) ∙ ap (λ (bs : List ℕ). take b.count bs) e),
)

pub puts_as : {A E : Type 0} (a b : List ℕ) (old told : Told) (r : Result A E) → a ≡ b → Puts a r after_write old told →
    Puts b r after_write old told
puts_as a b old told r e p = subst (λ (bs : List ℕ). Puts bs r after_write old told) e p
