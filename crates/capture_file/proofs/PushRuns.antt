-- Data pushes, one behind the other, are read as their steps.
use Rattle.std.proofs.Common.{◌≡◌, ℕ, zero, suc, ◌+◌, ◌*◌, ◌-◌, ◌<◌, ◌≤◌, Bool, List, [], ◌∷◌, ◌++◌, length, drop, get_or, refl, sym}
use Rattle.std.proofs.Common.{ap, ◌∙◌, subst, arith, length-append, length-drop, slice_index, slice_set}
use Rattle.std.proofs.lemmas.List.{drop-drop}
use Rattle.byteorder.specs.Endian.{little_number}
use Rattle.fifo_model.specs.declared.Entry.{Entry}
use Rattle.fifo_model.specs.declared.Queue.{Queue}
use Rattle.fifo_model.specs.declared.Queue.TheVariants.{One, Two, Three}
use Rattle.machine_model.specs.PlainEntries.{plain_entry}
use Rattle.capture_file.specs.declared.Step.TheVariants.{Push}
use Rattle.capture_file.specs.declared.records.Form.{Form}
use Rattle.capture_file.specs.declared.records.Form.TheVariants.{Bfs1}
use Rattle.capture_file.specs.Pairs.{push_tag}
use Rattle.capture_file.specs.Pushes.{ArePlainPushes, IsPlainPush, NoPlainPush, TakesPushes, counts_for, counts_of, place_of}
use Rattle.capture_file.specs.Pushes.{push_steps, pushes_to}
use Rattle.capture_file.specs.Records.{StepFits}
use Rattle.capture_file.specs.Readers.{Phase, Reader, Records, behind, resumed}
use Rattle.capture_file.specs.Streams.{fields_at, is_data, kind_of_tag, most_turns, push_if, with_step}
use Rattle.capture_file.proofs.OtherRecords.{Shows, record_shows}
use Rattle.capture_file.proofs.PairRuns.{between, one_taken, tagged}
use Rattle.capture_file.proofs.Resumed.{reader}

-- ---- a push

pub push_found : (queue : Queue) (bytes : List ℕ) → 6 ≤ length bytes → get_or bytes 0 0 ≡ push_tag queue → get_or bytes 1 0 ≡ 0 →
    (entry : Entry) × IsPlainPush queue entry bytes
push_found queue [] long tag status = absurd (omega (arith, long))
push_found queue (t ∷ []) long tag status = absurd (omega (arith, long))
push_found queue (t ∷ s ∷ []) long tag status = absurd (omega (arith, long))
push_found queue (t ∷ s ∷ a ∷ []) long tag status = absurd (omega (arith, long))
push_found queue (t ∷ s ∷ a ∷ b ∷ []) long tag status = absurd (omega (arith, long))
push_found queue (t ∷ s ∷ a ∷ b ∷ c ∷ []) long tag status = absurd (omega (arith, long))
push_found queue (t ∷ s ∷ a ∷ b ∷ c ∷ d ∷ rest) long tag status = (
  plain_entry (little_number 4 (a ∷ b ∷ c ∷ d ∷ [])),
  record {
    push = λ form before.
        ap (λ n. fields_at (kind_of_tag form n) n before (s ∷ a ∷ b ∷ c ∷ d ∷ rest)) tag
        ∙ ap (λ k. fields_at k (push_tag queue) before (s ∷ a ∷ b ∷ c ∷ d ∷ rest)) (tagged form queue)
        ∙ ap (λ n. push_if (is_data n) queue n (a ∷ b ∷ c ∷ d ∷ rest)) status;
    plain = refl;
    whole = long;
  },
)

-- the queue of its head, the tag and the status as one number
pub record HasHead (bytes : List ℕ) (place : ℕ) : Type 0 where
  pub queue : Queue
  pub at : place ≡ place_of queue
  pub tag : get_or bytes 0 0 ≡ push_tag queue
  pub status : get_or bytes 1 0 ≡ 0

of_head : (head place a b : ℕ) (rest : List ℕ) → head ≡ a + 256 * b → 1 ≤ head → head ≤ 3 → place ≡ head - 1 → HasHead (a ∷ b ∷ rest) place
of_head head place zero b rest is some few at = absurd (omega (arith, is, some, few))
of_head head place (suc zero) b rest is some few at =
    record { queue = One; at = omega (arith, is, few, at); tag = refl; status = omega (arith, is, few) }
of_head head place (suc (suc zero)) b rest is some few at =
    record { queue = Two; at = omega (arith, is, few, at); tag = refl; status = omega (arith, is, few) }
of_head head place (suc (suc (suc zero))) b rest is some few at =
    record { queue = Three; at = omega (arith, is, few, at); tag = refl; status = omega (arith, is, few) }
of_head head place (suc (suc (suc (suc a)))) b rest is some few at = absurd (omega (arith, is, few))

pub has_head : (bytes : List ℕ) (head place : ℕ) → 2 ≤ length bytes → head ≡ little_number 2 bytes → 1 ≤ head → head ≤ 3 →
    place ≡ head - 1 → HasHead bytes place
has_head [] head place long is some few at = absurd (omega (arith, long))
has_head (a ∷ []) head place long is some few at = absurd (omega (arith, long))
has_head (a ∷ b ∷ rest) head place long is some few at = of_head head place a b rest (omega (arith, is)) some few at

-- its first bytes
pub record PushBytes (queue : Queue) (bytes : List ℕ) : Type 0 where
  pub tag : get_or bytes 0 0 ≡ push_tag queue
  pub status : get_or bytes 1 0 ≡ 0

pub push_bytes : (queue : Queue) (entry : Entry) (bytes : List ℕ) → IsPlainPush queue entry bytes → PushBytes queue bytes
push_bytes queue entry [] is = let long = is.whole in absurd (omega (arith, long))
push_bytes queue entry (t ∷ rest) is =
    let front = subst (Shows t rest) (is.push Bfs1 0) (record_shows Bfs1 0 t rest) in
    record { tag = front.0; status = front.1 ∙ ap (λ (e : Entry). e.status) is.plain }

pub no_push : (bytes : List ℕ) → ((queue : Queue) → get_or bytes 0 0 ≡ push_tag queue → get_or bytes 1 0 ≡ 0 → ⊥) → NoPlainPush bytes
no_push bytes none queue entry is = let known = push_bytes queue entry bytes is in none queue known.tag known.status

pub no_push_short : (bytes : List ℕ) → length bytes < 6 → NoPlainPush bytes
no_push_short bytes short queue entry is = let long = is.whole in omega (arith, long, short)

-- ---- and others behind it

pushes_more : (bytes : List ℕ) (pushes : List (Queue × Entry)) (queue : Queue) (entry : Entry) → ArePlainPushes bytes pushes →
    IsPlainPush queue entry (drop (6 * length pushes) bytes) → ArePlainPushes bytes (pushes ++ (queue, entry) ∷ [])
pushes_more bytes [] queue entry are is = (is, tt)
pushes_more bytes (pushed ∷ later) queue entry are is =
    let place : 6 * suc (length later) ≡ 6 + 6 * length later = omega arith in
    let rest : drop (6 * suc (length later)) bytes ≡ drop (6 * length later) (drop 6 bytes) =
    ap (λ n. drop n bytes) place ∙ sym (drop-drop (6 * length later) 6 bytes) in (
      are.0,
      pushes_more (drop 6 bytes) later queue entry are.1 (subst (IsPlainPush queue entry) rest is),
    )

counts_more : (queue : Queue) (pushes : List (Queue × Entry)) (to : Queue) (entry : Entry) →
    pushes_to queue (pushes ++ (to, entry) ∷ []) ≡ pushes_to queue pushes + counts_for queue to
counts_more queue [] to entry = omega arith
counts_more queue (pushed ∷ later) to entry = let rest = counts_more queue later to entry in omega (arith, rest)

no_more : (queue to : Queue) (pushes : List (Queue × Entry)) (entry : Entry) → counts_for queue to ≡ 0 →
    pushes_to queue (pushes ++ (to, entry) ∷ []) ≡ pushes_to queue pushes
no_more queue to pushes entry none = let more = counts_more queue pushes to entry in omega (arith, more, none)

one_more : (queue to : Queue) (pushes : List (Queue × Entry)) (entry : Entry) → counts_for queue to ≡ 1 →
    pushes_to queue (pushes ++ (to, entry) ∷ []) ≡ pushes_to queue pushes + 1
one_more queue to pushes entry one = let more = counts_more queue pushes to entry in omega (arith, more, one)

three : (a b c x y z : ℕ) → a ≡ x → b ≡ y → c ≡ z → (a ∷ b ∷ c ∷ []) ≡ (x ∷ y ∷ z ∷ [])
three a b c x y z first second third =
    ap (λ n. n ∷ b ∷ c ∷ []) first ∙ ap (λ n. x ∷ n ∷ c ∷ []) second ∙ ap (λ n. x ∷ y ∷ n ∷ []) third

counts_now : (pushes : List (Queue × Entry)) (to : Queue) (entry : Entry) → counts_of (pushes ++ (to, entry) ∷ [])
    ≡ slice_set (counts_of pushes) (place_of to) (slice_index (counts_of pushes) (place_of to) + 1)
counts_now pushes One entry =
    three _ _ _ _ _ _ (one_more One One pushes entry refl) (no_more Two One pushes entry refl) (no_more Three One pushes entry refl)
counts_now pushes Two entry =
    three _ _ _ _ _ _ (no_more One Two pushes entry refl) (one_more Two Two pushes entry refl) (no_more Three Two pushes entry refl)
counts_now pushes Three entry =
    three _ _ _ _ _ _ (no_more One Three pushes entry refl) (no_more Two Three pushes entry refl) (one_more Three Three pushes entry refl)

for_one : (queue to : Queue) → counts_for queue to ≤ 1
for_one One One = omega arith
for_one One Two = omega arith
for_one One Three = omega arith
for_one Two One = omega arith
for_one Two Two = omega arith
for_one Two Three = omega arith
for_one Three One = omega arith
for_one Three Two = omega arith
for_one Three Three = omega arith

few_pushes : (queue : Queue) (pushes : List (Queue × Entry)) → pushes_to queue pushes ≤ length pushes
few_pushes queue [] = omega arith
few_pushes queue (pushed ∷ later) =
    let rest = few_pushes queue later in let one = for_one queue pushed.0 in omega (arith, rest, one)

counted_at : (queue : Queue) (pushes : List (Queue × Entry)) → slice_index (counts_of pushes) (place_of queue) ≡ pushes_to queue pushes
counted_at One pushes = refl
counted_at Two pushes = refl
counted_at Three pushes = refl

-- the pushes at the front of a piece, counted
pub record AreCounted (bytes : List ℕ) (count : ℕ) (counts : List ℕ) (pushes : List (Queue × Entry)) : Type 0 where
  pub there : ArePlainPushes bytes pushes
  pub many : length pushes ≡ count
  pub counted : counts_of pushes ≡ counts

-- each queue has no more than all of them
pub few_counted : (bytes : List ℕ) (count : ℕ) (counts : List ℕ) (pushes : List (Queue × Entry)) (queue : Queue) →
    AreCounted bytes count counts pushes → slice_index counts (place_of queue) ≤ count
few_counted bytes count counts pushes queue h =
    let here : slice_index counts (place_of queue) ≡ pushes_to queue pushes =
    ap (λ list. slice_index list (place_of queue)) (sym h.counted) ∙ counted_at queue pushes in
    let few = few_pushes queue pushes in
    let many = h.many in
    omega (arith, here, few, many)

pub next_counted : (bytes : List ℕ) (count : ℕ) (counts : List ℕ) (pushes : List (Queue × Entry)) (queue : Queue) (entry : Entry) →
    AreCounted bytes count counts pushes → IsPlainPush queue entry (drop (6 * count) bytes) →
    AreCounted bytes (count + 1) (slice_set counts (place_of queue) (slice_index counts (place_of queue) + 1))
    (pushes ++ (queue, entry) ∷ [])
next_counted bytes count counts pushes queue entry h is =
    let size = length-append pushes ((queue, entry) ∷ []) in
    let many = h.many in
    record {
      there =
          pushes_more bytes pushes queue entry h.there (subst (λ n. IsPlainPush queue entry (drop (6 * n) bytes)) (sym many) is);
      many = omega (arith, size, many);
      counted =
          counts_now pushes queue entry
          ∙ ap (λ list. slice_set list (place_of queue) (slice_index list (place_of queue) + 1)) h.counted;
    }

-- ---- a reader takes them

push_fits : (queue : Queue) (entry : Entry) → entry ≡ plain_entry entry.dword → StepFits (Push queue entry)
push_fits queue entry plain = subst (λ (e : Entry). StepFits (Push queue e)) (sym plain) refl

pushes_taken : (limit : ℕ) (chained : Bool) (form : Form) (place turns : ℕ) (piece : List ℕ) (pushes : List (Queue × Entry)) →
    place ≤ limit → turns ≤ most_turns → place + length piece ≤ limit → ArePlainPushes piece pushes → (more : List ℕ) →
    resumed (between limit chained form place turns) (piece ++ more)
    ≡ behind (push_steps pushes)
    (resumed (between limit chained form (place + 6 * length pushes) turns) (drop (6 * length pushes) piece ++ more))
pushes_taken limit chained form place turns piece [] below few fits are more =
    let at : place ≡ place + 6 * 0 = omega arith in
    ap (λ n. resumed (between limit chained form n turns) (piece ++ more)) at
pushes_taken limit chained form place turns piece (pushed ∷ later) below few fits are more =
    let is = are.0 in
    let long = is.whole in
    let size = length-drop 6 piece in
    let same : turns + 0 ≡ turns = omega arith in
    let at : place + 6 + 6 * length later ≡ place + 6 * length (pushed ∷ later) = omega arith in
    let here : 6 + 6 * length later ≡ 6 * length (pushed ∷ later) = omega arith in
    one_taken limit chained form place turns piece (Push pushed.0 pushed.1) 6 below few fits long (push_fits pushed.0 pushed.1 is.plain)
    (is.push form turns) more
    ∙ ap (with_step (Push pushed.0 pushed.1))
    (ap (λ n. resumed (between limit chained form (place + 6) n) (drop 6 piece ++ more)) same
    ∙ pushes_taken limit chained form (place + 6) turns (drop 6 piece) later (omega (arith, long, fits)) few
    (omega (arith, size, long, fits))
    are.1 more
    ∙ ap (λ n. behind (push_steps later)
    (resumed (between limit chained form n turns) (drop (6 * length later) (drop 6 piece) ++ more))) at
    ∙ ap (λ bytes. behind (push_steps later)
    (resumed (between limit chained form (place + 6 * length (pushed ∷ later)) turns) (bytes ++ more)))
    (drop-drop (6 * length later) 6 piece ∙ ap (λ n. drop n piece) here))

-- nothing was taken
pub no_pushes : (counts : List ℕ) (r : Reader) (piece : List ℕ) → counts ≡ 0 ∷ 0 ∷ 0 ∷ [] → TakesPushes 0 counts r piece r []
no_pushes counts r piece none =
    let place : r.place ≡ r.place + 6 * 0 = omega arith in
    record {
      there = tt;
      many = refl;
      counted = sym none;
      whole = λ more. refl;
      within = omega arith;
      exact = ap (λ n. record r { place = n }) place;
    }

module _ (limit room turns count : ℕ) (counts : List ℕ) (chained : Bool) (form : Form) (piece : List ℕ) (pushes : List (Queue × Entry))
    (below : room ≤ limit) (fits : length piece ≤ room) (few : turns ≤ most_turns) (within : 6 * count ≤ length piece)
    (there : ArePlainPushes piece pushes) (many : length pushes ≡ count) (counted : counts_of pushes ≡ counts) where
  pushes_between : TakesPushes count counts (between limit chained form (limit - room) turns) piece
      (between limit chained form (limit - (room - 6 * count)) turns) pushes
  pushes_between =
      let place : limit - room + 6 * count ≡ limit - (room - 6 * count) = omega (arith, below, fits, within) in
      record {
        there = there;
        many = many;
        counted = counted;
        whole = λ more.
            pushes_taken limit chained form (limit - room) turns piece pushes (omega arith) few (omega (arith, below, fits)) there more
            ∙ ap (λ n. behind (push_steps pushes)
            (resumed (between limit chained form (limit - room + 6 * n) turns) (drop (6 * n) piece ++ more))) many
            ∙ ap (λ n. behind (push_steps pushes) (resumed (between limit chained form n turns) (drop (6 * count) piece ++ more))) place;
        within = within;
        exact = ap (λ n. between limit chained form n turns) (sym place);
      }

  pub reader_takes_pushes : (phase : Phase) (held : List ℕ) → phase ≡ Records form → held ≡ [] →
      TakesPushes count counts (reader limit chained phase (limit - room) turns held) piece
      (reader limit chained phase (limit - (room - 6 * count)) turns held) pushes
  reader_takes_pushes phase held is none = rw (is, none) pushes_between
