-- Pairs of records, one behind the other, are read as their steps.
use Rattle.std.proofs.Common.{◌≡◌, ℕ, suc, ◌+◌, ◌*◌, ◌-◌, ◌≤◌, Bool, List, [], ◌∷◌, ◌++◌, length, take, drop, get_or, refl, Some, true}
use Rattle.std.proofs.Common.{◌<◌, ◌^◌, subst, sym, ap, ◌∙◌, arith, length-append, length-drop}
use Rattle.std.specs.Prelude.{nat_le}
use Rattle.std.proofs.lemmas.List.{drop-drop}
use Rattle.fifo_model.specs.declared.Queue.{Queue}
use Rattle.fifo_model.specs.declared.Queue.TheVariants.{One, Two, Three}
use Rattle.fifo_model.specs.Queues.{lane_bytes}
use Rattle.capture_file.specs.declared.Step.{Step}
use Rattle.capture_file.specs.declared.Step.TheVariants.{Push, Turns}
use Rattle.capture_file.specs.declared.reader.Got.TheVariants as got
use Rattle.capture_file.specs.declared.records.Form.{Form}
use Rattle.capture_file.specs.declared.records.Found.TheVariants.{Whole}
use Rattle.capture_file.specs.declared.records.RecordKind.TheVariants as kind
use Rattle.machine_model.specs.PlainEntries.{dwords_of, plain_entry, turns_behind}
use Rattle.capture_file.specs.Pairs.{AreCopied, ArePairs, IsPair, TakesPairs, pair_steps, push_tag}
use Rattle.capture_file.specs.Records.{StepFits}
use Rattle.capture_file.specs.Readers.{IsReader, Phase, Reader, Records, behind, resumed, taken, taking}
use Rattle.capture_file.specs.Streams.{data_with, fields_at, kind_of_tag, most_turns, number_at, push_if, is_data, record_at, turns_if}
use Rattle.capture_file.specs.Streams.{turns_of, turns_with, with_step}
use Rattle.capture_file.proofs.Fronts.{front-taken, takes-step}
use Rattle.capture_file.proofs.Resumed.{reader}

-- ---- a pair

pub tagged : (form : Form) (queue : Queue) → kind_of_tag form (push_tag queue) ≡ kind.Push queue
tagged form One = refl
tagged form Two = refl
tagged form Three = refl

-- by its bytes
pub pair_found : (queue : Queue) (before : ℕ) (bytes : List ℕ) (dword turns : ℕ) → 11 ≤ length bytes → get_or bytes 0 0 ≡ push_tag queue →
    get_or bytes 1 0 ≡ 0 → get_or bytes 6 0 ≡ 5 →
    number_at (drop 2 bytes) ≡ Some dword → number_at (drop 7 bytes) ≡ Some turns → 1 ≤ turns → before + turns ≤ most_turns →
    dword < 2 ^ 32 → IsPair queue before bytes dword turns
pair_found queue before [] dword turns long tag status turn first second some few fits = absurd (omega (arith, long))
pair_found queue before (t ∷ []) dword turns long tag status turn first second some few fits = absurd (omega (arith, long))
pair_found queue before (t ∷ s ∷ []) dword turns long tag status turn first second some few fits = absurd (omega (arith, long))
pair_found queue before (t ∷ s ∷ a ∷ []) dword turns long tag status turn first second some few fits = absurd (omega (arith, long))
pair_found queue before (t ∷ s ∷ a ∷ b ∷ []) dword turns long tag status turn first second some few fits = absurd (omega (arith, long))
pair_found queue before (t ∷ s ∷ a ∷ b ∷ c ∷ []) dword turns long tag status turn first second some few fits = absurd (omega (arith, long))
pair_found queue before (t ∷ s ∷ a ∷ b ∷ c ∷ d ∷ []) dword turns long tag status turn first second some few fits =
    absurd (omega (arith, long))
pair_found queue before (t ∷ s ∷ a ∷ b ∷ c ∷ d ∷ u ∷ rest) dword turns long tag status turn first second some few fits =
    let all : nat_le (before + turns) most_turns ≡ true = grind (arith, few) in
    record {
      push = λ form.
          ap (λ n. fields_at (kind_of_tag form n) n before (s ∷ a ∷ b ∷ c ∷ d ∷ u ∷ rest)) tag
          ∙ ap (λ k. fields_at k (push_tag queue) before (s ∷ a ∷ b ∷ c ∷ d ∷ u ∷ rest)) (tagged form queue)
          ∙ ap (λ n. push_if (is_data n) queue n (a ∷ b ∷ c ∷ d ∷ u ∷ rest)) status
          ∙ ap (data_with queue 0) first;
      turned = λ form.
          ap (λ n. fields_at (kind_of_tag form n) n before rest) turn
          ∙ ap (turns_with before) second
          ∙ ap (λ is. turns_if is turns) all;
      whole = long;
      some = some;
      fits = fits;
    }

-- ---- and others behind it

pub pairs_more : (queue : Queue) (before : ℕ) (bytes : List ℕ) (pairs : List (ℕ × ℕ)) (dword turns : ℕ) →
    ArePairs queue before bytes pairs →
    IsPair queue (before + turns_behind pairs) (drop (11 * length pairs) bytes) dword turns →
    ArePairs queue before bytes (pairs ++ (dword, turns) ∷ [])
pairs_more queue before bytes [] dword turns are is =
    let same : before + 0 ≡ before = omega arith in (subst (λ n. IsPair queue n bytes dword turns) same is, tt)
pairs_more queue before bytes (pair ∷ pairs) dword turns are is =
    let sum : before + (pair.1 + turns_behind pairs) ≡ before + pair.1 + turns_behind pairs = omega arith in
    let place : 11 * suc (length pairs) ≡ 11 + 11 * length pairs = omega arith in
    let rest : drop (11 * suc (length pairs)) bytes ≡ drop (11 * length pairs) (drop 11 bytes) =
    ap (λ n. drop n bytes) place ∙ sym (drop-drop (11 * length pairs) 11 bytes) in (
      are.0,
      pairs_more queue (before + pair.1) (drop 11 bytes) pairs dword turns are.1
          (subst (λ zs. IsPair queue (before + pair.1 + turns_behind pairs) zs dword turns) rest
          (subst (λ n. IsPair queue n (drop (11 * suc (length pairs)) bytes) dword turns) sum is)),
    )

turns_more : (pairs : List (ℕ × ℕ)) (dword turns : ℕ) → turns_behind (pairs ++ (dword, turns) ∷ []) ≡ turns_behind pairs + turns
turns_more [] dword turns = omega arith
turns_more (pair ∷ pairs) dword turns = let rest = turns_more pairs dword turns in omega (arith, rest)

dwords_more : (pairs : List (ℕ × ℕ)) (dword turns : ℕ) → dwords_of (pairs ++ (dword, turns) ∷ []) ≡ dwords_of pairs ++ lane_bytes dword
dwords_more [] dword turns = refl
dwords_more (pair ∷ pairs) dword turns = ap (λ bytes. lane_bytes pair.0 ++ bytes) (dwords_more pairs dword turns)

pub copied_more : (queue : Queue) (before count turns next_turns : ℕ) (bytes dwords now : List ℕ) (pairs : List (ℕ × ℕ)) (dword more : ℕ) →
    AreCopied queue before count turns bytes dwords pairs →
    IsPair queue (before + turns) (drop (11 * count) bytes) dword more → next_turns ≡ turns + more →
    take (4 * count + 4) now ≡ take (4 * count) dwords ++ lane_bytes dword →
    AreCopied queue before (count + 1) next_turns bytes now (pairs ++ (dword, more) ∷ [])
copied_more queue before count turns next_turns bytes dwords now pairs dword more h is sum made =
    let size = length-append pairs ((dword, more) ∷ []) in
    let many = h.many in
    let place : 4 * (count + 1) ≡ 4 * count + 4 = omega arith in
    record {
      there =
          pairs_more queue before bytes pairs dword more h.there
          (subst (λ n. IsPair queue (before + n) (drop (11 * length pairs) bytes) dword more) (sym h.turned)
          (subst (λ n. IsPair queue (before + turns) (drop (11 * n) bytes) dword more) (sym many) is));
      many = omega (arith, size, many);
      turned = turns_more pairs dword more ∙ ap (λ n. n + more) h.turned ∙ sym sum;
      copied = ap (λ n. take n now) place ∙ made ∙ ap (λ zs. zs ++ lane_bytes dword) h.copied ∙ sym (dwords_more pairs dword more);
    }

-- one of them is copied by itself
pub one_copied : (queue : Queue) (before : ℕ) (bytes : List ℕ) (dword turns : ℕ) → IsPair queue before bytes dword turns →
    AreCopied queue before 1 turns bytes (lane_bytes dword) ((dword, turns) ∷ [])
one_copied queue before bytes dword turns is = record { there = (is, tt); many = refl; turned = omega arith; copied = refl }

-- ---- a reader takes them

-- between two records
abbrev pub between : ℕ → Bool → Form → ℕ → ℕ → Reader
between limit chained form place turns = reader limit chained (Records form) place turns []

is_between : (limit : ℕ) (chained : Bool) (form : Form) (place turns : ℕ) → place ≤ limit → turns ≤ most_turns →
    IsReader (between limit chained form place turns)
is_between limit chained form place turns below few = record { below = below; at = (omega arith, refl, few) }

-- a record at the front of a piece that ends below the limit
pub one_taken : (limit : ℕ) (chained : Bool) (form : Form) (place turns : ℕ) (piece : List ℕ) (step : Step) (len : ℕ) → place ≤ limit →
    turns ≤ most_turns → place + length piece ≤ limit →
    len ≤ length piece → StepFits step → record_at form turns piece ≡ Whole step len → (more : List ℕ) →
    resumed (between limit chained form place turns) (piece ++ more)
    ≡ with_step step (resumed (between limit chained form (place + len) (turns + turns_of step)) (drop len piece ++ more))
one_taken limit chained form place turns piece step len below few fits within step_fits found more =
    let room : limit - (limit - place) ≡ place = omega arith in
    let next : limit - (limit - place - len) ≡ place + len = omega arith in
    let front =
    front-taken limit (limit - place) turns chained piece form step len (Records form) [] (turns + turns_of step) refl refl refl
    (omega arith) (omega arith) within found in
    let exact : taking len (got.Step step) (between limit chained form (place + len) (turns + turns_of step))
    ≡ taken (between limit chained form place turns) piece =
    ap (λ n. taking len (got.Step step) (between limit chained form n (turns + turns_of step))) (sym next)
    ∙ front
    ∙ ap (λ n. taken (between limit chained form n turns) piece) room in
    (takes-step (between limit chained form place turns) (between limit chained form (place + len) (turns + turns_of step)) piece step len
    (is_between limit chained form place turns below few) exact step_fits).whole more

pair_taken : (limit : ℕ) (chained : Bool) (form : Form) (place turns : ℕ) (piece : List ℕ) (queue : Queue) (dword count : ℕ) →
    place ≤ limit → turns ≤ most_turns → place + length piece ≤ limit →
    turns + count ≤ most_turns → IsPair queue turns piece dword count → (more : List ℕ) →
    resumed (between limit chained form place turns) (piece ++ more)
    ≡ with_step (Push queue (plain_entry dword))
    (with_step (Turns count) (resumed (between limit chained form (place + 11) (turns + count)) (drop 11 piece ++ more)))
pair_taken limit chained form place turns piece queue dword count below few fits sum is more =
    let long = is.whole in
    let size = length-drop 6 piece in
    let same : turns + 0 ≡ turns = omega arith in
    let eleven : place + 6 + 5 ≡ place + 11 = omega arith in
    one_taken limit chained form place turns piece (Push queue (plain_entry dword)) 6 below few fits (omega (arith, long)) refl
    (is.push form) more
    ∙ ap (with_step (Push queue (plain_entry dword)))
    (ap (λ n. resumed (between limit chained form (place + 6) n) (drop 6 piece ++ more)) same
    ∙ one_taken limit chained form (place + 6) turns (drop 6 piece) (Turns count) 5 (omega (arith, long, fits)) few
    (omega (arith, size, long, fits)) (omega (arith, size, long)) tt (is.turned form) more
    ∙ ap (λ n. with_step (Turns count) (resumed (between limit chained form n (turns + count)) (drop 5 (drop 6 piece) ++ more))) eleven
    ∙ ap (λ bytes. with_step (Turns count) (resumed (between limit chained form (place + 11) (turns + count)) (bytes ++ more)))
    (drop-drop 5 6 piece))

pub pairs_taken : (limit : ℕ) (chained : Bool) (form : Form) (place turns : ℕ) (piece : List ℕ) (queue : Queue) (pairs : List (ℕ × ℕ)) →
    place ≤ limit → place + length piece ≤ limit →
    turns + turns_behind pairs ≤ most_turns → ArePairs queue turns piece pairs → (more : List ℕ) →
    resumed (between limit chained form place turns) (piece ++ more)
    ≡ behind (pair_steps queue pairs)
    (resumed (between limit chained form (place + 11 * length pairs) (turns + turns_behind pairs)) (drop (11 * length pairs) piece ++ more))
pairs_taken limit chained form place turns piece queue [] below fits few are more =
    let at : place ≡ place + 11 * 0 = omega arith in
    let sum : turns ≡ turns + 0 = omega arith in
    ap (λ n. resumed (between limit chained form n turns) (piece ++ more)) at
    ∙ ap (λ n. resumed (between limit chained form (place + 11 * 0) n) (piece ++ more)) sum
pairs_taken limit chained form place turns piece queue (pair ∷ pairs) below fits few are more =
    let is = are.0 in
    let long = is.whole in
    let size = length-drop 11 piece in
    let at : place + 11 + 11 * length pairs ≡ place + 11 * length (pair ∷ pairs) = omega arith in
    let sum : turns + pair.1 + turns_behind pairs ≡ turns + (pair.1 + turns_behind pairs) = omega arith in
    let here : 11 + 11 * length pairs ≡ 11 * length (pair ∷ pairs) = omega arith in
    pair_taken limit chained form place turns piece queue pair.0 pair.1 below (omega (arith, few)) fits (omega (arith, few)) is more
    ∙ ap (λ rest. with_step (Push queue (plain_entry pair.0)) (with_step (Turns pair.1) rest))
    (pairs_taken limit chained form (place + 11) (turns + pair.1) (drop 11 piece) queue pairs (omega (arith, long, fits))
    (omega (arith, size, long, fits)) (omega (arith, few)) are.1 more
    ∙ ap (λ n. behind (pair_steps queue pairs)
    (resumed (between limit chained form n (turns + pair.1 + turns_behind pairs)) (drop (11 * length pairs) (drop 11 piece) ++ more))) at
    ∙ ap (λ n. behind (pair_steps queue pairs)
    (resumed (between limit chained form (place + 11 * length (pair ∷ pairs)) n) (drop (11 * length pairs) (drop 11 piece) ++ more))) sum
    ∙ ap (λ bytes. behind (pair_steps queue pairs)
    (resumed (between limit chained form (place + 11 * length (pair ∷ pairs)) (turns + turns_behind (pair ∷ pairs))) (bytes ++ more)))
    (drop-drop (11 * length pairs) 11 piece ∙ ap (λ n. drop n piece) here))

-- nothing was taken
pub none_taken : (queue : Queue) (dwords : List ℕ) (r : Reader) (piece : List ℕ) → TakesPairs queue 0 0 dwords r piece r []
none_taken queue dwords r piece =
    let place : r.place ≡ r.place + 11 * 0 = omega arith in
    let turns : r.turns ≡ r.turns + 0 = omega arith in
    record {
      copied = record { there = tt; many = refl; turned = refl; copied = refl };
      whole = λ more. refl;
      within = omega arith;
      exact = ap (λ n. record r { place = n }) place ∙ ap (λ n. record r { place = r.place + 11 * 0; turns = n }) turns;
    }

module _ (limit room turns count sum : ℕ) (chained : Bool) (form : Form) (piece dwords : List ℕ) (queue : Queue) (pairs : List (ℕ × ℕ))
    (below : room ≤ limit) (fits : length piece ≤ room)
    (few : turns ≤ most_turns) (left : sum ≤ most_turns - turns) (within : 11 * count ≤ length piece)
    (copied : AreCopied queue (most_turns - (most_turns - turns)) count sum piece dwords pairs) where
  pairs_between : TakesPairs queue count sum dwords (between limit chained form (limit - room) turns) piece
      (between limit chained form (limit - (room - 11 * count)) (turns + sum)) pairs
  pairs_between =
      let same : most_turns - (most_turns - turns) ≡ turns = omega (arith, few) in
      let known : AreCopied queue turns count sum piece dwords pairs =
      subst (λ n. AreCopied queue n count sum piece dwords pairs) same copied in
      let turned = known.turned in
      let place : limit - room + 11 * count ≡ limit - (room - 11 * count) = omega (arith, below, fits, within) in
      record {
        copied = known;
        whole = λ more.
            pairs_taken limit chained form (limit - room) turns piece queue pairs (omega arith) (omega (arith, below, fits))
            (omega (arith, few, left, turned)) known.there more
            ∙ ap (λ n. behind (pair_steps queue pairs) (resumed
            (between limit chained form (limit - room + 11 * n) (turns + turns_behind pairs)) (drop (11 * n) piece ++ more))) known.many
            ∙ ap (λ n. behind (pair_steps queue pairs)
            (resumed (between limit chained form (limit - room + 11 * count) (turns + n)) (drop (11 * count) piece ++ more))) turned
            ∙ ap (λ n.
            behind (pair_steps queue pairs) (resumed (between limit chained form n (turns + sum)) (drop (11 * count) piece ++ more))) place;
        within = within;
        exact = ap (λ n. between limit chained form n (turns + sum)) (sym place);
      }

  pub reader_takes : (phase : Phase) (held : List ℕ) → phase ≡ Records form → held ≡ [] →
      TakesPairs queue count sum dwords (reader limit chained phase (limit - room) turns held) piece
      (reader limit chained phase (limit - (room - 11 * count)) (turns + sum) held) pairs
  reader_takes phase held is none = rw (is, none) pairs_between
