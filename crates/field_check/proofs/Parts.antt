-- Bytes that are asked one by one, and some of them taken.
use Rattle.std.proofs.Common.{◌≡◌, ℕ, zero, suc, ◌+◌, ◌-◌, ◌*◌, ◌<◌, ◌≤◌, ◌^◌, Bool, true, false, ◌&&◌, ◌==◌, List, [], ◌∷◌, ◌++◌, length}
use Rattle.std.proofs.Common.{drop, Option, Some, None, option_map, refl, sym, ap, subst, ◌∙◌, arith, eq-eqb, ne_eqb, append_assoc}
use Rattle.std.proofs.Common.{drop-drop, eqb-true}
use Rattle.std.specs.Prelude.{IfSome, IsTrue}
use Rattle.std.proofs.lemmas.Bool.{cond-false, cond-true, false_from_ne_true}
use Rattle.std.proofs.lemmas.List.{append-nil}
use Rattle.std.specs.Option.{is_some}
use Rattle.std.proofs.Math.Seq.{drop-append_seam}
use Rattle.std.proofs.Common.{Ok, Err}
use Rattle.risc_word.specs.Words.{Reading, code_number}
use Rattle.machine_model.specs.Paths.{RiscProgram, fetch}
use Rattle.field_check.specs.Cursors.{asks_from, first_asks, left_of}
use Rattle.check_model.specs.Checks.{first_unlike, same_ask, same_place}
use Rattle.field_check.specs.declared.cursors.Cursor.{Cursor}
use Rattle.field_check.specs.declared.cursors.Next.{Next}
use Rattle.risc_word.specs.declared.Code.{Code}
use Rattle.risc_word.specs.declared.Ctl.{Ctl}
use Rattle.risc_word.specs.declared.Instr.{Instr}
use Rattle.risc_word.specs.declared.WordFault.{WordFault}
use Rattle.risc_word.specs.declared.Instr.TheVariants.{Write, Skip, WriteC, Jump, Sync, Write123, Skip123, Write1S23}
use Rattle.fifo_model.specs.declared.Queue.{Queue}
use Rattle.machine_model.specs.Paths.{demands_of}
use Rattle.machine_model.specs.Turns.{demand_on}
use Rattle.machine_model.specs.declared.Demand.{Demand}
use Rattle.field_law.specs.Sections.{Ask, Await, Begin, GoOn, ask, ask_of, asked}
use Rattle.check_model.specs.ByBytes.{bytes_asked, going_on}
use Rattle.field_check.specs.Cursors.{HasRoom, IsHere, IsNext, first_of, rest_of}
use Rattle.field_check.specs.declared.cursors.Next.TheVariants.{Nothing, Marked, Bytes}

pub going_long : (count : ℕ) (address : Option ℕ) → length (going_on count address) ≡ count
going_long zero address = refl
going_long (suc count) address = ap suc (going_long count (option_map (λ at. at + 1) address))

moved : (address : Option ℕ) (a b c : ℕ) → a + b ≡ c →
    option_map (λ at. at + b) (option_map (λ at. at + a) address) ≡ option_map (λ at. at + c) address
moved None a b c e = refl
moved (Some at) a b c e = let same : at + a + b ≡ at + c = omega arith in ap Some same

unmoved : (address : Option ℕ) → address ≡ option_map (λ at. at + 0) address
unmoved None = refl
unmoved (Some at) = let same : at ≡ at + 0 = omega arith in ap Some same

pub going_drop : (n count : ℕ) (address : Option ℕ) (more : List Ask) → n ≤ count →
    drop n (going_on count address ++ more) ≡ going_on (count - n) (option_map (λ at. at + n) address) ++ more
going_drop zero count address more le =
    let same : count ≡ count - 0 = omega arith in
    ap (λ (count : ℕ). going_on count address ++ more) same
    ∙ ap (λ (address : Option ℕ). going_on (count - 0) address ++ more) (unmoved address)
going_drop (suc n) zero address more le = absurd (omega arith)
going_drop (suc n) (suc count) address more le =
    let same : count - n ≡ suc count - suc n = omega arith in
    going_drop n count (option_map (λ at. at + 1) address) more (omega arith)
    ∙ ap (λ (count : ℕ). going_on count (option_map (λ at. at + n) (option_map (λ at. at + 1) address)) ++ more) same
    ∙ ap (λ (address : Option ℕ). going_on (suc count - suc n) address ++ more) (moved address 1 n (suc n) (omega arith))

-- the same of a part of a line, which has bytes where it begins one
part_long : (sol : Bool) (count : ℕ) (address : Option ℕ) → (sol ≡ true → 0 < count) → length (bytes_asked (ask sol count address)) ≡ count
part_long false count address some = going_long count address
part_long true zero address some = let no = some refl in absurd (omega arith)
part_long true (suc count) address some = ap suc (going_long count (option_map (λ at. at + 1) address))

part_drop : (n : ℕ) (sol : Bool) (count : ℕ) (address : Option ℕ) (more : List Ask) → n < count →
    drop n (bytes_asked (ask sol count address) ++ more)
    ≡ bytes_asked (ask (sol && n == 0) (count - n) (option_map (λ at. at + n) address)) ++ more
part_drop zero sol count address more lt =
    let same : count ≡ count - 0 = omega arith in
    ap (λ (count : ℕ). bytes_asked (ask sol count address) ++ more) same
    ∙ ap (λ (address : Option ℕ). bytes_asked (ask sol (count - 0) address) ++ more) (unmoved address)
    ∙ ap (λ (sol : Bool). bytes_asked (ask sol (count - 0) (option_map (λ at. at + 0) address)) ++ more) (sym (and_true sol))
  where
    and_true : (sol : Bool) → (sol && true) ≡ sol
    and_true true = refl
    and_true false = refl
part_drop (suc n) false count address more lt = going_drop (suc n) count address more (omega arith)
part_drop (suc n) true zero address more lt = absurd (omega arith)
part_drop (suc n) true (suc count) address more lt =
    let same : count - n ≡ suc count - suc n = omega arith in
    let later : (suc n == 0) ≡ false = ne_eqb (suc n) 0 (λ none. omega arith) in
    going_drop n count (option_map (λ at. at + 1) address) more (omega arith)
    ∙ ap (λ (count : ℕ). going_on count (option_map (λ at. at + n) (option_map (λ at. at + 1) address)) ++ more) same
    ∙ ap (λ (address : Option ℕ). going_on (suc count - suc n) address ++ more) (moved address 1 n (suc n) (omega arith))
    ∙ ap (λ (begins : Bool). bytes_asked (ask begins (suc count - suc n) (option_map (λ at. at + suc n) address)) ++ more) (sym later)

pub demand_long : (d : Demand) → (d.needs_sol ≡ true → 0 < d.rest) → length (bytes_asked (ask_of d)) ≡ d.rest
demand_long d some = part_long d.needs_sol d.rest d.address some

pub demand_next : (d : Demand) (n : ℕ) → n < d.rest → (more : List Ask) →
    IsNext (Bytes (rest_of d n)) (drop n (bytes_asked (ask_of d) ++ more))
demand_next d n lt more = (omega arith, more, part_drop n d.needs_sol d.rest d.address more lt)

-- ---- an instruction

pub sync_here : (instr : Instr) (ctl : Ctl) (resync : Bool) (code : Code) (q : Queue) (done : ℕ) → instr ≡ Sync ctl resync code → done ≡ 0 →
    IsHere (Some (Marked code)) done (bytes_asked (asked q instr))
sync_here instr ctl resync code q done is none = (
  λ more. (
    more,
    ap (λ (instr : Instr). drop done (bytes_asked (asked q instr) ++ more)) is ∙ ap (λ (done : ℕ). drop done (Await code ∷ more)) none,
  ),
  let long : length (bytes_asked (asked q instr)) ≡ 1 = ap (λ (instr : Instr). length (bytes_asked (asked q instr))) is in
      (omega arith, omega arith),
)

data_asked : (q : Queue) (instr : Instr) → ((ctl : Ctl) (resync : Bool) (code : Code) → instr ≡ Sync ctl resync code → ⊥) →
    asked q instr ≡ ask_of (demand_on q (demands_of instr None))
data_asked q (Sync ctl resync code) other = absurd (other ctl resync code refl)
data_asked q (Write ctl ends off count addr) other = refl
data_asked q (Skip ctl ends count) other = refl
data_asked q (WriteC ctl ends off count) other = refl
data_asked q (Jump ctl addr) other = refl
data_asked q (Write123 ctl ends off counts addrs) other = refl
data_asked q (Skip123 ctl ends counts) other = refl
data_asked q (Write1S23 ctl ends off counts addr) other = refl

module _ (q : Queue) (instr : Instr) (other : (ctl : Ctl) (resync : Bool) (code : Code) → instr ≡ Sync ctl resync code → ⊥) (d : Demand)
    (is : d ≡ demand_on q (demands_of instr None))
    (some : d.needs_sol ≡ true → 0 < d.rest) where
  same : bytes_asked (asked q instr) ≡ bytes_asked (ask_of d)
  same = ap bytes_asked (data_asked q instr other ∙ ap ask_of (sym is))

  long_is : length (bytes_asked (asked q instr)) ≡ d.rest
  long_is = ap (λ (asks : List Ask). length asks) same ∙ demand_long d some

  pub data_here : (n : ℕ) (rest : Demand) → d.rest < 2 ^ 16 → n < d.rest → rest ≡ rest_of d n →
      IsHere (Some (Bytes rest)) n (bytes_asked (asked q instr))
  data_here n rest small lt e = (
    λ more.
        subst (λ (rest : Demand). IsNext (Bytes rest) (drop n (bytes_asked (asked q instr) ++ more))) (sym e)
        (subst (λ (asks : List Ask). IsNext (Bytes (rest_of d n)) (drop n (asks ++ more))) (sym same) (demand_next d n lt more)),
    let long = long_is in
        let left : rest.rest ≡ d.rest - n = ap (λ (rest : Demand). rest.rest) e in
        (omega arith, omega arith),
  )

  pub data_gone : (n : ℕ) → n ≤ length (bytes_asked (asked q instr)) → d.rest ≤ n → length (bytes_asked (asked q instr)) ≡ n
  data_gone n le past =
      let long : length (bytes_asked (asked q instr)) ≡ d.rest = ap (λ (asks : List Ask). length asks) same ∙ demand_long d some in
      omega arith

-- ---- a cursor

module _ (plan : RiscProgram) (q : Queue) (at done : ℕ) (instr : Instr) (count : ℕ) (is : fetch plan at ≡ Ok (instr, count)) where
  first_is : first_asks plan q at ≡ bytes_asked (asked q instr)
  first_is = ap (λ (reading : Reading). elim reading as (λ _. List Ask) [ Err fault ↦ [] | Ok read ↦ bytes_asked (asked q read.0) ]) is

  pub done_fits : done ≤ length (first_asks plan q at) → done ≤ length (bytes_asked (asked q instr))
  done_fits h = subst (λ (asks : List Ask). done ≤ length asks) first_is h

  asks_are : (more : ℕ) → asks_from (suc more) plan q at ≡ bytes_asked (asked q instr) ++ asks_from more plan q (at + 4 * count)
  asks_are more = ap (λ (reading : Reading). elim reading as (λ _. List Ask) [
    | Err fault ↦ []
    | Ok read ↦ bytes_asked (asked q read.0) ++ asks_from more plan q (at + 4 * read.1)
  ]) is

  -- something of the instruction is left
  pub next_is : (more : ℕ) (next : Next) → 0 < more → IsHere (Some next) done (bytes_asked (asked q instr)) →
      IsNext next (drop done (asks_from more plan q at))
  next_is zero next some h = absurd (omega arith)
  next_is (suc more) next some h =
      subst (λ (asks : List Ask). IsNext next (drop done asks)) (sym (asks_are more)) (h.0 (asks_from more plan q (at + 4 * count)))

  pub room_is : (next : Next) → IsHere (Some next) done (bytes_asked (asked q instr)) → HasRoom next done (first_asks plan q at)
  room_is next h = subst (λ (asks : List Ask). HasRoom next done asks) (sym first_is) h.1

  -- or nothing
  pub passed_is : (more : ℕ) → 0 < more → length (bytes_asked (asked q instr)) ≡ done →
      drop 0 (asks_from (more - 1) plan q (at + 4 * count)) ≡ drop done (asks_from more plan q at)
  passed_is zero some h = absurd (omega arith)
  passed_is (suc more) some h =
      let less : suc more - 1 ≡ more = omega arith in
      ap (λ (more : ℕ). asks_from more plan q (at + 4 * count)) less
      ∙ sym (ap (drop done) (asks_are more)
      ∙ ap (λ (done : ℕ). drop done (bytes_asked (asked q instr) ++ asks_from more plan q (at + 4 * count))) (sym h)
      ∙ drop-append_seam (bytes_asked (asked q instr)) (asks_from more plan q (at + 4 * count)))

drop_none : (n : ℕ) → drop {A = Ask} n [] ≡ []
drop_none zero = refl
drop_none (suc n) = refl

pub unread_left : (plan : RiscProgram) (q : Queue) (at done more : ℕ) (fault : WordFault) → fetch plan at ≡ Err fault →
    drop done (asks_from more plan q at) ≡ []
unread_left plan q at done zero fault is = drop_none done
unread_left plan q at done (suc more) fault is =
    ap (λ (reading : Reading). drop done (elim reading as (λ _. List Ask) [
      | Err fault ↦ []
      | Ok read ↦ bytes_asked (asked q read.0) ++ asks_from more plan q (at + 4 * read.1)
    ])) is
    ∙ drop_none done

pub none_left : (plan : RiscProgram) (q : Queue) (at done more : ℕ) → more ≡ 0 → drop done (asks_from more plan q at) ≡ []
none_left plan q at done more is = ap (λ (more : ℕ). drop done (asks_from more plan q at)) is ∙ drop_none done

pub unread_asks : (plan : RiscProgram) (q : Queue) (at more : ℕ) (fault : WordFault) → fetch plan at ≡ Err fault →
    asks_from more plan q at ≡ []
unread_asks plan q at more fault is = unread_left plan q at 0 more fault is

-- nothing of an instruction is left at its beginning where it asks nothing
pub none_asked : (next : Option Next) (asks : List Ask) → is_some next ≡ false → IsHere next 0 asks → asks ≡ []
none_asked None [] none h = refl
none_asked None (a ∷ asks) none h = absurd (omega arith)
none_asked (Some next) asks none h = cc

-- behind so many instructions the others are asked from an address on
module _ (plan : RiscProgram) (q : Queue) (number at : ℕ) (instr : Instr) (count : ℕ) (is : fetch plan at ≡ Ok (instr, count))
    (later : (more : ℕ) → asks_from (number + more) plan q 0 ≡ asks_from number plan q 0 ++ asks_from more plan q at) where
  before : List Ask
  before = asks_from number plan q 0

  one_more : asks_from (number + 1) plan q 0 ≡ before ++ bytes_asked (asked q instr)
  unfolding before
  one_more =
      later 1
      ∙ ap (λ (asks : List Ask). asks_from number plan q 0 ++ asks)
      (asks_are plan q at 0 instr count is 0 ∙ append-nil (bytes_asked (asked q instr)))

  pub later_on : (more : ℕ) →
      asks_from (number + 1 + more) plan q 0 ≡ asks_from (number + 1) plan q 0 ++ asks_from more plan q (at + 4 * count)
  unfolding before
  later_on more =
      let same : number + 1 + more ≡ number + suc more = omega arith in
      ap (λ (n : ℕ). asks_from n plan q 0) same ∙ later (suc more)
      ∙ ap (λ (asks : List Ask). asks_from number plan q 0 ++ asks) (asks_are plan q at 0 instr count is more)
      ∙ sym (append_assoc (asks_from number plan q 0) (bytes_asked (asked q instr)) (asks_from more plan q (at + 4 * count)))
      ∙ ap (λ (asks : List Ask). asks ++ asks_from more plan q (at + 4 * count)) (sym one_more)

  -- it asks nothing
  pub last_stays : bytes_asked (asked q instr) ≡ [] → asks_from number plan q 0 ≡ asks_from (number + 1) plan q 0
  unfolding before
  last_stays none =
      sym (one_more ∙ ap (λ (asks : List Ask). asks_from number plan q 0 ++ asks) none ∙ append-nil (asks_from number plan q 0))

-- ---- what an instruction asks against what is left

going_split : (k count : ℕ) (address : Option ℕ) → k ≤ count →
    going_on count address ≡ going_on k address ++ going_on (count - k) (option_map (λ at. at + k) address)
going_split zero count address le =
    let same : count ≡ count - 0 = omega arith in
    ap (λ (count : ℕ). going_on count address) same ∙ ap (λ (address : Option ℕ). going_on (count - 0) address) (unmoved address)
going_split (suc k) zero address le = absurd (omega arith)
going_split (suc k) (suc count) address le =
    let same : count - k ≡ suc count - suc k = omega arith in
    ap (λ (rest : List Ask). GoOn 1 address ∷ rest)
    (going_split k count (option_map (λ at. at + 1) address) (omega arith)
    ∙ ap (λ (count : ℕ).
    going_on k (option_map (λ at. at + 1) address) ++ going_on count (option_map (λ at. at + k) (option_map (λ at. at + 1) address))) same
    ∙ ap (λ (later : Option ℕ). going_on k (option_map (λ at. at + 1) address) ++ going_on (suc count - suc k) later)
    (moved address 1 k (suc k) (omega arith)))

part_split : (sol : Bool) (k count : ℕ) (address : Option ℕ) → 0 < k → k ≤ count →
    bytes_asked (ask sol count address)
    ≡ bytes_asked (ask sol k address) ++ bytes_asked (ask (sol && k == 0) (count - k) (option_map (λ at. at + k) address))
part_split sol zero count address some le = absurd (omega arith)
part_split sol (suc k) zero address some le = absurd (omega arith)
part_split false (suc k) (suc count) address some le = going_split (suc k) (suc count) address le
part_split true (suc k) (suc count) address some le =
    let same : count - k ≡ suc count - suc k = omega arith in
    let later : (suc k == 0) ≡ false = ne_eqb (suc k) 0 (λ none. omega arith) in
    ap (λ (rest : List Ask). Begin 1 address ∷ rest)
    (going_split k count (option_map (λ at. at + 1) address) (omega arith)
    ∙ ap (λ (count : ℕ).
    going_on k (option_map (λ at. at + 1) address) ++ going_on count (option_map (λ at. at + k) (option_map (λ at. at + 1) address))) same
    ∙ ap (λ (later : Option ℕ). going_on k (option_map (λ at. at + 1) address) ++ going_on (suc count - suc k) later)
    (moved address 1 k (suc k) (omega arith))
    ∙ ap (λ (begins : Bool). going_on k (option_map (λ at. at + 1) address)
    ++ bytes_asked (ask begins (suc count - suc k) (option_map (λ at. at + suc k) address))) (sym later))

same_place_refl : (a : Option ℕ) → same_place a a ≡ true
same_place_refl None = refl
same_place_refl (Some a) = eq-eqb a a refl

both_true : (a b : Bool) → a ≡ true → (a && b) ≡ b
both_true true b e = refl
both_true false b e = cc

same_ask_refl : (a : Ask) → same_ask a a ≡ true
same_ask_refl (Await code) = eq-eqb _ _ refl
same_ask_refl (Begin n a) = both_true (n == n) (same_place a a) (eq-eqb n n refl) ∙ same_place_refl a
same_ask_refl (GoOn n a) = both_true (n == n) (same_place a a) (eq-eqb n n refl) ∙ same_place_refl a

-- what is asked and what is left begin alike: so many of both go
alike_behind : (first x y : List Ask) → first_unlike (first ++ x) (first ++ y) ≡ first_unlike x y
alike_behind [] x y = refl
alike_behind (a ∷ first) x y = cond-true (same_ask a a) _ _ (same_ask_refl a) ∙ alike_behind first x y

module _ (d n : Demand) (k : ℕ) (left rest : List Ask) (sol : n.needs_sol ≡ d.needs_sol) (place : n.address ≡ d.address) (some : 0 < k)
    (in_d : k ≤ d.rest) (in_n : k ≤ n.rest) (is : left ≡ bytes_asked (ask_of n) ++ rest) where
  abbrev pub part : List Ask
  part = bytes_asked (ask d.needs_sol k d.address)

  later_d : List Ask
  later_d = bytes_asked (ask_of (rest_of d k))

  later_n : List Ask
  later_n = bytes_asked (ask (d.needs_sol && k == 0) (n.rest - k) (option_map (λ at. at + k) d.address))

  long : length part ≡ k
  long = part_long d.needs_sol k d.address (λ begins. some)

  split_n : left ≡ part ++ (later_n ++ rest)
  unfolding later_n
  split_n =
      is ∙ ap (λ (sol : Bool). bytes_asked (ask sol n.rest n.address) ++ rest) sol
      ∙ ap (λ (place : Option ℕ). bytes_asked (ask d.needs_sol n.rest place) ++ rest) place
      ∙ ap (λ (asks : List Ask). asks ++ rest) (part_split d.needs_sol k n.rest d.address some in_n) ∙ append_assoc part later_n rest

  dropped : drop k left ≡ later_n ++ rest
  dropped = ap (drop k) split_n ∙ ap (λ (k : ℕ). drop k (part ++ (later_n ++ rest))) (sym long) ∙ drop-append_seam part (later_n ++ rest)

  -- the part that goes is before what is left then
  pub gone : left ≡ part ++ drop k left
  gone = split_n ∙ ap (λ (rest : List Ask). part ++ rest) (sym dropped)

  pub both_go : first_unlike (bytes_asked (ask_of d)) left ≡ first_unlike (bytes_asked (ask_of (rest_of d k))) (drop k left)
  unfolding later_d
  both_go =
      let split_d : bytes_asked (ask_of d) ≡ part ++ later_d = part_split d.needs_sol k d.rest d.address some in_d in
      ap (λ (asks : List Ask). first_unlike asks left) split_d ∙ ap (first_unlike (part ++ later_d)) split_n
      ∙ alike_behind part later_d (later_n ++ rest)
      ∙ ap (first_unlike later_d) (sym dropped)

-- where something else comes, or nothing
pub first_ask : (d : Demand) → 0 < d.rest → (rest : List Ask) × (bytes_asked (ask_of d) ≡ first_of d ∷ rest)
first_ask d some = of d.needs_sol d.rest some
  where
    of : (sol : Bool) (count : ℕ) → 0 < count → (rest : List Ask) × (bytes_asked (ask sol count d.address) ≡ ask sol 1 d.address ∷ rest)
    of sol zero some = absurd (omega arith)
    of true (suc count) some = (going_on count (option_map (λ at. at + 1) d.address), refl)
    of false (suc count) some = (going_on count (option_map (λ at. at + 1) d.address), refl)

differs_none : (d : Demand) (left : List Ask) → 0 < d.rest → left ≡ [] →
    first_unlike (bytes_asked (ask_of d)) left ≡ Some (first_of d, left)
differs_none d left some none =
    let first = first_ask d some in
    ap (λ (asks : List Ask). first_unlike asks left) first.1 ∙ ap (first_unlike (first_of d ∷ first.0)) none
    ∙ ap (λ (left : List Ask). Some (first_of d, left)) (sym none)

differs_at : (d : Demand) (b : Ask) (left y : List Ask) → 0 < d.rest → left ≡ b ∷ y → same_ask (first_of d) b ≡ false →
    first_unlike (bytes_asked (ask_of d)) left ≡ Some (first_of d, left)
differs_at d b left y some is e =
    let first = first_ask d some in
    ap (λ (asks : List Ask). first_unlike asks left) first.1 ∙ ap (first_unlike (first_of d ∷ first.0)) is
    ∙ cond-false (same_ask (first_of d) b) _ _ e ∙ ap (λ (left : List Ask). Some (first_of d, left)) (sym is)

no_code : (sol : Bool) (address : Option ℕ) (code : Code) → same_ask (ask sol 1 address) (Await code) ≡ false
no_code true address code = refl
no_code false address code = refl

pub differs_other : (d : Demand) (next : Next) (left : List Ask) → 0 < d.rest → ((n : Demand) → next ≡ Bytes n → ⊥) → IsNext next left →
    first_unlike (bytes_asked (ask_of d)) left ≡ Some (first_of d, left)
differs_other d Nothing left some other is = differs_none d left some is
differs_other d (Bytes n) left some other is = absurd (other n refl)
differs_other d (Marked code) left some other is = differs_at d (Await code) left is.0 some is.1 (no_code d.needs_sol d.address code)

same_places : (a b : Option ℕ) → same_place a b ≡ true → b ≡ a
same_places None None h = refl
same_places None (Some b) h = cc
same_places (Some a) None h = cc
same_places (Some a) (Some b) h = ap Some (sym (eqb-true a b h))

same_parts : (sol sol' : Bool) (a b : Option ℕ) → same_ask (ask sol 1 a) (ask sol' 1 b) ≡ true → (sol' ≡ sol) × (b ≡ a)
same_parts true true a b h = (refl, same_places a b h)
same_parts false false a b h = (refl, same_places a b h)
same_parts true false a b h = cc
same_parts false true a b h = cc

pub differs_byte : (d n : Demand) (left : List Ask) → 0 < d.rest → IsNext (Bytes n) left →
    (n.needs_sol ≡ d.needs_sol → n.address ≡ d.address → ⊥) →
    first_unlike (bytes_asked (ask_of d)) left ≡ Some (first_of d, left)
differs_byte d n left some is other =
    let next = first_ask n is.0 in
    differs_at d (first_of n) left (next.0 ++ is.1) some (is.2 ∙ ap (λ (asks : List Ask). asks ++ is.1) next.1)
    (false_from_ne_true (same_ask (first_of d) (first_of n))
    (λ same. let parts = same_parts d.needs_sol n.needs_sol d.address n.address same in other parts.0 parts.1))

-- nothing is asked any more
pub differs_done : (d : Demand) (left : List Ask) → d.rest ≡ 0 → (d.needs_sol ≡ true → 0 < d.rest) →
    first_unlike (bytes_asked (ask_of d)) left ≡ None
differs_done d left none some = by d.needs_sol refl
  where
    by : (sol : Bool) → d.needs_sol ≡ sol → first_unlike (bytes_asked (ask sol d.rest d.address)) left ≡ None
    by true e = let more = some e in absurd (omega arith)
    by false e = ap (λ (count : ℕ). first_unlike (going_on count d.address) left) none

-- taken later
pub taken_more : (plan : RiscProgram) (q : Queue) (c : Cursor) (k : ℕ) →
    left_of plan q (record c { done = c.done + k }) ≡ drop k (left_of plan q c)
taken_more plan q c k =
    let same : k + c.done ≡ c.done + k = omega arith in
    sym (drop-drop k c.done (asks_from c.more plan q c.at) ∙ ap (λ (n : ℕ). drop n (asks_from c.more plan q c.at)) (omega arith))

-- a step of the comparison
module _ (d d' : Demand) (k : ℕ) (e : d' ≡ rest_of d k) (some : 0 < k) where
  pub later_sol : IsTrue d'.needs_sol → 0 < d'.rest
  later_sol sol =
      let is : d'.needs_sol ≡ (d.needs_sol && k == 0) = ap (λ (d : Demand). d.needs_sol) e in
      let none : (k == 0) ≡ false = ne_eqb k 0 (λ zero. omega arith) in
      let no : d'.needs_sol ≡ (d.needs_sol && false) = is ∙ ap (λ (zero : Bool). d.needs_sol && zero) none in
      absurd (by d.needs_sol (sym no ∙ sol))
    where
      by : (sol : Bool) → (sol && false) ≡ true → ⊥
      by true h = cc
      by false h = cc

  pub later_below : k ≤ d.rest → IfSome d.address (λ at. at + d.rest < 2 ^ 40) → IfSome d'.address (λ at. at + d'.rest < 2 ^ 40)
  later_below le below = subst (λ (d : Demand). IfSome d.address (λ at. at + d.rest < 2 ^ 40)) (sym e) (by d.address below)
    where
      by : (address : Option ℕ) → IfSome address (λ at. at + d.rest < 2 ^ 40) →
          IfSome (option_map (λ at. at + k) address) (λ at. at + (d.rest - k) < 2 ^ 40)
      by None h = tt
      by (Some at) h = omega arith

  pub later_drop : (left : List Ask) → k ≤ d.rest → drop d'.rest (drop k left) ≡ drop d.rest left
  later_drop left le =
      let is : d'.rest ≡ d.rest - k = ap (λ (d : Demand). d.rest) e in
      let all : k + d'.rest ≡ d.rest = omega arith in
      drop-drop d'.rest k left ∙ ap (λ (n : ℕ). drop n left) all

-- a code against what is left
pub code_differs : (code next : Code) (left rest : List Ask) → left ≡ Await next ∷ rest → (code_number code == code_number next) ≡ false →
    first_unlike (Await code ∷ []) left ≡ Some (Await code, left)
code_differs code next left rest is e =
    ap (first_unlike (Await code ∷ [])) is ∙ cond-false (code_number code == code_number next) _ _ e
    ∙ ap (λ (left : List Ask). Some (Await code, left)) (sym is)

code_other_at : (code : Code) (sol : Bool) (count : ℕ) (address : Option ℕ) (left rest : List Ask) → 0 < count →
    left ≡ bytes_asked (ask sol count address) ++ rest →
    first_unlike (Await code ∷ []) left ≡ Some (Await code, left)
code_other_at code sol zero address left rest some is = absurd (omega arith)
code_other_at code true (suc count) address left rest some is =
    ap (first_unlike (Await code ∷ [])) is ∙ ap (λ (left : List Ask). Some (Await code, left)) (sym is)
code_other_at code false (suc count) address left rest some is =
    ap (first_unlike (Await code ∷ [])) is ∙ ap (λ (left : List Ask). Some (Await code, left)) (sym is)

pub code_other : (code : Code) (next : Next) (left : List Ask) → ((n : Code) → next ≡ Marked n → ⊥) → IsNext next left →
    first_unlike (Await code ∷ []) left ≡ Some (Await code, left)
code_other code Nothing left other is = ap (first_unlike (Await code ∷ [])) is ∙ ap (λ (left : List Ask). Some (Await code, left)) (sym is)
code_other code (Marked n) left other is = absurd (other n refl)
code_other code (Bytes d) left other is = code_other_at code d.needs_sol d.rest d.address left is.1 is.0 is.2
