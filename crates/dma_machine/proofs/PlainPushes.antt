-- The bytes of whole bursts are stored at once, and then the other entries are pushed: so the code runs plain entries.
use Rattle.std.proofs.Common.{◌≡◌, ℕ, zero, suc, ◌+◌, ◌*◌, ◌-◌, ◌<◌, ◌≤◌, ◌^◌, Bool, true, false, List, [], ◌∷◌, ◌++◌}
use Rattle.std.proofs.Common.{◌/◌, ◌%◌, get_or, length, take, drop, refl, sym, ap, ap₂, subst, ◌∙◌, arith}
use Rattle.std.specs.Prelude.{nat_le, nat_lt}
use Rattle.std.specs.Int.{from_le_bytes, w32}
use Rattle.std.proofs.lemmas.List.{drop-drop, get_or-drop, length-append, length-drop, length-take-le}
use Rattle.std.proofs.lemmas.List.{take-append-drop}
use Rattle.std.proofs.lemmas.Nat.{from_le_bytes-to_le_bytes_4}
use Rattle.std.proofs.Math.Nat.{suc-mul, div-mul-le_self, mod-eq-sub-div-mul, mod-lt, mul_assoc, mul_comm}
use Rattle.std.proofs.Math.Seq.{drop-append_seam, take-append_seam}
use Rattle.risc_word.specs.declared.Instr.{Instr}
use Rattle.fifo_model.specs.declared.Queue.{Queue}
use Rattle.fifo_model.specs.Queues.{lane_bytes, more}
use Rattle.machine_model.specs.declared.Demands.{Demands}
use Rattle.machine_model.specs.Paths.{RiscProgram}
use Rattle.machine_model.specs.PlainEntries.{HaveTurns, dwords_of, plain_entry, plain_steps, turns_behind}
use Rattle.machine_model.specs.States.{State}
use Rattle.machine_model.specs.Steps.{push, run, with_program}
use Rattle.machine_model.specs.Turns.{demand_less, demand_on, with_demand}
use Rattle.machine_model.proofs.Runs.{run-append}
use Rattle.dma_machine.specs.Counts.{with_turns}
use Rattle.dma_machine.specs.FallThrough.{put_down}
use Rattle.dma_machine.specs.Plain.{AreDwords, AreRun, AreTaken, all_pushed}
use Rattle.dma_machine.proofs.WholeBursts.{holding}
use Rattle.dma_machine.proofs.PlainTakes.{Takes, all_held}
use Rattle.dma_machine.proofs.PlainTakes.{holding_none}
use Rattle.dma_machine.proofs.PlainTakes.{others}
use Rattle.dma_machine.proofs.PlainTakes.{too_few}
use Rattle.dma_machine.proofs.PlainRuns.{all_bursts, all_taken, behind_none, dwords_both, fill, have_both, length_dwords}
use Rattle.dma_machine.proofs.PlainRuns.{steps_both, turns_both}

-- ---- by their DWORDs and the sum of their turns

-- the first of them make whole bursts, and those behind are fewer than one burst
pub record AreParted (m : State) (whole : ℕ) (dwords : List ℕ) (entries : List (ℕ × ℕ)) : Type 0 where
  pub bursts : ℕ
  pub first : List (ℕ × ℕ)
  pub later : List (ℕ × ℕ)
  pub all : first ++ later ≡ entries
  pub many : length first ≡ bursts * m.trigger
  pub few : length later < m.trigger
  pub bytes : whole ≡ length first * 4
  pub taken : dwords_of first ≡ take whole dwords
  pub left : dwords_of later ≡ drop whole dwords
  pub fits : AreDwords later

pub fit_behind : (n : ℕ) (entries : List (ℕ × ℕ)) → AreDwords entries → AreDwords (drop n entries)
fit_behind zero entries fits = fits
fit_behind (suc n) [] fits = tt
fit_behind (suc n) (entry ∷ entries) fits = fit_behind n entries fits.1

pub parted : (m : State) (whole turns : ℕ) (dwords : List ℕ) (entries : List (ℕ × ℕ)) → 1 ≤ m.trigger → AreRun dwords turns entries →
    whole ≡ length dwords - length dwords % (4 * m.trigger) → AreParted m whole dwords entries
parted m whole turns dwords entries some run made =
    let d : ℕ = 4 * m.trigger in
    let count : ℕ = length dwords / d in
    let first : List (ℕ × ℕ) = take (count * m.trigger) entries in
    let later : List (ℕ × ℕ) = drop (count * m.trigger) entries in
    let many = ap length (sym run.plain.dwords) ∙ length_dwords entries in
    let divided = mod-eq-sub-div-mul (length dwords) d in
    let rest = mod-lt (length dwords) {m = d} (omega (arith, some)) in
    let product : count * d ≡ count * m.trigger * 4 = ap (λ n. count * n) (mul_comm 4 m.trigger) ∙ sym (mul_assoc count m.trigger 4) in
    let up_to : count * d ≤ length dwords = div-mul-le_self (length dwords) d in
    let first_many : length first ≡ count * m.trigger = length-take-le (count * m.trigger) entries (omega (arith, many, product, up_to)) in
    let later_many = length-drop (count * m.trigger) entries in
    let bytes : whole ≡ length first * 4 = omega (arith, made, divided, product, up_to, first_many) in
    let joined : dwords_of first ++ dwords_of later ≡ dwords =
    sym (dwords_both first later) ∙ ap dwords_of (take-append-drop (count * m.trigger) entries) ∙ run.plain.dwords in
    let seam : whole ≡ length (dwords_of first) = bytes ∙ sym (length_dwords first) in
    record {
      bursts = count;
      first = first;
      later = later;
      all = take-append-drop (count * m.trigger) entries;
      many = first_many;
      few = omega (arith, later_many, many, divided, rest, product, up_to);
      bytes = bytes;
      taken =
          sym (take-append_seam (dwords_of first) (dwords_of later)) ∙ ap₂ (λ n list. take n list) (sym seam) joined;
      left =
          sym (drop-append_seam (dwords_of first) (dwords_of later)) ∙ ap₂ (λ n list. drop n list) (sym seam) joined;
      fits = fit_behind (count * m.trigger) entries run.dwords;
    }

-- the bursts are stored, where there are any, and the others wait
abbrev pub settled : Bool → Queue → Instr → Demands → (first later : List (ℕ × ℕ)) → State → State
settled false q instr ds first later m = holding q later m
settled true q instr ds first later m = holding q later (put_down q (length first * 4) instr ds 0 (dwords_of first) m)

pub takes-program : (q : Queue) (count : ℕ) (instr : Instr) (ds : Demands) (program : RiscProgram) (m : State) → Takes q count instr ds m →
    Takes q count instr ds (with_program program m)
takes-program q count instr ds program m h =
    record {
      on = h.on;
      runs = h.runs;
      job = h.job;
      empty = record { entries = h.empty.entries; taken = h.empty.taken; room = h.empty.room };
      some = h.some;
      room = h.room;
      sol = h.sol;
      off = h.off;
      still = h.still;
      rest = h.rest;
      all = h.all;
    }

pub settled-program : (program : RiscProgram) (some : Bool) (q : Queue) (instr : Instr) (ds : Demands) (first later : List (ℕ × ℕ))
    (m : State) →
    settled some q instr ds first later (with_program program m) ≡ with_program program (settled some q instr ds first later m)
settled-program program false q instr ds first later m = refl
settled-program program true q instr ds first later m = refl

pub settled-turns : (some : Bool) (q : Queue) (instr : Instr) (ds : Demands) (first later : List (ℕ × ℕ)) (m : State) →
    (settled some q instr ds first later m).turns ≡ m.turns
settled-turns false q instr ds first later m = refl
settled-turns true q instr ds first later m = refl

-- there is a burst where they make the queue ready
pub burst_or_none : (trigger bursts first later count : ℕ) → first ≡ bursts * trigger → later < trigger → first + later ≡ count →
    nat_le trigger count ≡ nat_lt 0 bursts
burst_or_none trigger zero first later count many few all = too_few trigger count (omega (arith, many, few, all))
burst_or_none trigger (suc bursts) first later count many few all =
    let product = suc-mul bursts trigger in
    let le : trigger ≤ count = omega (arith, many, product, all) in
    grind (arith, le)

pub none_first : (first : List (ℕ × ℕ)) → length first ≡ 0 → first ≡ []
none_first [] e = refl
none_first (entry ∷ first) e = absurd (omega (arith, e))

pub unlike : true ≡ false → ⊥
unlike e = cc

pub by_bursts : (q : Queue) (instr : Instr) (ds : Demands) (m : State) (bursts : ℕ) (some : Bool) (first later : List (ℕ × ℕ)) →
    Takes q (length (first ++ later)) instr ds m →
    length first ≡ bursts * m.trigger → length later < m.trigger → nat_lt 0 bursts ≡ some → m.turns ≤ 2 ^ 64 - 1 →
    HaveTurns (first ++ later) →
    run m (plain_steps q (first ++ later)) ≡ with_turns (more m.turns (turns_behind (first ++ later)))
    (settled some q instr ds first later m)
by_bursts q instr ds m zero true first later h many few is counts have = absurd cc
by_bursts q instr ds m zero false first later h many few is counts have =
    let none : first ≡ [] = none_first first (omega (arith, many)) in
    let alone : Takes q (length later) instr ds m = subst (λ list. Takes q (length (list ++ later)) instr ds m) none h in
    let have_later : HaveTurns later = subst (λ list. HaveTurns (list ++ later)) none have in
    ap (λ list. run m (plain_steps q (list ++ later))) none
    ∙ ap (λ s. run s (plain_steps q later)) (sym (holding_none q m h.empty))
    ∙ fill q instr ds later [] m (behind_none q _ instr ds m alone) (omega (arith, few)) counts have_later
    ∙ ap (λ list. holding q later (with_turns (more m.turns (turns_behind (list ++ later))) m)) (sym none)
by_bursts q instr ds m (suc bursts) false first later h many few is counts have =
    let some : nat_lt 0 (suc bursts) ≡ true = grind arith in
    absurd (unlike (sym some ∙ is))
by_bursts q instr ds m (suc bursts) true first later h many few is counts have =
    let both_many = length-append first later in
    let have_parts = have_both first later have in
    let turns : ℕ = more m.turns (turns_behind first) in
    let less : Demands = with_demand q (demand_less (length first * 4) (demand_on q ds)) ds in
    let stored : State = put_down q (length first * 4) instr ds 0 (dwords_of first) m in
    let left = others q _ m instr ds h first (omega (arith, both_many)) (length later) turns (sym both_many) in
    let sum : more turns (turns_behind later) ≡ more m.turns (turns_behind (first ++ later)) =
    (let all = turns_both first later in omega (arith, all)) in
    ap (run m) (steps_both q first later)
    ∙ run-append m (plain_steps q first) (plain_steps q later)
    ∙ ap (λ s. run s (plain_steps q later))
    (all_bursts q instr bursts ds first m _ h many (omega (arith, both_many)) counts have_parts.0)
    ∙ ap (λ s. run s (plain_steps q later))
    (sym (holding_none q (with_turns turns stored) (record { entries = h.empty.entries; taken = h.empty.taken; room = h.empty.room })))
    ∙ fill q instr less later [] (with_turns turns stored) (behind_none q _ instr less _ left) (omega (arith, few))
    (omega arith) have_parts.1
    ∙ ap (λ n. holding q later (with_turns n stored)) sum

module _ (q : Queue) (instr : Instr) (ds : Demands) (m : State) (whole turns : ℕ) (some : Bool) (dwords : List ℕ) (entries : List (ℕ × ℕ))
    (p : AreParted m whole dwords entries) (is : nat_lt 0 whole ≡ some) (h : Takes q (length entries) instr ds m)
    (given : AreRun dwords turns entries) where
  some_bursts : nat_lt 0 p.bursts ≡ some
  some_bursts = by p.bursts refl
    where
      by : (bursts : ℕ) → bursts ≡ p.bursts → nat_lt 0 bursts ≡ some
      by zero none =
          let many = p.many in
          let none_many : length p.first ≡ 0 = (let e = many ∙ ap (λ n. n * m.trigger) (sym none) in omega (arith, e)) in
          let bytes = p.bytes in
          let no_bytes : whole ≡ 0 = omega (arith, bytes, none_many) in
          ap (nat_lt 0) (sym no_bytes) ∙ is
      by (suc bursts) more_than =
          let many = p.many in
          let positive = h.some in
          let some_many : length p.first ≡ bursts * m.trigger + m.trigger = many ∙ ap (λ n. n * m.trigger) (sym more_than)
          ∙ suc-mul bursts m.trigger in
          let bytes = p.bytes in
          let some_bytes : 1 ≤ whole = omega (arith, bytes, some_many, positive) in
          (let e : nat_lt 0 (suc bursts) ≡ nat_lt 0 whole = grind (arith, some_bytes) in e) ∙ is

  -- of any machine that takes them as this one does
  runs_as : (n : State) → n.trigger ≡ m.trigger → Takes q (length entries) instr ds n → n.turns ≤ 2 ^ 64 - 1 →
      run n (plain_steps q entries) ≡ with_turns (more n.turns turns) (settled some q instr ds p.first p.later n)
  runs_as n same takes counts =
      let these : Takes q (length (p.first ++ p.later)) instr ds n = subst (λ list. Takes q (length list) instr ds n) (sym p.all) takes in
      ap (λ list. run n (plain_steps q list)) (sym p.all)
      ∙ by_bursts q instr ds n p.bursts some p.first p.later these (p.many ∙ ap (λ t. p.bursts * t) (sym same))
      (subst (λ t. length p.later < t) (sym same) p.few) some_bursts counts (subst HaveTurns (sym p.all) given.plain.each)
      ∙ ap (λ list. with_turns (more n.turns (turns_behind list)) (settled some q instr ds p.first p.later n)) p.all
      ∙ ap (λ count. with_turns (more n.turns count) (settled some q instr ds p.first p.later n)) given.plain.turns

  abbrev pub ends : State
  ends = with_turns (more m.turns turns) (settled some q instr ds p.first p.later m)

  pub plain_run : m.turns ≤ 2 ^ 64 - 1 → run m (plain_steps q entries) ≡ ends
  plain_run counts = runs_as m refl h counts

  -- whatever the program is
  pub plain_run-program : (program : RiscProgram) → m.turns ≤ 2 ^ 64 - 1 →
      run (with_program program m) (plain_steps q entries) ≡ with_program program ends
  plain_run-program program counts =
      runs_as (with_program program m) refl (takes-program q (length entries) instr ds program m h) counts
      ∙ ap (with_turns (more m.turns turns)) (settled-program program some q instr ds p.first p.later m)

  pub plain_taken : m.turns ≤ 2 ^ 64 - 1 → AreTaken some q entries m
  plain_taken counts =
      let positive = h.some in
      let none : 0 + length entries ≡ length entries = omega arith in
      let all_many : length p.first + length p.later ≡ length entries = sym (length-append p.first p.later) ∙ ap length p.all in
      subst (λ b. AreTaken b q entries m)
      (burst_or_none m.trigger p.bursts (length p.first) (length p.later) (length entries) p.many p.few all_many ∙ some_bursts)
      (subst (AreTaken (nat_le m.trigger (length entries)) q entries) (holding_none q m h.empty)
      (subst (λ n. AreTaken (nat_le m.trigger n) q entries (holding q [] m)) none
      (all_taken q instr entries [] ds m (behind_none q _ instr ds m h) (omega (arith, positive)) counts given.plain.each)))

  -- what the code makes
  pub made_taken : some ≡ true → (put now : State) →
      put ≡ put_down q (length (take whole dwords)) instr ds 0 (take whole dwords) m →
      ((es : List (ℕ × ℕ)) → dwords_of es ≡ drop whole dwords → AreDwords es → now ≡ all_pushed q es put) →
      now ≡ settled some q instr ds p.first p.later m
  made_taken holds put now is_put is_now =
      let few = p.few in
      let room = h.room in
      let same_many : length (take whole dwords) ≡ length p.first * 4 = ap length (sym p.taken) ∙ length_dwords p.first in
      is_now p.later p.left p.fits
      ∙ ap (all_pushed q p.later) (is_put ∙ ap₂ (λ n bytes. put_down q n instr ds 0 bytes m) same_many (sym p.taken))
      ∙ ap (all_pushed q p.later) (sym (holding_none q (put_down q (length p.first * 4) instr ds 0 (dwords_of p.first) m)
      (record { entries = h.empty.entries; taken = h.empty.taken; room = h.empty.room })))
      ∙ all_held q p.later [] (put_down q (length p.first * 4) instr ds 0 (dwords_of p.first) m) h.on (omega (arith, few, room))
      ∙ ap (λ b. settled b q instr ds p.first p.later m) (sym holds)

  pub made_waiting : some ≡ false → (now : State) →
      ((es : List (ℕ × ℕ)) → dwords_of es ≡ drop whole dwords → AreDwords es → now ≡ all_pushed q es m) →
      now ≡ settled some q instr ds p.first p.later m
  made_waiting holds now is_now =
      let few = p.few in
      let room = h.room in
      is_now p.later p.left p.fits
      ∙ ap (all_pushed q p.later) (sym (holding_none q m h.empty))
      ∙ all_held q p.later [] m h.on (omega (arith, few, room))
      ∙ ap (λ b. settled b q instr ds p.first p.later m) (sym holds)

  -- and counts
  pub made_counted : (now after : State) → now ≡ settled some q instr ds p.first p.later m →
      after ≡ with_turns (more now.turns turns) now → after ≡ ends
  made_counted now after is_now is_after =
      is_after
      ∙ ap (λ (s : State). with_turns (more s.turns turns) s) is_now
      ∙ ap (λ n. with_turns (more n turns) (settled some q instr ds p.first p.later m))
      (settled-turns some q instr ds p.first p.later m)

  pub made_few : (now : State) → now ≡ settled some q instr ds p.first p.later m → now.turns < 2 ^ 64 → m.turns ≤ 2 ^ 64 - 1
  made_few now is_now few =
      let same : now.turns ≡ m.turns = ap (λ (s : State). s.turns) is_now ∙ settled-turns some q instr ds p.first p.later m in
      omega (arith, same, few)

-- ---- pushed one after the other by the code

pub record AreLeft (q : Queue) (entries : List (ℕ × ℕ)) (bytes : List ℕ) (at : ℕ) (old now : State) (rest : List (ℕ × ℕ)) : Type 0 where
  pub dwords : dwords_of rest ≡ drop at bytes
  pub fits : AreDwords rest
  pub same : all_pushed q rest now ≡ all_pushed q entries old

pub dword_of : (dword : ℕ) → dword < 2 ^ 32 → from_le_bytes w32 (lane_bytes dword) ≡ dword
dword_of dword fits = from_le_bytes-to_le_bytes_4 dword fits

pub next_left : (q : Queue) (entries : List (ℕ × ℕ)) (bytes : List ℕ) (at dword : ℕ) (old now after : State) (rest : List (ℕ × ℕ)) →
    AreLeft q entries bytes at old now rest → at + 4 ≤ length bytes →
    dword ≡ from_le_bytes w32 (get_or bytes at 0 ∷ get_or bytes (at + 1) 0 ∷ get_or bytes (at + 2) 0 ∷ get_or bytes (at + 3) 0 ∷ []) →
    after ≡ push q (plain_entry dword) now → (left : List (ℕ × ℕ)) × AreLeft q entries bytes (at + 4) old after left
next_left q entries bytes at dword old now after [] h more_than is made =
    let none = ap length h.dwords in
    let left = length-drop at bytes in
    absurd (omega (arith, none, left, more_than))
next_left q entries bytes at dword old now after (entry ∷ rest) h more_than is made =
    let byte : (i : ℕ) → get_or bytes (at + i) 0 ≡ get_or (lane_bytes entry.0 ++ dwords_of rest) i 0 =
    λ i. sym (get_or-drop at bytes i 0) ∙ ap (λ list. get_or list i 0) (sym h.dwords) in
    let none : get_or bytes at 0 ≡ get_or bytes (at + 0) 0 = (let e : at ≡ at + 0 = omega arith in ap (λ n. get_or bytes n 0) e) in
    let first =
    ap₂ (λ a b. from_le_bytes w32 (a ∷ b ∷ get_or bytes (at + 2) 0 ∷ get_or bytes (at + 3) 0 ∷ [])) (none ∙ byte 0) (byte 1) in
    let second =
    ap₂ (λ c d. from_le_bytes w32 (get_or (lane_bytes entry.0 ++ dwords_of rest) 0 0 ∷ get_or (lane_bytes entry.0 ++ dwords_of rest) 1 0
    ∷ c ∷ d ∷ [])) (byte 2) (byte 3) in
    let same : dword ≡ entry.0 = is ∙ first ∙ second ∙ dword_of entry.0 h.fits.0 in (
      rest,
      record {
        dwords = ap (drop 4) h.dwords ∙ drop-drop 4 at bytes;
        fits = h.fits.1;
        same = ap (all_pushed q rest) (made ∙ ap (λ d. push q (plain_entry d) now) same) ∙ h.same;
      },
    )

pub none_left : (q : Queue) (entries : List (ℕ × ℕ)) (bytes : List ℕ) (at : ℕ) (old now : State) (rest : List (ℕ × ℕ)) →
    AreLeft q entries bytes at old now rest → length bytes - at < 4 → now ≡ all_pushed q entries old
none_left q entries bytes at old now [] h few = h.same
none_left q entries bytes at old now (entry ∷ rest) h few =
    let some = ap length h.dwords in
    let left = length-drop at bytes in
    absurd (omega (arith, some, left, few))
