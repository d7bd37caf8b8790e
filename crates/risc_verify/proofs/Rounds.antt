-- The path of a program comes to a place again.
use Rattle.std.proofs.Common.{◌≡◌, ℕ, zero, suc, ◌+◌, ◌-◌, ◌*◌, ◌/◌, ◌%◌, ◌^◌, ◌<◌, ◌≤◌, ◌⊎◌, inl, inr, Bool, true, false, ◌==◌, List, []}
use Rattle.std.proofs.Common.{◌∷◌, length, if◌then◌else◌, nat_lt, Option, Some, None, unwrap_or}
use Rattle.std.proofs.Common.{Ok, Err, refl, ap, sym, subst, ◌∙◌, arith, add-zero, add-suc, ltb-true, ltb-false}
use Rattle.std.proofs.lemmas.Bool.{cases_Bool}
use Rattle.risc_word.specs.declared.Instr.{Instr}
use Rattle.risc_word.specs.declared.Instr.TheVariants.{Write, Skip, WriteC, Jump, Sync, Write123, Skip123, Write1S23}
use Rattle.risc_word.specs.Words.{Reading, write_at, jump_at, sync_for, sync_at, write_123_at, skip_123_at, write_1_s_23_at, by_opcode}
use Rattle.risc_word.specs.Words.{first_instr}
use Rattle.risc_word.specs.declared.Code.{Code}
use Rattle.machine_model.specs.declared.Cause.{Cause}
use Rattle.machine_model.specs.Paths.{RiscProgram, Place, all_words, words_from, fetch, cause_at, reading_cause, place_after, place_read}
use Rattle.machine_model.specs.Paths.{next_by, next_place, path, IsSound}
use Rattle.risc_verify.specs.Programs.{word_of}
use Rattle.risc_verify.specs.Rounds.{AreFine, PathsComeRound}
use Rattle.risc_verify.proofs.Near.{none-fetched}
use Rattle.risc_verify.proofs.Numbers.{word_of-below, word_of-same}
use Rattle.risc_verify.proofs.Pigeonhole.{values-repeat}

-- An instruction has at least one word.

abbrev TakesWords : Reading → Type 0
TakesWords (Err fault) = Unit {0}
TakesWords (Ok (instr, count)) = 0 < count

either : (test : Bool) (x y : Reading) → TakesWords x → TakesWords y → TakesWords (if test then x else y)
either true x y in_x in_y = in_x
either false x y in_x in_y = in_y

write-takes : (w : ℕ) (rest : List ℕ) → TakesWords (write_at w rest)
write-takes w [] = tt
write-takes w (a ∷ rest) = omega arith

jump-takes : (w : ℕ) (rest : List ℕ) → TakesWords (jump_at w rest)
jump-takes w [] = tt
jump-takes w (a ∷ rest) = omega arith

code-takes : (w : ℕ) (code : Option Code) → TakesWords (sync_for w code)
code-takes w None = tt
code-takes w (Some code) = omega arith

sync-takes : (w : ℕ) (rest : List ℕ) → TakesWords (sync_at w rest)
sync-takes w [] = tt
sync-takes w (a ∷ rest) = code-takes w _

write_123-takes : (w : ℕ) (rest : List ℕ) → TakesWords (write_123_at w rest)
write_123-takes w [] = tt
write_123-takes w (a ∷ []) = tt
write_123-takes w (a ∷ b ∷ []) = tt
write_123-takes w (a ∷ b ∷ c ∷ []) = tt
write_123-takes w (a ∷ b ∷ c ∷ d ∷ rest) = omega arith

skip_123-takes : (w : ℕ) (rest : List ℕ) → TakesWords (skip_123_at w rest)
skip_123-takes w [] = tt
skip_123-takes w (a ∷ rest) = omega arith

write_1_s_23-takes : (w : ℕ) (rest : List ℕ) → TakesWords (write_1_s_23_at w rest)
write_1_s_23-takes w [] = tt
write_1_s_23-takes w (a ∷ []) = tt
write_1_s_23-takes w (a ∷ b ∷ rest) = omega arith

opcode-takes : (op w : ℕ) (rest : List ℕ) → TakesWords (by_opcode op w rest)
opcode-takes op w rest =
    either (op == 1) _ _ (write-takes w rest)
    (either (op == 2) _ _ (omega arith)
    (either (op == 5) _ _ (omega arith)
    (either (op == 7) _ _ (jump-takes w rest)
    (either (op == 8) _ _ (sync-takes w rest)
    (either (op == 9) _ _ (write_123-takes w rest)
    (either (op == 10) _ _ (skip_123-takes w rest)
    (either (op == 11) _ _ (write_1_s_23-takes w rest) tt)))))))

first-takes : (words : List ℕ) → TakesWords (first_instr words)
first-takes [] = tt
first-takes (w ∷ rest) = opcode-takes (w / 2 ^ 28 % 2 ^ 4) w rest

fetch-takes : (program : RiscProgram) (pc : ℕ) → TakesWords (fetch program pc)
fetch-takes program pc = first-takes (words_from 5 program pc)

-- A fine place: an instruction is there.

record Reads (program : RiscProgram) (pc : ℕ) : Type 0 where
  instr : Instr
  count : ℕ
  is : fetch program pc ≡ Ok (instr, count)

reading-reads : (program : RiscProgram) (pc : ℕ) (target : Option ℕ) (r : Reading) → fetch program pc ≡ r →
    reading_cause program target r ≡ None → Reads program pc
reading-reads program pc target (Err fault) is fine = absurd (cc)
reading-reads program pc target (Ok (x, n)) is fine = record { instr = x; count = n; is = is }

reads : (program : RiscProgram) (place : Place) → cause_at program place ≡ None → Reads program place.pc
reads program place fine = reading-reads program place.pc place.target (fetch program place.pc) refl fine

-- the next pc depends on the pc alone
abbrev pc_after : Instr → ℕ → ℕ → ℕ
pc_after (Jump ctl addr) count pc = addr
pc_after _ count pc = pc + 4 * count

after-pc : (x : Instr) (count : ℕ) (place : Place) → (place_after x count place).pc ≡ pc_after x count place.pc
after-pc (Write ctl ends off n addr) count place = refl
after-pc (Skip ctl ends n) count place = refl
after-pc (WriteC ctl ends off n) count place = refl
after-pc (Jump ctl addr) count place = refl
after-pc (Sync ctl resync code) count place = refl
after-pc (Write123 ctl ends off counts addrs) count place = refl
after-pc (Skip123 ctl ends counts) count place = refl
after-pc (Write1S23 ctl ends off counts addr) count place = refl

next-is : (program : RiscProgram) (place : Place) (r : Reads program place.pc) → cause_at program place ≡ None →
    next_place program place ≡ place_after r.instr r.count place
next-is program place r fine =
    ap (λ (c : Option Cause). next_by c program place) fine ∙ ap (λ (x : Reading). place_read x place) r.is

next-pc : (program : RiscProgram) (place : Place) (r : Reads program place.pc) → cause_at program place ≡ None →
    (next_place program place).pc ≡ pc_after r.instr r.count place.pc
next-pc program place r fine =
    ap (λ (p : Place). p.pc) (next-is program place r fine) ∙ after-pc r.instr r.count place

-- two fine places with the same pc
same-next_pc : (program : RiscProgram) (p q : Place) → p.pc ≡ q.pc → cause_at program p ≡ None → cause_at program q ≡ None →
    (next_place program p).pc ≡ (next_place program q).pc
same-next_pc program p q same fine_p fine_q =
    let r = reads program p fine_p in
    let s : Reads program q.pc = record { instr = r.instr; count = r.count; is = ap (fetch program) (sym same) ∙ r.is } in
    next-pc program p r fine_p ∙ ap (pc_after r.instr r.count) same ∙ sym (next-pc program q s fine_q)

-- The path from a place on is the path from any equal place on.

path-again : (program : RiscProgram) (first second more : ℕ) → path program first ≡ path program second →
    path program (first + more) ≡ path program (second + more)
path-again program first second zero same = rw (add-zero first, add-zero second) same
path-again program first second (suc more) same =
    rw (add-suc first more, add-suc second more) (ap (next_place program) (path-again program first second more same))

fine-later : (program : RiscProgram) (first second : ℕ) → first < second → path program first ≡ path program second →
    AreFine program second → (bound : ℕ) → AreFine program bound
fine-later program first second apart same fine zero k below = absurd (omega arith)
fine-later program first second apart same fine (suc bound) k below =
    elim (cases_Bool (nat_lt k second)) [
      | inl is_early ↦ fine k (ltb-true k second is_early)
      | inr is_late ↦
          let late : second ≤ k = omega (arith, ltb-false k second is_late) in
          let at : k ≡ second + (k - second) = omega arith in
          let here : path program k ≡ path program (first + (k - second)) =
          ap (path program) at ∙ sym (path-again program first second (k - second) same) in
          ap (cause_at program) here
          ∙ fine-later program first second apart same fine bound (first + (k - second)) (omega arith)
    ]

-- a path that comes to a place again with no fault before is without fault
pub sound-from_repeat : (program : RiscProgram) (first second : ℕ) → first < second → path program first ≡ path program second →
    AreFine program second → IsSound program
sound-from_repeat program first second apart same fine k =
    fine-later program first second apart same fine (suc k) k (omega arith)

-- Two places with one pc go on alike up to and with the next JUMP, and after it they are the same.

pcs-agree : (program : RiscProgram) (first second more : ℕ) → (path program first).pc ≡ (path program second).pc →
    AreFine program (first + more) → AreFine program (second + more) →
    (path program (first + more)).pc ≡ (path program (second + more)).pc
pcs-agree program first second zero same fine_first fine_second = rw (add-zero first, add-zero second) same
pcs-agree program first second (suc more) same fine_first fine_second =
    rw (add-suc first more, add-suc second more)
    (same-next_pc program (path program (first + more)) (path program (second + more))
    (pcs-agree program first second more same (λ k below. fine_first k (omega arith)) (λ k below. fine_second k (omega arith)))
    (fine_first (first + more) (omega arith)) (fine_second (second + more) (omega arith)))

-- The place after a JUMP.
abbrev landed : ℕ → Place
landed address = record { pc = address; target = None }

-- every fine place with this pc leads to one place
record Leaps (program : RiscProgram) (pc : ℕ) : Type 0 where
  addr : ℕ
  always : (place : Place) → place.pc ≡ pc → cause_at program place ≡ None → next_place program place ≡ landed addr

leaps_or_grows : (program : RiscProgram) (pc : ℕ) (x : Instr) (count : ℕ) → fetch program pc ≡ Ok (x, count) → 0 < count →
    Leaps program pc ⊎ (pc < pc_after x count pc)
leaps_or_grows program pc (Jump ctl addr) count is some =
    inl
    (record {
      addr = addr;
      always =
          λ place same fine.
          next-is program place (record { instr = Jump ctl addr; count = count; is = ap (fetch program) same ∙ is }) fine;
    })
leaps_or_grows program pc (Write ctl ends off n addr) count is some = inr (omega arith)
leaps_or_grows program pc (Skip ctl ends n) count is some = inr (omega arith)
leaps_or_grows program pc (WriteC ctl ends off n) count is some = inr (omega arith)
leaps_or_grows program pc (Sync ctl resync code) count is some = inr (omega arith)
leaps_or_grows program pc (Write123 ctl ends off counts addrs) count is some = inr (omega arith)
leaps_or_grows program pc (Skip123 ctl ends counts) count is some = inr (omega arith)
leaps_or_grows program pc (Write1S23 ctl ends off counts addr) count is some = inr (omega arith)

step-goes : (program : RiscProgram) (place : Place) → cause_at program place ≡ None →
    Leaps program place.pc ⊎ (place.pc < (next_place program place).pc)
step-goes program place fine =
    let r = reads program place fine in
    let some : 0 < r.count = subst TakesWords r.is (fetch-takes program place.pc) in
    elim (leaps_or_grows program place.pc r.instr r.count r.is some) [
      | inl leap ↦ inl leap
      | inr grows ↦ inr (omega (arith, next-pc program place r fine))
    ]

-- among so many places from one on there is a JUMP
record Jumps (program : RiscProgram) (first count : ℕ) : Type 0 where
  after : ℕ
  below : after < count
  leap : Leaps program (path program (first + after)).pc

jumps_or_grows : (program : RiscProgram) (first count : ℕ) → AreFine program (first + count) →
    Jumps program first count ⊎ ((path program first).pc + count ≤ (path program (first + count)).pc)
jumps_or_grows program first zero fine = inr (rw (add-zero first) (omega arith))
jumps_or_grows program first (suc count) fine =
    elim (jumps_or_grows program first count (λ k below. fine k (omega arith))) [
      | inl j ↦ inl (record { after = j.after; below = omega arith; leap = j.leap })
      | inr grown ↦
          elim (step-goes program (path program (first + count)) (fine (first + count) (omega arith))) [
            | inl leap ↦ inl (record { after = count; below = omega arith; leap = leap })
            | inr grows ↦ inr (rw (add-suc first count) (omega arith))
          ]
    ]

-- The words of a program have as many numbers as there are words.

record Counted (program : RiscProgram) (address : ℕ) : Type 0 where
  number : ℕ
  is : word_of program address ≡ Some number

counted : (program : RiscProgram) (address : ℕ) → Reads program address → (word : Option ℕ) → word_of program address ≡ word →
    Counted program address
counted program address r None is = let none = none-fetched program address is in let read = r.is in absurd (cc)
counted program address r (Some word) is = record { number = word; is = is }

word-from_fine : (program : RiscProgram) (place : Place) → cause_at program place ≡ None → Counted program place.pc
word-from_fine program place fine = counted program place.pc (reads program place fine) (word_of program place.pc) refl

-- two addresses whose words have one number are the same
same-word : (program : RiscProgram) (a b : ℕ) (at_a : Counted program a) (at_b : Counted program b) →
    unwrap_or (word_of program a) 0 ≡ unwrap_or (word_of program b) 0 → a ≡ b
same-word program a b at_a at_b same =
    let number : at_a.number ≡ at_b.number = sym (ap (λ word. unwrap_or word 0) at_a.is) ∙ same ∙ ap (λ word. unwrap_or word 0) at_b.is in
    word_of-same program a b at_b.number (at_a.is ∙ ap Some number) at_b.is

-- so many fine places are enough
pub sound-from_places : PathsComeRound
sound-from_places program fine =
    let n = length (all_words program) in
    let number : ℕ → ℕ = λ k. unwrap_or (word_of program (path program k).pc) 0 in
    let word = λ (k : ℕ) (below : k < n + 1). word-from_fine program (path program k) (fine k (omega arith)) in
    let is = λ (k : ℕ) (below : k < n + 1). ap (λ word. unwrap_or word 0) (word k below).is in
    let r =
    values-repeat number (n + 1) n
    (λ k below. subst (λ m. m < n) (sym (is k below)) (word_of-below program (path program k).pc (word k below).number (word k below).is))
    (omega arith) in
    let more = r.second - r.first in
    let second_is : r.first + more ≡ r.second = omega arith in
    let same_pc : (path program r.first).pc ≡ (path program r.second).pc =
    same-word program (path program r.first).pc (path program r.second).pc (word r.first (omega arith)) (word r.second r.within) r.same in
    elim (jumps_or_grows program r.first more (λ k below. fine k (omega arith))) [
      | inl j ↦
          sound-from_repeat program (suc (r.first + j.after)) (suc (r.second + j.after)) (omega arith)
          (j.leap.always (path program (r.first + j.after)) refl (fine (r.first + j.after) (omega arith))
          ∙ sym
          (j.leap.always (path program (r.second + j.after))
          (sym
          (pcs-agree program r.first r.second j.after same_pc (λ k below. fine k (omega arith))
          (λ k below. fine k (omega arith))))
          (fine (r.second + j.after) (omega arith))))
          (λ k below. fine k (omega arith))
      | inr grown ↦
          let there : (path program (r.first + more)).pc ≡ (path program r.second).pc =
          ap (λ (k : ℕ). (path program k).pc) second_is in
          absurd (omega arith)
    ]
