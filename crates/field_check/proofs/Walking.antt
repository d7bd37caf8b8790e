-- The walk, step by step.
use Rattle.std.proofs.Common.{◌≡◌, ℕ, suc, ◌+◌, ◌≤◌, Bool, true, false, length, Option, Some, None, Ok, Err, refl, sym, ap, ◌∙◌, arith}
use Rattle.std.proofs.Common.{if◌then◌else◌}
use Rattle.risc_word.specs.declared.Ctl.{Ctl}
use Rattle.risc_word.specs.declared.Instr.{Instr}
use Rattle.risc_word.specs.declared.Instr.TheVariants.{Write, Skip, WriteC, Jump, Sync, Write123, Skip123, Write1S23}
use Rattle.risc_word.specs.declared.WordFault.{WordFault}
use Rattle.risc_word.specs.Words.{Reading, encoded}
use Rattle.risc_word.proofs.ReadInstructions.{known_at}
use Rattle.pixel_layout.specs.declared.Parity.{Parity}
use Rattle.capture_desc.specs.declared.desc.Desc.{Desc}
use Rattle.machine_model.specs.Paths.{RiscProgram, fetch, words_from}
use Rattle.check_model.specs.Checks.{Answer, Awaited, begins_field, behind, behind_at, ended, instr_why, left_by, none_left, one_more}
use Rattle.check_model.specs.Checks.{short_why, walked, walked_at, walked_by}
use Rattle.field_law.specs.Trails.{next_at}
use Rattle.check_model.specs.declared.Why.{Why}
use Rattle.check_model.specs.declared.Why.TheVariants.{NothingAwaited, Unread}
use Rattle.field_check.specs.Cursors.{CountsMore, CountsUpTo}
use Rattle.field_check.specs.Tracks.{AreFit, AreIn, CountMore, CountUpTo}
use Rattle.field_check.specs.Walks.{plus}
use Rattle.field_check.specs.declared.cursors.Track.{Track}
use Rattle.field_check.specs.declared.judge.Tracks.{Tracks}

-- an instruction that is fetched has as many words as it is spelled with
pub fetched_long : (program : RiscProgram) (at : ℕ) (instr : Instr) (count : ℕ) → fetch program at ≡ Ok (instr, count) →
    count ≡ length (encoded instr)
fetched_long program at instr count e = (known_at (words_from 5 program at) 0 instr count e).spelled_is

module _ (program : RiscProgram) (at : ℕ) where
  seen : Reading → ℕ → Option (ℕ × Why)
  seen reading m = elim reading [ Err fault ↦ Some (at, Unread) | Ok read ↦ behind_at read.0 at (behind m program) ]

  behind_is : (n m : ℕ) → n ≡ suc m → behind n program at ≡ seen (fetch program at) m
  unfolding seen
  behind_is n m e = ap (λ (n : ℕ). behind n program at) e

  pub behind_unread : (n m : ℕ) (fault : WordFault) → n ≡ suc m → fetch program at ≡ Err fault → behind n program at ≡ Some (at, Unread)
  unfolding seen
  behind_unread n m fault e is = behind_is n m e ∙ ap (λ (reading : Reading). seen reading m) is

  pub behind_read : (n m : ℕ) (instr : Instr) (count : ℕ) → n ≡ suc m → fetch program at ≡ Ok (instr, count) →
      behind n program at ≡ behind_at instr at (behind m program)
  unfolding seen
  behind_read n m instr count e is = behind_is n m e ∙ ap (λ (reading : Reading). seen reading m) is

-- what isn't a JUMP ends it
pub ends_behind : (instr : Instr) (at : ℕ) (more : ℕ → Option (ℕ × Why)) → ((ctl : Ctl) (target : ℕ) → instr ≡ Jump ctl target → ⊥) →
    behind_at instr at more ≡ (if begins_field instr then None else Some (at, NothingAwaited))
ends_behind (Jump ctl target) at more other = absurd (other ctl target refl)
ends_behind (Sync ctl resync code) at more other = refl
ends_behind (Write ctl ends off count addr) at more other = refl
ends_behind (Skip ctl ends count) at more other = refl
ends_behind (WriteC ctl ends off count) at more other = refl
ends_behind (Write123 ctl ends off counts addrs) at more other = refl
ends_behind (Skip123 ctl ends counts) at more other = refl
ends_behind (Write1S23 ctl ends off counts addr) at more other = refl

module _ (program : RiscProgram) (d : Desc) (field : Parity) (at : ℕ) (left : Awaited) (n m : ℕ) (long : n ≡ suc m) where
  go : Bool → Reading → Answer
  go none reading =
      if none then ended (behind (suc m) program at) at
      else elim reading [
        | Err fault ↦ Err (at, Unread)
        | Ok read ↦ walked_at (begins_field read.0) d field read.0 at left (walked m program d field)
      ]

  is_go : walked n program d field at left ≡ go (none_left left) (fetch program at)
  unfolding go
  is_go = ap (λ (n : ℕ). walked n program d field at left) long

  pub walked_none : none_left left ≡ true → walked n program d field at left ≡ ended (behind n program at) at
  unfolding go
  walked_none none =
      is_go ∙ ap (λ (none : Bool). go none (fetch program at)) none ∙ ap (λ (n : ℕ). ended (behind n program at) at) (sym long)

  module _ (some : none_left left ≡ false) where
    pub walked_unread : (fault : WordFault) → fetch program at ≡ Err fault → walked n program d field at left ≡ Err (at, Unread)
    unfolding go
    walked_unread fault is = is_go ∙ ap (λ (none : Bool). go none (fetch program at)) some ∙ ap (go false) is

    module _ (instr : Instr) (count : ℕ) (is : fetch program at ≡ Ok (instr, count)) where
      read_is : walked n program d field at left ≡ walked_at (begins_field instr) d field instr at left (walked m program d field)
      unfolding go
      read_is = is_go ∙ ap (λ (none : Bool). go none (fetch program at)) some ∙ ap (go false) is

      pub walked_begins : begins_field instr ≡ true → walked n program d field at left ≡ Err (at, short_why d field left)
      walked_begins b = read_is ∙ ap (λ (b : Bool). walked_at b d field instr at left (walked m program d field)) b

      module _ (inner : begins_field instr ≡ false) where
        by_is : walked n program d field at left ≡ walked_by (instr_why d field instr left) instr at left (walked m program d field)
        by_is = read_is ∙ ap (λ (b : Bool). walked_at b d field instr at left (walked m program d field)) inner

        pub walked_why : (why : Why) → instr_why d field instr left ≡ Some why → walked n program d field at left ≡ Err (at, why)
        walked_why why w = by_is ∙ ap (λ (w : Option Why). walked_by w instr at left (walked m program d field)) w

        pub walked_on : instr_why d field instr left ≡ None →
            walked n program d field at left ≡ one_more (walked m program d field (next_at instr at) (left_by instr left))
        walked_on w = by_is ∙ ap (λ (w : Option Why). walked_by w instr at left (walked m program d field)) w

-- ---- counts

pub plus_more : (count : ℕ) (answer : Answer) → plus (count + 1) answer ≡ plus count (one_more answer)
plus_more count (Ok found) = let same : count + 1 + found.1 ≡ count + suc found.1 = omega arith in ap (λ (n : ℕ). Ok (found.0, n)) same
plus_more count (Err fault) = refl

pub plus_none : (answer : Answer) → plus 0 answer ≡ answer
plus_none (Ok found) = let same : 0 + found.1 ≡ found.1 = omega arith in ap (λ (n : ℕ). Ok (found.0, n)) same
plus_none (Err fault) = refl

pub ended_here : (at count : ℕ) → Ok (at, count) ≡ plus count (ended None at)
ended_here at count = let same : count ≡ count + 0 = omega arith in ap (λ (n : ℕ). Ok (at, n)) same

one_up : (before after : Track) (n more m : ℕ) → CountsUpTo before n → CountsMore before after more → n + more ≤ m → CountsUpTo after m
one_up before after n more m up add le =
    record {
      lines = (let a = up.lines in let b = add.lines in omega arith);
      bytes = (let a = up.bytes in let b = add.bytes in omega arith);
    }

pub counts_up : (before after : Tracks) (n more m : ℕ) → CountUpTo before n → CountMore before after more → n + more ≤ m → CountUpTo after m
counts_up before after n more m up add le =
    record {
      one = one_up before.one after.one n more m up.one add.one le;
      two = one_up before.two after.two n more m up.two add.two le;
      three = one_up before.three after.three n more m up.three add.three le;
    }

one_low : (t : Track) (n m : ℕ) → CountsUpTo t n → n ≤ m → CountsUpTo t m
one_low t n m up le = record { lines = (let a = up.lines in omega arith); bytes = (let a = up.bytes in omega arith) }

pub counts_low : (ts : Tracks) (n m : ℕ) → CountUpTo ts n → n ≤ m → CountUpTo ts m
counts_low ts n m up le =
    record { one = one_low ts.one n m up.one le; two = one_low ts.two n m up.two le; three = one_low ts.three n m up.three le }

pub are_fit : (d : Desc) (field : Parity) (plan : RiscProgram) (ts : Tracks) → AreIn d field plan ts → AreFit plan ts
are_fit d field plan ts are = record { one = are.one.fits; two = are.two.fits; three = are.three.fits }
