-- Programs that agree on the words that a turn fetches are read alike.
use Rattle.std.proofs.Common.{◌≡◌, ℕ, zero, suc, ◌+◌, ◌*◌, ◌<◌, ◌≤◌, ◌⊎◌, inl, inr, List, [], ◌∷◌, Option, length, All, Some, None, refl}
use Rattle.std.proofs.Common.{sym, ap, subst, ◌∙◌, arith}
use Rattle.std.proofs.Common.{slice_index}
use Rattle.std.proofs.lemmas.List.{get_or_past}
use Rattle.std.proofs.lemmas.Bool.{cases_lt}
use Rattle.std.proofs.lemmas.List.Elements.{All-head, All-tail}
use Rattle.risc_word.proofs.Fronts.{instr_at-same}
use Rattle.machine_model.specs.Paths.{RiscProgram, is_there, is_word, word_at, words_from}
use Rattle.machine_model.specs.States.{State}
use Rattle.machine_model.specs.Turns.{turn}
use Rattle.machine_model.specs.Steps.{with_program}
use Rattle.machine_model.specs.Accesses.{word_addresses, words_read, fetched_by, fetches_if, fetches, AgreeAt, AreFetchedAlike}
use Rattle.machine_model.proofs.BeforeTurns.{word_read, words_read-is}
use Rattle.machine_model.proofs.SameTurn.{IsReadAlike, turn-with_program}

-- as many words are read, where words are at the same addresses
long_by : (first second : Option ℕ) (a b : List ℕ) → is_there first ≡ is_there second → length a ≡ length b →
    length (elim first as (λ _. List ℕ) [ None ↦ [] | Some word ↦ word ∷ a ])
    ≡ length (elim second as (λ _. List ℕ) [ None ↦ [] | Some word ↦ word ∷ b ])
long_by None None a b e h = refl
long_by None (Some y) a b e h = cc
long_by (Some x) None a b e h = cc
long_by (Some x) (Some y) a b e h = ap suc h

long_same : (count : ℕ) (first second : RiscProgram) (address : ℕ) → ((address : ℕ) → is_word first address ≡ is_word second address) →
    length (words_from count first address) ≡ length (words_from count second address)
long_same zero first second address same = refl
long_same (suc count) first second address same =
    long_by (word_at first address) (word_at second address) (words_from count first (address + 4)) (words_from count second (address + 4))
    (same address) (long_same count first second (address + 4) same)

some-same : {A : Type 0} (one two : A) → Some one ≡ Some two → one ≡ two
some-same one two h = cc

-- what holds at each of some addresses of words holds at one
word-among : (P : ℕ → Type 0) (address count k : ℕ) → k < count → All P (word_addresses address count) → P (address + 4 * k)
word-among P address zero k lt all = absurd (omega arith)
word-among P address (suc count) zero lt all =
    let here : address ≡ address + 4 * 0 = omega arith in
    subst P here (All-head P address (word_addresses (address + 4) count) all)
word-among P address (suc count) (suc k) lt all =
    let there : address + 4 + 4 * k ≡ address + 4 * suc k = omega arith in
    subst P there (word-among P (address + 4) count k (omega arith) (All-tail P address (word_addresses (address + 4) count) all))

module _ (pc : ℕ) (first second : RiscProgram) (agree : AgreeAt (word_addresses pc (words_read first pc)) first second) where
  long : length (words_from 5 first pc) ≡ length (words_from 5 second pc)
  long = long_same 5 first second pc agree.there

  same_here : (k : ℕ) → k < words_read first pc → (k < length (words_from 5 first pc)) ⊎ (length (words_from 5 first pc) ≤ k) →
      slice_index (words_from 5 first pc) k ≡ slice_index (words_from 5 second pc) k
  same_here k lt (inl inside) =
      let same = long in
      some-same _ _
      (sym (word_read 5 k first pc inside)
      ∙ word-among (λ at. word_at first at ≡ word_at second at) pc (words_read first pc) k lt agree.words
      ∙ word_read 5 k second pc (omega arith))
  same_here k lt (inr past) =
      let same = long in
      get_or_past (words_from 5 first pc) k 0 past ∙ sym (get_or_past (words_from 5 second pc) k 0 (omega arith))

  fetched-alike : AreFetchedAlike pc first second
  fetched-alike =
      record {
        instruction =
            instr_at-same (words_from 5 first pc) (words_from 5 second pc) 0 long
            (λ k lt.
            let none : 0 + k ≡ k = omega arith in
            ap (slice_index (words_from 5 first pc)) none
            ∙ same_here k (subst (λ n. k < n) (sym (words_read-is first pc)) lt) (cases_lt k (length (words_from 5 first pc)))
            ∙ sym (ap (slice_index (words_from 5 second pc)) none));
        grants = agree.grants;
        words = agree.there;
      }

-- what an idle machine fetches
pub AgreeAt-fetches : (m : State) (program : RiscProgram) → AgreeAt (fetches m) m.program program → IsReadAlike m program
AgreeAt-fetches m program agree on idle =
    fetched-alike m.pc m.program program
    (subst (λ job. AgreeAt (fetched_by job m) m.program program) idle (subst (λ on. AgreeAt (fetches_if on m) m.program program) on agree))

pub turn-fetches : (m : State) (program : RiscProgram) → AgreeAt (fetches m) m.program program →
    turn (with_program program m) ≡ with_program program (turn m)
turn-fetches m program agree = turn-with_program m program (AgreeAt-fetches m program agree)
