-- The instructions of lines have no fault.
use Rattle.std.proofs.Common.{◌≡◌, ℕ, zero, suc, ◌+◌, ◌*◌, ◌^◌, ◌<◌, ◌≤◌, Bool, true, false, List, [], ◌∷◌, map, Option, Some, None, refl}
use Rattle.std.proofs.Common.{ap, ◌∙◌, arith, if◌then◌else◌}
use Rattle.std.specs.Prelude.{nat_lt, option_map}
use Rattle.std.specs.List.{All}
use Rattle.std.proofs.lemmas.Bool.{and_from, cond-false, le-ltb, lt-ltb}
use Rattle.risc_word.specs.declared.Code.{Code}
use Rattle.risc_word.specs.declared.Code.TheVariants.{Vre, Vro, Fm1, Fm3}
use Rattle.risc_word.specs.declared.Ends.{Ends}
use Rattle.risc_word.specs.declared.Instr.{Instr}
use Rattle.risc_word.specs.declared.Instr.TheVariants as instr
use Rattle.risc_word.specs.Words.{code_number, counts_fit, encoded, flag}
use Rattle.page_table.specs.Grants.{Chunk, first_ungranted, granted}
use Rattle.page_table.specs.Taken.{in_order, is_aligned}
use Rattle.page_table.specs.Scattered.{address_at}
use Rattle.machine_model.specs.declared.Cause.{Cause}
use Rattle.machine_model.specs.declared.Cause.TheVariants.{Ungranted, Wrap}
use Rattle.machine_model.specs.Paths.{RiscProgram, first_cause, written_cause}
use Rattle.machine_model.proofs.Places.{none-first}
use Rattle.picture_model.specs.declared.PieceKind.{PieceKind}
use Rattle.picture_model.specs.declared.PieceKind.TheVariants.{Write, WriteLuma, Skip}
use Rattle.picture_model.specs.declared.Piece.{Piece}
use Rattle.picture_model.specs.Plans.{Cut, IsSafeCut, IsWritten, Strip, Writes, address_of, cuts_of, ends_of, kind_of, piece_of}
use Rattle.picture_model.specs.Programs.{instr_by, instr_of, no_control, sync}
use Rattle.picture_model.proofs.Each.{Each, each_map}
use Rattle.picture_model.proofs.Circle.{IsFineInstr, IsPlain}
use Rattle.picture_model.proofs.Places.{granted-in_order}
use Rattle.picture_model.proofs.Safe.{cuts_safe}
use Rattle.picture_model.proofs.Strips.{HasPlaces, IsStrip}

-- lists that grant the same leave the same ungranted
first_ungranted-along : (g h : List Chunk) (a n : ℕ) → ((b : ℕ) → granted g b ≡ granted h b) → first_ungranted g a n ≡ first_ungranted h a n
first_ungranted-along g h a zero same = refl
first_ungranted-along g h a (suc n) same =
    ap (λ (b : Bool). if b then first_ungranted g (a + 1) n else Some a) (same a)
    ∙ ap (λ (o : Option ℕ). if granted h a then o else Some a) (first_ungranted-along g h (a + 1) n same)

no_written_cause : (memory : List Chunk) (from n : ℕ) → IsWritten memory from n →
    written_cause (in_order memory) (address_at memory from) n ≡ None
no_written_cause memory from n is =
    let a = address_at memory from in
    cond-false (nat_lt (2 ^ 32) (a + n)) (Some Wrap) (option_map Ungranted (first_ungranted (in_order memory) a n))
    (le-ltb (2 ^ 32) (a + n) is.ends)
    ∙ ap (option_map Ungranted) (first_ungranted-along (in_order memory) memory a n (granted-in_order memory) ∙ is.granted)

three_none : (one two three : Option Cause) → one ≡ None → two ≡ None → three ≡ None → first_cause one (first_cause two three) ≡ None
three_none one two three first second third = none-first one (first_cause two three) first (none-first two three second third)

-- the words of an instruction are words

abbrev pub AreWords : List ℕ → Type 0
AreWords words = Each (λ word. word < 2 ^ 32) words

pub flag_small : (at : ℕ) (b : Bool) → flag at b ≤ 2 ^ at
flag_small at true = omega arith
flag_small at false = omega arith

first_word : (opcode sol eol count : ℕ) → opcode ≤ 11 → sol ≤ 2 ^ 27 → eol ≤ 2 ^ 26 → count ≤ 4092 →
    opcode * 2 ^ 28 + 0 + 0 * 2 ^ 20 + 0 * 2 ^ 16 + sol + eol + 0 * 2 ^ 12 + count < 2 ^ 32
first_word opcode sol eol count few s e c = omega arith

data_small : (opcode : ℕ) (ends : Ends) (count : ℕ) → opcode ≤ 11 → count ≤ 4092 →
    opcode * 2 ^ 28 + 0 + 0 * 2 ^ 20 + 0 * 2 ^ 16 + flag 27 ends.sol + flag 26 ends.eol + 0 * 2 ^ 12 + count < 2 ^ 32
data_small opcode ends count few c =
    first_word opcode (flag 27 ends.sol) (flag 26 ends.eol) count few (flag_small 27 ends.sol) (flag_small 26 ends.eol) c

code_small : (code : Code) → code_number code ≤ 14
code_small Vre = omega arith
code_small Vro = omega arith
code_small Fm1 = omega arith
code_small Fm3 = omega arith

sync_small : (resync : Bool) (code : Code) → 8 * 2 ^ 28 + 0 + 0 * 2 ^ 20 + 0 * 2 ^ 16 + flag 15 resync + code_number code < 2 ^ 32
sync_small resync code = let f = flag_small 15 resync in let c = code_small code in omega arith

counts_small : (second third : ℕ) → second ≤ 4092 → third ≤ 4092 → third * 2 ^ 16 + second < 2 ^ 32
counts_small second third s t = omega arith

address_small : (memory : List Chunk) (from n : ℕ) → IsWritten memory from n → address_at memory from < 2 ^ 32
address_small memory from n is = let some = is.some in let ends = is.ends in omega arith

-- an instruction without a fault, of words
pub record IsGoodInstr (program : RiscProgram) (i : Instr) : Type 0 where
  pub fine : IsFineInstr program i
  pub plain : IsPlain i
  pub words : AreWords (encoded i)

three_fit : (a b c : ℕ) → a ≤ 4092 → b ≤ 4092 → c ≤ 4092 → counts_fit (a ∷ b ∷ c ∷ []) ≡ true
three_fit a b c one two three =
    and_from _ _ (lt-ltb a 4096 (omega arith))
    (and_from _ _ (lt-ltb b 4096 (omega arith)) (and_from _ _ (lt-ltb c 4096 (omega arith)) refl))

module _ (program : RiscProgram) (memory : List Chunk) (grants : program.grants ≡ in_order memory) where
  granted_cause : (from n : ℕ) → IsWritten memory from n → written_cause program.grants (address_at memory from) n ≡ None
  granted_cause from n is = ap (λ g. written_cause g (address_at memory from) n) grants ∙ no_written_cause memory from n is

  good_skip : (ends : Ends) (a : ℕ) → a ≤ 4092 → IsGoodInstr program (instr.Skip no_control ends a)
  good_skip ends a one =
      record {
        fine = record { spelled = (lt-ltb a 4096 (omega arith), tt); some = omega arith; fine = λ target. refl };
        plain = tt;
        words = (data_small 2 ends a (omega arith) one, tt);
      }

  good_skip_123 : (ends : Ends) (a b c : ℕ) → a ≤ 4092 → b ≤ 4092 → c ≤ 4092 →
      IsGoodInstr program (instr.Skip123 no_control ends (a ∷ b ∷ c ∷ []))
  good_skip_123 ends a b c one two three =
      record {
        fine = record { spelled = (three_fit a b c one two three, refl); some = omega arith; fine = λ target. refl };
        plain = tt;
        words = (data_small 10 ends a (omega arith) one, (counts_small b c two three, tt));
      }

  good_write : (ends : Ends) (a from : ℕ) → a ≤ 4092 → IsWritten memory from a →
      IsGoodInstr program (instr.Write no_control ends 0 a (address_at memory from))
  good_write ends a from one is =
      record {
        fine = record {
          spelled = (lt-ltb a 4096 (omega arith), tt);
          some = omega arith;
          fine = λ target. three_none _ _ _ (granted_cause from a is) refl refl;
        };
        plain = tt;
        words = (data_small 1 ends a (omega arith) one, (address_small memory from a is, tt));
      }

  good_write_123 : (ends : Ends) (a b c from from' from'' : ℕ) → a ≤ 4092 → b ≤ 4092 → c ≤ 4092 → IsWritten memory from a →
      IsWritten memory from' b → IsWritten memory from'' c →
      IsGoodInstr program
      (instr.Write123 no_control ends 0 (a ∷ b ∷ c ∷ []) (address_at memory from ∷ address_at memory from' ∷ address_at memory from'' ∷ []))
  good_write_123 ends a b c from from' from'' one two three is is' is'' =
      record {
        fine = record {
          spelled = (three_fit a b c one two three, (refl, refl));
          some = omega arith;
          fine = λ target. three_none _ _ _ (granted_cause from a is) (granted_cause from' b is') (granted_cause from'' c is'');
        };
        plain = tt;
        words = (
          data_small 9 ends a (omega arith) one,
          (
            counts_small b c two three,
            (address_small memory from a is, (address_small memory from' b is', (address_small memory from'' c is'', tt))),
          ),
        );
      }

  good_write_1_s_23 : (ends : Ends) (a b c from : ℕ) → a ≤ 4092 → b ≤ 4092 → c ≤ 4092 → IsWritten memory from a →
      IsGoodInstr program (instr.Write1S23 no_control ends 0 (a ∷ b ∷ c ∷ []) (address_at memory from))
  good_write_1_s_23 ends a b c from one two three is =
      record {
        fine = record {
          spelled = (three_fit a b c one two three, refl);
          some = omega arith;
          fine = λ target. three_none _ _ _ (granted_cause from a is) refl refl;
        };
        plain = tt;
        words = (data_small 11 ends a (omega arith) one, (counts_small b c two three, (address_small memory from a is, tt)));
      }

  pub good_sync : (resync : Bool) (code : Code) → IsGoodInstr program (sync resync code)
  good_sync resync code =
      record {
        fine = record { spelled = (refl, tt); some = omega arith; fine = λ target. refl };
        plain = tt;
        words = (sync_small resync code, (omega arith, tt));
      }

  -- the instruction of a piece, by its form, whether it is clipped, what it does, and its three tracks
  good_piece : (planar clipped : Bool) (kind : PieceKind) (ends : Ends) (at n size size' size'' : ℕ) (start start' start'' : Option ℕ) →
      HasPlaces planar kind start start' start'' → n * size ≤ 4092 →
      n * size' ≤ 4092 → n * size'' ≤ 4092 → Writes memory clipped size start at n → Writes memory clipped size' start' at n →
      Writes memory clipped size'' start'' at n →
      IsGoodInstr program (instr_by planar (kind_of clipped kind) (record {
        kind = kind_of clipped kind;
        ends = ends;
        counts = n * size ∷ n * size' ∷ n * size'' ∷ [];
        addrs =
            address_of memory clipped size start at ∷ address_of memory clipped size' start' at
            ∷ address_of memory clipped size'' start'' at ∷ [];
      }))
  good_piece true true kind ends at n size size' size'' start start' start'' places one two three w w' w'' =
      good_skip_123 ends (n * size) (n * size') (n * size'') one two three
  good_piece false true kind ends at n size size' size'' start start' start'' places one two three w w' w'' = good_skip ends (n * size) one
  good_piece true false Skip ends at n size size' size'' start start' start'' places one two three w w' w'' =
      good_skip_123 ends (n * size) (n * size') (n * size'') one two three
  good_piece false false Skip ends at n size size' size'' start start' start'' places one two three w w' w'' = good_skip ends (n * size) one
  good_piece true false Write ends at n size size' size'' (Some a) (Some b) (Some c) places one two three w w' w'' =
      good_write_123 ends (n * size) (n * size') (n * size'') (a + at * size) (b + at * size') (c + at * size'') one two three w w' w''
  good_piece true false Write ends at n size size' size'' None start' start'' places one two three w w' w'' = absurd places
  good_piece true false Write ends at n size size' size'' (Some a) None start'' places one two three w w' w'' = absurd places
  good_piece true false Write ends at n size size' size'' (Some a) (Some b) None places one two three w w' w'' = absurd places
  good_piece true false WriteLuma ends at n size size' size'' (Some a) start' start'' places one two three w w' w'' =
      good_write_1_s_23 ends (n * size) (n * size') (n * size'') (a + at * size) one two three w
  good_piece true false WriteLuma ends at n size size' size'' None start' start'' places one two three w w' w'' = absurd places
  good_piece false false Write ends at n size size' size'' (Some a) start' start'' places one two three w w' w'' =
      good_write ends (n * size) (a + at * size) one w
  good_piece false false Write ends at n size size' size'' None start' start'' places one two three w w' w'' = absurd places
  good_piece false false WriteLuma ends at n size size' size'' start start' start'' places one two three w w' w'' = absurd places

  good_cut : (strip : Strip) (k : Cut) → IsStrip memory strip → IsSafeCut memory strip k →
      IsGoodInstr program (instr_of strip.planar (piece_of memory strip k))
  good_cut strip k is safe =
      good_piece strip.planar k.clipped strip.kind
      (ends_of strip k) k.at k.n strip.one.size strip.two.size strip.three.size strip.one.start strip.two.start strip.three.start is.placed
      safe.one.few safe.two.few safe.three.few safe.one.written safe.two.written safe.three.written

  pub good_line : (strip : Strip) → All (λ c. is_aligned c ≡ true) memory → IsStrip memory strip →
      Each (IsGoodInstr program) (map (instr_of strip.planar) (map (piece_of memory strip) (cuts_of memory strip strip.spans)))
  good_line strip aligned is =
      each_map (λ (p : Piece). IsGoodInstr program (instr_of strip.planar p)) (IsGoodInstr program) (instr_of strip.planar)
      (map (piece_of memory strip) (cuts_of memory strip strip.spans)) (λ p good. good)
      (each_map (IsSafeCut memory strip) (λ (p : Piece). IsGoodInstr program (instr_of strip.planar p)) (piece_of memory strip)
      (cuts_of memory strip strip.spans) (λ k safe. good_cut strip k is safe) (cuts_safe memory strip aligned is))
