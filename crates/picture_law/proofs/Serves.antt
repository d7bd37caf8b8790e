-- Instructions one after another that use up what a queue brings for each.
use Rattle.std.proofs.Common.{◌≡◌, ℕ, zero, suc, ◌+◌, false, Bool, List, [], ◌∷◌, ◌++◌, length, map, None, refl, sym, ap, ◌∙◌, subst}
use Rattle.std.proofs.Common.{append_assoc, replicate}
use Rattle.std.specs.List.{range_with_len}
use Rattle.std.proofs.lemmas.List.{append-nil}
use Rattle.risc_word.specs.declared.Code.{Code}
use Rattle.risc_word.specs.declared.Instr.{Instr}
use Rattle.fifo_model.specs.declared.Queue.{Queue}
use Rattle.fifo_model.specs.declared.Queue.TheVariants.{One, Two, Three}
use Rattle.page_table.specs.Grants.{Chunk}
use Rattle.machine_model.specs.Turns.{Store}
use Rattle.picture_model.specs.declared.PieceKind.{PieceKind}
use Rattle.picture_model.specs.declared.PieceKind.TheVariants.{Write, WriteLuma, Skip}
use Rattle.picture_model.specs.declared.Piece.{Piece}
use Rattle.picture_model.specs.Plans.{Strip, plan}
use Rattle.picture_model.specs.Programs.{instr_by, instr_of, sync}
use Rattle.picture_model.proofs.Each.{Each, each_append}
use Rattle.field_law.specs.Fields.{Token, Mark}
use Rattle.field_law.specs.Sections.{Ask, GoOn, IsUsedUp, UsesUp, asked, asks, planned}
use Rattle.field_law.specs.CutLines.{lines_asks, lines_stores}
use Rattle.field_law.proofs.CutLines.{asks-append, lines_used, lines_planned, idle_used, idle_planned}
use Rattle.picture_law.specs.Pictures.{lines_of}
use Rattle.picture_law.proofs.Cuts.{moves}
use Rattle.picture_law.proofs.Lines.{CarriesAll, strip_instrs, strips_instrs, cut_lines, strips_from, all_ask, all_rows, all_covered}

-- whatever comes later, these instructions use up these tokens and make these stores
pub record Serves (q : Queue) (instrs : List Instr) (tokens : List Token) (stores : List Store) : Type 0 where
  pub used : (later : List Ask) (more : List Token) → UsesUp later [] more → UsesUp (asks q instrs ++ later) [] (tokens ++ more)
  pub makes : (later : List Ask) (more : List Token) →
      planned (asks q instrs ++ later) [] (tokens ++ more) ≡ stores ++ planned later [] more

pub serves_none : (q : Queue) → Serves q [] [] []
serves_none q = record { used = λ later more uses. uses; makes = λ later more. refl }

pub serves_sync : (q : Queue) (code : Code) → Serves q (sync false code ∷ []) (Mark code ∷ []) []
serves_sync q code = record { used = λ later more uses. (refl, refl, uses); makes = λ later more. refl }

pub serves_both : (q : Queue) (first second : List Instr) (tokens more : List Token) (stores others : List Store) →
    Serves q first tokens stores → Serves q second more others → Serves q (first ++ second) (tokens ++ more) (stores ++ others)
serves_both q first second tokens more stores others one two =
    record {
      used = λ later rest uses.
          subst (λ (asking : List Ask). UsesUp asking [] ((tokens ++ more) ++ rest)) (sym (asked_both later))
          (subst (λ (ts : List Token). UsesUp (asks q first ++ (asks q second ++ later)) [] ts) (sym (append_assoc tokens more rest))
          (one.used (asks q second ++ later) (more ++ rest) (two.used later rest uses)));
      makes = λ later rest.
          ap (λ (asking : List Ask). planned asking [] ((tokens ++ more) ++ rest)) (asked_both later)
          ∙ ap (λ (ts : List Token). planned (asks q first ++ (asks q second ++ later)) [] ts) (append_assoc tokens more rest)
          ∙ one.makes (asks q second ++ later) (more ++ rest)
          ∙ ap (λ (made : List Store). stores ++ made) (two.makes later rest)
          ∙ sym (append_assoc stores others (planned later [] rest));
    }
  where
    asked_both : (later : List Ask) → asks q (first ++ second) ++ later ≡ asks q first ++ (asks q second ++ later)
    asked_both later =
        ap (λ (asking : List Ask). asking ++ later) (asks-append q first second) ∙ append_assoc (asks q first) (asks q second) later

-- all is used up, and all stores are made
pub serves_used : (q : Queue) (instrs : List Instr) (tokens : List Token) (stores : List Store) → Serves q instrs tokens stores →
    UsesUp (asks q instrs) [] tokens
serves_used q instrs tokens stores serves =
    subst (λ (asking : List Ask). UsesUp asking [] tokens) (append-nil (asks q instrs))
    (subst (λ (ts : List Token). UsesUp (asks q instrs ++ []) [] ts) (append-nil tokens) (serves.used [] [] (refl, refl)))

pub serves_made : (q : Queue) (instrs : List Instr) (tokens : List Token) (stores : List Store) → Serves q instrs tokens stores →
    planned (asks q instrs) [] tokens ≡ stores
serves_made q instrs tokens stores serves =
    ap (λ (asking : List Ask). planned asking [] tokens) (sym (append-nil (asks q instrs)))
    ∙ ap (λ (ts : List Token). planned (asks q instrs ++ []) [] ts) (sym (append-nil tokens))
    ∙ serves.makes [] [] ∙ append-nil stores

-- ---- lines that a queue brings

serves_whole : (memory : List Chunk) (q : Queue) (strips : ℕ → Strip) (lines : List (List ℕ)) → CarriesAll memory q strips 0 lines →
    Serves q (strips_instrs memory (strips_from memory q strips 0 (length lines))) (lines_of lines)
    (lines_stores (cut_lines memory q strips 0 lines))
serves_whole memory q strips lines carries =
    let cut = cut_lines memory q strips 0 lines in
    let instrs = strips_instrs memory (strips_from memory q strips 0 (length lines)) in
    let covered = all_covered memory q strips 0 lines carries in
    let asked = all_ask memory q strips 0 lines carries in
    let rows = all_rows memory q strips 0 lines in
    record {
      used = λ later more uses.
          subst (λ (asking : List Ask). UsesUp (asking ++ later) [] (lines_of lines ++ more)) (sym asked)
          (subst (λ (ts : List Token). UsesUp (lines_asks cut ++ later) [] (ts ++ more)) rows
          (lines_used IsUsedUp cut later more covered uses));
      makes = λ later more.
          ap (λ (asking : List Ask). planned (asking ++ later) [] (lines_of lines ++ more)) asked
          ∙ ap (λ (ts : List Token). planned (lines_asks cut ++ later) [] (ts ++ more)) (sym rows)
          ∙ lines_planned cut later more covered;
    }

pub serves_lines : (memory : List Chunk) (q : Queue) (strips : ℕ → Strip) (count : ℕ) (lines : List (List ℕ)) → length lines ≡ count →
    CarriesAll memory q strips 0 lines →
    Serves q (strips_instrs memory (map strips (range_with_len 0 count))) (lines_of lines)
    (lines_stores (cut_lines memory q strips 0 lines))
serves_lines memory q strips count lines many carries =
    subst (λ (n : ℕ). Serves q (strips_instrs memory (map strips (range_with_len 0 n))) (lines_of lines)
    (lines_stores (cut_lines memory q strips 0 lines))) many
    (serves_whole memory q strips lines carries)

-- ---- lines of which a queue brings nothing

abbrev IsIdle : Queue → Instr → Type 0
IsIdle q i = asked q i ≡ GoOn 0 None

idle_asks : (q : Queue) (instrs : List Instr) → Each (IsIdle q) instrs → asks q instrs ≡ replicate (length instrs) (GoOn 0 None)
idle_asks q [] idle = refl
idle_asks q (i ∷ rest) idle =
    ap (λ (first : Ask). first ∷ asks q rest) idle.0 ∙ ap (λ (later : List Ask). GoOn 0 None ∷ later) (idle_asks q rest idle.1)

serves_idle : (q : Queue) (instrs : List Instr) → Each (IsIdle q) instrs → Serves q instrs [] []
serves_idle q instrs idle =
    let asked = idle_asks q instrs idle in
    record {
      used =
          λ later more uses. subst (λ (asking : List Ask). UsesUp (asking ++ later) [] more) (sym asked)
          (idle_used IsUsedUp (length instrs) later [] more uses);
      makes =
          λ later more. ap (λ (asking : List Ask). planned (asking ++ later) [] more) asked ∙ idle_planned (length instrs) later [] more;
    }

idle_piece : (q : Queue) (kind : PieceKind) (p : Piece) → moves false q ≡ false → IsIdle q (instr_by false kind p)
idle_piece One kind p unmoved = cc
idle_piece Two Write p unmoved = refl
idle_piece Two WriteLuma p unmoved = refl
idle_piece Two Skip p unmoved = refl
idle_piece Three Write p unmoved = refl
idle_piece Three WriteLuma p unmoved = refl
idle_piece Three Skip p unmoved = refl

idle_pieces : (q : Queue) (planar : Bool) (pieces : List Piece) → planar ≡ false → moves false q ≡ false →
    Each (IsIdle q) (map (instr_of planar) pieces)
idle_pieces q planar [] packed unmoved = tt
idle_pieces q planar (p ∷ pieces) packed unmoved = (
  subst (λ (planar : Bool). IsIdle q (instr_of planar p)) (sym packed) (idle_piece q p.kind p unmoved),
  idle_pieces q planar pieces packed unmoved,
)

idle_lines : (memory : List Chunk) (q : Queue) (strips : ℕ → Strip) (from count : ℕ) → ((k : ℕ) → (strips k).planar ≡ false) →
    moves false q ≡ false →
    Each (IsIdle q) (strips_instrs memory (map strips (range_with_len from count)))
idle_lines memory q strips from zero packed unmoved = tt
idle_lines memory q strips from (suc count) packed unmoved =
    each_append (IsIdle q) (strip_instrs memory (strips from)) (strips_instrs memory (map strips (range_with_len (from + 1) count)))
    (idle_pieces q (strips from).planar (plan memory (strips from)) (packed from) unmoved)
    (idle_lines memory q strips (from + 1) count packed unmoved)

pub serves_idle_lines : (memory : List Chunk) (q : Queue) (strips : ℕ → Strip) (count : ℕ) → ((k : ℕ) → (strips k).planar ≡ false) →
    moves false q ≡ false →
    Serves q (strips_instrs memory (map strips (range_with_len 0 count))) [] []
serves_idle_lines memory q strips count packed unmoved =
    serves_idle q (strips_instrs memory (map strips (range_with_len 0 count))) (idle_lines memory q strips 0 count packed unmoved)
