-- While a field arrives, a turn keeps every line whole, as the track has it.
use Rattle.std.proofs.Common.{◌≡◌, ℕ, ◌+◌, ◌*◌, ◌<◌, Bool, true, false, not, ◌&&◌, List, [], ◌∷◌, ◌++◌, length, Option, None, if◌then◌else◌}
use Rattle.std.proofs.Common.{refl, sym, ap, ap₂, ◌∙◌, subst, arith}
use Rattle.std.specs.Prelude.{nat_lt}
use Rattle.risc_word.specs.declared.Ctl.{Ctl}
use Rattle.risc_word.specs.declared.Instr.{Instr}
use Rattle.risc_word.specs.declared.Instr.TheVariants.{Write, Skip, WriteC, Jump, Sync, Write123, Skip123, Write1S23}
use Rattle.risc_word.specs.Words.{encoded}
use Rattle.fifo_model.specs.declared.Queue.{Queue}
use Rattle.fifo_model.specs.declared.Queue.TheVariants.{One, Two, Three}
use Rattle.picture_model.proofs.Each.{Each, each_append}
use Rattle.machine_model.specs.declared.Job.{Job}
use Rattle.machine_model.specs.declared.Job.TheVariants.{Idle}
use Rattle.machine_model.specs.Paths.{RiscProgram, demands_of, fetch, is_data}
use Rattle.machine_model.specs.States.{State}
use Rattle.machine_model.specs.Turns.{demand_on}
use Rattle.field_law.specs.Sections.{Ask, HoldsFrom, IsPlain, ask, ask_of, asked, asks}
use Rattle.field_law.proofs.Within.{job_asks}
use Rattle.damage_model.proofs.ArrivedTakes.{left_in_line}
use Rattle.damage_map.specs.declared.mark.LineMark.{LineMark}
use Rattle.damage_map.specs.declared.mark.LineMark.TheVariants.{Fresh, Within, Done, Spoilt}
use Rattle.damage_map.specs.Tracks.{FieldTrack, fresh, is_good, is_whole, mark_on, max_lines, noted, taken_mark}
use Rattle.damage_law.proofs.AnswersKept.{same_read}
use Rattle.damage_law.proofs.Sections.{AreParts, GoesIn, LineGoes, Part, Await, Cut, instrs_of, is_none}
use Rattle.damage_law.proofs.Visits.{fresh_on}

-- ---- one list of instructions is there from an address on up to a JUMP

pub plain_jump : (i : Instr) (ctl : Ctl) (to : ℕ) → IsPlain i → i ≡ Jump ctl to → ⊥
plain_jump i ctl to plain is = subst IsPlain is plain

pub same_body : (program : RiscProgram) (at : ℕ) (body other : List Instr) (ctl ctl' : Ctl) (to to' : ℕ) →
    HoldsFrom program at body ctl to → HoldsFrom program at other ctl' to' →
    (body ≡ other) × (Jump ctl to ≡ Jump ctl' to')
same_body program at [] [] ctl ctl' to to' one two = (refl, same_read (Jump ctl to) (Jump ctl' to') 2 2 (fetch program at) one.0 two.0)
same_body program at [] (i ∷ rest) ctl ctl' to to' one two =
    absurd (plain_jump i ctl to two.1 (same_read i (Jump ctl to) (length (encoded i)) 2 (fetch program at) two.0 one.0))
same_body program at (i ∷ rest) [] ctl ctl' to to' one two =
    absurd (plain_jump i ctl' to' one.1 (same_read i (Jump ctl' to') (length (encoded i)) 2 (fetch program at) one.0 two.0))
same_body program at (i ∷ rest) (j ∷ more) ctl ctl' to to' one two =
    let same : i ≡ j = same_read i j (length (encoded i)) (length (encoded j)) (fetch program at) one.0 two.0 in
    let later =
    same_body program (at + 4 * length (encoded i)) rest more ctl ctl' to to' one.3
    (subst (λ (x : Instr). HoldsFrom program (at + 4 * length (encoded x)) more ctl' to') (sym same) two.3) in
    (ap₂ (λ (x : Instr) (xs : List Instr). x ∷ xs) same later.0, later.1)

-- ---- where a line ends nothing more is asked in it

asked_data : (q : Queue) (i : Instr) → is_data i ≡ true → asked q i ≡ ask_of (demand_on q (demands_of i None))
asked_data q (Jump ctl to) is = cc
asked_data q (Sync ctl resync code) is = cc
asked_data q (Write ctl ends_there off count addr) is = refl
asked_data q (Skip ctl ends_there count) is = refl
asked_data q (WriteC ctl ends_there off count) is = refl
asked_data q (Write123 ctl ends_there off counts addrs) is = refl
asked_data q (Skip123 ctl ends_there counts) is = refl
asked_data q (Write1S23 ctl ends_there off counts addr) is = refl

pub left_first : (sol : Bool) (count : ℕ) (address : Option ℕ) (rest : List Ask) → sol ≡ true →
    left_in_line (ask sol count address ∷ rest) ≡ 0
left_first true count address rest is = refl
left_first false count address rest is = cc

pub left_later : (sol : Bool) (count : ℕ) (address : Option ℕ) (rest : List Ask) → sol ≡ false →
    left_in_line (ask sol count address ∷ rest) ≡ count + left_in_line rest
left_later true count address rest is = cc
left_later false count address rest is = refl

line_unmoved : (q : Queue) (begins : Bool) (moved : Queue → Bool) (line rest : List Instr) → moved q ≡ false → LineGoes begins moved line →
    left_in_line (asks q (line ++ rest)) ≡ left_in_line (asks q rest)
line_unmoved q begins moved [] rest still goes = refl
line_unmoved q begins moved (i ∷ line) rest still goes =
    ap (λ (a : Ask). left_in_line (a ∷ asks q (line ++ rest))) (asked_data q i goes.0.moves)
    ∙ by_sol (demand_on q (demands_of i None)).needs_sol refl
    ∙ line_unmoved q false moved line rest still goes.1
  where
    none : (demand_on q (demands_of i None)).rest ≡ 0
    none = goes.0.unmoved q None still

    by_sol : (sol : Bool) → (demand_on q (demands_of i None)).needs_sol ≡ sol →
        left_in_line (ask_of (demand_on q (demands_of i None)) ∷ asks q (line ++ rest)) ≡ left_in_line (asks q (line ++ rest))
    by_sol true is = let some = (goes.0.first q None is).1 in let zero_is = none in absurd (omega arith)
    by_sol false is =
        let zero_is = none in
        left_later (demand_on q (demands_of i None)).needs_sol (demand_on q (demands_of i None)).rest
        (demand_on q (demands_of i None)).address (asks q (line ++ rest)) is ∙ omega arith

line_starts : (q : Queue) (moved : Queue → Bool) (i : Instr) (line : List Instr) (last : Bool) (rest : List Ask) → moved q ≡ true →
    GoesIn true moved last i → left_in_line (asked q i ∷ rest) ≡ 0
line_starts q moved i line last rest does goes =
    ap (λ (a : Ask). left_in_line (a ∷ rest)) (asked_data q i goes.moves) ∙ by_sol (demand_on q (demands_of i None)).needs_sol refl
  where
    by_sol : (sol : Bool) → (demand_on q (demands_of i None)).needs_sol ≡ sol →
        left_in_line (ask_of (demand_on q (demands_of i None)) ∷ rest) ≡ 0
    by_sol true is =
        left_first (demand_on q (demands_of i None)).needs_sol (demand_on q (demands_of i None)).rest
        (demand_on q (demands_of i None)).address rest is
    by_sol false is = let never : true ≡ false = goes.awaits q None does is in cc

pub parts_left : (q : Queue) (parts : List Part) → AreParts parts → left_in_line (asks q (instrs_of parts)) ≡ 0
parts_left q [] are = refl
parts_left q (Await code ∷ rest) are = refl
parts_left q (Cut moved line ∷ rest) are = by_moved (parts_left q rest are.1) (moved q) refl
  where
    by_moved : left_in_line (asks q (instrs_of rest)) ≡ 0 → (does : Bool) → moved q ≡ does →
        left_in_line (asks q (line ++ instrs_of rest)) ≡ 0
    by_moved later false is = line_unmoved q true moved line (instrs_of rest) is are.0.goes ∙ later
    by_moved later true is =
        let goes : LineGoes true moved (are.0.first ∷ are.0.rest) = subst (LineGoes true moved) are.0.some are.0.goes in
        ap (λ (instrs : List Instr). left_in_line (asks q (instrs ++ instrs_of rest))) are.0.some
        ∙ line_starts q moved are.0.first are.0.rest (is_none are.0.rest) (asks q (are.0.rest ++ instrs_of rest)) is goes.0

-- ---- a queue's mark, by how many bytes are still asked in the line

abbrev pub IsMarked : ℕ → LineMark → Type 0
IsMarked left Fresh = Unit {0}
IsMarked left Within = 0 < left
IsMarked left Done = left ≡ 0
IsMarked left Spoilt = ⊥

marked_fresh : (left : ℕ) (mark : LineMark) → mark ≡ Fresh → IsMarked left mark
marked_fresh left Fresh is = tt
marked_fresh left Within is = cc
marked_fresh left Done is = cc
marked_fresh left Spoilt is = cc

pub marked_good : (left : ℕ) (mark : LineMark) → left ≡ 0 → IsMarked left mark → is_good mark ≡ true
marked_good left Fresh none marked = refl
marked_good left Within none marked = absurd (omega arith)
marked_good left Done none marked = refl
marked_good left Spoilt none marked = absurd marked

pub marked_taken : (ended : Bool) (before after : ℕ) (mark : LineMark) → IsMarked before mark → (mark ≡ Done → before ≡ 0 → ⊥) →
    (ended ≡ true → after ≡ 0) → (ended ≡ false → 0 < after) →
    IsMarked after (taken_mark ended mark)
marked_taken true before after Fresh marked open_line last goes = last refl
marked_taken true before after Within marked open_line last goes = last refl
marked_taken true before after Done marked open_line last goes = absurd (open_line refl marked)
marked_taken true before after Spoilt marked open_line last goes = marked
marked_taken false before after Fresh marked open_line last goes = goes refl
marked_taken false before after Within marked open_line last goes = goes refl
marked_taken false before after Done marked open_line last goes = absurd (open_line refl marked)
marked_taken false before after Spoilt marked open_line last goes = marked

-- ---- all is well so far: every line is whole, no instruction was lost, and the marks are those of whole lines

pub record GoesWell (program : RiscProgram) (m : State) (t : FieldTrack) : Type 0 where
  pub lines : Each (λ whole. whole ≡ true) t.lines
  pub lost : t.lost ≡ false
  pub marks : (q : Queue) (ctl : Ctl) (to : ℕ) (body : List Instr) → HoldsFrom program m.pc body ctl to →
      IsMarked (left_in_line (job_asks q m.job (asks q body))) (mark_on q t.marks)

module _ (program : RiscProgram) where
  pub well_fresh : (after : State) (t : FieldTrack) → Each (λ whole. whole ≡ true) t.lines → t.lost ≡ false → t.marks ≡ fresh →
      GoesWell program after t
  well_fresh after t lines lost marks =
      record {
        lines = lines;
        lost = lost;
        marks = λ q ctl to body holds.
            marked_fresh (left_in_line (job_asks q after.job (asks q body))) (mark_on q t.marks) (ap (mark_on q) marks ∙ fresh_on q);
      }

  pub well_still : (m after : State) (t : FieldTrack) → after.job ≡ m.job → after.pc ≡ m.pc → GoesWell program m t →
      GoesWell program after t
  well_still m after t job pc g =
      record {
        lines = g.lines;
        lost = g.lost;
        marks =
            λ q ctl to body holds.
            subst (λ (j : Job). IsMarked (left_in_line (job_asks q j (asks q body))) (mark_on q t.marks)) (sym job)
            (g.marks q ctl to body (subst (λ (pc : ℕ). HoldsFrom program pc body ctl to) pc holds));
      }

  -- an instruction is fetched: what it asks was asked before, too
  pub well_fetched : (m after : State) (t : FieldTrack) (i : Instr) → m.job ≡ Idle → after.pc ≡ m.pc + 4 * length (encoded i) →
      ((rest : List Instr) (ctl : Ctl) (to : ℕ) → HoldsFrom program (m.pc + 4 * length (encoded i)) rest ctl to →
      HoldsFrom program m.pc (i ∷ rest) ctl to) →
      ((q : Queue) (rest : List Ask) → left_in_line (job_asks q after.job rest) ≡ left_in_line (asked q i ∷ rest)) → GoesWell program m t →
      GoesWell program after t
  well_fetched m after t i idle pc longer same g =
      record {
        lines = g.lines;
        lost = g.lost;
        marks =
            λ q ctl to body holds.
            let before = g.marks q ctl to (i ∷ body) (longer body ctl to (subst (λ (at : ℕ). HoldsFrom program at body ctl to) pc holds)) in
            subst (λ (n : ℕ). IsMarked n (mark_on q t.marks)) (sym (same q (asks q body)))
            (subst (λ (j : Job). IsMarked (left_in_line (job_asks q j (asks q (i ∷ body)))) (mark_on q t.marks)) idle before);
      }

  -- the line ends: it is whole
  noted_true : (whole : Bool) (lines : List Bool) → whole ≡ true → Each (λ whole. whole ≡ true) lines →
      Each (λ whole. whole ≡ true) (noted whole lines)
  noted_true whole lines is each = by_room (nat_lt (length lines) max_lines)
    where
      by_room : (room : Bool) → Each (λ whole. whole ≡ true) (if room then lines ++ whole ∷ [] else lines)
      by_room true = each_append (λ whole. whole ≡ true) lines (whole ∷ []) each (is, tt)
      by_room false = each

  line_whole : (t : FieldTrack) → t.lost ≡ false → ((q : Queue) → is_good (mark_on q t.marks) ≡ true) → is_whole t ≡ true
  line_whole t lost good =
      ap₂ (λ (x y : Bool). x && y) (ap₂ (λ (x y : Bool). x && y) (ap₂ (λ (x y : Bool). x && y) (ap not lost) (good One)) (good Two))
      (good Three)

  pub well_through : (after : State) (t : FieldTrack) → Each (λ whole. whole ≡ true) t.lines → t.lost ≡ false →
      ((q : Queue) → is_good (mark_on q t.marks) ≡ true) →
      GoesWell program after (record t { marks = fresh; lost = false; lines = noted (is_whole t) t.lines })
  well_through after t lines lost good =
      well_fresh after (record t { marks = fresh; lost = false; lines = noted (is_whole t) t.lines })
      (noted_true (is_whole t) t.lines (line_whole t lost good) lines) refl refl
