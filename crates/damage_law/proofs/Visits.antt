-- A machine within a section of a field: what the track holds of the lines so far, and how a turn keeps it.
use Rattle.std.proofs.Common.{◌≡◌, ℕ, suc, ◌+◌, ◌*◌, ◌<◌, ◌≤◌, ◌⊎◌, inl, inr, Bool, true, false, not, ◌&&◌, List, [], ◌∷◌, ◌++◌}
use Rattle.std.proofs.Common.{append_assoc, length, length-append, map, refl, sym, ap, ap₂, ◌∙◌, subst, arith}
use Rattle.std.specs.Prelude.{nat_lt}
use Rattle.std.specs.List.{list_all}
use Rattle.std.proofs.lemmas.Bool.{cond-true, lt-ltb}
use Rattle.std.proofs.lemmas.List.{length-map, map-append}
use Rattle.risc_word.specs.declared.Ctl.{Ctl}
use Rattle.risc_word.specs.declared.Instr.{Instr}
use Rattle.risc_word.specs.Words.{encoded}
use Rattle.fifo_model.specs.declared.Queue.{Queue}
use Rattle.fifo_model.specs.declared.Queue.TheVariants.{One, Two, Three}
use Rattle.fifo_model.specs.Queues.{Queues, queue_state}
use Rattle.picture_model.proofs.Each.{Each, each_append, each_only}
use Rattle.machine_model.specs.declared.Job.{Job}
use Rattle.machine_model.specs.declared.Job.TheVariants.{Idle, Waiting, Running}
use Rattle.machine_model.specs.declared.Skipping.{Skipping}
use Rattle.machine_model.specs.declared.Skipping.TheVariants.{Nothing}
use Rattle.machine_model.specs.Paths.{RiscProgram}
use Rattle.risc_word.specs.Parts.{instr_ends}
use Rattle.machine_model.specs.States.{State}
use Rattle.machine_model.specs.Turns.{demand_on}
use Rattle.field_law.specs.Sections.{HoldsFrom, words_in}
use Rattle.damage_model.specs.Lines.{make_line}
use Rattle.damage_model.specs.Marks.{addresses_from, is_among}
use Rattle.damage_map.specs.declared.mark.LineMark.{LineMark}
use Rattle.damage_map.specs.declared.mark.LineMark.TheVariants.{Fresh}
use Rattle.damage_map.specs.declared.mark.LineMarks.{LineMarks}
use Rattle.damage_map.specs.Tracks.{FieldTrack, fresh, is_good, is_whole, mark_on, max_lines, noted, through}
use Rattle.damage_law.proofs.LineTold.{Tells, tells-good}
use Rattle.damage_law.proofs.Bursts.{Needs}
use Rattle.damage_law.proofs.Sections.{AreBelow, AreParts, IsCut, LineGoes, Part, Cut, Past, TakenBelow, addresses_from_here, below_more}
use Rattle.damage_law.proofs.Sections.{instrs_of, is_none, lines_at, none_yet, taken_more, takes_in, whole_over}

-- before a line's first instruction no queue is moved; before a later one each that the line moves is
abbrev pub IsBegun : Bool → Bool → LineMark → Type 0
IsBegun true moved mark = mark ≡ Fresh
IsBegun false moved mark = moved ≡ true → mark ≡ Fresh → ⊥

-- the lines that are through, and what was taken so far
pub record Through (past : Past) (lines_whole : List Bool) (lines : List (List ℕ)) (here limit : ℕ) : Type 0 where
  pub told : lines_whole ≡ map (whole_over past) lines
  pub below : Each (AreBelow here) lines
  pub taken : (q : Queue) → TakenBelow limit (past.takes q)
  pub retired : AreBelow here past.retired

-- the line under way: an instruction of it was lost, or the marks are true of its queues
abbrev pub IsTold : Bool → Past → (Queue → ℕ) → Queues → LineMarks → List ℕ → List ℕ → Type 0
IsTold true past gone queues marks done line = list_all (is_among past.retired) done ≡ false
IsTold false past gone queues marks done line =
    (list_all (is_among past.retired) done ≡ true)
    × ((q : Queue) → Tells (gone q) (queue_state q queues) (takes_in line (past.takes q)) (mark_on q marks))

-- between lines the machine is about to fetch, or waits
abbrev pub GapJob : ℕ → ℕ → Job → Type 0
GapJob here pc Idle = pc ≡ here
GapJob here pc (Waiting ctl resync code) = pc ≡ here
GapJob here pc (Running instr ds) = ⊥

-- within a line it is about to fetch, or an instruction runs
abbrev pub LineJob : ℕ → Bool → (Queue → Bool) → Instr → ℕ → Skipping → Bool → LineMarks → Job → Type 0
LineJob here begins moved instr pc skipping lost marks Idle =
    (pc ≡ here) × (skipping ≡ Nothing → lost ≡ false) × (lost ≡ false → (q : Queue) → IsBegun begins (moved q) (mark_on q marks))
LineJob here begins moved instr pc skipping lost marks (Waiting ctl resync code) = ⊥
LineJob here begins moved instr pc skipping lost marks (Running runs ds) =
    (runs ≡ instr) × (pc ≡ here + 4 * length (encoded instr)) × (lost ≡ false)
    × ((q : Queue) → Needs (moved q) (mark_on q marks) (demand_on q ds))

-- with the same job at the same place
pub gap_job-same : (here : ℕ) (m after : State) → after.job ≡ m.job → after.pc ≡ m.pc → GapJob here m.pc m.job →
    GapJob here after.pc after.job
gap_job-same here m after j p job =
    subst (λ (job : Job). GapJob here after.pc job) (sym j) (subst (λ (pc : ℕ). GapJob here pc m.job) (sym p) job)

pub line_job-same : (here : ℕ) (begins : Bool) (moved : Queue → Bool) (instr : Instr) (lost : Bool) (marks : LineMarks) (m after : State) →
    after.job ≡ m.job → after.pc ≡ m.pc → after.skipping ≡ m.skipping →
    LineJob here begins moved instr m.pc m.skipping lost marks m.job →
    LineJob here begins moved instr after.pc after.skipping lost marks after.job
line_job-same here begins moved instr lost marks m after j p s job =
    subst (λ (job : Job). LineJob here begins moved instr after.pc after.skipping lost marks job) (sym j)
    (subst (λ (pc : ℕ). LineJob here begins moved instr pc after.skipping lost marks m.job) (sym p)
    (subst (λ (skipping : Skipping). LineJob here begins moved instr m.pc skipping lost marks m.job) (sym s) job))

pub fresh_on : (q : Queue) → mark_on q fresh ≡ Fresh
fresh_on One = refl
fresh_on Two = refl
fresh_on Three = refl

module _ (program : RiscProgram) (closing : Ctl) (target end : ℕ) (all : List (List ℕ)) where
  pub record InGap (m : State) (t : FieldTrack) (past : Past) : Type 0 where
    pub here : ℕ
    pub lines : List (List ℕ)
    pub parts : List Part
    pub whole : all ≡ lines ++ lines_at here parts
    pub stands : HoldsFrom program here (instrs_of parts) closing target
    pub ends : here + 4 * words_in (instrs_of parts) ≡ end
    pub are : AreParts parts
    pub through : Through past t.lines lines here here
    pub fresh : t.marks ≡ fresh
    pub unlost : t.lost ≡ false
    pub job : GapJob here m.pc m.job

  pub record InLine (m : State) (t : FieldTrack) (past : Past) (gone : Queue → ℕ) : Type 0 where
    pub here : ℕ
    pub lines : List (List ℕ)
    pub parts : List Part
    pub done : List ℕ
    pub begins : Bool
    pub moved : Queue → Bool
    pub instr : Instr
    pub rest : List Instr
    pub whole : all ≡ lines ++ ((done ++ addresses_from here (instr ∷ rest)) ∷ lines_at (here + 4 * words_in (instr ∷ rest)) parts)
    pub stands : HoldsFrom program here (instr ∷ (rest ++ instrs_of parts)) closing target
    pub ends : here + 4 * words_in (instr ∷ (rest ++ instrs_of parts)) ≡ end
    pub goes : LineGoes begins moved (instr ∷ rest)
    pub are : AreParts parts
    pub through : Through past t.lines lines here (here + 1)
    pub before : AreBelow here done
    pub told : IsTold t.lost past gone m.queues t.marks done (done ++ addresses_from here (instr ∷ rest))
    pub job : LineJob here begins moved instr m.pc m.skipping t.lost t.marks m.job

  abbrev pub Visit : State → FieldTrack → Past → (Queue → ℕ) → Type 0
  Visit m t past gone = InGap m t past ⊎ InLine m t past gone

  -- ---- the machine stays where it is

  pub gap_stays : (m after : State) (t : FieldTrack) (marks : LineMarks) (past : Past) (g : InGap m t past) → marks ≡ fresh →
      GapJob g.here after.pc after.job →
      InGap after (record t { marks = marks }) past
  gap_stays m after t marks past g are_fresh job =
      record {
        here = g.here;
        lines = g.lines;
        parts = g.parts;
        whole = g.whole;
        stands = g.stands;
        ends = g.ends;
        are = g.are;
        through = g.through;
        fresh = are_fresh;
        unlost = g.unlost;
        job = job;
      }

  pub line_stays : (m after : State) (t : FieldTrack) (marks : LineMarks) (past next : Past) (gone next_gone : Queue → ℕ)
      (l : InLine m t past gone) → Through next t.lines l.lines l.here (l.here + 1) →
      IsTold t.lost next next_gone after.queues marks l.done (l.done ++ addresses_from l.here (l.instr ∷ l.rest)) →
      LineJob l.here l.begins l.moved l.instr after.pc after.skipping t.lost marks after.job →
      InLine after (record t { marks = marks }) next next_gone
  line_stays m after t marks past next gone next_gone l through told job =
      record {
        here = l.here;
        lines = l.lines;
        parts = l.parts;
        done = l.done;
        begins = l.begins;
        moved = l.moved;
        instr = l.instr;
        rest = l.rest;
        whole = l.whole;
        stands = l.stands;
        ends = l.ends;
        goes = l.goes;
        are = l.are;
        through = through;
        before = l.before;
        told = told;
        job = job;
      }

  -- ---- a line begins

  pub enters : (m : State) (t : FieldTrack) (past : Past) (gone : Queue → ℕ) (g : InGap m t past) (moved : Queue → Bool) (line : List Instr)
      (rest : List Part) → m.job ≡ Idle →
      g.parts ≡ Cut moved line ∷ rest → InLine m t past gone
  enters m t past gone g moved line rest j is =
      entered g.here g.lines (subst (λ (ps : List Part). all ≡ g.lines ++ lines_at g.here ps) is g.whole)
      (subst (λ (ps : List Part). HoldsFrom program g.here (instrs_of ps) closing target) is g.stands)
      (subst (λ (ps : List Part). g.here + 4 * words_in (instrs_of ps) ≡ end) is g.ends) (subst AreParts is g.are) g.through
      (subst (λ (job : Job). GapJob g.here m.pc job) j g.job)
    where
      entered : (here : ℕ) (lines : List (List ℕ)) → all ≡ lines ++ (addresses_from here line ∷ lines_at (here + 4 * words_in line) rest) →
          HoldsFrom program here (line ++ instrs_of rest) closing target → here + 4 * words_in (line ++ instrs_of rest) ≡ end →
          IsCut moved line × AreParts rest → Through past t.lines lines here here → m.pc ≡ here → InLine m t past gone
      entered here lines whole stands ends are through there =
          let first = are.0.first in
          let more = are.0.rest in
          let some = are.0.some in
          let addresses = addresses_from here (first ∷ more) in
          let lost = g.unlost in
          record {
            here = here;
            lines = lines;
            parts = rest;
            done = [];
            begins = true;
            moved = moved;
            instr = first;
            rest = more;
            whole = subst (λ (l : List Instr). all ≡ lines ++ (addresses_from here l ∷ lines_at (here + 4 * words_in l) rest)) some whole;
            stands = subst (λ (l : List Instr). HoldsFrom program here (l ++ instrs_of rest) closing target) some stands;
            ends = subst (λ (l : List Instr). here + 4 * words_in (l ++ instrs_of rest) ≡ end) some ends;
            goes = subst (λ (l : List Instr). LineGoes true moved l) some are.0.goes;
            are = are.1;
            through = record {
              told = through.told;
              below = through.below;
              taken = λ q. taken_more here (here + 1) (past.takes q) (omega arith) (through.taken q);
              retired = through.retired;
            };
            before = tt;
            told =
                subst (λ (b : Bool). IsTold b past gone m.queues t.marks [] addresses) (sym lost) (
                  refl,
                  λ q.
                      subst (λ (mark : LineMark). Tells (gone q) (queue_state q m.queues) (takes_in addresses (past.takes q)) mark)
                      (sym (ap (mark_on q) g.fresh ∙ fresh_on q))
                      (none_yet here addresses (past.takes q) (through.taken q) (addresses_from_here here (first ∷ more))),
                );
            job =
                subst (λ (job : Job). LineJob here true moved first m.pc m.skipping t.lost t.marks job) (sym j)
                (there, λ same. lost, λ same q. ap (mark_on q) g.fresh ∙ fresh_on q);
          }

  -- ---- an instruction is done with

  -- what is known behind it, before a line that it ends is noted
  pub record Behind (after : State) (t : FieldTrack) (past : Past) (gone : Queue → ℕ) (here : ℕ) (lines : List (List ℕ)) (done : List ℕ)
      (moved : Queue → Bool) (instr : Instr) (line : List ℕ) : Type 0 where
    pub idle : after.job ≡ Idle
    pub there : after.pc ≡ here + 4 * length (encoded instr)
    pub unskipped : (instr_ends instr).eol ≡ false → after.skipping ≡ Nothing → t.lost ≡ false
    pub told_lines : t.lines ≡ map (whole_over past) lines
    pub taken : (q : Queue) → TakenBelow (here + 1) (past.takes q)
    pub retired : AreBelow (here + 1) past.retired
    pub told : IsTold t.lost past gone after.queues t.marks (done ++ here ∷ []) line
    pub begun : t.lost ≡ false → (q : Queue) → moved q ≡ true → mark_on q t.marks ≡ Fresh → ⊥

  whole_line : (lost : Bool) (t : FieldTrack) (past : Past) (gone : Queue → ℕ) (queues : Queues) (line : List ℕ) → t.lost ≡ lost →
      IsTold lost past gone queues t.marks line line → is_whole t ≡ whole_over past line
  whole_line true t past gone queues line is told =
      ap (λ (b : Bool). not b && is_good t.marks.one && is_good t.marks.two && is_good t.marks.three) is
      ∙ sym (ap (λ (b : Bool). b && make_line (takes_in line (past.takes One)) && make_line (takes_in line (past.takes Two))
      && make_line (takes_in line (past.takes Three))) told)
  whole_line false t past gone queues line is told =
      let good =
      λ (q : Queue). sym (tells-good (gone q) (queue_state q queues) (takes_in line (past.takes q)) (mark_on q t.marks) (told.1 q)) in
      ap₂ (λ (x y : Bool). x && y)
      (ap₂ (λ (x y : Bool). x && y)
      (ap₂ (λ (x y : Bool). x && y) (ap not is ∙ sym told.0) (good One)) (good Two)) (good Three)

  few_through : (lines more : List (List ℕ)) (line : List ℕ) → length all ≤ max_lines → all ≡ lines ++ (line ∷ more) →
      length lines < max_lines
  few_through lines more line few whole =
      let count : length all ≡ length lines + suc (length more) = ap length whole ∙ length-append lines (line ∷ more) in omega arith

  noted_whole : (t : FieldTrack) (past : Past) (lines : List (List ℕ)) (line : List ℕ) → t.lines ≡ map (whole_over past) lines →
      length lines < max_lines → is_whole t ≡ whole_over past line →
      noted (is_whole t) t.lines ≡ map (whole_over past) (lines ++ line ∷ [])
  noted_whole t past lines line told few is =
      let count : length t.lines ≡ length lines = ap length told ∙ length-map lines (whole_over past) in
      cond-true (nat_lt (length t.lines) max_lines) (t.lines ++ is_whole t ∷ []) t.lines (lt-ltb (length t.lines) max_lines (omega arith))
      ∙ ap₂ (λ (ls : List Bool) (b : Bool). ls ++ b ∷ []) told is ∙ sym (map-append (whole_over past) lines (line ∷ []))

  each_below_more : (here more : ℕ) (lines : List (List ℕ)) → here ≤ more → Each (AreBelow here) lines → Each (AreBelow more) lines
  each_below_more here more lines less below =
      each_only (AreBelow here) (AreBelow more) lines (λ line is. below_more here more line less is) below

  module _ (few : length all ≤ max_lines) (after : State) (t : FieldTrack) (past : Past) (gone : Queue → ℕ) (here : ℕ)
      (lines : List (List ℕ)) (done : List ℕ) (moved : Queue → Bool) (instr : Instr)
      (parts : List Part) (are : AreParts parts) (below : Each (AreBelow here) lines) (before : AreBelow here done)
      (some : 0 < length (encoded instr)) where
    abbrev next : ℕ
    next = here + 4 * length (encoded instr)

    done_below : AreBelow next (done ++ here ∷ [])
    done_below = each_append (λ a. a < next) done (here ∷ []) (below_more here next done (omega arith) before) (omega arith, tt)

    -- it ended its line
    ends_there : Behind after t past gone here lines done moved instr (done ++ addresses_from here (instr ∷ [])) →
        all ≡ lines ++ ((done ++ addresses_from here (instr ∷ [])) ∷ lines_at (here + 4 * words_in (instr ∷ [])) parts) →
        HoldsFrom program next (instrs_of parts) closing target →
        next + 4 * words_in (instrs_of parts) ≡ end → InGap after (through true t) past
    ends_there b whole stands ends =
        let line = done ++ here ∷ [] in
        let same : here + 4 * words_in (instr ∷ []) ≡ next = omega arith in
        record {
          here = next;
          lines = lines ++ line ∷ [];
          parts = parts;
          whole =
              subst (λ (n : ℕ). all ≡ lines ++ (line ∷ lines_at n parts)) same whole
              ∙ sym (append_assoc lines (line ∷ []) (lines_at next parts));
          stands = stands;
          ends = ends;
          are = are;
          through = record {
            told =
                noted_whole t past lines line b.told_lines
                (few_through lines (lines_at (here + 4 * words_in (instr ∷ [])) parts) line few whole)
                (whole_line t.lost t past gone after.queues line refl b.told);
            below = each_append (AreBelow next) lines (line ∷ []) (each_below_more here next lines (omega arith) below) (done_below, tt);
            taken = λ q. taken_more (here + 1) next (past.takes q) (omega arith) (b.taken q);
            retired = below_more (here + 1) next past.retired (omega arith) b.retired;
          };
          fresh = refl;
          unlost = refl;
          job = subst (λ (job : Job). GapJob next after.pc job) (sym b.idle) b.there;
        }

    -- the line goes on
    goes_there : (instr' : Instr) (rest : List Instr) →
        Behind after t past gone here lines done moved instr (done ++ addresses_from here (instr ∷ instr' ∷ rest)) →
        (instr_ends instr).eol ≡ false →
        all
        ≡ lines ++ ((done ++ addresses_from here (instr ∷ instr' ∷ rest)) ∷ lines_at (here + 4 * words_in (instr ∷ instr' ∷ rest)) parts) →
        HoldsFrom program next (instr' ∷ (rest ++ instrs_of parts)) closing target →
        next + 4 * words_in (instr' ∷ (rest ++ instrs_of parts)) ≡ end → LineGoes false moved (instr' ∷ rest) →
        InLine after t past gone
    goes_there instr' rest b on whole stands ends goes =
        let same : here + 4 * words_in (instr ∷ instr' ∷ rest) ≡ next + 4 * words_in (instr' ∷ rest) = omega arith in
        let line : done ++ addresses_from here (instr ∷ instr' ∷ rest) ≡ (done ++ here ∷ []) ++ addresses_from next (instr' ∷ rest) =
        sym (append_assoc done (here ∷ []) (addresses_from next (instr' ∷ rest))) in
        record {
          here = next;
          lines = lines;
          parts = parts;
          done = done ++ here ∷ [];
          begins = false;
          moved = moved;
          instr = instr';
          rest = rest;
          whole = whole ∙ ap₂ (λ (l : List ℕ) (n : ℕ). lines ++ (l ∷ lines_at n parts)) line same;
          stands = stands;
          ends = ends;
          goes = goes;
          are = are;
          through = record {
            told = b.told_lines;
            below = each_below_more here next lines (omega arith) below;
            taken = λ q. taken_more (here + 1) (next + 1) (past.takes q) (omega arith) (b.taken q);
            retired = below_more (here + 1) next past.retired (omega arith) b.retired;
          };
          before = done_below;
          told = subst (λ (l : List ℕ). IsTold t.lost past gone after.queues t.marks (done ++ here ∷ []) l) line b.told;
          job =
              subst (λ (job : Job). LineJob next false moved instr' after.pc after.skipping t.lost t.marks job) (sym b.idle)
              (b.there, b.unskipped on, b.begun);
        }

    pub advance : (rest : List Instr) → Behind after t past gone here lines done moved instr (done ++ addresses_from here (instr ∷ rest)) →
        (instr_ends instr).eol ≡ is_none rest →
        all ≡ lines ++ ((done ++ addresses_from here (instr ∷ rest)) ∷ lines_at (here + 4 * words_in (instr ∷ rest)) parts) →
        HoldsFrom program next (rest ++ instrs_of parts) closing target →
        next + 4 * words_in (rest ++ instrs_of parts) ≡ end → LineGoes false moved rest → Visit after (through (is_none rest) t) past gone
    advance [] b last whole stands ends goes = inl (ends_there b whole stands ends)
    advance (instr' ∷ rest) b last whole stands ends goes = inr (goes_there instr' rest b last whole stands ends goes)
