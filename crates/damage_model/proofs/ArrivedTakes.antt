-- While a field arrives, a burst to a queue only takes bytes, and the last entry of a line is taken to its end exactly
-- where nothing more is asked of the queue in the line.
use Rattle.std.proofs.Common.{◌≡◌, ℕ, zero, suc, ◌+◌, ◌-◌, ◌<◌, ◌⊎◌, inl, inr, min, Bool, true, false, ◌&&◌, ◌==◌, List, [], ◌∷◌, ◌++◌}
use Rattle.std.proofs.Common.{drop, length, length-drop, Option, Some, None, if◌then◌else◌}
use Rattle.std.proofs.Common.{refl, sym, ap, ◌∙◌, subst, arith, eqb-true}
use Rattle.std.specs.List.{list_any}
use Rattle.std.proofs.lemmas.Bool.{eqb-false, or_cases, or_from, or_parts}
use Rattle.risc_word.specs.declared.Instr.{Instr}
use Rattle.sync_status.specs.declared.Verdict.{Verdict}
use Rattle.sync_status.specs.declared.Verdict.TheVariants.{Take}
use Rattle.sync_status.specs.Statuses.{is_end, kind_of, valid_bytes}
use Rattle.fifo_model.specs.declared.Entry.{Entry}
use Rattle.fifo_model.specs.declared.Queue.{Queue}
use Rattle.fifo_model.specs.declared.Queue.TheVariants.{One, Two, Three}
use Rattle.fifo_model.specs.Queues.{QueueState, front, queue_state}
use Rattle.page_table.specs.Blocks.{Block}
use Rattle.machine_model.specs.declared.Demand.{Demand}
use Rattle.machine_model.specs.declared.Demands.{Demands}
use Rattle.machine_model.specs.declared.Job.{Job}
use Rattle.machine_model.specs.declared.Job.TheVariants.{Running}
use Rattle.machine_model.specs.States.{State}
use Rattle.machine_model.specs.Turns.{Store, apply_in, burst, demand_less, demand_on, ended, judged, served, took, verdict_at, with_demand}
use Rattle.machine_model.specs.Seen.{Application, application_in, applications, discards_reserved, discards_reserved_by, ends, ends_by}
use Rattle.machine_model.specs.Seen.{gives_up, gives_up_by, served_application, takes, takes_by}
use Rattle.field_law.specs.Arrivals.{is_queue}
use Rattle.field_law.specs.Fields.{Mark, Row, Token, carried, is_ending}
use Rattle.field_law.specs.Sections.{Ask, Await, Begin, GoOn, IsUsedUp, UsesTo, ask_of, asks}
use Rattle.field_law.proofs.Lines.{Follows, ending-UnderWay, part-last, part-length}
use Rattle.field_law.proofs.Running.{some_rest}
use Rattle.field_law.proofs.AskedAndToCome.{AnyRest, Front, Takes, application, front as front_of}
use Rattle.field_law.proofs.Within.{IsMade, IsWithin, WithinJob, front_entries, judged-Within}

-- how many bytes are still asked of a queue in the line under way
abbrev pub left_in_line : List Ask → ℕ
left_in_line [] = 0
left_in_line (Await code ∷ rest) = 0
left_in_line (Begin count address ∷ rest) = 0
left_in_line (GoOn count address ∷ rest) = count + left_in_line rest

long_by : (line : List ℕ) → line ≡ [] → length line ≡ 0
long_by line none = ap (λ (bytes : List ℕ). length bytes) none

line_long : (list : List Ask) (line : List ℕ) (tokens : List Token) → UsesTo IsUsedUp list line tokens → length line ≡ left_in_line list
line_long [] line tokens uses = long_by line uses.0
line_long (Await code ∷ rest) line [] uses = absurd uses
line_long (Await code ∷ rest) line (Mark seen ∷ tokens) uses = long_by line uses.0
line_long (Await code ∷ rest) line (Row bytes ∷ tokens) uses = absurd uses
line_long (Begin count address ∷ rest) line [] uses = absurd uses
line_long (Begin count address ∷ rest) line (Mark seen ∷ tokens) uses = absurd uses
line_long (Begin count address ∷ rest) line (Row bytes ∷ tokens) uses = long_by line uses.0
line_long (GoOn count address ∷ rest) line tokens uses =
    let later = line_long rest (drop count line) tokens uses.1 in let enough = uses.0 in omega (arith, length-drop count line)

-- ---- the front of a queue

ending_some : (rest : List Entry) → is_ending rest ≡ true → 0 < length (carried rest)
ending_some [] is = cc
ending_some (entry ∷ rest) is =
    let way = ending-UnderWay (entry ∷ rest) is in
    let some = way.1.some in
    omega (arith, part-length 0 (carried (entry ∷ rest)) entry rest way.1)

more_follows : (last : Bool) (more : List ℕ) (rest : List Entry) → last ≡ false → Follows last more rest → 0 < length more
more_follows true more rest is follows = cc
more_follows false more rest is follows = subst (λ (bytes : List ℕ). 0 < length bytes) follows.1 (ending_some rest follows.0)

module _ (sol : Bool) (count : ℕ) (address : Option ℕ) (list : List Ask) (stores : List Store) (left taken : ℕ) (ahead : List Entry)
    (f : Front IsUsedUp AnyRest sol count address list stores left taken ahead) where
  abbrev taking : ℕ
  taking = min count (valid_bytes f.entry.status - taken)

  long : length f.line ≡ count + left_in_line list
  long = let enough = f.enough in omega (arith, line_long list (drop count f.line) f.tokens f.uses, length-drop count f.line)

  -- a line's last entry to its end
  line_ends : is_end (kind_of f.entry.status) ≡ true → taken + taking ≡ valid_bytes f.entry.status →
      (count - taking) + left_in_line list ≡ 0
  unfolding long
  line_ends last whole =
      let all = long in
      let rest = part-last taken f.line f.entry f.half f.part last in
      let there = f.part.some in
      omega arith

  -- less
  line_goes : (last whole : Bool) → is_end (kind_of f.entry.status) ≡ last → (taken + taking == valid_bytes f.entry.status) ≡ whole →
      (last && whole) ≡ false → 0 < (count - taking) + left_in_line list
  line_goes true true is_last is_whole on = cc
  line_goes false true is_last is_whole on =
      let all = long in
      let rest = part-length taken f.line f.entry f.half f.part in
      let more = more_follows (is_end (kind_of f.entry.status)) f.part.more f.half is_last f.part.follows in
      let whole = eqb-true (taken + taking) (valid_bytes f.entry.status) is_whole in
      let there = f.part.some in
      omega arith
  line_goes last false is_last is_whole on =
      let all = long in
      let rest = part-length taken f.line f.entry f.half f.part in
      let part : taken + taking ≡ valid_bytes f.entry.status → ⊥ = eqb-false (taken + taking) (valid_bytes f.entry.status) is_whole in
      let there = f.part.some in
      omega arith

-- ---- demands

pub demand_there : (q : Queue) (d : Demand) (ds : Demands) → demand_on q (with_demand q d ds) ≡ d
demand_there One d ds = refl
demand_there Two d ds = refl
demand_there Three d ds = refl

pub demand_apart : (p q : Queue) (d : Demand) (ds : Demands) → is_queue p q ≡ false → demand_on p (with_demand q d ds) ≡ demand_on p ds
demand_apart One One d ds apart = cc
demand_apart One Two d ds apart = refl
demand_apart One Three d ds apart = refl
demand_apart Two One d ds apart = refl
demand_apart Two Two d ds apart = cc
demand_apart Two Three d ds apart = refl
demand_apart Three One d ds apart = refl
demand_apart Three Two d ds apart = refl
demand_apart Three Three d ds apart = cc

-- ---- bursts within a section, behind whose instruction this is its body

module _ (Stands : ℕ → List Instr → Type 0) (Comes : List Block → (Queue → List Store) → Type 0) (later : Queue → List Entry)
    (comes_made : IsMade Comes)
    (pc : ℕ) (body : List Instr) (only : (other : List Instr) → Stands pc other → other ≡ body) (q : Queue) (instr : Instr) where
  abbrev pub left_on : Demands → ℕ
  left_on ds = left_in_line (ask_of (demand_on q ds) ∷ asks q body)

  -- what a burst did, by its applications
  pub record Took (ds : Demands) (after : State) (made : List Application) : Type 0 where
    pub left : Demands
    pub job : after.job ≡ Running instr left
    pub there : after.pc ≡ pc
    pub others : (p : Queue) → is_queue p q ≡ false → demand_on p left ≡ demand_on p ds
    pub reserved : list_any discards_reserved made ≡ false
    pub gave : list_any gives_up made ≡ false
    pub some : list_any takes made ≡ true → 0 < (demand_on q ds).rest
    pub none : list_any takes made ≡ false → (list_any ends made ≡ false) × (left ≡ ds)
    pub ended : list_any ends made ≡ true → left_on left ≡ 0
    pub unended : list_any takes made ≡ true → list_any ends made ≡ false → 0 < left_on left

  nothing : (ds : Demands) (m : State) → m.job ≡ Running instr ds → m.pc ≡ pc → Took ds m []
  nothing ds m j at =
      record {
        left = ds;
        job = j;
        there = at;
        others = λ p apart. refl;
        reserved = refl;
        gave = refl;
        some = λ took_some. cc;
        none = λ took_none. (refl, refl);
        ended = λ ends_there. cc;
        unended = λ took_some unended_there. cc;
      }

  -- one application, and then the others
  module _ (ds : Demands) (count : ℕ) (a : Application) (takes_it : takes a ≡ true) (keeps_it : discards_reserved a ≡ false)
      (stays : gives_up a ≡ false) (some_asked : 0 < (demand_on q ds).rest) where
    abbrev after_one : Demands
    after_one = with_demand q (demand_less count (demand_on q ds)) ds

    less : demand_on q after_one ≡ demand_less count (demand_on q ds)
    less = demand_there q (demand_less count (demand_on q ds)) ds

    left_less : left_on after_one ≡ ((demand_on q ds).rest - count) + left_in_line (asks q body)
    left_less = ap (λ (d : Demand). left_in_line (ask_of d ∷ asks q body)) less

    then_others : (after : State) (made : List Application) → (ends a ≡ true → left_on after_one ≡ 0) →
        (ends a ≡ false → 0 < left_on after_one) → Took after_one after made → Took ds after (a ∷ made)
    then_others after made one_ends one_goes r =
        record {
          left = r.left;
          job = r.job;
          there = r.there;
          others = λ p apart. r.others p apart ∙ demand_apart p q (demand_less count (demand_on q ds)) ds apart;
          reserved = or_from (discards_reserved a) (list_any discards_reserved made) keeps_it r.reserved;
          gave = or_from (gives_up a) (list_any gives_up made) stays r.gave;
          some = λ took_some. some_asked;
          none = λ took_none. let never = (or_parts (takes a) (list_any takes made) took_none).0 in cc;
          ended = λ any. ends_by_one (ends a) (list_any takes made) refl refl (or_cases (ends a) (list_any ends made) any);
          unended = λ any none. goes_by_others (list_any takes made) refl (or_parts (ends a) (list_any ends made) none);
        }
      where
        ends_by_one : (e later_takes : Bool) → ends a ≡ e → list_any takes made ≡ later_takes →
            (ends a ≡ true) ⊎ (list_any ends made ≡ true) → left_on r.left ≡ 0
        ends_by_one e later_takes is takes_is (inr last) = r.ended last
        ends_by_one e false is takes_is (inl here) = ap left_on (r.none takes_is).1 ∙ one_ends here
        ends_by_one e true is takes_is (inl here) =
            let zero_left = one_ends here in
            let none_left : (demand_on q ds).rest - count ≡ 0 = omega (arith, left_less) in
            let more = r.some takes_is in
            let rest : (demand_on q after_one).rest ≡ (demand_on q ds).rest - count = ap (λ (d : Demand). d.rest) less in
            absurd (omega arith)

        goes_by_others : (later_takes : Bool) → list_any takes made ≡ later_takes → (ends a ≡ false) × (list_any ends made ≡ false) →
            0 < left_on r.left
        goes_by_others false takes_is none = subst (λ (left : Demands). 0 < left_on left) (sym (r.none takes_is).1) (one_goes none.0)
        goes_by_others true takes_is none = r.unended takes_is none.1

  module _ (n : ℕ) (on : (bound : ℕ) (ds : Demands) (m : State) → m.job ≡ Running instr ds → m.pc ≡ pc →
      IsWithin IsUsedUp AnyRest Stands Comes later bound m → Took ds (burst n q m) (applications n q m))
      (bound : ℕ) (ds : Demands) (m : State) (j : m.job ≡ Running instr ds) (at : m.pc ≡ pc)
      (h : WithinJob IsUsedUp AnyRest Stands Comes later bound (Running instr ds) m) where
    abbrev held : QueueState
    held = queue_state q m.queues

    abbrev After : List Application → Option State → Type 0
    After made next =
        Took ds (elim next as (λ _. State) [ None ↦ m | Some after ↦ burst n q after ])
        (made ++ (elim next as (λ _. List Application) [ None ↦ [] | Some after ↦ applications n q after ]))

    module _ (entry : Entry) (es : List Entry) (there : front held ≡ Some entry) (split : held.entries ≡ entry ∷ es)
        (some : 0 < (demand_on q ds).rest) where
      abbrev a : Application
      a = record { entry = entry; taken = held.taken; demand = demand_on q ds }

      same_body : h.body ≡ body
      same_body = only h.body (subst (λ (n : ℕ). Stands n h.body) at h.stands)

      t : Takes IsUsedUp AnyRest (demand_on q ds) (asks q h.body) (h.stores q) (h.left q) held entry (later q)
      t =
          application IsUsedUp AnyRest (demand_on q ds) (asks q h.body) (h.stores q) (h.left q) held entry (later q) es split some
          (h.outlook q)

      f : Front IsUsedUp AnyRest (demand_on q ds).needs_sol (demand_on q ds).rest (demand_on q ds).address (asks q h.body) (h.stores q)
          (h.left q) held.taken (held.entries ++ later q)
      f =
          front_of IsUsedUp AnyRest (demand_on q ds).needs_sol (demand_on q ds).rest (demand_on q ds).address (asks q h.body) (h.stores q)
          (h.left q) held.taken (held.entries ++ later q) some (h.outlook q)

      same_front : f.entry ≡ entry
      same_front =
          let seen : entry ∷ (es ++ later q) ≡ f.entry ∷ (f.half ++ (f.entries ++ f.rest)) =
          sym (ap (λ (entries : List Entry). entries ++ later q) split) ∙ f.order in cc

      count_is : t.count ≡ min (demand_on q ds).rest (valid_bytes entry.status - held.taken)
      count_is =
          let verdict =
          subst (λ (e : Entry). verdict_at q ds e m ≡ Take (min (demand_on q ds).rest (valid_bytes e.status - held.taken))) same_front
          f.verdict in
          let same : Take t.count ≡ Take (min (demand_on q ds).rest (valid_bytes entry.status - held.taken)) = sym t.verdict ∙ verdict in cc

      abbrev after : State
      after = took q t.count instr ds entry m

      judged_is : judged (verdict_at q ds entry m) q instr ds entry m ≡ after
      judged_is = ap (λ (v : Verdict). judged v q instr ds entry m) t.verdict ∙ ap (λ (cut : Bool). ended cut instr after) t.whole

      ends_is : ends a ≡ (is_end (kind_of entry.status) && held.taken + t.count == valid_bytes entry.status)
      ends_is = ap (λ (v : Verdict). ends_by v a) t.verdict

      abbrev left_behind : ℕ
      left_behind = ((demand_on q ds).rest - t.count) + left_in_line (asks q body)

      last_of : (last whole : Bool) → is_end (kind_of entry.status) ≡ last → (held.taken + t.count == valid_bytes entry.status) ≡ whole →
          (last && whole) ≡ true → left_behind ≡ 0
      last_of true true is_last is_whole ends_here =
          let same = count_is in
          subst (λ (list : List Instr). ((demand_on q ds).rest - t.count) + left_in_line (asks q list) ≡ 0) same_body
          (subst (λ (n : ℕ). ((demand_on q ds).rest - n) + left_in_line (asks q h.body) ≡ 0)
          (ap (λ (e : Entry). min (demand_on q ds).rest (valid_bytes e.status - held.taken)) same_front ∙ sym same)
          (line_ends (demand_on q ds).needs_sol (demand_on q ds).rest (demand_on q ds).address (asks q h.body) (h.stores q)
          (h.left q) held.taken (held.entries ++ later q) f
          (ap (λ (e : Entry). is_end (kind_of e.status)) same_front ∙ is_last)
          (let whole = eqb-true (held.taken + t.count) (valid_bytes entry.status) is_whole in
          let fronts : valid_bytes f.entry.status ≡ valid_bytes entry.status = ap (λ (e : Entry). valid_bytes e.status) same_front in
          omega arith)))
      last_of true false is_last is_whole ends_here = cc
      last_of false whole is_last is_whole ends_here = cc

      goes_of : (is_end (kind_of entry.status) && held.taken + t.count == valid_bytes entry.status) ≡ false → 0 < left_behind
      goes_of goes =
          let same : min (demand_on q ds).rest (valid_bytes f.entry.status - held.taken) ≡ t.count =
          ap (λ (e : Entry). min (demand_on q ds).rest (valid_bytes e.status - held.taken)) same_front ∙ sym count_is in
          subst (λ (list : List Instr). 0 < ((demand_on q ds).rest - t.count) + left_in_line (asks q list)) same_body
          (subst (λ (n : ℕ). 0 < ((demand_on q ds).rest - n) + left_in_line (asks q h.body)) same
          (line_goes (demand_on q ds).needs_sol (demand_on q ds).rest (demand_on q ds).address (asks q h.body) (h.stores q)
          (h.left q) held.taken (held.entries ++ later q) f
          (is_end (kind_of f.entry.status))
          (held.taken + min (demand_on q ds).rest (valid_bytes f.entry.status - held.taken) == valid_bytes f.entry.status) refl refl
          (subst (λ (n : ℕ). (is_end (kind_of f.entry.status) && held.taken + n == valid_bytes f.entry.status) ≡ false) (sym same)
          (subst (λ (e : Entry). (is_end (kind_of e.status) && held.taken + t.count == valid_bytes e.status) ≡ false)
          (sym same_front) goes))))

      next_within : (next : ℕ) × IsWithin IsUsedUp AnyRest Stands Comes later next after
      next_within =
          let fewer = judged-Within IsUsedUp AnyRest Stands Comes later comes_made bound q instr ds entry m h there some in
          (fewer.next, subst (λ (m' : State). IsWithin IsUsedUp AnyRest Stands Comes later fewer.next m') judged_is fewer.within)

      taken_on : After (a ∷ []) (Some (judged (verdict_at q ds entry m) q instr ds entry m))
      taken_on =
          let within = next_within in
          subst (λ (m' : State). After (a ∷ []) (Some m')) (sym judged_is)
          (then_others ds t.count a (ap takes_by t.verdict) (ap (λ (v : Verdict). discards_reserved_by v a) t.verdict)
          (ap (λ (v : Verdict). gives_up_by v a) t.verdict ∙ t.whole) some
          (burst n q after) (applications n q after)
          (λ here. left_less ds t.count a (ap takes_by t.verdict) (ap (λ (v : Verdict). discards_reserved_by v a) t.verdict)
          (ap (λ (v : Verdict). gives_up_by v a) t.verdict ∙ t.whole) some
          ∙ last_of (is_end (kind_of entry.status)) (held.taken + t.count == valid_bytes entry.status) refl refl (sym ends_is ∙ here))
          (λ goes. subst (λ (n : ℕ). 0 < n) (sym (left_less ds t.count a (ap takes_by t.verdict)
          (ap (λ (v : Verdict). discards_reserved_by v a) t.verdict) (ap (λ (v : Verdict). gives_up_by v a) t.verdict ∙ t.whole) some))
          (goes_of (sym ends_is ∙ goes)))
          (on within.0 (with_demand q (demand_less t.count (demand_on q ds)) ds) after refl at within.1))

    at_demand : (entry : Entry) (none : Bool) → front held ≡ Some entry → ((demand_on q ds).rest == 0) ≡ none →
        After (if none then [] else record { entry = entry; taken = held.taken; demand = demand_on q ds } ∷ [])
        (if none then None else Some (judged (verdict_at q ds entry m) q instr ds entry m))
    at_demand entry true there is = nothing ds m j at
    at_demand entry false there is =
        let split = front_entries held.entries entry there in taken_on entry split.0 there split.1 (some_rest (demand_on q ds).rest is)

    at_front : (top : Option Entry) → front held ≡ top → After (served_application top q ds m) (served top q instr ds m)
    at_front None there = nothing ds m j at
    at_front (Some entry) there = at_demand entry ((demand_on q ds).rest == 0) there refl

    one_more : Took ds (burst (suc n) q m) (applications (suc n) q m)
    one_more = subst (λ (job : Job). After (application_in job q m) (apply_in job q m)) (sym j) (at_front (front held) refl)

  pub burst-Took : (n bound : ℕ) (ds : Demands) (m : State) → m.job ≡ Running instr ds → m.pc ≡ pc →
      IsWithin IsUsedUp AnyRest Stands Comes later bound m → Took ds (burst n q m) (applications n q m)
  burst-Took zero bound ds m j at h = nothing ds m j at
  burst-Took (suc n) bound ds m j at h =
      one_more n (burst-Took n) bound ds m j at (subst (λ (job : Job). WithinJob IsUsedUp AnyRest Stands Comes later bound job m) j h)
