-- Turns of the machine while a SYNC waits for its code.
use Rattle.std.proofs.Common.{◌≡◌, ℕ, suc, ◌+◌, ◌*◌, Bool, true, false, not, if◌then◌else◌, List, [], ◌∷◌, ◌++◌, length, Option, Some, None}
use Rattle.std.proofs.Common.{refl, sym, ap, subst, ◌∙◌, arith, ◌⊎◌, inl, inr, eq-eqb}
use Rattle.risc_word.specs.declared.Code.{Code}
use Rattle.risc_word.specs.declared.Ctl.{Ctl}
use Rattle.risc_word.specs.declared.Instr.{Instr}
use Rattle.risc_word.specs.Words.{code_number}
use Rattle.sync_status.specs.declared.StatusKind.{StatusKind}
use Rattle.sync_status.specs.declared.StatusKind.TheVariants.{Control, Start, Pixels, End, Reserved}
use Rattle.sync_status.specs.Statuses.{kind_of, is_control}
use Rattle.fifo_model.specs.declared.Entry.{Entry}
use Rattle.fifo_model.specs.declared.Queue.{Queue}
use Rattle.fifo_model.specs.declared.Queue.TheVariants.{One, Two, Three}
use Rattle.fifo_model.specs.Queues.{QueueState, Queues, first, front, queue_state, removed, all_removed, code_of_kind, front_code_of}
use Rattle.fifo_model.specs.Queues.{front_code}
use Rattle.irq_status.proofs.Laws.{fdsr-applied}
use Rattle.page_table.specs.Blocks.{Block}
use Rattle.machine_model.specs.declared.Job.{Job}
use Rattle.machine_model.specs.declared.Job.TheVariants.{Waiting}
use Rattle.machine_model.specs.States.{State}
use Rattle.machine_model.specs.Turns.{Store, no_code, is_stray, lowest_stray, code_if, common_code, met, code_seen, stray_seen, waited}
use Rattle.field_law.specs.Fields.{Token}
use Rattle.field_law.specs.Sections.{asks}
use Rattle.field_law.specs.Arrivals.{over_queues}
use Rattle.field_law.proofs.AskedAndToCome.{Outlook}
use Rattle.field_law.proofs.Asked.{Shows, outlook_shows, outlook_awaits}
use Rattle.field_law.proofs.Within.{WithinJob, IsWithin}
use Rattle.field_law.proofs.Running.{Turned}

-- ---- fronts

control_kind : (kind : StatusKind) (code : Code) → code_of_kind kind ≡ Some code → not (is_control kind) ≡ false
control_kind (Control seen) code h = refl
control_kind Start code h = cc
control_kind Pixels code h = cc
control_kind (End count) code h = cc
control_kind Reserved code h = cc

pub code_no_stray : (top : Option Entry) (code : Code) → front_code_of top ≡ Some code → no_code top ≡ false
code_no_stray None code h = cc
code_no_stray (Some entry) code h = control_kind (kind_of entry.status) code h

pub empty_no_stray : (entries : List Entry) → entries ≡ [] → no_code (first entries) ≡ false
empty_no_stray [] h = refl
empty_no_stray (entry ∷ entries) h = cc

pub none_stray : (queues : Queues) → ((q : Queue) → is_stray (queue_state q queues) ≡ false) → lowest_stray queues ≡ None
none_stray queues none = chain (is_stray queues.one) (is_stray queues.two) (is_stray queues.three) (none One) (none Two) (none Three)
  where
    chain : (a b c : Bool) → a ≡ false → b ≡ false → c ≡ false →
        (if a then Some One else (if b then Some Two else (if c then Some Three else None))) ≡ None
    chain true b c ea eb ec = cc
    chain false true c ea eb ec = cc
    chain false false true ea eb ec = cc
    chain false false false ea eb ec = refl

-- where a queue has no front there is no common code
pub one_without : (one two three : Option Code) → one ≡ None → code_if one two three ≡ None
one_without None two three h = refl
one_without (Some code) two three h = cc

pub two_without : (one two three : Option Code) → two ≡ None → code_if one two three ≡ None
two_without None two three h = refl
two_without (Some code) None three h = refl
two_without (Some code) (Some two) three h = cc

pub three_without : (one two three : Option Code) → three ≡ None → code_if one two three ≡ None
three_without None two three h = refl
three_without (Some code) None three h = refl
three_without (Some code) (Some two) None h = refl
three_without (Some code) (Some two) (Some three) h = cc

pub all_with : (one two three : Option Code) (code : Code) → one ≡ Some code → two ≡ Some code → three ≡ Some code →
    code_if one two three ≡ Some code
all_with None two three code a b c = cc
all_with (Some one) None three code a b c = cc
all_with (Some one) (Some two) None code a b c = cc
all_with (Some one) (Some two) (Some three) code a b c = a

pub front_without : (held : QueueState) → held.entries ≡ [] → front_code held ≡ None
front_without held e = ap (λ (entries : List Entry). front_code_of (first entries)) e

pub without : (queues : Queues) (q : Queue) → (queue_state q queues).entries ≡ [] → common_code queues ≡ None
without queues One e = one_without (front_code queues.one) (front_code queues.two) (front_code queues.three) (front_without queues.one e)
without queues Two e = two_without (front_code queues.one) (front_code queues.two) (front_code queues.three) (front_without queues.two e)
without queues Three e =
    three_without (front_code queues.one) (front_code queues.two) (front_code queues.three) (front_without queues.three e)

pub each_removed : (P : Queue → QueueState → Type 0) (queues : Queues) → ((q : Queue) → P q (removed (queue_state q queues))) →
    (q : Queue) → P q (queue_state q (all_removed queues))
each_removed P queues all One = all One
each_removed P queues all Two = all Two
each_removed P queues all Three = all Three

pub nothing_ahead : (held later rest : List Entry) (entry : Entry) → held ≡ [] → later ≡ [] → held ++ later ≡ entry ∷ rest → ⊥
nothing_ahead [] [] rest entry a b e = cc
nothing_ahead [] (other ∷ later) rest entry a b e = cc
nothing_ahead (other ∷ held) later rest entry a b e = cc

-- ---- a turn

module _ (Ends : List ℕ → List Token → Type 0) (Rests : List Entry → Type 0) (Stands : ℕ → List Instr → Type 0)
    (Comes : List Block → (Queue → List Store) → Type 0)
    (later : Queue → List Entry) (bound : ℕ) (ctl : Ctl) (resync : Bool) (code : Code)
    (m : State) (j : m.job ≡ Waiting ctl resync code) (h : IsWithin Ends Rests Stands Comes later bound m) where
  waits : WithinJob Ends Rests Stands Comes later bound (Waiting ctl resync code) m
  waits = subst (λ (job : Job). WithinJob Ends Rests Stands Comes later bound job m) j h

  abbrev ShowsAt : Queue → Type 0
  ShowsAt q = Shows Ends Rests code (asks q waits.body) (waits.stores q) (waits.left q) (queue_state q m.queues) (later q)

  shows : (q : Queue) → ((queue_state q m.queues).entries ≡ []) ⊎ ShowsAt q
  shows q =
      outlook_shows Ends Rests code (asks q waits.body) (waits.stores q) (waits.left q) (queue_state q m.queues).taken
      (queue_state q m.queues) (later q) (waits.outlook q)

  not_stray : (q : Queue) → is_stray (queue_state q m.queues) ≡ false
  not_stray q = elim (shows q) [
    | inl none ↦ empty_no_stray (queue_state q m.queues).entries none
    | inr some ↦ code_no_stray (front (queue_state q m.queues)) code some.is_code
  ]

  -- the turn goes by the common code
  goes_by : waited ctl resync code m ≡ code_seen (common_code m.queues) ctl resync code m
  goes_by = ap (λ (stray : Option Queue). stray_seen stray ctl resync code m) (none_stray m.queues not_stray)

  stays : (q : Queue) → (queue_state q m.queues).entries ≡ [] →
      Turned Ends Rests Stands Comes later bound m.interrupts (waited ctl resync code m)
  stays q none =
      let still : waited ctl resync code m ≡ m =
      goes_by ∙ ap (λ (seen : Option Code). code_seen seen ctl resync code m) (without m.queues q none) in
      subst (λ (m' : State). Turned Ends Rests Stands Comes later bound m.interrupts m') (sym still)
      (record {
        next = bound;
        within = h;
        most = omega arith;
        less = λ empty.
            let awaits =
            outlook_awaits Ends Rests code (asks q waits.body) (waits.stores q) (waits.left q) (queue_state q m.queues).taken
            ((queue_state q m.queues).entries ++ later q) (waits.outlook q) in
            let order = awaits.order in
            let none' = empty q in
            absurd (nothing_ahead (queue_state q m.queues).entries (later q) (awaits.entries ++ awaits.rest) awaits.entry none none' order);
        quiet = refl;
      })

  goes_on : ((q : Queue) → ShowsAt q) → Turned Ends Rests Stands Comes later bound m.interrupts (waited ctl resync code m)
  goes_on show =
      let bounded = waits.bounded in
      let one = (show One).less in
      let two = (show Two).less in
      let three = (show Three).less in
      let seen : common_code m.queues ≡ Some code =
      all_with (front_code m.queues.one) (front_code m.queues.two) (front_code m.queues.three) code (show One).is_code (show Two).is_code
      (show Three).is_code in
      let goes : waited ctl resync code m ≡ met true ctl resync m =
      goes_by ∙ ap (λ (seen : Option Code). code_seen seen ctl resync code m) seen
      ∙ ap (λ (same : Bool). met same ctl resync m) (eq-eqb (code_number code) (code_number code) refl) in
      subst (λ (m' : State). Turned Ends Rests Stands Comes later bound m.interrupts m') (sym goes)
      (record {
        next = 5 * suc (length waits.body) + 0 + over_queues (λ q. (show q).entries_left);
        within =
            record {
              on = waits.on;
              unskipped = waits.unskipped;
              body = waits.body;
              stands = waits.stands;
              plain = tt;
              stores = waits.stores;
              left = λ q. (show q).entries_left;
              outlook =
                  each_removed (λ q held. Outlook Ends Rests (asks q waits.body) (waits.stores q) (show q).entries_left held.taken
                  (held.entries ++ later q)) m.queues (λ q. (show q).next);
              comes = waits.comes;
              bounded = omega arith;
            };
        most = omega arith;
        less = λ _. omega arith;
        quiet = fdsr-applied ctl m.interrupts;
      })

  pub waited-Turned : Turned Ends Rests Stands Comes later bound m.interrupts (waited ctl resync code m)
  waited-Turned =
      elim (shows One) [
        | inl none ↦ stays One none
        | inr one ↦ elim (shows Two) [
          | inl none ↦ stays Two none
          | inr two ↦ elim (shows Three) [
            | inl none ↦ stays Three none
            | inr three ↦ goes_on (λ q. by_queue q one two three)
          ]
        ]
      ]
    where
      by_queue : (q : Queue) → ShowsAt One → ShowsAt Two → ShowsAt Three → ShowsAt q
      by_queue One one two three = one
      by_queue Two one two three = two
      by_queue Three one two three = three
