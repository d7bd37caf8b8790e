-- Turns of the machine while an opening waits for its field. Their user states where the machine is behind the opening,
-- what its stores must come to and what may come after the field.
use Rattle.std.proofs.Common.{◌≡◌, ℕ, suc, ◌+◌, ◌*◌, ◌<◌, ◌≤◌, Bool, true, false, ◌==◌, List, [], ◌∷◌, ◌++◌, length, Option, Some, None}
use Rattle.std.proofs.Common.{refl, sym, ap, subst, ◌∙◌, arith, ◌⊎◌, inl, inr, eqb-true, length-append}
use Rattle.std.proofs.lemmas.Bool.{eqb-false}
use Rattle.risc_word.specs.declared.Code.{Code}
use Rattle.risc_word.specs.Words.{code_number}
use Rattle.fifo_model.specs.declared.Entry.{Entry}
use Rattle.fifo_model.specs.declared.Queue.{Queue}
use Rattle.fifo_model.specs.declared.Queue.TheVariants.{One, Two, Three}
use Rattle.fifo_model.specs.Queues.{QueueState, Queues, queue_state, removed, front_code, IsFifo}
use Rattle.irq_status.specs.Register.{fdsr, has}
use Rattle.irq_status.proofs.Laws.{fdsr-applied}
use Rattle.page_table.specs.Blocks.{Block}
use Rattle.machine_model.specs.declared.Job.{Job}
use Rattle.machine_model.specs.declared.Job.TheVariants.{Waiting}
use Rattle.machine_model.specs.declared.Skipping.{Skipping}
use Rattle.machine_model.specs.declared.Skipping.TheVariants.{Nothing}
use Rattle.machine_model.specs.States.{State}
use Rattle.machine_model.specs.Turns.{is_stray, lowest_stray, code_if, common_code, dropped, met, code_seen, stray_seen, waited, Store}
use Rattle.field_law.specs.Fields.{Token, Mark, Brings}
use Rattle.field_law.specs.Sections.{IsUsedUp, UsesField, asks, body_stores}
use Rattle.field_law.specs.Trails.{Trail}
use Rattle.field_law.specs.Arrivals.{over_queues}
use Rattle.field_law.proofs.Changed.{changed, each_queue}
use Rattle.field_law.proofs.AskedAndToCome.{Outlook}
use Rattle.field_law.proofs.Asked.{outlook_at_start}
use Rattle.field_law.proofs.Running.{lowest_some, lowest_none}
use Rattle.field_law.proofs.Waiting.{each_removed}
use Rattle.field_law.proofs.Before.{IsUnmarked, stray-HasFront, code-HasFront, held_code, same_code, Common, code-Common, Dropped, drops}
use Rattle.field_law.proofs.Before.{Opened, opens}
use Rattle.risc_word.specs.declared.Instr.{Instr}
use Rattle.field_law.proofs.Within.{IsWithin}

-- what is there before the field, the field, and what comes after it
pub record Opening (t : Trail) (field : Queue → List Token) (Rests : List Entry → Type 0)
    (Comes : List Block → (Queue → List Store) → Type 0) (later : Queue → List Entry) (bound : ℕ)
    (risc_on : Bool) (pc : ℕ) (skipping : Skipping) (job : Job) (queues : Queues) (memory : List Block) : Type 0 where
  pub on : risc_on ≡ true
  pub unskipped : skipping ≡ Nothing
  pub waits : job ≡ Waiting t.opening true t.code
  pub there : pc ≡ t.at
  pub before : Queue → List Entry
  pub entries : Queue → List Entry
  pub rest : Queue → List Entry
  pub rests : (q : Queue) → Rests (rest q)
  pub order : (q : Queue) → (queue_state q queues).entries ++ later q ≡ before q ++ (entries q ++ rest q)
  pub unmarked : (q : Queue) → IsUnmarked t.code (before q)
  pub brings : (q : Queue) → Brings (Mark t.code ∷ field q) (entries q)
  pub comes : Comes memory (body_stores t.body field)
  pub bounded : 5 * suc (length t.body) + 1 + over_queues (λ q. length (before q) + length (entries q)) ≤ bound

less_before : (q : Queue) (new : List Entry) (before entries : Queue → List Entry) → length (before q) ≡ suc (length new) →
    over_queues (λ p. length (changed q new before p) + length (entries p)) < over_queues (λ p. length (before p) + length (entries p))
less_before One new before entries h = omega arith
less_before Two new before entries h = omega arith
less_before Three new before entries h = omega arith

-- the field is still to come, so something is
field_ahead : (code : Code) (tokens : List Token) (held later before entries rest : List Entry) → later ≡ [] →
    held ++ later ≡ before ++ (entries ++ rest) →
    Brings (Mark code ∷ tokens) entries → held ≡ [] → ⊥
field_ahead code tokens held later before entries rest none order brings empty =
    let long = ap (λ (entries : List Entry). length entries) order in
    let field = ap (λ (entries : List Entry). length entries) brings.2 in
    let zero_held = ap (λ (entries : List Entry). length entries) empty in
    let zero_later = ap (λ (entries : List Entry). length entries) none in
    omega (arith, length-append held later, length-append before (entries ++ rest), length-append entries rest)

some_code : (one two three : Option Code) (a b c : Code) → one ≡ Some a → two ≡ Some b → three ≡ Some c → code_if one two three ≡ None → ⊥
some_code None two three a b c ea eb ec h = cc
some_code (Some one) None three a b c ea eb ec h = cc
some_code (Some one) (Some two) None a b c ea eb ec h = cc
some_code (Some one) (Some two) (Some three) a b c ea eb ec h = cc

module _ (t : Trail) (field : Queue → List Token) (uses : UsesField t.body field) (Rests : List Entry → Type 0)
    (Stands : ℕ → List Instr → Type 0) (Comes : List Block → (Queue → List Store) → Type 0)
    (begins : Stands t.at t.body) (later : Queue → List Entry) where
  abbrev pub IsOpening : ℕ → State → Type 0
  IsOpening bound m = Opening t field Rests Comes later bound m.risc_on m.pc m.skipping m.job m.queues m.memory

  abbrev pub IsReached : ℕ → State → Type 0
  IsReached bound m = IsOpening bound m ⊎ IsWithin IsUsedUp Rests Stands Comes later bound m

  -- what a turn leaves: the opening or the section, by less once all entries are there, and FDSR as it was
  pub record Reaches (bound interrupts : ℕ) (m : State) : Type 0 where
    pub next : ℕ
    pub reached : IsReached next m
    pub most : next ≤ bound
    pub less : ((q : Queue) → later q ≡ []) → next < bound
    pub quiet : has fdsr m.interrupts ≡ has fdsr interrupts

  module _ (bound : ℕ) (m : State) (h : IsOpening bound m) where
    -- an entry before the field is dropped
    drops_one : (q : Queue) → is_stray (queue_state q m.queues) ≡ true → Reaches bound m.interrupts (dropped q true m)
    drops_one q stray =
        let held : QueueState = queue_state q m.queues in
        let front = stray-HasFront held stray in
        let d : Dropped t.code held (later q) (h.before q) (h.entries q) (h.rest q) =
        drops t.code (field q) held (later q) (h.before q) (h.entries q) (h.rest q) None front (λ same. cc) (h.order q) (h.brings q)
        (h.unmarked q) in
        let bounded = h.bounded in
        let less = less_before q d.after h.before h.entries d.less in
        record {
          next = 5 * suc (length t.body) + 1 + over_queues (λ p. length (changed q d.after h.before p) + length (h.entries p));
          reached =
              inl (record {
                on = h.on;
                unskipped = h.unskipped;
                waits = h.waits;
                there = h.there;
                before = changed q d.after h.before;
                entries = h.entries;
                rest = h.rest;
                rests = h.rests;
                order =
                    each_queue (λ p held before. held.entries ++ later p ≡ before ++ (h.entries p ++ h.rest p)) q
                    (removed held) d.after m.queues h.before h.order d.order;
                unmarked =
                    each_queue (λ p held before. IsUnmarked t.code before) q (removed held) d.after m.queues h.before h.unmarked d.unmarked;
                brings = h.brings;
                comes = h.comes;
                bounded = omega arith;
              });
          most = omega arith;
          less = λ _. omega arith;
          quiet = refl;
        }

    -- a code before the field is removed from each queue
    drops_all : ((q : Queue) → Dropped t.code (queue_state q m.queues) (later q) (h.before q) (h.entries q) (h.rest q)) →
        Reaches bound m.interrupts (met false t.opening true m)
    drops_all d =
        let bounded = h.bounded in
        let one = (d One).less in
        let two = (d Two).less in
        let three = (d Three).less in
        record {
          next = 5 * suc (length t.body) + 1 + over_queues (λ q. length (d q).after + length (h.entries q));
          reached =
              inl (record {
                on = h.on;
                unskipped = h.unskipped;
                waits = h.waits;
                there = h.there;
                before = λ q. (d q).after;
                entries = h.entries;
                rest = h.rest;
                rests = h.rests;
                order =
                    each_removed (λ q held. held.entries ++ later q ≡ (d q).after ++ (h.entries q ++ h.rest q)) m.queues (λ q. (d q).order);
                unmarked = λ q. (d q).unmarked;
                brings = h.brings;
                comes = h.comes;
                bounded = omega arith;
              });
          most = omega arith;
          less = λ _. omega arith;
          quiet = refl;
        }

    -- the code that begins the field is removed from each queue
    opens_all : ((q : Queue) → Opened (field q) (queue_state q m.queues) (later q) (h.before q) (h.entries q) (h.rest q)) →
        Reaches bound m.interrupts (met true t.opening true m)
    opens_all o =
        let bounded = h.bounded in
        let one = (o One).less in
        let two = (o Two).less in
        let three = (o Three).less in
        let there = h.there in
        record {
          next = 5 * suc (length t.body) + 0 + over_queues (λ q. length (o q).field);
          reached =
              inr (record {
                on = h.on;
                unskipped = h.unskipped;
                body = t.body;
                stands = subst (λ (at : ℕ). Stands at t.body) (sym h.there) begins;
                plain = tt;
                stores = body_stores t.body field;
                left = λ q. length (o q).field;
                outlook =
                    each_removed (λ q held. Outlook IsUsedUp Rests (asks q t.body) (body_stores t.body field q)
                    (length (o q).field) held.taken (held.entries ++ later q)) m.queues
                    (λ q.
                    subst (λ (ahead : List Entry).
                    Outlook IsUsedUp Rests (asks q t.body) (body_stores t.body field q) (length (o q).field) 0 ahead) (sym (o q).order)
                    (outlook_at_start IsUsedUp Rests (asks q t.body) (field q) (o q).field (h.rest q) (h.rests q) (uses q) (o q).brings));
                comes = h.comes;
                bounded = omega arith;
              });
          most = omega arith;
          less = λ _. omega arith;
          quiet = fdsr-applied t.opening m.interrupts;
        }

    common_front : (seen : Code) → Common m.queues seen → (q : Queue) → front_code (queue_state q m.queues) ≡ Some seen
    common_front seen c One = c.one
    common_front seen c Two = c.two
    common_front seen c Three = c.three

    meets : (seen : Code) → Common m.queues seen → (same : Bool) → (code_number seen == code_number t.code) ≡ same →
        Reaches bound m.interrupts (met same t.opening true m)
    meets seen c true e =
        let same : seen ≡ t.code = same_code seen t.code (eqb-true _ _ e) in
        opens_all (λ q.
        opens t.code (field q) (queue_state q m.queues) (later q) (h.before q) (h.entries q) (h.rest q)
        (code-HasFront (queue_state q m.queues) t.code (common_front seen c q ∙ ap Some same)) (h.order q) (h.brings q) (h.unmarked q))
    meets seen c false e =
        let other : seen ≡ t.code → ⊥ = λ same. eqb-false _ _ e (ap code_number same) in
        drops_all (λ q.
        drops t.code (field q) (queue_state q m.queues) (later q) (h.before q) (h.entries q) (h.rest q) (Some seen)
        (code-HasFront (queue_state q m.queues) seen (common_front seen c q)) (λ same. other cc) (h.order q) (h.brings q) (h.unmarked q))

    -- without a stray front, every queue that is not empty has a code in front
    held_front : lowest_stray m.queues ≡ None → (q : Queue) → later q ≡ [] →
        (code : Code) × (front_code (queue_state q m.queues) ≡ Some code)
    held_front none q empty =
        held_code (queue_state q m.queues).entries
        (lowest_none (λ q. is_stray (queue_state q m.queues)) (is_stray m.queues.one) (is_stray m.queues.two)
        (is_stray m.queues.three) refl refl refl q none)
        (field_ahead t.code (field q) (queue_state q m.queues).entries (later q) (h.before q) (h.entries q) (h.rest q) empty (h.order q)
        (h.brings q))

    sees : (seen : Option Code) → lowest_stray m.queues ≡ None → IsFifo m.queues → common_code m.queues ≡ seen →
        Reaches bound m.interrupts (code_seen seen t.opening true t.code m)
    sees None none fifo e =
        record {
          next = bound;
          reached = inl h;
          most = omega arith;
          less = λ empty.
              let one = held_front none One (empty One) in
              let two = held_front none Two (empty Two) in
              let three = held_front none Three (empty Three) in
              absurd (some_code (front_code m.queues.one) (front_code m.queues.two)
              (front_code m.queues.three) one.0 two.0 three.0 one.1 two.1 three.1 e);
          quiet = refl;
        }
    sees (Some seen) none fifo e = meets seen (code-Common m.queues seen fifo e) _ refl

    waits_for : (stray : Option Queue) → lowest_stray m.queues ≡ stray → IsFifo m.queues →
        Reaches bound m.interrupts (stray_seen stray t.opening true t.code m)
    waits_for (Some q) e fifo =
        drops_one q (lowest_some (λ q. is_stray (queue_state q m.queues)) (is_stray m.queues.one) (is_stray m.queues.two)
        (is_stray m.queues.three) refl refl refl q e)
    waits_for None e fifo = sees (common_code m.queues) e fifo refl

    pub opening-Reaches : IsFifo m.queues → Reaches bound m.interrupts (waited t.opening true t.code m)
    opening-Reaches fifo = waits_for (lowest_stray m.queues) refl fifo
