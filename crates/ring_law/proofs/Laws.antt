-- The law of rings.
use Rattle.std.proofs.Common.{All, Bool, List, None, Some, [], append_assoc, arith, false, if◌then◌else◌, inl, inr, length, length-append}
use Rattle.std.proofs.Common.{map, refl, suc, sym, true, ℕ, ◌%◌, ◌*◌, ◌++◌, ◌+◌, ◌<◌, ◌∙◌, ◌∷◌, ◌≡◌, ap, subst}
use Rattle.field_law.specs.Arrivals.{AreKept, HasCode, meeting, over_queues, pushed_in}
use Rattle.page_table.specs.Blocks.{Block}
use Rattle.field_law.specs.Fields.{Brings, Mark, Row, Token}
use Rattle.ring_law.proofs.Ending.{Ended, UsedUp, block_end-Ended}
use Rattle.ring_law.specs.Laws.{EndsBlock}
use Rattle.fifo_model.specs.declared.Entry.{Entry}
use Rattle.risc_word.specs.declared.Code.TheVariants.{Fm1}
use Rattle.machine_model.specs.declared.Job.TheVariants.{Idle, Waiting}
use Rattle.ring_law.proofs.Turns.{InRing}
use Rattle.machine_model.specs.Safety.{IsStep, JobFits}
use Rattle.machine_model.specs.declared.Job.{Job}
use Rattle.ring_law.proofs.Making.{Makes}
use Rattle.fifo_model.specs.declared.Queue.TheVariants.{One, Three, Two}
use Rattle.fifo_model.specs.declared.Queue.{Queue}
use Rattle.ring_model.specs.Rings.{Ring, ends, ring_program}
use Rattle.machine_model.specs.Paths.{RiscProgram}
use Rattle.field_law.specs.Sections.{Section, Uses, UsesUp, asks, planned, section_stores}
use Rattle.field_law.proofs.Bringing.{pushed_in-append}
use Rattle.ring_law.proofs.Runs.{to_come, kept_next, Ran, IsReachedRing, runs, turn-TurnSteps}
use Rattle.ring_law.proofs.Walks.{StandsFor, Walks}
use Rattle.machine_model.specs.States.{State}
use Rattle.machine_model.specs.Steps.{Step, Turn, run, step}
use Rattle.ring_law.proofs.Addresses.{block_begin}
use Rattle.ring_model.specs.Runs.{block_end, block_ends, ended_by}
use Rattle.ring_law.proofs.Rounds.{blocks_ended, ended_long, executed, executed-Walks, last_ended}
use Rattle.picture_model.specs.Programs.{no_control}
use Rattle.ring_law.proofs.Asks.{executed_quiet, lines_use, other_uses, ring_stores, IsOther}
use Rattle.machine_model.proofs.ProgramStays.{program-step}
use Rattle.fifo_model.specs.Queues.{queue_state}
use Rattle.machine_model.specs.Turns.{sets_fdsr, stored_all, with_interrupts}

-- the ring as a section behind its SYNC, up to so many block ends
abbrev pub ring_section : Ring → ℕ → Section
ring_section r count =
    record { opening = no_control; code = Fm1; at = r.base + 8; body = executed r 0 count; closing = no_control; target = 0 }

-- and what it is brought: lines on the first queue
abbrev pub ring_field : List (List ℕ) → Queue → List Token
ring_field lines One = map Row lines
ring_field lines Two = []
ring_field lines Three = []

-- so many lines, of which those that don't come are made up for
pub record Supplied (r : Ring) (m : State) (steps : List Step) (count : ℕ) (Rests : List Entry → Type 0) : Type 0 where
  pub lines : List (List ℕ)
  pub many : length lines ≡ count * r.lines
  pub long : All (λ line. length line ≡ r.line_bytes) lines
  pub pad : Queue → List Entry
  pub before : Queue → List Entry
  pub entries : Queue → List Entry
  pub rest : Queue → List Entry
  pub rests : (q : Queue) → Rests (rest q)
  pub order : (q : Queue) → (queue_state q m.queues).entries ++ (pushed_in steps q ++ pad q) ≡ before q ++ (entries q ++ rest q)
  pub unmarked : (q : Queue) → All (λ entry. HasCode Fm1 entry → ⊥) (before q)
  pub brings : (q : Queue) → Brings (Mark Fm1 ∷ ring_field lines q) (entries q)

-- a split of steps splits what they are kept over
kept_front : (m : State) (xs ys : List Step) → AreKept m (meeting m.program (xs ++ ys)) → AreKept m (meeting m.program xs)
kept_front m [] ys kept = tt
kept_front m (x ∷ xs) ys kept =
    let here = kept_next m x (xs ++ ys) kept in
    let rest = kept_front (step x m) xs ys here.1 in
    (here.0, subst (λ (program : RiscProgram). AreKept (step x m) (meeting program xs)) (program-step x m) rest)

module _ (r : Ring) (lines : List (List ℕ)) (m : State) (early : List Step) (block : ℕ) (e : EndsBlock r lines m early block)
    (Rests : List Entry → Type 0)
    (grows : (rest : List Entry) → Rests rest → Rests (rest ++ [])) where
  abbrev number : ℕ
  number = block_ends (ends r) m early

  abbrev steps : List Step
  steps = early ++ Turn ∷ []

  module _ (given : Supplied r m steps (suc number) Rests) where
    abbrev s : Section
    s = ring_section r (suc number)

    abbrev all_left : List ℕ
    all_left = blocks_ended r 0 (suc number)

    abbrev pub final : List Block
    final = stored_all m.memory (ring_stores r 0 (suc number) given.lines)

    other_queue : (q : Queue) → IsOther q → UsesUp (asks q s.body) [] [] × (planned (asks q s.body) [] [] ≡ [])
    other_queue q other = other_uses q s.body other (executed_quiet r 0 (suc number))

    uses : Uses s (ring_field given.lines)
    uses One = (lines_use r e.ring 0 (suc number) given.lines given.many given.long).0
    uses Two = (other_queue Two tt).0
    uses Three = (other_queue Three tt).0

    makes : Makes final m.memory (section_stores s (ring_field given.lines))
    makes =
        record {
          one = ap (stored_all m.memory) (lines_use r e.ring 0 (suc number) given.lines given.many given.long).1;
          two = (other_queue Two tt).1;
          three = (other_queue Three tt).1;
        }

    begins : StandsFor (ring_program r) (ends r) Idle all_left s.at s.body
    begins =
        let first : block_begin r 0 ≡ r.base + 8 = omega arith in
        subst (λ (at : ℕ). Walks (ring_program r) (ends r) at s.body all_left) first (executed-Walks r e.ring 0 (suc number))

    abbrev RanTo : List Step → (Queue → List Entry) → Type 0
    RanTo early later =
        Ran (ring_program r) (ends r) s (ring_field given.lines) uses Rests grows final all_left begins all_left
        (block_ends (ends r) m early) later (run m early)

    -- the machine at a place of the run
    ran : (first second : List Step) → steps ≡ first ++ second → block_ends (ends r) m first < suc number → All IsStep first →
        RanTo first (to_come second given.pad)
    ran first second split few made =
        let later = λ (q : Queue). pushed_in second q ++ given.pad q in
        let bound = 5 * suc (length s.body) + 1 + over_queues (λ q. length (given.before q) + length (given.entries q)) in
        let fits : JobFits m.skipping m.target (Waiting no_control true Fm1) =
        subst (λ (job : Job). JobFits m.skipping m.target job) e.runs.waits e.orderly.job in
        let long = ended_long r 0 (suc number) in
        let kept = kept_front m first second (subst (λ (steps : List Step). AreKept m (meeting m.program steps)) split e.runs.kept) in
        runs (ring_program r) (ends r) s (ring_field given.lines) uses Rests grows final all_left begins first later all_left bound m
        e.orderly e.runs.program made kept (omega arith)
        (inl (
          record {
            on = e.runs.risc_on;
            unskipped = fits.0;
            waits = e.runs.waits;
            there = e.runs.there;
            before = given.before;
            entries = given.entries;
            rest = given.rest;
            rests = given.rests;
            order =
                λ q.
                ap (λ (more : List Entry). (queue_state q m.queues).entries ++ more)
                (sym (append_assoc (pushed_in first q) (pushed_in second q) (given.pad q))
                ∙ ap (λ (pushed : List Entry). pushed ++ given.pad q)
                (sym (pushed_in-append first second q) ∙ ap (λ (steps : List Step). pushed_in steps q) (sym split)))
                ∙ given.order q;
            unmarked = given.unmarked;
            brings = given.brings;
            comes = makes;
            bounded = omega arith;
          },
          refl,
        ))

    -- ---- no turn sets FDSR

    pub quiet_at : (first second : List Step) → steps ≡ first ++ Turn ∷ second → block_ends (ends r) m first < suc number →
        All IsStep first → sets_fdsr (run m first) ≡ false
    quiet_at first second split few made =
        let h = ran first (Turn ∷ second) split few made in
        let acted : State = with_interrupts 0 (run m first) in
        let known = h.orderly in
        let long = ap (λ (blocks : List ℕ). length blocks) h.split in
        let ended = h.long in
        let all = ended_long r 0 (suc number) in
        let t =
        turn-TurnSteps (ring_program r) (ends r) s (ring_field given.lines) uses Rests grows final all_left begins h.left_after
        (to_come (Turn ∷ second) given.pad) h.next acted
        (record { job = known.job; queues = known.queues; triggered = known.triggered })
        (omega (arith, length-append h.ended h.left_after)) h.same h.reached in
        t.quiet

    -- ---- at the block end

    ended_in : (left : List ℕ) (next : ℕ) (now : State) → left ≡ number % r.blocks ∷ [] → block_end (ends r) now Turn ≡ Some block →
        IsReachedRing (ring_program r) (ends r) s (ring_field given.lines) uses Rests grows final all_left begins left
        (to_come (Turn ∷ []) given.pad) next now →
        Ended final block (number % r.blocks) now × UsedUp Rests (to_come (Turn ∷ []) given.pad) now
    ended_in left next now last ends_block (inl h) =
        let none : block_end (ends r) now Turn ≡ None =
        ap (λ (on : Bool). if on then ended_by (ends r) now.job now.pc else None) h.0.on
        ∙ ap (λ (job : Job). ended_by (ends r) job now.pc) h.0.waits in
        cc
    ended_in left next now last ends_block (inr h) =
        block_end-Ended (ring_program r) (ends r) Rests final (to_come (Turn ∷ []) given.pad) block (number % r.blocks) next now ends_block
        (subst (λ (left : List ℕ). InRing (ring_program r) (ends r) Rests final (to_come (Turn ∷ []) given.pad) left next now) last h)

    pub ended : Ended final block (number % r.blocks) (run m early) × UsedUp Rests (to_come (Turn ∷ []) given.pad) (run m early)
    ended =
        let h = ran early (Turn ∷ []) refl (omega arith) e.made in
        let none : 0 + number ≡ number = omega arith in
        let last : h.left_after ≡ number % r.blocks ∷ [] =
        last_ended r 0 number h.ended h.left_after h.split h.long ∙ ap (λ (n : ℕ). n % r.blocks ∷ []) none in
        ended_in h.left_after h.next (run m early) last e.ends h.reached
