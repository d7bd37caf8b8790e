-- The trace after steps, and turns of which nothing is seen.
use Rattle.std.proofs.Common.{◌≡◌, ℕ, zero, suc, ◌+◌, ◌-◌, ◌<◌, ◌≤◌, ◌^◌, Bool, true, false, List, [], ◌∷◌, ◌++◌, Option, replicate, refl}
use Rattle.std.proofs.Common.{sym, ap, ◌∙◌, arith, append_assoc}
use Rattle.std.proofs.lemmas.List.{append-nil, replicate-append-replicate}
use Rattle.fifo_model.specs.declared.Queue.{Queue}
use Rattle.fifo_model.specs.Queues.{more}
use Rattle.machine_model.specs.declared.Did.{Did}
use Rattle.machine_model.specs.declared.Did.TheVariants.{Still, Jumped, Synced, Passed, Begun, Dropped, Matched, Missed, Retired, Moved}
use Rattle.machine_model.specs.declared.Did.TheVariants.{GivenUp}
use Rattle.machine_model.specs.declared.Seen.{Seen}
use Rattle.machine_model.specs.Seen.{seen, taken}
use Rattle.machine_model.specs.States.{State}
use Rattle.machine_model.specs.Steps.{Step, Turn, run, step}
use Rattle.machine_model.specs.Turns.{turn}
use Rattle.dma_machine.specs.declared.Report.{Report}
use Rattle.dma_machine.specs.Facts.{report_of}
use Rattle.dma_machine.specs.Looks.{next_drop}
use Rattle.dma_machine.specs.Stills.{is_still}
use Rattle.dma_machine.proofs.Standing.{is_still-turns}
use Rattle.dma_machine.proofs.StillSeen.{still_counts, still_seen}
use Rattle.turn_trace.specs.Traces.{Tracing, after, after_all, is_quiet, is_still_did, line, lines, still_after, still_line, told_by}
use Rattle.turn_trace.specs.Traces.{told_if, tracing, turn_words, words}

pub after_all-run : (t : Tracing) (steps : List Step) → (after_all t steps).machine ≡ run t.machine steps
after_all-run t [] = refl
after_all-run t (s ∷ steps) = after_all-run (after t s) steps

pub after_all-append : (t : Tracing) (first later : List Step) → after_all t (first ++ later) ≡ after_all (after_all t first) later
after_all-append t [] later = refl
after_all-append t (s ∷ first) later = after_all-append (after t s) first later

pub lines-append : (t : Tracing) (first later : List Step) → lines t (first ++ later) ≡ lines t first ++ lines (after_all t first) later
lines-append t [] later = refl
lines-append t (s ∷ first) later =
    ap (λ (list : List ℕ). told_by t s ++ list) (lines-append (after t s) first later)
    ∙ sym (append_assoc (told_by t s) (lines (after t s) first) (lines (after_all (after t s) first) later))

-- a step that has a line
pub told-one : (t : Tracing) (s : Step) → is_quiet s t.machine ≡ false → lines t (s ∷ []) ≡ still_line t.still ++ line s t.machine
told-one t s loud = ap (λ (list : List ℕ). list ++ []) (ap (λ (quiet : Bool). told_if quiet t s) loud) ∙ append-nil _

pub told-after : (t : Tracing) (s : Step) → is_quiet s t.machine ≡ false → after_all t (s ∷ []) ≡ tracing (step s t.machine) 0
told-after t s loud = ap (λ (quiet : Bool). tracing (step s t.machine) (still_after quiet t.still)) loud

-- a turn that has none
pub quiet-one : (t : Tracing) → (seen t.machine).did ≡ Still → lines t (Turn ∷ []) ≡ []
quiet-one t still = ap (λ (did : Did). told_if (is_still_did did) t Turn ++ []) still

pub quiet-after : (t : Tracing) → (seen t.machine).did ≡ Still → after_all t (Turn ∷ []) ≡ tracing (turn t.machine) (more t.still 1)
quiet-after t still = ap (λ (did : Did). tracing (turn t.machine) (still_after (is_still_did did) t.still)) still

-- turns of a machine that stands still
more_more : (n count : ℕ) → more (more n 1) count ≡ more n (suc count)
more_more n count = omega arith

still_stays : (m : State) → is_still m ≡ true → is_still (turn m) ≡ true
still_stays m still = ap is_still (still_counts m still) ∙ (is_still-turns (more m.turns 1) m ∙ still)

pub still-lines : (count : ℕ) (t : Tracing) → is_still t.machine ≡ true → lines t (replicate count Turn) ≡ []
still-lines zero t still = refl
still-lines (suc count) t still =
    ap (λ (did : Did). told_if (is_still_did did) t Turn ++ lines (after t Turn) (replicate count Turn)) (still_seen t.machine still)
    ∙ still-lines count (after t Turn) (still_stays t.machine still)

pub still-after : (count : ℕ) (m : State) (n : ℕ) → is_still m ≡ true → n < 2 ^ 64 →
    after_all (tracing m n) (replicate count Turn) ≡ tracing (run m (replicate count Turn)) (more n count)
still-after zero m n still fits = let same : n ≡ more n 0 = omega (arith, fits) in ap (tracing m) same
still-after (suc count) m n still fits =
    let small : more n 1 < 2 ^ 64 = omega arith in
    ap (λ (did : Did). after_all (tracing (turn m) (still_after (is_still_did did) n)) (replicate count Turn)) (still_seen m still)
    ∙ still-after count (turn m) (more n 1) (still_stays m still) small
    ∙ ap (tracing (run (turn m) (replicate count Turn))) (more_more n count)

-- where there is one turn at least
pub still-after-some : (count : ℕ) (t : Tracing) → 0 < count → is_still t.machine ≡ true →
    after_all t (replicate count Turn) ≡ tracing (run t.machine (replicate count Turn)) (more t.still count)
still-after-some zero t some still = absurd (omega (arith, some))
still-after-some (suc count) t some still =
    let small : more t.still 1 < 2 ^ 64 = omega arith in
    ap (λ (did : Did). after_all (tracing (turn t.machine) (still_after (is_still_did did) t.still)) (replicate count Turn))
    (still_seen t.machine still)
    ∙ still-after count (turn t.machine) (more t.still 1) (still_stays t.machine still) small
    ∙ ap (tracing (run (turn t.machine) (replicate count Turn))) (more_more t.still count)

-- texts that are appended one after the other
pub appended : (old middle new first later : List ℕ) → middle ≡ old ++ first → new ≡ middle ++ later → new ≡ old ++ (first ++ later)
appended old middle new first later one two = two ∙ ap (λ (list : List ℕ). list ++ later) one ∙ append_assoc old first later

-- what is seen of a turn that has a line
pub loud-did : (did : Did) → (did ≡ Still → ⊥) → is_still_did did ≡ false
loud-did Still loud = absurd (loud refl)
loud-did Jumped loud = refl
loud-did Synced loud = refl
loud-did Passed loud = refl
loud-did Begun loud = refl
loud-did Dropped loud = refl
loud-did Matched loud = refl
loud-did Missed loud = refl
loud-did Retired loud = refl
loud-did (Moved q) loud = refl
loud-did (GivenUp q) loud = refl

pub turned-words : (m : State) (r : Report) (s : Seen) (drops : Option Queue) (count : ℕ) → r ≡ report_of m → s ≡ seen m →
    drops ≡ next_drop m → count ≡ taken m →
    turn_words r.turns s drops count ≡ words Turn m
turned-words m r s drops count is saw drop took =
    ap (λ (x : Report). turn_words x.turns s drops count) is
    ∙ ap (λ (x : Seen). turn_words m.turns x drops count) saw
    ∙ ap (λ (x : Option Queue). turn_words m.turns (seen m) x count) drop
    ∙ ap (λ (x : ℕ). turn_words m.turns (seen m) (next_drop m) x) took

-- turns that were taken of so many, and some more
taken-more : (count before some after : ℕ) → before ≡ some + after → before ≤ count →
    replicate (count - before) Turn ++ replicate some Turn ≡ replicate (count - after) Turn
taken-more count before some after split within =
    let sum : count - before + some ≡ count - after = omega (arith, split, within) in
    replicate-append-replicate (count - before) some Turn ∙ ap (λ (n : ℕ). replicate n Turn) sum

pub state-more : (t now new : Tracing) (count before some after : ℕ) → before ≡ some + after → before ≤ count →
    now ≡ after_all t (replicate (count - before) Turn) → new ≡ after_all now (replicate some Turn) →
    new ≡ after_all t (replicate (count - after) Turn)
state-more t now new count before some after split within first later =
    later
    ∙ ap (λ (x : Tracing). after_all x (replicate some Turn)) first
    ∙ sym (after_all-append t (replicate (count - before) Turn) (replicate some Turn))
    ∙ ap (after_all t) (taken-more count before some after split within)

pub text-more : (t now : Tracing) (old middle new : List ℕ) (count before some after : ℕ) → before ≡ some + after → before ≤ count →
    now ≡ after_all t (replicate (count - before) Turn) → middle ≡ old ++ lines t (replicate (count - before) Turn) →
    new ≡ middle ++ lines now (replicate some Turn) →
    new ≡ old ++ lines t (replicate (count - after) Turn)
text-more t now old middle new count before some after split within state first later =
    appended old middle new (lines t (replicate (count - before) Turn)) (lines now (replicate some Turn)) first later
    ∙ ap (λ (x : Tracing). old ++ (lines t (replicate (count - before) Turn) ++ lines x (replicate some Turn))) state
    ∙ ap (λ (list : List ℕ). old ++ list) (sym (lines-append t (replicate (count - before) Turn) (replicate some Turn)))
    ∙ ap (λ (steps : List Step). old ++ lines t steps) (taken-more count before some after split within)
