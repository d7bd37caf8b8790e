use Rattle.std.proofs.Common.{◌≡◌, ℕ, ◌<◌, List, [], length, take, drop, ◌+◌, ◌-◌, Ok, inr, sym, ap, ◌∙◌, arith, refl, subst, length-drop}
use Rattle.std.proofs.Math.Seq.{take-add}
use Rattle.std.proofs.lemmas.List.{take_all, take_rest, length-take-le}
use Rattle.capture_desk.specs.declared.append.Sink.{Sink}
use Rattle.capture_desk.specs.declared.append.Sink.TheVariants.{Output, Text}
use Rattle.capture_desk.specs.Desks.{IsQuiet, Seen, Told}
use Rattle.capture_desk.specs.Sinks.{AppendCalls, AppendCounts, IsReady, OnlyAppended, after_append}
use Rattle.capture_desk.proofs.Telling.{say_more, some_said}
use Rattle.capture_desk.proofs.Laws.{append-nil, append-append, ready_after}
use Rattle.capture_desk.proofs.append.append_all.Goals as goal

-- a piece after the first ones
next_piece : (sink : Sink) (bytes : List ℕ) (at n : ℕ) (t u v : Told) → u ≡ after_append sink (take at bytes) t →
    v ≡ after_append sink (take n (take (length bytes - at) (drop at bytes))) u → v ≡ after_append sink (take (at + n) bytes) t
next_piece sink bytes at n t u v e f =
    f ∙ ap (λ x. after_append sink (take n x) u) (take_rest bytes at) ∙ ap (after_append sink (take n (drop at bytes))) e
    ∙ append-append sink (take at bytes) (take n (drop at bytes)) t ∙ ap (λ x. after_append sink x t) (sym (take-add at n bytes))

-- what is counted, and what the desk tells
nothing_yet : (sink : Sink) (s : Seen) → OnlyAppended sink [] s s
nothing_yet Output s = (refl, refl, refl)
nothing_yet Text s = (refl, refl, inr refl)

one_more : (sink : Sink) (first both : List ℕ) (old mid new : Seen) → 0 < length both → OnlyAppended sink first old mid → IsQuiet mid new →
    AppendCalls sink mid.calls new.calls → OnlyAppended sink both old new
one_more Output first both old mid new some h q c = (q.0 ∙ h.0, q.1 ∙ h.1, c ∙ h.2)
one_more Text first both old mid new some h q c =
    (q.0 ∙ h.0, q.1 ∙ h.1, some_said both old.calls new.calls some (say_more first old.calls mid.calls new.calls h.2 c))

all_done : (A E : Type 0) (sink : Sink) (first all : List ℕ) (done : A) (old new : Seen) → first ≡ all → OnlyAppended sink first old new →
    AppendCounts {A = A} {E = E} sink all (Ok done) old new
all_done A E Output first all done old new e h = h
all_done A E Text first all done old new e h = subst (λ bytes. OnlyAppended Text bytes old new) e h

pub loop-at-init : goal.loop-at-init
loop-at-init g c =
    record { within = omega arith; done = sym (append-nil c.args.sink _); counts = nothing_yet c.args.sink _ }

pub append-requires-clause-open : goal.append-requires-clause-open
append-requires-clause-open g c =
    subst (IsReady c.args.sink) (sym c.loop-at.invariant.done)
    (ready_after c.args.sink (take c.loop-at.at c.args.bytes.now) _ c.requires.open)

pub loop-at-preserved : goal.loop-at-preserved
loop-at-preserved g c =
    let few = simp (take_rest, length-drop) at c.in_ok-at.ensures.appends.1 in
    record {
      within = omega (arith, few);
      done = next_piece c.args.sink _ _ _ _ _ _ c.loop-at.invariant.done c.in_ok-at.ensures.appends.2;
      counts = one_more c.args.sink _ _ _ _ _ (omega (
        arith,
        few,
        c.in_ok-at.ensures.appends.0,
        length-take-le (c.loop-at.at + c.in_ok-at.field-0) c.args.bytes.now (omega (arith, few)),
      )) c.loop-at.invariant.counts c.in_ok-at.ensures.counts c.in_ok-at.ensures.calls;
    }

pub returns-clause-counts : goal.returns-clause-counts
returns-clause-counts g c =
    all_done _ _ c.args.sink _ _ _ _ _ (take_all c.loop-at.at c.args.bytes.now c.loop-at-test.false) c.loop-at.invariant.counts
