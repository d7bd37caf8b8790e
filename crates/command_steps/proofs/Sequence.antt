-- Inputs that are taken one after the other.
use Rattle.std.proofs.Common.{◌≡◌, ℕ, inl, inr, Bool, true, false, List, [], ◌∷◌, ◌++◌, Option, Result, Ok, Err, IsErrAnd, IfErr, refl, sym}
use Rattle.std.proofs.Common.{ap, subst, ◌∙◌, append_assoc}
use Rattle.std.proofs.lemmas.Result.{err_from_is_err_and}
use Rattle.capture_desk.specs.declared.calls.Call.{Call}
use Rattle.capture_desk.specs.Desks.{Inputs, Seen, is_missing}
use Rattle.capture_desk.proofs.Telling.{tells_both, tells_none}
use Rattle.command_texts.specs.declared.refusal.Refusal.{Refusal}
use Rattle.command_texts.specs.declared.refusal.Refusal.TheVariants.{NoMemory, ReadFault}
use Rattle.command_steps.specs.Inputs.{Input, IsThereAndGood, StopsAt, StopsIn}
use Rattle.command_steps.specs.Reading.{AreTaken, AreTakenUpTo, IsShortAt, Stopped, Takes, Took}
use Rattle.command_steps.proofs.Inputs.{keeps_from, rose_from, same_inputs}
use Rattle.command_steps.proofs.Taking.{last_taken, may_come}

-- ---- the calls

all_calls : (first later : List Input) (told : Option Inputs) (a b : List Call) → AreTaken first told a → AreTaken later told b →
    AreTaken (first ++ later) told (a ++ b)
all_calls [] later told a b none h = subst (λ x. AreTaken later told (x ++ b)) (sym none) h
all_calls (input ∷ first) later told a b (x, y, e, whole, good, more) h =
    (x, y ++ b, ap (λ z. z ++ b) e ∙ append_assoc x y b, whole, good, all_calls first later told y b more h)

-- each is kept
abbrev pub AreKept : List Input → Type 0
AreKept [] = Unit {0}
AreKept (input ∷ inputs) = (input.judge.kept ≡ true) × AreKept inputs

calls_up_to : (first later : List Input) (refusal : Refusal) (told : Option Inputs) (a b : List Call) → AreKept first →
    AreTaken first told a → AreTakenUpTo later refusal told b → AreTakenUpTo (first ++ later) refusal told (a ++ b)
calls_up_to [] later refusal told a b kept none h = subst (λ x. AreTakenUpTo later refusal told (x ++ b)) (sym none) h
calls_up_to (input ∷ first) later refusal told a b kept (x, y, e, whole, good, more) h =
    inr (
      x,
      y ++ b,
      ap (λ z. z ++ b) e ∙ append_assoc x y b,
      whole,
      good,
      may_come refusal input.judge.kept kept.0,
      calls_up_to first later refusal told y b kept.1 more h,
    )

-- what stops behind some inputs stops at the last of them
calls_behind : (input : Input) (first later : List Input) (refusal : Refusal) (told : Option Inputs) (a : List Call) →
    AreKept (input ∷ first) → AreTaken (input ∷ first) told a → AreTakenUpTo (input ∷ (first ++ later)) refusal told a
calls_behind input [] later refusal told a kept (x, y, e, whole, good, none) =
    inl (last_taken input refusal told a x y (may_come refusal input.judge.kept kept.0) e whole good none)
calls_behind input (next ∷ first) later refusal told a kept (x, y, e, whole, good, more) =
    inr (x, y, e, whole, good, may_come refusal input.judge.kept kept.0, calls_behind next first later refusal told y kept.1 more)

calls_before : (input : Input) (first later : List Input) (refusal : Refusal) (told : Option Inputs) (a : List Call) →
    AreTakenUpTo (input ∷ first) refusal told a → AreTakenUpTo (input ∷ (first ++ later)) refusal told a
calls_before input first later refusal told a (inl h) = inl h
calls_before input [] later refusal told a (inr (x, y, e, whole, good, may, none)) =
    inl (last_taken input refusal told a x y may e whole good none)
calls_before input (next ∷ first) later refusal told a (inr (x, y, e, whole, good, may, more)) =
    inr (x, y, e, whole, good, may, calls_before next first later refusal told y more)

-- ---- why one is not taken

-- running out of memory is free
no_memory : (inputs : List Input) (old new : Seen) → StopsIn inputs NoMemory old new
no_memory [] old new = refl
no_memory (input ∷ inputs) old new = inl tt

stops_before : (first later : List Input) (refusal : Refusal) (old new : Seen) → StopsIn first refusal old new →
    StopsIn (first ++ later) refusal old new
stops_before [] later refusal old new none = subst (λ r. StopsIn later r old new) (sym none) (no_memory later old new)
stops_before (input ∷ first) later refusal old new (inl h) = inl h
stops_before (input ∷ first) later refusal old new (inr (good, more)) = inr (good, stops_before first later refusal old new more)

stops_behind : (first later : List Input) (refusal : Refusal) (old new : Seen) (a : List Call) → AreTaken first old.told.inputs a →
    StopsIn later refusal old new → StopsIn (first ++ later) refusal old new
stops_behind [] later refusal old new a none h = h
stops_behind (input ∷ first) later refusal old new a (x, y, e, whole, good, more) h =
    inr (good, stops_behind first later refusal old new y more h)

-- the inputs stay, and no read failed before
module _ (old mid new : Seen) (same : mid.told.inputs ≡ old.told.inputs) (quiet : mid.reads ≡ old.reads) where
  stops_at : (input : Input) (refusal : Refusal) → StopsAt input.judge.IsBad input.name refusal mid new →
      StopsAt input.judge.IsBad input.name refusal old new
  stops_at input ReadFault (inl h) = inl (rose_from old.reads mid.reads new.reads quiet h)
  stops_at input ReadFault (inr h) = inr (ap (is_missing input.name) (sym same) ∙ h)
  stops_at input NoMemory h = tt
  stops_at input refusal h = subst (input.judge.IsBad input.name refusal) same h

  stops_from : (inputs : List Input) (refusal : Refusal) → StopsIn inputs refusal mid new → StopsIn inputs refusal old new
  stops_from [] refusal h = h
  stops_from (input ∷ inputs) refusal (inl h) = inl (stops_at input refusal h)
  stops_from (input ∷ inputs) refusal (inr h) = inr (subst (IsThereAndGood input) same h.0, stops_from inputs refusal h.1)

-- ---- some inputs, and then others

-- a step that answers this refusal
pub stops_with : {A : Type 0} (inputs : List Input) (r : Result A Refusal) (refusal : Refusal) (old new : Seen) →
    IsErrAnd r (λ y. y ≡ refusal) → Stopped inputs refusal old new → Takes inputs r old new
stops_with inputs r refusal old new is h =
    let p = err_from_is_err_and r is in
    subst (λ (x : Result _ Refusal). Takes inputs x old new) (sym p.1) (subst (λ y. Stopped inputs y old new) (sym p.2) h)

-- nothing is left to be taken
pub took_none : (s : Seen) → Took [] s s
took_none s = record { told = refl; reads = refl; writes = refl; calls = ([], refl, tells_none s.calls) }

-- or memory runs out first
pub stopped_none : (s : Seen) → Stopped [] NoMemory s s
stopped_none s = record { told = refl; reads = refl; writes = refl; why = refl; calls = ([], refl, tells_none s.calls) }

pub takes_none : {A : Type 0} (r : Result A Refusal) (s : Seen) → IfErr r (λ refusal. refusal ≡ NoMemory) → Takes [] r s s
takes_none (Ok x) s h = took_none s
takes_none (Err refusal) s h = subst (λ r. Stopped [] r s s) (sym h) (stopped_none s)

-- or before an input is opened that is not kept
unopened : (kept : Bool) (name : List ℕ) (told : Option Inputs) → kept ≡ false → IsShortAt kept name told []
unopened true name told is = absurd (cc)
unopened false name told is = refl

pub stopped_unopened : (input : Input) (s : Seen) → input.judge.kept ≡ false → Stopped (input ∷ []) NoMemory s s
stopped_unopened input s not_kept =
    record {
      told = refl;
      reads = refl;
      writes = refl;
      why = inl tt;
      calls = ([], inl (tt, unopened input.judge.kept input.name s.told.inputs not_kept), tells_none s.calls);
    }

module _ (first : List Input) (old mid : Seen) where
  pub took_then : (later : List Input) (new : Seen) → Took first old mid → Took later mid new → Took (first ++ later) old new
  took_then later new took h =
      let same : mid.told.inputs ≡ old.told.inputs = same_inputs mid.told old.told took.told in
      record {
        told = h.told ∙ took.told;
        reads = h.reads ∙ took.reads;
        writes = h.writes ∙ took.writes;
        calls = (
          took.calls.0 ++ h.calls.0,
          all_calls first later old.told.inputs took.calls.0 h.calls.0 took.calls.1
              (subst (λ told. AreTaken later told h.calls.0) same h.calls.1),
          tells_both took.calls.0 h.calls.0 old.calls mid.calls new.calls took.calls.2 h.calls.2,
        );
      }

  pub stopped_then : (later : List Input) (refusal : Refusal) (new : Seen) → AreKept first → Took first old mid →
      Stopped later refusal mid new → Stopped (first ++ later) refusal old new
  stopped_then later refusal new kept took h =
      let same : mid.told.inputs ≡ old.told.inputs = same_inputs mid.told old.told took.told in
      record {
        told = h.told ∙ took.told;
        reads = keeps_from refusal old mid new took.reads h.reads;
        writes = h.writes ∙ took.writes;
        why =
            stops_behind first later refusal old new took.calls.0 took.calls.1 (stops_from old mid new same took.reads later refusal h.why);
        calls = (
          took.calls.0 ++ h.calls.0,
          calls_up_to first later refusal old.told.inputs took.calls.0 h.calls.0 kept took.calls.1
              (subst (λ told. AreTakenUpTo later refusal told h.calls.0) same h.calls.1),
          tells_both took.calls.0 h.calls.0 old.calls mid.calls new.calls took.calls.2 h.calls.2,
        );
      }

  -- by the answer of a step: those behind are taken by what follows
  pub takes_then : {A : Type 0} (later : List Input) (r : Result A Refusal) (new : Seen) → AreKept first → Took first old mid →
      Takes later r mid new → Takes (first ++ later) r old new
  takes_then later (Ok x) new kept took h = took_then later new took h
  takes_then later (Err refusal) new kept took h = stopped_then later refusal new kept took h

module _ (input : Input) (first : List Input) (old mid : Seen) where
  -- one that was not taken ends it, whatever inputs would come behind
  pub stopped_before : (later : List Input) (refusal : Refusal) → Stopped (input ∷ first) refusal old mid →
      Stopped (input ∷ (first ++ later)) refusal old mid
  stopped_before later refusal h =
      record {
        told = h.told;
        reads = h.reads;
        writes = h.writes;
        why = stops_before (input ∷ first) later refusal old mid h.why;
        calls = (h.calls.0, calls_before input first later refusal old.told.inputs h.calls.0 h.calls.1, h.calls.2);
      }

  -- and so does running out of memory behind those that were taken
  pub stopped_behind : (later : List Input) → AreKept (input ∷ first) → Took (input ∷ first) old mid →
      Stopped (input ∷ (first ++ later)) NoMemory old mid
  stopped_behind later kept took =
      record {
        told = took.told;
        reads = took.reads;
        writes = took.writes;
        why = inl tt;
        calls = (took.calls.0, calls_behind input first later NoMemory old.told.inputs took.calls.0 kept took.calls.1, took.calls.2);
      }

  -- an early return
  pub takes_before : {A : Type 0} (later : List Input) (r : Result A Refusal) (refusal : Refusal) → IsErrAnd r (λ y. y ≡ refusal) →
      Stopped (input ∷ first) refusal old mid → Takes (input ∷ (first ++ later)) r old mid
  takes_before later r refusal is h = stops_with (input ∷ (first ++ later)) r refusal old mid is (stopped_before later refusal h)

  pub takes_behind : {A : Type 0} (later : List Input) (r : Result A Refusal) → IsErrAnd r (λ y. y ≡ NoMemory) → AreKept (input ∷ first) →
      Took (input ∷ first) old mid → Takes (input ∷ (first ++ later)) r old mid
  takes_behind later r is kept took = stops_with (input ∷ (first ++ later)) r NoMemory old mid is (stopped_behind later kept took)
