-- An input that was read, and is then checked: it is good, or bad in the way of a refusal.
use Rattle.std.proofs.Common.{IsErrAnd, ◌≡◌, ℕ, inl, inr, true, List, [], ◌∷◌, Option, Result, Ok, Err, IfOk, IfErr, sym, subst}
use Rattle.capture_desk.specs.declared.calls.Call.{Call}
use Rattle.capture_desk.specs.Desks.{Inputs, Seen}
use Rattle.command_texts.specs.declared.refusal.Refusal.{Refusal}
use Rattle.command_texts.specs.declared.refusal.Refusal.TheVariants.{NoMemory, ReadFault}
use Rattle.command_steps.specs.Inputs.{Input, Judge, OfInput, StopsAt, StopsIn, raw_files}
use Rattle.command_steps.specs.Reading.{AreTakenUpTo, EndsTaking, IsTaking, Stopped, Takes, Took}
use Rattle.command_steps.proofs.Inputs.{keeps_reads}
use Rattle.command_steps.proofs.Sequence.{stops_with}
use Rattle.command_steps.proofs.Taking.{last_taken, may_come}

-- ---- one judge in place of another that reads as far

-- an input that is not checked yet is bad in no way
pub raw_stops : (IsBad : List ℕ → Refusal → Option Inputs → Type 0) (most : ℕ) (name : List ℕ) (refusal : Refusal) (old new : Seen) →
    StopsAt (raw_files most).IsBad name refusal old new → StopsAt IsBad name refusal old new
raw_stops IsBad most name ReadFault old new h = h
raw_stops IsBad most name NoMemory old new h = tt
raw_stops IsBad most name refusal old new h = absurd h

module _ (name : List ℕ) (from to : Judge) where
  -- the input with its judge at first, and with its judge in the end
  abbrev before : Input
  before = record { name = name; judge = from }

  abbrev after : Input
  after = record { name = name; judge = record to { most = from.most; kept = from.kept; MayGoOn = from.MayGoOn } }

  abbrev IsGoodBefore : Option Inputs → Type 0
  IsGoodBefore told = OfInput name told (from.IsGood told)

  abbrev IsGoodAfter : Option Inputs → Type 0
  IsGoodAfter told = OfInput name told (to.IsGood told)

  pub took_as : (inputs : List Input) (old new : Seen) → (IsGoodBefore old.told.inputs → IsGoodAfter old.told.inputs) →
      Took (before ∷ inputs) old new → Took (after ∷ inputs) old new
  took_as inputs old new good h =
      let (x, y, e, whole, was, more) = h.calls.1 in
      record { told = h.told; reads = h.reads; writes = h.writes; calls = (h.calls.0, (x, y, e, whole, good was, more), h.calls.2) }

  as_called : (inputs : List Input) (refusal : Refusal) (told : Option Inputs) (calls : List Call) →
      (IsGoodBefore told → IsGoodAfter told) → AreTakenUpTo (before ∷ inputs) refusal told calls →
      AreTakenUpTo (after ∷ inputs) refusal told calls
  as_called inputs refusal told calls good (inl h) = inl h
  as_called inputs refusal told calls good (inr (x, y, e, whole, was, may, more)) = inr (x, y, e, whole, good was, may, more)

  pub stopped_as : (inputs : List Input) (refusal : Refusal) (old new : Seen) →
      (IsGoodBefore old.told.inputs → IsGoodAfter old.told.inputs) →
      (StopsAt from.IsBad name refusal old new → StopsAt to.IsBad name refusal old new) → Stopped (before ∷ inputs) refusal old new →
      Stopped (after ∷ inputs) refusal old new
  stopped_as inputs refusal old new good bad h =
      record {
        told = h.told;
        reads = h.reads;
        writes = h.writes;
        why = by_why h.why;
        calls = (h.calls.0, as_called inputs refusal old.told.inputs h.calls.0 good h.calls.1, h.calls.2);
      }
    where
      by_why : StopsIn (before ∷ inputs) refusal old new → StopsIn (after ∷ inputs) refusal old new
      by_why (inl why) = inl (bad why)
      by_why (inr (was, why)) = inr (good was, why)

  -- by the answer, where what is good by the first judge is good by the second, and what is bad is bad
  pub takes_as : {A : Type 0} (inputs : List Input) (r : Result A Refusal) (old new : Seen) →
      (IsGoodBefore old.told.inputs → IsGoodAfter old.told.inputs) →
      ((refusal : Refusal) → StopsAt from.IsBad name refusal old new → StopsAt to.IsBad name refusal old new) →
      Takes (before ∷ inputs) r old new → Takes (after ∷ inputs) r old new
  takes_as inputs (Ok x) old new good bad h = took_as inputs old new good h
  takes_as inputs (Err refusal) old new good bad h = stopped_as inputs refusal old new good (bad refusal) h

  -- it was taken, and is found good
  pub found_good : (old new : Seen) → IsGoodAfter old.told.inputs → Took (before ∷ []) old new → Took (after ∷ []) old new
  found_good old new good h = took_as [] old new (λ was. good) h

  -- or bad
  pub found_bad : from.kept ≡ true → (refusal : Refusal) (old new : Seen) → StopsAt to.IsBad name refusal old new →
      Took (before ∷ []) old new → Stopped (after ∷ []) refusal old new
  found_bad kept refusal old new bad h =
      let (x, y, e, whole, was, none) = h.calls.1 in
      record {
        told = h.told;
        reads = keeps_reads refusal old new h.reads;
        writes = h.writes;
        why = inl bad;
        calls = (
          h.calls.0,
          inl (last_taken before refusal old.told.inputs h.calls.0 x y (may_come refusal from.kept kept) e whole was none),
          h.calls.2,
        );
      }

  -- it was not taken, and so is not checked
  pub not_taken : (refusal : Refusal) (old new : Seen) → (StopsAt from.IsBad name refusal old new → StopsAt to.IsBad name refusal old new) →
      Stopped (before ∷ []) refusal old new → Stopped (after ∷ []) refusal old new
  not_taken refusal old new bad h =
      record {
        told = h.told;
        reads = h.reads;
        writes = h.writes;
        why = inl (by_why h.why);
        calls = (h.calls.0, inl (by_calls h.calls.0 h.calls.1), h.calls.2);
      }
    where
      no_more : (r : Refusal) → r ≡ NoMemory → StopsAt to.IsBad name r old new
      no_more r is = subst (λ x. StopsAt to.IsBad name x old new) (sym is) tt

      by_why : StopsIn (before ∷ []) refusal old new → StopsAt to.IsBad name refusal old new
      by_why (inl why) = bad why
      by_why (inr (was, why)) = no_more refusal why

      by_calls : (calls : List Call) → AreTakenUpTo (before ∷ []) refusal old.told.inputs calls →
          IsTaking name from.most from.MayGoOn old.told.inputs calls × EndsTaking refusal from.kept name old.told.inputs calls
      by_calls calls (inl h) = h
      by_calls calls (inr (x, y, e, whole, was, may, none)) = last_taken before refusal old.told.inputs calls x y may e whole was none

  -- by the answer of its check, once it was taken
  pub judged : {A : Type 0} → from.kept ≡ true → (r : Result A Refusal) (old new : Seen) → IfOk r (λ _. IsGoodAfter old.told.inputs) →
      IfErr r (λ refusal. StopsAt to.IsBad name refusal old new) →
      Took (before ∷ []) old new → Takes (after ∷ []) r old new
  judged kept (Ok x) old new good bad h = found_good old new good h
  judged kept (Err refusal) old new good bad h = found_bad kept refusal old new bad h

  -- an early return, where it was not taken
  pub not_judged : {A : Type 0} (r : Result A Refusal) (refusal : Refusal) (old new : Seen) → IsErrAnd r (λ y. y ≡ refusal) →
      (StopsAt from.IsBad name refusal old new → StopsAt to.IsBad name refusal old new) → Stopped (before ∷ []) refusal old new →
      Takes (after ∷ []) r old new
  not_judged r refusal old new is bad h = stops_with (after ∷ []) r refusal old new is (not_taken refusal old new bad h)
