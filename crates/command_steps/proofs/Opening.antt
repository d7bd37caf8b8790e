-- An input that is opened, and then read.
use Rattle.std.proofs.Common.{◌≡◌, ℕ, inl, Bool, true, false, List, [], ◌∷◌, take, Result, Ok, Err, IfOk, IfErr, refl, sym, ap, ◌∙◌}
use Rattle.std.proofs.lemmas.List.{append-nil}
use Rattle.capture_desk.specs.declared.calls.Call.{Call}
use Rattle.capture_desk.specs.Desks.{Seen, Told, is_missing, after_open}
use Rattle.command_texts.specs.declared.refusal.Refusal.{Refusal}
use Rattle.command_texts.specs.declared.refusal.Refusal.TheVariants.{NoMemory, ReadFault}
use Rattle.command_steps.specs.Inputs.{Always, Input, IsThereAndGood, KeepsReads, OfInput, OfRest, ReadsBy, StopsAt, StopsAtRead}
use Rattle.command_steps.specs.Inputs.{StopsReading, apart}
use Rattle.command_steps.specs.Reading.{AreAllReads, AreReads, Calls, EndsTaking, MayCome, OpensBy, Opened, Stopped, Takes, Took}
use Rattle.command_steps.proofs.Inputs.{keeps_from, opened_input, rose_from}
use Rattle.command_steps.proofs.Taking.{all_taken, always_read, ends_opened, may_come, not_taken, taken}

-- an input that was opened is there
there_is : (name : List ℕ) (old opened : Told) → is_missing name old.inputs ≡ false → opened ≡ after_open name old →
    OfInput name old.inputs Always
there_is name old opened there e = opened_input name old opened Always there e (always_read opened.rest 0)

pub raw_is_there : {B : Type 0} (r : Result B Refusal) (name : List ℕ) (old opened : Told) → is_missing name old.inputs ≡ false →
    opened ≡ after_open name old →
    IfOk r (λ _. OfInput name old.inputs Always)
raw_is_there (Ok x) name old opened there e = there_is name old opened there e
raw_is_there (Err refusal) name old opened there e = tt

module _ (input : Input) (old : Seen) where
  unread : (refusal : Refusal) (new : Seen) → StopsReading input.name refusal old new → StopsAt input.judge.IsBad input.name refusal old new
  unread ReadFault new h = h
  unread refusal new h = absurd h

  -- only a fault of reading comes of an opening
  read_fault : (refusal : Refusal) (new : Seen) (calls : List Call) → StopsReading input.name refusal old new →
      KeepsReads refusal old new × EndsTaking refusal input.judge.kept input.name old.told.inputs calls
  read_fault ReadFault new calls h = (tt, tt)
  read_fault refusal new calls h = absurd h

  -- it was not opened
  pub not_opened : (A : Type 0) (refusal : Refusal) (new : Seen) → Opened {A = A} input.name (Err refusal) old new →
      new.writes ≡ old.writes →
      Calls (OpensBy {A = A} input.name (Err refusal)) old new → Stopped (input ∷ []) refusal old new
  not_opened A refusal new opened writes calls =
      let called = not_taken input.name input.judge.most input.judge.MayGoOn A Refusal refusal old new calls in
      let fault = read_fault refusal new called.0 opened.0 in
      record {
        told = ap apart opened.1;
        reads = fault.0;
        writes = writes;
        why = inl (unread refusal new opened.0);
        calls = (called.0, inl (called.1, fault.1), called.2);
      }

  -- it was opened, and its rest was not read to its end
  unread_rest : (refusal : Refusal) (mid new : Seen) → mid.reads ≡ old.reads → StopsAtRead refusal mid new →
      StopsAt input.judge.IsBad input.name refusal old new
  unread_rest ReadFault mid new quiet h = inl (rose_from old.reads mid.reads new.reads quiet h)
  unread_rest NoMemory mid new quiet h = tt
  unread_rest refusal mid new quiet h = absurd h

  pub stops_at_rest : {B : Type 0} (r : Result B Refusal) (mid new : Seen) → mid.reads ≡ old.reads →
      IfErr r (λ refusal. StopsAtRead refusal mid new) →
      IfErr r (λ refusal. StopsAt input.judge.IsBad input.name refusal old new)
  stops_at_rest (Ok x) mid new quiet h = tt
  stops_at_rest (Err refusal) mid new quiet h = unread_rest refusal mid new quiet h

  -- it was opened, and what comes of its rest comes of it
  module _ {A : Type 0} (done : A) (mid new : Seen) (opened : Opened input.name (Ok done) old mid) (writes : mid.writes ≡ old.writes)
      (quiet : mid.reads ≡ old.reads)
      (calls : Calls (OpensBy {E = Refusal} input.name (Ok done)) old mid) (P : ℕ → Type 0)
      (may : (at : ℕ) → P at → OfRest mid.told.rest (λ bytes. input.judge.MayGoOn (take at bytes)))
      (told : apart new.told ≡ apart mid.told) (no_writes : new.writes ≡ mid.writes) where
    pub took_opened : new.reads ≡ mid.reads → Calls (AreAllReads P input.judge.most 0) mid new → IsThereAndGood input old.told.inputs →
        Took (input ∷ []) old new
    took_opened reads through good =
        let called =
        all_taken input.name input.judge.most input.judge.MayGoOn A Refusal done old mid new P opened.0 opened.1 may calls through in
        record {
          told = told ∙ ap apart opened.1;
          reads = reads ∙ quiet;
          writes = no_writes ∙ writes;
          calls = (called.0, (called.0, [], sym (append-nil called.0), called.1, good, refl), called.2);
        }

    pub stopped_opened : (refusal : Refusal) → MayCome refusal input.judge.kept →
        KeepsReads refusal mid new → Calls (AreReads P input.judge.most 0) mid new → StopsAt input.judge.IsBad input.name refusal old new →
        Stopped (input ∷ []) refusal old new
    stopped_opened refusal comes keeps reads why =
        let called = taken input.name input.judge.most input.judge.MayGoOn A Refusal done old mid new P opened.0 opened.1 may calls reads in
        record {
          told = told ∙ ap apart opened.1;
          reads = keeps_from refusal old mid new quiet keeps;
          writes = no_writes ∙ writes;
          why = inl why;
          calls = (
            called.0,
            inl (called.1.0, ends_opened refusal input.judge.kept input.name old.told.inputs called.0 comes called.1.1),
            called.2,
          );
        }

    pub takes_opened : {B : Type 0} (r : Result B Refusal) → IfErr r (λ refusal. MayCome refusal input.judge.kept) → ReadsBy r mid new →
        Calls (AreReads P input.judge.most 0) mid new →
        IfOk r (λ _. Calls (AreAllReads P input.judge.most 0) mid new) → IfOk r (λ _. IsThereAndGood input old.told.inputs) →
        IfErr r (λ refusal. StopsAt input.judge.IsBad input.name refusal old new) → Takes (input ∷ []) r old new
    takes_opened (Ok x) comes reads some all good why = took_opened reads all good
    takes_opened (Err refusal) comes reads some all good why = stopped_opened refusal comes reads some why

-- every refusal may come of an input that is kept
pub all_may_come : {B : Type 0} (r : Result B Refusal) (kept : Bool) → kept ≡ true → IfErr r (λ refusal. MayCome refusal kept)
all_may_come (Ok x) kept is = tt
all_may_come (Err refusal) kept is = may_come refusal kept is
