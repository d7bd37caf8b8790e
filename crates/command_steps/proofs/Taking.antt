-- The calls by which an input is taken.
use Rattle.std.proofs.Common.{◌≡◌, ℕ, ◌+◌, ◌<◌, inl, inr, zero, suc, arith, true, false, Bool, List, [], ◌∷◌, ◌++◌, take, Option, Some}
use Rattle.std.proofs.Common.{None, Ok, Err, refl, sym, ap, subst, ◌∙◌, append_assoc}
use Rattle.std.proofs.lemmas.List.{append-nil}
use Rattle.capture_desk.specs.declared.calls.Call.{Call}
use Rattle.capture_desk.specs.declared.calls.Call.TheVariants.{OpenIn, Read, CreateOut, Finish, Say}
use Rattle.capture_desk.specs.Desks.{Inputs, Seen, Tells, is_missing, after_open}
use Rattle.capture_desk.proofs.Telling.{tells_both, tells_none}
use Rattle.command_texts.specs.declared.refusal.Refusal.{Refusal}
use Rattle.command_texts.specs.declared.refusal.Refusal.TheVariants.{ReadFault, NoMemory}
use Rattle.command_steps.specs.Inputs.{Always, Input, IsThereAndGood, OfInput, OfRest}
use Rattle.command_steps.specs.Reading.{AreAllReads, AreReads, Calls, EndsTaking, MayCome, IsNextRead, IsOpened, IsTaking, IsTakingOf}
use Rattle.command_steps.specs.Reading.{IsWholeTaking, IsWholeTakingOf, OpensBy}
use Rattle.command_steps.proofs.Inputs.{is_there, opened_input}

-- reads that may come so far, whatever reads come later
pub record ReadSoFar (MayGoOn : ℕ → Type 0) (most at : ℕ) (old new : Seen) : Type 0 where
  pub made : List Call
  pub tells : Tells made old.calls new.calls
  pub goes_on : (later : List Call) → AreReads MayGoOn most at later → AreReads MayGoOn most 0 (made ++ later)
  pub goes_through : (later : List Call) → AreAllReads MayGoOn most at later → AreAllReads MayGoOn most 0 (made ++ later)

pub nothing_read : (MayGoOn : ℕ → Type 0) (most : ℕ) (s : Seen) → ReadSoFar MayGoOn most 0 s s
nothing_read MayGoOn most s = record { made = []; tells = tells_none s.calls; goes_on = λ later h. h; goes_through = λ later h. h }

-- the calls that were made so far are reads
pub reads_end : (MayGoOn : ℕ → Type 0) (most at : ℕ) (old new : Seen) → ReadSoFar MayGoOn most at old new →
    Calls (AreReads MayGoOn most 0) old new
reads_end MayGoOn most at old new h = (h.made, subst (AreReads MayGoOn most 0) (append-nil h.made) (h.goes_on [] tt), h.tells)

-- they are all, where one byte beyond the most was read
pub all_reads_end : (MayGoOn : ℕ → Type 0) (most at : ℕ) (old new : Seen) → ReadSoFar MayGoOn most at old new → most < at →
    Calls (AreAllReads MayGoOn most 0) old new
all_reads_end MayGoOn most at old new h beyond =
    (h.made, subst (AreAllReads MayGoOn most 0) (append-nil h.made) (h.goes_through [] beyond), h.tells)

some_bytes : (n : ℕ) → (n ≡ 0 → ⊥) → 0 < n
some_bytes zero some = absurd (some refl)
some_bytes (suc n) some = omega arith

-- one more read
pub read_more : (MayGoOn : ℕ → Type 0) (most at size n : ℕ) (old mid new : Seen) → ReadSoFar MayGoOn most at old mid →
    IsNextRead MayGoOn most at size → (n ≡ 0 → ⊥) →
    Tells (Read size (Some n) ∷ []) mid.calls new.calls → ReadSoFar MayGoOn most (at + n) old new
read_more MayGoOn most at size n old mid new h next some tells =
    record {
      made = h.made ++ (Read size (Some n) ∷ []);
      tells = tells_both h.made (Read size (Some n) ∷ []) old.calls mid.calls new.calls h.tells tells;
      goes_on = λ later more.
          subst (AreReads MayGoOn most 0) (sym (append_assoc h.made (Read size (Some n) ∷ []) later))
          (h.goes_on (Read size (Some n) ∷ later) (next, (λ none. absurd (some none)), more));
      goes_through = λ later more.
          subst (AreAllReads MayGoOn most 0) (sym (append_assoc h.made (Read size (Some n) ∷ []) later))
          (h.goes_through (Read size (Some n) ∷ later) (next, inr (some_bytes n some, more)));
    }

-- and it is the last, since it found the end
pub read_end : (MayGoOn : ℕ → Type 0) (most at size n : ℕ) (old mid new : Seen) → ReadSoFar MayGoOn most at old mid →
    IsNextRead MayGoOn most at size →
    Tells (Read size (Some n) ∷ []) mid.calls new.calls → Calls (AreReads MayGoOn most 0) old new
read_end MayGoOn most at size n old mid new h next tells = (
  h.made ++ (Read size (Some n) ∷ []),
  h.goes_on (Read size (Some n) ∷ []) (next, (λ none. refl), tt),
  tells_both h.made (Read size (Some n) ∷ []) old.calls mid.calls new.calls h.tells tells,
)

pub all_read_end : (MayGoOn : ℕ → Type 0) (most at size n : ℕ) (old mid new : Seen) → ReadSoFar MayGoOn most at old mid →
    IsNextRead MayGoOn most at size → n ≡ 0 →
    Tells (Read size (Some n) ∷ []) mid.calls new.calls → Calls (AreAllReads MayGoOn most 0) old new
all_read_end MayGoOn most at size n old mid new h next none tells = (
  h.made ++ (Read size (Some n) ∷ []),
  h.goes_through (Read size (Some n) ∷ []) (next, inl (none, refl)),
  tells_both h.made (Read size (Some n) ∷ []) old.calls mid.calls new.calls h.tells tells,
)

-- or it failed
pub read_failed : (MayGoOn : ℕ → Type 0) (most at size : ℕ) (old mid new : Seen) → ReadSoFar MayGoOn most at old mid →
    IsNextRead MayGoOn most at size →
    Tells (Read size None ∷ []) mid.calls new.calls → Calls (AreReads MayGoOn most 0) old new
read_failed MayGoOn most at size old mid new h next tells = (
  h.made ++ (Read size None ∷ []),
  h.goes_on (Read size None ∷ []) (next, refl),
  tells_both h.made (Read size None ∷ []) old.calls mid.calls new.calls h.tells tells,
)

-- ---- what is so of the rest of an input that was opened is so of the input

reads_of : (P Q : ℕ → Type 0) → ((at : ℕ) → P at → Q at) → (most at : ℕ) (calls : List Call) → AreReads P most at calls →
    AreReads Q most at calls
reads_of P Q f most at [] h = tt
reads_of P Q f most at (Read size None ∷ calls) h = ((h.0.0, f at h.0.1, h.0.2), h.1)
reads_of P Q f most at (Read size (Some n) ∷ calls) h = ((h.0.0, f at h.0.1, h.0.2), h.1, reads_of P Q f most (at + n) calls h.2)
reads_of P Q f most at (OpenIn name done ∷ calls) h = absurd h
reads_of P Q f most at (CreateOut name done ∷ calls) h = absurd h
reads_of P Q f most at (Finish done ∷ calls) h = absurd h
reads_of P Q f most at (Say ∷ calls) h = absurd h

all_reads_of : (P Q : ℕ → Type 0) → ((at : ℕ) → P at → Q at) → (most at : ℕ) (calls : List Call) → AreAllReads P most at calls →
    AreAllReads Q most at calls
all_reads_of P Q f most at [] h = h
all_reads_of P Q f most at (Read size None ∷ calls) h = absurd h
all_reads_of P Q f most at (Read size (Some n) ∷ calls) (next, inl end) = ((next.0, f at next.1, next.2), inl end)
all_reads_of P Q f most at (Read size (Some n) ∷ calls) (next, inr more) =
    ((next.0, f at next.1, next.2), inr (more.0, all_reads_of P Q f most (at + n) calls more.1))
all_reads_of P Q f most at (OpenIn name done ∷ calls) h = absurd h
all_reads_of P Q f most at (CreateOut name done ∷ calls) h = absurd h
all_reads_of P Q f most at (Finish done ∷ calls) h = absurd h
all_reads_of P Q f most at (Say ∷ calls) h = absurd h

pub always_read : (rest : Option (List ℕ)) (at : ℕ) → OfRest rest (λ bytes. Always (take at bytes))
always_read None at = tt
always_read (Some bytes) at = tt

module _ (name : List ℕ) (most : ℕ) (MayGoOn : List ℕ → Type 0) where
  -- an input was opened, and its rest read
  pub taken : (A E : Type 0) (done : A) (old mid new : Seen) (P : ℕ → Type 0) → is_missing name old.told.inputs ≡ false →
      mid.told ≡ after_open name old.told →
      ((at : ℕ) → P at → OfRest mid.told.rest (λ bytes. MayGoOn (take at bytes))) →
      Calls (OpensBy {A = A} {E = E} name (Ok done)) old mid → Calls (AreReads P most 0) mid new →
      Calls (λ calls. IsTaking name most MayGoOn old.told.inputs calls × IsOpened name old.told.inputs calls) old new
  taken A E done old mid new P there opened f (opening, is, one) (reads, h, two) = (
    OpenIn name true ∷ reads,
    (
      (
        refl,
        reads_of P (λ at. OfInput name old.told.inputs (λ bytes. MayGoOn (take at bytes)))
            (λ at p. opened_input name old.told mid.told (λ bytes. MayGoOn (take at bytes)) there opened (f at p)) most 0 reads h,
      ),
      there,
    ),
    tells_both (OpenIn name true ∷ []) reads old.calls mid.calls new.calls (subst (λ calls. Tells calls old.calls mid.calls) is one) two,
  )

  -- and read through
  pub all_taken : (A E : Type 0) (done : A) (old mid new : Seen) (P : ℕ → Type 0) → is_missing name old.told.inputs ≡ false →
      mid.told ≡ after_open name old.told →
      ((at : ℕ) → P at → OfRest mid.told.rest (λ bytes. MayGoOn (take at bytes))) →
      Calls (OpensBy {A = A} {E = E} name (Ok done)) old mid → Calls (AreAllReads P most 0) mid new →
      Calls (IsWholeTaking name most MayGoOn old.told.inputs) old new
  all_taken A E done old mid new P there opened f (opening, is, one) (reads, h, two) = (
    OpenIn name true ∷ reads,
    (
      refl,
      all_reads_of P (λ at. OfInput name old.told.inputs (λ bytes. MayGoOn (take at bytes)))
          (λ at p. opened_input name old.told mid.told (λ bytes. MayGoOn (take at bytes)) there opened (f at p)) most 0 reads h,
    ),
    tells_both (OpenIn name true ∷ []) reads old.calls mid.calls new.calls (subst (λ calls. Tells calls old.calls mid.calls) is one) two,
  )

  -- it was not opened
  pub not_taken : (A E : Type 0) (failed : E) (old new : Seen) → Calls (OpensBy {A = A} {E = E} name (Err failed)) old new →
      Calls (IsTaking name most MayGoOn old.told.inputs) old new
  not_taken A E failed old new (opening, is, one) =
      (OpenIn name false ∷ [], (refl, refl), subst (λ calls. Tells calls old.calls new.calls) is one)

-- ---- what is read through is read

reads_of_all : (MayGoOn : ℕ → Type 0) (most at : ℕ) (calls : List Call) → AreAllReads MayGoOn most at calls → AreReads MayGoOn most at calls
reads_of_all MayGoOn most at [] h = tt
reads_of_all MayGoOn most at (Read size None ∷ calls) h = absurd h
reads_of_all MayGoOn most at (Read size (Some n) ∷ calls) (next, inl end) =
    (next, (λ none. end.1), subst (AreReads MayGoOn most (at + n)) (sym end.1) tt)
reads_of_all MayGoOn most at (Read size (Some n) ∷ calls) (next, inr more) =
    (next, (λ none. absurd (omega (arith, none, more.0))), reads_of_all MayGoOn most (at + n) calls more.1)
reads_of_all MayGoOn most at (OpenIn name done ∷ calls) h = absurd h
reads_of_all MayGoOn most at (CreateOut name done ∷ calls) h = absurd h
reads_of_all MayGoOn most at (Finish done ∷ calls) h = absurd h
reads_of_all MayGoOn most at (Say ∷ calls) h = absurd h

pub taking_of_all : (name : List ℕ) (most : ℕ) (MayGoOn : List ℕ → Type 0) (told : Option Inputs) (calls : List Call) →
    IsWholeTaking name most MayGoOn told calls → IsTaking name most MayGoOn told calls
taking_of_all name most MayGoOn told [] h = absurd h
taking_of_all name most MayGoOn told (OpenIn other true ∷ calls) h =
    (h.0, reads_of_all (λ at. OfInput name told (λ bytes. MayGoOn (take at bytes))) most 0 calls h.1)
taking_of_all name most MayGoOn told (OpenIn other false ∷ calls) h = absurd h
taking_of_all name most MayGoOn told (Read size moved ∷ calls) h = absurd h
taking_of_all name most MayGoOn told (CreateOut other done ∷ calls) h = absurd h
taking_of_all name most MayGoOn told (Finish done ∷ calls) h = absurd h
taking_of_all name most MayGoOn told (Say ∷ calls) h = absurd h

-- ---- where a refusal stops

-- every refusal may come of one that is kept
pub may_come : (refusal : Refusal) (kept : Bool) → kept ≡ true → MayCome refusal kept
may_come NoMemory kept is = is
may_come refusal kept is = λ takes. is

-- it was opened, and so any refusal that may come stops there
pub ends_opened : (refusal : Refusal) (kept : Bool) (name : List ℕ) (told : Option Inputs) (calls : List Call) → MayCome refusal kept →
    IsOpened name told calls → EndsTaking refusal kept name told calls
ends_opened ReadFault kept name told calls may h = tt
ends_opened NoMemory true name told calls may h = h
ends_opened NoMemory false name told calls may h = absurd (cc)
ends_opened refusal kept name told calls may h = (h, may)

opened_by : (name : List ℕ) (most : ℕ) (MayGoOn : List ℕ → Type 0) (told : Option Inputs) (calls : List Call) →
    is_missing name told ≡ false → IsWholeTaking name most MayGoOn told calls → IsOpened name told calls
opened_by name most MayGoOn told [] there h = absurd h
opened_by name most MayGoOn told (OpenIn other true ∷ calls) there h = there
opened_by name most MayGoOn told (OpenIn other false ∷ calls) there h = absurd h
opened_by name most MayGoOn told (Read size moved ∷ calls) there h = absurd h
opened_by name most MayGoOn told (CreateOut other done ∷ calls) there h = absurd h
opened_by name most MayGoOn told (Finish done ∷ calls) there h = absurd h
opened_by name most MayGoOn told (Say ∷ calls) there h = absurd h

-- what stops behind an input that was taken stops at it
pub last_taken : (input : Input) (refusal : Refusal) (told : Option Inputs) (a x y : List Call) → MayCome refusal input.judge.kept →
    a ≡ x ++ y → IsWholeTakingOf input told x → IsThereAndGood input told → y ≡ [] →
    IsTakingOf input told a × EndsTaking refusal input.judge.kept input.name told a
last_taken input refusal told a x y may e whole good none =
    let there = is_there input.name told (input.judge.IsGood told) good in
    subst (λ z. IsTakingOf input told z × EndsTaking refusal input.judge.kept input.name told z)
    (sym (e ∙ ap (λ z. x ++ z) none ∙ append-nil x)) (
      taking_of_all input.name input.judge.most input.judge.MayGoOn told x whole,
      ends_opened refusal input.judge.kept input.name told x may
          (opened_by input.name input.judge.most input.judge.MayGoOn told x there whole),
    )
