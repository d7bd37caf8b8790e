-- The calls that a desk tells: those of steps that follow one another, and runs of what is printed.
use Rattle.std.proofs.Common.{◌≡◌, ℕ, ◌<◌, inl, inr, List, [], ◌∷◌, ◌++◌, length, Option, Some, None, refl, sym, ap, ◌∙◌, arith}
use Rattle.capture_desk.specs.declared.calls.Call.{Call}
use Rattle.capture_desk.specs.declared.calls.Call.TheVariants.{OpenIn, Read, CreateOut, Finish, Say}
use Rattle.capture_desk.specs.Desks.{Tells, all_recorded, joined, recorded, said_by}

-- ---- steps that follow one another

all_of_none : (made : List Call) → all_recorded made None ≡ None
all_of_none [] = refl
all_of_none (call ∷ later) = all_of_none later

all_of_both : (first later : List Call) (calls : Option (List Call)) →
    all_recorded (first ++ later) calls ≡ all_recorded later (all_recorded first calls)
all_of_both [] later calls = refl
all_of_both (call ∷ first) later calls = all_of_both first later (recorded call calls)

pub tells_none : (calls : Option (List Call)) → Tells [] calls calls
tells_none calls = inr refl

tells_later : (first later : List Call) (old mid new : Option (List Call)) → Tells first old mid → new ≡ all_recorded later mid →
    Tells (first ++ later) old new
tells_later first later old mid new (inl e) f = inl (f ∙ ap (all_recorded later) e ∙ all_of_none later)
tells_later first later old mid new (inr e) f = inr (f ∙ ap (all_recorded later) e ∙ sym (all_of_both first later old))

pub tells_both : (first later : List Call) (old mid new : Option (List Call)) → Tells first old mid → Tells later mid new →
    Tells (first ++ later) old new
tells_both first later old mid new h (inl f) = inl f
tells_both first later old mid new h (inr f) = tells_later first later old mid new h f

-- a step that the desk doesn't tell
pub tells_same_after : (made : List Call) (old mid new : Option (List Call)) → Tells made old mid → new ≡ mid → Tells made old new
tells_same_after made old mid new (inl e) f = inl (f ∙ e)
tells_same_after made old mid new (inr e) f = inr (f ∙ e)

-- ---- runs of what is printed

joined_twice : (before : List Call) → joined Say (joined Say before) ≡ joined Say before
joined_twice [] = refl
joined_twice (OpenIn name done ∷ before) = refl
joined_twice (Read size moved ∷ before) = refl
joined_twice (CreateOut name done ∷ before) = refl
joined_twice (Finish done ∷ before) = refl
joined_twice (Say ∷ before) = refl

recorded_twice : (calls : Option (List Call)) → recorded Say (recorded Say calls) ≡ recorded Say calls
recorded_twice None = refl
recorded_twice (Some before) = ap Some (joined_twice before)

-- a run goes on: two runs that follow one another are told as one
same_run : (old mid new : Option (List Call)) → mid ≡ recorded Say old → new ≡ recorded Say mid → new ≡ recorded Say old
same_run old mid new e f = f ∙ ap (recorded Say) e ∙ recorded_twice old

pub one_run : (old mid new : Option (List Call)) → Tells (Say ∷ []) old mid → Tells (Say ∷ []) mid new → Tells (Say ∷ []) old new
one_run old mid new h (inl f) = inl f
one_run old mid new (inl e) (inr f) = inl (f ∙ ap (recorded Say) e)
one_run old mid new (inr e) (inr f) = inr (same_run old mid new e f)

-- a text, and then a call of `say`
pub say_more : (text : List ℕ) (old mid new : Option (List Call)) → Tells (said_by text) old mid → Tells (Say ∷ []) mid new →
    Tells (Say ∷ []) old new
say_more [] old mid new h (inl f) = inl f
say_more [] old mid new (inl e) (inr f) = inl (f ∙ ap (recorded Say) e)
say_more [] old mid new (inr e) (inr f) = inr (f ∙ ap (recorded Say) e)
say_more (x ∷ text) old mid new h f = one_run old mid new h f

-- a text that isn't empty is printed by one run
pub some_said : (text : List ℕ) (old new : Option (List Call)) → 0 < length text → Tells (Say ∷ []) old new → Tells (said_by text) old new
some_said [] old new few h = absurd (omega (arith, few))
some_said (x ∷ text) old new few h = h

-- two texts that follow one another
pub say_both : (a b : List ℕ) (old mid new : Option (List Call)) → Tells (said_by a) old mid → Tells (said_by b) mid new →
    Tells (said_by (a ++ b)) old new
say_both [] [] old mid new h f = tells_both [] [] old mid new h f
say_both [] (y ∷ b) old mid new h f = tells_both [] (Say ∷ []) old mid new h f
say_both (x ∷ a) [] old mid new h f = tells_both (Say ∷ []) [] old mid new h f
say_both (x ∷ a) (y ∷ b) old mid new h f = one_run old mid new h f
