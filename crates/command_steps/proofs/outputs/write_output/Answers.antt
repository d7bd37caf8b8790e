use Rattle.std.proofs.Common.{ℕ, List, [], ◌∷◌, Option, Result, Ok, Err, true, false, inl, inr, refl}
use Rattle.std.proofs.lemmas.Result.{err_from_is_err_and}
use Rattle.capture_desk.specs.declared.calls.Call.{Call}
use Rattle.capture_desk.specs.declared.calls.Call.TheVariants.{CreateOut, Finish}
use Rattle.capture_desk.specs.declared.desk.Failed.{Failed}
use Rattle.capture_desk.specs.Desks.{Tells, was_done}
use Rattle.capture_desk.proofs.Telling.{tells_both, tells_same_after}
use Rattle.command_steps.specs.Outputs.{IsFileOf}
use Rattle.command_steps.proofs.outputs.write_output.Goals as goal

pub returns-in_err-create_out-clause-calls : goal.returns-in_err-create_out-clause-calls
returns-in_err-create_out-clause-calls g c =
    let p = err_from_is_err_and c.from_residual.result c.from_residual.ensures.1 in
    rw p.1 (_, inl refl, c.in_err-create_out.ensures.calls)

pub returns-in_err-put-clause-calls : goal.returns-in_err-put-clause-calls
returns-in_err-put-clause-calls g c =
    let p = err_from_is_err_and c.from_residual-in_err-put.result c.from_residual-in_err-put.ensures.1 in
    rw p.1 (
      _,
      inr (inl refl),
      tells_same_after (CreateOut c.args.name.now true ∷ []) _ _ _ c.in_ok-create_out.ensures.calls c.in_err-put.ensures.counts.1,
    )

-- the calls of a file that was written, and is finished or not
file_calls : (A E : Type 0) (r : Result A E) (name : List ℕ) (old mid new : Option (List Call)) → Tells (CreateOut name true ∷ []) old mid →
    Tells (Finish (was_done r) ∷ []) mid new →
    (calls : List Call) × IsFileOf name r calls × Tells calls old new
file_calls A E (Ok x) name old mid new made done = (_, refl, tells_both (CreateOut name true ∷ []) (Finish true ∷ []) old mid new made done)
file_calls A E (Err x) name old mid new made failed =
    (_, inr (inr refl), tells_both (CreateOut name true ∷ []) (Finish false ∷ []) old mid new made failed)

pub returns-clause-calls : goal.returns-clause-calls
returns-clause-calls g c =
    file_calls (Unit {0}) Failed c.finish.result c.args.name.now _ _ _
    (tells_same_after (CreateOut c.args.name.now true ∷ []) _ _ _ c.in_ok-create_out.ensures.calls c.in_ok-put.ensures.counts.2)
    c.finish.ensures.calls
