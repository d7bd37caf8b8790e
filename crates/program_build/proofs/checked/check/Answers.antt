use Rattle.std.proofs.Common.{ℕ, Some, None, refl, Vec, Global}
use Rattle.std.proofs.lemmas.Result.{err_from_is_err_and}
use Rattle.capture_desc.specs.declared.desc.Desc.{Desc}
use Rattle.picture_model.specs.Geometry.{first_after, first_fault, frame_fault, frame_faults, program_faults}
use Rattle.planar_plan.proofs.Faults.{judges_err, some_front}
use Rattle.program_build.proofs.Checking.{then_program}
use Rattle.program_build.proofs.checked.check.Goals as goal

pub returns-in_err-frame-clause-answer : goal.returns-in_err-frame-clause-answer
returns-in_err-frame-clause-answer c =
    let p = err_from_is_err_and c.from_residual.result c.from_residual.ensures.1 in
    let d = c.args.desc in
    rw (p.1, p.2) (judges_err Desc Desc (frame_fault d) (first_fault d) c.in_err-frame.field-0.0
    (some_front frame_faults program_faults d) c.in_err-frame.ensures.answer)

pub returns-in_err-words-clause-answer : goal.returns-in_err-words-clause-answer
returns-in_err-words-clause-answer c =
    let p = err_from_is_err_and c.from_residual-in_err-words.result c.from_residual-in_err-words.ensures.1 in
    let d = c.args.desc in
    let e = c.in_ok-frame.frame in
    rw (p.1, p.2) (judges_err (Vec ℕ Global) Desc (first_after None program_faults e) (first_fault d) c.in_err-words.field-0.0
    (λ fault. then_program d e (Some fault) c.in_ok-frame.ensures.answer c.in_ok-frame.ensures.same) c.in_err-words.ensures.answer)

pub invariant_of-result : goal.invariant_of-result
invariant_of-result c =
    let e = c.in_ok-frame.frame in
    record {
      checked = record {
        description = c.in_ok-words.ensures.description;
        valid = then_program e e None c.in_ok-frame.ensures.framed.geometry refl c.in_ok-words.ensures.answer;
      };
      words = c.in_ok-words.ensures.words;
    }

pub returns-clause-answer : goal.returns-clause-answer
returns-clause-answer c =
    then_program c.args.desc c.in_ok-frame.frame None c.in_ok-frame.ensures.answer c.in_ok-frame.ensures.same c.in_ok-words.ensures.answer

pub returns-clause-checked : goal.returns-clause-checked
returns-clause-checked c = (invariant_of-result c).checked
