use Rattle.std.proofs.Common.{◌≡◌, ◌%◌, ◌∙◌, false, ℕ, length, sym, ap, subst, arith}
use Rattle.std.specs.List.{All}
use Rattle.machine_model.specs.Paths.{IsSound, RiscProgram, shares_byte}
use Rattle.capture_desc.specs.declared.desc.Desc.{Desc}
use Rattle.program_build.proofs.Checking.{checked_few, checked_program, checked_room, checked_sound, same_program}
use Rattle.program_build.proofs.checked.program_of.Goals as goal

pub new-requires-clause-aligned : goal.new-requires-clause-aligned
new-requires-clause-aligned c =
    let base = ap (λ (e : Desc). e.base) c.desc.ensures.value in
    subst (λ (n : ℕ). n % 4 ≡ 0) (sym base) (checked_room c.args.frame.now c.requires.checked).base

pub new-requires-clause-few : goal.new-requires-clause-few
new-requires-clause-few c =
    let few = checked_few c.args.frame.now c.requires.checked in
    let size = ap length c.requires.words in omega arith

pub new-requires-clause-ends : goal.new-requires-clause-ends
new-requires-clause-ends c =
    let base = ap (λ (e : Desc). e.base) c.desc.ensures.value in
    let ends = (checked_room c.args.frame.now c.requires.checked).ends in
    let size = ap length c.requires.words in omega arith

pub new-requires-clause-apart : goal.new-requires-clause-apart
new-requires-clause-apart c =
    let d = c.args.frame.now in
    let same =
    same_program c.desc.result.now.base c.args.words.items c.in_ok-grants.grants d
    (ap (λ (e : Desc). e.base) c.desc.ensures.value) c.requires.words c.in_ok-grants.ensures.grants in
    subst (λ (p : RiscProgram). All (λ chunk. shares_byte p chunk ≡ false) p.grants) (sym same) (checked_program d c.requires.checked).apart

pub returns-clause-sound : goal.returns-clause-sound
returns-clause-sound c =
    let d = c.args.frame.now in
    let same =
    same_program c.desc.result.now.base c.args.words.items c.in_ok-grants.grants d
    (ap (λ (e : Desc). e.base) c.desc.ensures.value) c.requires.words c.in_ok-grants.ensures.grants in
    subst IsSound (sym (c.new.ensures ∙ same)) (checked_sound d c.requires.checked)
