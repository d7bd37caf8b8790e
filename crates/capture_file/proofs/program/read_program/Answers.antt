use Rattle.std.proofs.Common.{◌≡◌, arith, subst, sym}
use Rattle.capture_file.specs.Programs.{Gives, HasWords, without_grants}
use Rattle.capture_file.specs.declared.program.ProgramError.TheVariants.{Memory}
use Rattle.capture_file.proofs.SpansRead.{has_words, whatever_fails}
use Rattle.capture_file.proofs.KeptRead.{placed_read, placed_value}
use Rattle.capture_file.proofs.program.read_program.Goals as goal

pub read_behind-requires-clause-placed : goal.read_behind-requires-clause-placed
read_behind-requires-clause-placed c =
    placed_read c.in_ok-form.form (without_grants c.in_ok-placed.placed.start c.in_ok-placed.placed.spans) c.args.bytes.now
    c.in_ok-form.rest.bytes.now c.in_ok-placed.rest.bytes.now c.in_ok-form.rest.size c.in_ok-placed.rest.size
    (λ i. omega (arith, c.type_inv.bytes i)) c.in_ok-form.ensures.rest.0 c.in_ok-placed.ensures.rest.0 c.in_ok-form.ensures.value
    c.in_ok-placed.ensures.value

pub returns-clause-value : goal.returns-clause-value
returns-clause-value c =
    let placed = without_grants c.in_ok-placed.placed.start c.in_ok-placed.placed.spans in
    subst (λ found. Gives (λ x. x) c.read_behind.result found)
    (sym (placed_value c.in_ok-form.form placed c.args.bytes.now c.in_ok-form.rest.bytes.now c.in_ok-placed.rest.bytes.now
    c.in_ok-form.rest.size c.in_ok-placed.rest.size (λ i. omega (arith, c.type_inv.bytes i)) c.in_ok-form.ensures.rest.0
    c.in_ok-placed.ensures.rest.0 c.in_ok-form.ensures.value c.in_ok-placed.ensures.value))
    c.read_behind.ensures

pub returns-clause-memory : goal.returns-clause-memory
returns-clause-memory c =
    let words : HasWords c.args.bytes.now =
    has_words c.in_ok-form.rest.size c.in_ok-form.form c.args.bytes.now c.in_ok-form.rest.bytes.now
    (without_grants c.in_ok-placed.placed.start c.in_ok-placed.placed.spans, c.in_ok-placed.rest.bytes.now)
    c.in_ok-form.ensures.rest.0 c.in_ok-form.ensures.value c.in_ok-placed.ensures.value in
    whatever_fails (λ e. e ≡ Memory → HasWords c.args.bytes.now) c.read_behind.result (λ e is. words)
