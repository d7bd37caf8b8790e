use Rattle.std.proofs.Common.{ap, ◌∙◌}
use Rattle.capture_desk.specs.Memory.{created_by}
use Rattle.capture_desk.proofs.Told.{creates_told}
use Rattle.capture_desk.proofs.memory.MemDeskDesk.create_out.Goals as goal

pub returns-clause-creates : goal.returns-clause-creates
returns-clause-creates c =
    creates_told c.args.name.now c.args.self.now c.create_step.new.self c.create_step.result c.requires.allowed
    c.create_step.ensures.answer (c.create_step.ensures.after ∙ ap (λ n. created_by n c.args.self.now) c.as_bytes.ensures.value)
