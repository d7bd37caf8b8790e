use Rattle.capture_desk.proofs.Told.{writes_told}
use Rattle.capture_desk.proofs.memory.MemDeskDesk.write.Goals as goal

pub returns-clause-appends : goal.returns-clause-appends
returns-clause-appends c =
    writes_told c.args.bytes.now c.args.self.now c.write_step.new.self c.write_step.result
    c.write_step.ensures.answer c.write_step.ensures.after c.write_step.ensures.moves
