use Rattle.std.proofs.Common.{◌≡◌, ◌<◌, ◌*◌, ◌-◌, ◌%◌, length, ap, refl, subst, sym, ◌∙◌, arith}
use Rattle.std.specs.Prelude.{nat_lt}
use Rattle.std.proofs.lemmas.List.{length-take, take_rest}
use Rattle.machine_model.specs.Steps.{with_program}
use Rattle.dma_machine.specs.Needs.{CanWork}
use Rattle.dma_machine.specs.Plain.{all_pushed, plain_room}
use Rattle.dma_machine.specs.Views.{job_of, state_of}
use Rattle.dma_machine.proofs.PlainPushes.{made_counted, made_few, made_taken, made_waiting, parted, plain_run}
use Rattle.dma_machine.proofs.PlainPushes.{plain_run-program, plain_taken, settled}
use Rattle.dma_machine.proofs.PlainRoom.{room_running, takes_all, takes_room}
use Rattle.dma_machine.proofs.engine.Engine.push_plain.Goals as goal
use Rattle.dma_machine.proofs.engine.Engine.push_plain.Goals.{then-taken, else-taken}

pub put_run-requires-clause-running : goal.put_run-requires-clause-running
put_run-requires-clause-running g c =
    let m = c.args.self.now in
    let before = state_of g.R.Ram.memory m in
    room_running m.phase m.wait m.instr m.demands c.args.q (plain_room c.args.q before) before refl
    (omega (arith, c.requires.some, c.requires.room)) (omega arith)

pub put_run-requires-clause-on : goal.put_run-requires-clause-on
put_run-requires-clause-on g c =
    let m = c.args.self.now in
    let before = state_of g.R.Ram.memory m in
    let some : 0 < plain_room c.args.q before = omega (arith, c.requires.some, c.requires.room) in
    let running = room_running m.phase m.wait m.instr m.demands c.args.q (plain_room c.args.q before) before refl some (omega arith) in
    m.lanes ∙ (takes_room c.args.q (plain_room c.args.q before) before m.instr m.demands
    (ap (λ phase. job_of phase m.wait m.instr m.demands) running) c.requires.orderly m.fit.some c.requires.queues some (omega arith)).off

pub put_run-requires-clause-asked : goal.put_run-requires-clause-asked
put_run-requires-clause-asked g c =
    let m = c.args.self.now in
    let before = state_of g.R.Ram.memory m in
    let some : 0 < plain_room c.args.q before = omega (arith, c.requires.some, c.requires.room) in
    let running = room_running m.phase m.wait m.instr m.demands c.args.q (plain_room c.args.q before) before refl some (omega arith) in
    let rest =
    (takes_room c.args.q (plain_room c.args.q before) before m.instr m.demands
    (ap (λ phase. job_of phase m.wait m.instr m.demands) running) c.requires.orderly m.fit.some c.requires.queues some
    (omega arith)).rest in
    let many = length-take (length c.args.dwords.now - length c.args.dwords.now % (4 * c.from.result)) c.args.dwords.now in
    omega (arith, rest, c.requires.room, many)

pub put_run-requires-clause-within : goal.put_run-requires-clause-within
put_run-requires-clause-within g c =
    let m = c.args.self.now in
    let before = state_of g.R.Ram.memory m in
    let running =
    room_running m.phase m.wait m.instr m.demands c.args.q (plain_room c.args.q before) before refl
    (omega (arith, c.requires.some, c.requires.room)) (omega arith) in
    (subst (λ phase. CanWork (job_of phase m.wait m.instr m.demands) (state_of g.R.Ram.memory m)) running c.requires.can).within

pub returns-clause-state : goal.returns-clause-state
returns-clause-state g c = λ entries given.
    let m = c.args.self.now in
    let before = state_of g.R.Ram.memory m in
    let whole = length c.args.dwords.now - length c.args.dwords.now % (4 * c.from.result) in
    let rest = take_rest c.args.dwords.now whole in
    let some : 0 < plain_room c.args.q before = omega (arith, c.requires.some, c.requires.room) in
    let running = room_running m.phase m.wait m.instr m.demands c.args.q (plain_room c.args.q before) before refl some (omega arith) in
    let takes =
    takes_all c.args.q before m.instr m.demands (ap (λ phase. job_of phase m.wait m.instr m.demands) running) c.requires.orderly m.fit.some
    c.requires.queues c.args.turns c.args.dwords.now entries c.requires.some c.requires.room given in
    let p =
    parted before whole c.args.turns c.args.dwords.now entries m.fit.some given
    (ap (λ n. length c.args.dwords.now - length c.args.dwords.now % (4 * n)) c.from.ensures) in
    let settles : state_of g.R.Ram.memory c.push_all.new.self ≡ settled (nat_lt 0 whole) c.args.q m.instr m.demands p.first p.later before =
    elim c.if-taken.branch [
      | then-taken w ↦ made_taken c.args.q m.instr m.demands before whole c.args.turns (nat_lt 0 whole) c.args.dwords.now entries p refl
          takes given
          (let some_bytes = w.if-taken.true in grind (arith, some_bytes)) _ _ (ap (state_of g.R.Ram.memory) w.self-is ∙ w.put_run.ensures)
          (λ es bytes fits. c.push_all.ensures es (bytes ∙ sym rest) fits)
      | else-taken w ↦ made_waiting c.args.q m.instr m.demands before whole c.args.turns (nat_lt 0 whole) c.args.dwords.now entries p refl
          takes
          given (let no_bytes = w.if-taken.false in grind (arith, no_bytes)) _
          (λ es bytes fits. c.push_all.ensures es (bytes ∙ sym rest) fits
          ∙ ap (λ s. all_pushed c.args.q es (state_of g.R.Ram.memory s)) w.self-is)
    ] in
    let few =
    made_few c.args.q m.instr m.demands before whole c.args.turns (nat_lt 0 whole) c.args.dwords.now entries p refl takes given _
    settles c.count.ensures.few in
    made_counted c.args.q m.instr m.demands before whole c.args.turns (nat_lt 0 whole) c.args.dwords.now entries p refl takes given _ _
    settles c.count.ensures.state
    ∙ sym (plain_run c.args.q m.instr m.demands before whole c.args.turns (nat_lt 0 whole) c.args.dwords.now entries p refl takes given few)

-- whatever the program is
pub returns-clause-others : goal.returns-clause-others
returns-clause-others g c = λ program entries given.
    let m = c.args.self.now in
    let before = state_of g.R.Ram.memory m in
    let whole = length c.args.dwords.now - length c.args.dwords.now % (4 * c.from.result) in
    let rest = take_rest c.args.dwords.now whole in
    let some : 0 < plain_room c.args.q before = omega (arith, c.requires.some, c.requires.room) in
    let running = room_running m.phase m.wait m.instr m.demands c.args.q (plain_room c.args.q before) before refl some (omega arith) in
    let takes =
    takes_all c.args.q before m.instr m.demands (ap (λ phase. job_of phase m.wait m.instr m.demands) running) c.requires.orderly m.fit.some
    c.requires.queues c.args.turns c.args.dwords.now entries c.requires.some c.requires.room given in
    let p =
    parted before whole c.args.turns c.args.dwords.now entries m.fit.some given
    (ap (λ n. length c.args.dwords.now - length c.args.dwords.now % (4 * n)) c.from.ensures) in
    let settles : state_of g.R.Ram.memory c.push_all.new.self ≡ settled (nat_lt 0 whole) c.args.q m.instr m.demands p.first p.later before =
    elim c.if-taken.branch [
      | then-taken w ↦ made_taken c.args.q m.instr m.demands before whole c.args.turns (nat_lt 0 whole) c.args.dwords.now entries p refl
          takes given
          (let some_bytes = w.if-taken.true in grind (arith, some_bytes)) _ _ (ap (state_of g.R.Ram.memory) w.self-is ∙ w.put_run.ensures)
          (λ es bytes fits. c.push_all.ensures es (bytes ∙ sym rest) fits)
      | else-taken w ↦ made_waiting c.args.q m.instr m.demands before whole c.args.turns (nat_lt 0 whole) c.args.dwords.now entries p refl
          takes
          given (let no_bytes = w.if-taken.false in grind (arith, no_bytes)) _
          (λ es bytes fits. c.push_all.ensures es (bytes ∙ sym rest) fits
          ∙ ap (λ s. all_pushed c.args.q es (state_of g.R.Ram.memory s)) w.self-is)
    ] in
    let few =
    made_few c.args.q m.instr m.demands before whole c.args.turns (nat_lt 0 whole) c.args.dwords.now entries p refl takes given _
    settles c.count.ensures.few in
    ap (with_program program)
    (made_counted c.args.q m.instr m.demands before whole c.args.turns (nat_lt 0 whole) c.args.dwords.now entries p refl takes given _ _
    settles c.count.ensures.state)
    ∙ sym (plain_run-program c.args.q m.instr m.demands before whole c.args.turns (nat_lt 0 whole) c.args.dwords.now entries p refl takes
    given
    program few)

pub returns-clause-taken : goal.returns-clause-taken
returns-clause-taken g c = λ entries given.
    let m = c.args.self.now in
    let before = state_of g.R.Ram.memory m in
    let whole = length c.args.dwords.now - length c.args.dwords.now % (4 * c.from.result) in
    let rest = take_rest c.args.dwords.now whole in
    let some : 0 < plain_room c.args.q before = omega (arith, c.requires.some, c.requires.room) in
    let running = room_running m.phase m.wait m.instr m.demands c.args.q (plain_room c.args.q before) before refl some (omega arith) in
    let takes =
    takes_all c.args.q before m.instr m.demands (ap (λ phase. job_of phase m.wait m.instr m.demands) running) c.requires.orderly m.fit.some
    c.requires.queues c.args.turns c.args.dwords.now entries c.requires.some c.requires.room given in
    let p =
    parted before whole c.args.turns c.args.dwords.now entries m.fit.some given
    (ap (λ n. length c.args.dwords.now - length c.args.dwords.now % (4 * n)) c.from.ensures) in
    let settles : state_of g.R.Ram.memory c.push_all.new.self ≡ settled (nat_lt 0 whole) c.args.q m.instr m.demands p.first p.later before =
    elim c.if-taken.branch [
      | then-taken w ↦ made_taken c.args.q m.instr m.demands before whole c.args.turns (nat_lt 0 whole) c.args.dwords.now entries p refl
          takes given
          (let some_bytes = w.if-taken.true in grind (arith, some_bytes)) _ _ (ap (state_of g.R.Ram.memory) w.self-is ∙ w.put_run.ensures)
          (λ es bytes fits. c.push_all.ensures es (bytes ∙ sym rest) fits)
      | else-taken w ↦ made_waiting c.args.q m.instr m.demands before whole c.args.turns (nat_lt 0 whole) c.args.dwords.now entries p refl
          takes
          given (let no_bytes = w.if-taken.false in grind (arith, no_bytes)) _
          (λ es bytes fits. c.push_all.ensures es (bytes ∙ sym rest) fits
          ∙ ap (λ s. all_pushed c.args.q es (state_of g.R.Ram.memory s)) w.self-is)
    ] in
    let few =
    made_few c.args.q m.instr m.demands before whole c.args.turns (nat_lt 0 whole) c.args.dwords.now entries p refl takes given _
    settles c.count.ensures.few in
    plain_taken c.args.q m.instr m.demands before whole c.args.turns (nat_lt 0 whole) c.args.dwords.now entries p refl takes given few
