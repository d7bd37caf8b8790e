use Rattle.std.proofs.Common.{◌≡◌, ◌-◌, ℕ, sym, ◌∙◌, arith, length, take}
use Rattle.std.proofs.lemmas.List.{append-nil, take_all}
use Rattle.capture_file.proofs.Programs.{words_set}
use Rattle.capture_file.proofs.program.read_numbers.Goals as goal

pub loop-i-preserved : goal.loop-i-preserved
loop-i-preserved c =
    words_set c.loop-i.numbers c.args.bytes.now _ c.loop-i.i c.number_from.result c.loop-i-test.true c.loop-i.auto.numbers
    c.number_from.ensures
    c.loop-i.invariant

pub returns : goal.returns
returns c =
    let count : ℕ = length c.args.numbers.now in
    let none : count - c.loop-i.i ≡ 0 = omega arith in
    let all : take c.loop-i.i c.loop-i.numbers ≡ c.loop-i.numbers = take_all c.loop-i.i c.loop-i.numbers (omega arith) in
    sym (append-nil c.loop-i.numbers) ∙ (rw (all, none) at c.loop-i.invariant)
