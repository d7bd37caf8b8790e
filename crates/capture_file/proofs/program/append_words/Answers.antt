use Rattle.std.proofs.Common.{◌+◌, ◌-◌, ◌*◌, ◌≤◌, ◌++◌, ◌∙◌, ℕ, List, ap, arith, drop, length}
use Rattle.capture_file.specs.Programs.{words_in}
use Rattle.capture_file.proofs.Programs.{group_read, words_group}
use Rattle.capture_file.proofs.program.append_words.Goals as goal

pub loop-at-preserved : goal.loop-at-preserved
loop-at-preserved c =
    let at = c.loop-at.at in
    let few = c.min-few.result in
    let bytes = c.args.bytes.now in
    let words = c.loop-at.words.items in
    let total = c.args.words.now.items ++ words_in c.args.count bytes in
    let room : few ≤ length c.loop-at.group = omega arith in
    let within : at + few ≤ c.args.count = omega arith in
    let read =
    group_read words c.extend_from_slice.new.self.items bytes c.loop-at.group c.read_numbers.new.numbers at few room
    c.read_numbers.auto.numbers c.read_numbers.ensures c.in_ok-extend_from_slice.ensures.items in
    record {
      words = ap (λ (ws : List ℕ). ws ++ words_in (c.args.count - (at + few)) (drop (4 * (at + few)) bytes)) read.0
          ∙ words_group words bytes total c.args.count at few within c.loop-at.invariant.words;
      len = omega (arith, read.1, c.loop-at.invariant.len);
      within = within;
    }
