use Rattle.std.proofs.Common.{rules, ◌≡◌, ◌-◌, Some, drop, subst, arith}
use Rattle.std.proofs.lemmas.List.{take_rest}
use Rattle.capture_file.specs.Streams.{most_turns, number_at}
use Rattle.capture_file.proofs.OtherRecords.{number_there, pair_bytes, same_number}
use Rattle.capture_file.proofs.pairs.dword_and_turns.Goals.{
  then-turns-eq0-via-then-turns-eq0,
  then-turns-eq0-via-else-turns-eq0+then-turns-left,
}
use Rattle.capture_file.proofs.pairs.dword_and_turns.Goals as goal

pub returns-then-bytes-ne-TURNS-clause-none : goal.returns-then-bytes-ne-TURNS-clause-none
returns-then-bytes-ne-TURNS-clause-none c = λ queue dword count is.
    let known = pair_bytes queue (most_turns - c.args.left) c.args.bytes.now dword count (omega arith) is in
    c.if-bytes-ne-TURNS.true known.turn

pub returns-then-turns-eq0-clause-none : goal.returns-then-turns-eq0-clause-none
returns-then-turns-eq0-clause-none c = λ queue dword count is.
    let known = pair_bytes queue (most_turns - c.args.left) c.args.bytes.now dword count (omega arith) is in
    let some = is.some in
    let few = known.few in
    let whole = is.whole in
    let read : number_at (drop 7 c.args.bytes.now) ≡ Some c.read_u32-turns.result =
    subst (λ bytes. number_at bytes ≡ Some c.read_u32-turns.result) (take_rest c.args.bytes.now 7)
    (number_there _ c.read_u32-turns.result (search (rules, whole)) c.read_u32-turns.ensures)
    in
    let same : c.read_u32-turns.result ≡ count =
    same_number c.read_u32-turns.result count (number_at (drop 7 c.args.bytes.now)) read known.number in
    elim c.then-turns-eq0.branch [
      | then-turns-eq0-via-then-turns-eq0 w ↦ omega (arith, some, same, w.if-turns-eq0.true)
      | then-turns-eq0-via-else-turns-eq0+then-turns-left w ↦ omega (arith, few, same, w.if-turns-left.true, c.requires)
    ]
