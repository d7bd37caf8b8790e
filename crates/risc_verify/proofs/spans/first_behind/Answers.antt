use Rattle.std.proofs.Common.{◌≡◌, ◌++◌, ◌∙◌, ap, sym, arith, ◌≤◌, length}
use Rattle.std.specs.List.{prefix_len, slice_get}
use Rattle.std.specs.Option.{option_to_list}
use Rattle.std.proofs.lemmas.List.Sums.{prefix_len-le-length}
use Rattle.std.proofs.lemmas.Bool.{ltb-false}
use Rattle.risc_verify.proofs.Cuts.{ends_by, behind_all}
use Rattle.risc_verify.proofs.spans.first_behind.Goals as goal

pub returns-in-None : goal.returns-in-None
returns-in-None c =
    let before = c.args.before.now in
    let n = prefix_len (ends_by c.args.address) before in
    let most = prefix_len-le-length (ends_by c.args.address) before in
    let late : length before ≤ c.ended.result = omega (arith, ltb-false c.ended.result (length before) (sym c.in-None.ensures.lookup.0)) in
    let all : n ≡ length before = omega (arith, c.ended.ensures) in
    sym (ap (slice_get (before ++ option_to_list c.args.last)) all ∙ behind_all before c.args.last)
