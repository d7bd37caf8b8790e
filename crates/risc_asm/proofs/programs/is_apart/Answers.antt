use Rattle.std.proofs.Common.{◌≡◌, ◌↔◌, ◌+◌, ◌*◌, Bool, false, not, length, sym, ap, subst, ◌∙◌}
use Rattle.std.specs.Prelude.{IsTrue}
use Rattle.std.specs.List.{All, list_any}
use Rattle.page_table.specs.Grants.{Chunk, is_met}
use Rattle.risc_asm.proofs.Making.{apart_if, clear_one}
use Rattle.risc_asm.proofs.programs.is_apart.Goals as goal

pub returns : goal.returns
returns c =
    let end = c.from.ensures in
    let test : Chunk → Bool = is_met c.args.base (c.args.base + 4 * length c.args.words.now) in
    let found : c.meets.result ≡ list_any test c.args.grants.now =
    c.meets.ensures.met ∙ ap (λ from. list_any (is_met c.args.base (from + 4 * length c.args.words.now)) c.args.grants.now) end in
    clear_one c.args.base c.args.words.now c.args.grants.now
    (subst (λ b. IsTrue (not b) ↔ All (λ chunk. test chunk ≡ false) c.args.grants.now) (sym found) (apart_if test c.args.grants.now))
