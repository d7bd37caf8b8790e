use Rattle.std.proofs.Common.{◌≡◌, ◌∙◌, ◌++◌, List, ℕ, ap, refl, subst}
use Rattle.std.specs.List.{flat_map}
use Rattle.page_table.specs.Grants.{Chunk}
use Rattle.risc_listing.specs.Listings.{all_word_lines, chunk_line, fill_line}
use Rattle.risc_asm.specs.Verdicts.{IsAlike}
use Rattle.risc_asm.proofs.Agreeing.{alike_after, alike_before}
use Rattle.risc_asm.proofs.compare.compare.Goals as goal
use Rattle.risc_asm.proofs.compare.compare.Goals.{in-Alike, in-Whole}

pub returns-in-Err-clause-value : goal.returns-in-Err-clause-value
returns-in-Err-clause-value c =
    alike_before _ (all_word_lines c.args.program.now)
    (flat_map chunk_line c.args.program.now.grants ++ fill_line c.args.fill) c.args.text.now c.in-Err.left.now refl c.in-Err.ensures.value

pub returns-clause-value : goal.returns-clause-value
returns-clause-value c =
    let program = c.args.program.now in
    let lines = all_word_lines program in
    let text = c.args.text.now in
    let rest = c.in-Ok.rest.now in
    let last = flat_map chunk_line program.grants ++ fill_line c.args.fill in
    let last_is : c.deref.result.now ≡ last =
    c.deref.ensures.value ∙ c.in_ok-last.ensures
    ∙ ap (λ (list : List Chunk). flat_map chunk_line list ++ fill_line c.args.fill) c.grants.ensures.value in
    let told = c.compare_end.ensures in
    elim c.match-compare_end.branch [
      | in-Alike w ↦
          rw w.result-is (alike_after _ w.in-Alike.number lines last text rest c.in-Ok.ensures.value refl
          (subst (IsAlike w.in-Alike.number rest) last_is (rw w.in-Alike.is at told)))
      | in-Whole w ↦ rw w.result-is (c.in-Ok.ensures.value ∙ ap (λ (list : List ℕ). lines ++ list) (rw w.in-Whole.is at told ∙ last_is))
    ]
