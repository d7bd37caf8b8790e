use Rattle.std.proofs.Common.{◌≡◌, ◌+◌, ◌≤◌, ◌∙◌, ap, sym, subst, length, take, List, ℕ}
use Rattle.std.proofs.lemmas.List.{length-take-le}
use Rattle.risc_word.specs.Words.{instr_at}
use Rattle.machine_model.specs.Paths.{all_words}
use Rattle.risc_verify.specs.Places.{IsAt}
use Rattle.risc_verify.proofs.Near.{at-word, told-end, told-fetch, told-low, told-small}
use Rattle.risc_verify.proofs.program.Program.words_near.Goals as goal

pub end-requires : goal.end-requires
end-requires c =
    told-small c.args.self.now c.base-base.ensures.made c.args.near c.requires.near c.args.address c.args.word c.requires.there

pub slice_bounds-result-end : goal.slice_bounds-result-end
slice_bounds-result-end c =
    let p = c.args.near in
    let within = told-end c.args.self.now c.base-base.ensures.made p c.requires.near c.args.address c.args.word c.requires.there in
    sym (length-take-le c.end.result c.words.result.now (subst (λ n. n ≤ length c.words.result.now) (sym c.end.ensures)
    (subst (λ (ws : List ℕ). p.first + p.count ≤ length ws) (sym c.words.ensures.value) within)))

pub returns-clause-value : goal.returns-clause-value
returns-clause-value c =
    ap (λ n. instr_at (take n c.words.result.now) c.args.word) c.end.ensures
    ∙ ap (λ ws. instr_at (take (c.args.near.first + c.args.near.count) ws) c.args.word) c.words.ensures.value
    ∙ sym (told-fetch c.args.self.now c.base-base.ensures.made c.args.near c.requires.near c.args.address c.args.word c.requires.there)

pub returns-clause-inside : goal.returns-clause-inside
returns-clause-inside c =
    told-low c.args.self.now c.base-base.ensures.made c.args.near c.requires.near c.args.address c.args.word c.requires.there

pub returns-clause-at : goal.returns-clause-at
returns-clause-at c =
    let p = c.args.near in
    let same : take (p.first + p.count) (all_words c.args.self.now) ≡ take c.end.result c.words.result.now =
    ap (λ ws. take (p.first + p.count) ws) (sym c.words.ensures.value) ∙ ap (λ n. take n c.words.result.now) (sym c.end.ensures) in
    subst (λ (ws : List ℕ). IsAt c.args.self.now p ws c.args.word c.args.address) same
    (at-word c.args.self.now c.base-base.ensures.made p c.requires.near c.args.address c.args.word c.requires.there)
