use Rattle.std.proofs.Common.{ℕ, ◌+◌, ◌*◌, ◌<◌, ◌≤◌, ◌∙◌, List, length, Ok, Err, IfOk, ap, sym}
use Rattle.machine_model.specs.Paths.{RiscProgram, IsProgram}
use Rattle.risc_word.specs.Words.{Reading, instr_at}
use Rattle.risc_verify.specs.Places.{IsAt}
use Rattle.risc_verify.specs.declared.spans.SpanPlace.{SpanPlace}
use Rattle.risc_verify.proofs.Near.{at-later, told-fetch, told-low}
use Rattle.risc_verify.proofs.program.Program.instr_on.Goals as goal

pub returns-clause-value : goal.returns-clause-value
returns-clause-value c =
    let there = c.requires.at.there c.requires.inside in
    c.decode.ensures.value ∙ ap (λ ws. instr_at ws c.args.word) c.requires.at.part
    ∙ sym (told-fetch c.args.self.now c.base-base.ensures.made c.args.near c.requires.at.near c.args.address c.args.word there)

pub returns-clause-low : goal.returns-clause-low
returns-clause-low c =
    let there = c.requires.at.there c.requires.inside in
    told-low c.args.self.now c.base-base.ensures.made c.args.near c.requires.at.near c.args.address c.args.word there

behind : (program : RiscProgram) (made : IsProgram program) (p : SpanPlace) (words : List ℕ) (word address : ℕ) →
    IsAt program p words word address → word < length words → (result : Reading) →
    IfOk result (λ read. (1 ≤ read.1) × (word + read.1 ≤ length words)) →
    IfOk result (λ read. IsAt program p words (word + read.1) (address + 4 * read.1))
behind program made p words word address at inside (Err fault) within = tt
behind program made p words word address at inside (Ok read) within =
    at-later program made p at.near address word (at.there inside) words read.1 at.part within.1

pub returns-clause-behind : goal.returns-clause-behind
returns-clause-behind c =
    behind c.args.self.now c.base-base.ensures.made c.args.near c.args.words.now c.args.word c.args.address c.requires.at
    c.requires.inside c.decode.result c.decode.ensures.within
