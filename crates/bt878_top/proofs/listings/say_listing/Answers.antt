use Rattle.std.proofs.Common.{List, ℕ, subst}
use Rattle.capture_desk.specs.Desks.{Puts, after_say}
use Rattle.risc_listing.specs.Listings.{all_word_lines}
use Rattle.bt878_top.proofs.Saying.{then_said}
use Rattle.bt878_top.proofs.listings.say_listing.Goals as goal

pub returns-clause-says : goal.returns-clause-says
returns-clause-says g c =
    let program = c.args.listed.now.program in
    let mid = (g.D.Desk.seen c.say_all_words.new.desk).told in
    let last =
    subst (λ (memory : List ℕ). Puts memory c.say_all.result after_say mid (g.D.Desk.seen c.say_all.new.desk).told) c.deref.ensures.value
    c.say_all.ensures.says in
    then_said (all_word_lines program) c.args.listed.now.memory.items _ _ _ c.say_all.result c.in_ok-say_all_words.ensures.says last
