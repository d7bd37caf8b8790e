use Rattle.std.proofs.Common.{◌≡◌, List, ℕ, subst}
use Rattle.std.proofs.lemmas.Result.{err_from_is_err_and}
use Rattle.machine_model.specs.Paths.{all_words}
use Rattle.capture_desk.specs.Desks.{Puts, after_say}
use Rattle.risc_listing.specs.Listings.{base_line, word_lines}
use Rattle.bt878_top.proofs.Saying.{BreaksOff, breaks_off_within, then_said}
use Rattle.bt878_top.proofs.listings.say_base_and_words.Goals as goal

pub returns-in_err-say_base-clause-says : goal.returns-in_err-say_base-clause-says
returns-in_err-say_base-clause-says g c =
    let p = err_from_is_err_and c.from_residual.result c.from_residual.ensures.1 in
    let program = c.args.program.now in
    let broke =
    subst (λ (base : ℕ). BreaksOff (base_line base) (g.D.Desk.seen c.args.desk.now).told (g.D.Desk.seen c.say_base.new.desk).told)
    c.base.ensures.value c.in_err-say_base.ensures.says in
    rw p.1 (breaks_off_within (base_line program.base) (word_lines program.base 0 (all_words program)) _ _ broke)

pub returns-clause-says : goal.returns-clause-says
returns-clause-says g c =
    let program = c.args.program.now in
    let mid = (g.D.Desk.seen c.say_base.new.desk).told in
    let new = (g.D.Desk.seen c.say_words.new.desk).told in
    let first =
    subst (λ (base : ℕ). mid ≡ after_say (base_line base) (g.D.Desk.seen c.args.desk.now).told) c.base.ensures.value
    c.in_ok-say_base.ensures.says in
    let based =
    subst (λ (base : ℕ). Puts (word_lines base 0 c.words.result.now) c.say_words.result after_say mid new) c.base-2.ensures.value
    c.say_words.ensures.says in
    let last =
    subst (λ (words : List ℕ). Puts (word_lines program.base 0 words) c.say_words.result after_say mid new) c.words.ensures.value based in
    then_said (base_line program.base) (word_lines program.base 0 (all_words program)) _ _ _ c.say_words.result first last
