use Rattle.std.proofs.lemmas.Result.{err_from_is_err_and}
use Rattle.risc_listing.specs.Listings.{span_line, word_lines}
use Rattle.bt878_top.proofs.Saying.{breaks_off_within, then_said}
use Rattle.bt878_top.proofs.listings.say_span.Goals as goal

pub returns-in_err-say_address-clause-says : goal.returns-in_err-say_address-clause-says
returns-in_err-say_address-clause-says g c =
    let p = err_from_is_err_and c.from_residual.result c.from_residual.ensures.1 in
    rw p.1 (breaks_off_within (span_line c.args.at) (word_lines c.args.at 0 c.args.words.now) _ _ c.in_err-say_address.ensures.says)

pub returns-clause-says : goal.returns-clause-says
returns-clause-says g c =
    then_said (span_line c.args.at)
    (word_lines c.args.at 0 c.args.words.now) _ _ _ c.say_words.result c.in_ok-say_address.ensures.says c.say_words.ensures.says
