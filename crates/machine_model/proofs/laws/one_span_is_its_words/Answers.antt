use Rattle.machine_model.proofs.OneSpan.{all_words-one_span, fetch-one_span}
use Rattle.machine_model.proofs.laws.one_span_is_its_words.Goals as goal

pub returns-clause-words : goal.returns-clause-words
returns-clause-words c = λ base words grants. all_words-one_span base words grants

pub returns-clause-fetched : goal.returns-clause-fetched
returns-clause-fetched c = λ base n words grants. fetch-one_span base n words grants
