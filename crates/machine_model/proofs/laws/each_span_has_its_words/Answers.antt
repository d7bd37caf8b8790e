use Rattle.machine_model.proofs.Spans.{word_of_span-at}
use Rattle.machine_model.proofs.laws.each_span_has_its_words.Goals as goal

pub returns : goal.returns
returns c = λ before after from s k apart inside. word_of_span-at before after from s k apart inside
