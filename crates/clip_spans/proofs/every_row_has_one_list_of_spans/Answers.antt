use Rattle.clip_spans.specs.Clipping.{clipped_at}
use Rattle.clip_spans.specs.Runs.{spans_of}
use Rattle.clip_spans.proofs.Few.{spans-few}
use Rattle.clip_spans.proofs.Runs.{only_spans, runs-alternate, spans_of-spans}
use Rattle.clip_spans.proofs.every_row_has_one_list_of_spans.Goals as goal

pub returns-clause-list : goal.returns-clause-list
returns-clause-list c = spans_of-spans

pub returns-clause-only : goal.returns-clause-only
returns-clause-only c = only_spans

pub returns-clause-alternate : goal.returns-clause-alternate
returns-clause-alternate c = λ rects row width unit.
    runs-alternate (clipped_at rects row unit) width 0 (spans_of rects row width unit) (spans_of-spans rects row width unit)

pub returns-clause-few : goal.returns-clause-few
returns-clause-few c = spans-few
