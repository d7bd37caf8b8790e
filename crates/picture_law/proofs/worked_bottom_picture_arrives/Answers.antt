use Rattle.picture_law.proofs.WorkedBottom.{across_pages, bottom_signalled}
use Rattle.picture_law.proofs.worked_bottom_picture_arrives.Goals as goal

pub returns-clause-signalled : goal.returns-clause-signalled
returns-clause-signalled c = bottom_signalled

pub returns-clause-before_the_page_end : goal.returns-clause-before_the_page_end
returns-clause-before_the_page_end c = across_pages.0

pub returns-clause-behind_the_page_end : goal.returns-clause-behind_the_page_end
returns-clause-behind_the_page_end c = across_pages.1
