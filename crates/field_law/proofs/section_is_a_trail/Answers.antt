use Rattle.field_law.proofs.InSection.{section_leads}
use Rattle.field_law.proofs.section_is_a_trail.Goals as goal

pub returns : goal.returns
returns c = section_leads
