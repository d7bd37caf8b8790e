use Rattle.picture_model.proofs.Sections.{closing_stands, section_parts, section_stands}
use Rattle.picture_model.proofs.laws.sections_stand_in_their_program.Goals as goal

pub returns-clause-whole : goal.returns-clause-whole
returns-clause-whole c = section_stands

pub returns-clause-closing : goal.returns-clause-closing
returns-clause-closing c = closing_stands

pub returns-clause-parts : goal.returns-clause-parts
returns-clause-parts c = section_parts
