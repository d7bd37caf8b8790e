use Rattle.capture_file.proofs.Spelled.{spelled_again}
use Rattle.capture_file.proofs.Unspelled.{file_read}
use Rattle.capture_file.proofs.laws.one_spelling.Goals as goal

pub returns-clause-read : goal.returns-clause-read
returns-clause-read c program fill made = spelled_again program fill made

pub returns-clause-only : goal.returns-clause-only
returns-clause-only c bytes file fits e = (file_read bytes file fits e).parts

pub returns-clause-made : goal.returns-clause-made
returns-clause-made c bytes file fits e = (file_read bytes file fits e).made
