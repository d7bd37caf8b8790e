use Rattle.std.proofs.Common.{refl}
use Rattle.capture_file.specs.Streams.{records, stream_of}
use Rattle.file_law.proofs.streams.worked_files_are_at_fault.Goals as goal

pub returns-clause-magic : goal.returns-clause-magic
unfolding stream_of records
returns-clause-magic c = refl

pub returns-clause-tag : goal.returns-clause-tag
unfolding stream_of records
returns-clause-tag c = refl

pub returns-clause-patch : goal.returns-clause-patch
unfolding stream_of records
returns-clause-patch c = refl

pub returns-clause-status : goal.returns-clause-status
unfolding stream_of records
returns-clause-status c = refl

pub returns-clause-control_code : goal.returns-clause-control_code
unfolding stream_of records
returns-clause-control_code c = refl

pub returns-clause-code : goal.returns-clause-code
unfolding stream_of records
returns-clause-code c = refl

pub returns-clause-turns : goal.returns-clause-turns
unfolding stream_of records
returns-clause-turns c = refl

pub returns-clause-enables : goal.returns-clause-enables
unfolding stream_of records
returns-clause-enables c = refl

pub returns-clause-trigger : goal.returns-clause-trigger
unfolding stream_of records
returns-clause-trigger c = refl

pub returns-clause-slot : goal.returns-clause-slot
unfolding stream_of records
returns-clause-slot c = refl

pub returns-clause-buffer : goal.returns-clause-buffer
unfolding stream_of records
returns-clause-buffer c = refl

pub returns-clause-after_end : goal.returns-clause-after_end
unfolding stream_of records
returns-clause-after_end c = refl

pub returns-clause-cut : goal.returns-clause-cut
unfolding stream_of records
returns-clause-cut c = refl

pub returns-clause-too_long : goal.returns-clause-too_long
unfolding stream_of records
returns-clause-too_long c = refl
