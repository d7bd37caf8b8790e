-- The generated stream.
use Rattle.std.specs.Prelude.{ℕ, ◌*◌, List, [], ◌∷◌, ◌++◌, length, codes}
use Rattle.risc_word.specs.Words.{code_number}
use Rattle.sync_status.specs.Statuses.{valid_bytes}
use Rattle.fifo_model.specs.declared.Queue.{Queue}
use Rattle.fifo_model.specs.declared.Queue.TheVariants.{One, Two, Three}
use Rattle.capture_desc.specs.declared.desc.Desc.{Desc}
use Rattle.picture_model.specs.Described.{fields_of}
use Rattle.field_stream.specs.Generator.{first_number, lanes, number_after}
use Rattle.field_stream.specs.Pushes.{Push, Mark, Fill, entries_in, stream_pushes}

-- the tag of a push to a queue
abbrev pub tag_of : Queue → ℕ
tag_of One = 1
tag_of Two = 2
tag_of Three = 3

-- the record of a push: its tag, its code or its status, and the lanes of an entry
abbrev pub push_record : ℕ → Push → List ℕ
push_record number (Mark code) = 4 ∷ code_number code ∷ []
push_record number (Fill queue status) = tag_of queue ∷ status ∷ lanes number (valid_bytes status)

-- the record of 16 turns after it
abbrev pub turns_record : List ℕ
turns_record = 5 ∷ 16 ∷ 0 ∷ 0 ∷ 0 ∷ []

abbrev pub records_of : ℕ → Push → List ℕ
records_of number push = push_record number push ++ turns_record

-- the number of the generator after a push
abbrev pub after : ℕ → Push → ℕ
after number (Mark code) = number
after number (Fill queue status) = number_after number (valid_bytes status)

-- the records of some pushes
abbrev pub records : ℕ → List Push → List ℕ
records number [] = []
records number (push ∷ rest) = records_of number push ++ records (after number push) rest

-- the stream: its first word, the records of its frames and the end record
abbrev pub made : Desc → ℕ → ℕ → List ℕ
made d seed frames = codes "BFS1" ++ records (first_number seed) (stream_pushes d frames) ++ 0 ∷ []

-- its fields, and its data entries
abbrev pub made_fields : Desc → ℕ → ℕ
made_fields d frames = frames * length (fields_of d.fields)

abbrev pub made_entries : Desc → ℕ → ℕ
made_entries d frames = entries_in (stream_pushes d frames)
