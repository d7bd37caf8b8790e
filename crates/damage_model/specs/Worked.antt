-- Worked fields of small descriptions, in the top field.
use Rattle.std.specs.Prelude.{ℕ, Bool, true, false, List, [], ◌∷◌, ◌++◌, ◌≡◌, map, replicate, take, Option, option_and_then, option_map}
use Rattle.std.specs.Prelude.{slice_index_or}
use Rattle.risc_word.specs.declared.Code.TheVariants.{Vre, Fm1, Fm3}
use Rattle.fifo_model.specs.declared.Entry.{Entry}
use Rattle.fifo_model.specs.declared.Queue.{Queue}
use Rattle.fifo_model.specs.declared.Queue.TheVariants.{One, Two, Three}
use Rattle.irq_status.specs.declared.HostWrite.TheVariants.{Enable}
use Rattle.pixel_layout.specs.declared.Format.TheVariants.{Yuv420p}
use Rattle.pixel_layout.specs.declared.Parity.TheVariants.{Top}
use Rattle.machine_model.specs.States.{State, first_state}
use Rattle.machine_model.specs.Steps.{Step, Push, Control, Turn, Host, state_at}
use Rattle.capture_desc.specs.declared.desc.Desc.{Desc}
use Rattle.picture_model.specs.Programs.{compiled}
use Rattle.picture_model.specs.Worked.{smallest}
use Rattle.field_law.specs.Arrivals.{is_signal}
use Rattle.field_law.specs.Fields.{carried}
use Rattle.field_law.specs.Worked.{entry}
use Rattle.picture_law.specs.Pictures.{IsKeptAt, of_row}
use Rattle.picture_law.specs.Runs.{between, state_of}
use Rattle.picture_law.specs.Sections.{section_of}
use Rattle.damage_model.specs.Marks.{answer, is_opening, last_step, marks}
use Rattle.damage_model.specs.Standing.{IsSignalSince, row_entries}

-- the marks of the rows of the top field after steps from the first state
abbrev pub marks_of : Desc → List Step → Option (List Bool)
marks_of d steps = answer d Top (first_state (compiled d) d.fill) steps

-- the bytes of the entries that a row of it took of the first queue, at the field's last signal
abbrev pub taken_to : Desc → ℕ → State → List Step → ℕ → Option (List ℕ)
taken_to d number m steps k =
    option_map (λ j. carried (row_entries d Top number One (state_at m steps j) (between j k steps)))
    (last_step (is_opening d Top) m (take k steps))

abbrev pub taken_by : Desc → ℕ → List Step → Option (List ℕ)
taken_by d number steps =
    option_and_then (taken_to d number (first_state (compiled d) d.fill) steps)
    (last_step (is_signal (section_of d Top)) (first_state (compiled d) d.fill) steps)

abbrev pub pushed : List Entry → List Step
pushed entries = map (Push One) entries

abbrev pub turns : ℕ → List Step
turns count = replicate count Turn

abbrev pub announced : List Step
announced = Control Vre ∷ Control Fm1 ∷ []

-- a line of eight bytes: SOL, then EOL4
abbrev pub eight : ℕ → ℕ → List Entry
eight first second = entry 2 first ∷ entry 1 second ∷ []

-- two rows of sixteen pixels, of which four in each are clipped; the first line has seven bytes
abbrev pub clipped : Desc
clipped =
    record smallest { width = 16; height = 2; clip = record { x = 4; y = 0; w = 4; h = 2 } ∷ []; fill = 0x55 }

abbrev pub cut_short : List Step
cut_short =
    announced
    ++ pushed
    (entry 2 0xa3a2a1a0 ∷ entry 13 0xffa6a5a4 ∷ entry 2 0xb3b2b1b0 ∷ entry 0 0xb7b6b5b4 ∷ entry 0 0xbbbab9b8 ∷ entry 1 0xbfbebdbc ∷ [])
    ++ turns 21

-- two rows of eight pixels; the first line has 17 bytes
abbrev pub two_rows : Desc
two_rows = record smallest { height = 2 }

abbrev pub too_long : List Step
too_long =
    announced
    ++ pushed
    (entry 2 0x03020100 ∷ entry 0 0x07060504 ∷ entry 0 0x0b0a0908 ∷ entry 0 0x0f0e0d0c ∷ entry 5 0x10 ∷ eight 0x23222120 0x27262524)
    ++ turns 16

-- a field of one line, and a whole one after it
abbrev pub interrupted : List Step
interrupted =
    announced ++ pushed (eight 0x23222120 0x27262524) ++ announced
    ++ pushed (eight 0x33323130 0x37363534 ++ eight 0x43424140 0x47464544) ++ turns 24

-- one row of eight pixels; an entry of a reserved status is within the line
abbrev pub reserved : List Step
reserved = announced ++ pushed (entry 2 0x13121110 ∷ entry 3 0 ∷ entry 1 0x17161514 ∷ []) ++ turns 10

-- the host empties the queues within the line, where they hold nothing, or an entry of it
abbrev pub within_line : List Step → List Step
within_line lost =
    announced ++ pushed (entry 2 0x13121110 ∷ []) ++ turns 6 ++ lost ++ Host (Enable false true) ∷ Host (Enable true true)
    ∷ pushed (entry 1 0x17161514 ∷ []) ++ turns 3

abbrev pub emptied_empty : List Step
emptied_empty = within_line []

abbrev pub emptied_full : List Step
emptied_full = within_line (pushed (entry 0 0xa3a2a1a0 ∷ []))

-- two rows of twelve pixels, with six bytes of each chroma: of the second row they aren't kept
abbrev pub planar_rows : Desc
planar_rows = record smallest { format = Yuv420p; width = 12; height = 2 }

abbrev pub pushed_to : Queue → List Entry → List Step
pushed_to q entries = map (Push q) entries

abbrev pub twelve : List Entry
twelve = entry 2 0x03020100 ∷ entry 0 0x07060504 ∷ entry 1 0x0b0a0908 ∷ []

-- lines of five, six and seven bytes
abbrev pub five : List Entry
five = entry 2 0x83828180 ∷ entry 5 0x84 ∷ []

abbrev pub six : List Entry
six = entry 2 0x83828180 ∷ entry 9 0x8584 ∷ []

abbrev pub seven : List Entry
seven = entry 2 0x83828180 ∷ entry 13 0x868584 ∷ []

-- the first and the second line of the second queue
abbrev pub planar_field : List Entry → List Entry → List Step
planar_field first second =
    Control Vre ∷ Control Fm3 ∷ pushed_to One (twelve ++ twelve) ++ pushed_to Two (first ++ second)
    ++ pushed_to Three (six ++ six) ++ turns 30

abbrev pub chroma_short : List Step
chroma_short = planar_field five six

abbrev pub chroma_long : List Step
chroma_long = planar_field seven six

abbrev pub unkept_short : List Step
unkept_short = planar_field six five

-- the controller begins again within a row, and the field comes anew behind the rest of it
abbrev pub restarted : List Step
restarted =
    announced ++ pushed (entry 2 0x13121110 ∷ []) ++ turns 6 ++ Host (Enable true false) ∷ Host (Enable true true)
    ∷ pushed (entry 1 0x17161514 ∷ []) ++ announced ++ pushed (eight 0x23222120 0x27262524) ++ turns 12

-- the premises of the law of whole rows: a row of the top field is whole at a signal, and a byte of it is kept at an address
pub record IsWholeRow (d : Desc) (steps : List Step) (j k : ℕ) (q : Queue) (number x address : ℕ) : Type 0 where
  pub signal : IsSignalSince d Top d.fill steps j k
  pub whole : slice_index_or (marks d Top (state_of d d.fill steps j) (between j k steps)) number false ≡ true
  pub kept : IsKeptAt d Top (of_row q number x) address
