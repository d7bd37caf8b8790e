-- The worked planar picture meets the premises of the laws.
use Rattle.std.proofs.Common.{◌≡◌, ℕ, zero, suc, ◌+◌, ◌^◌, ◌<◌, ◌≤◌, Bool, true, ◌&&◌, All, List, [], ◌∷◌, ◌++◌, length, replicate, refl}
use Rattle.std.proofs.Common.{arith}
use Rattle.std.specs.Prelude.{nat_lt}
use Rattle.std.proofs.lemmas.Bool.{and_parts, ltb-true}
use Rattle.std.proofs.lemmas.List.Elements.{All-nil, All-cons, All-append, All-from_recursion}
use Rattle.risc_word.specs.declared.Code.{Code}
use Rattle.risc_word.specs.declared.Code.TheVariants.{Vre, Fm1, Fm3}
use Rattle.fifo_model.specs.declared.Entry.{Entry}
use Rattle.fifo_model.specs.declared.Queue.{Queue}
use Rattle.fifo_model.specs.declared.Queue.TheVariants.{One, Two, Three}
use Rattle.fifo_model.specs.Queues.{queue_state, control_entry}
use Rattle.pixel_layout.specs.declared.Parity.TheVariants.{Top}
use Rattle.machine_model.specs.Paths.{RiscProgram}
use Rattle.machine_model.specs.States.{State, first_state}
use Rattle.machine_model.specs.Steps.{Turn, step, with_program}
use Rattle.machine_model.specs.Safety.{IsStep}
use Rattle.picture_model.specs.Described.{IsDescription, field_height}
use Rattle.picture_model.specs.Programs.{compiled}
use Rattle.field_law.specs.Fields.{Token, Mark, Row, IsLine, Brings}
use Rattle.field_law.proofs.Bringing.{mark_brings, row_brings}
use Rattle.field_law.specs.Arrivals.{AreKept, meeting, coming}
use Rattle.field_law.specs.Worked.{begun}
use Rattle.field_law.proofs.Worked.{before, begun_made, unmarked}
use Rattle.picture_law.specs.Pictures.{AreLines, AreRows, AreSkipped, HoldBytes, IsField, IsPicture, SkippedLines, field_tokens, rows_on}
use Rattle.picture_law.specs.Sections.{section_of}
use Rattle.picture_law.specs.Runs.{ArrivesAt, IsCapture, IsSignalled, between, state_of}
use Rattle.picture_law.specs.WorkedPlanar.{planar, ten, five, ten_entries, five_entries, planar_picture, planar_pushes, planar_moves}
use Rattle.picture_law.specs.WorkedPlanar.{planar_steps, MeetsBound}
use Rattle.picture_law.proofs.Between.{silent_at}

described : IsDescription planar
described =
    record {
      formed = record {
        stride = tt;
        offset = tt;
        chroma_first = (refl, All-from_recursion (λ n. n ≤ 1) (1 ∷ 0 ∷ []) (omega arith, (omega arith, tt)));
        vbi_skip = (refl, All-from_recursion (λ n. n ≤ 255) (1 ∷ 0 ∷ []) (omega arith, (omega arith, tt)));
        pages = omega arith;
        no_pages = refl;
        chunks = omega arith;
        bytes = omega arith;
      };
      pages = All-nil (λ page. page < 2 ^ 32);
      clips = omega arith;
      skipped = omega arith;
    }

-- ---- the picture

abbrev pub IsByte : ℕ → Type 0
IsByte byte = byte < 256

abbrev are_bytes : List ℕ → Bool
are_bytes [] = true
are_bytes (byte ∷ bytes) = nat_lt byte 256 && are_bytes bytes

pub bytes_hold : (bytes : List ℕ) → are_bytes bytes ≡ true → All IsByte bytes
bytes_hold [] h = All-nil IsByte
bytes_hold (byte ∷ bytes) h =
    let parts = and_parts (nat_lt byte 256) (are_bytes bytes) h in
    All-cons IsByte byte bytes (ltb-true byte 256 parts.0) (bytes_hold bytes parts.1)

abbrev pub HoldsBytes : List ℕ → Type 0
HoldsBytes line = All IsByte line

two_hold : (first second : List ℕ) → are_bytes first ≡ true → are_bytes second ≡ true → HoldBytes (first ∷ second ∷ [])
two_hold first second one two = All-from_recursion HoldsBytes (first ∷ second ∷ []) (bytes_hold first one, (bytes_hold second two, tt))

pub one_long : (bytes : ℕ) (line : List ℕ) → length line ≡ bytes → AreLines 1 bytes (line ∷ [])
one_long bytes line long = record { many = refl; long = All-from_recursion (λ line. length line ≡ bytes) (line ∷ []) (long, tt) }

pub two_long : (bytes : ℕ) (first second : List ℕ) → length first ≡ bytes → length second ≡ bytes → AreLines 2 bytes (first ∷ second ∷ [])
two_long bytes first second one two =
    record { many = refl; long = All-from_recursion (λ line. length line ≡ bytes) (first ∷ second ∷ []) (one, (two, tt)) }

rows : (q : Queue) → AreRows planar q (field_height planar Top) (rows_on planar_picture q)
rows One = two_long 10 (ten 16) (ten 32) refl refl
rows Two = two_long 5 (five 48) (five 64) refl refl
rows Three = two_long 5 (five 80) (five 96) refl refl

pub row_bytes : (q : Queue) → HoldBytes (rows_on planar_picture q)
row_bytes One = two_hold (ten 16) (ten 32) refl refl
row_bytes Two = two_hold (five 48) (five 64) refl refl
row_bytes Three = two_hold (five 80) (five 96) refl refl

pictured : IsPicture planar Top planar_picture
pictured =
    record {
      vbi = one_long 5 (five 1) refl;
      rows = rows;
      vbi_bytes = All-from_recursion HoldsBytes (five 1 ∷ []) (bytes_hold (five 1) refl, tt);
      row_bytes = row_bytes;
    }

-- ---- what each queue brings

abbrev pub skipped_rows : Queue → List (List ℕ)
skipped_rows One = ten 112 ∷ []
skipped_rows Two = five 128 ∷ []
skipped_rows Three = five 144 ∷ []

abbrev skipped : SkippedLines
skipped = record { vbi = five 160 ∷ []; rows = skipped_rows }

rows_skipped : (q : Queue) → AreRows planar q 1 (skipped_rows q)
rows_skipped One = one_long 10 (ten 112) refl
rows_skipped Two = one_long 5 (five 128) refl
rows_skipped Three = one_long 5 (five 144) refl

skips : AreSkipped planar Top skipped
skips = record { vbi = one_long 5 (five 160) refl; rows = rows_skipped }

-- three lines, as each queue brings them
abbrev pub three_rows : List ℕ → List ℕ → List ℕ → List Token
three_rows first second third = Row first ∷ Row second ∷ Row third ∷ []

abbrev three_lines : List Entry → List Entry → List Entry → List Entry
three_lines first second third = first ++ (second ++ (third ++ []))

lines_bring : (a b c : List ℕ) (first second third : List Entry) → IsLine a first → IsLine b second → IsLine c third →
    Brings (three_rows a b c) (three_lines first second third)
lines_bring a b c first second third one two three =
    row_brings a first (Row b ∷ Row c ∷ []) (second ++ (third ++ [])) one
    (row_brings b second (Row c ∷ []) (third ++ []) two (row_brings c third [] [] three refl))

abbrev pub luma_lines : List Entry
luma_lines = three_lines (ten_entries 112) (ten_entries 16) (ten_entries 32)

abbrev pub chroma_lines : Queue → List Entry
chroma_lines One = []
chroma_lines Two = three_lines (five_entries 128) (five_entries 48) (five_entries 64)
chroma_lines Three = three_lines (five_entries 144) (five_entries 80) (five_entries 96)

abbrev entries : Queue → List Entry
entries One = control_entry Vre ∷ control_entry Fm1 ∷ (five_entries 160 ++ (five_entries 1 ++ control_entry Fm3 ∷ luma_lines))
entries Two = control_entry Vre ∷ control_entry Fm1 ∷ control_entry Fm3 ∷ chroma_lines Two
entries Three = control_entry Vre ∷ control_entry Fm1 ∷ control_entry Fm3 ∷ chroma_lines Three

pub luma_brings : Brings (three_rows (ten 112) (ten 16) (ten 32)) luma_lines
luma_brings =
    lines_bring (ten 112) (ten 16) (ten 32) (ten_entries 112) (ten_entries 16) (ten_entries 32)
    (record { shape = refl; valid = refl }) (record { shape = refl; valid = refl }) (record { shape = refl; valid = refl })

pub two_brings : Brings (three_rows (five 128) (five 48) (five 64)) (chroma_lines Two)
two_brings =
    lines_bring (five 128) (five 48) (five 64) (five_entries 128) (five_entries 48) (five_entries 64)
    (record { shape = refl; valid = refl }) (record { shape = refl; valid = refl }) (record { shape = refl; valid = refl })

pub three_brings : Brings (three_rows (five 144) (five 80) (five 96)) (chroma_lines Three)
three_brings =
    lines_bring (five 144) (five 80) (five 96) (five_entries 144) (five_entries 80) (five_entries 96)
    (record { shape = refl; valid = refl }) (record { shape = refl; valid = refl }) (record { shape = refl; valid = refl })

pub chroma_brings : (code : Code) (tokens : List Token) (entries : List Entry) → Brings tokens entries →
    Brings (Mark code ∷ Mark Fm1 ∷ Mark Fm3 ∷ tokens) (control_entry code ∷ control_entry Fm1 ∷ control_entry Fm3 ∷ entries)
chroma_brings code tokens entries here =
    mark_brings code (Mark Fm1 ∷ Mark Fm3 ∷ tokens) (control_entry Fm1 ∷ control_entry Fm3 ∷ entries)
    (mark_brings Fm1 (Mark Fm3 ∷ tokens) (control_entry Fm3 ∷ entries) (mark_brings Fm3 tokens entries here))

brings : (q : Queue) → Brings (Mark Vre ∷ field_tokens planar planar_picture skipped q) (entries q)
brings One =
    let rows = three_rows (ten 112) (ten 16) (ten 32) in
    let later = five_entries 1 ++ control_entry Fm3 ∷ luma_lines in
    mark_brings Vre (Mark Fm1 ∷ Row (five 160) ∷ Row (five 1) ∷ Mark Fm3 ∷ rows) (control_entry Fm1 ∷ (five_entries 160 ++ later))
    (mark_brings Fm1 (Row (five 160) ∷ Row (five 1) ∷ Mark Fm3 ∷ rows) (five_entries 160 ++ later)
    (row_brings (five 160) (five_entries 160) (Row (five 1) ∷ Mark Fm3 ∷ rows) later (record { shape = refl; valid = refl })
    (row_brings (five 1) (five_entries 1) (Mark Fm3 ∷ rows) (control_entry Fm3 ∷ luma_lines) (record { shape = refl; valid = refl })
    (mark_brings Fm3 rows luma_lines luma_brings))))
brings Two = chroma_brings Vre (three_rows (five 128) (five 48) (five 64)) (chroma_lines Two) two_brings
brings Three = chroma_brings Vre (three_rows (five 144) (five 80) (five 96)) (chroma_lines Three) three_brings

brought : IsField planar Top planar_picture entries
brought = record { skipped = skipped; lines = skips; brings = brings }

-- ---- the steps

pub turns_kept : (program : RiscProgram) (m : State) (count : ℕ) → AreKept m (meeting program (replicate count Turn))
turns_kept program m zero = tt
turns_kept program m (suc count) = (tt, turns_kept program (step Turn (with_program program m)) count)

abbrev machine : State
machine = state_of planar 0 planar_steps 2

pushes_kept : (count : ℕ) → AreKept machine (meeting (compiled planar) (planar_pushes ++ replicate count Turn))
pushes_kept count =
    (refl, (refl, (refl, (refl, (refl, (refl, (refl, (refl, (refl, (refl, (refl, (refl, (refl, (refl, (refl, (refl, (refl, (refl, (refl, (refl, (refl, (refl, (refl, (refl, (refl, (refl, (refl, (refl, turns_kept (compiled planar) _ count))))))))))))))))))))))))))))

abbrev order_of : ℕ → Queue → Type 0
order_of count q =
    (queue_state q machine.queues).entries ++ coming (meeting (compiled planar) (planar_pushes ++ replicate count Turn)) q
    ≡ before q ++ (entries q ++ [])

abbrev arrives_over : (count : ℕ) → ((q : Queue) → order_of count q) →
    ArrivesAt planar Top planar_picture machine (planar_pushes ++ replicate count Turn)
arrives_over count order =
    record {
      fifo_on = refl;
      risc_on = refl;
      waits = refl;
      there = refl;
      kept = pushes_kept count;
      before = before;
      entries = entries;
      rest = λ q. [];
      order = order;
      unmarked = unmarked;
      brought = brought;
    }

pub turns_made : (count : ℕ) → All IsStep (replicate count Turn)
turns_made zero = All-nil IsStep
turns_made (suc count) = All-cons IsStep Turn (replicate count Turn) tt (turns_made count)

pub pushes_made : All IsStep planar_pushes
pushes_made =
    All-from_recursion IsStep planar_pushes
    (tt, (tt, (refl, (refl, (refl, (refl, (tt, (refl, (refl, (refl, (refl, (refl, (refl, (refl, (refl, (refl, (refl, (refl, (refl, (refl, (refl, (refl, (refl, (refl, (refl, (refl, (refl, (refl, tt))))))))))))))))))))))))))))

capture : IsCapture planar Top planar_picture planar_steps
capture =
    record {
      description = described;
      valid = refl;
      described = refl;
      pictured = pictured;
      made =
          All-append IsStep begun planar_moves begun_made
          (All-append IsStep planar_pushes (replicate 100 Turn) pushes_made (turns_made 100));
    }

order_to_signal : (q : Queue) → order_of 53 q
order_to_signal One = refl
order_to_signal Two = refl
order_to_signal Three = refl

pub planar_signalled : IsSignalled planar Top planar_picture 0 planar_steps 2 82
planar_signalled =
    record {
      capture = capture;
      signal = record {
        later = omega arith;
        there = omega arith;
        signal = refl;
        first = λ i from to.
            silent_at (section_of planar Top) (first_state (compiled planar) 0) planar_steps 80 2 82 i refl (omega arith) refl from to;
      };
      arrives = arrives_over 53 order_to_signal;
    }

order_to_end : (q : Queue) → order_of 100 q
order_to_end One = refl
order_to_end Two = refl
order_to_end Three = refl

come : (q : Queue) → length (before q) + length (entries q)
    ≤ length (queue_state q machine.queues).entries + length (coming (meeting (compiled planar) (between 2 30 planar_steps)) q)
come One = omega arith
come Two = omega arith
come Three = omega arith

pub planar_bounded : MeetsBound 2 30 130
planar_bounded = (arrives_over 100 order_to_end, come, omega arith)
