-- The worked bottom field, of a description with all keys for where its bytes lie, meets the premises of the laws.
use Rattle.std.proofs.Common.{◌≡◌, ℕ, ◌^◌, ◌<◌, ◌≤◌, All, List, [], ◌∷◌, ◌++◌, length, replicate, refl, arith}
use Rattle.std.proofs.lemmas.List.Elements.{All-nil, All-append, All-from_recursion}
use Rattle.risc_word.specs.declared.Code.TheVariants.{Vro, Fm1, Fm3}
use Rattle.fifo_model.specs.declared.Entry.{Entry}
use Rattle.fifo_model.specs.declared.Queue.{Queue}
use Rattle.fifo_model.specs.declared.Queue.TheVariants.{One, Two, Three}
use Rattle.fifo_model.specs.Queues.{queue_state, control_entry}
use Rattle.pixel_layout.specs.declared.Parity.TheVariants.{Bottom}
use Rattle.machine_model.specs.States.{State, first_state}
use Rattle.machine_model.specs.Steps.{Turn}
use Rattle.machine_model.specs.Safety.{IsStep}
use Rattle.picture_model.specs.Described.{IsDescription, field_height}
use Rattle.picture_model.specs.Programs.{compiled}
use Rattle.field_law.specs.Fields.{Mark, Row, Brings}
use Rattle.field_law.proofs.Bringing.{mark_brings, row_brings}
use Rattle.field_law.specs.Arrivals.{AreKept, HasCode, coming, meeting}
use Rattle.field_law.specs.Worked.{begun}
use Rattle.field_law.proofs.Worked.{begun_made}
use Rattle.picture_law.specs.Pictures.{AreRows, AreSkipped, IsKeptAt, IsPicture, SkippedLines, field_tokens, of_row, rows_on}
use Rattle.picture_law.specs.Sections.{section_of}
use Rattle.picture_law.specs.Runs.{ArrivesAt, IsCapture, IsSignalled, state_of}
use Rattle.picture_law.specs.WorkedPlanar.{five, five_entries, planar_picture, planar_pushes, ten}
use Rattle.picture_law.specs.WorkedBottom.{bottom_pushes, bottom_steps, spread, top_comes}
use Rattle.picture_law.proofs.Between.{silent_at}
use Rattle.picture_law.proofs.WorkedPlanar.{HoldsBytes, bytes_hold, chroma_brings, chroma_lines, luma_brings, luma_lines, one_long}
use Rattle.picture_law.proofs.WorkedPlanar.{pushes_made, row_bytes, skipped_rows, three_brings, three_rows, turns_kept, turns_made}
use Rattle.picture_law.proofs.WorkedPlanar.{two_brings, two_long}

described : IsDescription spread
described =
    record {
      formed = record {
        stride = refl;
        offset = refl;
        chroma_first = (refl, All-from_recursion (λ n. n ≤ 1) (1 ∷ 0 ∷ []) (omega arith, (omega arith, tt)));
        vbi_skip = (refl, All-from_recursion (λ n. n ≤ 255) (1 ∷ 0 ∷ []) (omega arith, (omega arith, tt)));
        pages = omega arith;
        no_pages = tt;
        chunks = tt;
        bytes = tt;
      };
      pages = All-from_recursion (λ page. page < 2 ^ 32) (0x30000 ∷ 0x20000 ∷ []) (omega arith, (omega arith, tt));
      clips = omega arith;
      skipped = omega arith;
    }

-- ---- the picture

rows : (q : Queue) → AreRows spread q (field_height spread Bottom) (rows_on planar_picture q)
rows One = two_long 10 (ten 16) (ten 32) refl refl
rows Two = two_long 5 (five 48) (five 64) refl refl
rows Three = two_long 5 (five 80) (five 96) refl refl

pictured : IsPicture spread Bottom planar_picture
pictured =
    record {
      vbi = one_long 5 (five 1) refl;
      rows = rows;
      vbi_bytes = All-from_recursion HoldsBytes (five 1 ∷ []) (bytes_hold (five 1) refl, tt);
      row_bytes = row_bytes;
    }

-- ---- what each queue brings: before the bottom field's VBI line no line is skipped

abbrev skipped : SkippedLines
skipped = record { vbi = []; rows = skipped_rows }

rows_skipped : (q : Queue) → AreRows spread q 1 (skipped_rows q)
rows_skipped One = one_long 10 (ten 112) refl
rows_skipped Two = one_long 5 (five 128) refl
rows_skipped Three = one_long 5 (five 144) refl

skips : AreSkipped spread Bottom skipped
skips = record { vbi = record { many = refl; long = All-nil (λ line. length line ≡ 5) }; rows = rows_skipped }

abbrev entries : Queue → List Entry
entries One = control_entry Vro ∷ control_entry Fm1 ∷ (five_entries 1 ++ control_entry Fm3 ∷ luma_lines)
entries Two = control_entry Vro ∷ control_entry Fm1 ∷ control_entry Fm3 ∷ chroma_lines Two
entries Three = control_entry Vro ∷ control_entry Fm1 ∷ control_entry Fm3 ∷ chroma_lines Three

brings : (q : Queue) → Brings (Mark Vro ∷ field_tokens spread planar_picture skipped q) (entries q)
brings One =
    let rows = three_rows (ten 112) (ten 16) (ten 32) in
    let later = five_entries 1 ++ control_entry Fm3 ∷ luma_lines in
    mark_brings Vro (Mark Fm1 ∷ Row (five 1) ∷ Mark Fm3 ∷ rows) (control_entry Fm1 ∷ later)
    (mark_brings Fm1 (Row (five 1) ∷ Mark Fm3 ∷ rows) later
    (row_brings (five 1) (five_entries 1) (Mark Fm3 ∷ rows) (control_entry Fm3 ∷ luma_lines) (record { shape = refl; valid = refl })
    (mark_brings Fm3 rows luma_lines luma_brings)))
brings Two = chroma_brings Vro (three_rows (five 128) (five 48) (five 64)) (chroma_lines Two) two_brings
brings Three = chroma_brings Vro (three_rows (five 144) (five 80) (five 96)) (chroma_lines Three) three_brings

-- ---- the steps

abbrev machine : State
machine = state_of spread 0 bottom_steps 90

pushes_kept : (count : ℕ) → AreKept machine (meeting (compiled spread) (bottom_pushes ++ replicate count Turn))
pushes_kept count =
    (refl, (refl, (refl, (refl, (refl, (refl, (refl, (refl, (refl, (refl, (refl, (refl, (refl, (refl, (refl, (refl, (refl, (refl, (refl, (refl, (refl, (refl, (refl, (refl, (refl, (refl, turns_kept (compiled spread) _ count))))))))))))))))))))))))))

abbrev IsOther : Entry → Type 0
IsOther entry = HasCode Vro entry → ⊥

order : (q : Queue) → (queue_state q machine.queues).entries ++ coming (meeting (compiled spread) (bottom_pushes ++ replicate 41 Turn)) q
    ≡ [] ++ (entries q ++ [])
order One = refl
order Two = refl
order Three = refl

arrives : ArrivesAt spread Bottom planar_picture machine (bottom_pushes ++ replicate 41 Turn)
arrives =
    record {
      fifo_on = refl;
      risc_on = refl;
      waits = refl;
      there = refl;
      kept = pushes_kept 41;
      before = λ q. [];
      entries = entries;
      rest = λ q. [];
      order = order;
      unmarked = λ q. All-nil IsOther;
      brought = record { skipped = skipped; lines = skips; brings = brings };
    }

bottom_made : All IsStep bottom_pushes
bottom_made =
    All-from_recursion IsStep bottom_pushes
    (tt, (tt, (refl, (refl, (tt, (refl, (refl, (refl, (refl, (refl, (refl, (refl, (refl, (refl, (refl, (refl, (refl, (refl, (refl, (refl, (refl, (refl, (refl, (refl, (refl, (refl, tt))))))))))))))))))))))))))

top_made : All IsStep top_comes
top_made =
    All-append IsStep begun (planar_pushes ++ replicate 60 Turn) begun_made
    (All-append IsStep planar_pushes (replicate 60 Turn) pushes_made (turns_made 60))

capture : IsCapture spread Bottom planar_picture bottom_steps
capture =
    record {
      description = described;
      valid = refl;
      described = refl;
      pictured = pictured;
      made =
          All-append IsStep top_comes (bottom_pushes ++ replicate 60 Turn) top_made
          (All-append IsStep bottom_pushes (replicate 60 Turn) bottom_made (turns_made 60));
    }

pub bottom_signalled : IsSignalled spread Bottom planar_picture 0 bottom_steps 90 156
bottom_signalled =
    record {
      capture = capture;
      signal = record {
        later = omega arith;
        there = omega arith;
        signal = refl;
        first = λ i from to.
            silent_at (section_of spread Bottom) (first_state (compiled spread) 0) bottom_steps 66 90 156 i refl (omega arith) refl from to;
      };
      arrives = arrives;
    }

-- a byte of the first row is behind the end of the first page
pub across_pages : IsKeptAt spread Bottom (of_row One 0 3) 0x30fff × IsKeptAt spread Bottom (of_row One 0 4) 0x20000
across_pages = (((refl, omega arith, omega arith, refl), refl), ((refl, omega arith, omega arith, refl), refl))
