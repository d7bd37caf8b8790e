-- The worked picture meets the premises of the laws.
use Rattle.std.proofs.Common.{◌≡◌, ℕ, ◌^◌, ◌<◌, true, false, All, List, [], ◌∷◌, ◌++◌, length, refl, arith}
use Rattle.std.proofs.lemmas.List.Elements.{All-nil, All-append, All-from_recursion}
use Rattle.risc_word.specs.declared.Code.TheVariants.{Vre}
use Rattle.fifo_model.specs.Queues.{queue_state}
use Rattle.fifo_model.specs.declared.Queue.{Queue}
use Rattle.fifo_model.specs.declared.Queue.TheVariants.{One, Two, Three}
use Rattle.pixel_layout.specs.declared.Parity.TheVariants.{Top}
use Rattle.machine_model.specs.States.{first_state}
use Rattle.picture_model.specs.Programs.{compiled}
use Rattle.machine_model.specs.Steps.{Step, Turn, run}
use Rattle.machine_model.specs.Safety.{IsStep}
use Rattle.picture_model.specs.Described.{IsDescription, field_height}
use Rattle.field_law.specs.Fields.{Mark, Brings}
use Rattle.field_law.specs.Worked.{begun, line, moves}
use Rattle.field_law.proofs.Worked as worked
use Rattle.field_law.proofs.Worked.{before, begun_made, entries, unmarked}
use Rattle.picture_law.specs.Pictures.{AreLines, AreRows, AreSkipped, HoldBytes, IsPicture, SkippedLines, field_tokens, rows_on}
use Rattle.field_law.specs.Arrivals.{meeting, coming, has_signal, is_signal}
use Rattle.picture_law.specs.Sections.{section_of}
use Rattle.picture_model.specs.Worked.{smallest}
use Rattle.picture_law.specs.Worked.{machine, picture, steps}
use Rattle.picture_law.specs.Runs.{ArrivesAt, CapturesOf, IsCapture, IsSignalled}
use Rattle.picture_law.proofs.Between.{silent_at}
use Rattle.picture_law.proofs.Laws.{compiled_is_met, runs_compiled}

pub described : IsDescription smallest
described =
    record {
      formed = record {
        stride = tt;
        offset = tt;
        chroma_first = tt;
        vbi_skip = tt;
        pages = omega arith;
        no_pages = tt;
        chunks = tt;
        bytes = tt;
      };
      pages = All-from_recursion (λ page. page < 2 ^ 32) (0x20000 ∷ []) (omega arith, tt);
      clips = omega arith;
      skipped = omega arith;
    }

no_lines : (bytes : ℕ) → AreLines 0 bytes []
no_lines bytes = record { many = refl; long = All-nil (λ line. length line ≡ bytes) }

one_line : AreLines 1 8 (line ∷ [])
one_line = record { many = refl; long = All-from_recursion (λ line. length line ≡ 8) (line ∷ []) (refl, tt) }

abbrev IsByte : ℕ → Type 0
IsByte byte = byte < 256

abbrev HoldsBytes : List ℕ → Type 0
HoldsBytes line = All IsByte line

line_bytes : All IsByte line
line_bytes = All-from_recursion IsByte line (
  omega arith,
  (omega arith, (omega arith, (omega arith, (omega arith, (omega arith, (omega arith, (omega arith, tt))))))),
)

rows : (q : Queue) → AreRows smallest q (field_height smallest Top) (rows_on picture q)
rows One = one_line
rows Two = no_lines 8
rows Three = no_lines 8

row_bytes : (q : Queue) → HoldBytes (rows_on picture q)
row_bytes One = All-from_recursion HoldsBytes (line ∷ []) (line_bytes, tt)
row_bytes Two = All-nil HoldsBytes
row_bytes Three = All-nil HoldsBytes

pub pictured : IsPicture smallest Top picture
pictured = record { vbi = no_lines 2044; rows = rows; vbi_bytes = All-nil HoldsBytes; row_bytes = row_bytes }

order : (q : Queue) →
    (queue_state q machine.queues).entries ++ coming (meeting (compiled smallest) (moves ++ Turn ∷ [])) q ≡ before q ++ (entries q ++ [])
order One = refl
order Two = refl
order Three = refl

-- no line is skipped
abbrev pub none_skipped : SkippedLines
none_skipped = record { vbi = []; rows = λ q. [] }

no_rows : (q : Queue) → AreRows smallest q 0 []
no_rows One = no_lines 8
no_rows Two = no_lines 8
no_rows Three = no_lines 8

pub no_skips : AreSkipped smallest Top none_skipped
no_skips = record { vbi = no_lines 2044; rows = no_rows }

pub brings : (q : Queue) → Brings (Mark Vre ∷ field_tokens smallest picture none_skipped q) (entries q)
brings One = worked.brings One
brings Two = worked.brings Two
brings Three = worked.brings Three

arrives : ArrivesAt smallest Top picture machine (moves ++ Turn ∷ [])
arrives =
    record {
      fifo_on = refl;
      risc_on = refl;
      waits = refl;
      there = refl;
      kept = (tt, (refl, (tt, (refl, (refl, (tt, (tt, (tt, (tt, (refl, (tt, (tt, (tt, tt)))))))))))));
      before = before;
      entries = entries;
      rest = λ q. [];
      order = order;
      unmarked = unmarked;
      brought = record { skipped = none_skipped; lines = no_skips; brings = brings };
    }

abbrev captured_over : (steps : List Step) → All IsStep steps → IsCapture smallest Top picture steps
captured_over made_steps made = record { description = described; valid = refl; described = refl; pictured = pictured; made = made }

more_steps : All IsStep (moves ++ Turn ∷ [])
more_steps =
    All-from_recursion IsStep (moves ++ Turn ∷ []) (tt, (tt, (tt, (tt, (refl, (tt, (tt, (tt, (tt, (refl, (tt, (tt, (tt, tt)))))))))))))

pub captures : CapturesOf smallest Top picture machine (moves ++ Turn ∷ [])
captures =
    compiled_is_met smallest Top picture machine (moves ++ Turn ∷ []) (captured_over (moves ++ Turn ∷ []) more_steps)
    (runs_compiled smallest 0 begun begun_made) arrives

pub signals : (has_signal (section_of smallest Top) machine (meeting (compiled smallest) moves) ≡ false)
    × (is_signal (section_of smallest Top) (run machine moves) Turn ≡ true)
signals = (refl, refl)

-- ---- over the places of a run

pub signalled : IsSignalled smallest Top picture 0 steps 2 14
signalled =
    record {
      capture = captured_over steps (All-append IsStep begun (moves ++ Turn ∷ []) begun_made more_steps);
      signal = record {
        later = omega arith;
        there = omega arith;
        signal = refl;
        first = λ i from to.
            silent_at (section_of smallest Top) (first_state (compiled smallest) 0) steps 12 2 14 i refl (omega arith) refl from to;
      };
      arrives = arrives;
    }
