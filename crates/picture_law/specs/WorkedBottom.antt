-- A worked description with all keys for where its bytes lie: steps from row to row, offsets of the planes and of the VBI
-- lines, and pages that aren't in the order of their addresses, of which the first ends within a row of the bottom field.
-- Both fields are described, and the bottom field arrives behind the top field.
use Rattle.std.specs.Prelude.{List, [], ◌∷◌, ◌++◌, replicate, Some, None}
use Rattle.risc_word.specs.declared.Code.TheVariants.{Vro, Fm1, Fm3}
use Rattle.fifo_model.specs.declared.Queue.TheVariants.{One, Two, Three}
use Rattle.machine_model.specs.Steps.{Step, Control, Turn}
use Rattle.capture_desc.specs.declared.desc.Desc.{Desc}
use Rattle.field_law.specs.Worked.{begun}
use Rattle.picture_law.specs.WorkedPlanar.{planar, ten_entries, five_entries, line_pushes, planar_pushes}

abbrev pub spread : Desc
spread =
    record planar {
      stride = Some (16 ∷ 8 ∷ 8 ∷ []);
      offset = Some (4076 ∷ 256 ∷ 320 ∷ []);
      vbi_offset = Some 16;
      pages = 0x30000 ∷ 0x20000 ∷ [];
      chunks = None;
    }

-- the top field comes, and the machine goes on until it waits in the bottom field's opening
abbrev pub top_comes : List Step
top_comes = begun ++ (planar_pushes ++ replicate 60 Turn)

-- then the bottom field is pushed whole
abbrev pub bottom_pushes : List Step
bottom_pushes =
    Control Vro ∷ Control Fm1 ∷ (line_pushes One (five_entries 1)
    ++ Control Fm3 ∷ (line_pushes One (ten_entries 112 ++ (ten_entries 16 ++ ten_entries 32))
    ++ (line_pushes Two (five_entries 128 ++ (five_entries 48 ++ five_entries 64))
    ++ line_pushes Three (five_entries 144 ++ (five_entries 80 ++ five_entries 96)))))

abbrev pub bottom_steps : List Step
bottom_steps = top_comes ++ (bottom_pushes ++ replicate 60 Turn)
