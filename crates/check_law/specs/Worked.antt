-- A program as the Linux driver bttv lays it out: a standing loop, with JUMPs in its slots to four lists and back.
use Rattle.std.specs.Prelude.{[], ◌∷◌}
use Rattle.page_table.specs.Grants.{chunk}
use Rattle.machine_model.specs.Paths.{RiscProgram, one_span}
use Rattle.capture_desc.specs.declared.desc.Desc.{Desc}
use Rattle.capture_desc.specs.declared.desc.Fields.TheVariants as fields
use Rattle.picture_model.specs.Programs.{no_control}
use Rattle.picture_model.specs.Worked.{smallest}
use Rattle.check_law.specs.Laws.{Found}

-- rows of eight pixels, two in each field, and a VBI line of five bytes in each field
abbrev pub small : Desc
small = record smallest { height = 4; fields = fields.Both; vbi_lines = 1; vbi_bytes = 5 }

-- the opening of the top field, slots for its VBI list and its picture list, the same for the bottom field, and the way
-- back; then the four lists
abbrev pub driver_loop : RiscProgram
driver_loop =
    one_span 0x1000
    (0x80008004 ∷ 0x0 ∷ 0x70000000 ∷ 0x1010 ∷ 0x70000000 ∷ 0x1040 ∷ 0x70000000 ∷ 0x1058 ∷
    0x8000800c ∷ 0x0 ∷ 0x70000000 ∷ 0x1078 ∷ 0x70000000 ∷ 0x1090 ∷ 0x70000000 ∷ 0x1000 ∷
    0x80000006 ∷ 0x0 ∷ 0x1c000005 ∷ 0x20020 ∷ 0x70000000 ∷ 0x1018 ∷ 0x80000006 ∷ 0x0 ∷
    0x1c000008 ∷ 0x20000 ∷ 0x1c000008 ∷ 0x20010 ∷ 0x70000000 ∷ 0x1020 ∷ 0x80000006 ∷ 0x0 ∷
    0x1c000005 ∷ 0x20025 ∷ 0x71b40000 ∷ 0x1030 ∷ 0x80000006 ∷ 0x0 ∷ 0x1c000008 ∷ 0x20008 ∷
    0x1c000008 ∷ 0x20018 ∷ 0x71e10000 ∷ 0x1038 ∷ [])
    (chunk 0x20000 4096 ∷ [])

-- what is found of it
abbrev pub loop_top : Found
loop_top = record { begin = 0x1000; opening = no_control; end = 0x1070; count = 9 }

abbrev pub loop_bottom : Found
loop_bottom = record { begin = 0x1020; opening = no_control; end = 0x10a8; count = 8 }
