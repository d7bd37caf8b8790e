use Rattle.std.proofs.Common.{◌≡◌, ◌*◌, ◌≤◌, length, map, take}
use Rattle.std.specs.List.{flat_map}
use Rattle.picture_model.specs.Programs.{instr_of, words_of}
use Rattle.planar_plan.specs.Stretches.{pieces_in}
use Rattle.field_compile.proofs.words.spell_spans.Given as goal

-- the words of the pieces of the spans done are in front
abbrev pub invariant-loop-span : goal.invariant-loop-span
invariant-loop-span l =
    record {
      few : l.at ≤ 5 * l.span-index;
      room : length l.words ≡ 645;
      words : take l.at l.words ≡ words_of (map (instr_of l.planar) (flat_map (pieces_in l.row) (take l.span-index l.spans)));
    }
