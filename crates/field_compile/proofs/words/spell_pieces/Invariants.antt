use Rattle.std.proofs.Common.{◌≡◌, ◌*◌, ◌≤◌, map, take}
use Rattle.picture_model.specs.Programs.{instr_of, words_of}
use Rattle.field_compile.proofs.words.spell_pieces.Given as goal

-- the words of the pieces done are in front
abbrev pub invariant-loop-piece : goal.invariant-loop-piece
invariant-loop-piece l =
    record {
      few : l.at ≤ 5 * l.piece-index;
      words : take l.at l.words ≡ words_of (map (instr_of l.planar) (take l.piece-index l.pieces));
    }
