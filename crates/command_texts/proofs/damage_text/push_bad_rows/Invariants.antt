use Rattle.std.proofs.Common.{◌≡◌, ◌+◌, ◌*◌, ◌≤◌, ◌++◌, drop}
use Rattle.std.specs.List.{flat_map}
use Rattle.arrayvec.specs.ArrayString.{array_string_len}
use Rattle.picture_model.specs.Described.{rows_of}
use Rattle.command_texts.specs.DamageTexts.{bad_line, bad_rows}
use Rattle.command_texts.proofs.damage_text.push_bad_rows.Given as goal

abbrev pub invariant-loop-number : goal.invariant-loop-number
invariant-loop-number l =
    record {
      bytes :
          l.text.bytes ++ flat_map bad_line (bad_rows (drop l.number (rows_of l.desc l.field)) (drop l.number l.marks))
          ≡ l.fn.text.bytes ++ flat_map bad_line (bad_rows (rows_of l.desc l.field) l.marks);
      long : array_string_len l.text ≤ array_string_len l.fn.text + 25 * l.number;
    }
