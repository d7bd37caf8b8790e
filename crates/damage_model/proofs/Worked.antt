-- The worked field of two clipped rows meets the premises of the law of whole rows.
use Rattle.std.proofs.Common.{◌^◌, ◌<◌, All, [], ◌∷◌, refl, arith}
use Rattle.std.proofs.lemmas.List.Elements.{All-from_recursion}
use Rattle.fifo_model.specs.declared.Queue.TheVariants.{One}
use Rattle.pixel_layout.specs.declared.Parity.TheVariants.{Top}
use Rattle.machine_model.specs.Safety.{IsStep}
use Rattle.picture_model.specs.Described.{IsDescription}
use Rattle.damage_model.specs.Standing.{IsSignalSince}
use Rattle.damage_model.specs.Worked.{IsWholeRow, clipped, cut_short}

described : IsDescription clipped
described =
    record {
      formed = record {
        stride = tt;
        offset = tt;
        chroma_first = tt;
        vbi_skip = tt;
        pages = omega arith;
        no_pages = tt;
        chunks = tt;
        bytes = tt;
      };
      pages = All-from_recursion (λ page. page < 2 ^ 32) (0x20000 ∷ []) (omega arith, tt);
      clips = omega arith;
      skipped = omega arith;
    }

made : All IsStep cut_short
made =
    All-from_recursion IsStep cut_short
    (tt, (tt, (refl, (refl, (refl, (refl, (refl, (refl, (tt, (tt, (tt, (tt, (tt, (tt, (tt, (tt, (tt, (tt, (tt, (tt, (tt, (tt, (tt, (tt, (tt, (tt, (tt, (tt, (tt, tt)))))))))))))))))))))))))))))

signal : IsSignalSince clipped Top 0x55 cut_short 8 28
signal =
    record {
      description = described;
      valid = refl;
      described = refl;
      made = made;
      there = omega arith;
      signal = refl;
      opened = refl;
    }

pub row_is_whole : IsWholeRow clipped cut_short 8 28 One 1 0 0x20010
row_is_whole = record { signal = signal; whole = refl; kept = ((refl, omega arith, omega arith, refl), refl) }
