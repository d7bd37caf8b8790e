-- The worked chain meets the premises of the laws, with a patch while the old part runs.
use Rattle.std.proofs.Common.{◌≡◌, zero, suc, ◌^◌, ◌<◌, ◌||◌, Bool, true, false, All, [], ◌∷◌, ◌++◌, None, IsTrue, refl, arith}
use Rattle.std.proofs.lemmas.List.Elements.{All-nil, All-from_recursion}
use Rattle.risc_word.specs.declared.Code.TheVariants.{Vre}
use Rattle.fifo_model.specs.declared.Entry.{Entry}
use Rattle.fifo_model.specs.declared.Queue.{Queue}
use Rattle.fifo_model.specs.declared.Queue.TheVariants.{One, Two, Three}
use Rattle.fifo_model.specs.Queues.{queue_state}
use Rattle.page_table.specs.Grants.{Chunk, covers}
use Rattle.pixel_layout.specs.declared.Parity.TheVariants.{Top}
use Rattle.machine_model.specs.Paths.{shares_byte}
use Rattle.picture_model.specs.Described.{IsDescription}
use Rattle.picture_model.specs.Worked.{smallest}
use Rattle.field_law.specs.Arrivals.{HasCode, coming}
use Rattle.field_law.proofs.Worked as worked
use Rattle.picture_law.specs.Pictures.{IsPicture}
use Rattle.picture_law.specs.Worked.{picture}
use Rattle.picture_law.proofs.Worked as pictures
use Rattle.chain_model.specs.declared.PartWords.{PartWords}
use Rattle.chain_model.specs.Chains.{IsChain, IsSoundChain, alone}
use Rattle.chain_model.specs.Live.{IsLiveStep, mets}
use Rattle.chain_law.specs.Fragments.{AreFragments, GrantsAll, IsFragment}
use Rattle.chain_law.specs.Pictures.{ArrivesAt, IsSignalled, between, live_of}
use Rattle.chain_law.specs.Worked.{other, steps, two_slots}
use Rattle.chain_law.proofs.Sound.{fragments_sound}

pub is_chain : IsChain two_slots
is_chain =
    record {
      slots = (omega arith, omega arith);
      parts = omega arith;
      belong =
          All-from_recursion (λ (p : PartWords). p.slot < 2) two_slots.parts (omega arith, (omega arith, (omega arith, (omega arith, tt))));
      aligned = refl;
      few = omega arith;
      ends = omega arith;
      apart = All-from_recursion (λ (c : Chunk). shares_byte (alone two_slots None) c ≡ false) two_slots.grants (refl, (refl, tt));
    }

other_described : IsDescription other
other_described =
    record {
      formed = record {
        stride = tt;
        offset = tt;
        chroma_first = tt;
        vbi_skip = tt;
        pages = omega arith;
        no_pages = tt;
        chunks = tt;
        bytes = tt;
      };
      pages = All-from_recursion (λ page. page < 2 ^ 32) (0x30000 ∷ []) (omega arith, tt);
      clips = omega arith;
      skipped = omega arith;
    }

first_of : (a b : Bool) → IsTrue (a || false) → IsTrue (a || (b || false))
first_of true b h = h
first_of false b h = cc

second_of : (a b : Bool) → IsTrue (b || false) → IsTrue (a || (b || false))
second_of true b h = refl
second_of false b h = h

pub grants_first : GrantsAll two_slots smallest
grants_first address h =
    first_of (covers (record { at = 0x20000; len = 4096 }) address) (covers (record { at = 0x30000; len = 4096 }) address) h

grants_other : GrantsAll two_slots other
grants_other address h =
    second_of (covers (record { at = 0x20000; len = 4096 }) address) (covers (record { at = 0x30000; len = 4096 }) address) h

pub fragment_0 : IsFragment two_slots 0 smallest
fragment_0 = record { description = pictures.described; frame = refl; words = refl }

pub fragment_1 : IsFragment two_slots 1 other
fragment_1 = record { description = other_described; frame = refl; words = refl }

fragment_2 : IsFragment two_slots 2 smallest
fragment_2 = record { description = pictures.described; frame = refl; words = refl }

fragment_3 : IsFragment two_slots 3 other
fragment_3 = record { description = other_described; frame = refl; words = refl }

pub are_fragments : AreFragments two_slots
are_fragments zero lt = (smallest, fragment_0, grants_first)
are_fragments (suc zero) lt = (other, fragment_1, grants_other)
are_fragments (suc (suc zero)) lt = (smallest, fragment_2, grants_first)
are_fragments (suc (suc (suc zero))) lt = (other, fragment_3, grants_other)
are_fragments (suc (suc (suc (suc more)))) lt = absurd (omega arith)

pub is_sound : IsSoundChain two_slots
is_sound = fragments_sound two_slots is_chain are_fragments

made : All (IsLiveStep two_slots) steps
made =
    All-from_recursion (IsLiveStep two_slots) steps (
      (omega arith, (omega arith, refl)),
      (
        tt,
        (
          tt,
          (
            refl,
            (
              refl,
              (
                tt,
                (
                  tt,
                  (
                    tt,
                    (
                      tt,
                      (
                        tt,
                        (
                          tt,
                          (
                            (omega arith, (omega arith, refl)),
                            (tt, (tt, (tt, (tt, (tt, (refl, (refl, (tt, (tt, (tt, (tt, (tt, (tt, (tt, (tt, (tt, (tt, (tt, (tt, (tt, tt)))))))))))))))))))),
                          ),
                        ),
                      ),
                    ),
                  ),
                ),
              ),
            ),
          ),
        ),
      ),
    )

-- ---- the picture of both fields

second_picture : IsPicture other Top picture
second_picture =
    let first = pictures.pictured in
    record { vbi = first.vbi; rows = first.rows; vbi_bytes = first.vbi_bytes; row_bytes = first.row_bytes }

abbrev IsOther : Entry → Type 0
IsOther entry = HasCode Vre entry → ⊥

-- ---- the first field, while the slot is patched

first_order : (q : Queue) → (queue_state q (live_of two_slots 0 steps 7).machine.queues).entries
    ++ coming (mets two_slots (live_of two_slots 0 steps 7).patching (between 7 20 steps)) q ≡ [] ++ (worked.entries q ++ worked.entries q)
first_order One = refl
first_order Two = refl
first_order Three = refl

first_arrives : ArrivesAt two_slots 0 smallest Top picture (live_of two_slots 0 steps 7) (between 7 20 steps)
first_arrives =
    record {
      fifo_on = refl;
      risc_on = refl;
      waits = refl;
      there = refl;
      kept = (tt, (tt, (tt, (tt, (tt, (tt, (tt, (refl, (refl, (refl, (refl, (tt, tt))))))))))));
      before = λ q. [];
      entries = worked.entries;
      rest = worked.entries;
      order = first_order;
      unmarked = λ q. All-nil IsOther;
      brought = record { skipped = pictures.none_skipped; lines = pictures.no_skips; brings = pictures.brings };
    }

pub first_signalled : IsSignalled two_slots 0 smallest Top picture 0 steps 7 19
first_signalled =
    record {
      capture = record {
        is_chain = is_chain;
        sound = is_sound;
        is_part = omega arith;
        fragment = fragment_0;
        described = refl;
        pictured = pictures.pictured;
        made = made;
      };
      signal = record { later = omega arith; there = omega arith; turn = refl; signal = refl; silent = refl };
      arrives = first_arrives;
    }

-- ---- the second field, in the part that was patched in

second_order : (q : Queue) → (queue_state q (live_of two_slots 0 steps 24).machine.queues).entries
    ++ coming (mets two_slots (live_of two_slots 0 steps 24).patching (between 24 32 steps)) q ≡ [] ++ (worked.entries q ++ [])
second_order One = refl
second_order Two = refl
second_order Three = refl

second_arrives : ArrivesAt two_slots 1 other Top picture (live_of two_slots 0 steps 24) (between 24 32 steps)
second_arrives =
    record {
      fifo_on = refl;
      risc_on = refl;
      waits = refl;
      there = refl;
      kept = (tt, (tt, (tt, (tt, (tt, (tt, (tt, (tt, tt))))))));
      before = λ q. [];
      entries = worked.entries;
      rest = λ q. [];
      order = second_order;
      unmarked = λ q. All-nil IsOther;
      brought = let skips = pictures.no_skips in
          record { skipped = pictures.none_skipped; lines = record { vbi = skips.vbi; rows = skips.rows }; brings = pictures.brings };
    }

pub second_signalled : IsSignalled two_slots 1 other Top picture 0 steps 24 31
second_signalled =
    record {
      capture = record {
        is_chain = is_chain;
        sound = is_sound;
        is_part = omega arith;
        fragment = fragment_1;
        described = refl;
        pictured = second_picture;
        made = made;
      };
      signal = record { later = omega arith; there = omega arith; turn = refl; signal = refl; silent = refl };
      arrives = second_arrives;
    }
