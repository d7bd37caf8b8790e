-- What a live run promises of the parts of its chain.
use Rattle.std.specs.Prelude.{ℕ, ◌<◌}
use Rattle.slot_chain.specs.Pairs.{part_for, shown_by}
use Rattle.slot_chain.specs.Promises.{ShowsDescription}
use Rattle.stream_play.specs.Runs.{LiveRan, chain_ran}

-- the part of each slot for a buffer is the fragment of the buffer's description, whose memory the chain may write
abbrev pub HasFragments : LiveRan → Type 0
HasFragments r =
    (slot buffer : ℕ) → slot < 2 → buffer < 2 → ShowsDescription (chain_ran r) (part_for slot buffer) (shown_by r.first r.second buffer)
