-- Where bytes are appended: the open output, or the text.
use Rattle.std.specs.Prelude.{◌≡◌, ℕ, List, [], ◌∷◌, Option, Result, IsTrue, ⊤}
use Rattle.capture_desk.specs.declared.append.Sink.{Sink}
use Rattle.capture_desk.specs.declared.append.Sink.TheVariants.{Output, Text}
use Rattle.capture_desk.specs.declared.calls.Call.{Call}
use Rattle.capture_desk.specs.declared.calls.Call.TheVariants.{Say}
use Rattle.capture_desk.specs.Desks.{OnlySaid, OnlyWrites, SayCounts, Seen, Tells, Told, WriteCounts, after_say, after_write}

abbrev pub IsReady : Sink → Told → Type 0
IsReady Output t = IsTrue t.output_open
IsReady Text t = ⊤

abbrev pub after_append : Sink → List ℕ → Told → Told
after_append Output = after_write
after_append Text = after_say

-- the calls behind one that appends: no desk tells a write
abbrev pub AppendCalls : Sink → Option (List Call) → Option (List Call) → Type 0
AppendCalls Output old new = new ≡ old
AppendCalls Text old new = Tells (Say ∷ []) old new

-- no count rose, and nothing was done but that these bytes were appended
abbrev pub OnlyAppended : Sink → List ℕ → Seen → Seen → Type 0
OnlyAppended Output bytes = OnlyWrites
OnlyAppended Text bytes = OnlySaid bytes

abbrev pub AppendCounts : {A E : Type 0} → Sink → List ℕ → Result A E → Seen → Seen → Type 0
AppendCounts Output bytes result = WriteCounts result
AppendCounts Text bytes result = SayCounts bytes result
