-- A chain of two slots, worked: each may lead to the fragments of two descriptions of one row of eight pixels. The first
-- slot is patched to the other fragment while the one that it led to runs.
use Rattle.std.specs.Prelude.{ℕ, List, [], ◌∷◌, ◌++◌, Some, replicate}
use Rattle.risc_word.specs.declared.Code.TheVariants.{Vre, Fm1}
use Rattle.fifo_model.specs.declared.Queue.TheVariants.{One}
use Rattle.page_table.specs.Grants.{chunk}
use Rattle.machine_model.specs.Steps.{Push, Control, Turn}
use Rattle.capture_desc.specs.declared.desc.Desc.{Desc}
use Rattle.picture_model.specs.Worked.{smallest}
use Rattle.field_law.specs.Worked.{entry}
use Rattle.chain_model.specs.declared.PartWords.{PartWords}
use Rattle.chain_model.specs.Chains.{Chain}
use Rattle.chain_model.specs.Live.{LiveStep, Patch, Plain}

-- the smallest description, and the same on another page
abbrev pub other : Desc
other = record smallest { pages = 0x30000 ∷ [] }

-- the fragment of one of them, which writes from an address on
abbrev pub fragment_words : ℕ → ℕ → List ℕ
fragment_words page back =
    0x80008004 ∷ 0 ∷ 0x80000006 ∷ 0 ∷ 0x1c000008 ∷ page ∷ 0x71e10000 ∷ back ∷ []

abbrev pub part : ℕ → ℕ → ℕ → PartWords
part slot page back = record { slot = slot; words = fragment_words page back }

abbrev pub two_slots : Chain
two_slots =
    record {
      base = 0x1000;
      slots = 2;
      parts = part 0 0x20000 0x1008 ∷ part 0 0x30000 0x1008 ∷ part 1 0x20000 0x1010 ∷ part 1 0x30000 0x1010 ∷ [];
      grants = chunk 0x20000 4096 ∷ chunk 0x30000 4096 ∷ [];
    }

abbrev pub turns : ℕ → List LiveStep
turns count = replicate count (Plain Turn)

-- a field of one line
abbrev pub pushes : List LiveStep
pushes =
    Plain (Control Vre) ∷ Plain (Control Fm1) ∷ Plain (Push One (entry 2 0x13121110)) ∷ Plain (Push One (entry 1 0x17161514)) ∷ []

-- the first field is signalled by step 19 and the second by step 31
abbrev pub steps : List LiveStep
steps =
    Patch 0 (Some 0) ∷ (pushes ++ (turns 6 ++ (Patch 0 (Some 1) ∷ (turns 3 ++ (pushes ++ turns 13)))))

-- a field that is broken off within its line, after the slot was patched to the other fragment
abbrev pub broken_steps : List LiveStep
broken_steps =
    Patch 0 (Some 0) ∷ Plain (Control Vre) ∷ Plain (Control Fm1) ∷ Plain (Push One (entry 2 0x13121110))
    ∷ (turns 6 ++ (Patch 0 (Some 1) ∷ Plain (Control Vre) ∷ turns 8))
