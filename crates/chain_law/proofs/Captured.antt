-- A picture that arrives in a live run arrives over the machine's steps, each of which meets the section of its field.
use Rattle.std.proofs.Common.{◌≡◌, ℕ, ◌-◌, ◌≤◌, List, ◌++◌, drop, All, None, sym, ap, ◌∙◌, subst}
use Rattle.std.proofs.lemmas.List.Elements.{All-drop, All-take}
use Rattle.page_table.specs.Blocks.{chunks_of}
use Rattle.pixel_layout.specs.declared.Parity.{Parity}
use Rattle.machine_model.specs.Steps.{with_program}
use Rattle.machine_model.specs.Safety.{IsOrderly}
use Rattle.machine_model.proofs.Orderly.{IsOrderly-with_program}
use Rattle.capture_desc.specs.declared.desc.Desc.{Desc}
use Rattle.field_law.specs.Sections.{Holds}
use Rattle.field_law.specs.Arrivals.{Met}
use Rattle.picture_model.specs.Programs.{section_begin, section_next}
use Rattle.picture_law.specs.Pictures.{HasPlaces, Picture}
use Rattle.picture_law.specs.Laws.{Captures, IsPictured}
use Rattle.picture_law.proofs.Between.{range_split}
use Rattle.picture_law.proofs.Laws.{grants_places}
use Rattle.chain_model.specs.Chains.{Chain, IsChain, IsSoundChain, alone, alone_in, head, next, part_of, patched}
use Rattle.chain_model.specs.Live.{IsLive, IsLiveStep, Live, LiveStep, first_live, mets}
use Rattle.chain_model.proofs.Live.{IsLive-at}
use Rattle.chain_model.proofs.Slots.{length-alone}
use Rattle.chain_law.specs.Pictures.{ArrivesAt, IsLiveCapture, between, live_of, section_in}
use Rattle.chain_law.proofs.Meets.{live_between, mets-append, mets_made, mets_meet}
use Rattle.chain_law.proofs.Standing.{patched_holds}

-- the machine's steps from a place of a live run up to another
abbrev pub met_from : Chain → ℕ → List LiveStep → ℕ → ℕ → List Met
met_from chain fill steps j l = mets chain (live_of chain fill steps j).patching (between j l steps)

pub met_both : (chain : Chain) (fill : ℕ) (steps : List LiveStep) (j i l : ℕ) → j ≤ i → i ≤ l →
    met_from chain fill steps j l ≡ met_from chain fill steps j i ++ met_from chain fill steps i l
met_both chain fill steps j i l from to =
    let live = live_of chain fill steps j in
    ap (mets chain live.patching) (range_split j i l steps from to)
    ∙ mets-append chain live (between j i steps) (between i l steps)
    ∙ ap (λ (now : Live). met_from chain fill steps j i ++ mets chain now.patching (between i l steps))
    (live_between chain (first_live chain fill) steps j i from)

module _ (chain : Chain) (fill : ℕ) (steps : List LiveStep) (is : IsChain chain) (sound : IsSoundChain chain)
    (made : All (IsLiveStep chain) steps) where
  kept : (i : ℕ) → IsLive chain (live_of chain fill steps i)
  kept i = IsLive-at chain is sound fill steps i made

  -- the machine has the words of the patching
  pub live_program : (i : ℕ) → let live = live_of chain fill steps i in live.machine.program ≡ patched chain live.patching
  live_program i = (kept i).program

module _ (chain : Chain) (part : ℕ) (d : Desc) (field : Parity) (picture : Picture) (fill : ℕ) (steps : List LiveStep) (j : ℕ)
    (c : IsLiveCapture chain part d field picture steps) where
  abbrev begin : ℕ
  begin = section_begin d (head chain part) field

  abbrev target : ℕ
  target = section_next d (head chain part) (next chain (part_of chain part).slot) field

  abbrev live : Live
  live = live_of chain fill steps j

  pub kept_here : IsLive chain live
  kept_here = kept chain fill steps c.is_chain c.sound c.made j

  pub some_made : (l : ℕ) → All (IsLiveStep chain) (between j l steps)
  some_made l = All-take (IsLiveStep chain) (l - j) (drop j steps) (All-drop (IsLiveStep chain) j steps c.made)

  pub holds_all : (l : ℕ) → All (λ met. Holds (section_in chain part d field) met.0) (met_from chain fill steps j l)
  holds_all l =
      mets_meet chain (Holds (section_in chain part d field))
      (λ patching good. patched_holds chain part c.is_part d c.fragment c.is_chain c.sound patching good.long field c.described)
      c.is_chain c.sound live.patching (between j l steps) kept_here.patching (some_made l)

  pub pictured : IsPictured d field picture
  pictured = record { description = c.fragment.description; frame = c.fragment.frame; described = c.described; pictured = c.pictured }

  -- memory has the places of the picture
  pub places : (l : ℕ) → ArrivesAt chain part d field picture live (between j l steps) → HasPlaces d field (chunks_of live.machine.memory)
  places l arrives =
      subst (HasPlaces d field) (sym kept_here.safe.chunks)
      (grants_places d field begin target picture arrives.brought.skipped (alone chain None) pictured arrives.brought.lines
      (patched_holds chain part c.is_part d c.fragment c.is_chain c.sound (alone_in chain None)
      (length-alone chain None) field c.described))

  pub orderly : IsOrderly live.machine
  orderly = IsOrderly-with_program live.machine.program (with_program (alone chain kept_here.part) live.machine) kept_here.safe.orderly

  abbrev pub live_captures : (l : ℕ) → ArrivesAt chain part d field picture live (between j l steps) →
      Captures d field begin target picture live.machine (met_from chain fill steps j l)
  live_captures l arrives =
      record {
        pictured = pictured;
        orderly = orderly;
        places = places l arrives;
        made = mets_made chain live.patching (between j l steps) (some_made l);
        held = holds_all l;
        arrives = arrives;
      }
