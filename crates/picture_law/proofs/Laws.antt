-- The law of the picture, from the law of a section.
use Rattle.std.proofs.Common.{◌≡◌, ℕ, ◌+◌, List, [], ◌∷◌, ◌++◌, length, length-append, refl, sym, ap, ◌∙◌, subst, arith}
use Rattle.fifo_model.specs.declared.Queue.{Queue}
use Rattle.page_table.specs.Blocks.{byte_at, chunks_of}
use Rattle.page_table.proofs.Memory.{chunks_of-filled}
use Rattle.pixel_layout.specs.declared.Parity.{Parity}
use Rattle.pixel_layout.specs.declared.Parity.TheVariants.{Top, Bottom}
use Rattle.machine_model.specs.Paths.{RiscProgram}
use Rattle.machine_model.specs.States.{State, first_state}
use Rattle.machine_model.specs.Steps.{Step, Turn, run_in}
use Rattle.machine_model.specs.Safety.{IsStep}
use Rattle.machine_model.proofs.Runs.{IsOrderly-run, chunks-run, chunks-run_in, program-run}
use Rattle.machine_model.proofs.Orderly.{IsOrderly-first_state}
use Rattle.capture_desc.specs.declared.desc.Desc.{Desc}
use Rattle.picture_model.specs.Programs.{body, closing, compiled, signal, size}
use Rattle.picture_model.proofs.FaultlessGeometry.{IsRight, IsFrame-IsRight, IsValid-IsFrame}
use Rattle.field_law.specs.Arrivals.{Met}
use Rattle.field_law.specs.Fields.{Token}
use Rattle.field_law.specs.Laws.{Receives, ShowsBits}
use Rattle.field_law.specs.Sections.{Holds}
use Rattle.field_law.proofs.Laws as proved
use Rattle.field_law.proofs.Meeting.{each-meets, each-step}
use Rattle.picture_law.specs.Pictures.{Picture, HasPlaces, field_tokens}
use Rattle.picture_law.specs.Sections.{section_at, section_of}
use Rattle.picture_law.specs.Laws.{Captures, IsPictured, EndsSection, GrantsPlaces, HoldsSection, PaintsPicture, UsesPicture, ShowsPicture}
use Rattle.picture_law.specs.Laws.{ShowsNoFault, SignalsField, SignalsInTime, TellsField}
use Rattle.picture_law.specs.Runs.{CompiledIsMet, IsCapture, RunsAreMet, RunsCompiled}
use Rattle.picture_law.proofs.Program.{closing_there, section_holds}
use Rattle.picture_law.proofs.Body.{section_uses}
use Rattle.picture_law.proofs.KeptBytes.{kept_granted}
use Rattle.picture_law.proofs.Painted.{painted, painted_after, after_paints, after_same, holds_places}

pictured_right : (d : Desc) (field : Parity) (picture : Picture) → IsPictured d field picture → IsRight d
pictured_right d field picture p = IsFrame-IsRight d p.description p.frame

module _ (d : Desc) (field : Parity) (begin target : ℕ) (picture : Picture) (m : State) (steps : List Met)
    (c : Captures d field begin target picture m steps) where
  abbrev right : IsRight d
  right = pictured_right d field picture c.pictured

  abbrev tokens : Queue → List Token
  tokens = field_tokens d picture c.arrives.brought.skipped

  -- the field arrives at its section
  abbrev receives : Receives (section_at d field begin target) tokens m steps
  receives =
      record {
        orderly = c.orderly;
        made = c.made;
        held = c.held;
        uses =
            section_uses d right field c.pictured.described picture c.pictured.pictured c.arrives.brought.skipped c.arrives.brought.lines
            begin target;
        arrives = record {
          fifo_on = c.arrives.fifo_on;
          risc_on = c.arrives.risc_on;
          waits = c.arrives.waits;
          there = c.arrives.there;
          kept = c.arrives.kept;
          before = c.arrives.before;
          entries = c.arrives.entries;
          rest = c.arrives.rest;
          order = c.arrives.order;
          unmarked = c.arrives.unmarked;
          brought = c.arrives.brought.brings;
        };
      }

pub shows_picture : ShowsPicture
shows_picture d field begin target picture m early late program c silent signal =
    let steps = early ++ (program, Turn) ∷ late in
    let skipped = c.arrives.brought.skipped in
    let skips = c.arrives.brought.lines in
    let is_right = pictured_right d field picture c.pictured in
    let described = c.pictured.described in
    let is = c.pictured.pictured in
    let now = painted d is_right field described picture is skipped skips m.memory c.places in
    let after = painted_after d is_right field described picture is skipped skips m.memory c.places in
    after_same d field picture m.memory now (run_in m (early ++ (program, Turn) ∷ [])).memory after
    (chunks-run_in m (early ++ (program, Turn) ∷ []))
    (λ address.
    proved.shows_picture (section_at d field begin target) (field_tokens d picture skipped) (byte_at now) m early late program
    (receives d field begin target picture m steps c)
    (after_paints d is_right field described picture is skipped skips m.memory c.places begin target now after) silent signal address)

pub shows_no_fault : ShowsNoFault
shows_no_fault d field begin target picture m early late program c silent =
    let steps = early ++ (program, Turn) ∷ late in
    proved.shows_no_fault (section_at d field begin target) (tokens d field begin target picture m steps c) m early late program
    (receives d field begin target picture m steps c) silent

tells : (field : Parity) (old : ℕ) (m : State) → ShowsBits (signal field) old m.interrupts → TellsField field m
tells Top old m bits = record { raised = bits.raised refl; status = bits.status refl }
tells Bottom old m bits = record { raised = bits.raised refl; status = bits.status refl }

pub signals_field : SignalsField
signals_field d field begin target picture m early late program c silent signal =
    let steps = early ++ (program, Turn) ∷ late in
    tells field (run_in m early).interrupts (run_in m (early ++ (program, Turn) ∷ []))
    (proved.signals_closing (section_at d field begin target) (tokens d field begin target picture m steps c) m early late program
    (receives d field begin target picture m steps c) silent signal)

-- ---- the bound

size_long : (d : Desc) (field : Parity) → size d field ≡ length (body d field) + 2
size_long d field =
    let inner = length-append (body d field) (closing field d.base ∷ []) in
    omega arith

pub signals_in_time : SignalsInTime
signals_in_time d field begin target picture m early late c come many =
    let long = size_long d field in
    proved.is_bounded (section_at d field begin target) (tokens d field begin target picture m (early ++ late) c) m early late
    (receives d field begin target picture m (early ++ late) c) come (omega arith)

-- ---- a section meets the law of a section

pub holds_section : HoldsSection
holds_section d field is frame described = section_holds d field (IsFrame-IsRight d is frame) described

pub ends_section : EndsSection
ends_section = closing_there

pub uses_picture : UsesPicture
uses_picture d field begin target picture skipped p skips =
    section_uses d (pictured_right d field picture p) field p.described picture p.pictured skipped skips begin target

pub paints_picture : PaintsPicture
paints_picture d field begin target picture skipped memory now p skips places after =
    after_paints d
    (pictured_right d field picture p) field p.described picture p.pictured skipped skips memory places begin target now after

pub grants_places : GrantsPlaces
grants_places d field begin target picture skipped program p skips held =
    holds_places d (pictured_right d field picture p) field p.described picture p.pictured skipped skips begin target program held

-- ---- runs of a compiled program

pub runs_compiled : RunsAreMet
runs_compiled d fill steps made =
    let start = first_state (compiled d) fill in
    let program = program-run start steps in
    record {
      program = program;
      orderly = IsOrderly-run start steps made (IsOrderly-first_state (compiled d) fill);
      chunks =
          chunks-run start steps ∙ chunks_of-filled fill (compiled d).grants ∙ ap (λ (program : RiscProgram). program.grants) (sym program);
    }

pub compiled_places : (d : Desc) (field : Parity) (picture : Picture) (m : State) (steps : List Step) → IsCapture d field picture steps →
    RunsCompiled d m → HasPlaces d field (chunks_of m.memory)
compiled_places d field picture m steps c r =
    subst (HasPlaces d field) (sym (r.chunks ∙ ap (λ (program : RiscProgram). program.grants) r.program))
    (kept_granted d (IsFrame-IsRight d c.description (IsValid-IsFrame d c.valid)) field c.described)

abbrev pub compiled_is_met : CompiledIsMet
compiled_is_met d field picture m steps c r arrives =
    record {
      pictured = record { description = c.description; frame = IsValid-IsFrame d c.valid; described = c.described; pictured = c.pictured };
      orderly = r.orderly;
      places = compiled_places d field picture m steps c r;
      made = each-step IsStep (compiled d) steps c.made;
      held =
          each-meets (Holds (section_of d field)) (compiled d) steps
          (section_holds d field (IsFrame-IsRight d c.description (IsValid-IsFrame d c.valid)) c.described);
      arrives = arrives;
    }
