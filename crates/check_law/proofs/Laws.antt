-- The law of the picture for programs that are found to show a field, from that of trails.
use Rattle.std.proofs.Common.{◌≡◌, ℕ, suc, ◌+◌, Bool, true, false, not, ◌==◌, if◌then◌else◌, List, [], ◌∷◌, ◌++◌, All, length, Ok, Err}
use Rattle.std.proofs.Common.{refl, sym, ap, subst, ◌∙◌, arith, eq-eqb}
use Rattle.risc_word.specs.declared.Instr.{Instr}
use Rattle.risc_word.specs.declared.Instr.TheVariants.{Sync}
use Rattle.risc_word.specs.Words.{Reading, code_number, encoded}
use Rattle.fifo_model.specs.declared.Queue.{Queue}
use Rattle.page_table.specs.Grants.{granted}
use Rattle.page_table.specs.Blocks.{Block, byte_at, chunks_of}
use Rattle.pixel_layout.specs.declared.Parity.{Parity}
use Rattle.machine_model.specs.Paths.{RiscProgram, Place, fetch, path}
use Rattle.machine_model.specs.States.{State}
use Rattle.machine_model.specs.Turns.{Store}
use Rattle.machine_model.specs.Steps.{Turn, run_in}
use Rattle.machine_model.proofs.Places.{path-suc}
use Rattle.machine_model.proofs.Runs.{chunks-run_in}
use Rattle.capture_desc.specs.declared.desc.Desc.{Desc}
use Rattle.picture_model.specs.Programs.{body, vertical}
use Rattle.picture_model.proofs.FaultlessGeometry.{IsRight, IsFrame-IsRight}
use Rattle.field_law.specs.Fields.{Token}
use Rattle.field_law.specs.Sections.{IsUsedUp, PaintsField, UsesField, asks, body_stores, is_stored}
use Rattle.field_law.specs.Trails.{Trail, Leads, LeadsFrom, next_at, after_closing}
use Rattle.field_law.specs.TrailLaws.{TrailReceives}
use Rattle.field_law.specs.Arrivals.{Met}
use Rattle.field_law.proofs.GrantedStores.{trail_stores_granted}
use Rattle.field_law.proofs.TrailLaws as proved
use Rattle.picture_law.specs.Pictures.{Picture, AreSkipped, HasPlaces, IsPicture, SkippedLines, field_tokens}
use Rattle.picture_law.proofs.Body.{section_makes, section_uses}
use Rattle.picture_law.proofs.KeptBytes.{kept_stored, queue_of}
use Rattle.picture_law.proofs.Painted.{after_paints, after_same, painted, painted_after, stored_holds}
use Rattle.check_model.specs.Checks.{Answer, awaited, fuel, opened, walked}
use Rattle.check_model.specs.declared.Why.TheVariants.{Unread, NoSync, NoResync}
use Rattle.check_law.specs.Laws.{Found, IsChecked, Captures, ShowsPicture, ShowsNoFault, EndsWithClosing, EndsInTime}
use Rattle.check_law.proofs.ByBytes.{same_uses, same_planned}
use Rattle.check_law.proofs.Walked.{Walked, walks}

pub opened_walks : (same : Bool) (bad : Answer) (other walk : Answer) → same ≡ true →
    (if not same then bad else (if not true then other else walk)) ≡ walk
opened_walks true bad other walk e = refl
opened_walks false bad other walk e = cc

module _ (program : RiscProgram) (d : Desc) (field : Parity) (f : Found) (c : IsChecked program d field f) where
  right : IsRight d
  right = IsFrame-IsRight d c.description c.frame

  -- the trail of the field in the program
  pub found : Walked program (f.begin + 8) (awaited d field) f.end f.count
  found =
      let there : fetch program (path program c.number).pc ≡ Ok (Sync f.opening true (vertical field), 2) =
      ap (fetch program) c.on_path ∙ c.opens in
      let next : (path program (suc c.number)).pc ≡ f.begin + 8 =
      ap (λ (place : Place). place.pc) (path-suc program c.number (Sync f.opening true (vertical field)) 2 c.sound there)
      ∙ ap (λ (pc : ℕ). pc + 8) c.on_path in
      walks program c.sound d field (fuel program) (f.begin + 8) (suc c.number) (awaited d field) f.end f.count next
      (sym (opened_walks (code_number (vertical field) == code_number (vertical field)) (Err (f.begin, NoSync (vertical field)))
      (Err (f.begin, NoResync)) (walked (fuel program) program d field (f.begin + 8) (awaited d field)) (eq-eqb _ _ refl))
      ∙ sym (ap (λ (reading : Reading). elim reading as (λ _. Answer) [
        | Err fault ↦ Err (f.begin, Unread)
        | Ok read ↦ opened read.0 program d field f.begin
      ]) c.opens)
      ∙ c.found)

  abbrev trail : Trail
  trail =
      record {
        opening = f.opening;
        code = vertical field;
        at = f.begin + 8;
        body = found.body;
        closing = found.closing;
        end = f.end;
      }

  leads : Leads trail program
  leads = found.leads

  module _ (picture : Picture) (is : IsPicture d field picture) (skipped : SkippedLines) (skips : AreSkipped d field skipped) where
    abbrev tokens : Queue → List Token
    tokens = field_tokens d picture skipped

    uses : UsesField found.body tokens
    uses q =
        same_uses IsUsedUp (asks q found.body) (asks q (body d field)) [] (tokens q) (found.asked q)
        (section_uses d right field c.described picture is skipped skips 0 0 q)

    -- it stores what the description's own section stores
    stores : (q : Queue) → body_stores (body d field) tokens q ≡ body_stores found.body tokens q
    stores q = sym (same_planned (asks q found.body) (asks q (body d field)) [] (tokens q) (found.asked q))

    paints : (memory : List Block) (final : ℕ → ℕ) → PaintsField (body d field) tokens memory final →
        PaintsField found.body tokens memory final
    paints memory final p =
        record {
          within = λ q.
              subst (λ (made : List Store). All (λ store. granted (chunks_of memory) store.address ≡ true) made) (stores q) (p.within q);
          agree = λ q. subst (λ (made : List Store). All (λ store. final store.address ≡ store.byte) made) (stores q) (p.agree q);
          others = λ address none. p.others address (λ q. ap (is_stored address) (stores q) ∙ none q);
        }

    places : HasPlaces d field program.grants
    places byte address kept =
        let q = queue_of d right field c.described picture is skipped skips byte in
        stored_holds (λ address. granted program.grants address ≡ true) (body_stores found.body tokens q) address
        (trail_stores_granted trail tokens program leads q)
        (ap (is_stored address) (sym (stores q) ∙ section_makes d right field c.described picture is skipped skips 0 0 q)
        ∙ kept_stored d right field c.described picture is skipped skips byte address kept)

module _ (program : RiscProgram) (d : Desc) (field : Parity) (f : Found) (picture : Picture) (m : State) (steps : List Met)
    (c : Captures program d field f picture m steps) where
  abbrev field_of : Queue → List Token
  field_of = field_tokens d picture c.arrives.brought.skipped

  abbrev receives : TrailReceives (trail program d field f c.shown) field_of m steps
  receives =
      record {
        orderly = c.orderly;
        made = c.made;
        held = λ k other within.
            subst (Leads (trail program d field f c.shown)) (sym (c.own k other within)) (leads program d field f c.shown);
        uses = uses program d field f c.shown picture c.pictured c.arrives.brought.skipped c.arrives.brought.lines;
        arrives = record {
          fifo_on = c.arrives.fifo_on;
          risc_on = c.arrives.risc_on;
          waits = c.arrives.waits;
          there = c.arrives.there;
          kept = c.arrives.kept;
          before = c.arrives.before;
          entries = c.arrives.entries;
          rest = c.arrives.rest;
          order = c.arrives.order;
          unmarked = c.arrives.unmarked;
          brought = c.arrives.brought.brings;
        };
      }

-- the closing is at the end
closing_is : (program : RiscProgram) (end : ℕ) (body : List Instr) (at : ℕ) (closing instr : Instr) (count : ℕ) →
    LeadsFrom program end at body closing → fetch program end ≡ Ok (instr, count) → closing ≡ instr
closing_is program end [] at closing instr count leads is =
    let both : Ok (closing, length (encoded closing)) ≡ Ok (instr, count) = sym leads.1 ∙ ap (fetch program) leads.0 ∙ is in
    let pair : (closing, length (encoded closing)) ≡ (instr, count) = cc in
    ap (λ (pair : Instr × ℕ). pair.0) pair
closing_is program end (first ∷ rest) at closing instr count leads is =
    closing_is program end rest (next_at first at) closing instr count leads.3 is

pub shows_picture : ShowsPicture
shows_picture program d field f picture m early late c unended ended =
    let steps = early ++ (program, Turn) ∷ late in
    let t = trail program d field f c.shown in
    let skipped = c.arrives.brought.skipped in
    let skips = c.arrives.brought.lines in
    let is_right = right program d field f c.shown in
    let described = c.shown.described in
    let is = c.pictured in
    let there : HasPlaces d field (chunks_of m.memory) =
    subst (HasPlaces d field) (sym c.chunks) (places program d field f c.shown picture is skipped skips) in
    let now = painted d is_right field described picture is skipped skips m.memory there in
    let after = painted_after d is_right field described picture is skipped skips m.memory there in
    after_same d field picture m.memory now (run_in m (early ++ (program, Turn) ∷ [])).memory after
    (chunks-run_in m (early ++ (program, Turn) ∷ []))
    (λ address.
    proved.trail_shows_picture t (field_tokens d picture skipped) (byte_at now) m early late program
    (receives program d field f picture m steps c)
    (paints program d field f c.shown picture is skipped skips m.memory (byte_at now)
    (after_paints d is_right field described picture is skipped skips m.memory there 0 0 now after)) unended ended address)

pub shows_no_fault : ShowsNoFault
shows_no_fault program d field f picture m early late c unended =
    let steps = early ++ (program, Turn) ∷ late in
    proved.trail_shows_no_fault (trail program d field f c.shown) (field_of program d field f picture m steps c) m early late program
    (receives program d field f picture m steps c) unended

pub ends_with_closing : EndsWithClosing
ends_with_closing program d field f picture m early late c unended ended instr count is =
    let steps = early ++ (program, Turn) ∷ late in
    let t = trail program d field f c.shown in
    proved.trail_ends_with_closing t (field_of program d field f picture m steps c) m early late program
    (receives program d field f picture m steps c) unended ended
    ∙ ap (λ (closing : Instr). after_closing closing (run_in m early).interrupts)
    (closing_is program f.end t.body (f.begin + 8) t.closing instr count (leads program d field f c.shown) is)

pub ends_in_time : EndsInTime
ends_in_time program d field f picture m early late c come many =
    let long = (found program d field f c.shown).long in
    proved.trail_is_bounded (trail program d field f c.shown) (field_of program d field f picture m (early ++ late) c) m early late
    (receives program d field f picture m (early ++ late) c) come (omega arith)
