-- What each command makes of the contents of its inputs.
use Rattle.std.proofs.Common.{◌≡◌, ℕ, List, [], ◌∷◌, ◌++◌, Bool, false, true, arith, flat_map, Option, Some, None, Ok, refl, sym, ap, subst}
use Rattle.std.proofs.Common.{◌∙◌}
use Rattle.capture_desk.specs.Desks.{Inputs, named}
use Rattle.bt878_words.specs.declared.Task.TheVariants as command
use Rattle.bt878_words.specs.Words.{Word}
use Rattle.capture_file.specs.Images.{image_of}
use Rattle.capture_file.specs.Programs.{program_of, spelled}
use Rattle.capture_file.specs.declared.Step.{Step}
use Rattle.capture_file.specs.Streams.{steps_of, steps_run}
use Rattle.capture_desc.specs.declared.desc.Desc.{Desc}
use Rattle.capture_desc.specs.declared.desc.Fields.{Fields}
use Rattle.capture_desc.specs.declared.desc.Fields.TheVariants as fields
use Rattle.pixel_layout.specs.declared.Parity.{Parity}
use Rattle.pixel_layout.specs.declared.Parity.TheVariants.{Top, Bottom}
use Rattle.machine_model.specs.Paths.{RiscProgram, IsSound}
use Rattle.machine_model.specs.States.{State, first_state}
use Rattle.machine_model.proofs.Runs.{IsInside-first_state, program-run}
use Rattle.dma_machine.specs.Facts.{report_of}
use Rattle.picture_model.specs.Described.{describes, fields_of, rows_of as picture_rows}
use Rattle.picture_model.specs.Programs.{compiled}
use Rattle.field_stream.specs.Made.{made, made_entries, made_fields}
use Rattle.program_build.proofs.Checking.{checked_sound}
use Rattle.damage_law.specs.Laws.{map_after}
use Rattle.damage_map.specs.Maps.{Map, rows_of}
use Rattle.damage_map.specs.Tracks.{track_notes}
use Rattle.damage_law.proofs.AnswersKept.{keeps_answers}
use Rattle.command_texts.specs.DamageTexts.{damage_text, field_text}
use Rattle.ring_model.specs.Rings.{Ring, ring_program}
use Rattle.ring_model.proofs.Sound.{ring_sound}
use Rattle.ring_machine.specs.States.{RingState}
use Rattle.chain_model.specs.Live.{Live}
use Rattle.slot_chain.specs.States.{ChainState}
use Rattle.slot_chain.specs.Promises.{IsPair}
use Rattle.slot_chain.proofs.Promising.{plays_keep_promises}
use Rattle.risc_listing.specs.Listings.{listing}
use Rattle.command_texts.specs.Texts.{accepted_text, blocks_text, help_text, made_text, report_text, version_text}
use Rattle.command_steps.specs.Inputs.{OfFile, OfInput}
use Rattle.command_steps.specs.Outputs.{Product}
use Rattle.command_steps.proofs.Inputs.{OfInput-map}
use Rattle.command_inputs.specs.Programs.{Accepts, GivesSound, HoldsSound}
use Rattle.command_inputs.specs.Descriptions.{Describes, GivesCompiled}
use Rattle.command_inputs.specs.Listings.{GivesAssembled}
use Rattle.command_inputs.specs.Checked.{FindsBy, FindsIn}
use Rattle.command_inputs.specs.Rings.{GivesRing, GivesRingProgram, IsRingFile}
use Rattle.command_inputs.specs.Chains.{IsFrameFile}
use Rattle.kept_stream.specs.Kept.{HoldsKept}
use Rattle.kept_stream.proofs.UpToLimit.{kept_by_more}
use Rattle.stream_play.specs.Plays.{HasPlayed, HasPlayedWatched, longest_stream}
use Rattle.stream_play.specs.Runs.{HasPlayedChain, HasPlayedRing, IsRun, LiveRan, Ran, first_of, last_of}
use Rattle.stream_play.proofs.Fitting.{all_fit, steps_fit}
use Rattle.trace_play.specs.Playing.{begun, text_left}
use Rattle.trace_play.specs.Texts.{trace_text}
use Rattle.trace_play.proofs.Texts.{whole_trace}
use Rattle.bt878_contract.specs.Tasks as tasks
use Rattle.bt878_contract.specs.Tasks.{ChainOf, DescMakes, IsListed, IsProduct, ListingMakes, MakesBy, Reports, ReportsBlocks, RunMakes}
use Rattle.bt878_contract.specs.Tasks.{RunMeaning, RunOf, RunsProgram, TellsRows, Traces}
use Rattle.bt878_contract.specs.Tasks.{blocks_of, compiled_text, image_file, image_of_run, input_of, no_file, program_and_image}
use Rattle.bt878_contract.specs.Tasks.{program_file, program_text, rows_told}

-- ---- two inputs

both_inputs : (name other : List ℕ) (inputs : Option Inputs) (P Q : List ℕ → Type 0) (R : List ℕ → List ℕ → Type 0) →
    ((a b : List ℕ) → P a → Q b → R a b) → OfInput name inputs P → OfInput other inputs Q →
    OfInput name inputs (λ a. OfInput other inputs (λ b. R a b))
both_inputs name other None P Q R f h k = tt
both_inputs name other (Some inputs) P Q R f h k = of_both (named name inputs) (named other inputs) h k
  where
    of_both : (one two : Option (List ℕ)) → OfFile one P → OfFile two Q → OfFile one (λ a. OfFile two (λ b. R a b))
    of_both None two h k = h
    of_both (Some a) None h k = k
    of_both (Some a) (Some b) h k = f a b h k

-- ---- runs over a stream

module _ (r : RunMeaning) (inputs : Option Inputs) (product : Product) where
  -- the first input gave something, and the stream was played
  over_stream : (P Q : List ℕ → Type 0) → ((a b : List ℕ) → P a → Q b → RunOf r.Gives r.files r.Says (a ∷ b ∷ []) product) →
      OfInput (input_of r.source).name inputs P → OfInput (input_of r.stream).name inputs Q → MakesBy (RunsProgram r) inputs product
  over_stream P Q f gives plays = (
    both_inputs (input_of r.source).name (input_of r.stream).name inputs P Q
        (λ a b. RunOf r.Gives r.files r.Says (a ∷ b ∷ []) product) f gives plays,
    tt,
  )

-- a run of a sound program stays inside
module _ (r : Ran) (sound : IsSound r.program) where
  run_makes : (Gives : List ℕ → RiscProgram → ℕ → Type 0) (a b : List ℕ) → IsRun Gives a b r → (files given : List (List ℕ × List ℕ)) →
      given ≡ files → (Says : List ℕ → Type 0) (text : List ℕ) → Says text →
      RunMakes files Says (record { files = given; text = text }) r
  run_makes Gives a b is files given e Says text says =
      record {
        sound = sound;
        writes = e;
        says = says;
        inside = λ place. IsInside-first_state r.program r.fill (steps_run r.steps) place sound (steps_fit b r.steps is.reads);
      }

  -- the files of the last machine are those of the run
  module _ (m : State) (last : m ≡ last_of r) where
    same_image : (image : List ℕ) → (image, image_of m.memory) ∷ [] ≡ image_of_run image r
    same_image image = ap (λ (s : State). (image, image_of s.memory) ∷ []) last

    same_both : (program image : List ℕ) →
        (program, spelled m.program r.fill) ∷ (image, image_of m.memory) ∷ [] ≡ program_and_image program image r
    same_both program image =
        ap (λ (s : State). (program, spelled s.program r.fill) ∷ (image, image_of s.memory) ∷ []) last
        ∙ ap (λ p. (program, spelled p r.fill) ∷ image_file image r ∷ []) (program-run (first_of r) (steps_run r.steps))

    its_report : (text : List ℕ) → text ≡ report_text (report_of m) → text ≡ report_text (report_of (last_of r))
    its_report text e = e ∙ ap (λ s. report_text (report_of s)) last

-- the program of a program file
module _ (program stream image : Word) (inputs : Option Inputs) (accepted : RiscProgram) (fill : ℕ) (m : State) (text : List ℕ) where
  pub run_made : OfInput program.now inputs (λ bytes. Accepts (program_of bytes) accepted fill) →
      OfInput stream.now inputs (λ bytes. HasPlayed bytes (first_state accepted fill) m) →
      text ≡ report_text (report_of m) →
      IsProduct (command.Run program stream image) inputs (record { files = (image.now, image_of m.memory) ∷ []; text = text })
  run_made gives plays says =
      record {
        names = refl;
        made =
            over_stream
            (record {
              source = tasks.SoundProgram program.now;
              stream = tasks.Stream false stream.now;
              Gives = GivesSound;
              files = image_of_run image.now;
              Says = Reports;
            }) inputs
            (record { files = (image.now, image_of m.memory) ∷ []; text = text })
            (λ a. Accepts (program_of a) accepted fill) (λ b. HasPlayed b (first_state accepted fill) m)
            (λ a b g p.
            let r : Ran = record { program = accepted; fill = fill; steps = p.0 } in
            let is : IsRun GivesSound a b r = record { gives = g; reads = p.1 } in (
              r,
              is,
              run_makes r g.sound GivesSound a b is _ _ (same_image r g.sound m p.2 image.now) (Reports a r) text
                  (its_report r g.sound m p.2 text says),
            )) gives plays;
      }

-- the program of a description
module _ (desc stream : Word) (inputs : Option Inputs) (d : Desc) where
  description_sound : (bytes : List ℕ) → Describes bytes d → IsSound (compiled d)
  description_sound bytes h = checked_sound d h.checked

  its_program : (bytes : List ℕ) → Describes bytes d → GivesCompiled bytes (compiled d) d.fill
  its_program bytes h = record { description = d; describes = h; compiles = refl; fills = refl }

  pub capture_made : (program image : Word) (m : State) (text : List ℕ) (fill : ℕ) → fill ≡ d.fill →
      OfInput desc.now inputs (λ bytes. Describes bytes d) →
      OfInput stream.now inputs (λ bytes. HasPlayed bytes (first_state (compiled d) d.fill) m) → text ≡ report_text (report_of m) →
      IsProduct (command.Capture desc stream program image) inputs
      (record { files = (program.now, spelled m.program fill) ∷ (image.now, image_of m.memory) ∷ []; text = text })
  capture_made program image m text fill fills gives plays says =
      subst (λ f. IsProduct (command.Capture desc stream program image) inputs
      (record { files = (program.now, spelled m.program f) ∷ (image.now, image_of m.memory) ∷ []; text = text })) (sym fills)
      (record {
        names = refl;
        made =
            over_stream
            (record {
              source = tasks.Description desc.now;
              stream = tasks.Stream false stream.now;
              Gives = GivesCompiled;
              files = program_and_image program.now image.now;
              Says = Reports;
            }) inputs
            (record { files = (program.now, spelled m.program d.fill) ∷ (image.now, image_of m.memory) ∷ []; text = text })
            (λ a. Describes a d) (λ b. HasPlayed b (first_state (compiled d) d.fill) m)
            (λ a b g p.
            let r : Ran = record { program = compiled d; fill = d.fill; steps = p.0 } in
            let sound = description_sound a g in
            let is : IsRun GivesCompiled a b r = record { gives = its_program a g; reads = p.1 } in (
              r,
              is,
              run_makes r sound GivesCompiled a b is _ _ (same_both r sound m p.2 program.now image.now) (Reports a r) text
                  (its_report r sound m p.2 text says),
            )) gives plays;
      })

  pub damage_made : (map : Map) (text : List ℕ) → OfInput desc.now inputs (λ bytes. Describes bytes d) →
      OfInput stream.now inputs (λ bytes. HasPlayedWatched track_notes bytes (map_after d d.fill []) map) →
      text ≡ damage_text d (λ field. rows_of field map) →
      IsProduct (command.Damage desc stream) inputs (record { files = []; text = text })
  damage_made map text gives plays tells =
      record {
        names = refl;
        made =
            over_stream
            (record {
              source = tasks.Description desc.now;
              stream = tasks.Stream false stream.now;
              Gives = GivesCompiled;
              files = no_file;
              Says = TellsRows;
            }) inputs
            (record { files = []; text = text })
            (λ a. Describes a d) (λ b. HasPlayedWatched track_notes b (map_after d d.fill []) map)
            (λ a b g p.
            let r : Ran = record { program = compiled d; fill = d.fill; steps = p.0 } in
            let is : IsRun GivesCompiled a b r = record { gives = its_program a g; reads = p.1 } in
            let said : TellsRows a r text =
            record {
              description = d;
              gives = record { describes = g; compiles = refl; fills = refl };
              says =
                  tells ∙ same_text d.fields (λ field. rows_of field map) (rows_told d r)
                  (λ field described. ap (rows_of field) p.2
                  ∙ keeps_answers d field d.fill (steps_run p.0) g.checked.description g.checked.valid described (steps_fit b p.0 p.1));
            } in
            (r, is, run_makes r (description_sound a g) GivesCompiled a b is [] [] refl (TellsRows a r) text said)) gives plays;
      }
    where
      -- texts of the same rows are the same
      same_text : (fields : Fields) (one two : Parity → Option (List Bool)) →
          ((field : Parity) → describes fields field ≡ true → one field ≡ two field) →
          flat_map (λ field. field_text field (picture_rows d field) (one field)) (fields_of fields)
          ≡ flat_map (λ field. field_text field (picture_rows d field) (two field)) (fields_of fields)
      same_text fields.Top one two h = ap (λ marks. field_text Top (picture_rows d Top) marks ++ []) (h Top refl)
      same_text fields.Bottom one two h = ap (λ marks. field_text Bottom (picture_rows d Bottom) marks ++ []) (h Bottom refl)
      same_text fields.Both one two h =
          ap (λ marks. field_text Top (picture_rows d Top) marks ++ (field_text Bottom (picture_rows d Bottom) (one Bottom) ++ []))
          (h Top refl)
          ∙ ap (λ marks. field_text Top (picture_rows d Top) (two Top) ++ (field_text Bottom (picture_rows d Bottom) marks ++ []))
          (h Bottom refl)

-- the program of a ring
module _ (file stream program image : Word) (inputs : Option Inputs) (ring : Ring) (m : RingState) (last : State) (text : List ℕ) (fill : ℕ)
    (fills : fill ≡ ring.fill) (is_last : last ≡ m.machine) where
  pub ring_made : OfInput file.now inputs (λ bytes. IsRingFile bytes ring) →
      OfInput stream.now inputs (λ bytes. HasPlayedRing bytes ring (first_state (ring_program ring) ring.fill) m) →
      text ≡ blocks_text m.kept.blocks (report_of m.machine) →
      IsProduct (command.Ring file stream program image) inputs
      (record { files = (program.now, spelled last.program fill) ∷ (image.now, image_of last.memory) ∷ []; text = text })
  ring_made gives plays tells =
      subst (λ f. IsProduct (command.Ring file stream program image) inputs
      (record { files = (program.now, spelled last.program f) ∷ (image.now, image_of last.memory) ∷ []; text = text })) (sym fills)
      (subst (λ (s : State). IsProduct (command.Ring file stream program image) inputs
      (record { files = (program.now, spelled s.program ring.fill) ∷ (image.now, image_of s.memory) ∷ []; text = text })) (sym is_last)
      (record {
        names = refl;
        made =
            over_stream
            (record {
              source = tasks.RingFile file.now;
              stream = tasks.Stream false stream.now;
              Gives = GivesRingProgram;
              files = program_and_image program.now image.now;
              Says = ReportsBlocks;
            }) inputs
            (record {
              files = (program.now, spelled m.machine.program ring.fill) ∷ (image.now, image_of m.machine.memory) ∷ [];
              text = text;
            })
            (λ a. IsRingFile a ring) (λ b. HasPlayedRing b ring (first_state (ring_program ring) ring.fill) m)
            (λ a b g p.
            let r : Ran = record { program = ring_program ring; fill = ring.fill; steps = p.0 } in
            let sound : IsSound r.program = ring_sound ring g.ring in
            let shows : m.machine ≡ last_of r = ap (λ (s : RingState). s.machine) p.2 in
            let blocks : m.kept.blocks ≡ blocks_of ring r = ap (λ (s : RingState). s.kept.blocks) p.2 in
            let its : GivesRing ring a r.program r.fill = record { holds = g; compiles = refl; fills = refl } in
            let is : IsRun GivesRingProgram a b r = record { gives = (ring, its); reads = p.1 } in
            let said : ReportsBlocks a r text =
            record {
              ring = ring;
              gives = its;
              says =
                  tells ∙ ap (λ n. blocks_text n (report_of m.machine)) blocks
                  ∙ ap (λ s. blocks_text (blocks_of ring r) (report_of s)) shows;
            } in (
              r,
              is,
              run_makes r sound GivesRingProgram a b is _ _ (same_both r sound m.machine shows program.now image.now)
                  (ReportsBlocks a r) text said,
            )) gives plays;
      }))

-- ---- the chain of two descriptions

module _ (one two stream image : Word) (inputs : Option Inputs) (first second : Desc) (now : ChainState) (text : List ℕ) where
  pub chain_made : IsPair first second → OfInput one.now inputs (λ bytes. IsFrameFile bytes first) →
      OfInput two.now inputs (λ bytes. IsFrameFile bytes second) →
      OfInput stream.now inputs (λ bytes. HasPlayedChain bytes first second now) → text ≡ report_text (report_of now.live.machine) →
      IsProduct (command.Chain one two stream image) inputs
      (record { files = (image.now, image_of now.live.machine.memory) ∷ []; text = text })
  chain_made pair gives_first gives_second plays says =
      record {
        names = refl;
        made = (
          both_inputs one.now two.now inputs (λ a. IsFrameFile a first)
              (λ b. IsFrameFile b second × OfInput stream.now inputs (λ c. HasPlayedChain c first second now))
              (λ a b. OfInput stream.now inputs (λ c.
              ChainOf image.now (a ∷ b ∷ c ∷ []) (record { files = (image.now, image_of now.live.machine.memory) ∷ []; text = text })))
              (λ a b f s.
              OfInput-map stream.now inputs (λ c. HasPlayedChain c first second now) (λ c. ChainOf image.now (a ∷ b ∷ c ∷ []) _)
              (λ c p.
              let r : LiveRan = record { first = first; second = second; steps = p.0 } in (
                r,
                record { gives = record { are = record { reads_first = f; reads_second = s.0 }; pair = pair }; reads = p.1 },
                record {
                  writes = ap (λ (l : Live). (image.now, image_of l.machine.memory) ∷ []) p.2;
                  says = says ∙ ap (λ (l : Live). report_text (report_of l.machine)) p.2;
                  promises = plays_keep_promises first second p.0 pair (all_fit true c p.0 p.1);
                },
              )) s.1)
              gives_first (with_stream inputs gives_second plays),
          tt,
        );
      }
    where
      with_stream : (told : Option Inputs) → OfInput two.now told (λ b. IsFrameFile b second) →
          OfInput stream.now inputs (λ c. HasPlayedChain c first second now) →
          OfInput two.now told (λ b. IsFrameFile b second × OfInput stream.now inputs (λ c. HasPlayedChain c first second now))
      with_stream None h k = tt
      with_stream (Some known) h k =
          OfInput-map two.now (Some known) (λ b. IsFrameFile b second)
          (λ b. IsFrameFile b second × OfInput stream.now inputs (λ c. HasPlayedChain c first second now)) (λ b q. (q, k)) h

-- ---- one input

module _ (file : Word) (inputs : Option Inputs) where
  pub list_made : (program : RiscProgram) (fill : ℕ) (text : List ℕ) →
      OfInput file.now inputs (λ bytes. program_of bytes ≡ Ok (record { program = program; fill = fill })) →
      text ≡ listing program fill → IsProduct (command.List file) inputs (record { files = []; text = text })
  list_made program fill text h says =
      record {
        names = refl;
        made = (
          OfInput-map file.now inputs (λ bytes. program_of bytes ≡ Ok (record { program = program; fill = fill }))
              (λ bytes. IsListed bytes text)
              (λ bytes is. (record { program = program; fill = fill }, is, says)) h,
          tt,
        );
      }

  pub verify_made : (program : RiscProgram) (fill : ℕ) → OfInput file.now inputs (λ bytes. Accepts (program_of bytes) program fill) →
      IsProduct (command.Verify file) inputs (record { files = []; text = accepted_text })
  verify_made program fill h =
      record {
        names = refl;
        made = (
          OfInput-map file.now inputs (λ bytes. Accepts (program_of bytes) program fill) HoldsSound (λ bytes is. (program, fill, is)) h,
          refl,
        );
      }

  pub compile_made : (program : Word) (d : Desc) (p : RiscProgram) (fill : ℕ) (product : Product) → p ≡ compiled d → fill ≡ d.fill →
      product ≡ record { files = program_file program.now p fill ∷ []; text = program_text p } →
      OfInput file.now inputs (λ bytes. Describes bytes d) → IsProduct (command.Compile file program) inputs product
  compile_made program d p fill product is fills made h = subst (IsProduct (command.Compile file program) inputs) (sym made)
      (record {
        names = refl;
        made = (
          OfInput-map file.now inputs (λ bytes. Describes bytes d)
              (DescMakes (λ x. program_file program.now (compiled x) x.fill) compiled_text
              (record { files = program_file program.now p fill ∷ []; text = program_text p }))
              (λ bytes g.
              record {
                description = d;
                describes = g;
                writes = ap (λ x. program_file program.now x fill ∷ []) is ∙ ap (λ x. program_file program.now (compiled d) x ∷ []) fills;
                says = ap program_text is;
              }) h,
          tt,
        );
      })

  pub make_made : (stream : Word) (seed frames count : ℕ) (text : List ℕ) (d : Desc) → count ≡ frames →
      text ≡ made_text (made_fields d frames) (made_entries d frames) → OfInput file.now inputs (λ bytes. Describes bytes d) →
      IsProduct (command.Make file seed frames stream) inputs (record { files = (stream.now, made d seed count) ∷ []; text = text })
  make_made stream seed frames count text d is says h =
      record {
        names = refl;
        made = (
          OfInput-map file.now inputs (λ bytes. Describes bytes d)
              (DescMakes (λ x. (stream.now, made x seed frames)) (λ x. made_text (made_fields x frames) (made_entries x frames))
              (record { files = (stream.now, made d seed count) ∷ []; text = text }))
              (λ bytes g. record { description = d; describes = g; writes = ap (λ n. (stream.now, made d seed n) ∷ []) is; says = says }) h,
          tt,
        );
      }

  pub assemble_made : (program : Word) (p : RiscProgram) (fill : ℕ) →
      OfInput file.now inputs (λ bytes. GivesAssembled bytes (record { program = p; fill = fill })) →
      IsProduct (command.Assemble file program) inputs (record { files = program_file program.now p fill ∷ []; text = program_text p })
  assemble_made program p fill h =
      record {
        names = refl;
        made = (
          OfInput-map file.now inputs (λ bytes. GivesAssembled bytes (record { program = p; fill = fill }))
              (ListingMakes program.now (record { files = program_file program.now p fill ∷ []; text = program_text p }))
              (λ bytes is. record { file = record { program = p; fill = fill }; assembles = is; writes = refl; says = refl }) h,
          tt,
        );
      }

-- ---- a program and a description

module _ (program desc : Word) (inputs : Option Inputs) (accepted : RiscProgram) (fill : ℕ) (text : List ℕ) where
  pub check_made : OfInput program.now inputs (λ bytes. Accepts (program_of bytes) accepted fill) →
      OfInput desc.now inputs (λ bytes. FindsIn accepted bytes true text) →
      IsProduct (command.Check program desc) inputs (record { files = []; text = text })
  check_made gives found =
      record {
        names = refl;
        made = (
          both_inputs program.now desc.now inputs (λ a. Accepts (program_of a) accepted fill) (λ b. FindsIn accepted b true text)
              (λ a b. FindsBy a b true text)
              (λ a b g f. record { program = accepted; fill = fill; accepts = g; finds = f }) gives found,
          tt,
        );
      }

-- ---- a program and a stream that is kept

-- the trace of a machine over the steps of a whole stream
abbrev pub TracesAll : List ℕ → State → List ℕ → Type 0
TracesAll bytes m text = (steps : List Step) × (steps_of longest_stream false bytes ≡ Ok steps) × (text ≡ trace_text m (steps_run steps))

module _ (program stream : Word) (inputs : Option Inputs) (accepted : RiscProgram) (fill : ℕ) (text : List ℕ) where
  pub trace_made : OfInput program.now inputs (λ bytes. Accepts (program_of bytes) accepted fill) →
      OfInput stream.now inputs (λ bytes. TracesAll bytes (first_state accepted fill) text) →
      IsProduct (command.Trace program stream) inputs (record { files = []; text = text })
  trace_made gives traces =
      record {
        names = refl;
        made =
            over_stream
            (record {
              source = tasks.SoundProgram program.now;
              stream = tasks.KeptStream stream.now;
              Gives = GivesSound;
              files = no_file;
              Says = Traces;
            }) inputs
            (record { files = []; text = text })
            (λ a. Accepts (program_of a) accepted fill) (λ b. TracesAll b (first_state accepted fill) text)
            (λ a b g t.
            let r : Ran = record { program = accepted; fill = fill; steps = t.0 } in
            let is : IsRun GivesSound a b r = record { gives = g; reads = t.1 } in
            (r, is, run_makes r g.sound GivesSound a b is [] [] refl (Traces a r) text t.2)) gives traces;
      }

-- a stream that is kept
pub kept_traced : (name : List ℕ) (inputs : Option Inputs) (m : State) (bytes : List ℕ) → HoldsKept bytes →
    OfInput name inputs (λ content. content ≡ bytes) →
    OfInput name inputs (λ content. TracesAll content m (text_left (begun m bytes)))
kept_traced name inputs m bytes (steps, reads) is =
    OfInput-map name inputs (λ content. content ≡ bytes) (λ content. TracesAll content m (text_left (begun m bytes)))
    (λ content e. (
      steps,
      ap (steps_of longest_stream false) e ∙ kept_by_more longest_stream bytes steps (omega arith) reads,
      whole_trace m bytes steps reads,
    )) is

-- ---- no input

pub help_made : (inputs : Option Inputs) → IsProduct command.Help inputs (record { files = []; text = help_text })
help_made inputs = record { names = refl; made = (tt, refl) }

pub version_made : (inputs : Option Inputs) → IsProduct command.Version inputs (record { files = []; text = version_text })
version_made inputs = record { names = refl; made = (tt, refl) }
