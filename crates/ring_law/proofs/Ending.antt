-- The turn that ends a block.
use Rattle.std.proofs.Common.{Bool, List, None, Some, [], arith, drop, if◌then◌else◌, length, refl, subst, sym, true, ℕ, ◌++◌, ◌-◌, ◌∙◌}
use Rattle.std.proofs.Common.{◌∷◌, ◌≡◌, ap, ⊎_elim}
use Rattle.std.proofs.lemmas.Bool.{cases_Bool}
use Rattle.page_table.specs.Blocks.{Block}
use Rattle.ring_model.specs.Runs.{BlockAt, block_end, ended_by}
use Rattle.field_law.specs.Fields.{Brings, Token}
use Rattle.risc_word.specs.declared.Ctl.{Ctl}
use Rattle.machine_model.specs.declared.Demands.{Demands}
use Rattle.fifo_model.specs.declared.Entry.{Entry}
use Rattle.machine_model.specs.declared.Job.TheVariants.{Idle, Running, Waiting}
use Rattle.ring_law.proofs.Turns.{InRing}
use Rattle.risc_word.specs.declared.Instr.{Instr}
use Rattle.field_law.specs.Sections.{IsUsedUp, ask_of, asks}
use Rattle.field_law.proofs.Within.{IsWithin, job_asks}
use Rattle.machine_model.specs.declared.Job.{Job}
use Rattle.ring_law.proofs.Making.{Makes}
use Rattle.fifo_model.specs.declared.Queue.TheVariants.{One}
use Rattle.field_law.proofs.AskedAndToCome.{Outlook, between}
use Rattle.fifo_model.specs.declared.Queue.{Queue}
use Rattle.machine_model.specs.Paths.{RiscProgram}
use Rattle.ring_law.proofs.Walks.{StandsFor, Walks, end_list, ends_at, left_behind, retired_ends, unretired_ends}
use Rattle.machine_model.specs.States.{State}
use Rattle.machine_model.specs.Turns.{Store, counted, demand_on, is_done, ran, retired, stored_all, turn, turn_if, worked}
use Rattle.machine_model.specs.Steps.{Turn}
use Rattle.irq_status.specs.Register.{applied}
use Rattle.field_law.proofs.Running.{done_rest}
use Rattle.ring_model.specs.Rings.{mark}
use Rattle.field_law.proofs.Asked.{outlook_at_end, outlook_done}
use Rattle.fifo_model.specs.Queues.{queue_state}

-- at the last block end that is left: memory is as it is to be, and the block is signalled
pub record Ended (final : List Block) (block last : ℕ) (m : State) : Type 0 where
  pub same : block ≡ last
  pub memory : (turn m).memory ≡ final
  pub interrupts : (turn m).interrupts ≡ applied (mark block) m.interrupts

-- and nothing that was to come is left
pub record UsedUp (Rests : List Entry → Type 0) (later : Queue → List Entry) (m : State) : Type 0 where
  pub rest : List Entry
  pub rests : Rests rest
  pub ahead : (queue_state One m.queues).entries ++ later One ≡ rest

module _ (program : RiscProgram) (block_at : BlockAt) (Rests : List Entry → Type 0) (final : List Block) (later : Queue → List Entry)
    (block last bound : ℕ) where
  used : (stores : List Store) (left taken : ℕ) (ahead : List Entry) → Outlook IsUsedUp Rests [] stores left taken ahead →
      (rest : List Entry) × Rests rest × (ahead ≡ rest)
  used stores left taken ahead h =
      let none = between taken h.line h.half h.under_way h.uses.0 in
      let no_entries : h.entries ≡ [] = no_brings h.tokens h.entries h.uses.1 h.brings in (
        h.rest,
        h.rests,
        h.order ∙ ap (λ (half : List Entry). half ++ (h.entries ++ h.rest)) none.1
            ∙ ap (λ (entries : List Entry). entries ++ h.rest) no_entries,
      )
    where
      no_brings : (tokens : List Token) (entries : List Entry) → tokens ≡ [] → Brings tokens entries → entries ≡ []
      no_brings [] entries e brings = brings
      no_brings (token ∷ tokens) entries e brings = cc

  no_body : (pc : ℕ) (body : List Instr) (left : List ℕ) → left ≡ [] → Walks program block_at pc body left → body ≡ []
  no_body pc [] left none walks = refl
  no_body pc (instr ∷ body) left none walks =
      let some = walks.2 in
      let long = ap (λ (blocks : List ℕ). length blocks) none in
      absurd (omega arith)

  module _ (m : State) (instr : Instr) (ds : Demands) (j : m.job ≡ Running instr ds)
      (h : IsWithin IsUsedUp Rests (StandsFor program block_at (Running instr ds) (last ∷ [])) (Makes final) later bound m)
      (done : is_done ds ≡ true)
      (ends : ended_by block_at (Running instr ds) m.pc ≡ Some block) where
    this_end : ends_at block_at instr (m.pc - 8) ≡ block ∷ []
    this_end = sym (retired_ends block_at instr ds m.pc done) ∙ ap end_list ends

    none_left : left_behind block_at instr (m.pc - 8) (last ∷ []) ≡ []
    none_left = ap (λ (ended : List ℕ). drop (length ended) (last ∷ [])) this_end

    no_more : h.body ≡ []
    no_more = no_body m.pc h.body (left_behind block_at instr (m.pc - 8) (last ∷ [])) none_left h.stands.2

    outlook : Outlook IsUsedUp Rests [] (h.stores One) (h.left One)
        (queue_state One m.queues).taken ((queue_state One m.queues).entries ++ later One)
    outlook =
        outlook_done IsUsedUp Rests (demand_on One ds) [] (h.stores One) (h.left One) (queue_state One m.queues).taken
        ((queue_state One m.queues).entries ++ later One) (done_rest ds done One)
        (subst (λ (body : List Instr). Outlook IsUsedUp Rests (ask_of (demand_on One ds) ∷ asks One body) (h.stores One) (h.left One)
        (queue_state One m.queues).taken ((queue_state One m.queues).entries ++ later One)) no_more
        (subst (λ (job : Job). Outlook IsUsedUp Rests (job_asks One job (asks One h.body)) (h.stores One) (h.left One)
        (queue_state One m.queues).taken ((queue_state One m.queues).entries ++ later One)) j (h.outlook One)))

    turns : turn m ≡ retired instr (counted m)
    turns =
        ap (λ (on : Bool). turn_if on (counted m)) h.on ∙ ap (λ (job : Job). worked job (counted m)) j
        ∙ ap (λ (done : Bool). ran done instr ds (counted m)) done

    ended_here : Ended final block last m × UsedUp Rests later m
    ended_here =
        let one : last ∷ [] ≡ block ∷ [] =
        h.stands.0 ∙ ap (λ (ended : List ℕ). ended ++ left_behind block_at instr (m.pc - 8) (last ∷ [])) this_end
        ∙ ap (λ (rest : List ℕ). block ∷ rest) none_left in
        let no_stores : h.stores One ≡ [] =
        outlook_at_end IsUsedUp Rests (h.stores One) (h.left One) (queue_state One m.queues).taken
        ((queue_state One m.queues).entries ++ later One) outlook in
        let all =
        used (h.stores One) (h.left One) (queue_state One m.queues).taken ((queue_state One m.queues).entries ++ later One) outlook in (
          record {
            same = cc;
            memory = ap (λ (m' : State). m'.memory) turns ∙ sym (ap (stored_all m.memory) no_stores) ∙ h.comes.one;
            interrupts =
                ap (λ (m' : State). m'.interrupts) turns ∙ ap (λ (ctl : Ctl). applied ctl m.interrupts) (h.stands.1 block this_end);
          },
          record { rest = all.0; rests = all.1; ahead = all.2 },
        )

  -- only a WRITE that has all its bytes ends a block
  ends_by_job : (m : State) (job : Job) → m.job ≡ job → ended_by block_at job m.pc ≡ Some block →
      InRing program block_at Rests final later (last ∷ []) bound m → Ended final block last m × UsedUp Rests later m
  ends_by_job m Idle j ends h = cc
  ends_by_job m (Waiting ctl resync code) j ends h = cc
  ends_by_job m (Running instr ds) j ends h =
      ⊎_elim
      (λ done.
      ended_here m instr ds j (subst
      (λ (job : Job). IsWithin IsUsedUp Rests (StandsFor program block_at job (last ∷ [])) (Makes final) later bound m) j h) done ends)
      (λ undone. let none = unretired_ends block_at instr ds m.pc undone in cc)
      (cases_Bool (is_done ds))

  pub block_end-Ended : (m : State) → block_end block_at m Turn ≡ Some block →
      InRing program block_at Rests final later (last ∷ []) bound m → Ended final block last m × UsedUp Rests later m
  block_end-Ended m ends h =
      ends_by_job m m.job refl (sym (ap (λ (on : Bool). if on then ended_by block_at m.job m.pc else None) h.on) ∙ ends) h
