-- The turn that fetches the closing of a trail.
use Rattle.std.proofs.Common.{◌≡◌, ℕ, Bool, true, ◌&&◌, ◌==◌, List, [], ◌∷◌, ◌++◌, length, refl, ap, ◌∙◌, eqb-true}
use Rattle.std.proofs.lemmas.Bool.{and_parts}
use Rattle.risc_word.specs.declared.Instr.{Instr}
use Rattle.risc_word.specs.declared.Instr.TheVariants.{Write, Skip, WriteC, Jump, Sync, Write123, Skip123, Write1S23}
use Rattle.risc_word.specs.Words.{Reading, encoded}
use Rattle.fifo_model.specs.declared.Entry.{Entry}
use Rattle.fifo_model.specs.declared.Queue.{Queue}
use Rattle.fifo_model.specs.Queues.{queue_state}
use Rattle.irq_status.specs.Register.{fdsr, has}
use Rattle.irq_status.proofs.Laws.{fdsr-applied}
use Rattle.page_table.specs.Grants.{Chunk}
use Rattle.page_table.specs.Blocks.{byte_at}
use Rattle.machine_model.specs.declared.Job.{Job}
use Rattle.machine_model.specs.declared.Job.TheVariants.{Idle, Waiting, Running}
use Rattle.machine_model.specs.States.{State}
use Rattle.machine_model.specs.Turns.{counted, jumped, instr_fetched, fetched, worked, turn_if, turn}
use Rattle.machine_model.specs.Steps.{Turn}
use Rattle.field_law.specs.Sections.{IsUsedUp, is_stored}
use Rattle.field_law.specs.Trails.{Trail, IsClosing, Leads, after_closing}
use Rattle.field_law.specs.Arrivals.{is_end, is_idle}
use Rattle.field_law.proofs.AskedAndToCome.{AnyRest}
use Rattle.field_law.proofs.Asked.{outlook_at_end}
use Rattle.field_law.proofs.Fetching.{idle-Fetches}
use Rattle.field_law.proofs.Painting.{Settling}
use Rattle.field_law.proofs.OnTrail.{StandsOn, along_on, IsOnTrailAt, FetchesOn}

idle_job : (job : Job) → is_idle job ≡ true → job ≡ Idle
idle_job Idle h = refl
idle_job (Waiting ctl resync code) h = cc
idle_job (Running instr ds) h = cc

pub record AtEnd (address : ℕ) (m : State) : Type 0 where
  pub on : m.risc_on ≡ true
  pub idle : m.job ≡ Idle
  pub there : m.pc ≡ address

pub end-AtEnd : (address : ℕ) (m : State) → is_end address m Turn ≡ true → AtEnd address m
end-AtEnd address m h =
    let outer = and_parts (m.risc_on && is_idle m.job) (m.pc == address) h in
    let inner = and_parts m.risc_on (is_idle m.job) outer.0 in
    record { on = inner.0; idle = idle_job m.job inner.1; there = eqb-true _ _ outer.1 }

-- the closing stores nothing and applies its control bits
closing_memory : (closing : Instr) (count : ℕ) (m : State) → IsClosing m.program closing → (instr_fetched closing count m).memory ≡ m.memory
closing_memory (Jump ctl target) count m is = ap (λ (inside : Bool). (jumped inside ctl target m).memory) is
closing_memory (Sync ctl resync code) count m is = refl
closing_memory (Write ctl ends off count' addr) count m is = absurd is
closing_memory (Skip ctl ends count') count m is = absurd is
closing_memory (WriteC ctl ends off count') count m is = absurd is
closing_memory (Write123 ctl ends off counts addrs) count m is = absurd is
closing_memory (Skip123 ctl ends counts) count m is = absurd is
closing_memory (Write1S23 ctl ends off counts addr) count m is = absurd is

closing_interrupts : (closing : Instr) (count : ℕ) (m : State) → IsClosing m.program closing →
    (instr_fetched closing count m).interrupts ≡ after_closing closing m.interrupts
closing_interrupts (Jump ctl target) count m is = ap (λ (inside : Bool). (jumped inside ctl target m).interrupts) is
closing_interrupts (Sync ctl resync code) count m is = refl
closing_interrupts (Write ctl ends off count' addr) count m is = absurd is
closing_interrupts (Skip ctl ends count') count m is = absurd is
closing_interrupts (WriteC ctl ends off count') count m is = absurd is
closing_interrupts (Write123 ctl ends off counts addrs) count m is = absurd is
closing_interrupts (Skip123 ctl ends counts) count m is = absurd is
closing_interrupts (Write1S23 ctl ends off counts addr) count m is = absurd is

-- FDSR stays
pub closing_quiet : (closing : Instr) (register : ℕ) → has fdsr (after_closing closing register) ≡ has fdsr register
closing_quiet (Jump ctl target) register = fdsr-applied ctl register
closing_quiet (Sync ctl resync code) register = refl
closing_quiet (Write ctl ends off count' addr) register = refl
closing_quiet (Skip ctl ends count') register = refl
closing_quiet (WriteC ctl ends off count') register = refl
closing_quiet (Write123 ctl ends off counts addrs) register = refl
closing_quiet (Skip123 ctl ends counts) register = refl
closing_quiet (Write1S23 ctl ends off counts addr) register = refl

module _ (t : Trail) (given : Type 0) (chunks : List Chunk) (final : ℕ → ℕ) (later : Queue → List Entry) where
  pub record Closes (m : State) : Type 0 where
    pub memory : (turn m).memory ≡ m.memory
    pub interrupts : (turn m).interrupts ≡ after_closing t.closing m.interrupts
    pub settled : given → (address : ℕ) → byte_at m.memory address ≡ final address

  closes : (bound : ℕ) (body : List Instr) (m : State) →
      FetchesOn t (Leads t) (StandsOn t) (along_on t) given chunks final later bound body m → Leads t m.program → AtEnd t.end m → Closes m
  closes bound (instr ∷ rest) m h held ends = absurd ((h.stands.leads m.program held).0 ends.there)
  closes bound [] m h held ends =
      let leads = h.stands.leads m.program held in
      let turns : turn m ≡ instr_fetched t.closing (length (encoded t.closing)) (counted m) =
      ap (λ (on : Bool). turn_if on (counted m)) ends.on ∙ ap (λ (job : Job). worked job (counted m)) ends.idle
      ∙ ap (λ (reading : Reading). fetched reading (counted m)) leads.1 in
      record {
        memory = ap (λ (m' : State). m'.memory) turns ∙ closing_memory t.closing (length (encoded t.closing)) (counted m) leads.2;
        interrupts =
            ap (λ (m' : State). m'.interrupts) turns ∙ closing_interrupts t.closing (length (encoded t.closing)) (counted m) leads.2;
        settled =
            λ known address.
            (h.comes known).settled address
            (λ q.
            ap (is_stored address) (outlook_at_end IsUsedUp AnyRest (h.stores q) (h.left q) (queue_state q m.queues).taken
            ((queue_state q m.queues).entries ++ later q) (h.outlook q)));
      }

  pub end-Closes : (bound : ℕ) (m : State) → IsOnTrailAt t (Leads t) (StandsOn t) (along_on t) given chunks final later bound m →
      Leads t m.program → is_end t.end m Turn ≡ true → Closes m
  end-Closes bound m h held ended =
      let ends = end-AtEnd t.end m ended in
      let f = idle-Fetches IsUsedUp AnyRest (StandsOn t) (Settling given chunks final) later bound m ends.idle h in
      closes bound f.0 m f.1 held ends
