-- Memory after a turn is the memory before it with the listed stores made.
use Rattle.std.proofs.Common.{◌≡◌, ◌≢◌, ℕ, zero, suc, Bool, true, false, List, [], ◌∷◌, ◌++◌, map, All, Option, Some, None, Ok, Err, refl}
use Rattle.std.proofs.Common.{sym, ap, ◌∙◌, if◌then◌else◌, ◌==◌}
use Rattle.std.proofs.lemmas.List.Elements.{All-head, All-tail}
use Rattle.risc_word.specs.declared.Code.{Code}
use Rattle.risc_word.specs.declared.Ctl.{Ctl}
use Rattle.risc_word.specs.declared.Instr.{Instr}
use Rattle.risc_word.specs.declared.Instr.TheVariants.{Jump, Sync}
use Rattle.risc_word.specs.Words.{Reading}
use Rattle.sync_status.specs.declared.Verdict.{Verdict}
use Rattle.sync_status.specs.declared.Verdict.TheVariants.{Take, Discard, Broken, Missing}
use Rattle.fifo_model.specs.declared.Entry.{Entry}
use Rattle.fifo_model.specs.declared.Queue.{Queue}
use Rattle.fifo_model.specs.Queues.{queue_state, front}
use Rattle.page_table.specs.Blocks.{Block, byte_at, stored}
use Rattle.page_table.proofs.Memory.{byte_at-stored_other}
use Rattle.machine_model.specs.declared.Cause.{Cause}
use Rattle.machine_model.specs.declared.Demands.{Demands}
use Rattle.machine_model.specs.declared.Job.{Job}
use Rattle.machine_model.specs.declared.Job.TheVariants.{Idle, Waiting, Running}
use Rattle.machine_model.specs.declared.Skipping.{Skipping}
use Rattle.machine_model.specs.declared.Skipping.TheVariants.{Nothing, ToEol, ToSync}
use Rattle.machine_model.specs.Paths.{fetch}
use Rattle.machine_model.specs.States.{State}
use Rattle.machine_model.specs.Turns.{Store, stored_all, jumped, begun_with, data_fetched, instr_fetched, fetched, with_fdsr_unless, met}
use Rattle.machine_model.specs.Turns.{code_seen, stray_seen, demand_on, ended, judged, verdict_at}
use Rattle.machine_model.specs.Turns.{served, apply_in, apply, burst, lowest_served, burst_of, is_done, ran, worked, turn_if, counted, turn}
use Rattle.machine_model.specs.Accesses.{judged_stores, served_stores, stores_in, apply_stores, burst_stores, burst_stores_of, ran_stores}
use Rattle.machine_model.specs.Accesses.{worked_stores, stores_if, stores, writes}

-- ---- memory stays

jumped-memory : (inside : Bool) (ctl : Ctl) (addr : ℕ) (m : State) → (jumped inside ctl addr m).memory ≡ m.memory
jumped-memory true ctl addr m = refl
jumped-memory false ctl addr m = refl

begun-memory : (cause : Option Cause) (instr : Instr) (count : ℕ) (target : Option ℕ) (m : State) →
    (begun_with cause instr count target m).memory ≡ m.memory
begun-memory (Some cause) instr count target m = refl
begun-memory None instr count target m = refl

data-memory : (skipping : Skipping) (instr : Instr) (count : ℕ) (m : State) → (data_fetched skipping instr count m).memory ≡ m.memory
data-memory Nothing instr count m = begun-memory _ instr count _ m
data-memory ToEol instr count m = refl
data-memory ToSync instr count m = refl

instr-memory : (instr : Instr) (count : ℕ) (m : State) → (instr_fetched instr count m).memory ≡ m.memory
instr-memory (Jump ctl addr) count m = jumped-memory _ ctl addr m
instr-memory (Sync ctl resync code) count m = refl
instr-memory instr count m = data-memory m.skipping instr count m

fetched-memory : (reading : Reading) (m : State) → (fetched reading m).memory ≡ m.memory
fetched-memory (Err fault) m = refl
fetched-memory (Ok (instr, count)) m = instr-memory instr count m

pub unless-memory : (resync : Bool) (m : State) → (with_fdsr_unless resync m).memory ≡ m.memory
unless-memory true m = refl
unless-memory false m = refl

pub met-memory : (awaited : Bool) (ctl : Ctl) (resync : Bool) (m : State) → (met awaited ctl resync m).memory ≡ m.memory
met-memory true ctl resync m = refl
met-memory false ctl resync m = unless-memory resync _

pub code-memory : (seen : Option Code) (ctl : Ctl) (resync : Bool) (code : Code) (m : State) →
    (code_seen seen ctl resync code m).memory ≡ m.memory
code-memory None ctl resync code m = refl
code-memory (Some seen) ctl resync code m = met-memory _ ctl resync m

pub stray-memory : (stray : Option Queue) (ctl : Ctl) (resync : Bool) (code : Code) (m : State) →
    (stray_seen stray ctl resync code m).memory ≡ m.memory
stray-memory None ctl resync code m = code-memory _ ctl resync code m
stray-memory (Some q) ctl resync code m = unless-memory resync _

ended-memory : (cut : Bool) (instr : Instr) (m : State) → (ended cut instr m).memory ≡ m.memory
ended-memory true instr m = refl
ended-memory false instr m = refl

-- ---- stores are made

-- stores one after another
pub stored_all-append : (memory : List Block) (early late : List Store) →
    stored_all memory (early ++ late) ≡ stored_all (stored_all memory early) late
stored_all-append memory [] late = refl
stored_all-append memory (store ∷ early) late = stored_all-append (stored memory store.address store.byte) early late

judged-memory : (verdict : Verdict) (q : Queue) (instr : Instr) (ds : Demands) (entry : Entry) (m : State) →
    (judged verdict q instr ds entry m).memory ≡ stored_all m.memory (judged_stores verdict q instr ds entry m)
judged-memory Broken q instr ds entry m = refl
judged-memory Discard q instr ds entry m = refl
judged-memory Missing q instr ds entry m = refl
judged-memory (Take count) q instr ds entry m = ended-memory _ instr _

-- memory after an application, if there is one
abbrev memory_after : State → Option State → List Block
memory_after m next = elim next as (λ _. List Block) [ None ↦ m.memory | Some after ↦ after.memory ]

asked-memory : (none : Bool) (m after : State) (made : List Store) → after.memory ≡ stored_all m.memory made →
    memory_after m (if none then None else Some after) ≡ stored_all m.memory (if none then [] else made)
asked-memory true m after made h = refl
asked-memory false m after made h = h

served-memory : (top : Option Entry) (q : Queue) (instr : Instr) (ds : Demands) (m : State) →
    memory_after m (served top q instr ds m) ≡ stored_all m.memory (served_stores top q instr ds m)
served-memory None q instr ds m = refl
served-memory (Some entry) q instr ds m =
    asked-memory ((demand_on q ds).rest == 0) m _ _ (judged-memory (verdict_at q ds entry m) q instr ds entry m)

applied-memory : (job : Job) (q : Queue) (m : State) → memory_after m (apply_in job q m) ≡ stored_all m.memory (stores_in job q m)
applied-memory Idle q m = refl
applied-memory (Waiting ctl resync code) q m = refl
applied-memory (Running instr ds) q m = served-memory (front (queue_state q m.queues)) q instr ds m

continued : (count : ℕ) (q : Queue) (m : State) (next : Option State) (first : List Store) →
    memory_after m next ≡ stored_all m.memory first →
    ((after : State) → (burst count q after).memory ≡ stored_all after.memory (burst_stores count q after)) →
    (elim next as (λ _. State) [ None ↦ m | Some after ↦ burst count q after ]).memory
    ≡ stored_all m.memory (first ++ (elim next as (λ _. List Store) [ None ↦ [] | Some after ↦ burst_stores count q after ]))
continued count q m None first one rest = one ∙ sym (stored_all-append m.memory first [])
continued count q m (Some after) first one rest =
    rest after ∙ ap (λ memory. stored_all memory (burst_stores count q after)) one
    ∙ sym (stored_all-append m.memory first (burst_stores count q after))

burst-memory : (count : ℕ) (q : Queue) (m : State) → (burst count q m).memory ≡ stored_all m.memory (burst_stores count q m)
burst-memory zero q m = refl
burst-memory (suc count) q m = continued count q m (apply q m) (apply_stores q m) (applied-memory m.job q m) (burst-memory count q)

burst_of-memory : (q : Option Queue) (m : State) → (burst_of q m).memory ≡ stored_all m.memory (burst_stores_of q m)
burst_of-memory None m = refl
burst_of-memory (Some q) m = burst-memory m.trigger q m

ran-memory : (done : Bool) (instr : Instr) (ds : Demands) (m : State) →
    (ran done instr ds m).memory ≡ stored_all m.memory (ran_stores done ds m)
ran-memory true instr ds m = refl
ran-memory false instr ds m = burst_of-memory (lowest_served ds m) m

worked-memory : (job : Job) (m : State) → (worked job m).memory ≡ stored_all m.memory (worked_stores job m)
worked-memory Idle m = fetched-memory (fetch m.program m.pc) m
worked-memory (Waiting ctl resync code) m = stray-memory _ ctl resync code m
worked-memory (Running instr ds) m = ran-memory (is_done ds) instr ds m

turn_if-memory : (on : Bool) (m : State) → (turn_if on m).memory ≡ stored_all m.memory (stores_if on m)
turn_if-memory false m = refl
turn_if-memory true m = worked-memory m.job m

pub memory-turn : (m : State) → (turn m).memory ≡ stored_all m.memory (stores m)
memory-turn m = turn_if-memory m.risc_on (counted m)

-- ---- what isn't written

byte_at-unwritten : (memory : List Block) (made : List Store) (address : ℕ) →
    All (λ written. address ≢ written) (map (λ store. store.address) made) →
    byte_at (stored_all memory made) address ≡ byte_at memory address
byte_at-unwritten memory [] address others = refl
byte_at-unwritten memory (store ∷ made) address others =
    byte_at-unwritten (stored memory store.address store.byte) made address
    (All-tail (λ written. address ≢ written) store.address (map (λ store. store.address) made) others)
    ∙ byte_at-stored_other memory store.address store.byte address
    (All-head (λ written. address ≢ written) store.address (map (λ store. store.address) made) others)

pub byte_at-turn : (m : State) (address : ℕ) → All (λ written. address ≢ written) (writes m) →
    byte_at (turn m).memory address ≡ byte_at m.memory address
byte_at-turn m address others = ap (λ memory. byte_at memory address) (memory-turn m) ∙ byte_at-unwritten m.memory (stores m) address others
