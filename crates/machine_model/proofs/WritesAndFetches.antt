-- A safe machine with a sound program writes granted bytes alone, and fetches words of the program alone.
use Rattle.std.proofs.Common.{◌≡◌, ℕ, zero, suc, ◌+◌, ◌*◌, ◌<◌, ◌≤◌, max, Bool, true, false, List, [], ◌∷◌, length, drop, All, Option, Some}
use Rattle.std.proofs.Common.{None, Ok, IsTrue, refl, sym, subst, ◌∙◌, arith, if◌then◌else◌, ◌==◌, slice_index, length-take}
use Rattle.std.proofs.lemmas.List.Elements.{All-nil, All-cons, All-append, All-map}
use Rattle.bit_field.specs.Bits.{bits}
use Rattle.risc_word.specs.declared.Instr.{Instr}
use Rattle.risc_word.specs.Words.{opcode_length}
use Rattle.sync_status.specs.declared.Verdict.{Verdict}
use Rattle.sync_status.specs.declared.Verdict.TheVariants.{Take, Discard, Broken, Missing}
use Rattle.sync_status.specs.Statuses.{kind_of}
use Rattle.fifo_model.specs.declared.Entry.{Entry}
use Rattle.fifo_model.specs.declared.Queue.{Queue}
use Rattle.fifo_model.specs.Queues.{queue_state, front, bytes_taken, lane_bytes}
use Rattle.page_table.specs.Grants.{Chunk, granted}
use Rattle.machine_model.specs.declared.Demands.{Demands}
use Rattle.machine_model.specs.declared.Job.{Job}
use Rattle.machine_model.specs.declared.Job.TheVariants.{Idle, Waiting, Running}
use Rattle.machine_model.specs.Paths.{RiscProgram, words_from, is_word, fetch, range_cause, demand_cause, path, IsSound}
use Rattle.risc_word.specs.Parts.{instr_off}
use Rattle.machine_model.specs.States.{State}
use Rattle.machine_model.specs.Turns.{Store, is_off, stores_from, stores_at, demand_on, verdict_at, counted, apply, lowest_served, is_done}
use Rattle.machine_model.specs.Accesses.{judged_stores, served_stores, stores_in, apply_stores, burst_stores, burst_stores_of, ran_stores}
use Rattle.machine_model.specs.Accesses.{worked_stores, stores_if, writes, word_addresses, words_read, fetched_by, fetches_if, fetches}
use Rattle.machine_model.specs.Safety.{IsSafe, StaysInside}
use Rattle.machine_model.proofs.Ranges.{granted_at}
use Rattle.machine_model.proofs.Fronts.{take-Takes}
use Rattle.machine_model.proofs.Demanded.{demand-granted, written-IsRange}
use Rattle.machine_model.proofs.Turning.{apply-kept}
use Rattle.machine_model.proofs.Following.{Follows, runs_there, follows}
use Rattle.machine_model.proofs.Safe.{IsSafe-Follows}
use Rattle.machine_model.proofs.BeforeTurns.{words_read-is, words_there, fetch-KnownAt, idle-IsFine}

-- ---- writes

abbrev IsGranted : List Chunk → Store → Type 0
IsGranted grants store = IsTrue (granted grants store.address)

-- the bytes of a granted range
store_if : (grants : List Chunk) (address byte : ℕ) (rest : List Store) (off : Bool) → IsTrue (granted grants address) →
    All (IsGranted grants) rest →
    All (IsGranted grants) (if off then rest else record { address = address; byte = byte } ∷ rest)
store_if grants address byte rest true g h = h
store_if grants address byte rest false g h = All-cons (IsGranted grants) _ rest g h

stores_from-granted : (grants : List Chunk) (off lane address : ℕ) (bytes : List ℕ) →
    ((k : ℕ) → k < length bytes → IsTrue (granted grants (address + k))) → All (IsGranted grants) (stores_from off lane address bytes)
stores_from-granted grants off lane address [] h = All-nil (IsGranted grants)
stores_from-granted grants off lane address (byte ∷ bytes) h =
    let first : address + 0 ≡ address = omega arith in
    let rest : (k : ℕ) → k < length bytes → IsTrue (granted grants (address + 1 + k)) =
    λ k lt. let at : address + 1 + k ≡ address + suc k = omega arith in rw at (h (suc k) (omega arith)) in
    store_if grants address byte _ (is_off off lane) (rw first at (h 0 (omega arith)))
    (stores_from-granted grants off (lane + 1) (address + 1) bytes rest)

stores_at-granted : (grants : List Chunk) (address : Option ℕ) (off lane rest : ℕ) (bytes : List ℕ) → length bytes ≤ rest →
    range_cause grants address rest ≡ None →
    All (IsGranted grants) (stores_at address off lane bytes)
stores_at-granted grants None off lane rest bytes le h = All-nil (IsGranted grants)
stores_at-granted grants (Some address) off lane rest bytes le h =
    stores_from-granted grants off lane address bytes
    (λ k lt. granted_at grants address rest k (omega arith) (written-IsRange grants address rest h).whole)

module _ (program : RiscProgram) (sound : IsSound program) where
  judged-granted : (verdict : Verdict) (q : Queue) (instr : Instr) (ds : Demands) (entry : Entry) (m : State) →
      verdict_at q ds entry m ≡ verdict →
      demand_cause program.grants (demand_on q ds) ≡ None → All (IsGranted program.grants) (judged_stores verdict q instr ds entry m)
  judged-granted Broken q instr ds entry m v d = All-nil (IsGranted program.grants)
  judged-granted Discard q instr ds entry m v d = All-nil (IsGranted program.grants)
  judged-granted Missing q instr ds entry m v d = All-nil (IsGranted program.grants)
  judged-granted (Take count) q instr ds entry m v d =
      let taken : ℕ = (queue_state q m.queues).taken in
      let least = (take-Takes (kind_of entry.status) (demand_on q ds).needs_sol taken (demand_on q ds).rest count v).least in
      let few : length (bytes_taken entry taken count) ≤ (demand_on q ds).rest =
      omega (arith, length-take count (drop taken (lane_bytes entry.dword))) in
      stores_at-granted program.grants (demand_on q ds).address (instr_off instr) taken (demand_on q ds).rest
      (bytes_taken entry taken count) few d

  served-granted : (top : Option Entry) (q : Queue) (instr : Instr) (ds : Demands) (m : State) →
      demand_cause program.grants (demand_on q ds) ≡ None → All (IsGranted program.grants) (served_stores top q instr ds m)
  served-granted None q instr ds m d = All-nil (IsGranted program.grants)
  served-granted (Some entry) q instr ds m d =
      unless ((demand_on q ds).rest == 0) (judged_stores (verdict_at q ds entry m) q instr ds entry m)
      (judged-granted _ q instr ds entry m refl d)
    where
      unless : (none : Bool) (stores : List Store) → All (IsGranted program.grants) stores →
          All (IsGranted program.grants) (if none then [] else stores)
      unless true stores h = All-nil (IsGranted program.grants)
      unless false stores h = h

  in-granted : (job : Job) (q : Queue) (m : State) → m.job ≡ job → Follows program m → All (IsGranted program.grants) (stores_in job q m)
  in-granted Idle q m e h = All-nil (IsGranted program.grants)
  in-granted (Waiting ctl resync code) q m e h = All-nil (IsGranted program.grants)
  in-granted (Running instr ds) q m e h =
      let runs = runs_there program (path program h.number) m.pc m.skipping m.target m.job instr ds e h.there in
      served-granted (front (queue_state q m.queues)) q instr ds m (demand-granted program.grants q ds runs.within)

  continued : (count : ℕ) (q : Queue) (next : Option State) →
      ((after : State) → next ≡ Some after → All (IsGranted program.grants) (burst_stores count q after)) →
      All (IsGranted program.grants) (elim next as (λ _. List Store) [ None ↦ [] | Some after ↦ burst_stores count q after ])
  continued count q None go = All-nil (IsGranted program.grants)
  continued count q (Some after) go = go after refl

  pub burst-granted : (count : ℕ) (q : Queue) (m : State) → Follows program m → All (IsGranted program.grants) (burst_stores count q m)
  burst-granted zero q m h = All-nil (IsGranted program.grants)
  burst-granted (suc count) q m h =
      All-append (IsGranted program.grants) (apply_stores q m) _ (in-granted m.job q m refl h)
      (continued count q (apply q m)
      (λ after e. burst-granted count q after (apply-kept (Follows program) (follows program sound) q m after h e)))

  burst_of-granted : (q : Option Queue) (m : State) → Follows program m → All (IsGranted program.grants) (burst_stores_of q m)
  burst_of-granted None m h = All-nil (IsGranted program.grants)
  burst_of-granted (Some q) m h = burst-granted m.trigger q m h

  ran-granted : (done : Bool) (ds : Demands) (m : State) → Follows program m → All (IsGranted program.grants) (ran_stores done ds m)
  ran-granted true ds m h = All-nil (IsGranted program.grants)
  ran-granted false ds m h = burst_of-granted (lowest_served ds m) m h

  worked-granted : (job : Job) (m : State) → Follows program m → All (IsGranted program.grants) (worked_stores job m)
  worked-granted Idle m h = All-nil (IsGranted program.grants)
  worked-granted (Waiting ctl resync code) m h = All-nil (IsGranted program.grants)
  worked-granted (Running instr ds) m h = ran-granted (is_done ds) ds m h

  if-granted : (on : Bool) (m : State) → Follows program m → All (IsGranted program.grants) (stores_if on m)
  if-granted false m h = All-nil (IsGranted program.grants)
  if-granted true m h = worked-granted m.job m h

pub writes-granted : (m : State) → IsSound m.program → IsSafe m → All (λ address. IsTrue (granted m.program.grants address)) (writes m)
writes-granted m sound safe =
    let here = IsSafe-Follows m safe in
    All-map (λ address. IsTrue (granted m.program.grants address)) (λ store. store.address) (stores_if m.risc_on (counted m))
    (if-granted m.program sound m.risc_on (counted m)
    (record { same = here.same; number = here.number; there = here.there; no_error = here.no_error }))

-- ---- fetches

words-inside : (program : RiscProgram) (address from count : ℕ) → from + count ≤ length (words_from 5 program address) →
    All (λ at. IsTrue (is_word program at)) (word_addresses (address + 4 * from) count)
words-inside program address from zero le = All-nil (λ at. IsTrue (is_word program at))
words-inside program address from (suc count) le =
    let next : address + 4 * from + 4 ≡ address + 4 * (from + 1) = omega arith in
    let rest : All (λ at. IsTrue (is_word program at)) (word_addresses (address + 4 * (from + 1)) count) =
    words-inside program address (from + 1) count (omega arith) in
    All-cons (λ at. IsTrue (is_word program at)) (address + 4 * from) (word_addresses (address + 4 * from + 4) count)
    (words_there 5 from program address (omega arith))
    (subst (λ at. All (λ x. IsTrue (is_word program x)) (word_addresses at count)) (sym next) rest)

-- as many words are read as the instruction has
pub words_read-known : (program : RiscProgram) (pc : ℕ) (instr : Instr) (count : ℕ) → fetch program pc ≡ Ok (instr, count) →
    words_read program pc ≡ count
words_read-known program pc instr count h =
    let known = fetch-KnownAt program pc instr count h in
    let asked : ℕ = opcode_length (bits 28 4 (slice_index (words_from 5 program pc) 0)) in
    let least = known.positive in
    let number : count ≡ asked = known.by_opcode_is in
    let read : max 1 asked ≡ count = omega arith in
    words_read-is program pc ∙ read

pub fetch-inside : (program : RiscProgram) (pc : ℕ) (instr : Instr) (count : ℕ) → fetch program pc ≡ Ok (instr, count) →
    All (λ at. IsTrue (is_word program at)) (word_addresses pc (words_read program pc))
fetch-inside program pc instr count h =
    let known = fetch-KnownAt program pc instr count h in
    let within = known.within in
    let begin : pc + 4 * 0 ≡ pc = omega arith in
    let all = words-inside program pc 0 count (omega arith) in
    subst (λ n. All (λ at. IsTrue (is_word program at)) (word_addresses pc n)) (sym (words_read-known program pc instr count h))
    (subst (λ at. All (λ x. IsTrue (is_word program x)) (word_addresses at count)) begin all)

fetched_by-inside : (m : State) → IsSound m.program → IsSafe m → (job : Job) → m.job ≡ job →
    All (λ at. IsTrue (is_word m.program at)) (fetched_by job m)
fetched_by-inside m sound safe Idle e =
    let fine = idle-IsFine m sound safe e in
    fetch-inside m.program m.pc fine.instr fine.length_in_words fine.stands
fetched_by-inside m sound safe (Waiting ctl resync code) e = All-nil (λ at. IsTrue (is_word m.program at))
fetched_by-inside m sound safe (Running instr ds) e = All-nil (λ at. IsTrue (is_word m.program at))

fetches_if-inside : (m : State) → IsSound m.program → IsSafe m → (on : Bool) → All (λ at. IsTrue (is_word m.program at)) (fetches_if on m)
fetches_if-inside m sound safe false = All-nil (λ at. IsTrue (is_word m.program at))
fetches_if-inside m sound safe true = fetched_by-inside m sound safe m.job refl

pub fetches-inside : (m : State) → IsSound m.program → IsSafe m → All (λ at. IsTrue (is_word m.program at)) (fetches m)
fetches-inside m sound safe = fetches_if-inside m sound safe m.risc_on

pub StaysInside-safe : (m : State) → IsSound m.program → IsSafe m → StaysInside m
StaysInside-safe m sound safe = record { written = writes-granted m sound safe; read = fetches-inside m sound safe }
