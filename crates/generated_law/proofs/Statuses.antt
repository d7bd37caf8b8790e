-- The statuses of the entries that pushes bring to a queue.
use Rattle.std.proofs.Common.{◌≡◌, ℕ, zero, suc, ◌+◌, Bool, true, false, List, [], ◌∷◌, ◌++◌, map, refl, sym, ap, ◌∙◌, if◌then◌else◌}
use Rattle.std.specs.List.{range_with_len}
use Rattle.std.proofs.lemmas.List.{append_assoc}
use Rattle.risc_word.specs.Words.{code_number}
use Rattle.fifo_model.specs.declared.Entry.{Entry}
use Rattle.fifo_model.specs.declared.Queue.{Queue}
use Rattle.fifo_model.specs.declared.Queue.TheVariants.{One}
use Rattle.machine_model.specs.Steps.{Step}
use Rattle.field_law.specs.Arrivals.{is_queue, pushed_in}
use Rattle.field_law.proofs.Bringing.{pushed_in-append}
use Rattle.field_stream.specs.Made.{after}
use Rattle.field_stream.specs.Pushes.{Push, Mark, Fill, line_entries, packed_line, status_at}
use Rattle.generated_law.specs.Drawn.{drawn_steps, number_behind}

-- ---- what comes over a queue

pub drawn_steps-append : (number : ℕ) (a b : List Push) →
    drawn_steps number (a ++ b) ≡ drawn_steps number a ++ drawn_steps (number_behind number a) b
drawn_steps-append number [] b = refl
drawn_steps-append number (push ∷ a) b =
    ap (λ (rest : List Step). drawn_steps number (push ∷ []) ++ rest) (drawn_steps-append (after number push) a b)

pub pushed_in-drawn : (number : ℕ) (a b : List Push) (q : Queue) →
    pushed_in (drawn_steps number (a ++ b)) q ≡ pushed_in (drawn_steps number a) q ++ pushed_in (drawn_steps (number_behind number a) b) q
pushed_in-drawn number a b q =
    ap (λ (steps : List Step). pushed_in steps q) (drawn_steps-append number a b)
    ∙ pushed_in-append (drawn_steps number a) (drawn_steps (number_behind number a) b) q

-- ---- statuses

abbrev pub status_if : Bool → ℕ → List ℕ
status_if true status = status ∷ []
status_if false status = []

abbrev pub status_on : Queue → Push → List ℕ
status_on q (Mark code) = code_number code ∷ []
status_on q (Fill to status) = status_if (is_queue to q) status

abbrev pub statuses : Queue → List Push → List ℕ
statuses q [] = []
statuses q (push ∷ rest) = status_on q push ++ statuses q rest

abbrev pub statuses_of : List Entry → List ℕ
statuses_of entries = map (λ entry. entry.status) entries

pub statuses-append : (q : Queue) (a b : List Push) → statuses q (a ++ b) ≡ statuses q a ++ statuses q b
statuses-append q [] b = refl
statuses-append q (push ∷ a) b =
    ap (λ (rest : List ℕ). status_on q push ++ rest) (statuses-append q a b)
    ∙ sym (append_assoc (status_on q push) (statuses q a) (statuses q b))

statuses_if : (here : Bool) (entry : Entry) (rest : List Entry) (more : List ℕ) → statuses_of rest ≡ more →
    statuses_of ((if here then entry ∷ [] else []) ++ rest) ≡ status_if here entry.status ++ more
statuses_if true entry rest more same = ap (λ (list : List ℕ). entry.status ∷ list) same
statuses_if false entry rest more same = same

-- the entries that come have the statuses of the pushes
pub statuses-pushed_in : (number : ℕ) (pushes : List Push) (q : Queue) →
    statuses_of (pushed_in (drawn_steps number pushes) q) ≡ statuses q pushes
statuses-pushed_in number [] q = refl
statuses-pushed_in number (Mark code ∷ rest) q =
    ap (λ (list : List ℕ). code_number code ∷ list) (statuses-pushed_in number rest q)
statuses-pushed_in number (Fill to status ∷ rest) q =
    statuses_if (is_queue to q) _ (pushed_in (drawn_steps (after number (Fill to status)) rest) q) (statuses q rest)
    (statuses-pushed_in (after number (Fill to status)) rest q)

-- ---- lines

-- the statuses of a line of so many bytes
abbrev pub line_statuses : ℕ → List ℕ
line_statuses bytes = map (status_at bytes) (range_with_len 0 (line_entries bytes))

packed_on_one : (bytes from count : ℕ) → statuses One (map (λ index. Fill One (status_at bytes index)) (range_with_len from count))
    ≡ map (status_at bytes) (range_with_len from count)
packed_on_one bytes from zero = refl
packed_on_one bytes from (suc count) = ap (λ (list : List ℕ). status_at bytes from ∷ list) (packed_on_one bytes (from + 1) count)

packed_on_other : (q : Queue) (bytes from count : ℕ) → is_queue One q ≡ false →
    statuses q (map (λ index. Fill One (status_at bytes index)) (range_with_len from count)) ≡ []
packed_on_other q bytes from zero other = refl
packed_on_other q bytes from (suc count) other =
    ap (λ (here : Bool). status_if here (status_at bytes from)
    ++ statuses q (map (λ index. Fill One (status_at bytes index)) (range_with_len (from + 1) count))) other
    ∙ packed_on_other q bytes (from + 1) count other

pub packed_statuses : (bytes : ℕ) → statuses One (packed_line bytes) ≡ line_statuses bytes
packed_statuses bytes = packed_on_one bytes 0 (line_entries bytes)

pub packed_nothing : (q : Queue) (bytes : ℕ) → is_queue One q ≡ false → statuses q (packed_line bytes) ≡ []
packed_nothing q bytes other = packed_on_other q bytes 0 (line_entries bytes) other
