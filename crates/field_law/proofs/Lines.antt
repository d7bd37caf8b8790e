-- A line of which some bytes were taken.
use Rattle.std.proofs.Common.{rules, tests, ◌≡◌, ℕ, zero, suc, ◌+◌, ◌-◌, ◌<◌, ◌≤◌, ◌||◌, Bool, true, false, List, [], ◌∷◌, ◌++◌, length}
use Rattle.std.proofs.Common.{take, drop, refl, sym, ap, subst, ◌∙◌, arith, inr, min}
use Rattle.std.proofs.Common.{take-take, drop-drop, length-take, length-drop, length-append, slice_index_or}
use Rattle.std.specs.List.{list_any}
use Rattle.std.proofs.lemmas.List.{drop-take, take-append-le, drop-append-le, drop_all}
use Rattle.sync_status.specs.declared.StatusKind.{StatusKind}
use Rattle.sync_status.specs.declared.StatusKind.TheVariants.{Control, Start, Pixels, End, Reserved}
use Rattle.sync_status.specs.declared.Verdict.TheVariants.{Take}
use Rattle.sync_status.specs.Statuses.{kinds, kind_of, valid_bytes, valid_lanes, is_end, verdict_on}
use Rattle.fifo_model.specs.declared.Entry.{Entry}
use Rattle.fifo_model.specs.Queues.{lane_bytes, bytes_taken, wakes}
use Rattle.machine_model.proofs.Fronts.{valid-some}
use Rattle.field_law.specs.Fields.{valid_part, carried, ends_line, is_ending, begins_line, is_line, IsLine}

-- ---- bytes of an entry

most_lanes : List StatusKind → Type 0
most_lanes [] = Unit {0}
most_lanes (kind ∷ rest) = (valid_lanes kind ≤ 4) × most_lanes rest

most_at : (list : List StatusKind) (at : ℕ) → most_lanes list → valid_lanes (slice_index_or list at Reserved) ≤ 4
unfolding most_lanes
most_at [] at h = omega arith
most_at (kind ∷ rest) zero h = h.0
most_at (kind ∷ rest) (suc at) h = most_at rest at h.1

most_kinds : most_lanes kinds
unfolding most_lanes
most_kinds = search arith

pub valid-most : (status : ℕ) → valid_bytes status ≤ 4
valid-most status = most_at kinds status most_kinds

pub length-valid_part : (entry : Entry) → length (valid_part entry) ≡ valid_bytes entry.status
length-valid_part entry =
    let most = valid-most entry.status in
    omega (arith, length-take (valid_bytes entry.status) (lane_bytes entry.dword))

-- bytes taken of an entry are bytes of its valid part
taken_part : (lanes : List ℕ) (valid taken count : ℕ) → taken + count ≤ valid →
    take count (drop taken (take valid lanes)) ≡ take count (drop taken lanes)
taken_part lanes valid taken count le =
    let parts : valid ≡ taken + (valid - taken) = omega arith in
    ap (λ (n : ℕ). take count (drop taken (take n lanes))) parts ∙ ap (take count) (drop-take taken (valid - taken) lanes)
    ∙ take-take count (valid - taken) (drop taken lanes) (omega arith)

pub bytes_taken-part : (entry : Entry) (taken count : ℕ) → taken + count ≤ valid_bytes entry.status →
    bytes_taken entry taken count ≡ take count (drop taken (valid_part entry))
bytes_taken-part entry taken count le = sym (taken_part (lane_bytes entry.dword) (valid_bytes entry.status) taken count le)

-- ---- what is left of a line

-- what follows an entry in its line: nothing after an EOL
abbrev pub Follows : Bool → List ℕ → List Entry → Type 0
Follows true more rest = (more ≡ []) × (rest ≡ [])
Follows false more rest = (is_ending rest ≡ true) × (carried rest ≡ more)

-- the entry at the front of a line's rest, and what follows it
pub record Part (taken : ℕ) (line : List ℕ) (entry : Entry) (rest : List Entry) : Type 0 where
  pub some : taken < valid_bytes entry.status
  pub more : List ℕ
  pub bytes : line ≡ drop taken (valid_part entry) ++ more
  pub follows : Follows (is_end (kind_of entry.status)) more rest

-- in a line that was begun, a SOL is one of which something was taken
abbrev pub Moving : StatusKind → ℕ → Type 0
Moving Start taken = 0 < taken
Moving Pixels taken = Unit {0}
Moving (End count) taken = Unit {0}
Moving _ taken = ⊥

abbrev pub UnderWay : ℕ → List ℕ → List Entry → Type 0
UnderWay taken line [] = (taken ≡ 0) × (line ≡ [])
UnderWay taken line (entry ∷ rest) = Moving (kind_of entry.status) taken × Part taken line entry rest

pub moving-verdict : (kind : StatusKind) (taken rest : ℕ) → Moving kind taken →
    verdict_on kind false taken rest ≡ Take (min rest (valid_lanes kind - taken))
moving-verdict (Control code) taken rest h = absurd h
moving-verdict Start zero rest h = absurd (omega arith)
moving-verdict Start (suc taken) rest h = search (rules, tests)
moving-verdict Pixels taken rest h = refl
moving-verdict (End count) taken rest h = refl
moving-verdict Reserved taken rest h = absurd h

-- ---- the beginning of a line, and of what follows its SOL

end_some : (status count : ℕ) → kind_of status ≡ End count → 1 ≤ valid_bytes status
end_some status count e = valid-some status 0 0 0 (record { least = omega arith; moving = inr (inr (count, e)) })

end_or_pixels : (status : ℕ) (kind : StatusKind) (rest : List Entry) → kind_of status ≡ kind → ends_line kind rest (is_ending rest) ≡ true →
    Moving kind 0 × (1 ≤ valid_bytes status) × Follows (is_end kind) (carried rest) rest
end_or_pixels status (Control code) rest e h = cc
end_or_pixels status Start rest e h = cc
end_or_pixels status Pixels rest e h = let four : valid_bytes status ≡ 4 = ap valid_lanes e in (tt, omega arith, (h, refl))
end_or_pixels status (End count) [] e h = (tt, end_some status count e, (refl, refl))
end_or_pixels status (End count) (entry ∷ rest) e h = cc
end_or_pixels status Reserved rest e h = cc

pub ending-UnderWay : (rest : List Entry) → is_ending rest ≡ true → UnderWay 0 (carried rest) rest
ending-UnderWay [] h = cc
ending-UnderWay (entry ∷ rest) h =
    let parts = end_or_pixels entry.status (kind_of entry.status) rest refl h in
    (parts.0, record { some = parts.1; more = carried rest; bytes = refl; follows = parts.2 })

-- a line of which nothing was taken
pub record Started (bytes : List ℕ) (entries : List Entry) : Type 0 where
  pub entry : Entry
  pub rest : List Entry
  pub same : entries ≡ entry ∷ rest
  pub kind : kind_of entry.status ≡ Start
  pub part : Part 0 bytes entry rest

start_of : (kind : StatusKind) (ending : Bool) → begins_line kind ending ≡ true → (kind ≡ Start) × (ending ≡ true)
start_of (Control code) ending h = cc
start_of Start ending h = (refl, h)
start_of Pixels ending h = cc
start_of (End count) ending h = cc
start_of Reserved ending h = cc

started : (bytes : List ℕ) (entries : List Entry) → is_line entries ≡ true → carried entries ≡ bytes → Started bytes entries
started bytes [] h valid = cc
started bytes (entry ∷ rest) h valid =
    let parts = start_of (kind_of entry.status) (is_ending rest) h in
    let four : valid_bytes entry.status ≡ 4 = ap valid_lanes parts.0 in
    record {
      entry = entry;
      rest = rest;
      same = refl;
      kind = parts.0;
      part =
          record {
            some = omega arith;
            more = carried rest;
            bytes = sym valid;
            follows = subst (λ kind. Follows (is_end kind) (carried rest) rest) (sym parts.0) (parts.1, refl);
          };
    }

pub line-Started : (bytes : List ℕ) (entries : List Entry) → IsLine bytes entries → Started bytes entries
line-Started bytes entries h = started bytes entries h.shape h.valid

-- ---- bytes are taken

length_left : (entry : Entry) (taken count : ℕ) → taken + count ≤ valid_bytes entry.status → count ≤ length (drop taken (valid_part entry))
length_left entry taken count le = omega (arith, length-drop taken (valid_part entry), length-valid_part entry)

pub part-take : (taken count : ℕ) (line : List ℕ) (entry : Entry) (rest : List Entry) → Part taken line entry rest →
    taken + count ≤ valid_bytes entry.status →
    take count line ≡ bytes_taken entry taken count
part-take taken count line entry rest h le =
    ap (take count) h.bytes ∙ take-append-le count (drop taken (valid_part entry)) h.more (length_left entry taken count le)
    ∙ sym (bytes_taken-part entry taken count le)

part_drop : (taken count : ℕ) (line : List ℕ) (entry : Entry) (rest : List Entry) (h : Part taken line entry rest) →
    taken + count ≤ valid_bytes entry.status →
    drop count line ≡ drop (taken + count) (valid_part entry) ++ h.more
part_drop taken count line entry rest h le =
    ap (drop count) h.bytes ∙ drop-append-le count (drop taken (valid_part entry)) h.more (length_left entry taken count le)
    ∙ ap (λ (bytes : List ℕ). bytes ++ h.more) (drop-drop count taken (valid_part entry))

follows_under_way : (last : Bool) (more : List ℕ) (rest : List Entry) → Follows last more rest → UnderWay 0 more rest
follows_under_way true more rest h = subst (λ rest. UnderWay 0 more rest) (sym h.1) (refl, h.0)
follows_under_way false more rest h = subst (λ more. UnderWay 0 more rest) h.1 (ending-UnderWay rest h.0)

-- all of the entry: it goes
pub part-whole : (taken count : ℕ) (line : List ℕ) (entry : Entry) (rest : List Entry) → Part taken line entry rest →
    taken + count ≡ valid_bytes entry.status →
    UnderWay 0 (drop count line) rest
part-whole taken count line entry rest h e =
    let none : drop (taken + count) (valid_part entry) ≡ [] =
    drop_all (taken + count) (valid_part entry) (omega (arith, length-valid_part entry)) in
    let left : drop count line ≡ h.more =
    part_drop taken count line entry rest h (omega arith) ∙ ap (λ (bytes : List ℕ). bytes ++ h.more) none in
    subst (λ line. UnderWay 0 line rest) (sym left) (follows_under_way (is_end (kind_of entry.status)) h.more rest h.follows)

more_taken : (kind : StatusKind) (taken count : ℕ) → 0 < count → 0 < valid_lanes kind → Moving kind (taken + count)
more_taken (Control code) taken count c v = absurd (omega arith)
more_taken Start taken count c v = omega arith
more_taken Pixels taken count c v = tt
more_taken (End valid) taken count c v = tt
more_taken Reserved taken count c v = absurd (omega arith)

-- some of it: it stays
pub part-some : (taken count : ℕ) (line : List ℕ) (entry : Entry) (rest : List Entry) → Part taken line entry rest → 0 < count →
    taken + count < valid_bytes entry.status → UnderWay (taken + count) (drop count line) (entry ∷ rest)
part-some taken count line entry rest h c lt = (
  more_taken (kind_of entry.status) taken count c (omega arith),
  record { some = lt; more = h.more; bytes = part_drop taken count line entry rest h (omega arith); follows = h.follows },
)

-- ---- how many bytes are left

pub part-length : (taken : ℕ) (line : List ℕ) (entry : Entry) (rest : List Entry) (h : Part taken line entry rest) →
    length line ≡ valid_bytes entry.status - taken + length h.more
part-length taken line entry rest h =
    ap (λ (bytes : List ℕ). length bytes) h.bytes
    ∙ omega (arith, length-append (drop taken (valid_part entry)) h.more, length-drop taken (valid_part entry), length-valid_part entry)

last_length : (last : Bool) (more : List ℕ) (rest : List Entry) → last ≡ true → Follows last more rest → length more ≡ 0
last_length true more rest e h = ap (λ (bytes : List ℕ). length bytes) h.0
last_length false more rest e h = cc

-- after an EOL nothing
pub part-last : (taken : ℕ) (line : List ℕ) (entry : Entry) (rest : List Entry) → Part taken line entry rest →
    is_end (kind_of entry.status) ≡ true →
    length line ≡ valid_bytes entry.status - taken
part-last taken line entry rest h e =
    omega (arith, part-length taken line entry rest h, last_length (is_end (kind_of entry.status)) h.more rest e h.follows)

-- ---- a line has its EOL, which makes the queue ready

abbrev pub has_waking : List Entry → Bool
has_waking entries = list_any (λ entry. wakes (kind_of entry.status)) entries

kind_waking : (kind : StatusKind) (rest : List Entry) → ends_line kind rest (is_ending rest) ≡ true →
    (is_ending rest ≡ true → has_waking rest ≡ true) →
    (wakes kind || has_waking rest) ≡ true
kind_waking (Control code) rest h more = cc
kind_waking Start rest h more = cc
kind_waking Pixels rest h more = more h
kind_waking (End count) rest h more = refl
kind_waking Reserved rest h more = cc

ending_waking : (rest : List Entry) → is_ending rest ≡ true → has_waking rest ≡ true
ending_waking [] h = cc
ending_waking (entry ∷ rest) h = kind_waking (kind_of entry.status) rest h (λ ending. ending_waking rest ending)

follows_waking : (kind : StatusKind) (more : List ℕ) (rest : List Entry) → Follows (is_end kind) more rest → 1 ≤ valid_lanes kind →
    (wakes kind || has_waking rest) ≡ true
follows_waking (Control code) more rest h v = absurd (omega arith)
follows_waking Start more rest h v = ending_waking rest h.0
follows_waking Pixels more rest h v = ending_waking rest h.0
follows_waking (End count) more rest h v = refl
follows_waking Reserved more rest h v = absurd (omega arith)

pub part-waking : (taken : ℕ) (line : List ℕ) (entry : Entry) (rest : List Entry) → Part taken line entry rest →
    has_waking (entry ∷ rest) ≡ true
part-waking taken line entry rest h = let some = h.some in follows_waking (kind_of entry.status) h.more rest h.follows (omega arith)
