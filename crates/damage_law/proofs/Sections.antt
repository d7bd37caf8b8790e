-- The lines of a section, and what they keep while the machine goes on behind them.
use Rattle.std.proofs.Common.{◌≡◌, ℕ, ◌+◌, ◌*◌, ◌<◌, ◌≤◌, Bool, true, false, ◌&&◌, ◌||◌, ◌==◌, List, [], ◌∷◌, ◌++◌, length, map, Option}
use Rattle.std.proofs.Common.{refl, ap, ap₂, ◌∙◌, arith}
use Rattle.std.specs.Prelude.{filter}
use Rattle.std.specs.List.{list_all}
use Rattle.std.proofs.Math.Bool.{or-false}
use Rattle.std.proofs.lemmas.Bool.{and_from, cond-true, cond-false, eq-eqb, ne_eqb, or_from}
use Rattle.std.proofs.lemmas.List.{append-nil}
use Rattle.std.proofs.lemmas.List.Elements.{filter-append}
use Rattle.std.proofs.lemmas.List.Folds.{list_all-append, list_any-append}
use Rattle.risc_word.specs.declared.Code.{Code}
use Rattle.risc_word.specs.declared.Instr.{Instr}
use Rattle.risc_word.specs.Words.{encoded}
use Rattle.fifo_model.specs.declared.Queue.{Queue}
use Rattle.fifo_model.specs.declared.Queue.TheVariants.{One, Two, Three}
use Rattle.picture_model.specs.Programs.{sync}
use Rattle.picture_model.proofs.Each.{Each, each_only}
use Rattle.machine_model.specs.Paths.{demands_of, is_data}
use Rattle.risc_word.specs.Parts.{instr_ends}
use Rattle.machine_model.specs.Turns.{demand_on}
use Rattle.field_law.specs.Sections.{words_in}
use Rattle.damage_model.specs.Takings.{Taking}
use Rattle.damage_model.specs.Lines.{make_line}
use Rattle.damage_model.specs.Marks.{addresses_from, is_among}

-- a part of a section's body: a SYNC, or the instructions of a line, which moves some queues
pub data Part : Type 0 where
  Await : Code → Part
  Cut : (Queue → Bool) → List Instr → Part

abbrev pub instrs_of : List Part → List Instr
instrs_of [] = []
instrs_of (Await code ∷ rest) = sync false code ∷ instrs_of rest
instrs_of (Cut moved line ∷ rest) = line ++ instrs_of rest

-- the addresses of the instructions of each line
abbrev pub lines_at : ℕ → List Part → List (List ℕ)
lines_at here [] = []
lines_at here (Await code ∷ rest) = lines_at (here + 8) rest
lines_at here (Cut moved line ∷ rest) = addresses_from here line ∷ lines_at (here + 4 * words_in line) rest

-- an instruction of a line: the line's first awaits a line's start on each queue that the line moves
pub record GoesIn (begins : Bool) (moved : Queue → Bool) (last : Bool) (instr : Instr) : Type 0 where
  pub moves : is_data instr ≡ true
  pub ends : (instr_ends instr).eol ≡ last
  pub unmoved : (q : Queue) (target : Option ℕ) → moved q ≡ false → (demand_on q (demands_of instr target)).rest ≡ 0
  pub first : (q : Queue) (target : Option ℕ) → (demand_on q (demands_of instr target)).needs_sol ≡ true →
      (begins ≡ true) × (0 < (demand_on q (demands_of instr target)).rest)
  pub awaits : (q : Queue) (target : Option ℕ) → moved q ≡ true → (demand_on q (demands_of instr target)).needs_sol ≡ false → begins ≡ false

abbrev pub is_none : List Instr → Bool
is_none [] = true
is_none (instr ∷ rest) = false

abbrev pub LineGoes : Bool → (Queue → Bool) → List Instr → Type 0
LineGoes begins moved [] = Unit {0}
LineGoes begins moved (instr ∷ rest) = GoesIn begins moved (is_none rest) instr × LineGoes false moved rest

pub record IsCut (moved : Queue → Bool) (line : List Instr) : Type 0 where
  pub first : Instr
  pub rest : List Instr
  pub some : line ≡ first ∷ rest
  pub goes : LineGoes true moved line

abbrev pub AreParts : List Part → Type 0
AreParts [] = Unit {0}
AreParts (Await code ∷ rest) = AreParts rest
AreParts (Cut moved line ∷ rest) = IsCut moved line × AreParts rest

-- what was taken of each queue since the opening, and which instructions retired
pub record Past : Type 0 where
  pub takes : Queue → List Taking
  pub retired : List ℕ

abbrev pub takes_in : List ℕ → List Taking → List Taking
takes_in addresses ts = filter (λ t. is_among addresses t.at) ts

abbrev pub whole_over : Past → List ℕ → Bool
whole_over past addresses =
    list_all (is_among past.retired) addresses && make_line (takes_in addresses (past.takes One))
    && make_line (takes_in addresses (past.takes Two))
    && make_line (takes_in addresses (past.takes Three))

abbrev pub AreBelow : ℕ → List ℕ → Type 0
AreBelow here addresses = Each (λ a. a < here) addresses

abbrev pub TakenBelow : ℕ → List Taking → Type 0
TakenBelow here ts = Each (λ t. t.at < here) ts

-- ---- addresses

pub below_more : (here more : ℕ) (addresses : List ℕ) → here ≤ more → AreBelow here addresses → AreBelow more addresses
below_more here more addresses less below = each_only (λ a. a < here) (λ a. a < more) addresses (λ a lt. omega arith) below

pub taken_more : (here more : ℕ) (ts : List Taking) → here ≤ more → TakenBelow here ts → TakenBelow more ts
taken_more here more ts less below = each_only (λ t. t.at < here) (λ t. t.at < more) ts (λ t lt. omega arith) below

-- addresses from one on
abbrev pub AreFrom : ℕ → List ℕ → Type 0
AreFrom here addresses = Each (λ a. here ≤ a) addresses

addresses_above : (here at : ℕ) (instrs : List Instr) → here ≤ at → AreFrom here (addresses_from at instrs)
addresses_above here at [] less = tt
addresses_above here at (instr ∷ rest) less = (less, addresses_above here (at + 4 * length (encoded instr)) rest (omega arith))

pub addresses_from_here : (here : ℕ) (instrs : List Instr) → AreFrom here (addresses_from here instrs)
addresses_from_here here instrs = addresses_above here here instrs (omega arith)

pub not_below : (here at : ℕ) (addresses : List ℕ) → here ≤ at → AreBelow here addresses → is_among addresses at ≡ false
not_below here at [] less below = refl
not_below here at (a ∷ rest) less below =
    let lt = below.0 in
    or_from (at == a) (is_among rest at) (ne_eqb at a (λ same. absurd (omega arith))) (not_below here at rest less below.1)

not_above : (here at : ℕ) (addresses : List ℕ) → at < here → AreFrom here addresses → is_among addresses at ≡ false
not_above here at [] less above = refl
not_above here at (a ∷ rest) less above =
    let le = above.0 in
    or_from (at == a) (is_among rest at) (ne_eqb at a (λ same. absurd (omega arith))) (not_above here at rest less above.1)

is_there : (at : ℕ) (before after : List ℕ) → is_among (before ++ at ∷ after) at ≡ true
is_there at [] after = ap (λ (b : Bool). b || is_among after at) (eq-eqb at at refl)
is_there at (a ∷ before) after = or_true (at == a) (is_among (before ++ at ∷ after) at) (is_there at before after)
  where
    or_true : (x y : Bool) → y ≡ true → (x || y) ≡ true
    or_true true y is = refl
    or_true false y is = is

-- ---- takings

none_taken : (addresses : List ℕ) (ts : List Taking) → Each (λ t. is_among addresses t.at ≡ false) ts → takes_in addresses ts ≡ []
none_taken addresses [] none = refl
none_taken addresses (t ∷ rest) none =
    cond-false (is_among addresses t.at) (t ∷ takes_in addresses rest) (takes_in addresses rest) none.0 ∙ none_taken addresses rest none.1

all_taken : (addresses : List ℕ) (ts : List Taking) → Each (λ t. is_among addresses t.at ≡ true) ts → takes_in addresses ts ≡ ts
all_taken addresses [] all = refl
all_taken addresses (t ∷ rest) all =
    cond-true (is_among addresses t.at) (t ∷ takes_in addresses rest) (takes_in addresses rest) all.0
    ∙ ap (λ (r : List Taking). t ∷ r) (all_taken addresses rest all.1)

-- of a line that is still to come nothing is taken
pub none_yet : (here : ℕ) (addresses : List ℕ) (ts : List Taking) → TakenBelow here ts → AreFrom here addresses → takes_in addresses ts ≡ []
none_yet here addresses ts below above =
    none_taken addresses ts
    (each_only (λ t. t.at < here) (λ t. is_among addresses t.at ≡ false) ts (λ t lt. not_above here t.at addresses lt above) below)

-- of a line that is through nothing more is taken
pub none_more : (here : ℕ) (addresses : List ℕ) (ts new : List Taking) → Each (λ t. t.at ≡ here) new → AreBelow here addresses →
    takes_in addresses (ts ++ new) ≡ takes_in addresses ts
none_more here addresses ts new at below =
    filter-append (λ t. is_among addresses t.at) ts new
    ∙ ap (λ (r : List Taking). takes_in addresses ts ++ r)
    (none_taken addresses new (each_only (λ t. t.at ≡ here) (λ t. is_among addresses t.at ≡ false) new
    (λ t same. not_below here t.at addresses (omega arith) below) at))
    ∙ append-nil (takes_in addresses ts)

-- what is taken at an instruction of a line is taken of the line
pub taken_here : (here : ℕ) (before after : List ℕ) (ts new : List Taking) → Each (λ t. t.at ≡ here) new →
    takes_in (before ++ here ∷ after) (ts ++ new) ≡ takes_in (before ++ here ∷ after) ts ++ new
taken_here here before after ts new at =
    filter-append (λ t. is_among (before ++ here ∷ after) t.at) ts new
    ∙ ap (λ (r : List Taking). takes_in (before ++ here ∷ after) ts ++ r)
    (all_taken (before ++ here ∷ after) new
    (each_only (λ t. t.at ≡ here) (λ t. is_among (before ++ here ∷ after) t.at ≡ true) new
    (λ t same. ap (is_among (before ++ here ∷ after)) same ∙ is_there here before after) at))

-- ---- which instructions retired

retired_more : (here : ℕ) (retired new addresses : List ℕ) → Each (λ a. a ≡ here) new → AreBelow here addresses →
    list_all (is_among (retired ++ new)) addresses ≡ list_all (is_among retired) addresses
retired_more here retired new [] at below = refl
retired_more here retired new (a ∷ rest) at below =
    let lt = below.0 in
    ap₂ (λ (x y : Bool). x && y)
    (list_any-append (λ other. a == other) retired new ∙ ap (λ (b : Bool). is_among retired a || b) (none_here new at)
    ∙ or-false (is_among retired a))
    (retired_more here retired new rest at below.1)
  where
    none_here : (new : List ℕ) → Each (λ a. a ≡ here) new → is_among new a ≡ false
    none_here [] at = refl
    none_here (r ∷ rest) at =
        let same = at.0 in
        let lt = below.0 in
        or_from (a == r) (is_among rest a) (ne_eqb a r (λ is. absurd (omega arith))) (none_here rest at.1)

-- an instruction that retires
pub retired_here : (here : ℕ) (retired done : List ℕ) → list_all (is_among retired) done ≡ true → AreBelow here done →
    list_all (is_among (retired ++ here ∷ [])) (done ++ here ∷ []) ≡ true
retired_here here retired done all below =
    list_all-append (is_among (retired ++ here ∷ [])) done (here ∷ [])
    ∙ and_from (list_all (is_among (retired ++ here ∷ [])) done) (list_all (is_among (retired ++ here ∷ [])) (here ∷ []))
    (retired_more here retired (here ∷ []) done (refl, tt) below ∙ all)
    (and_from (is_among (retired ++ here ∷ []) here) true (is_there here retired []) refl)

-- one that doesn't
pub unretired_here : (here : ℕ) (retired done : List ℕ) → AreBelow here retired → list_all (is_among retired) (done ++ here ∷ []) ≡ false
unretired_here here retired [] below = ap (λ (b : Bool). b && true) (not_below here here retired (omega arith) below)
unretired_here here retired (d ∷ done) below =
    and_no (is_among retired d) (list_all (is_among retired) (done ++ here ∷ [])) (unretired_here here retired done below)
  where
    and_no : (x y : Bool) → y ≡ false → (x && y) ≡ false
    and_no true y is = is
    and_no false y is = refl

-- ---- lines that are through stay as they are

pub record GoesOn (here : ℕ) (past next : Past) : Type 0 where
  pub new : Queue → List Taking
  pub takes : (q : Queue) → next.takes q ≡ past.takes q ++ new q
  pub at : (q : Queue) → Each (λ t. t.at ≡ here) (new q)
  pub retires : List ℕ
  pub retired : next.retired ≡ past.retired ++ retires
  pub retires_at : Each (λ a. a ≡ here) retires

line_stays : (here : ℕ) (past next : Past) (addresses : List ℕ) → GoesOn here past next → AreBelow here addresses →
    whole_over next addresses ≡ whole_over past addresses
line_stays here past next addresses on below =
    ap₂ (λ (x y : Bool). x && y)
    (ap₂ (λ (x y : Bool). x && y)
    (ap₂ (λ (x y : Bool). x && y)
    (ap (λ (r : List ℕ). list_all (is_among r) addresses) on.retired
    ∙ retired_more here past.retired on.retires addresses on.retires_at below)
    (same One)) (same Two)) (same Three)
  where
    same : (q : Queue) → make_line (takes_in addresses (next.takes q)) ≡ make_line (takes_in addresses (past.takes q))
    same q =
        ap (λ (ts : List Taking). make_line (takes_in addresses ts)) (on.takes q)
        ∙ ap make_line (none_more here addresses (past.takes q) (on.new q) (on.at q) below)

pub lines_stay : (here : ℕ) (past next : Past) (lines : List (List ℕ)) → GoesOn here past next → Each (AreBelow here) lines →
    map (whole_over next) lines ≡ map (whole_over past) lines
lines_stay here past next [] on below = refl
lines_stay here past next (line ∷ rest) on below =
    ap₂ (λ (x : Bool) (xs : List Bool). x ∷ xs) (line_stays here past next line on below.0) (lines_stay here past next rest on below.1)
