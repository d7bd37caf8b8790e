-- Lines that are cut into parts are used up, and each of their bytes is stored at its address.
use Rattle.std.proofs.Common.{◌≡◌, ℕ, zero, suc, ◌+◌, ◌-◌, ◌<◌, ◌≤◌, true, ◌==◌, List, [], ◌∷◌, ◌++◌, length, take, drop, map, replicate}
use Rattle.std.proofs.Common.{All, Option, Some, None, option_map, nat_lt, slice_index}
use Rattle.std.proofs.Common.{slice_index_or, get_or-take, get_or-drop, refl, sym, ap, subst, ◌∙◌, arith, ⊎_elim, append_assoc, length-drop}
use Rattle.std.proofs.Common.{length-take}
use Rattle.std.proofs.lemmas.List.{nil_from_length}
use Rattle.std.proofs.lemmas.List.Folds.{list_any-append}
use Rattle.std.proofs.lemmas.Bool.{cases_lt, lt-ltb, le-ltb, or_left, or_right, eq-eqb, cond-true, cond-false}
use Rattle.std.proofs.lemmas.List.Elements.{All-nil, All-cons, All-append, All-head, All-tail}
use Rattle.risc_word.specs.declared.Instr.{Instr}
use Rattle.fifo_model.specs.declared.Queue.{Queue}
use Rattle.machine_model.specs.Turns.{Store}
use Rattle.field_law.specs.Fields.{Token, Row}
use Rattle.field_law.specs.Sections.{Ask, GoOn, asked, asks, UsesTo, laid_from, laid, planned, is_stored}
use Rattle.field_law.specs.CutLines.{LinePart, CutLine, HasFirst, bytes_of, IsCovered, go_on, line_asks, line_stores, lines_asks}
use Rattle.field_law.specs.CutLines.{lines_rows, lines_stores, address_in, EachByte}

-- ---- asks one after another

pub asks-append : (q : Queue) (xs ys : List Instr) → asks q (xs ++ ys) ≡ asks q xs ++ asks q ys
asks-append q [] ys = refl
asks-append q (x ∷ xs) ys = ap (λ (rest : List Ask). asked q x ∷ rest) (asks-append q xs ys)

-- ---- lines are used up, to any end

module _ (Ends : List ℕ → List Token → Type 0) where
  goes_on : (line_parts : List LinePart) (rest : List Ask) (line : List ℕ) (tokens : List Token) → bytes_of line_parts ≡ length line →
      UsesTo Ends rest [] tokens →
      UsesTo Ends (map go_on line_parts ++ rest) line tokens
  goes_on [] rest line tokens whole uses =
      subst (λ (line : List ℕ). UsesTo Ends rest line tokens) (sym (nil_from_length line (sym whole))) uses
  goes_on (first ∷ line_parts) rest line tokens whole uses =
      (omega arith, goes_on line_parts rest (drop first.count line) tokens (omega (arith, length-drop first.count line)) uses)

  line_used : (line_parts : List LinePart) (bytes : List ℕ) (rest : List Ask) (tokens : List Token) → 0 < length bytes →
      HasFirst line_parts → bytes_of line_parts ≡ length bytes →
      UsesTo Ends rest [] tokens → UsesTo Ends (line_asks line_parts ++ rest) [] (Row bytes ∷ tokens)
  line_used [] bytes rest tokens some first whole uses = absurd (omega arith)
  line_used (top ∷ line_parts) bytes rest tokens some first whole uses =
      (refl, first, omega arith, goes_on line_parts rest (drop top.count bytes) tokens (omega (arith, length-drop top.count bytes)) uses)

  pub lines_used : (lines : List CutLine) (rest : List Ask) (tokens : List Token) → All IsCovered lines → UsesTo Ends rest [] tokens →
      UsesTo Ends (lines_asks lines ++ rest) [] (lines_rows lines ++ tokens)
  lines_used [] rest tokens covered uses = uses
  lines_used (line ∷ lines) rest tokens covered uses =
      let c = All-head IsCovered line lines covered in
      subst (λ (asks : List Ask). UsesTo Ends asks [] (Row line.bytes ∷ (lines_rows lines ++ tokens)))
      (sym (append_assoc (line_asks line.line_parts) (lines_asks lines) rest))
      (line_used line.line_parts line.bytes (lines_asks lines ++ rest) (lines_rows lines ++ tokens) c.some c.first c.whole
      (lines_used lines rest tokens (All-tail IsCovered line lines covered) uses))

  -- instructions that ask nothing of a queue
  pub idle_used : (count : ℕ) (rest : List Ask) (line : List ℕ) (tokens : List Token) → UsesTo Ends rest line tokens →
      UsesTo Ends (replicate count (GoOn 0 None) ++ rest) line tokens
  idle_used zero rest line tokens uses = uses
  idle_used (suc count) rest line tokens uses = (omega arith, idle_used count rest line tokens uses)

-- ---- what they store

goes_on_stores : (line_parts : List LinePart) (rest : List Ask) (line : List ℕ) (tokens : List Token) → bytes_of line_parts ≡ length line →
    planned (map go_on line_parts ++ rest) line tokens ≡ line_stores line_parts line ++ planned rest [] tokens
goes_on_stores [] rest line tokens whole = ap (λ (line : List ℕ). planned rest line tokens) (nil_from_length line (sym whole))
goes_on_stores (first ∷ line_parts) rest line tokens whole =
    ap (λ (stores : List Store). laid first.address (take first.count line) ++ stores)
    (goes_on_stores line_parts rest (drop first.count line) tokens (omega (arith, length-drop first.count line)))
    ∙ sym
    (append_assoc (laid first.address (take first.count line)) (line_stores line_parts (drop first.count line)) (planned rest [] tokens))

line_planned : (line_parts : List LinePart) (bytes : List ℕ) (rest : List Ask) (tokens : List Token) → 0 < length bytes →
    bytes_of line_parts ≡ length bytes →
    planned (line_asks line_parts ++ rest) [] (Row bytes ∷ tokens) ≡ line_stores line_parts bytes ++ planned rest [] tokens
line_planned [] bytes rest tokens some whole = absurd (omega arith)
line_planned (top ∷ line_parts) bytes rest tokens some whole =
    ap (λ (stores : List Store). laid top.address (take top.count bytes) ++ stores)
    (goes_on_stores line_parts rest (drop top.count bytes) tokens (omega (arith, length-drop top.count bytes)))
    ∙ sym (append_assoc (laid top.address (take top.count bytes)) (line_stores line_parts (drop top.count bytes)) (planned rest [] tokens))

pub lines_planned : (lines : List CutLine) (rest : List Ask) (tokens : List Token) → All IsCovered lines →
    planned (lines_asks lines ++ rest) [] (lines_rows lines ++ tokens) ≡ lines_stores lines ++ planned rest [] tokens
lines_planned [] rest tokens covered = refl
lines_planned (line ∷ lines) rest tokens covered =
    let c = All-head IsCovered line lines covered in
    ap (λ (asks : List Ask). planned asks [] (Row line.bytes ∷ (lines_rows lines ++ tokens)))
    (append_assoc (line_asks line.line_parts) (lines_asks lines) rest)
    ∙ line_planned line.line_parts line.bytes (lines_asks lines ++ rest) (lines_rows lines ++ tokens) c.some c.whole
    ∙ ap (λ (stores : List Store). line_stores line.line_parts line.bytes ++ stores)
    (lines_planned lines rest tokens (All-tail IsCovered line lines covered))
    ∙ sym (append_assoc (line_stores line.line_parts line.bytes) (lines_stores lines) (planned rest [] tokens))

-- instructions that ask nothing of a queue store nothing
pub idle_planned : (count : ℕ) (rest : List Ask) (line : List ℕ) (tokens : List Token) →
    planned (replicate count (GoOn 0 None) ++ rest) line tokens ≡ planned rest line tokens
idle_planned zero rest line tokens = refl
idle_planned (suc count) rest line tokens = idle_planned count rest line tokens

-- ---- where the bytes of a line go

pub laid_each : (P : Store → Type 0) (address : ℕ) (bytes : List ℕ) →
    ((x : ℕ) → x < length bytes → P (record { address = address + x; byte = slice_index bytes x })) →
    All P (laid_from address bytes)
laid_each P address [] h = All-nil P
laid_each P address (byte ∷ bytes) h =
    let here : address + 0 ≡ address = omega arith in
    All-cons P (record { address = address; byte = byte }) (laid_from (address + 1) bytes)
    (subst (λ (at : ℕ). P (record { address = at; byte = byte })) here (h 0 (omega arith)))
    (laid_each P (address + 1) bytes
    (λ x lt. let next : address + suc x ≡ address + 1 + x = omega arith in
    subst (λ (at : ℕ). P (record { address = at; byte = slice_index bytes x })) next (h (suc x) (omega arith))))

laid_at : (address : ℕ) (bytes : List ℕ) (x : ℕ) → x < length bytes → is_stored (address + x) (laid_from address bytes) ≡ true
laid_at address [] x lt = absurd (omega arith)
laid_at address (byte ∷ bytes) zero lt =
    or_left (address == address + 0) (is_stored (address + 0) (laid_from (address + 1) bytes)) (eq-eqb address (address + 0) (omega arith))
laid_at address (byte ∷ bytes) (suc x) lt =
    let next : address + suc x ≡ address + 1 + x = omega arith in
    or_right (address == address + suc x) (is_stored (address + suc x) (laid_from (address + 1) bytes))
    (ap (λ (at : ℕ). is_stored at (laid_from (address + 1) bytes)) next ∙ laid_at (address + 1) bytes x (omega arith))

-- an address in a part, and behind it
pub address_here : (first : LinePart) (rest : List LinePart) (x : ℕ) → x < first.count →
    address_in (first ∷ rest) x ≡ option_map (λ at. at + x) first.address
address_here first rest x lt =
    cond-true (nat_lt x first.count) (option_map (λ at. at + x) first.address) (address_in rest (x - first.count)) (lt-ltb x first.count lt)

pub address_behind : (first : LinePart) (rest : List LinePart) (x : ℕ) → first.count ≤ x →
    address_in (first ∷ rest) x ≡ address_in rest (x - first.count)
address_behind first rest x le =
    cond-false (nat_lt x first.count) (option_map (λ at. at + x) first.address) (address_in rest (x - first.count))
    (le-ltb x first.count le)

-- what holds of each byte of a line at its address holds of its stores
line_each : (P : Store → Type 0) (line_parts : List LinePart) (bytes : List ℕ) → bytes_of line_parts ≡ length bytes →
    ((x address : ℕ) → x < length bytes → address_in line_parts x ≡ Some address →
    P (record { address = address; byte = slice_index bytes x })) →
    All P (line_stores line_parts bytes)
line_each P [] bytes whole h = All-nil P
line_each P (first ∷ rest) bytes whole h =
    All-append P (laid first.address (take first.count bytes)) (line_stores rest (drop first.count bytes)) (here first.address refl)
    (line_each P rest (drop first.count bytes) (omega (arith, length-drop first.count bytes)) behind)
  where
    here : (to : Option ℕ) → first.address ≡ to → All P (laid to (take first.count bytes))
    here None e = All-nil P
    here (Some at) e =
        laid_each P at (take first.count bytes)
        (λ x lt.
        let within : x < first.count = omega (arith, length-take first.count bytes) in
        let there : address_in (first ∷ rest) x ≡ Some (at + x) =
        address_here first rest x within ∙ ap (λ (to : Option ℕ). option_map (λ at. at + x) to) e in
        subst (λ (byte : ℕ). P (record { address = at + x; byte = byte })) (sym (get_or-take first.count bytes x 0 within))
        (h x (at + x) (omega arith) there))

    behind : (x address : ℕ) → x < length (drop first.count bytes) → address_in rest x ≡ Some address →
        P (record { address = address; byte = slice_index (drop first.count bytes) x })
    behind x address lt e =
        let same : first.count + x - first.count ≡ x = omega arith in
        let there : address_in (first ∷ rest) (first.count + x) ≡ Some address =
        address_behind first rest (first.count + x) (omega arith) ∙ ap (address_in rest) same ∙ e in
        subst (λ (byte : ℕ). P (record { address = address; byte = byte })) (sym (get_or-drop first.count bytes x 0))
        (h (first.count + x) address (omega (arith, length-drop first.count bytes)) there)

some_at : (to : Option ℕ) (x address : ℕ) → option_map (λ at. at + x) to ≡ Some address → (at : ℕ) × (to ≡ Some at) × (at + x ≡ address)
some_at None x address h = cc
some_at (Some at) x address h = (at, refl, cc)

pub stored_first : (address : ℕ) (xs ys : List Store) → is_stored address xs ≡ true → is_stored address (xs ++ ys) ≡ true
stored_first address xs ys h =
    list_any-append (λ store. store.address == address) xs ys ∙ or_left (is_stored address xs) (is_stored address ys) h

pub stored_second : (address : ℕ) (xs ys : List Store) → is_stored address ys ≡ true → is_stored address (xs ++ ys) ≡ true
stored_second address xs ys h =
    list_any-append (λ store. store.address == address) xs ys ∙ or_right (is_stored address xs) (is_stored address ys) h

-- and each such address is stored to
line_stored : (line_parts : List LinePart) (bytes : List ℕ) (x address : ℕ) → bytes_of line_parts ≡ length bytes → x < length bytes →
    address_in line_parts x ≡ Some address →
    is_stored address (line_stores line_parts bytes) ≡ true
line_stored [] bytes x address whole lt e = cc
line_stored (first ∷ rest) bytes x address whole lt e =
    ⊎_elim here
    (λ past.
    stored_second address (laid first.address (take first.count bytes)) (line_stores rest (drop first.count bytes))
    (line_stored rest (drop first.count bytes) (x - first.count) address (omega (arith, length-drop first.count bytes))
    (omega (arith, length-drop first.count bytes))
    (sym (address_behind first rest x past) ∙ e)))
    (cases_lt x first.count)
  where
    here : x < first.count → is_stored address (line_stores (first ∷ rest) bytes) ≡ true
    here within =
        let found = some_at first.address x address (sym (address_here first rest x within) ∙ e) in
        let stored : is_stored (found.0 + x) (laid (Some found.0) (take first.count bytes)) ≡ true =
        laid_at found.0 (take first.count bytes) x (omega (arith, length-take first.count bytes)) in
        stored_first address (laid first.address (take first.count bytes)) (line_stores rest (drop first.count bytes))
        (ap (λ (to : Option ℕ). is_stored address (laid to (take first.count bytes))) found.1
        ∙ ap (λ (at : ℕ). is_stored at (laid (Some found.0) (take first.count bytes))) (sym found.2) ∙ stored)

-- ---- the same of lines one after another

pub lines_each : (P : Store → Type 0) (lines : List CutLine) → All IsCovered lines → All (EachByte P) lines → All P (lines_stores lines)
lines_each P [] covered h = All-nil P
lines_each P (line ∷ lines) covered h =
    All-append P (line_stores line.line_parts line.bytes) (lines_stores lines)
    (line_each P line.line_parts line.bytes (All-head IsCovered line lines covered).whole (All-head (EachByte P) line lines h))
    (lines_each P lines (All-tail IsCovered line lines covered) (All-tail (EachByte P) line lines h))

pub lines_stored : (lines : List CutLine) (line : CutLine) (number x address : ℕ) → All IsCovered lines → number < length lines →
    slice_index_or lines number line ≡ line →
    x < length line.bytes → address_in line.line_parts x ≡ Some address → is_stored address (lines_stores lines) ≡ true
lines_stored [] line number x address covered lt same inside e = absurd (omega arith)
lines_stored (first ∷ lines) line zero x address covered lt same inside e =
    let whole : bytes_of line.line_parts ≡ length line.bytes =
    subst (λ (line : CutLine). bytes_of line.line_parts ≡ length line.bytes) same (All-head IsCovered first lines covered).whole in
    stored_first address (line_stores first.line_parts first.bytes) (lines_stores lines)
    (ap (λ (line : CutLine). is_stored address (line_stores line.line_parts line.bytes)) same
    ∙ line_stored line.line_parts line.bytes x address whole inside e)
lines_stored (first ∷ lines) line (suc number) x address covered lt same inside e =
    stored_second address (line_stores first.line_parts first.bytes) (lines_stores lines)
    (lines_stored lines line number x address (All-tail IsCovered first lines covered) (omega arith) same inside e)
