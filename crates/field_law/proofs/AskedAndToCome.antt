-- One queue: what is still asked of it and what is still to come, and what an application does to that.
use Rattle.std.proofs.Common.{◌≡◌, ℕ, suc, ◌+◌, ◌-◌, ◌/◌, ◌%◌, ◌^◌, ◌<◌, ◌≤◌, Bool, true, false, not, ◌&&◌, if◌then◌else◌, ◌==◌, List, []}
use Rattle.std.proofs.Common.{◌∷◌, ◌++◌, length, take, drop, Option, Some, None}
use Rattle.std.proofs.Common.{option_map, refl, sym, ap, subst, ◌∙◌, arith, ⊎_elim, min, drop-drop, take-add, length-take, length-drop}
use Rattle.std.proofs.Common.{length-append, append_assoc, eqb-true, eq-eqb, ne_eqb}
use Rattle.std.proofs.Math.Nat.{zero-div}
use Rattle.std.proofs.lemmas.Bool.{cases_eq, cond-true, cond-false}
use Rattle.sync_status.specs.declared.StatusKind.{StatusKind}
use Rattle.sync_status.specs.declared.StatusKind.TheVariants.{Start}
use Rattle.sync_status.specs.declared.Verdict.TheVariants.{Take}
use Rattle.sync_status.specs.Statuses.{kind_of, valid_bytes, valid_lanes, is_end, verdict_on}
use Rattle.fifo_model.specs.declared.Entry.{Entry}
use Rattle.fifo_model.specs.Queues.{QueueState, removed, taken_more, taken_from, bytes_taken}
use Rattle.machine_model.specs.declared.Demand.{Demand}
use Rattle.machine_model.specs.Turns.{Store, stores_from, stores_at, is_off, demand_less, is_cut_short}
use Rattle.field_law.specs.Fields.{Token, Mark, Row, Brings}
use Rattle.field_law.specs.Sections.{Ask, Begin, GoOn, ask, ask_of, UsesTo, laid_from, laid, planned}
use Rattle.field_law.proofs.Lines.{Part, UnderWay, Started, line-Started, moving-verdict, part-take, part-whole, part-some, part-length}
use Rattle.field_law.proofs.Lines.{part-last}

-- ---- stores

-- where no held is off every byte is stored
none_off : (held : ℕ) → is_off 0 held ≡ false
none_off held = let none : 0 / 2 ^ held ≡ 0 = zero-div (2 ^ held) in ap (λ (n : ℕ). n % 2 == 1) none

pub stores_from-laid : (held address : ℕ) (bytes : List ℕ) → stores_from 0 held address bytes ≡ laid_from address bytes
stores_from-laid held address [] = refl
stores_from-laid held address (byte ∷ bytes) =
    ap (λ (off : Bool). if off then stores_from 0 (held + 1) (address + 1) bytes else record {
      address = address;
      byte = byte;
    } ∷ stores_from 0 (held + 1) (address + 1) bytes) (none_off held)
    ∙ ap (λ (stores : List Store). record { address = address; byte = byte } ∷ stores) (stores_from-laid (held + 1) (address + 1) bytes)

pub stores_at-laid : (address : Option ℕ) (held : ℕ) (bytes : List ℕ) → stores_at address 0 held bytes ≡ laid address bytes
stores_at-laid None held bytes = refl
stores_at-laid (Some address) held bytes = stores_from-laid held address bytes

laid_from-append : (address : ℕ) (xs ys : List ℕ) →
    laid_from address (xs ++ ys) ≡ laid_from address xs ++ laid_from (address + length xs) ys
laid_from-append address [] ys = let same : address ≡ address + 0 = omega arith in ap (λ (at : ℕ). laid_from at ys) same
laid_from-append address (x ∷ xs) ys =
    let same : address + 1 + length xs ≡ address + suc (length xs) = omega arith in
    ap (λ (stores : List Store). record { address = address; byte = x } ∷ stores)
    (laid_from-append (address + 1) xs ys ∙ ap (λ (at : ℕ). laid_from (address + 1) xs ++ laid_from at ys) same)

pub laid-append : (address : Option ℕ) (xs ys : List ℕ) →
    laid address (xs ++ ys) ≡ laid address xs ++ laid (option_map (λ at. at + length xs) address) ys
laid-append None xs ys = refl
laid-append (Some address) xs ys = laid_from-append address xs ys

-- the first n of some bytes are stored first
pub laid-first : (address : Option ℕ) (n count : ℕ) (line : List ℕ) → n ≤ count → count ≤ length line →
    laid address (take count line) ≡ laid address (take n line) ++ laid (option_map (λ at. at + n) address) (take (count - n) (drop n line))
laid-first address n count line le enough =
    let parts : count ≡ n + (count - n) = omega arith in
    let long : length (take n line) ≡ n = omega (arith, length-take n line) in
    ap (λ (count : ℕ). laid address (take count line)) parts ∙ ap (laid address) (take-add n (count - n) line)
    ∙ laid-append address (take n line) (take (count - n) (drop n line))
    ∙ ap (λ (long : ℕ). laid address (take n line) ++ laid (option_map (λ at. at + long) address) (take (count - n) (drop n line))) long

-- ---- an entry and its line

start_verdict : (kind : StatusKind) (count : ℕ) → kind ≡ Start → verdict_on kind true 0 count ≡ Take (min count (valid_lanes kind - 0))
start_verdict kind count e =
    subst (λ (kind : StatusKind). verdict_on kind true 0 count ≡ Take (min count (valid_lanes kind - 0))) (sym e) refl

-- between lines nothing is under way
pub between : (taken : ℕ) (line : List ℕ) (half : List Entry) → UnderWay taken line half → line ≡ [] → (taken ≡ 0) × (half ≡ [])
between taken line [] way none = (way.0, refl)
between taken line (entry ∷ half) way none =
    let empty = ap (λ (bytes : List ℕ). length bytes) none in
    let some = way.1.some in
    absurd (omega (arith, part-length taken line entry half way.1))

never_short : (last ends : Bool) (rest count : ℕ) → ((last ≡ true) → (ends ≡ true) → rest ≡ count) →
    (last && ends && not (rest == count)) ≡ false
never_short false ends rest count h = refl
never_short true false rest count h = refl
never_short true true rest count h = ap not (eq-eqb rest count (h refl refl))

queue_without : (count : ℕ) (held : QueueState) (entry : Entry) (es : List Entry) → held.entries ≡ entry ∷ es →
    held.taken + count ≡ valid_bytes entry.status →
    taken_from count held ≡ removed held
queue_without count held entry es e whole =
    ap (taken_more count held) e ∙ cond-true (held.taken + count == valid_bytes entry.status) (removed held)
    (record held { taken = held.taken + count }) (eq-eqb _ _ whole)

queue_with : (count : ℕ) (held : QueueState) (entry : Entry) (es : List Entry) → held.entries ≡ entry ∷ es →
    (held.taken + count ≡ valid_bytes entry.status → ⊥) →
    taken_from count held ≡ record held { taken = held.taken + count }
queue_with count held entry es e part =
    ap (taken_more count held) e ∙ cond-false (held.taken + count == valid_bytes entry.status) (removed held)
    (record held { taken = held.taken + count }) (ne_eqb _ _ part)

-- the stores made, and those that are left
stores_after : (n count taken : ℕ) (address : Option ℕ) (asks : List Ask) (line : List ℕ) (tokens : List Token) (entry : Entry)
    (half : List Entry) →
    n ≤ count → count ≤ length line → Part taken line entry half → taken + n ≤ valid_bytes entry.status →
    laid address (take count line) ++ planned asks (drop count line) tokens
    ≡ stores_at address 0 taken (bytes_taken entry taken n)
    ++ planned (GoOn (count - n) (option_map (λ at. at + n) address) ∷ asks) (drop n line) tokens
stores_after n count taken address asks line tokens entry half le enough part some =
    let all : n + (count - n) ≡ count = omega arith in
    let same : drop (count - n) (drop n line) ≡ drop count line = drop-drop (count - n) n line ∙ ap (λ (k : ℕ). drop k line) all in
    let made : laid address (take n line) ≡ stores_at address 0 taken (bytes_taken entry taken n) =
    ap (laid address) (part-take taken n line entry half part some) ∙ sym (stores_at-laid address taken (bytes_taken entry taken n)) in
    ap (λ (stores : List Store). stores ++ planned asks (drop count line) tokens) (laid-first address n count line le enough)
    ∙ append_assoc (laid address (take n line)) (laid (option_map (λ at. at + n) address) (take (count - n) (drop n line)))
    (planned asks (drop count line) tokens)
    ∙ ap (λ (line' : List ℕ). laid address (take n line)
    ++ (laid (option_map (λ at. at + n) address) (take (count - n) (drop n line)) ++ planned asks line' tokens)) (sym same)
    ∙ ap
    (λ (stores : List Store). stores ++ planned (GoOn (count - n) (option_map (λ at. at + n) address) ∷ asks) (drop n line) tokens) made

-- ---- one queue, up to what is to be left at the end

-- any entries may come after the field
abbrev pub AnyRest : List Entry → Type 0
AnyRest rest = Unit {0}

module _ (Ends : List ℕ → List Token → Type 0) (Rests : List Entry → Type 0) where
  -- what is asked of a queue from now on, the stores still to be made for it, and how many entries of the field are left;
  -- of the entries that are there or still come, first the rest of the line under way, then the rest of the field, then
  -- such as may come after it
  pub record Outlook (asks : List Ask) (stores : List Store) (left taken : ℕ) (ahead : List Entry) : Type 0 where
    pub line : List ℕ
    pub tokens : List Token
    pub half : List Entry
    pub entries : List Entry
    pub rest : List Entry
    pub rests : Rests rest
    pub order : ahead ≡ half ++ (entries ++ rest)
    pub under_way : UnderWay taken line half
    pub brings : Brings tokens entries
    pub uses : UsesTo Ends asks line tokens
    pub stored : planned asks line tokens ≡ stores
    pub counted : length half + length entries ≡ left

  -- the front entry, where bytes are asked for
  pub record Front (sol : Bool) (count : ℕ) (address : Option ℕ) (asks : List Ask) (stores : List Store) (left taken : ℕ)
      (ahead : List Entry) : Type 0 where
    pub entry : Entry
    pub line : List ℕ
    pub tokens : List Token
    pub half : List Entry
    pub entries : List Entry
    pub rest : List Entry
    pub rests : Rests rest
    pub order : ahead ≡ entry ∷ (half ++ (entries ++ rest))
    pub part : Part taken line entry half
    pub verdict : verdict_on (kind_of entry.status) sol taken count ≡ Take (min count (valid_bytes entry.status - taken))
    pub brings : Brings tokens entries
    pub enough : count ≤ length line
    pub uses : UsesTo Ends asks (drop count line) tokens
    pub stored : laid address (take count line) ++ planned asks (drop count line) tokens ≡ stores
    pub counted : suc (length half + length entries) ≡ left

  -- a line under way goes on
  going_front : (count : ℕ) (address : Option ℕ) (asks : List Ask) (stores : List Store) (left taken : ℕ) (ahead : List Entry)
      (line : List ℕ) (tokens : List Token) (half entries rest : List Entry) → Rests rest → 0 < count → ahead ≡ half ++ (entries ++ rest) →
      UnderWay taken line half →
      Brings tokens entries → (count ≤ length line) × UsesTo Ends asks (drop count line) tokens →
      laid address (take count line) ++ planned asks (drop count line) tokens ≡ stores → length half + length entries ≡ left →
      Front false count address asks stores left taken ahead
  going_front count address asks stores left taken ahead line tokens [] entries rest rests some order way brings uses stored counted =
      let none = ap (λ (bytes : List ℕ). length bytes) way.1 in
      let enough = uses.0 in
      absurd (omega arith)
  going_front count address asks stores left taken ahead line tokens
      (entry ∷ half) entries rest rests some order way brings uses stored counted =
      record {
        entry = entry;
        line = line;
        tokens = tokens;
        half = half;
        entries = entries;
        rest = rest;
        rests = rests;
        order = order;
        part = way.1;
        verdict = moving-verdict (kind_of entry.status) taken count way.0;
        brings = brings;
        enough = uses.0;
        uses = uses.1;
        stored = stored;
        counted = omega arith;
      }

  -- a line begins
  begin_front : (count : ℕ) (address : Option ℕ) (asks : List Ask) (stores : List Store) (left taken : ℕ) (ahead : List Entry)
      (bytes : List ℕ) (tokens : List Token) (half entries line rest_entries rest : List Entry) → Rests rest →
      ahead ≡ half ++ (entries ++ rest) →
      (taken ≡ 0) × (half ≡ []) → entries ≡ line ++ rest_entries → Started bytes line → Brings tokens rest_entries →
      (count ≤ length bytes) → UsesTo Ends asks (drop count bytes) tokens →
      laid address (take count bytes) ++ planned asks (drop count bytes) tokens ≡ stores → length half + length entries ≡ left →
      Front true count address asks stores left taken ahead
  begin_front count address asks stores left taken ahead bytes tokens half entries line rest_entries rest rests order none split start
      brings enough uses stored counted =
      record {
        entry = start.entry;
        line = bytes;
        tokens = tokens;
        half = start.rest;
        entries = rest_entries;
        rest = rest;
        rests = rests;
        order =
            order ∙ ap (λ (half : List Entry). half ++ (entries ++ rest)) none.1 ∙ ap (λ (entries : List Entry). entries ++ rest) split
            ∙ ap (λ (line : List Entry). line ++ rest_entries ++ rest) start.same
            ∙ ap (λ (rest : List Entry). start.entry ∷ rest) (append_assoc start.rest rest_entries rest);
        part = subst (λ (taken : ℕ). Part taken bytes start.entry start.rest) (sym none.0) start.part;
        verdict = subst (λ (taken : ℕ).
            verdict_on (kind_of start.entry.status) true taken count ≡ Take (min count (valid_bytes start.entry.status - taken)))
            (sym none.0) (start_verdict (kind_of start.entry.status) count start.kind);
        brings = brings;
        enough = enough;
        uses = uses;
        stored = stored;
        counted =
            let no_half = ap (λ (entries : List Entry). length entries) none.1 in
            let parts = ap (λ (entries : List Entry). length entries) split in
            let first = ap (λ (entries : List Entry). length entries) start.same in
            omega (arith, length-append line rest_entries);
      }

  -- the front where an ask comes that takes some bytes
  pub front : (sol : Bool) (count : ℕ) (address : Option ℕ) (asks : List Ask) (stores : List Store) (left taken : ℕ) (ahead : List Entry) →
      0 < count →
      Outlook (ask sol count address ∷ asks) stores left taken ahead → Front sol count address asks stores left taken ahead
  front false count address asks stores left taken ahead some h =
      going_front count address asks stores left taken ahead h.line h.tokens h.half h.entries h.rest h.rests some h.order h.under_way
      h.brings h.uses h.stored h.counted
  front true count address asks stores left taken ahead some h =
      begins h.tokens h.brings h.uses h.stored
    where
      begins : (tokens : List Token) → Brings tokens h.entries → UsesTo Ends (Begin count address ∷ asks) h.line tokens →
          planned (Begin count address ∷ asks) h.line tokens ≡ stores → Front true count address asks stores left taken ahead
      begins [] brings uses stored = absurd uses
      begins (Mark code ∷ tokens) brings uses stored = absurd uses
      begins (Row bytes ∷ tokens) brings uses stored =
          begin_front count address asks stores left taken ahead bytes tokens h.half h.entries brings.0 brings.1 h.rest h.rests h.order
          (between taken h.line h.half h.under_way uses.0) brings.2
          (line-Started bytes brings.0 brings.3) brings.4 uses.2 uses.3 stored h.counted

  -- ---- one application

  -- its front and its queue after it: bytes are taken in order, the line doesn't end too early, and either the entry goes
  -- or nothing more is asked
  pub record Takes (d : Demand) (asks : List Ask) (stores : List Store) (left : ℕ) (held : QueueState) (entry : Entry)
      (later : List Entry) : Type 0 where
    pub count : ℕ
    pub verdict : verdict_on (kind_of entry.status) d.needs_sol held.taken d.rest ≡ Take count
    pub whole : is_cut_short entry held.taken count d.rest ≡ false
    pub stores_left : List Store
    pub entries_left : ℕ
    pub made : stores ≡ stores_at d.address 0 held.taken (bytes_taken entry held.taken count) ++ stores_left
    pub next : Outlook (ask_of (demand_less count d) ∷ asks) stores_left entries_left (taken_from count held).taken
        ((taken_from count held).entries ++ later)
    pub less : entries_left + min (d.rest - count) 1 < left + min d.rest 1

  -- the outlook after so many bytes
  after_taking : (n count : ℕ) (address : Option ℕ) (asks : List Ask) (line : List ℕ) (tokens : List Token) (left taken : ℕ)
      (ahead half entries rest : List Entry) → Rests rest →
      n ≤ count → count ≤ length line → UsesTo Ends asks (drop count line) tokens → Brings tokens entries →
      ahead ≡ half ++ (entries ++ rest) →
      UnderWay taken (drop n line) half → length half + length entries ≡ left →
      Outlook (GoOn (count - n) address ∷ asks) (planned (GoOn (count - n) address ∷ asks) (drop n line) tokens) left taken ahead
  after_taking n count address asks line tokens left taken ahead half entries rest rests le enough uses brings order way counted =
      let all : n + (count - n) ≡ count = omega arith in
      let same : drop (count - n) (drop n line) ≡ drop count line = drop-drop (count - n) n line ∙ ap (λ (k : ℕ). drop k line) all in
      record {
        line = drop n line;
        tokens = tokens;
        half = half;
        entries = entries;
        rest = rest;
        rests = rests;
        order = order;
        under_way = way;
        brings = brings;
        uses = (omega (arith, length-drop n line), subst (λ (line : List ℕ). UsesTo Ends asks line tokens) (sym same) uses);
        stored = refl;
        counted = counted;
      }

  module _ (d : Demand) (asks : List Ask) (stores : List Store) (left : ℕ) (held : QueueState) (later : List Entry) (es : List Entry)
      (some : 0 < d.rest)
      (f : Front d.needs_sol d.rest d.address asks stores left held.taken (held.entries ++ later)) (first : held.entries ≡ f.entry ∷ es)
      (behind : es ++ later ≡ f.half ++ (f.entries ++ f.rest)) where
    taking : ℕ
    taking = min d.rest (valid_bytes f.entry.status - held.taken)

    not_short : is_cut_short f.entry held.taken taking d.rest ≡ false
    unfolding taking
    not_short =
        never_short (is_end (kind_of f.entry.status)) (held.taken + taking == valid_bytes f.entry.status) d.rest taking
        (λ last ends.
        let all = eqb-true _ _ ends in
        let enough = f.enough in
        let there = f.part.some in
        omega (arith, part-last held.taken f.line f.entry f.half f.part last))

    whole_taken : held.taken + taking ≡ valid_bytes f.entry.status → Takes d asks stores left held f.entry later
    unfolding taking
    whole_taken whole =
        let enough = f.enough in
        let counted = f.counted in
        let there = f.part.some in
        let after : taken_from taking held ≡ removed held = queue_without taking held f.entry es first whole in
        let next =
        after_taking taking d.rest (option_map (λ at. at + taking) d.address) asks f.line f.tokens (length f.half + length f.entries) 0
        (drop 1 held.entries ++ later) f.half f.entries f.rest f.rests
        (omega arith) enough f.uses f.brings (ap (λ (entries : List Entry). drop 1 entries ++ later) first ∙ behind)
        (part-whole held.taken taking f.line f.entry f.half f.part whole) refl in
        record {
          count = taking;
          verdict = f.verdict;
          whole = not_short;
          stores_left = planned (GoOn (d.rest - taking) (option_map (λ at. at + taking) d.address) ∷ asks) (drop taking f.line) f.tokens;
          entries_left = length f.half + length f.entries;
          made =
              sym f.stored ∙ stores_after taking d.rest held.taken d.address asks f.line f.tokens f.entry f.half (omega arith) enough f.part
              (omega arith);
          next =
              subst (λ (held' : QueueState). Outlook (ask_of (demand_less taking d) ∷ asks)
              (planned (GoOn (d.rest - taking) (option_map (λ at. at + taking) d.address) ∷ asks) (drop taking f.line) f.tokens)
              (length f.half + length f.entries) held'.taken (held'.entries ++ later)) (sym after) next;
          less = omega arith;
        }

    part_taken : (held.taken + taking ≡ valid_bytes f.entry.status → ⊥) → Takes d asks stores left held f.entry later
    unfolding taking
    part_taken part =
        let enough = f.enough in
        let counted = f.counted in
        let there = f.part.some in
        let after : taken_from taking held ≡ record held { taken = held.taken + taking } = queue_with taking held f.entry es first part in
        let next =
        after_taking taking d.rest (option_map (λ at. at + taking) d.address) asks f.line f.tokens left (held.taken + taking)
        (held.entries ++ later) (f.entry ∷ f.half) f.entries f.rest f.rests
        (omega arith) enough f.uses f.brings f.order (part-some held.taken taking f.line f.entry f.half f.part (omega arith) (omega arith))
        (omega arith) in
        record {
          count = taking;
          verdict = f.verdict;
          whole = not_short;
          stores_left = planned (GoOn (d.rest - taking) (option_map (λ at. at + taking) d.address) ∷ asks) (drop taking f.line) f.tokens;
          entries_left = left;
          made =
              sym f.stored ∙ stores_after taking d.rest held.taken d.address asks f.line f.tokens f.entry f.half (omega arith) enough f.part
              (omega arith);
          next =
              subst (λ (held' : QueueState). Outlook (ask_of (demand_less taking d) ∷ asks)
              (planned (GoOn (d.rest - taking) (option_map (λ at. at + taking) d.address) ∷ asks) (drop taking f.line) f.tokens)
              left held'.taken (held'.entries ++ later)) (sym after) next;
          less = omega arith;
        }

    taken_front : Takes d asks stores left held f.entry later
    taken_front = ⊎_elim whole_taken part_taken (cases_eq (held.taken + taking) (valid_bytes f.entry.status))

  pub application : (d : Demand) (asks : List Ask) (stores : List Store) (left : ℕ) (held : QueueState) (entry : Entry) (later : List Entry)
      (es : List Entry) →
      held.entries ≡ entry ∷ es → 0 < d.rest → Outlook (ask_of d ∷ asks) stores left held.taken (held.entries ++ later) →
      Takes d asks stores left held entry later
  application d asks stores left held entry later es e some h =
      let f : Front d.needs_sol d.rest d.address asks stores left held.taken (held.entries ++ later) =
      front d.needs_sol d.rest d.address asks stores left held.taken (held.entries ++ later) some h in
      let seen : entry ∷ (es ++ later) ≡ f.entry ∷ (f.half ++ (f.entries ++ f.rest)) =
      sym (ap (λ (entries : List Entry). entries ++ later) e) ∙ f.order in
      let same : f.entry ≡ entry = cc in
      let behind : es ++ later ≡ f.half ++ (f.entries ++ f.rest) = cc in
      let first : held.entries ≡ f.entry ∷ es = e ∙ ap (λ (entry : Entry). entry ∷ es) (sym same) in
      subst (λ (entry : Entry). Takes d asks stores left held entry later) same
      (taken_front d asks stores left held later es some f first behind)
