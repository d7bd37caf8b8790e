-- One queue: the turns that take no bytes of it.
use Rattle.std.proofs.Common.{◌≡◌, ℕ, zero, suc, ◌+◌, ◌<◌, Bool, true, false, List, [], ◌∷◌, ◌++◌, length, drop, Option, Some, None, refl}
use Rattle.std.proofs.Common.{sym, ap, subst, ◌∙◌, arith, ◌⊎◌, inl, inr, append_assoc}
use Rattle.std.proofs.lemmas.List.Folds.{list_any-append}
use Rattle.std.proofs.lemmas.Bool.{or_left}
use Rattle.risc_word.specs.declared.Code.{Code}
use Rattle.sync_status.specs.Statuses.{kind_of}
use Rattle.fifo_model.specs.declared.Entry.{Entry}
use Rattle.fifo_model.specs.Queues.{QueueState, first, front_code_of, front_code, removed, wakes, code_of_kind}
use Rattle.machine_model.specs.declared.Demand.{Demand}
use Rattle.machine_model.specs.Turns.{Store}
use Rattle.field_law.specs.Fields.{Token, Mark, Row, Brings}
use Rattle.field_law.specs.Sections.{Ask, Await, ask, ask_of, UsesTo, laid, planned}
use Rattle.field_law.proofs.Lines.{UnderWay, has_waking, part-waking}
use Rattle.field_law.proofs.AskedAndToCome.{Outlook, front as front_of, between}

module _ (Ends : List ℕ → List Token → Type 0) (Rests : List Entry → Type 0) where
  -- where the field begins
  pub outlook_at_start : (asks : List Ask) (field : List Token) (entries rest : List Entry) → Rests rest → UsesTo Ends asks [] field →
      Brings field entries →
      Outlook Ends Rests asks (planned asks [] field) (length entries) 0 (entries ++ rest)
  outlook_at_start asks field entries rest rests uses brings =
      record {
        line = [];
        tokens = field;
        half = [];
        entries = entries;
        rest = rest;
        rests = rests;
        order = refl;
        under_way = (refl, refl);
        brings = brings;
        uses = uses;
        stored = refl;
        counted = omega arith;
      }

  -- more entries may come after the field
  pub outlook_with : (asks : List Ask) (stores : List Store) (left taken : ℕ) (ahead more : List Entry) →
      ((rest : List Entry) → Rests rest → Rests (rest ++ more)) → Outlook Ends Rests asks stores left taken ahead →
      Outlook Ends Rests asks stores left taken (ahead ++ more)
  outlook_with asks stores left taken ahead more grows h =
      record {
        line = h.line;
        tokens = h.tokens;
        half = h.half;
        entries = h.entries;
        rest = h.rest ++ more;
        rests = grows h.rest h.rests;
        order =
            ap (λ (ahead : List Entry). ahead ++ more) h.order ∙ append_assoc h.half (h.entries ++ h.rest) more
            ∙ ap (λ (entries : List Entry). h.half ++ entries) (append_assoc h.entries h.rest more);
        under_way = h.under_way;
        brings = h.brings;
        uses = h.uses;
        stored = h.stored;
        counted = h.counted;
      }

  -- nothing is asked any more, so nothing is stored any more
  pub outlook_at_end : (stores : List Store) (left taken : ℕ) (ahead : List Entry) →
      Outlook Ends Rests [] stores left taken ahead → stores ≡ []
  outlook_at_end stores left taken ahead h = sym h.stored

  -- an ask of no bytes
  no_bytes : (sol : Bool) (count : ℕ) (address : Option ℕ) (asks : List Ask) (line : List ℕ) (tokens : List Token) → count ≡ 0 →
      UsesTo Ends (ask sol count address ∷ asks) line tokens →
      UsesTo Ends asks line tokens × (planned (ask sol count address ∷ asks) line tokens ≡ planned asks line tokens)
  no_bytes false zero address asks line tokens e h = (h.1, no_stores address)
    where
      no_stores : (address : Option ℕ) → laid address [] ++ planned asks line tokens ≡ planned asks line tokens
      no_stores None = refl
      no_stores (Some at) = refl
  no_bytes false (suc count) address asks line tokens e h = absurd (omega arith)
  no_bytes true count address asks line [] e h = absurd h
  no_bytes true count address asks line (Mark code ∷ tokens) e h = absurd h
  no_bytes true count address asks line (Row bytes ∷ tokens) e h = let some = h.1 in absurd (omega arith)

  pub outlook_done : (d : Demand) (asks : List Ask) (stores : List Store) (left taken : ℕ) (ahead : List Entry) → d.rest ≡ 0 →
      Outlook Ends Rests (ask_of d ∷ asks) stores left taken ahead →
      Outlook Ends Rests asks stores left taken ahead
  outlook_done d asks stores left taken ahead e h =
      let less = no_bytes d.needs_sol d.rest d.address asks h.line h.tokens e h.uses in
      record {
        line = h.line;
        tokens = h.tokens;
        half = h.half;
        entries = h.entries;
        rest = h.rest;
        rests = h.rests;
        order = h.order;
        under_way = h.under_way;
        brings = h.brings;
        uses = less.0;
        stored = sym less.1 ∙ h.stored;
        counted = h.counted;
      }

  -- a control code is awaited: it is the next entry, there or still to come
  pub record Awaits (code : Code) (asks : List Ask) (stores : List Store) (left : ℕ) (ahead : List Entry) : Type 0 where
    pub entry : Entry
    pub entries : List Entry
    pub rest : List Entry
    pub rests : Rests rest
    pub tokens : List Token
    pub order : ahead ≡ entry ∷ (entries ++ rest)
    pub is_code : code_of_kind (kind_of entry.status) ≡ Some code
    pub brings : Brings tokens entries
    pub uses : UsesTo Ends asks [] tokens
    pub stored : planned asks [] tokens ≡ stores
    pub counted : suc (length entries) ≡ left

  awaits : (code : Code) (asks : List Ask) (stores : List Store) (left taken : ℕ) (ahead : List Entry) (line : List ℕ) (tokens : List Token)
      (half entries rest : List Entry) → Rests rest →
      ahead ≡ half ++ (entries ++ rest) → UnderWay taken line half → Brings tokens entries → UsesTo Ends (Await code ∷ asks) line tokens →
      planned (Await code ∷ asks) line tokens ≡ stores → length half + length entries ≡ left → Awaits code asks stores left ahead
  awaits code asks stores left taken ahead line [] half entries rest rests order way brings uses stored counted = absurd uses
  awaits code asks stores left taken ahead line (Row bytes ∷ tokens) half entries rest rests order way brings uses stored counted =
      absurd uses
  awaits code asks stores left taken ahead line (Mark seen ∷ tokens) half entries rest rests order way brings uses stored counted =
      let none = between taken line half way uses.0 in
      let no_half = ap (λ (entries : List Entry). length entries) none.1 in
      let parts = ap (λ (entries : List Entry). length entries) brings.2 in
      record {
        entry = brings.0;
        entries = brings.1;
        rest = rest;
        rests = rests;
        tokens = tokens;
        order =
            order ∙ ap (λ (half : List Entry). half ++ (entries ++ rest)) none.1 ∙ ap (λ (entries : List Entry). entries ++ rest) brings.2;
        is_code = brings.3 ∙ ap Some uses.1;
        brings = brings.4;
        uses = uses.2;
        stored = stored;
        counted = omega arith;
      }

  pub outlook_awaits : (code : Code) (asks : List Ask) (stores : List Store) (left taken : ℕ) (ahead : List Entry) →
      Outlook Ends Rests (Await code ∷ asks) stores left taken ahead →
      Awaits code asks stores left ahead
  outlook_awaits code asks stores left taken ahead h =
      awaits code asks stores left taken ahead h.line h.tokens h.half h.entries h.rest h.rests h.order h.under_way h.brings h.uses
      h.stored h.counted

  -- what the queue shows: nothing yet, or the code, and then it goes on without it
  pub record Shows (code : Code) (asks : List Ask) (stores : List Store) (left : ℕ) (held : QueueState) (later : List Entry) : Type 0 where
    pub is_code : front_code held ≡ Some code
    pub entries_left : ℕ
    pub less : suc entries_left ≡ left
    pub next : Outlook Ends Rests asks stores entries_left 0 ((removed held).entries ++ later)

  shows_in : (code : Code) (asks : List Ask) (stores : List Store) (left : ℕ) (held : QueueState) (later now : List Entry) →
      held.entries ≡ now →
      Awaits code asks stores left (now ++ later) → (now ≡ []) ⊎ Shows code asks stores left held later
  shows_in code asks stores left held later [] e h = inl refl
  shows_in code asks stores left held later (entry ∷ es) e h =
      let order = h.order in
      let same : entry ≡ h.entry = cc in
      let behind : es ++ later ≡ h.entries ++ h.rest = cc in
      let without : drop 1 held.entries ≡ es = ap (λ (entries : List Entry). drop 1 entries) e in
      inr (record {
        is_code =
            ap (λ (entries : List Entry). front_code_of (first entries)) e
            ∙ ap (λ (entry : Entry). code_of_kind (kind_of entry.status)) same ∙ h.is_code;
        entries_left = length h.entries;
        less = h.counted;
        next =
            subst (λ (ahead : List Entry). Outlook Ends Rests asks stores (length h.entries) 0 ahead)
            (sym behind ∙ ap (λ (es : List Entry). es ++ later) (sym without))
            (subst (λ (stores : List Store). Outlook Ends Rests asks stores (length h.entries) 0 (h.entries ++ h.rest)) h.stored
            (outlook_at_start asks h.tokens h.entries h.rest h.rests h.uses h.brings));
      })

  pub outlook_shows : (code : Code) (asks : List Ask) (stores : List Store) (left taken : ℕ) (held : QueueState) (later : List Entry) →
      Outlook Ends Rests (Await code ∷ asks) stores left taken (held.entries ++ later) →
      (held.entries ≡ []) ⊎ Shows code asks stores left held later
  outlook_shows code asks stores left taken held later h =
      shows_in code asks stores left held later held.entries refl (outlook_awaits code asks stores left taken (held.entries ++ later) h)

  -- ---- once all of the field is there

  -- the queue is ready where bytes are asked of it
  pub outlook_wakes : (d : Demand) (asks : List Ask) (stores : List Store) (left taken : ℕ) (ahead : List Entry) → 0 < d.rest →
      Outlook Ends Rests (ask_of d ∷ asks) stores left taken ahead →
      has_waking ahead ≡ true
  outlook_wakes d asks stores left taken ahead some h =
      let f = front_of Ends Rests d.needs_sol d.rest d.address asks stores left taken ahead some h in
      ap has_waking f.order ∙ list_any-append (λ entry. wakes (kind_of entry.status)) (f.entry ∷ f.half) (f.entries ++ f.rest)
      ∙ or_left (has_waking (f.entry ∷ f.half)) (has_waking (f.entries ++ f.rest)) (part-waking taken f.line f.entry f.half f.part)
