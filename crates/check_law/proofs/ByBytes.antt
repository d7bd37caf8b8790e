-- Asks byte by byte are used up by what uses up the asks, and store the same.
use Rattle.std.proofs.Common.{◌≡◌, ℕ, zero, suc, ◌+◌, ◌≤◌, List, [], ◌∷◌, ◌++◌, length, take, drop, Option, Some, None, option_map, refl}
use Rattle.std.proofs.Common.{sym, ap, subst, ◌∙◌, arith}
use Rattle.machine_model.specs.Turns.{Store}
use Rattle.field_law.specs.Fields.{Token, Mark, Row}
use Rattle.field_law.specs.Sections.{Ask, Await, Begin, GoOn, UsesTo, laid, planned}
use Rattle.check_model.specs.ByBytes.{going_on, bytes_asked, by_bytes}

abbrev next : Option ℕ → Option ℕ
next address = option_map (λ at. at + 1) address

-- ---- stores

no_stores : (address : Option ℕ) (stores : List Store) → stores ≡ laid address [] ++ stores
no_stores None stores = refl
no_stores (Some at) stores = refl

one_first : (address : Option ℕ) (count : ℕ) (line : List ℕ) (stores : List Store) →
    laid address (take 1 line) ++ (laid (next address) (take count (drop 1 line)) ++ stores)
    ≡ laid address (take (suc count) line) ++ stores
one_first None count line stores = refl
one_first (Some at) zero [] stores = refl
one_first (Some at) (suc count) [] stores = refl
one_first (Some at) count (byte ∷ bytes) stores = refl

one_dropped : (count : ℕ) (line : List ℕ) → drop count (drop 1 line) ≡ drop (suc count) line
one_dropped zero [] = refl
one_dropped (suc count) [] = refl
one_dropped count (byte ∷ bytes) = refl

planned_going_on : (count : ℕ) (address : Option ℕ) (asks : List Ask) (line : List ℕ) (tokens : List Token) →
    planned (going_on count address ++ asks) line tokens ≡ laid address (take count line) ++ planned asks (drop count line) tokens
planned_going_on zero address asks line tokens = no_stores address (planned asks line tokens)
planned_going_on (suc count) address asks line tokens =
    ap (λ (stores : List Store). laid address (take 1 line) ++ stores) (planned_going_on count (next address) asks (drop 1 line) tokens)
    ∙ one_first address count line (planned asks (drop count (drop 1 line)) tokens)
    ∙ ap (λ (line' : List ℕ). laid address (take (suc count) line) ++ planned asks line' tokens) (one_dropped count line)

planned_bytes : (ask : Ask) (more asks : List Ask) →
    ((line : List ℕ) (tokens : List Token) → planned more line tokens ≡ planned asks line tokens) →
    (line : List ℕ) (tokens : List Token) → planned (bytes_asked ask ++ more) line tokens ≡ planned (ask ∷ asks) line tokens
planned_bytes (Await code) more asks same line [] = refl
planned_bytes (Await code) more asks same line (token ∷ tokens) = same [] tokens
planned_bytes (GoOn count address) more asks same line tokens =
    planned_going_on count address more line tokens
    ∙ ap (λ (stores : List Store). laid address (take count line) ++ stores) (same (drop count line) tokens)
planned_bytes (Begin zero address) more asks same line [] = refl
planned_bytes (Begin zero address) more asks same line (Mark code ∷ tokens) = refl
planned_bytes (Begin zero address) more asks same line (Row bytes ∷ tokens) =
    ap (λ (stores : List Store). laid address [] ++ stores) (same bytes tokens)
planned_bytes (Begin (suc count) address) more asks same line [] = refl
planned_bytes (Begin (suc count) address) more asks same line (Mark code ∷ tokens) = refl
planned_bytes (Begin (suc count) address) more asks same line (Row bytes ∷ tokens) =
    planned_going_on (suc count) address more bytes tokens
    ∙ ap (λ (stores : List Store). laid address (take (suc count) bytes) ++ stores) (same (drop (suc count) bytes) tokens)

pub planned_by_bytes : (asks : List Ask) (line : List ℕ) (tokens : List Token) →
    planned (by_bytes asks) line tokens ≡ planned asks line tokens
planned_by_bytes [] line tokens = refl
planned_by_bytes (ask ∷ asks) line tokens = planned_bytes ask (by_bytes asks) asks (planned_by_bytes asks) line tokens

-- ---- what is used up

module _ (Ends : List ℕ → List Token → Type 0) where
  uses_going_on : (count : ℕ) (address : Option ℕ) (asks : List Ask) (line : List ℕ) (tokens : List Token) →
      (count ≤ length line) × UsesTo Ends asks (drop count line) tokens → UsesTo Ends (going_on count address ++ asks) line tokens
  uses_going_on zero address asks line tokens h = h.1
  uses_going_on (suc count) address asks [] tokens h = let le = h.0 in absurd (omega arith)
  uses_going_on (suc count) address asks (byte ∷ bytes) tokens h =
      let le = h.0 in (omega arith, uses_going_on count (next address) asks bytes tokens (omega arith, h.1))

  going_on_uses : (count : ℕ) (address : Option ℕ) (asks : List Ask) (line : List ℕ) (tokens : List Token) →
      UsesTo Ends (going_on count address ++ asks) line tokens → (count ≤ length line) × UsesTo Ends asks (drop count line) tokens
  going_on_uses zero address asks line tokens h = (omega arith, h)
  going_on_uses (suc count) address asks [] tokens h = let le = h.0 in absurd (omega arith)
  going_on_uses (suc count) address asks (byte ∷ bytes) tokens h =
      let rest = going_on_uses count (next address) asks bytes tokens h.1 in let le = rest.0 in (omega arith, rest.1)

  uses_bytes : (ask : Ask) (more asks : List Ask) →
      ((line : List ℕ) (tokens : List Token) → UsesTo Ends asks line tokens → UsesTo Ends more line tokens) →
      (line : List ℕ) (tokens : List Token) → UsesTo Ends (ask ∷ asks) line tokens → UsesTo Ends (bytes_asked ask ++ more) line tokens
  uses_bytes (Await code) more asks on line [] h = absurd h
  uses_bytes (Await code) more asks on line (Row bytes ∷ tokens) h = absurd h
  uses_bytes (Await code) more asks on line (Mark seen ∷ tokens) h = (h.0, h.1, on [] tokens h.2)
  uses_bytes (GoOn count address) more asks on line tokens h =
      uses_going_on count address more line tokens (h.0, on (drop count line) tokens h.1)
  uses_bytes (Begin zero address) more asks on line [] h = absurd h
  uses_bytes (Begin zero address) more asks on line (Mark code ∷ tokens) h = absurd h
  uses_bytes (Begin zero address) more asks on line (Row bytes ∷ tokens) h = let some = h.1 in absurd (omega arith)
  uses_bytes (Begin (suc count) address) more asks on line [] h = absurd h
  uses_bytes (Begin (suc count) address) more asks on line (Mark code ∷ tokens) h = absurd h
  uses_bytes (Begin (suc count) address) more asks on line (Row bytes ∷ tokens) h =
      let all = uses_going_on (suc count) address more bytes tokens (h.2, on (drop (suc count) bytes) tokens h.3) in
      (h.0, omega arith, all.0, all.1)

  bytes_uses : (ask : Ask) (more asks : List Ask) →
      ((line : List ℕ) (tokens : List Token) → UsesTo Ends more line tokens → UsesTo Ends asks line tokens) →
      (line : List ℕ) (tokens : List Token) → UsesTo Ends (bytes_asked ask ++ more) line tokens → UsesTo Ends (ask ∷ asks) line tokens
  bytes_uses (Await code) more asks on line [] h = absurd h
  bytes_uses (Await code) more asks on line (Row bytes ∷ tokens) h = absurd h
  bytes_uses (Await code) more asks on line (Mark seen ∷ tokens) h = (h.0, h.1, on [] tokens h.2)
  bytes_uses (GoOn count address) more asks on line tokens h =
      let all = going_on_uses count address more line tokens h in (all.0, on (drop count line) tokens all.1)
  bytes_uses (Begin zero address) more asks on line [] h = absurd h
  bytes_uses (Begin zero address) more asks on line (Mark code ∷ tokens) h = absurd h
  bytes_uses (Begin zero address) more asks on line (Row bytes ∷ tokens) h = let some = h.1 in absurd (omega arith)
  bytes_uses (Begin (suc count) address) more asks on line [] h = absurd h
  bytes_uses (Begin (suc count) address) more asks on line (Mark code ∷ tokens) h = absurd h
  bytes_uses (Begin (suc count) address) more asks on line (Row bytes ∷ tokens) h =
      let all = going_on_uses (suc count) address more bytes tokens (h.2, h.3) in
      (h.0, omega arith, all.0, on (drop (suc count) bytes) tokens all.1)

  pub uses_by_bytes : (asks : List Ask) (line : List ℕ) (tokens : List Token) → UsesTo Ends asks line tokens →
      UsesTo Ends (by_bytes asks) line tokens
  uses_by_bytes [] line tokens h = h
  uses_by_bytes (ask ∷ asks) line tokens h = uses_bytes ask (by_bytes asks) asks (uses_by_bytes asks) line tokens h

  pub by_bytes_uses : (asks : List Ask) (line : List ℕ) (tokens : List Token) → UsesTo Ends (by_bytes asks) line tokens →
      UsesTo Ends asks line tokens
  by_bytes_uses [] line tokens h = h
  by_bytes_uses (ask ∷ asks) line tokens h = bytes_uses ask (by_bytes asks) asks (by_bytes_uses asks) line tokens h

  pub same_uses : (asks other : List Ask) (line : List ℕ) (tokens : List Token) → by_bytes asks ≡ by_bytes other →
      UsesTo Ends other line tokens → UsesTo Ends asks line tokens
  same_uses asks other line tokens same h =
      by_bytes_uses asks line tokens
      (subst (λ (list : List Ask). UsesTo Ends list line tokens) (sym same) (uses_by_bytes other line tokens h))

pub same_planned : (asks other : List Ask) (line : List ℕ) (tokens : List Token) → by_bytes asks ≡ by_bytes other →
    planned asks line tokens ≡ planned other line tokens
same_planned asks other line tokens same =
    sym (planned_by_bytes asks line tokens) ∙ ap (λ (list : List Ask). planned list line tokens) same ∙ planned_by_bytes other line tokens
