-- What the first queue is brought, made up to as many lines as the block ends take: entries that never come finish the
-- unfinished line and bring further ones.
use Rattle.std.proofs.Common.{All, List, [], append_assoc, arith, drop, length, length-append, map, refl, replicate, suc, sym, take}
use Rattle.std.proofs.Common.{take-append-drop, zero, ℕ, ◌++◌, ◌+◌, ◌-◌, ◌<◌, ◌∙◌, ◌∷◌, ◌≡◌, subst, ap}
use Rattle.std.proofs.lemmas.List.Elements.{All-append, All-cons, All-nil}
use Rattle.std.proofs.lemmas.List.{length-replicate, map-append}
use Rattle.fifo_model.specs.declared.Entry.{Entry}
use Rattle.risc_word.specs.declared.Code.TheVariants.{Fm1}
use Rattle.field_law.specs.Fields.{IsLine, Mark, Row, Token, Brings}
use Rattle.field_law.proofs.Bringing.{brings-append}
use Rattle.ring_law.specs.RingRuns.{IsUnfinished}

-- entries that bring tokens are those of the first, then those of the others
pub record Parted (first later : List Token) (entries : List Entry) : Type 0 where
  pub front : List Entry
  pub back : List Entry
  pub split : entries ≡ front ++ back
  pub brings : Brings first front
  pub brings_later : Brings later back

pub brings_parted : (first later : List Token) (entries : List Entry) → Brings (first ++ later) entries → Parted first later entries
brings_parted [] later entries all = record { front = []; back = entries; split = refl; brings = refl; brings_later = all }
brings_parted (Mark code ∷ first) later entries all =
    let rest = brings_parted first later all.1 all.4 in
    record {
      front = all.0 ∷ rest.front;
      back = rest.back;
      split = all.2 ∙ ap (λ (more : List Entry). all.0 ∷ more) rest.split;
      brings = (all.0, rest.front, refl, all.3, rest.brings);
      brings_later = rest.brings_later;
    }
brings_parted (Row bytes ∷ first) later entries all =
    let rest = brings_parted first later all.1 all.4 in
    record {
      front = all.0 ++ rest.front;
      back = rest.back;
      split = all.2 ∙ ap (λ (more : List Entry). all.0 ++ more) rest.split ∙ sym (append_assoc all.0 rest.front rest.back);
      brings = (all.0, rest.front, refl, all.3, rest.brings);
      brings_later = rest.brings_later;
    }

-- a line so many times
abbrev pub copies : ℕ → List Entry → List Entry
copies zero entries = []
copies (suc count) entries = entries ++ copies count entries

copies_bring : (count : ℕ) (line : List ℕ) (entries : List Entry) → IsLine line entries →
    Brings (map Row (replicate count line)) (copies count entries)
copies_bring zero line entries is = refl
copies_bring (suc count) line entries is = (entries, copies count entries, refl, is, copies_bring count line entries is)

copies_long : (bytes count : ℕ) (line : List ℕ) → length line ≡ bytes → All (λ line. length line ≡ bytes) (replicate count line)
copies_long bytes zero line long = All-nil (λ line. length line ≡ bytes)
copies_long bytes (suc count) line long =
    All-cons (λ line. length line ≡ bytes) line (replicate count line) long (copies_long bytes count line long)

-- ---- lines that came whole

-- what the queue is brought is the lines wanted, then a rest
pub record Whole (wanted : ℕ) (lines : List (List ℕ)) (entries : List Entry) : Type 0 where
  pub front : List Entry
  pub back : List Entry
  pub split : entries ≡ front ++ back
  pub brings : Brings (Mark Fm1 ∷ map Row (take wanted lines)) front

pub whole_lines : (wanted : ℕ) (lines : List (List ℕ)) (entries : List Entry) → Brings (Mark Fm1 ∷ map Row lines) entries →
    Whole wanted lines entries
whole_lines wanted lines entries all =
    let rows : map Row lines ≡ map Row (take wanted lines) ++ map Row (drop wanted lines) =
    ap (map Row) (sym (take-append-drop wanted lines)) ∙ map-append Row (take wanted lines) (drop wanted lines) in
    let parted =
    brings_parted (Mark Fm1 ∷ map Row (take wanted lines)) (map Row (drop wanted lines)) entries
    (subst (λ (rows : List Token). Brings (Mark Fm1 ∷ rows) entries) rows all) in
    record { front = parted.front; back = parted.back; split = parted.split; brings = parted.brings }

-- ---- lines of which too few came

pub record Padded (wanted bytes : ℕ) (entries unfinished : List Entry) : Type 0 where
  pub lines : List (List ℕ)
  pub many : length lines ≡ wanted
  pub long : All (λ line. length line ≡ bytes) lines
  pub pad : List Entry
  pub some : 0 < length pad
  pub brings : Brings (Mark Fm1 ∷ map Row lines) (entries ++ (unfinished ++ pad))

pub pads : (wanted bytes : ℕ) (lines : List (List ℕ)) (entries unfinished : List Entry) → length lines < wanted →
    All (λ line. length line ≡ bytes) lines →
    Brings (Mark Fm1 ∷ map Row lines) entries → IsUnfinished bytes unfinished → Padded wanted bytes entries unfinished
pads wanted bytes lines entries unfinished few long brings last =
    let more = wanted - (length lines + 1) in
    let line = last.line in
    let whole = unfinished ++ last.missing in
    let missing_some = last.some in
    record {
      lines = lines ++ replicate (suc more) line;
      many = omega (arith, length-append lines (replicate (suc more) line), length-replicate (suc more) line);
      long = All-append (λ line. length line ≡ bytes) lines (replicate (suc more) line) long (copies_long bytes (suc more) line last.long);
      pad = last.missing ++ copies more whole;
      some = omega (arith, length-append last.missing (copies more whole));
      brings =
          subst (λ (rows : List Token). Brings (Mark Fm1 ∷ rows) (entries ++ (unfinished ++ (last.missing ++ copies more whole))))
          (sym (map-append Row lines (replicate (suc more) line)))
          (subst (λ (more_entries : List Entry). Brings ((Mark Fm1 ∷ map Row lines) ++ map Row (replicate (suc more) line))
          (entries ++ more_entries)) (append_assoc unfinished last.missing (copies more whole))
          (brings-append (Mark Fm1 ∷ map Row lines) (map Row (replicate (suc more) line)) entries (copies (suc more) whole) brings
          (copies_bring (suc more) line whole last.is)));
    }
