-- What the instructions of a ring ask of the queues, and what they store.
use Rattle.std.proofs.Common.{All, Bool, List, None, [], arith, drop, false, length, length-drop, length-take, map, refl, suc, sym, take}
use Rattle.std.proofs.Common.{take-append-drop, true, zero, ℕ, ◌%◌, ◌*◌, ◌++◌, ◌+◌, ◌<◌, ◌==◌, ◌∙◌, ◌∷◌, ◌≡◌, ap, subst}
use Rattle.std.proofs.lemmas.List.Elements.{All-drop, All-take}
use Rattle.std.proofs.Math.Nat.{mod-lt}
use Rattle.std.proofs.lemmas.List.{nil_from_length, map-append}
use Rattle.std.specs.List.{range_with_len}
use Rattle.field_law.specs.Sections.{Ask, GoOn, IsUsedUp, asked, asks, planned, UsesUp}
use Rattle.picture_law.proofs.Lines.{Carries, CarriesAll, all_ask, all_covered, all_rows, cut_lines, strips_instrs, carries_all}
use Rattle.risc_word.specs.declared.Ctl.{Ctl}
use Rattle.field_law.specs.CutLines.{CutLine, lines_asks, lines_rows, lines_stores}
use Rattle.picture_model.proofs.Each.{Each, each_append, each_only}
use Rattle.risc_word.specs.declared.Instr.{Instr}
use Rattle.ring_model.specs.Rings.{IsRing, Ring, block_instrs, last_with, line_instrs, line_strip, lines_instrs, mark, memory_of}
use Rattle.ring_model.specs.Rings.{with_control}
use Rattle.ring_model.proofs.Writes.{IsWrite, block_writes}
use Rattle.risc_word.specs.declared.Instr.TheVariants.{Jump, Skip, Skip123, Sync, Write, Write123, Write1S23, WriteC}
use Rattle.fifo_model.specs.declared.Queue.TheVariants.{One, Three, Two}
use Rattle.fifo_model.specs.declared.Queue.{Queue}
use Rattle.field_law.specs.Fields.{Row, Token}
use Rattle.machine_model.specs.Turns.{Store}
use Rattle.picture_model.specs.Plans.{Strip}
use Rattle.field_law.proofs.CutLines.{asks-append, lines_planned, lines_used}
use Rattle.ring_model.proofs.Lines.{block_lines, line-IsStrip}
use Rattle.ring_law.proofs.Rounds.{executed, lead, lead_by, round_before}

-- an instruction of a ring: a WRITE or a JUMP
abbrev pub IsQuiet : Instr → Type 0
IsQuiet (Write ctl line_ends off count address) = Unit {0}
IsQuiet (Jump ctl target) = Unit {0}
IsQuiet _ = ⊥

abbrev pub IsOther : Queue → Type 0
IsOther One = ⊥
IsOther Two = Unit {0}
IsOther Three = Unit {0}

-- other queues are asked nothing
other_asked : (q : Queue) (instr : Instr) → IsOther q → IsQuiet instr → asked q instr ≡ GoOn 0 None
other_asked One instr other quiet = absurd other
other_asked Two (Write ctl line_ends off count address) other quiet = refl
other_asked Two (Jump ctl target) other quiet = refl
other_asked Two (Skip ctl line_ends count) other quiet = absurd quiet
other_asked Two (WriteC ctl line_ends off count) other quiet = absurd quiet
other_asked Two (Sync ctl resync code) other quiet = absurd quiet
other_asked Two (Write123 ctl line_ends off counts addrs) other quiet = absurd quiet
other_asked Two (Skip123 ctl line_ends counts) other quiet = absurd quiet
other_asked Two (Write1S23 ctl line_ends off counts addr) other quiet = absurd quiet
other_asked Three (Write ctl line_ends off count address) other quiet = refl
other_asked Three (Jump ctl target) other quiet = refl
other_asked Three (Skip ctl line_ends count) other quiet = absurd quiet
other_asked Three (WriteC ctl line_ends off count) other quiet = absurd quiet
other_asked Three (Sync ctl resync code) other quiet = absurd quiet
other_asked Three (Write123 ctl line_ends off counts addrs) other quiet = absurd quiet
other_asked Three (Skip123 ctl line_ends counts) other quiet = absurd quiet
other_asked Three (Write1S23 ctl line_ends off counts addr) other quiet = absurd quiet

pub other_uses : (q : Queue) (instrs : List Instr) → IsOther q → Each IsQuiet instrs →
    UsesUp (asks q instrs) [] [] × (planned (asks q instrs) [] [] ≡ [])
other_uses q [] other quiet = ((refl, refl), refl)
other_uses q (instr ∷ rest) other quiet =
    let later = other_uses q rest other quiet.1 in
    subst (λ (first : Ask). UsesUp (first ∷ asks q rest) [] [] × (planned (first ∷ asks q rest) [] [] ≡ []))
    (sym (other_asked q instr other quiet.0)) ((omega arith, later.0), later.1)

write_quiet : (instr : Instr) → IsWrite instr → IsQuiet instr
write_quiet (Write ctl line_ends off count address) is_write = tt
write_quiet (Skip ctl line_ends count) is_write = absurd is_write
write_quiet (WriteC ctl line_ends off count) is_write = absurd is_write
write_quiet (Jump ctl target) is_write = absurd is_write
write_quiet (Sync ctl resync code) is_write = absurd is_write
write_quiet (Write123 ctl line_ends off counts addrs) is_write = absurd is_write
write_quiet (Skip123 ctl line_ends counts) is_write = absurd is_write
write_quiet (Write1S23 ctl line_ends off counts addr) is_write = absurd is_write

lead_quiet : (r : Ring) (again : Bool) → Each IsQuiet (lead_by r again)
lead_quiet r true = (tt, tt)
lead_quiet r false = tt

pub executed_quiet : (r : Ring) (number count : ℕ) → Each IsQuiet (executed r number count)
executed_quiet r number zero = tt
executed_quiet r number (suc count) =
    each_append IsQuiet (lead r number) (block_instrs r (number % r.blocks) ++ executed r (suc number) count)
    (lead_quiet r (round_before r number == r.blocks))
    (each_append IsQuiet (block_instrs r (number % r.blocks)) (executed r (suc number) count)
    (each_only IsWrite IsQuiet (block_instrs r (number % r.blocks)) write_quiet (block_writes r (number % r.blocks)))
    (executed_quiet r (suc number) count))

-- ---- the first queue

-- control bits ask nothing
marked_asks : (ctl : Ctl) (instr : Instr) → asked One (with_control ctl instr) ≡ asked One instr
marked_asks ctl (Write old line_ends off count address) = refl
marked_asks ctl (Skip old line_ends count) = refl
marked_asks ctl (WriteC old line_ends off count) = refl
marked_asks ctl (Jump old target) = refl
marked_asks ctl (Sync old resync code) = refl
marked_asks ctl (Write123 old line_ends off counts addrs) = refl
marked_asks ctl (Skip123 old line_ends counts) = refl
marked_asks ctl (Write1S23 old line_ends off counts addr) = refl

last_asks : (ctl : Ctl) (instrs : List Instr) → asks One (last_with ctl instrs) ≡ asks One instrs
last_asks ctl [] = refl
last_asks ctl (instr ∷ []) = ap (λ (first : Ask). first ∷ []) (marked_asks ctl instr)
last_asks ctl (instr ∷ next ∷ rest) = ap (λ (more : List Ask). asked One instr ∷ more) (last_asks ctl (next ∷ rest))

-- the lines of a block, cut, and their bytes
abbrev pub strip_of : Ring → ℕ → ℕ → Strip
strip_of r block j = line_strip r (block * r.lines + j)

abbrev pub block_lines_cut : Ring → ℕ → List (List ℕ) → List CutLine
block_lines_cut r block lines = cut_lines (memory_of r) One (strip_of r block) 0 lines

-- lines as long as the ring's
abbrev pub AreLong : Ring → List (List ℕ) → Type 0
AreLong r lines = All (λ line. length line ≡ r.line_bytes) lines

-- what a block end stores, and what so many of them store
abbrev pub block_stores : Ring → ℕ → List (List ℕ) → List Store
block_stores r number lines = lines_stores (block_lines_cut r (number % r.blocks) lines)

abbrev pub ring_stores : Ring → ℕ → ℕ → List (List ℕ) → List Store
ring_stores r number zero lines = []
ring_stores r number (suc count) lines = block_stores r number (take r.lines lines) ++ ring_stores r (suc number) count (drop r.lines lines)

strips_lines : (r : Ring) (first from count : ℕ) →
    lines_instrs r (first + from) count ≡ strips_instrs (memory_of r) (map (λ j. line_strip r (first + j)) (range_with_len from count))
strips_lines r first from zero = refl
strips_lines r first from (suc count) =
    let next : first + from + 1 ≡ first + (from + 1) = omega arith in
    ap (λ (rest : List Instr). line_instrs r (first + from) ++ rest)
    (ap (λ (n : ℕ). lines_instrs r n count) next ∙ strips_lines r first (from + 1) count)

module _ (r : Ring) (is : IsRing r) where
  line_carries : (block : ℕ) → block < r.blocks → (j : ℕ) (bytes : List ℕ) → j < r.lines → length bytes ≡ r.line_bytes →
      Carries (memory_of r) One (strip_of r block j) bytes
  line_carries block below j bytes within long =
      let some = is.line_bytes.0 in
      let inside = block_lines block r.lines r.blocks below in
      record {
        fit = line-IsStrip r (block * r.lines + j) is (omega arith);
        starts = tt;
        moved = refl;
        some = omega arith;
        long = omega arith;
        any = omega arith;
      }

  pub block_carries : (block : ℕ) → block < r.blocks → (lines : List (List ℕ)) → length lines ≡ r.lines → AreLong r lines →
      CarriesAll (memory_of r) One (strip_of r block) 0 lines
  block_carries block below lines many long =
      carries_all (memory_of r) One (strip_of r block) r.lines r.line_bytes 0 lines (line_carries block below) (omega arith) long

  block_asks : (block : ℕ) → block < r.blocks → (lines : List (List ℕ)) → length lines ≡ r.lines → AreLong r lines →
      asks One (block_instrs r block) ≡ lines_asks (block_lines_cut r block lines)
  block_asks block below lines many long =
      let from : block * r.lines ≡ block * r.lines + 0 = omega arith in
      last_asks (mark block) (lines_instrs r (block * r.lines) r.lines)
      ∙ ap (asks One)
      (ap (λ (first : ℕ). lines_instrs r first r.lines) from ∙ strips_lines r (block * r.lines) 0 r.lines
      ∙ ap (λ (count : ℕ). strips_instrs (memory_of r) (map (strip_of r block) (range_with_len 0 count))) (sym many))
      ∙ all_ask (memory_of r) One (strip_of r block) 0 lines (block_carries block below lines many long)

  -- what a JUMP before a block asks is nothing
  lead_uses : (again : Bool) (instrs : List Instr) (tokens : List Token) → UsesUp (asks One instrs) [] tokens →
      UsesUp (asks One (lead_by r again ++ instrs)) [] tokens
  lead_uses true instrs tokens uses = (omega arith, uses)
  lead_uses false instrs tokens uses = uses

  lead_planned : (again : Bool) (instrs : List Instr) (tokens : List Token) →
      planned (asks One (lead_by r again ++ instrs)) [] tokens ≡ planned (asks One instrs) [] tokens
  lead_planned true instrs tokens = refl
  lead_planned false instrs tokens = refl

  rows_split : (block : ℕ) (lines : List (List ℕ)) → map (λ line. Row line) lines
      ≡ lines_rows (block_lines_cut r block (take r.lines lines)) ++ map (λ line. Row line) (drop r.lines lines)
  rows_split block lines =
      ap (map (λ (line : List ℕ). Row line)) (sym (take-append-drop r.lines lines))
      ∙ map-append (λ (line : List ℕ). Row line) (take r.lines lines) (drop r.lines lines)
      ∙ ap (λ (rows : List Token). rows ++ map (λ (line : List ℕ). Row line) (drop r.lines lines))
      (sym (all_rows (memory_of r) One (strip_of r block) 0 (take r.lines lines)))

  -- the lines of as many blocks are used up, and stored in their order
  pub lines_use : (number count : ℕ) (lines : List (List ℕ)) → length lines ≡ count * r.lines → AreLong r lines →
      UsesUp (asks One (executed r number count)) [] (map (λ line. Row line) lines)
      × (planned (asks One (executed r number count)) [] (map (λ line. Row line) lines) ≡ ring_stores r number count lines)
  lines_use number zero lines many long =
      let none : lines ≡ [] = nil_from_length lines (omega arith) in
      subst (λ (lines : List (List ℕ)). UsesUp [] [] (map (λ line. Row line) lines) × (planned [] [] (map (λ line. Row line) lines) ≡ []))
      (sym none) ((refl, refl), refl)
  lines_use number (suc count) lines many long =
      let some = is.blocks.0 in
      let block = number % r.blocks in
      let below : block < r.blocks = mod-lt number (omega arith) in
      let first = take r.lines lines in
      let rest = drop r.lines lines in
      let first_many : length first ≡ r.lines = omega (arith, length-take r.lines lines) in
      let first_long : AreLong r first = All-take (λ line. length line ≡ r.line_bytes) r.lines lines long in
      let later =
      lines_use (suc number) count rest (omega (arith, length-drop r.lines lines))
      (All-drop (λ line. length line ≡ r.line_bytes) r.lines lines long) in
      let cut = block_lines_cut r block first in
      let covered = all_covered (memory_of r) One (strip_of r block) 0 first (block_carries block below first first_many first_long) in
      let body : asks One (block_instrs r block ++ executed r (suc number) count)
      ≡ lines_asks cut ++ asks One (executed r (suc number) count) =
      asks-append One (block_instrs r block) (executed r (suc number) count)
      ∙ ap (λ (first : List Ask). first ++ asks One (executed r (suc number) count)) (block_asks block below first first_many first_long) in
      let rows = rows_split block lines in (
        lead_uses (round_before r number == r.blocks) (block_instrs r block ++ executed r (suc number) count) (map (λ line. Row line) lines)
            (subst (λ (asking : List Ask). UsesUp asking [] (map (λ line. Row line) lines)) (sym body)
            (subst (UsesUp (lines_asks cut ++ asks One (executed r (suc number) count)) []) (sym rows)
            (lines_used IsUsedUp cut (asks One (executed r (suc number) count)) (map (λ line. Row line) rest) covered later.0))),
        lead_planned (round_before r number == r.blocks) (block_instrs r block ++ executed r (suc number) count)
            (map (λ line. Row line) lines)
            ∙ ap (λ (asking : List Ask). planned asking [] (map (λ line. Row line) lines)) body
            ∙ ap (planned (lines_asks cut ++ asks One (executed r (suc number) count)) []) rows
            ∙ lines_planned cut (asks One (executed r (suc number) count)) (map (λ line. Row line) rest) covered
            ∙ ap (λ (stores : List Store). lines_stores cut ++ stores) later.1,
      )
