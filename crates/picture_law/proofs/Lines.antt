-- Strips one after another, as a queue sees them: what their lines ask and what they store.
use Rattle.std.proofs.Common.{◌≡◌, ℕ, zero, suc, ◌+◌, ◌*◌, ◌<◌, ◌≤◌, true, List, [], ◌∷◌, ◌++◌, All, length, map, Some, slice_index_or}
use Rattle.std.proofs.Common.{refl, sym, ap, ◌∙◌, subst, arith}
use Rattle.std.specs.List.{flat_map, range_with_len}
use Rattle.std.proofs.lemmas.List.Elements.{All-nil, All-cons, All-head, All-tail}
use Rattle.risc_word.specs.declared.Instr.{Instr}
use Rattle.fifo_model.specs.declared.Queue.{Queue}
use Rattle.page_table.specs.Grants.{Chunk}
use Rattle.machine_model.specs.Turns.{Store}
use Rattle.picture_model.specs.Plans.{Strip, cuts_of, plan}
use Rattle.picture_model.specs.Programs.{instr_of}
use Rattle.picture_model.proofs.Safe.{cuts_follow}
use Rattle.picture_model.proofs.Strips.{IsStrip}
use Rattle.field_law.specs.Fields.{Token, Row}
use Rattle.field_law.specs.Sections.{Ask, asks, is_stored}
use Rattle.field_law.specs.CutLines.{CutLine, IsCovered, EachByte, line_asks, lines_asks, lines_rows, lines_stores, address_in}
use Rattle.field_law.proofs.CutLines.{asks-append, lines_each, lines_stored}
use Rattle.picture_law.specs.Pictures.{lines_of}
use Rattle.picture_law.proofs.Cuts.{Starts, moves, line_parts_of, track_on, cuts_ask, first_some, all_bytes}

-- the instructions of strips, with memory scattered over these chunks
abbrev pub strip_instrs : List Chunk → Strip → List Instr
strip_instrs memory strip = map (instr_of strip.planar) (plan memory strip)

abbrev pub strips_instrs : List Chunk → List Strip → List Instr
strips_instrs memory strips = flat_map (strip_instrs memory) strips

-- a strip as the line that a queue brings
abbrev pub cut_line : List Chunk → Queue → Strip → List ℕ → CutLine
cut_line memory q strip bytes =
    record { line_parts = line_parts_of memory (track_on q strip) (cuts_of memory strip strip.spans); bytes = bytes }

-- a queue brings the bytes of a line
pub record Carries (memory : List Chunk) (q : Queue) (strip : Strip) (bytes : List ℕ) : Type 0 where
  pub fit : IsStrip memory strip
  pub starts : Starts strip.planar strip.kind strip.one.start strip.two.start strip.three.start
  pub moved : moves strip.planar q ≡ true
  pub some : 0 < (track_on q strip).size
  pub long : strip.grains * (track_on q strip).size ≡ length bytes
  pub any : 0 < length bytes

module _ (memory : List Chunk) (q : Queue) (strip : Strip) (bytes : List ℕ) (carries : Carries memory q strip bytes) where
  line_ask : asks q (strip_instrs memory strip) ≡ line_asks (cut_line memory q strip bytes).line_parts
  line_ask =
      cuts_ask memory strip q carries.starts carries.moved strip.grains (cuts_of memory strip strip.spans) carries.some
      (cuts_follow memory strip carries.fit)

  line_covered : IsCovered (cut_line memory q strip bytes)
  line_covered =
      let follow = cuts_follow memory strip carries.fit in
      record {
        some = carries.any;
        first = first_some memory (track_on q strip) strip.grains (cuts_of memory strip strip.spans) carries.some follow;
        whole = all_bytes memory (track_on q strip) strip.grains (cuts_of memory strip strip.spans) follow ∙ carries.long;
      }

module _ (memory : List Chunk) (q : Queue) (strips : ℕ → Strip) where
  abbrev pub cut_lines : ℕ → List (List ℕ) → List CutLine
  cut_lines from [] = []
  cut_lines from (bytes ∷ lines) = cut_line memory q (strips from) bytes ∷ cut_lines (from + 1) lines

  abbrev pub CarriesAll : ℕ → List (List ℕ) → Type 0
  CarriesAll from [] = Unit {0}
  CarriesAll from (bytes ∷ lines) = Carries memory q (strips from) bytes × CarriesAll (from + 1) lines

  abbrev pub strips_from : ℕ → ℕ → List Strip
  strips_from from count = map strips (range_with_len from count)

  pub carries_all : (end long from : ℕ) (lines : List (List ℕ)) →
      ((k : ℕ) (bytes : List ℕ) → k < end → length bytes ≡ long → Carries memory q (strips k) bytes) →
      from + length lines ≤ end → All (λ line. length line ≡ long) lines → CarriesAll from lines
  carries_all end long from [] each within all = tt
  carries_all end long from (bytes ∷ lines) each within all = (
    each from bytes (omega arith) (All-head (λ line. length line ≡ long) bytes lines all),
    carries_all end long (from + 1) lines each (omega arith) (All-tail (λ line. length line ≡ long) bytes lines all),
  )

  pub all_ask : (from : ℕ) (lines : List (List ℕ)) → CarriesAll from lines →
      asks q (strips_instrs memory (strips_from from (length lines))) ≡ lines_asks (cut_lines from lines)
  all_ask from [] carries = refl
  all_ask from (bytes ∷ lines) carries =
      let later = strips_from (from + 1) (length lines) in
      asks-append q (strip_instrs memory (strips from)) (strips_instrs memory later)
      ∙ ap (λ (first : List Ask). first ++ asks q (strips_instrs memory later)) (line_ask memory q (strips from) bytes carries.0)
      ∙ ap (λ (rest : List Ask). line_asks (cut_line memory q (strips from) bytes).line_parts ++ rest) (all_ask (from + 1) lines carries.1)

  pub all_rows : (from : ℕ) (lines : List (List ℕ)) → lines_rows (cut_lines from lines) ≡ lines_of lines
  all_rows from [] = refl
  all_rows from (bytes ∷ lines) = ap (λ (rest : List Token). Row bytes ∷ rest) (all_rows (from + 1) lines)

  pub all_covered : (from : ℕ) (lines : List (List ℕ)) → CarriesAll from lines → All IsCovered (cut_lines from lines)
  all_covered from [] carries = All-nil IsCovered
  all_covered from (bytes ∷ lines) carries =
      All-cons IsCovered (cut_line memory q (strips from) bytes) (cut_lines (from + 1) lines)
      (line_covered memory q (strips from) bytes carries.0) (all_covered (from + 1) lines carries.1)

  lines_long : (from : ℕ) (lines : List (List ℕ)) → length (cut_lines from lines) ≡ length lines
  lines_long from [] = refl
  lines_long from (bytes ∷ lines) = let rest = lines_long (from + 1) lines in omega arith

  line_at : (from : ℕ) (lines : List (List ℕ)) (k : ℕ) (other : CutLine) → k < length lines →
      slice_index_or (cut_lines from lines) k other ≡ cut_line memory q (strips (from + k)) (slice_index_or lines k [])
  line_at from [] k other within = absurd (omega arith)
  line_at from (bytes ∷ lines) zero other within =
      let here : from ≡ from + 0 = omega arith in ap (λ (n : ℕ). cut_line memory q (strips n) bytes) here
  line_at from (bytes ∷ lines) (suc k) other within =
      let there : from + 1 + k ≡ from + suc k = omega arith in
      line_at (from + 1) lines k other (omega arith) ∙ ap (λ (n : ℕ). cut_line memory q (strips n) (slice_index_or lines k [])) there

  line_here : (lines : List (List ℕ)) (k : ℕ) (other : CutLine) → k < length lines →
      slice_index_or (cut_lines 0 lines) k other ≡ cut_line memory q (strips k) (slice_index_or lines k [])
  line_here lines k other within =
      let here : 0 + k ≡ k = omega arith in
      line_at 0 lines k other within ∙ ap (λ (n : ℕ). cut_line memory q (strips n) (slice_index_or lines k [])) here

  -- what holds of each byte of each line at its address holds of all that the lines store
  pub all_stores : (P : Store → Type 0) (lines : List (List ℕ)) → CarriesAll 0 lines →
      ((k : ℕ) → k < length lines → EachByte P (cut_line memory q (strips k) (slice_index_or lines k []))) →
      All P (lines_stores (cut_lines 0 lines))
  all_stores P lines carries each =
      lines_each P (cut_lines 0 lines) (all_covered 0 lines carries)
      (λ k other within.
      let inside : k < length lines = omega (arith, lines_long 0 lines) in
      subst (λ (line : CutLine). EachByte P line) (sym (line_here lines k other inside)) (each k inside))

  -- each byte of a line that goes somewhere is stored there
  pub stored_there : (lines : List (List ℕ)) (k x address : ℕ) → CarriesAll 0 lines → k < length lines →
      x < length (slice_index_or lines k []) →
      address_in (cut_line memory q (strips k) (slice_index_or lines k [])).line_parts x ≡ Some address →
      is_stored address (lines_stores (cut_lines 0 lines)) ≡ true
  stored_there lines k x address carries within inside goes =
      let line = cut_line memory q (strips k) (slice_index_or lines k []) in
      lines_stored (cut_lines 0 lines) line k x address (all_covered 0 lines carries) (omega (arith, lines_long 0 lines))
      (line_here lines k line within) inside goes
