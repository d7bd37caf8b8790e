-- The bytes that the instructions of a row took are at the row's places.
use Rattle.std.proofs.Common.{◌≡◌, ℕ, ◌+◌, ◌-◌, ◌*◌, ◌<◌, ◌≤◌, ◌⊎◌, inl, inr, Bool, true, false, ◌||◌, ◌==◌, List, [], ◌∷◌, ◌++◌}
use Rattle.std.proofs.Common.{append_assoc, length, length-append, map, Option, Some, None}
use Rattle.std.proofs.Common.{option_map, refl, sym, ap, ap₂, ◌∙◌, subst, arith, eqb-true}
use Rattle.std.specs.Prelude.{slice_index}
use Rattle.std.specs.List.{list_all}
use Rattle.std.proofs.lemmas.Bool.{and_parts, cases_lt, cond-false, cond-true, ne_eqb, or_from}
use Rattle.risc_word.specs.declared.Ctl.{Ctl}
use Rattle.risc_word.specs.declared.Instr.{Instr}
use Rattle.risc_word.specs.Words.{encoded}
use Rattle.fifo_model.specs.declared.Queue.{Queue}
use Rattle.page_table.specs.Blocks.{byte_at}
use Rattle.pixel_layout.specs.declared.Parity.{Parity}
use Rattle.machine_model.specs.States.{State}
use Rattle.machine_model.proofs.BeforeTurns.{fetch-KnownAt}
use Rattle.capture_desc.specs.declared.desc.Desc.{Desc}
use Rattle.picture_model.specs.Described.{describes, memory_of}
use Rattle.picture_model.specs.Plans.{Cut, piece_of}
use Rattle.picture_model.specs.Programs.{instr_of}
use Rattle.picture_model.proofs.Each.{Each, each_only}
use Rattle.field_law.specs.CutLines.{LinePart, address_in, bytes_of}
use Rattle.field_law.specs.Sections.{HoldsFrom}
use Rattle.field_law.proofs.CutLines.{address_behind, address_here}
use Rattle.picture_law.proofs.Cuts.{cut_address, line_part_of, line_parts_of, moves, track_on}
use Rattle.damage_model.specs.Marks.{addresses_from, is_among}
use Rattle.damage_model.specs.Takings.{Taking}
use Rattle.damage_model.proofs.Held.{IsHeld}
use Rattle.damage_model.proofs.Pieces.{Kind, address_is, count_is, instr_on, strip_of, unmoved_none}
use Rattle.damage_model.proofs.PlacedTakes.{address_on, index_first, index_later}
use Rattle.damage_model.proofs.StoredTakes.{taken_bytes, taken_bytes-append}
use Rattle.damage_law.proofs.PlacedLines.{IsBegin, IsOne, line_of, on_line}
use Rattle.damage_law.proofs.PlacedTurns.{IsIn, KeepsBytes, Sorted, had_of}
use Rattle.damage_law.proofs.Sections.{Past, takes_in}

-- ---- takings at addresses that follow one another

among_one : (a x : ℕ) (b : Bool) → (x == a) ≡ b → is_among (a ∷ []) x ≡ b
among_one a x true is = ap (λ (c : Bool). c || false) is
among_one a x false is = ap (λ (c : Bool). c || false) is

not_among_above : (a x : ℕ) (rest : List ℕ) → x ≤ a → Each (λ b. a < b) rest → is_among rest x ≡ false
not_among_above a x [] low above = refl
not_among_above a x (b ∷ rest) low above =
    let more = above.0 in
    or_from (x == b) (is_among rest x) (ne_eqb x b (λ same. absurd (omega arith))) (not_among_above a x rest low above.1)

none_later : (a : ℕ) (ts : List Taking) → Each (λ t. a < t.at) ts → takes_in (a ∷ []) ts ≡ []
none_later a [] above = refl
none_later a (t ∷ ts) above =
    let more = above.0 in
    cond-false (is_among (a ∷ []) t.at) (t ∷ takes_in (a ∷ []) ts) (takes_in (a ∷ []) ts)
    (among_one a t.at false (ne_eqb t.at a (λ same. absurd (omega arith)))) ∙ none_later a ts above.1

pub split_takes : (a : ℕ) (rest : List ℕ) (ts : List Taking) → Sorted ts → Each (λ b. a < b) rest →
    takes_in (a ∷ rest) ts ≡ takes_in (a ∷ []) ts ++ takes_in rest ts
split_takes a rest [] sorted above = refl
split_takes a rest (t ∷ ts) sorted above = by_first (t.at == a) refl (split_takes a rest ts sorted.1 above)
  where
    by_rest : (b : Bool) → is_among rest t.at ≡ b → (t.at == a) ≡ false → takes_in (a ∷ rest) ts
        ≡ takes_in (a ∷ []) ts ++ takes_in rest ts → takes_in (a ∷ rest) (t ∷ ts) ≡ takes_in (a ∷ []) (t ∷ ts) ++ takes_in rest (t ∷ ts)
    by_rest false none different later =
        cond-false (is_among (a ∷ rest) t.at) (t ∷ takes_in (a ∷ rest) ts) (takes_in (a ∷ rest) ts)
        (or_from (t.at == a) (is_among rest t.at) different none) ∙ later
        ∙ ap₂ (λ (xs ys : List Taking). xs ++ ys)
        (sym (cond-false (is_among (a ∷ []) t.at) (t ∷ takes_in (a ∷ []) ts) (takes_in (a ∷ []) ts) (among_one a t.at false different)))
        (sym (cond-false (is_among rest t.at) (t ∷ takes_in rest ts) (takes_in rest ts) none))
    by_rest true some different later =
        let beyond : a < t.at = above_of (cases_lt a t.at) in
        let none : takes_in (a ∷ []) ts ≡ [] =
        none_later a ts (each_only (λ u. t.at ≤ u.at) (λ u. a < u.at) ts (λ u more. omega arith) sorted.0) in
        cond-true (is_among (a ∷ rest) t.at) (t ∷ takes_in (a ∷ rest) ts) (takes_in (a ∷ rest) ts)
        (ap₂ (λ (x y : Bool). x || y) different some)
        ∙ ap (λ (xs : List Taking). t ∷ xs) (later ∙ ap (λ (xs : List Taking). xs ++ takes_in rest ts) none)
        ∙ ap₂ (λ (xs ys : List Taking). xs ++ ys)
        (sym
        (cond-false (is_among (a ∷ []) t.at) (t ∷ takes_in (a ∷ []) ts) (takes_in (a ∷ []) ts) (among_one a t.at false different) ∙ none))
        (sym (cond-true (is_among rest t.at) (t ∷ takes_in rest ts) (takes_in rest ts) some))
      where
        above_of : (a < t.at) ⊎ (t.at ≤ a) → a < t.at
        above_of (inl more) = more
        above_of (inr low) = let no = not_among_above a t.at rest low above in let never : true ≡ false = sym some ∙ no in cc

    by_first : (b : Bool) → (t.at == a) ≡ b → takes_in (a ∷ rest) ts ≡ takes_in (a ∷ []) ts ++ takes_in rest ts →
        takes_in (a ∷ rest) (t ∷ ts) ≡ takes_in (a ∷ []) (t ∷ ts) ++ takes_in rest (t ∷ ts)
    by_first false different later = by_rest (is_among rest t.at) refl different later
    by_first true same later =
        let at : t.at ≡ a = eqb-true t.at a same in
        let none = not_among_above a t.at rest (omega arith) above in
        cond-true (is_among (a ∷ rest) t.at) (t ∷ takes_in (a ∷ rest) ts) (takes_in (a ∷ rest) ts)
        (ap (λ (x : Bool). x || is_among rest t.at) same)
        ∙ ap (λ (xs : List Taking). t ∷ xs) later
        ∙ ap₂ (λ (xs ys : List Taking). xs ++ ys)
        (sym (cond-true (is_among (a ∷ []) t.at) (t ∷ takes_in (a ∷ []) ts) (takes_in (a ∷ []) ts) (among_one a t.at true same)))
        (sym (cond-false (is_among rest t.at) (t ∷ takes_in rest ts) (takes_in rest ts) none))

-- ---- a line of which each instruction retired

module _ (d : Desc) (held : IsHeld d) (field : Parity) (described : describes d.fields field ≡ true) (m : State) (past : Past)
    (k : KeepsBytes d held field described m past)
    (kind : Kind) (q : Queue) where
  abbrev instrs_of_cuts : List Cut → List Instr
  instrs_of_cuts cuts =
      map (instr_of (strip_of d held field described kind).planar)
      (map (piece_of (memory_of d) (strip_of d held field described kind)) cuts)

  -- each is in the section
  abbrev pub AllIn : ℕ → List Cut → Type 0
  AllIn a [] = Unit {0}
  AllIn a (c ∷ cuts) =
      IsIn d held field described a (instr_on d held field described kind c)
      × AllIn (a + 4 * length (encoded (instr_on d held field described kind c))) cuts

  addresses_above : (a at : ℕ) (instrs : List Instr) → a < at → Each (λ b. a < b) (addresses_from at instrs)
  addresses_above a at [] less = tt
  addresses_above a at (i ∷ instrs) less = (less, addresses_above a (at + 4 * length (encoded i)) instrs (omega arith))

  moved_back : (to : Option ℕ) (z address : ℕ) → option_map (λ at. at + z) to ≡ Some address → (s : ℕ) × (to ≡ Some s) × (address ≡ s + z)
  moved_back None z address is = cc
  moved_back (Some s) z address is = let same : s + z ≡ address = cc in (s, refl, sym same)

  abbrev pub bytes_at : ℕ → List Cut → List ℕ
  bytes_at a cuts = taken_bytes (takes_in (addresses_from a (instrs_of_cuts cuts)) (past.takes q))

  abbrev pub Stand : ℕ → List Cut → ℕ → ℕ → Type 0
  Stand a cuts z address = (z < length (bytes_at a cuts)) × (byte_at m.memory address ≡ slice_index (bytes_at a cuts) z)

  abbrev size : ℕ
  size = (track_on q (strip_of d held field described kind)).size

  abbrev behind : ℕ → Cut → ℕ
  behind a c = a + 4 * length (encoded (instr_on d held field described kind c))

  abbrev pub AllRetired : ℕ → List Cut → Type 0
  AllRetired a cuts = list_all (is_among past.retired) (addresses_from a (instrs_of_cuts cuts)) ≡ true

  retired_parts : (c : Cut) (cuts : List Cut) (a : ℕ) → AllRetired a (c ∷ cuts) →
      (is_among past.retired a ≡ true) × AllRetired (behind a c) cuts
  retired_parts c cuts a retired =
      and_parts (is_among past.retired a) (list_all (is_among past.retired) (addresses_from (behind a c) (instrs_of_cuts cuts))) retired

  split_here : (c : Cut) (cuts : List Cut) (a : ℕ) → IsIn d held field described a (instr_on d held field described kind c) →
      bytes_at a (c ∷ cuts) ≡ had_of d held field described past a q ++ bytes_at (behind a c) cuts
  split_here c cuts a is_in =
      let i = instr_on d held field described kind c in
      let known = fetch-KnownAt held.program a i (length (encoded i)) is_in.read in
      let positive = known.positive in
      ap taken_bytes
      (split_takes a (addresses_from (behind a c) (instrs_of_cuts cuts)) (past.takes q) (k.sorted q)
      (addresses_above a (behind a c) (instrs_of_cuts cuts) (omega arith)))
      ∙ taken_bytes-append (takes_in (a ∷ []) (past.takes q)) (takes_in (addresses_from (behind a c) (instrs_of_cuts cuts)) (past.takes q))

  split_long : (c : Cut) (cuts : List Cut) (a : ℕ) → IsIn d held field described a (instr_on d held field described kind c) →
      length (bytes_at a (c ∷ cuts)) ≡ length (had_of d held field described past a q) + length (bytes_at (behind a c) cuts)
  split_long c cuts a is_in =
      ap (λ (bytes : List ℕ). length bytes) (split_here c cuts a is_in)
      ∙ length-append (had_of d held field described past a q) (bytes_at (behind a c) cuts)

  none_taken : (ts : List Taking) → length (taken_bytes (takes_in [] ts)) ≡ 0
  none_taken [] = refl
  none_taken (t ∷ ts) = none_taken ts

  -- ---- on a queue that the line moves

  module _ (moved : moves (strip_of d held field described kind).planar q ≡ true) where
    module _ (c : Cut) (cuts : List Cut) (a : ℕ) (is_in : IsIn d held field described a (instr_on d held field described kind c))
        (retired : is_among past.retired a ≡ true) where
      abbrev i : Instr
      i = instr_on d held field described kind c

      abbrev next : ℕ
      next = behind a c

      abbrev had : List ℕ
      had = had_of d held field described past a q

      full_here : length had ≡ c.n * size
      full_here = k.full a i q is_in retired ∙ count_is d held field described kind c q moved

      here_stands : (z address : ℕ) → z < c.n * size →
          option_map (λ at. at + z) (cut_address (memory_of d) c.clipped (track_on q (strip_of d held field described kind)) c.at)
          ≡ Some address → Stand a (c ∷ cuts) z address
      here_stands z address low is =
          let back =
          moved_back (cut_address (memory_of d) c.clipped (track_on q (strip_of d held field described kind)) c.at) z address is in
          let goes : address_on q i ≡ Some back.0 = address_is d held field described kind c q moved ∙ back.1 in
          let all = full_here in
          let long = length-append had (bytes_at next cuts) in
          subst (λ (bytes : List ℕ). (z < length bytes) × (byte_at m.memory address ≡ slice_index bytes z))
          (sym (split_here c cuts a is_in)) (
            omega arith,
            ap (byte_at m.memory) back.2 ∙ k.placed.there a i q back.0 z is_in goes (omega arith)
                ∙ sym (index_first had (bytes_at next cuts) z (omega arith)),
          )

      later_stands : (z address : ℕ) → c.n * size ≤ z → Stand next cuts (z - c.n * size) address → Stand a (c ∷ cuts) z address
      later_stands z address high later =
          let all = full_here in
          let inside = later.0 in
          let long = length-append had (bytes_at next cuts) in
          let there : length had + (z - c.n * size) ≡ z = omega arith in
          subst (λ (bytes : List ℕ). (z < length bytes) × (byte_at m.memory address ≡ slice_index bytes z))
          (sym (split_here c cuts a is_in)) (
            omega arith,
            later.1 ∙ sym (index_later had (bytes_at next cuts) (z - c.n * size)) ∙ ap (slice_index (had ++ bytes_at next cuts)) there,
          )

    abbrev parts_there : List Cut → List LinePart
    parts_there cuts = line_parts_of (memory_of d) (track_on q (strip_of d held field described kind)) cuts

    pub cuts_stand : (cuts : List Cut) (a z address : ℕ) → AllIn a cuts → AllRetired a cuts →
        address_in (parts_there cuts) z ≡ Some address → Stand a cuts z address
    cuts_stand [] a z address all retired goes = cc
    cuts_stand (c ∷ cuts) a z address all retired goes =
        let t = track_on q (strip_of d held field described kind) in
        let parts = retired_parts c cuts a retired in
        elim (cases_lt z (c.n * t.size)) [
          | inl low ↦ here_stands c cuts a all.0 parts.0 z address low
              (sym (address_here (line_part_of (memory_of d) t c) (parts_there cuts) z low) ∙ goes)
          | inr high ↦ later_stands c cuts a all.0 parts.0 z address high
              (cuts_stand cuts (behind a c) (z - c.n * t.size) address all.1 parts.1
              (sym (address_behind (line_part_of (memory_of d) t c) (parts_there cuts) z high) ∙ goes))
        ]

    -- as many bytes as the cuts have
    pub cuts_full : (cuts : List Cut) (a : ℕ) → AllIn a cuts → AllRetired a cuts →
        length (bytes_at a cuts) ≡ bytes_of (parts_there cuts)
    cuts_full [] a all retired = none_taken (past.takes q)
    cuts_full (c ∷ cuts) a all retired =
        let parts = retired_parts c cuts a retired in
        let here = full_here c cuts a all.0 parts.0 in
        let later = cuts_full cuts (behind a c) all.1 parts.1 in
        let long = split_long c cuts a all.0 in
        omega arith

  -- ---- on a queue that it doesn't move

  pub cuts_empty : moves (strip_of d held field described kind).planar q ≡ false → (cuts : List Cut) (a : ℕ) → AllIn a cuts →
      length (bytes_at a cuts) ≡ 0
  cuts_empty still [] a all = none_taken (past.takes q)
  cuts_empty still (c ∷ cuts) a all =
      let none = unmoved_none d held field described kind c q still in
      let few = k.placed.few a (instr_on d held field described kind c) q all.0 in
      let later = cuts_empty still cuts (behind a c) all.1 in
      let long = split_long c cuts a all.0 in
      omega arith

  -- a line's instructions are in it
  pub all_in : (x : ℕ) (tail : List Instr) (ctl : Ctl) (to : ℕ) → IsOne d held field described kind →
      IsBegin d held field described kind x → HoldsFrom held.program x (line_of d held field described kind ++ tail) ctl to →
      (done : List ℕ) (cuts : List Cut) (a : ℕ) → addresses_from x (line_of d held field described kind)
      ≡ done ++ addresses_from a (instrs_of_cuts cuts) → HoldsFrom held.program a (instrs_of_cuts cuts ++ tail) ctl to → AllIn a cuts
  all_in x tail ctl to within begins holds done [] a is here = tt
  all_in x tail ctl to within begins holds done (c ∷ cuts) a is here =
      let i = instr_on d held field described kind c in
      let later = addresses_from (a + 4 * length (encoded i)) (instrs_of_cuts cuts) in (
        on_line d held field described kind x tail ctl to done later a i within begins holds is here.0,
        all_in x tail ctl to within begins holds (done ++ a ∷ []) cuts (a + 4 * length (encoded i))
            (is ∙ sym (append_assoc done (a ∷ []) later)) here.3,
      )
