-- The cuts of one line, as a queue sees them: what they ask, and where its bytes go.
use Rattle.std.proofs.Common.{◌≡◌, ℕ, ◌+◌, ◌-◌, ◌*◌, ◌<◌, ◌≤◌, Bool, true, false, not, ◌&&◌, ◌==◌, List, [], ◌∷◌, map, Option, Some, None}
use Rattle.std.proofs.Common.{option_map, refl, sym, ap, ◌∙◌, subst, arith, ⊎_elim}
use Rattle.std.proofs.lemmas.Bool.{cases_lt, eq-eqb, ne_eqb}
use Rattle.std.proofs.Math.Nat.{mul-pos}
use Rattle.risc_word.specs.declared.Ends.{Ends}
use Rattle.fifo_model.specs.declared.Queue.{Queue}
use Rattle.fifo_model.specs.declared.Queue.TheVariants.{One, Two, Three}
use Rattle.page_table.specs.Grants.{Chunk}
use Rattle.page_table.specs.Scattered.{address_at}
use Rattle.picture_model.specs.declared.PieceKind.{PieceKind}
use Rattle.picture_model.specs.declared.PieceKind.TheVariants.{Write, WriteLuma, Skip}
use Rattle.picture_model.specs.Plans.{Cut, Follow, Strip, Track, address_of, ends_of, kind_of, piece_of, track}
use Rattle.picture_model.specs.Programs.{instr_by, instr_of}
use Rattle.picture_model.proofs.Each.{Each}
use Rattle.field_law.specs.Sections.{Ask, Begin, GoOn, ask, asked, asks}
use Rattle.field_law.specs.CutLines.{LinePart, HasFirst, bytes_of, go_on, line_asks, address_in}
use Rattle.field_law.proofs.CutLines.{address_here, address_behind}

-- ---- what one piece asks

abbrev pub on_queue : {A : Type 0} → Queue → A → A → A → A
on_queue One a b c = a
on_queue Two a b c = b
on_queue Three a b c = c

-- a packed line comes over the first queue alone
abbrev pub moves : Bool → Queue → Bool
moves planar One = true
moves planar Two = planar
moves planar Three = planar

-- where the unclipped pieces of a line write, and nowhere else
abbrev pub Starts : Bool → PieceKind → Option ℕ → Option ℕ → Option ℕ → Type 0
Starts true Write (Some one) (Some two) (Some three) = Unit {0}
Starts true WriteLuma (Some one) None None = Unit {0}
Starts true Skip None None None = Unit {0}
Starts false Write (Some one) two three = Unit {0}
Starts false Skip None two three = Unit {0}
Starts planar kind one two three = ⊥

-- where a cut of a track goes
abbrev pub cut_address : List Chunk → Bool → Track → ℕ → Option ℕ
cut_address memory true t at = None
cut_address memory false t at = option_map (λ start. address_at memory (start + at * t.size)) t.start

abbrev pub line_part_of : List Chunk → Track → Cut → LinePart
line_part_of memory t k = record { count = k.n * t.size; address = cut_address memory k.clipped t k.at }

-- what a cut asks of a track
abbrev pub cut_asks : List Chunk → Bool → Bool → ℕ → ℕ → Track → Ask
cut_asks memory sol clipped at n t = ask (sol && not (n * t.size == 0)) (n * t.size) (cut_address memory clipped t at)

module _ (memory : List Chunk) (ends : Ends) (at n size size' size'' : ℕ) where
  pub piece_asks : (q : Queue) (planar clipped : Bool) (kind : PieceKind) (start start' start'' : Option ℕ) →
      Starts planar kind start start' start'' → moves planar q ≡ true →
      asked q (instr_by planar (kind_of clipped kind) (record {
        kind = kind_of clipped kind;
        ends = ends;
        counts = n * size ∷ n * size' ∷ n * size'' ∷ [];
        addrs =
            address_of memory clipped size start at ∷ address_of memory clipped size' start' at
            ∷ address_of memory clipped size'' start'' at ∷ [];
      }))
      ≡ cut_asks memory ends.sol clipped at n (on_queue q (track size start) (track size' start') (track size'' start''))
  piece_asks One true true kind start start' start'' starts moved = refl
  piece_asks Two true true kind start start' start'' starts moved = refl
  piece_asks Three true true kind start start' start'' starts moved = refl
  piece_asks One false true kind start start' start'' starts moved = refl
  piece_asks Two false clipped kind start start' start'' starts moved = cc
  piece_asks Three false clipped kind start start' start'' starts moved = cc
  piece_asks One true false Skip None None None starts moved = refl
  piece_asks Two true false Skip None None None starts moved = refl
  piece_asks Three true false Skip None None None starts moved = refl
  piece_asks q true false Skip (Some a) start' start'' starts moved = absurd starts
  piece_asks q true false Skip None (Some b) start'' starts moved = absurd starts
  piece_asks q true false Skip None None (Some c) starts moved = absurd starts
  piece_asks One true false Write (Some a) (Some b) (Some c) starts moved = refl
  piece_asks Two true false Write (Some a) (Some b) (Some c) starts moved = refl
  piece_asks Three true false Write (Some a) (Some b) (Some c) starts moved = refl
  piece_asks q true false Write None start' start'' starts moved = absurd starts
  piece_asks q true false Write (Some a) None start'' starts moved = absurd starts
  piece_asks q true false Write (Some a) (Some b) None starts moved = absurd starts
  piece_asks One true false WriteLuma (Some a) None None starts moved = refl
  piece_asks Two true false WriteLuma (Some a) None None starts moved = refl
  piece_asks Three true false WriteLuma (Some a) None None starts moved = refl
  piece_asks q true false WriteLuma None start' start'' starts moved = absurd starts
  piece_asks q true false WriteLuma (Some a) (Some b) start'' starts moved = absurd starts
  piece_asks q true false WriteLuma (Some a) None (Some c) starts moved = absurd starts
  piece_asks One false false Write (Some a) start' start'' starts moved = refl
  piece_asks One false false Write None start' start'' starts moved = absurd starts
  piece_asks One false false Skip None start' start'' starts moved = refl
  piece_asks One false false Skip (Some a) start' start'' starts moved = absurd starts
  piece_asks One false false WriteLuma start start' start'' starts moved = absurd starts

-- ---- what the cuts of a line ask

abbrev pub track_on : Queue → Strip → Track
track_on q strip = on_queue q strip.one strip.two strip.three

abbrev pub line_parts_of : List Chunk → Track → List Cut → List LinePart
line_parts_of memory t cuts = map (line_part_of memory t) cuts

ask_later : (first some : Bool) (count : ℕ) (address : Option ℕ) → first ≡ false → ask (first && some) count address ≡ GoOn count address
ask_later false some count address is = refl
ask_later true some count address is = cc

ask_first : (first none : Bool) (count : ℕ) (address : Option ℕ) → first ≡ true → none ≡ false →
    ask (first && not none) count address ≡ Begin count address
ask_first true false count address is some = refl
ask_first true true count address is some = cc
ask_first false none count address is some = cc

both : {A : Type 0} (x y : A) (xs ys : List A) → x ≡ y → xs ≡ ys → x ∷ xs ≡ y ∷ ys
both x y xs ys first later = cc

module _ (memory : List Chunk) (strip : Strip) (q : Queue)
    (starts : Starts strip.planar strip.kind strip.one.start strip.two.start strip.three.start)
    (moved : moves strip.planar q ≡ true) where
  abbrev t : Track
  t = track_on q strip

  abbrev asks_of : List Cut → List Ask
  asks_of cuts = asks q (map (instr_of strip.planar) (map (piece_of memory strip) cuts))

  asked_cut : (k : Cut) → asked q (instr_of strip.planar (piece_of memory strip k)) ≡ cut_asks memory (k.at == 0) k.clipped k.at k.n t
  asked_cut k =
      piece_asks memory (ends_of strip k) k.at k.n strip.one.size strip.two.size strip.three.size q strip.planar k.clipped strip.kind
      strip.one.start strip.two.start strip.three.start starts moved

  later_asks : (end at : ℕ) (cuts : List Cut) → 0 < at → Follow end at cuts → asks_of cuts ≡ map go_on (line_parts_of memory t cuts)
  later_asks end at [] some follow = refl
  later_asks end at (k ∷ rest) some follow =
      let here = follow.0 in
      both _ _ _ _
      (asked_cut k ∙ ask_later (k.at == 0) (not (k.n * t.size == 0)) (k.n * t.size) (cut_address memory k.clipped t k.at)
      (ne_eqb k.at 0 (λ zero. omega arith)))
      (later_asks end (at + k.n) rest (omega arith) follow.2)

  pub cuts_ask : (end : ℕ) (cuts : List Cut) → 0 < t.size → Follow end 0 cuts → asks_of cuts ≡ line_asks (line_parts_of memory t cuts)
  cuts_ask end [] some follow = refl
  cuts_ask end (k ∷ rest) some follow =
      let n = follow.1 in
      both _ _ _ _
      (asked_cut k ∙ ask_first (k.at == 0) (k.n * t.size == 0) (k.n * t.size) (cut_address memory k.clipped t k.at) (eq-eqb k.at 0 follow.0)
      (ne_eqb (k.n * t.size) 0 (λ zero. let product = mul-pos n some in omega arith)))
      (later_asks end (0 + k.n) rest (omega arith) follow.2)

-- ---- they cover it, and each byte lies in one of them

module _ (memory : List Chunk) (t : Track) where
  pub first_some : (end : ℕ) (cuts : List Cut) → 0 < t.size → Follow end 0 cuts → HasFirst (line_parts_of memory t cuts)
  first_some end [] some follow = tt
  first_some end (k ∷ rest) some follow = mul-pos follow.1 some

  cuts_bytes : (end at : ℕ) (cuts : List Cut) → Follow end at cuts → at * t.size + bytes_of (line_parts_of memory t cuts) ≡ end * t.size
  cuts_bytes end at [] follow = let product = ap (λ (n : ℕ). n * t.size) follow in omega arith
  cuts_bytes end at (k ∷ rest) follow =
      let later = cuts_bytes end (at + k.n) rest follow.2 in
      let product : (at + k.n) * t.size ≡ at * t.size + k.n * t.size = omega arith in
      omega arith

  pub all_bytes : (end : ℕ) (cuts : List Cut) → Follow end 0 cuts → bytes_of (line_parts_of memory t cuts) ≡ end * t.size
  all_bytes end cuts follow = let all = cuts_bytes end 0 cuts follow in omega arith

  -- byte x lies in a cut, and goes where the cut has it go
  pub record LiesIn (Q : Cut → Type 0) (x : ℕ) (to : Option ℕ) : Type 0 where
    pub k : Cut
    pub holds : Q k
    pub low : k.at * t.size ≤ x
    pub high : x < (k.at + k.n) * t.size
    pub there : to ≡ option_map (λ address. address + (x - k.at * t.size)) (cut_address memory k.clipped t k.at)

  lies_from : (Q : Cut → Type 0) (end at x : ℕ) (cuts : List Cut) → Each Q cuts → Follow end at cuts → at * t.size ≤ x → x < end * t.size →
      LiesIn Q x (address_in (line_parts_of memory t cuts) (x - at * t.size))
  lies_from Q end at x [] each follow low high = let product = ap (λ (n : ℕ). n * t.size) follow in absurd (omega arith)
  lies_from Q end at x (k ∷ rest) each follow low high =
      let here : k.at * t.size ≡ at * t.size = ap (λ (n : ℕ). n * t.size) follow.0 in
      let product : (at + k.n) * t.size ≡ at * t.size + k.n * t.size = omega arith in
      let product' : (k.at + k.n) * t.size ≡ k.at * t.size + k.n * t.size = omega arith in
      let y = x - at * t.size in
      ⊎_elim
      (λ less. record {
        k = k;
        holds = each.0;
        low = omega arith;
        high = omega arith;
        there =
            address_here (line_part_of memory t k) (line_parts_of memory t rest) y less
            ∙ ap (λ (begin : ℕ). option_map (λ address. address + (x - begin)) (cut_address memory k.clipped t k.at)) (sym here);
      })
      (λ more.
      let left : y - k.n * t.size ≡ x - (at + k.n) * t.size = omega arith in
      subst (LiesIn Q x)
      (sym
      (address_behind (line_part_of memory t k) (line_parts_of memory t rest) y more ∙ ap (address_in (line_parts_of memory t rest)) left))
      (lies_from Q end (at + k.n) x rest each.1 follow.2 (omega arith) high))
      (cases_lt y (k.n * t.size))

  pub lies_in : (Q : Cut → Type 0) (end x : ℕ) (cuts : List Cut) → Each Q cuts → Follow end 0 cuts → x < end * t.size →
      LiesIn Q x (address_in (line_parts_of memory t cuts) x)
  lies_in Q end x cuts each follow high =
      let begin : x - 0 * t.size ≡ x = omega arith in
      subst (λ (y : ℕ). LiesIn Q x (address_in (line_parts_of memory t cuts) y)) begin
      (lies_from Q end 0 x cuts each follow (omega arith) high)

-- a byte of a cut that is not clipped goes to its place in it
pub unclipped_goes : (memory : List Chunk) (clipped : Bool) (size start at j address : ℕ) → clipped ≡ false →
    address ≡ address_of memory clipped size (Some start) at + j →
    option_map (λ a. a + j) (cut_address memory clipped (track size (Some start)) at) ≡ Some address
unclipped_goes memory true size start at j address plain is = cc
unclipped_goes memory false size start at j address plain is = ap (λ (a : ℕ). Some a) (sym is)

-- a track that is not written sends nothing anywhere
pub unwritten : (memory : List Chunk) (size x : ℕ) (cuts : List Cut) → address_in (line_parts_of memory (track size None) cuts) x ≡ None
unwritten memory size x [] = refl
unwritten memory size x (k ∷ rest) =
    let first = line_part_of memory (track size None) k in
    let later = line_parts_of memory (track size None) rest in
    ⊎_elim
    (λ less. address_here first later x less ∙ ap (λ (to : Option ℕ). option_map (λ address. address + x) to) (nowhere k.clipped))
    (λ more. address_behind first later x more ∙ unwritten memory size (x - k.n * size) rest)
    (cases_lt x (k.n * size))
  where
    nowhere : (clipped : Bool) → cut_address memory clipped (track size None) k.at ≡ None
    nowhere true = refl
    nowhere false = refl
