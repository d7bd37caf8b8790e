-- Reading a program file, as its loops do.
use Rattle.std.proofs.Common.{◌≡◌, ℕ, zero, suc, ◌+◌, ◌-◌, ◌*◌, ◌<◌, ◌≤◌, List, [], ◌∷◌, ◌++◌, drop, Result, Ok, Err, refl, sym, ap, ◌∙◌}
use Rattle.std.proofs.Common.{append_assoc, arith, length, length-append, length-drop, set, take}
use Rattle.std.proofs.lemmas.List.{append-nil, drop-drop, length-take-le, take-append-le, take_all, take_more_set}
use Rattle.byteorder.specs.Endian.{little_number}
use Rattle.std.specs.Prelude.{Bool, true, false, ◌&&◌, Some, None}
use Rattle.capture_file.specs.declared.FileKind.TheVariants as fault
use Rattle.capture_file.specs.declared.program.Layout.TheVariants.{Chunked}
use Rattle.std.specs.List.{list_all}
use Rattle.page_table.specs.Grants.{Chunk, is_page}
use Rattle.page_table.specs.Taken.{listed, pair_chunk}
use Rattle.machine_model.specs.Paths.{RiscProgram}
use Rattle.capture_file.specs.declared.FileFault.{FileFault}
use Rattle.capture_file.specs.declared.program.Layout.{Layout}
use Rattle.capture_file.specs.declared.program.ProgramForm.{ProgramForm}
use Rattle.capture_file.specs.declared.program.ProgramForm.TheVariants.{Based}
use Rattle.capture_file.specs.Programs.{◌>>=◌, words_in, chunk_field, chunks_field, fill_fault}

pub words_more : (front : List ℕ) (count i : ℕ) (rest total : List ℕ) → i < count → front ++ words_in (count - i) rest ≡ total →
    (front ++ little_number 4 rest ∷ []) ++ words_in (count - (i + 1)) (drop 4 rest) ≡ total
words_more front count i rest total lt h =
    let k : count - i ≡ suc (count - (i + 1)) = omega arith in
    append_assoc front (little_number 4 rest ∷ []) (words_in (count - (i + 1)) (drop 4 rest))
    ∙ sym (ap (λ (n : ℕ). front ++ words_in n rest) k)
    ∙ h

pub words_set : (numbers bytes : List ℕ) (count i word : ℕ) → i < count → length numbers ≡ count →
    word ≡ little_number 4 (drop (4 * i) bytes) →
    take i numbers ++ words_in (count - i) (drop (4 * i) bytes) ≡ words_in count bytes →
    take (i + 1) (set numbers i word) ++ words_in (count - (i + 1)) (drop (4 * (i + 1)) bytes) ≡ words_in count bytes
words_set numbers bytes count i word lt len is h =
    let within : i < length numbers = omega arith in
    let next : 4 * i + 4 ≡ 4 * (i + 1) = omega arith in
    let behind : drop 4 (drop (4 * i) bytes) ≡ drop (4 * (i + 1)) bytes = drop-drop 4 (4 * i) bytes ∙ ap (λ n. drop n bytes) next in
    ap (λ (front : List ℕ). front ++ words_in (count - (i + 1)) (drop (4 * (i + 1)) bytes))
    (take_more_set numbers i word within ∙ ap (λ (n : ℕ). take i numbers ++ n ∷ []) is)
    ∙ ap (λ (rest : List ℕ). (take i numbers ++ little_number 4 (drop (4 * i) bytes) ∷ []) ++ words_in (count - (i + 1)) rest) (sym behind)
    ∙ words_more (take i numbers) count i (drop (4 * i) bytes) (words_in count bytes) lt h

-- some words, and those after them
pub words_in-add : (count more : ℕ) (bytes : List ℕ) →
    words_in (count + more) bytes ≡ words_in count bytes ++ words_in more (drop (4 * count) bytes)
words_in-add zero more bytes = let none : 0 + more ≡ more = omega arith in ap (λ n. words_in n bytes) none
words_in-add (suc count) more bytes =
    let one : suc count + more ≡ suc (count + more) = omega arith in
    let next : 4 + 4 * count ≡ 4 * suc count = omega arith in
    ap (λ n. words_in n bytes) one
    ∙ ap (λ (ws : List ℕ). little_number 4 bytes ∷ ws) (words_in-add count more (drop 4 bytes))
    ∙ ap (λ (rest : List ℕ). (little_number 4 bytes ∷ words_in count (drop 4 bytes)) ++ words_in more rest)
    (drop-drop (4 * count) 4 bytes ∙ ap (λ n. drop n bytes) next)

pub words_group : (words bytes total : List ℕ) (count at few : ℕ) → at + few ≤ count →
    words ++ words_in (count - at) (drop (4 * at) bytes) ≡ total →
    (words ++ words_in few (drop (4 * at) bytes)) ++ words_in (count - (at + few)) (drop (4 * (at + few)) bytes) ≡ total
words_group words bytes total count at few within h =
    let split : count - at ≡ few + (count - (at + few)) = omega arith in
    let next : 4 * at + 4 * few ≡ 4 * (at + few) = omega arith in
    append_assoc words (words_in few (drop (4 * at) bytes)) (words_in (count - (at + few)) (drop (4 * (at + few)) bytes))
    ∙ ap (λ (rest : List ℕ). words ++ (words_in few (drop (4 * at) bytes) ++ words_in (count - (at + few)) rest))
    (sym (drop-drop (4 * few) (4 * at) bytes ∙ ap (λ n. drop n bytes) next))
    ∙ ap (λ (ws : List ℕ). words ++ ws) (sym (words_in-add few (count - (at + few)) (drop (4 * at) bytes)))
    ∙ ap (λ n. words ++ words_in n (drop (4 * at) bytes)) (sym split)
    ∙ h

-- a group that was read behind some words
pub group_read : (words new bytes group read : List ℕ) (at few : ℕ) → few ≤ length group → length read ≡ length (take few group) →
    read ≡ words_in (length (take few group)) (take (length bytes - 4 * at) (drop (4 * at) bytes)) →
    new ≡ words ++ take few (read ++ drop few group) →
    (new ≡ words ++ words_in few (drop (4 * at) bytes)) × (length new ≡ length words + few)
group_read words new bytes group read at few room long is added =
    let count : length (take few group) ≡ few = length-take-le few group room in
    let all : take (length bytes - 4 * at) (drop (4 * at) bytes) ≡ drop (4 * at) bytes =
    take_all (length bytes - 4 * at) (drop (4 * at) bytes) (omega (arith, length-drop (4 * at) bytes)) in
    let len : length read ≡ few = long ∙ count in
    let front : take few (read ++ drop few group) ≡ read =
    take-append-le few read (drop few group) (omega arith) ∙ take_all few read (omega arith) in
    let here : read ≡ words_in few (drop (4 * at) bytes) = rw (count, all) at is in
    let whole : new ≡ words ++ read = added ∙ ap (λ (ws : List ℕ). words ++ ws) front in
    (whole ∙ ap (λ (ws : List ℕ). words ++ ws) here, ap length whole ∙ length-append words read ∙ ap (λ (n : ℕ). length words + n) len)

-- what was read before, and what is still read
abbrev pub with_front : List Chunk → Result (List Chunk × List ℕ) FileFault → Result (List Chunk × List ℕ) FileFault
with_front front read = read >>= λ x. Ok (front ++ x.0, x.1)

regroup : (front : List Chunk) (c : Chunk) (read : Result (List Chunk × List ℕ) FileFault) →
    with_front front (read >>= λ x. Ok (c ∷ x.0, x.1)) ≡ with_front (front ++ c ∷ []) read
regroup front c (Ok x) = ap (λ (cs : List Chunk). Ok (cs, x.1)) (sym (append_assoc front (c ∷ []) x.0))
regroup front c (Err f) = refl

module _ (layout : Layout) (size : ℕ) (program : RiscProgram) (front : List Chunk) (count i from sum : ℕ) (bytes : List ℕ)
    (total : Result (List Chunk × List ℕ) FileFault) where
  pub chunks_more : (c : Chunk) (after : List ℕ) → i < count → chunk_field layout size program from sum bytes ≡ Ok (c, after) →
      with_front front (chunks_field layout size program (count - i) from sum bytes) ≡ total →
      with_front (front ++ c ∷ []) (chunks_field layout size program (count - (i + 1)) (c.at + c.len) (sum + c.len) after) ≡ total
  unfolding chunks_field
  chunks_more c after lt h so_far =
      let k : count - i ≡ suc (count - (i + 1)) = omega arith in
      let one : with_front front (chunks_field layout size program (count - i) from sum bytes)
      ≡ with_front (front ++ c ∷ []) (chunks_field layout size program (count - (i + 1)) (c.at + c.len) (sum + c.len) after) =
      rw (k, h) (regroup front c (chunks_field layout size program (count - (i + 1)) (c.at + c.len) (sum + c.len) after)) in
      sym one ∙ so_far

  pub chunks_end : (f : FileFault) → i < count → chunk_field layout size program from sum bytes ≡ Err f →
      with_front front (chunks_field layout size program (count - i) from sum bytes) ≡ total → total ≡ Err f
  unfolding chunks_field
  chunks_end f lt h so_far =
      let k : count - i ≡ suc (count - (i + 1)) = omega arith in
      let one : with_front front (chunks_field layout size program (count - i) from sum bytes) ≡ Err f = rw (k, h) refl in
      sym so_far ∙ one

  pub chunks_done : count ≤ i → with_front front (chunks_field layout size program (count - i) from sum bytes) ≡ total →
      total ≡ Ok (front, bytes)
  unfolding chunks_field
  chunks_done le so_far =
      let k : count - i ≡ 0 = omega arith in
      let one : with_front front (chunks_field layout size program (count - i) from sum bytes) ≡ Ok (front, bytes) =
      rw k (ap (λ (cs : List Chunk). Ok (cs, bytes)) (append-nil front)) in
      sym so_far ∙ one

pub all_listed : (pairs : List (ℕ × ℕ)) → list_all (λ (pair : ℕ × ℕ). is_page (pair_chunk pair)) pairs ≡ list_all is_page (listed pairs)
all_listed [] = refl
all_listed (pair ∷ pairs) = ap (λ (b : Bool). is_page (pair_chunk pair) && b) (all_listed pairs)

pub fill_pages : (form : ProgramForm) (layout : Layout) (pairs : List (ℕ × ℕ)) → form ≡ Based layout → layout ≡ Chunked →
    list_all (λ (pair : ℕ × ℕ). is_page (pair_chunk pair)) pairs ≡ true →
    fill_fault form (listed pairs) ≡ Some fault.Pages
fill_pages form layout pairs e f h = rw (e, f, ← all_listed pairs, h) refl

pub fill_other : (form : ProgramForm) (layout : Layout) (pairs : List (ℕ × ℕ)) → form ≡ Based layout → layout ≡ Chunked →
    list_all (λ (pair : ℕ × ℕ). is_page (pair_chunk pair)) pairs ≡ false →
    fill_fault form (listed pairs) ≡ None
fill_other form layout pairs e f h = rw (e, f, ← all_listed pairs, h) refl
