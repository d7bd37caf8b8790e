-- A program file that is kept as its head, its words and what is behind them is read as its bytes are.
use Rattle.std.proofs.Common.{◌≡◌, ℕ, zero, suc, ◌+◌, ◌-◌, ◌*◌, ◌^◌, ◌<◌, ◌≤◌, List, [], ◌∷◌, ◌++◌, Ok, refl, subst, sym, ap}
use Rattle.std.proofs.Common.{◌∙◌, arith, append_assoc, drop, length, length-append, length-drop, take, take-append-drop}
use Rattle.std.specs.List.{All}
use Rattle.std.proofs.lemmas.List.{append-nil, length-take-le, take_all}
use Rattle.std.proofs.lemmas.List.Concat.{flat_map-append}
use Rattle.byteorder.specs.Endian.{little_bytes}
use Rattle.machine_model.specs.Paths.{RiscProgram, Span, one_span, spans_of}
use Rattle.capture_file.specs.declared.program.Layout.{Layout}
use Rattle.capture_file.specs.declared.program.Layout.TheVariants.{Chunked, Paged}
use Rattle.capture_file.specs.declared.program.ProgramForm.{ProgramForm}
use Rattle.capture_file.specs.declared.program.ProgramForm.TheVariants.{Based}
use Rattle.capture_file.specs.Programs.{◌>>=◌, Field, IsHead, IsPlaced, base_field, based_field, behind_field, form_field, name_of}
use Rattle.capture_file.specs.Programs.{numbers_spelled, placed_field, program_in, program_of, without_grants, word_count_field}
use Rattle.capture_file.specs.Programs.{words_field, words_in}
use Rattle.capture_file.proofs.Chunks.{IsBytes}
use Rattle.capture_file.proofs.Spelled.{base_again, form_again, numbers_length, word_count_again, words_field_again}
use Rattle.capture_file.proofs.Unspelled.{base_takes, form_takes, word_count_takes, words_are}

-- what is behind the words of a file is read as the file is
module _ (form : ProgramForm) (placed : RiscProgram) (bytes a b : List ℕ) (one two : ℕ) (fits : IsBytes bytes) (whole : one ≡ length bytes)
    (same : two ≡ one) (e : form_field (length bytes) bytes ≡ Ok (form, a)) (f : placed_field form one a ≡ Ok (placed, b)) where
  pub placed_read : IsPlaced form placed two b
  placed_read = record {
    bytes = bytes;
    behind = a;
    fits = fits;
    whole = same ∙ whole;
    read = e;
    words = subst (λ (n : ℕ). placed_field form n a ≡ Ok (placed, b)) whole f;
  }

  pub placed_value : program_of bytes ≡ behind_field form two placed b
  unfolding program_in behind_field
  placed_value =
      let f' : placed_field form (length bytes) a ≡ Ok (placed, b) =
      subst (λ (n : ℕ). placed_field form n a ≡ Ok (placed, b)) whole f in
      rw (e, f', same, whole) refl

-- ---- keeping pieces

pub spelled_append : (front words : List ℕ) → numbers_spelled (front ++ words) ≡ numbers_spelled front ++ numbers_spelled words
spelled_append front words = flat_map-append (little_bytes 4) front words

pub piece_kept : (old new kept rest piece : List ℕ) (count : ℕ) → IsBytes piece → 4 * count ≤ length piece →
    new ≡ old ++ words_in count piece → kept ≡ [] → rest ≡ kept ++ take (length piece - 4 * count) (drop (4 * count) piece) →
    numbers_spelled new ++ rest ≡ numbers_spelled old ++ piece
piece_kept old new kept rest piece count fits long more none behind =
    let words : List ℕ = words_in count piece in
    let last : List ℕ = drop (4 * count) piece in
    let all : take (length piece - 4 * count) last ≡ last =
    take_all (length piece - 4 * count) last (omega (arith, length-drop (4 * count) piece)) in
    ap (λ (ws : List ℕ). numbers_spelled ws ++ rest) more
    ∙ ap (λ (zs : List ℕ). numbers_spelled (old ++ words) ++ zs)
    (behind ∙ ap (λ (zs : List ℕ). zs ++ take (length piece - 4 * count) last) none ∙ all)
    ∙ ap (λ (zs : List ℕ). zs ++ last) (spelled_append old words)
    ∙ append_assoc (numbers_spelled old) (numbers_spelled words) last
    ∙ ap (λ (zs : List ℕ). numbers_spelled old ++ zs) (sym (words_are count piece fits long).parts)

-- what is kept where only its last part is changed
pub last_kept : (front first second more : List ℕ) → front ++ (first ++ (second ++ more)) ≡ (front ++ (first ++ second)) ++ more
last_kept front first second more =
    ap (λ (zs : List ℕ). front ++ zs) (sym (append_assoc first second more))
    ∙ sym (append_assoc front (first ++ second) more)

-- words that are kept behind a head, where there are no bytes behind them
pub words_kept : (front old new none rest piece : List ℕ) → none ≡ [] →
    numbers_spelled new ++ rest ≡ numbers_spelled old ++ piece →
    front ++ (numbers_spelled new ++ rest) ≡ (front ++ (numbers_spelled old ++ none)) ++ piece
words_kept front old new none rest piece is h =
    ap (λ (zs : List ℕ). front ++ zs) h
    ∙ sym (append_assoc front (numbers_spelled old) piece)
    ∙ ap (λ (zs : List ℕ). (front ++ zs) ++ piece) (sym (append-nil (numbers_spelled old)))
    ∙ ap (λ (zs : List ℕ). (front ++ (numbers_spelled old ++ zs)) ++ piece) (sym is)

-- ---- bytes

spelled_fits : (words : List ℕ) → IsBytes (numbers_spelled words)
spelled_fits [] i = omega arith
spelled_fits (word ∷ words) zero = omega arith
spelled_fits (word ∷ words) (suc zero) = omega arith
spelled_fits (word ∷ words) (suc (suc zero)) = omega arith
spelled_fits (word ∷ words) (suc (suc (suc zero))) = omega arith
spelled_fits (word ∷ words) (suc (suc (suc (suc i)))) = spelled_fits words i

name_length : (layout : Layout) → length (name_of (Based layout)) ≡ 4
name_length Paged = refl
name_length Chunked = refl

both_fit : (front more : List ℕ) → IsBytes front → IsBytes more → IsBytes (front ++ more)
both_fit [] more low high i = high i
both_fit (byte ∷ front) more low high zero = low 0
both_fit (byte ∷ front) more low high (suc i) = both_fit front more (λ k. low (suc k)) high i

-- ---- reading what was kept

-- The bytes of a file: its head, its words, and what is behind them. The program has the first of these words.
module _ (layout : Layout) (start count size : ℕ) (head words rest mine behind : List ℕ) (spans : List Span)
    (is : IsHead head layout start count) (low : start < 2 ^ 32) (enough : count ≤ length words) (head_fits : IsBytes head)
    (rest_fits : IsBytes rest) (fit : All (λ word. word < 2 ^ 32) mine) (first : mine ≡ take count words)
    (placed : spans ≡ spans_of start mine)
    (others : behind ≡ numbers_spelled (take (length words - count) (drop count words)) ++ rest)
    (long : size ≡ 12 + 4 * count + length behind) where
  abbrev bytes : List ℕ
  bytes = head ++ (numbers_spelled words ++ rest)

  abbrev after : List ℕ
  after = little_bytes 4 start ++ (little_bytes 4 count ++ (numbers_spelled mine ++ behind))

  behind_is : behind ≡ numbers_spelled (drop count words) ++ rest
  behind_is =
      others
      ∙ ap (λ (ws : List ℕ). numbers_spelled ws ++ rest)
      (take_all (length words - count) (drop count words) (omega (arith, length-drop count words)))

  -- the words, and what is behind them
  words_split : numbers_spelled words ++ rest ≡ numbers_spelled mine ++ behind
  words_split =
      ap (λ (ws : List ℕ). numbers_spelled ws ++ rest) (sym (take-append-drop count words))
      ∙ ap (λ (zs : List ℕ). zs ++ rest) (spelled_append (take count words) (drop count words))
      ∙ append_assoc (numbers_spelled (take count words)) (numbers_spelled (drop count words)) rest
      ∙ ap (λ (ws : List ℕ). numbers_spelled ws ++ (numbers_spelled (drop count words) ++ rest)) (sym first)
      ∙ ap (λ (zs : List ℕ). numbers_spelled mine ++ zs) (sym behind_is)

  in_parts : bytes ≡ name_of (Based layout) ++ after
  in_parts =
      ap (λ (zs : List ℕ). zs ++ (numbers_spelled words ++ rest)) is.parts
      ∙ append_assoc (name_of (Based layout)) (little_bytes 4 start ++ little_bytes 4 count) (numbers_spelled words ++ rest)
      ∙ ap (λ (zs : List ℕ). name_of (Based layout) ++ zs)
      (append_assoc (little_bytes 4 start) (little_bytes 4 count) (numbers_spelled words ++ rest)
      ∙ ap (λ (zs : List ℕ). little_bytes 4 start ++ (little_bytes 4 count ++ zs)) words_split)

  is_whole : size ≡ length bytes
  is_whole =
      let mine_long : length mine ≡ count = ap length first ∙ length-take-le count words enough in
      let parts = ap length in_parts in
      let one = length-append (name_of (Based layout)) after in
      let two = length-append (little_bytes 4 start) (little_bytes 4 count ++ (numbers_spelled mine ++ behind)) in
      let three = length-append (little_bytes 4 count) (numbers_spelled mine ++ behind) in
      let four = length-append (numbers_spelled mine) behind in
      let five = numbers_length mine in
      let name = name_length layout in
      omega (arith, long, mine_long, parts, one, two, three, four, five, name)

  based_there : based_field (length bytes) after ≡ Ok (without_grants start spans, behind)
  unfolding based_field
  based_there =
      let n : ℕ = length bytes in
      let len : length mine ≡ count = ap length first ∙ length-take-le count words enough in
      ap (λ (r : Field ℕ). r >>= λ base. word_count_field n base.0 base.1 >>= λ k. words_field n k.0 k.1
      >>= λ ws. Ok (one_span base.0 ws.0 [], ws.1))
      (base_again n start (little_bytes 4 count ++ (numbers_spelled mine ++ behind)) low is.aligned)
      ∙ ap (λ (r : Field ℕ). r >>= λ k. words_field n k.0 k.1 >>= λ ws. Ok (one_span start ws.0 [], ws.1))
      (word_count_again n start count (numbers_spelled mine ++ behind) is.few is.ends)
      ∙ ap (λ (k : ℕ). words_field n k (numbers_spelled mine ++ behind) >>= λ ws. Ok (one_span start ws.0 [], ws.1)) (sym len)
      ∙ ap (λ (r : Field (List ℕ)). r >>= λ ws. Ok (one_span start ws.0 [], ws.1)) (words_field_again n mine behind fit)
      ∙ ap (λ (ss : List Span). Ok (without_grants start ss, behind)) (sym placed)

  read_there : form_field (length bytes) bytes ≡ Ok (Based layout, after)
  read_there = ap (λ (zs : List ℕ). form_field (length bytes) zs) in_parts ∙ form_again (length bytes) (Based layout) after

  bytes_fit : IsBytes bytes
  bytes_fit =
      both_fit head (numbers_spelled words ++ rest) head_fits (both_fit (numbers_spelled words) rest (spelled_fits words) rest_fits)

  pub based_placed : IsPlaced (Based layout) (without_grants start spans) size behind
  based_placed =
      placed_read (Based layout) (without_grants start spans) bytes after behind (length bytes) size bytes_fit refl is_whole
      read_there based_there

  pub based_value : program_of bytes ≡ behind_field (Based layout) size (without_grants start spans) behind
  based_value =
      placed_value (Based layout) (without_grants start spans) bytes after behind (length bytes) size bytes_fit refl is_whole
      read_there based_there

-- the head that was read
pub head_read : (bytes : List ℕ) (layout : Layout) (start count one two : ℕ) (a b c : List ℕ) → IsBytes bytes →
    form_field (length bytes) bytes ≡ Ok (Based layout, a) → base_field one a ≡ Ok (start, b) →
    word_count_field two start b ≡ Ok (count, c) → length c ≡ 0 → IsHead bytes layout start count
head_read bytes layout start count one two a b c fits e f g none =
    let first = form_takes (length bytes) bytes (Based layout, a) fits e in
    let second = base_takes one a (start, b) first.fits f in
    let third = word_count_takes two start b (count, c) second.0.fits g in
    record {
      parts =
          first.parts
          ∙ ap (λ (zs : List ℕ). name_of (Based layout) ++ zs)
          (second.0.parts
          ∙ ap (λ (zs : List ℕ). little_bytes 4 start ++ zs)
          (third.0.parts ∙ ap (λ (zs : List ℕ). little_bytes 4 count ++ zs) (no_more c none) ∙ append-nil (little_bytes 4 count)));
      aligned = second.2;
      few = third.1;
      ends = third.2;
    }
  where
    no_more : (xs : List ℕ) → length xs ≡ 0 → xs ≡ []
    no_more [] h = refl
    no_more (x ∷ xs) h = absurd (omega arith)
