-- Worked program files and their faults.
use Rattle.std.specs.Prelude.{◌≡◌, ℕ, ◌+◌, ◌*◌, List, [], ◌∷◌, ◌++◌, Err, codes, drop, take}
use Rattle.capture_file.specs.declared.FileKind.{FileKind}
use Rattle.capture_file.specs.Programs.{numbers_spelled, program_of}
use Rattle.capture_file.specs.Streams.{fault_at}

abbrev pub IsAtFault : List ℕ → ℕ → FileKind → Type 0
IsAtFault bytes place kind = program_of bytes ≡ Err (fault_at place kind)

-- the words of a program that captures one line of eight bytes: a SYNC for VRE and one for FM1, the WRITE and the JUMP
abbrev pub line_words : List ℕ
line_words = 2147516420 ∷ 0 ∷ 2147483654 ∷ 0 ∷ 469762056 ∷ 131072 ∷ 1910571008 ∷ 4096 ∷ []

-- a file of these words at a base, with a number of words, and with what is behind the words
abbrev pub line_file : ℕ → ℕ → List ℕ → List ℕ
line_file base count memory = codes "BRP1" ++ (numbers_spelled (base ∷ count ∷ line_words ++ memory) ++ 0 ∷ [])

-- at 1000 hexadecimal, with one page at 20000: 53 bytes, of which the number of pages is at 44 and the fill at 52
abbrev pub one_line : List ℕ
one_line = line_file 4096 8 (1 ∷ 131072 ∷ [])

-- the same in the other form, with what is behind the words
abbrev pub chunk_file : List ℕ → List ℕ
chunk_file memory = codes "BRP2" ++ (numbers_spelled (4096 ∷ 8 ∷ line_words ++ memory) ++ 0 ∷ [])

-- the beginning of a file with chunks, but with none; and that of a file with two pages, the highest first
abbrev pub without_chunks : List ℕ
without_chunks = codes "BRP2" ++ numbers_spelled (0 ∷ 0 ∷ 0 ∷ [])

abbrev pub highest_first : List ℕ
highest_first = codes "BRP1" ++ numbers_spelled (0 ∷ 0 ∷ 2 ∷ 4294963200 ∷ [])

-- two spans, the first at 1000 hexadecimal and the second at an address, each a JUMP to the other, with an entry: 49
-- bytes, of which the second address is at 24, the entry at 40 and the fill at 48
abbrev pub two_spans : ℕ → ℕ → List ℕ
two_spans at entry =
    codes "BRP3" ++ (numbers_spelled (2 ∷ 4096 ∷ 2 ∷ 1879048192 ∷ 8192 ∷ at ∷ 2 ∷ 1879048192 ∷ 4096 ∷ entry ∷ 0 ∷ []) ++ 0 ∷ [])

-- one span, a JUMP to itself, with an entry; and the beginning of a file with one span of a word
abbrev pub lone_span : ℕ → List ℕ
lone_span entry = codes "BRP3" ++ (numbers_spelled (1 ∷ 4096 ∷ 2 ∷ 1879048192 ∷ 4096 ∷ entry ∷ 0 ∷ []) ++ 0 ∷ [])

abbrev pub one_word_alone : List ℕ
one_word_alone = codes "BRP3" ++ numbers_spelled (1 ∷ 4096 ∷ 1 ∷ 0 ∷ [])

-- a file with spans with another number at a place; places are counted in numbers from the first word on
abbrev pub with_number : ℕ → ℕ → List ℕ → List ℕ
with_number place number bytes = take (4 * place) bytes ++ (numbers_spelled (number ∷ []) ++ drop (4 * place + 4) bytes)
