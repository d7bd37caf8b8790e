-- The fields of an instruction are read back.
use Rattle.std.proofs.Common.{◌≡◌, ℕ, ◌/◌, ◌%◌, ◌^◌, ◌<◌, ◌≤◌, Bool, true, false, List, [], ◌∷◌, ◌++◌, Option, Some, refl, ap, ◌∙◌, arith}
use Rattle.std.proofs.Common.{append_assoc}
use Rattle.std.specs.Prelude.{◌==◌, codes, if◌then◌else◌, nat_lt}
use Rattle.std.specs.Fmt.{decimal, digit_glyph, digits}
use Rattle.std.proofs.lemmas.Bool.{eqb-true, lt-ltb, ne_eqb}
use Rattle.risc_word.specs.declared.Ctl.{Ctl}
use Rattle.risc_word.specs.declared.Ends.{Ends}
use Rattle.risc_listing.specs.Lines.{addresses_text, at_text, control_text, count_text, counts_text, data_text, flag_text, nibble_text}
use Rattle.risc_listing.proofs.Hexadecimal.{address_digits}
use Rattle.risc_text.specs.Readers.{after, address, begins, control, count, data_fields, flag, flag_of, if_twelve_bits, is_decimal, nibble}
use Rattle.risc_text.specs.Readers.{nibble_of, three_addresses, three_counts, ◌>>=◌}
use Rattle.risc_text.proofs.Digits.{address_back, glyph-small, nibble_back, number_back, starts_decimal}

-- ---- fields that may be missing

pub flag_back : (name rest : List ℕ) (b : Bool) → after name (name ++ rest) ≡ Some rest → begins name rest ≡ false →
    flag name (flag_text name b ++ rest) ≡ (b, rest)
unfolding flag
flag_back name rest true there missing = ap (λ found. flag_of found (name ++ rest)) there
flag_back name rest false there missing = rw missing refl

flag_not : (other name rest : List ℕ) (b : Bool) → begins other (name ++ rest) ≡ false → begins other rest ≡ false →
    begins other (flag_text name b ++ rest) ≡ false
flag_not other name rest true there missing = there
flag_not other name rest false there missing = missing

nibble_by : (test : Bool) (name rest : List ℕ) (n : ℕ) → (n == 0) ≡ test → n < 16 →
    ((text : List ℕ) → after name (name ++ text) ≡ Some text) → begins name rest ≡ false →
    nibble name ((if test then [] else name ++ digits 16 false n) ++ rest) ≡ Some (n, rest)
unfolding nibble
nibble_by true name rest n is small there missing =
    let zero_is : n ≡ 0 = eqb-true n 0 is in rw (missing, zero_is) refl
nibble_by false name rest n is small there missing =
    rw (append_assoc name (digits 16 false n) rest)
    (ap (λ found. nibble_of found (name ++ (digits 16 false n ++ rest))) (there (digits 16 false n ++ rest)) ∙ nibble_back n rest small)

nibble_read : (name rest : List ℕ) (n : ℕ) → n < 16 → ((text : List ℕ) → after name (name ++ text) ≡ Some text) → begins name rest ≡ false →
    nibble name (nibble_text name n ++ rest) ≡ Some (n, rest)
nibble_read name rest n small there missing = nibble_by (n == 0) name rest n refl small there missing

nibble_not_by : (test : Bool) (other name rest : List ℕ) (n : ℕ) → ((text : List ℕ) → begins other (name ++ text) ≡ false) →
    begins other rest ≡ false →
    begins other ((if test then [] else name ++ digits 16 false n) ++ rest) ≡ false
nibble_not_by true other name rest n there missing = missing
nibble_not_by false other name rest n there missing = rw (append_assoc name (digits 16 false n) rest) (there (digits 16 false n ++ rest))

nibble_not : (other name rest : List ℕ) (n : ℕ) → ((text : List ℕ) → begins other (name ++ text) ≡ false) → begins other rest ≡ false →
    begins other (nibble_text name n ++ rest) ≡ false
nibble_not other name rest n there missing = nibble_not_by (n == 0) other name rest n there missing

-- ---- the control bits

-- no field of the control bits begins a text
pub record NoControl (text : List ℕ) : Type 0 where
  pub irq : begins (codes " irq") text ≡ false
  pub set : begins (codes " set=") text ≡ false
  pub reset : begins (codes " reset=") text ≡ false

abbrev pub control_then : Ctl → List ℕ → List ℕ
control_then ctl rest =
    flag_text (codes " irq") ctl.irq ++ (nibble_text (codes " set=") ctl.set ++ (nibble_text (codes " reset=") ctl.reset ++ rest))

pub control_grouped : (ctl : Ctl) (rest : List ℕ) → control_text ctl ++ rest ≡ control_then ctl rest
control_grouped ctl rest = simp append_assoc

control_from : Bool × List ℕ → Option (Ctl × List ℕ)
control_from irq =
    nibble (codes " set=") irq.1
    >>= (λ set. nibble (codes " reset=") set.1 >>= (λ reset. Some (record { irq = irq.0; set = set.0; reset = reset.0 }, reset.1)))

pub control_back : (ctl : Ctl) (rest : List ℕ) → ctl.set < 16 → ctl.reset < 16 → NoControl rest →
    control (control_then ctl rest) ≡ Some (ctl, rest)
unfolding control control_from
control_back ctl rest set_small reset_small missing =
    let reset_rest = nibble_text (codes " reset=") ctl.reset ++ rest in
    let set_rest = nibble_text (codes " set=") ctl.set ++ reset_rest in
    let irq_is = flag_back (codes " irq") set_rest ctl.irq refl
    (nibble_not (codes " irq") (codes " set=") reset_rest ctl.set (λ _. refl)
    (nibble_not (codes " irq") (codes " reset=") rest ctl.reset (λ _. refl) missing.irq))
    in
    let set_is =
    nibble_read (codes " set=") reset_rest ctl.set set_small (λ _. refl)
    (nibble_not (codes " set=") (codes " reset=") rest ctl.reset (λ _. refl) missing.set) in
    let reset_is = nibble_read (codes " reset=") rest ctl.reset reset_small (λ _. refl) missing.reset in
    ap control_from irq_is
    ∙ ap (λ found. found >>= (λ (set : ℕ × List ℕ). nibble (codes " reset=") set.1
    >>= (λ (reset : ℕ × List ℕ). Some (record { irq = ctl.irq; set = set.0; reset = reset.0 }, reset.1)))) set_is
    ∙ ap (λ found. found >>= (λ (reset : ℕ × List ℕ). Some (record { irq = ctl.irq; set = ctl.set; reset = reset.0 }, reset.1))) reset_is

-- another word doesn't begin the control bits
pub control_not : (other : List ℕ) (ctl : Ctl) (rest : List ℕ) → ((text : List ℕ) → begins other (codes " irq" ++ text) ≡ false) →
    ((text : List ℕ) → begins other (codes " set=" ++ text) ≡ false) →
    ((text : List ℕ) → begins other (codes " reset=" ++ text) ≡ false) → begins other rest ≡ false →
    begins other (control_then ctl rest) ≡ false
control_not other ctl rest irq set reset missing =
    let reset_rest = nibble_text (codes " reset=") ctl.reset ++ rest in
    let set_rest = nibble_text (codes " set=") ctl.set ++ reset_rest in
    flag_not other (codes " irq") set_rest ctl.irq (irq set_rest)
    (nibble_not other (codes " set=") reset_rest ctl.set set (nibble_not other (codes " reset=") rest ctl.reset reset missing))

-- ---- the fields of data

-- no field of data begins a text
pub record NoData (text : List ℕ) : Type 0 where
  pub sol : begins (codes " sol") text ≡ false
  pub eol : begins (codes " eol") text ≡ false
  pub irq : begins (codes " irq") text ≡ false
  pub set : begins (codes " set=") text ≡ false
  pub reset : begins (codes " reset=") text ≡ false
  pub off : begins (codes " off=") text ≡ false

abbrev pub data_then : Ctl → Ends → ℕ → List ℕ → List ℕ
data_then ctl ends off rest =
    flag_text (codes " sol") ends.sol ++ (flag_text (codes " eol") ends.eol ++ control_then ctl (nibble_text (codes " off=") off ++ rest))

pub data_grouped : (ctl : Ctl) (ends : Ends) (off : ℕ) (rest : List ℕ) → data_text ctl ends off ++ rest ≡ data_then ctl ends off rest
data_grouped ctl ends off rest = simp append_assoc

data_from : Bool → Bool × List ℕ → Option ((Ctl × Ends × ℕ) × List ℕ)
data_from sol eol =
    control eol.1 >>= (λ ctl. nibble (codes " off=") ctl.1 >>= (λ off. Some ((ctl.0, record { sol = sol; eol = eol.0 }, off.0), off.1)))

pub data_back : (ctl : Ctl) (ends : Ends) (off : ℕ) (rest : List ℕ) → ctl.set < 16 → ctl.reset < 16 → off < 16 → NoData rest →
    data_fields (data_then ctl ends off rest) ≡ Some ((ctl, ends, off), rest)
unfolding data_fields data_from
data_back ctl ends off rest set_small reset_small off_small missing =
    let off_rest = nibble_text (codes " off=") off ++ rest in
    let control_rest = control_then ctl off_rest in
    let eol_rest = flag_text (codes " eol") ends.eol ++ control_rest in
    let sol_is = flag_back (codes " sol") eol_rest ends.sol refl
    (flag_not (codes " sol") (codes " eol") control_rest ends.eol refl
    (control_not (codes " sol") ctl off_rest (λ _. refl) (λ _. refl) (λ _. refl)
    (nibble_not (codes " sol") (codes " off=") rest off (λ _. refl) missing.sol)))
    in
    let eol_is = flag_back (codes " eol") control_rest ends.eol refl
    (control_not (codes " eol") ctl off_rest (λ _. refl) (λ _. refl) (λ _. refl)
    (nibble_not (codes " eol") (codes " off=") rest off (λ _. refl) missing.eol))
    in
    let control_is = control_back ctl off_rest set_small reset_small (record {
      irq = nibble_not (codes " irq") (codes " off=") rest off (λ _. refl) missing.irq;
      set = nibble_not (codes " set=") (codes " off=") rest off (λ _. refl) missing.set;
      reset = nibble_not (codes " reset=") (codes " off=") rest off (λ _. refl) missing.reset;
    }) in
    let off_is = nibble_read (codes " off=") rest off off_small (λ _. refl) missing.off in
    ap (λ (sol : Bool × List ℕ). data_from sol.0 (flag (codes " eol") sol.1)) sol_is
    ∙ ap (data_from ends.sol) eol_is
    ∙ ap (λ found. found
    >>= (λ (ctl : Ctl × List ℕ). nibble (codes " off=") ctl.1 >>= (λ (off : ℕ × List ℕ). Some ((ctl.0, ends, off.0), off.1)))) control_is
    ∙ ap (λ found. found >>= (λ (off : ℕ × List ℕ). Some ((ctl, ends, off.0), off.1))) off_is

-- ---- counts and addresses

pub count_back : (n byte : ℕ) (rest : List ℕ) → n < 4096 → is_decimal byte ≡ false →
    count (count_text n ++ byte ∷ rest) ≡ Some (n, byte ∷ rest)
unfolding count
count_back n byte rest small is =
    let fits : nat_lt n 4096 ≡ true = lt-ltb n 4096 small in
    ap if_twelve_bits (number_back 4 n byte rest (omega arith) (omega arith) (omega arith) is) ∙ (rw fits refl)

pub at_back : (n : ℕ) (rest : List ℕ) → n < 2 ^ 32 → address (at_text n ++ rest) ≡ Some (n, rest)
unfolding address
at_back n rest small = address_back n rest small

abbrev pub counts_then : ℕ → ℕ → ℕ → List ℕ → List ℕ
counts_then a b c rest = count_text a ++ (count_text b ++ (count_text c ++ rest))

pub counts_grouped : (a b c : ℕ) (rest : List ℕ) → counts_text (a ∷ b ∷ c ∷ []) ++ rest ≡ counts_then a b c rest
counts_grouped a b c rest =
    append_assoc (count_text a) (count_text b ++ count_text c) rest
    ∙ ap (λ (text : List ℕ). count_text a ++ text) (append_assoc (count_text b) (count_text c) rest)

pub counts_back : (a b c byte : ℕ) (rest : List ℕ) → a < 4096 → b < 4096 → c < 4096 → is_decimal byte ≡ false →
    three_counts (counts_then a b c (byte ∷ rest)) ≡ Some (a ∷ b ∷ c ∷ [], byte ∷ rest)
unfolding three_counts
counts_back a b c byte rest a_small b_small c_small is =
    let two : List ℕ = decimal c ++ (byte ∷ rest) in
    let one : List ℕ = decimal b ++ (count_text c ++ (byte ∷ rest)) in
    ap (λ found. found >>= (λ (first : ℕ × List ℕ). count first.1
    >>= (λ (second : ℕ × List ℕ). count second.1 >>= (λ (third : ℕ × List ℕ). Some (first.0 ∷ second.0 ∷ third.0 ∷ [], third.1)))))
    (count_back a 32 one a_small refl)
    ∙ ap
    (λ found. found >>= (λ (second : ℕ × List ℕ). count second.1 >>= (λ (third : ℕ × List ℕ). Some (a ∷ second.0 ∷ third.0 ∷ [], third.1))))
    (count_back b 32 two b_small refl)
    ∙ ap (λ found. found >>= (λ (third : ℕ × List ℕ). Some (a ∷ b ∷ third.0 ∷ [], third.1))) (count_back c byte rest c_small is)

abbrev pub addresses_then : ℕ → ℕ → ℕ → List ℕ → List ℕ
addresses_then a b c rest = at_text a ++ (at_text b ++ (at_text c ++ rest))

pub addresses_grouped : (a b c : ℕ) (rest : List ℕ) → addresses_text (a ∷ b ∷ c ∷ []) ++ rest ≡ addresses_then a b c rest
addresses_grouped a b c rest =
    append_assoc (at_text a) (at_text b ++ at_text c) rest
    ∙ ap (λ (text : List ℕ). at_text a ++ text) (append_assoc (at_text b) (at_text c) rest)

pub addresses_back : (a b c : ℕ) (rest : List ℕ) → a < 2 ^ 32 → b < 2 ^ 32 → c < 2 ^ 32 →
    three_addresses (addresses_then a b c rest) ≡ Some (a ∷ b ∷ c ∷ [], rest)
unfolding three_addresses
addresses_back a b c rest a_small b_small c_small =
    ap (λ found. found >>= (λ (first : ℕ × List ℕ). address first.1
    >>= (λ (second : ℕ × List ℕ). address second.1 >>= (λ (third : ℕ × List ℕ). Some (first.0 ∷ second.0 ∷ third.0 ∷ [], third.1)))))
    (at_back a (at_text b ++ (at_text c ++ rest)) a_small)
    ∙ ap (λ found. found
    >>= (λ (second : ℕ × List ℕ). address second.1 >>= (λ (third : ℕ × List ℕ). Some (a ∷ second.0 ∷ third.0 ∷ [], third.1))))
    (at_back b (at_text c ++ rest) b_small)
    ∙ ap (λ found. found >>= (λ (third : ℕ × List ℕ). Some (a ∷ b ∷ third.0 ∷ [], third.1))) (at_back c rest c_small)

-- ---- what begins a count or an address is no field

digit_is_no_field : (d : ℕ) (rest : List ℕ) → 48 ≤ d → d < 58 → NoData (32 ∷ d ∷ rest)
digit_is_no_field d rest low high =
    let s : (d == 115) ≡ false = ne_eqb d 115 (λ is. omega arith) in
    let e : (d == 101) ≡ false = ne_eqb d 101 (λ is. omega arith) in
    let i : (d == 105) ≡ false = ne_eqb d 105 (λ is. omega arith) in
    let r : (d == 114) ≡ false = ne_eqb d 114 (λ is. omega arith) in
    let o : (d == 111) ≡ false = ne_eqb d 111 (λ is. omega arith) in
    record { sol = rw s refl; eol = rw e refl; irq = rw i refl; set = rw s refl; reset = rw r refl; off = rw o refl }

-- before a digit there are none
pub none_back : (d : ℕ) (rest : List ℕ) → 48 ≤ d → d < 58 →
    data_fields (32 ∷ d ∷ rest) ≡ Some ((record { irq = false; set = 0; reset = 0 }, record { sol = false; eol = false }, 0), 32 ∷ d ∷ rest)
none_back d rest low high =
    data_back (record { irq = false; set = 0; reset = 0 }) (record { sol = false; eol = false }) 0 (32 ∷ d ∷ rest) (omega arith)
    (omega arith) (omega arith) (digit_is_no_field d rest low high)

pub count_is_no_field : (n : ℕ) (rest : List ℕ) → n < 4096 → NoData (count_text n ++ rest)
count_is_no_field n rest small =
    let start = starts_decimal n (omega arith) in
    rw start.is (digit_is_no_field start.first (start.rest ++ rest) start.low start.high)

pub address_is_no_field : (n : ℕ) (rest : List ℕ) → n < 2 ^ 32 → NoControl (at_text n ++ rest)
address_is_no_field n rest small =
    let first = digit_glyph false (n / 2 ^ 28 % 16) in
    let low : first < 103 = glyph-small (n / 2 ^ 28 % 16) (omega arith) in
    let s : (first == 115) ≡ false = ne_eqb first 115 (λ is. omega arith) in
    let i : (first == 105) ≡ false = ne_eqb first 105 (λ is. omega arith) in
    let r : (first == 114) ≡ false = ne_eqb first 114 (λ is. omega arith) in
    rw (address_digits n small) (record { irq = rw i refl; set = rw s refl; reset = rw r refl })

-- ---- data begin with a space
pub record Spaced (text : List ℕ) : Type 0 where
  pub rest : List ℕ
  pub is : text ≡ 32 ∷ rest

flag_spaced : (name rest : List ℕ) (b : Bool) → Spaced (name ++ rest) → Spaced rest → Spaced (flag_text name b ++ rest)
flag_spaced name rest true there missing = there
flag_spaced name rest false there missing = missing

nibble_spaced_by : (test : Bool) (name rest : List ℕ) (n : ℕ) → ((text : List ℕ) → Spaced (name ++ text)) → Spaced rest →
    Spaced ((if test then [] else name ++ digits 16 false n) ++ rest)
nibble_spaced_by true name rest n there missing = missing
nibble_spaced_by false name rest n there missing = rw (append_assoc name (digits 16 false n) rest) (there (digits 16 false n ++ rest))

nibble_spaced : (name rest : List ℕ) (n : ℕ) → ((text : List ℕ) → Spaced (name ++ text)) → Spaced rest → Spaced (nibble_text name n ++ rest)
nibble_spaced name rest n there missing = nibble_spaced_by (n == 0) name rest n there missing

pub data_spaced : (ctl : Ctl) (ends : Ends) (off : ℕ) (rest : List ℕ) → Spaced rest → Spaced (data_then ctl ends off rest)
data_spaced ctl ends off rest spaced =
    flag_spaced (codes " sol") _ ends.sol (record { rest = _; is = refl })
    (flag_spaced (codes " eol") _ ends.eol (record { rest = _; is = refl })
    (flag_spaced (codes " irq") _ ctl.irq (record { rest = _; is = refl })
    (nibble_spaced (codes " set=") _ ctl.set (λ text. record { rest = _; is = refl })
    (nibble_spaced (codes " reset=") _ ctl.reset (λ text. record { rest = _; is = refl })
    (nibble_spaced (codes " off=") _ off (λ text. record { rest = _; is = refl }) spaced)))))
