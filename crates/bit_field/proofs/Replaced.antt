-- A word with another number in one field: the three parts that it has, and its other fields.
use Rattle.std.proofs.Common.{subst, ℕ, ◌+◌, ◌-◌, ◌*◌, ◌/◌, ◌%◌, ◌^◌, ◌≡◌, ◌≤◌, ◌<◌, inl, inr, ap, sym, ◌∙◌, arith}
use Rattle.std.proofs.lemmas.Nat.{pow_pos, pow-add, shr_split, shr-shr, shr_below, mod_below, mul-add-lt, shr_high, mod_low, field_of}
use Rattle.std.proofs.lemmas.Nat.{shl_whole}
use Rattle.std.proofs.Math.Nat.{mul_comm}
use Rattle.std.proofs.Math.Pow.{mod-mod-pow}
use Rattle.bit_field.specs.Bits.{IsApart, bits, with_bits}

-- what is above the field, and the new number
abbrev pub upper : ℕ → ℕ → ℕ → ℕ → ℕ
upper low width word value = word / 2 ^ (low + width) * 2 ^ width + value

-- the word is its quotient and its remainder, and the quotient has the field last
pub split_twice : (low width word : ℕ) → (word / 2 ^ (low + width) * 2 ^ width + bits low width word) * 2 ^ low + word % 2 ^ low ≡ word
split_twice low width word =
    rw (← shr-shr word low width) (rw (shr_split (word / 2 ^ low) width) (shr_split word low))

pub replaced_parts : (low width word value : ℕ) → with_bits low width word value ≡ upper low width word value * 2 ^ low + word % 2 ^ low
replaced_parts low width word value = omega (arith, split_twice low width word)

pub replaced_below : (low width word value : ℕ) → low + width ≤ 32 → word < 2 ^ 32 → value < 2 ^ width →
    with_bits low width word value < 2 ^ 32
replaced_below low width word value h small fits =
    let all_bits : 32 ≡ 32 - (low + width) + width + low = omega arith
    in let whole : 2 ^ 32 ≡ 2 ^ (32 - (low + width)) * 2 ^ width * 2 ^ low =
    rw (← pow-add 2 (32 - (low + width)) width, ← pow-add 2 (32 - (low + width) + width) low) (ap (λ n. 2 ^ n) all_bits)
    in let two_parts : 32 ≡ 32 - (low + width) + (low + width) = omega arith
    in let top : word / 2 ^ (low + width) < 2 ^ (32 - (low + width)) =
    shr_below word (32 - (low + width)) (low + width) (subst (λ n. word < 2 ^ n) two_parts small)
    in let high : upper low width word value < 2 ^ (32 - (low + width)) * 2 ^ width =
    subst (λ n. upper low width word value < n) (mul_comm (2 ^ width) (2 ^ (32 - (low + width))))
    (mul-add-lt (word / 2 ^ (low + width)) (2 ^ width) value (2 ^ (32 - (low + width))) top fits)
    in let all : upper low width word value * 2 ^ low + word % 2 ^ low < 2 ^ low * (2 ^ (32 - (low + width)) * 2 ^ width) =
    mul-add-lt (upper low width word value) (2 ^ low) (word % 2 ^ low) (2 ^ (32 - (low + width)) * 2 ^ width) high
    (mod_below word (2 ^ low) (pow_pos low))
    in rw (replaced_parts low width word value) (omega (arith, whole, all))

pub replaced_value : (low width word value : ℕ) → value < 2 ^ width → bits low width (with_bits low width word value) ≡ value
replaced_value low width word value fits =
    rw (
      replaced_parts low width word value,
      shr_high (upper low width word value) low (word % 2 ^ low) (mod_below word (2 ^ low) (pow_pos low)),
    )
    (mod_low (word / 2 ^ (low + width)) width value fits)

-- what is below the field, and what is above it, are as they were
pub replaced_low : (low width word value : ℕ) → with_bits low width word value % 2 ^ low ≡ word % 2 ^ low
replaced_low low width word value =
    rw (replaced_parts low width word value)
    (mod_low (upper low width word value) low (word % 2 ^ low) (mod_below word (2 ^ low) (pow_pos low)))

pub replaced_high : (low width word value : ℕ) → value < 2 ^ width →
    with_bits low width word value / 2 ^ (low + width) ≡ word / 2 ^ (low + width)
replaced_high low width word value fits =
    rw (
      ← shr-shr (with_bits low width word value) low width,
      replaced_parts low width word value,
      shr_high (upper low width word value) low (word % 2 ^ low) (mod_below word (2 ^ low) (pow_pos low)),
    )
    (shr_high (word / 2 ^ (low + width)) width value fits)

-- a field below a bit is that of the remainder there, and one above it is that of the quotient
pub bits_below : (low width gap word : ℕ) → bits low width (word % 2 ^ (gap + width + low)) ≡ bits low width word
bits_below low width gap word = rw (field_of word (gap + width) low) (mod-mod-pow (word / 2 ^ low) gap width)

pub bits_above : (low width gap word : ℕ) → bits (low + gap) width word ≡ bits gap width (word / 2 ^ low)
bits_above low width gap word = ap (λ n. n % 2 ^ width) (sym (shr-shr word low gap))

-- words that agree below a bit, or above it, have the same fields there
pub same_below : (bound first second low width : ℕ) → low + width ≤ bound → first % 2 ^ bound ≡ second % 2 ^ bound →
    bits low width first ≡ bits low width second
same_below bound first second low width h same =
    let place : bound ≡ bound - (low + width) + width + low = omega arith
    in let agree : first % 2 ^ (bound - (low + width) + width + low) ≡ second % 2 ^ (bound - (low + width) + width + low) =
    subst (λ n. first % 2 ^ n ≡ second % 2 ^ n) place same
    in
    sym (bits_below low width (bound - (low + width)) first) ∙ ap (bits low width) agree
    ∙ bits_below low width (bound - (low + width)) second

pub same_above : (bound first second low width : ℕ) → bound ≤ low → first / 2 ^ bound ≡ second / 2 ^ bound →
    bits low width first ≡ bits low width second
same_above bound first second low width h same =
    let place : bound + (low - bound) ≡ low = omega arith
    in subst (λ n. bits n width first ≡ bits n width second) place
    (bits_above bound width (low - bound) first ∙ ap (bits (low - bound) width) same ∙ sym (bits_above bound width (low - bound) second))

pub replaced_others : (low width word value : ℕ) → value < 2 ^ width → (other_low other_width : ℕ) →
    IsApart other_low other_width low width → bits other_low other_width (with_bits low width word value) ≡ bits other_low other_width word
replaced_others low width word value fits other_low other_width (inl below) =
    same_below low (with_bits low width word value) word other_low other_width below (replaced_low low width word value)
replaced_others low width word value fits other_low other_width (inr above) =
    same_above (low + width) (with_bits low width word value) word other_low other_width above (replaced_high low width word value fits)

-- the code's words, where no shift loses a bit
pub replaced_by_shifts : (low width word value field : ℕ) → low + width ≤ 32 → value < 2 ^ width → field ≡ bits low width word →
    word - field * 2 ^ low % 2 ^ 32 + value * 2 ^ low % 2 ^ 32 ≡ with_bits low width word value
replaced_by_shifts low width word value field h fits is =
    let small : field < 2 ^ width = subst (λ n. n < 2 ^ width) (sym is) (mod_below (word / 2 ^ low) (2 ^ width) (pow_pos width))
    in rw (shl_whole field width low 32 small (omega arith), shl_whole value width low 32 fits (omega arith), is)
