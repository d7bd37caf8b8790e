-- What the value of a key stands for: it has a type, and then it is listed or within bounds.
use Rattle.std.specs.Prelude.{◌≡◌, ℕ, ℤ, pos, negsuc, Bool, ◌&&◌, List, [], ◌∷◌, Option, Some, None, option_map, option_and_then, is_some}
use Rattle.std.specs.Prelude.{ok_or, Result, Ok, Err, if◌then◌else◌, nat_le, ⊤}
use Rattle.std.specs.List.{list_all}
use Rattle.toml.specs.Data.{Data, Items, no_items, item, Members, get_member, as_str, as_integer, as_array}
use Rattle.toml_keys.specs.declared.KeyFault.{KeyFault}
use Rattle.toml_keys.specs.declared.KeyFault.TheVariants.{Missing, WrongKind, OutOfRange}
use Rattle.toml_keys.specs.declared.KeyError.{KeyError}
use Rattle.toml_keys.specs.declared.KeyError.TheVariants.{Bad, Memory}

-- what a key stands for, or its fault
abbrev pub Reading : Type 0 → Type 0
Reading A = Result A KeyFault

infixl 10 ◌>>=◌
abbrev pub ◌>>=◌ : {A B F : Type 0} → Result A F → (A → Result B F) → Result B F
Ok value >>= next = next value
Err fault >>= next = Err fault

-- where there is data: what has the key's type in it, and then what that is within the key's range
abbrev pub judged : {A B : Type 0} → (Data → Option A) → (A → Option B) → Option Data → Reading (Option B)
judged typed ranged None = Ok None
judged typed ranged (Some d) =
    ok_or (typed d) WrongKind >>= (λ a. ok_or (ranged a) OutOfRange >>= (λ b. Ok (Some b)))

abbrev pub at : {A B : Type 0} → (Data → Option A) → (A → Option B) → List ℕ → Members → Reading (Option B)
at typed ranged name members = judged typed ranged (get_member name members)

-- what stands for an absent key: a fault, or a value
abbrev pub required : {A : Type 0} → Reading (Option A) → Reading A
required reading = reading >>= (λ value. ok_or value Missing)

abbrev pub or_else : {A : Type 0} → A → Option A → Reading A
or_else default None = Ok default
or_else default (Some value) = Ok value

abbrev pub otherwise : {A : Type 0} → A → Reading (Option A) → Reading A
otherwise default reading = reading >>= or_else default

-- a word of a list
abbrev pub word : {A : Type 0} → (List ℕ → Option A) → List ℕ → Members → Reading (Option A)
word named = at as_str named

-- a whole number from one to another
abbrev pub between : ℕ → ℕ → ℤ → Option ℕ
between least most (pos n) = if nat_le least n && nat_le n most then Some n else None
between least most (negsuc n) = None

abbrev pub number : ℕ → ℕ → List ℕ → Members → Reading (Option ℕ)
number least most = at as_integer (between least most)

abbrev pub u32_max : ℕ
u32_max = 4294967295

-- the data in an array
abbrev pub list_of : Items → List Data
list_of no_items = []
list_of (item d ds) = d ∷ list_of ds

abbrev pub as_list : Data → Option (List Data)
as_list d = option_map list_of (as_array d)

abbrev pub only_if : {A : Type 0} → (A → Bool) → A → Option A
only_if test a = if test a then Some a else None

-- an array whose members all have a type
abbrev pub list_typed : (Data → Bool) → Data → Option (List Data)
list_typed has_type d = option_and_then (only_if (list_all has_type)) (as_list d)

-- what the members stand for, where each stands for something
abbrev pub cons_both : {A : Type 0} → Option A → Option (List A) → Option (List A)
cons_both (Some a) (Some rest) = Some (a ∷ rest)
cons_both _ _ = None

abbrev pub each : {A : Type 0} → (Data → Option A) → List Data → Option (List A)
each value [] = Some []
each value (d ∷ ds) = cons_both (value d) (each value ds)

-- a list has as many members as it may have
abbrev pub fitting : {A : Type 0} → (List A → Bool) → Option (List A) → Reading (Option (List A))
fitting fits None = Ok None
fitting fits (Some list) = if fits list then Ok (Some list) else Err OutOfRange

abbrev pub list : {A : Type 0} → (Data → Bool) → (Data → Option A) → (List A → Bool) → List ℕ → Members → Reading (Option (List A))
list has_type value fits name members = at (list_typed has_type) (each value) name members >>= fitting fits

abbrev pub is_integer : Data → Bool
is_integer d = is_some (as_integer d)

abbrev pub u32_of : Data → Option ℕ
u32_of d = option_and_then (between 0 u32_max) (as_integer d)

-- an array of whole numbers
abbrev pub is_row : Data → Bool
is_row d = is_some (list_typed is_integer d)

-- an array of two such numbers, or of four
abbrev pub two : Option ℕ → Option ℕ → Option (ℕ × ℕ)
two (Some a) (Some b) = Some (a, b)
two _ _ = None

abbrev pub two_in : List Data → Option (ℕ × ℕ)
two_in (a ∷ b ∷ []) = two (u32_of a) (u32_of b)
two_in _ = None

abbrev pub two_of : Data → Option (ℕ × ℕ)
two_of d = option_and_then two_in (as_list d)

abbrev pub four : Option ℕ → Option ℕ → Option ℕ → Option ℕ → Option (ℕ × ℕ × ℕ × ℕ)
four (Some a) (Some b) (Some c) (Some d) = Some (a, b, c, d)
four _ _ _ _ = None

abbrev pub four_in : List Data → Option (ℕ × ℕ × ℕ × ℕ)
four_in (a ∷ b ∷ c ∷ d ∷ []) = four (u32_of a) (u32_of b) (u32_of c) (u32_of d)
four_in _ = None

abbrev pub four_of : Data → Option (ℕ × ℕ × ℕ × ℕ)
four_of d = option_and_then four_in (as_list d)

-- a fault of a form names its key
abbrev pub told : {A F : Type 0} → (KeyFault → F) → Reading A → Result A F
told fault_of (Ok value) = Ok value
told fault_of (Err fault) = Err (fault_of fault)

-- an error is the fault, or out of memory
abbrev pub Refuses : {A : Type 0} → Reading A → KeyError → Type 0
Refuses reading (Bad fault) = reading ≡ Err fault
Refuses reading Memory = ⊤
