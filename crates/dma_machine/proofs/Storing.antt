-- Storing bytes one by one.
use Rattle.std.proofs.Common.{◌≡◌, ℕ, ◌+◌, ◌%◌, ◌<◌, ◌^◌, ◌==◌, Bool, true, false, List, [], ◌∷◌, length, drop, refl, get_or, ap, ◌∙◌}
use Rattle.std.proofs.Common.{arith, add-one, drop-cons, if◌then◌else◌}
use Rattle.std.proofs.Math.Nat.{zero-div}
use Rattle.machine_model.specs.Turns.{Store, is_off, stored_all, stores_from}
use Rattle.page_table.specs.Blocks.{Block, stored, stored_run}

-- the stores of the bytes from a place on: of the byte there, unless its lane is off, and of the others
abbrev stores_then : Bool → ℕ → ℕ → ℕ → ℕ → List ℕ → List Store
stores_then true off lane address k bytes = stores_from off (lane + 1) (address + 1) (drop (k + 1) bytes)
stores_then false off lane address k bytes =
    record { address = address; byte = get_or bytes k 0 } ∷ stores_from off (lane + 1) (address + 1) (drop (k + 1) bytes)

stores_cons : (here : Bool) (off lane address : ℕ) (byte : ℕ) (rest : List ℕ) → is_off off lane ≡ here →
    stores_from off lane address (byte ∷ rest)
    ≡ (if here then stores_from off (lane + 1) (address + 1) rest else record {
      address = address;
      byte = byte;
    } ∷ stores_from off (lane + 1) (address + 1) rest)
stores_cons here off lane address byte rest e =
    ap (λ b. if b then stores_from off (lane + 1) (address + 1) rest else record {
      address = address;
      byte = byte;
    } ∷ stores_from off (lane + 1) (address + 1) rest) e

next_byte : (k : ℕ) (bytes : List ℕ) → k < length bytes → drop k bytes ≡ get_or bytes k 0 ∷ drop (k + 1) bytes
next_byte k bytes h = rw add-one (drop-cons bytes k 0 h)

pub lane_on : (off lane address k : ℕ) (bytes : List ℕ) → k < length bytes → is_off off lane ≡ false →
    stores_from off lane address (drop k bytes) ≡ stores_then false off lane address k bytes
lane_on off lane address k bytes h e = ap (stores_from off lane address) (next_byte k bytes h) ∙ stores_cons false off lane address _ _ e

pub lane_off : (off lane address k : ℕ) (bytes : List ℕ) → k < length bytes → is_off off lane ≡ true →
    stores_from off lane address (drop k bytes) ≡ stores_then true off lane address k bytes
lane_off off lane address k bytes h e = ap (stores_from off lane address) (next_byte k bytes h) ∙ stores_cons true off lane address _ _ e

no_lane_off : (lane : ℕ) → is_off 0 lane ≡ false
no_lane_off lane = ap (λ n. n % 2 ^ 1 == 1) (zero-div (2 ^ lane))

-- bytes whose lanes are all on are stored one behind the other
pub record AreRun (memory : List Block) (lane address : ℕ) (bytes : List ℕ) : Type 0 where
  pub stores : stored_all memory (stores_from 0 lane address bytes) ≡ stored_run memory address bytes
  pub many : length (stores_from 0 lane address bytes) ≡ length bytes

pub all_stored : (memory : List Block) (lane address : ℕ) (bytes : List ℕ) → AreRun memory lane address bytes
all_stored memory lane address [] = record { stores = refl; many = refl }
all_stored memory lane address (byte ∷ bytes) =
    let first = stores_cons false 0 lane address byte bytes (no_lane_off lane) in
    let more = all_stored (stored memory address byte) (lane + 1) (address + 1) bytes in
    record {
      stores = ap (stored_all memory) first ∙ more.stores;
      many = omega (arith, ap length first, more.many);
    }
