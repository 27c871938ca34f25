-- The names of orders and registers.
use Rattle.std.specs.Prelude.{◌≡◌, ℕ, ◌-◌, List, ◌⊎◌, codes, if◌then◌else◌}
use Rattle.std.specs.Str.{bytes_eq}
use Rattle.bits_text.specs.HiLo.{swapped_index}

-- a text is the name of an order
abbrev pub IsOrderName : List ℕ → Type 0
IsOrderName name = (name ≡ codes "lsb0") ⊎ (name ≡ codes "msb0") ⊎ (name ≡ codes "hilo")

-- a text is the name of a register
abbrev pub IsRegisterName : List ℕ → Type 0
IsRegisterName name =
    (name ≡ codes "u8") ⊎ (name ≡ codes "u16") ⊎ (name ≡ codes "u32") ⊎ (name ≡ codes "u64") ⊎ (name ≡ codes "usize") ⊎ (name ≡ codes "u128")

-- the width in bits of the register of this name, and 8 for no name
abbrev pub named_width : List ℕ → ℕ
named_width name =
    if bytes_eq name (codes "u16")
    then 16
    else (if bytes_eq name (codes "u32")
    then 32
    else (if bytes_eq name (codes "u64")
    then 64
    else (if bytes_eq name (codes "usize")
    then 64
    else (if bytes_eq name (codes "u128") then 128 else 8))))

-- the position of index i under the order of this name in a register of `bits` bits, and i for no name
abbrev pub named_position : List ℕ → ℕ → ℕ → ℕ
named_position name bits i =
    if bytes_eq name (codes "msb0")
    then bits - 1 - i
    else (if bytes_eq name (codes "hilo") then swapped_index i else i)
