-- Bits in the order of their places, and bits that stand once.
use Rattle.std.specs.Prelude.{ℕ, ◌+◌, ◌*◌, Bool, true, not, ◌&&◌, List, [], ◌∷◌, nat_lt, if◌then◌else◌, false}
use Rattle.ice_base.specs.declared.bit.BitAt.{BitAt}
use Rattle.ice_bits_rows.specs.Bundles.{has_bit}

-- the place of a bit as one number
abbrev pub place_code : BitAt → ℕ
place_code p = p.row * 256 + p.col

-- the numbers of these bits rise, and begin with this one or a later one
abbrev pub rises_from : ℕ → List BitAt → Bool
rises_from low [] = true
rises_from low (p ∷ bits) = if nat_lt (place_code p) low then false else rises_from (place_code p + 1) bits

-- no bit stands twice
abbrev pub each_once : List BitAt → Bool
each_once [] = true
each_once (p ∷ bits) = not (has_bit bits p) && each_once bits
