-- What feeds globals.
use Rattle.std.specs.Prelude.{◌≡◌, ℕ, zero, suc, ◌||◌, Bool, true, false, Option, Some, List, [], ◌∷◌}
use Rattle.std.specs.Option.{option_map_or, option_and_then}
use Rattle.ice_base.specs.declared.number.TileAt.{TileAt}
use Rattle.ice_base_values.specs.Order.{IsCycle}
use Rattle.ice_chip.specs.Database.{Parts}
use Rattle.ice_chip.specs.Lookups.{global_of, kind_at, wire_named}
use Rattle.ice_chip.specs.WireNames.{fabout_name}
use Rattle.ice_chip.specs.declared.rows.TileKind.TheVariants.{Io}
use Rattle.ice_decode.specs.declared.role.Role.{Role}
use Rattle.ice_decode.specs.declared.role.Role.TheVariants.{Plain, Output, LookUp, CarryOut, PadInput, RamOutput, Global, CarryIn, ClockEnable}
use Rattle.ice_bits.specs.Configuration.{Bits}
use Rattle.ice_decode.specs.declared.fault.DecodeFault.{DecodeFault}
use Rattle.ice_decode.specs.declared.fault.DecodeFault.TheVariants.{NoMemory}
use Rattle.ice_decode.specs.Refusals.{IsFaultOf}
use Rattle.ice_decode.specs.Reads.{global_feed, wire_point}
use Rattle.ice_decode.specs.Drivers.{role_of}

-- No wire that feeds a global is a global itself.
pub record FeedsNoGlobal (parts : Parts) : Type 0 where
  pub none : (n m w : ℕ) → global_feed parts n ≡ Some (wire_point w) → role_of parts w ≡ Global m → ⊥

-- the number of the global that a role is: in a list, which is empty for the others, and 0 for the others
abbrev pub global_numbers : Role → List ℕ
global_numbers (Global n) = n ∷ []
global_numbers role = []

abbrev pub global_number : Role → ℕ
global_number (Global n) = n
global_number role = 0

-- the wire that feeds a global
abbrev pub feed_of : Parts → ℕ → Option ℕ
feed_of parts n = option_and_then (λ t. wire_named parts t fabout_name) (global_of parts n)

-- the global whose wire feeds a global, where there is one
abbrev pub feeders : Parts → ℕ → List ℕ
feeders parts n = option_map_or (λ w. global_numbers (role_of parts w)) (feed_of parts n) []

-- Some globals feed each other in a ring: each is fed by the next one, and the last by the first. In bits that lead nothing into them that is
-- a loop.
abbrev pub HasGlobalRing : Parts → Type 0
HasGlobalRing parts = (ring : List ℕ) × IsCycle (feeders parts) ring

-- none do
pub record IsRingless (parts : Parts) : Type 0 where
  pub none : HasGlobalRing parts → ⊥

-- bits for whose faults, but want of memory, the ring of globals is to blame
abbrev pub FaultsAreRings : Parts → Bits → List (ℕ × ℕ × ℕ) → Type 0
FaultsAreRings parts bits extras = (fault : DecodeFault) → IsFaultOf parts bits extras fault → (fault ≡ NoMemory → ⊥) → HasGlobalRing parts

-- each global is fed by an IO tile, as far as the database names a tile for it
pub record AreFedByIo (parts : Parts) : Type 0 where
  pub each : (n : ℕ) (t : TileAt) → global_of parts n ≡ Some t → kind_at parts t ≡ Some Io

-- ---- whether a global feeds one
abbrev pub is_global : Role → Bool
is_global Plain = false
is_global (Output t i) = false
is_global (LookUp t i) = false
is_global (CarryOut t i) = false
is_global (PadInput pad) = false
is_global (RamOutput pad) = false
is_global (Global n) = true
is_global (CarryIn t) = false
is_global ClockEnable = false

abbrev pub is_fed_by_global : Parts → ℕ → Bool
is_fed_by_global parts n = option_map_or (λ w. is_global (role_of parts w)) (feed_of parts n) false

-- one of the globals below this one is fed by a global
abbrev pub some_fed_below : Parts → ℕ → Bool
some_fed_below parts zero = false
some_fed_below parts (suc n) = some_fed_below parts n || is_fed_by_global parts n
