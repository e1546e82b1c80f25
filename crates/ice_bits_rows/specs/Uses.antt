-- What usable rows may do with wires.
use Rattle.std.specs.Prelude.{◌≡◌, ℕ, zero, suc, Bool, not, ◌&&◌, List, [], ◌∷◌, ◌++◌}
use Rattle.ice_chip.specs.Database.{Parts}
use Rattle.ice_bits_rows.specs.WireNames.{has_strange_name, may_leave, may_enter}
use Rattle.ice_bits_rows.specs.declared.uses.WireUse.{WireUse}

-- a usable row may come from the wire: it has no name of a memory that is no pin, and a route may leave it
abbrev pub is_source : Parts → ℕ → Bool
is_source parts w = not (has_strange_name parts w) && may_leave parts w

-- it may lead into the wire where a route may enter that
abbrev pub use_at : Parts → ℕ → WireUse
use_at parts w = record { is_source = is_source parts w; is_target = may_enter parts w }

-- the uses of so many wires
unfoldable pub uses_below : Parts → ℕ → List WireUse
uses_below parts zero = []
uses_below parts (suc n) = uses_below parts n ++ use_at parts n ∷ []

-- those of all wires of the chip
abbrev pub AreUses : Parts → List WireUse → Type 0
AreUses parts uses = uses ≡ uses_below parts parts.wires
