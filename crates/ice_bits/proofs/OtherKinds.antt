-- A function has no bits in tiles of other kinds.
use Rattle.std.proofs.Common.{◌≡◌, ℕ, false, Option, None, Some, List, refl, ap}
use Rattle.std.specs.Prelude.{slice_get}
use Rattle.std.specs.Option.{option_map_or, option_and_then}
use Rattle.ice_base.specs.declared.number.TileAt.{TileAt}
use Rattle.ice_base.specs.declared.bit.BitAt.{BitAt}
use Rattle.ice_chip.specs.Database.{Parts, FunctionRow}
use Rattle.ice_chip.specs.Lookups.{kind_at, function_of}
use Rattle.ice_chip.specs.declared.rows.TileKind.{TileKind}
use Rattle.ice_bits.specs.Settings.{function_bit}
use Rattle.ice_bits.specs.LackedFunctions.{LacksFunctionAt, OtherKindsReadZero}

no_place : (parts : Parts) (t : TileAt) (name : List ℕ) (k : ℕ) → LacksFunctionAt parts t name → function_bit parts t name k ≡ None
no_place parts t name k lacks = by (kind_at parts t) refl
  where
    bit_of : TileKind → Option BitAt
    bit_of kind = option_and_then (λ (f : FunctionRow). slice_get f.bits k) (function_of parts kind name)

    by : (o : Option TileKind) → kind_at parts t ≡ o → option_and_then bit_of o ≡ None
    by None e = refl
    by (Some kind) e = ap (option_and_then (λ (f : FunctionRow). slice_get f.bits k)) (lacks kind e)

pub others_are_zero : OtherKindsReadZero
others_are_zero parts t name k lacks =
    let none = no_place parts t name k lacks in
    (none, λ bits. ap (λ place. option_map_or (bits t) place false) none)
