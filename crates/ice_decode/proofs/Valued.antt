-- The points of a circuit have values, and faulty bits have no circuit.
use Rattle.std.proofs.Common.{◌≡◌, ◌≢◌, ℕ, ◌+◌, ◌*◌, ◌<◌, Bool, false, Some, List, refl, ap, sym, ◌∙◌, subst, length, map, arith}
use Rattle.std.specs.Prelude.{unwrap_or}
use Rattle.std.proofs.lemmas.Option.{slice_get_within}
use Rattle.ice_base_values.specs.System.{value, reading}
use Rattle.ice_base_values.specs.Order.{At, Has}
use Rattle.ice_base_values.proofs.Values.{value_there, value_ranked}
use Rattle.ice_base_values.proofs.Gaps.{local_gapped}
use Rattle.ice_chip.specs.Database.{Parts}
use Rattle.ice_chip.specs.IsRead.{IsRead}
use Rattle.ice_chip.specs.declared.rows.Pad.{Pad}
use Rattle.ice_bits.specs.Configuration.{Bits, Configuration, bits_of}
use Rattle.ice_decode.specs.declared.point.Point.{Point}
use Rattle.ice_decode.specs.declared.fault.DecodeFault.{DecodeFault}
use Rattle.ice_decode.specs.declared.fault.DecodeFault.TheVariants.{Contention, ForeignSource, ForeignFunction, ForeignExtra, ChipLoop, PinType, NoMemory}
use Rattle.ice_decode.specs.Cells.{logic_tiles}
use Rattle.ice_decode.specs.Reads.{count_points, reads_at}
use Rattle.ice_decode.specs.Points.{points}
use Rattle.ice_decode.specs.Meaning.{makes_at, chip_system, point_level}
use Rattle.ice_decode.specs.Loops.{IsOrderOf}
use Rattle.ice_decode.specs.Refusals.{CircuitData, IsCircuitOf, IsFaultless, IsFaultOf}
use Rattle.ice_decode.specs.declared.point.Point.TheVariants.{Wire}
use Rattle.ice_decode.proofs.PointPlaces.{cells_long, points_long}
use Rattle.ice_decode.proofs.ReadPoints.{read_there}
use Rattle.ice_decode.proofs.Walks.{all_valued}

pub counted : (parts : Parts) → count_points parts ≡ parts.wires + 8 * length (logic_tiles parts)
counted parts = ap (λ n. parts.wires + n) (cells_long (logic_tiles parts))

-- the place of a point in an order is below the number of the points and one
pub place_below : (parts : Parts) (bits : Bits) (extras : List (ℕ × ℕ × ℕ)) (order : List Point) → IsOrderOf parts bits extras order → (i : ℕ) (p : Point) → At order i p → i < count_points parts + 1
place_below parts bits extras order o i p at =
    let lt = slice_get_within order i p at in
    let few = o.few in
    let long = points_long parts.wires (logic_tiles parts) in
    let count = counted parts in
    omega arith

pub valued : (parts : Parts) (bits : Bits) (extras : List (ℕ × ℕ × ℕ)) (order : List Point) → IsOrderOf parts bits extras order → (bonded : List Pad) (levels kept : List Bool) (p : Point) → Has (points parts) p
    → value (chip_system parts bits extras bonded levels kept) (count_points parts + 1) p ≡ Some (point_level parts bits extras bonded levels kept p)
valued parts bits extras order o bonded levels kept p has =
    let there = o.each p has in
    let found = value_there (chip_system parts bits extras bonded levels kept) (At order) o.after (count_points parts + 1) there.0 p there.1 (place_below parts bits extras order o there.0 p there.1) in
    found.1 ∙ ap (λ (x : Bool). Some x) (sym (ap (λ x. unwrap_or x false) found.1))

pub unique : (parts : Parts) (bits : Bits) (extras : List (ℕ × ℕ × ℕ)) (order : List Point) → IsOrderOf parts bits extras order → (bonded : List Pad) (levels kept : List Bool) (v : Point → Bool)
    → ((p : Point) → Has (points parts) p → v p ≡ makes_at parts bits extras bonded levels kept p (map (reading false v) (reads_at parts bits extras p)))
    → (p : Point) → Has (points parts) p → point_level parts bits extras bonded levels kept p ≡ v p
unique parts bits extras order o bonded levels kept v meets p has =
    let there = o.each p has in
    ap (λ x. unwrap_or x false)
    (value_ranked (chip_system parts bits extras bonded levels kept) (At order) v o.after
    (λ i q at. meets q (o.within q (i, at)) ∙ sym (local_gapped (reads_at parts bits extras) false (makes_at parts bits extras bonded levels kept) v q))
    (count_points parts + 1) there.0 p there.1 (place_below parts bits extras order o there.0 p there.1))

-- without a fault no order is needed: a loop alone could leave a point without a value
pub faultless_valued : (parts : Parts) (bits : Bits) (extras : List (ℕ × ℕ × ℕ)) → IsRead parts → IsFaultless parts bits extras
    → (bonded : List Pad) (levels kept : List Bool) (p : Point) → Has (points parts) p
    → value (chip_system parts bits extras bonded levels kept) (count_points parts + 1) p ≡ Some (point_level parts bits extras bonded levels kept p)
faultless_valued parts bits extras read faultless bonded levels kept p has =
    let system = chip_system parts bits extras bonded levels kept in
    let found = all_valued system (points parts) (Wire (record { 0 = 0 })) (read_there parts bits extras read) faultless.loopless.none p has in
    let long : length (points parts) ≡ count_points parts = points_long parts.wires (logic_tiles parts) ∙ sym (counted parts) in
    let enough : value system (count_points parts + 1) p ≡ Some found.0 = subst (λ n. value system (n + 1) p ≡ Some found.0) long found.1 in
    enough ∙ ap (λ (x : Bool). Some x) (sym (ap (λ x. unwrap_or x false) enough))

-- ---- faults
faultless_has_none : (parts : Parts) (bits : Bits) (extras : List (ℕ × ℕ × ℕ)) (fault : DecodeFault) → fault ≢ NoMemory → IsFaultOf parts bits extras fault → IsFaultless parts bits extras → ⊥
faultless_has_none parts bits extras (Contention wire rows) ne is none = let no = none.of_chip.uncontended in cc (is, no)
faultless_has_none parts bits extras (ForeignSource wire) ne is none = let yes = is.first in let no = none.of_chip.sources in cc (yes, no)
faultless_has_none parts bits extras (ForeignFunction tile line) ne is none = let yes = is.first in let no = none.of_chip.functions in cc (yes, no)
faultless_has_none parts bits extras (ForeignExtra extra) ne is none = let yes = is.first in let no = none.of_chip.extras_known in cc (yes, no)
faultless_has_none parts bits extras (ChipLoop wires) ne is none = none.loopless.none is.is_loop.cycle is.is_loop.closes
faultless_has_none parts bits extras (PinType pad value) ne is none = let yes = is.first in let no = none.types in cc (yes, no)
faultless_has_none parts bits extras NoMemory ne is none = ne refl

pub no_circuit : (parts : Parts) (k : Configuration) (fault : DecodeFault) → fault ≢ NoMemory → IsFaultOf parts (bits_of k) k.extras fault → (circuit : CircuitData) → IsCircuitOf parts k circuit → ⊥
no_circuit parts k fault ne is circuit of = faultless_has_none parts (bits_of k) k.extras fault ne is of.faultless
