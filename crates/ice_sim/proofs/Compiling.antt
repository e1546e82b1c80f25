-- What a configured chip needs where it is compiled.
use Rattle.std.proofs.Common.{◌≡◌, ℕ, ◌+◌, ◌*◌, Bool, List, length, get_or, replicate, All, ap, sym, subst, arith}
use Rattle.std.proofs.lemmas.Option.{slice_get-get_or}
use Rattle.ice_chip.specs.Database.{Parts}
use Rattle.ice_chip.specs.declared.rows.Pad.{Pad}
use Rattle.ice_bits.specs.Configuration.{Bits}
use Rattle.ice_decode.specs.declared.point.Point.{Point}
use Rattle.ice_decode.specs.declared.point.Point.TheVariants.{Wire, Carry}
use Rattle.ice_decode.specs.Pads.{stores}
use Rattle.ice_decode.specs.Reads.{count_points}
use Rattle.ice_decode.specs.Loops.{IsOrderOf}
use Rattle.ice_decode.specs.Points.{HasWire}
use Rattle.ice_sim_sweep.specs.declared.parts.Memory.{Memory}
use Rattle.ice_sim_sweep.specs.declared.plan.SweepPlan.{SweepPlan}
use Rattle.ice_sim_sweep.specs.Sweeps.{blank}
use Rattle.ice_sim.specs.declared.stores.Stores.{Stores}
use Rattle.ice_sim.specs.Layouts.{IsPointBelow}
use Rattle.ice_sim.specs.ConfiguredChips.{AreStoresOf}
use Rattle.ice_sim.specs.ChipRuns.{IsChipRun, IsCompiled}
use Rattle.ice_sim.proofs.PointNumbers.{IsIn, is_in, number_within}
use Rattle.ice_sim.proofs.ChipRunning.{run_start}
use Rattle.ice_sim.proofs.StoreLists.{stores_long}

has_wire : (parts : Parts) (p : Point) → IsIn parts p → HasWire parts p
has_wire parts (Wire w) inside = inside
has_wire parts (Carry t i) inside = tt

-- the points of an order of evaluation have numbers below their count
pub order_below : (parts : Parts) (bits : Bits) (extras : List (ℕ × ℕ × ℕ)) (order : List Point) (count : ℕ) → IsOrderOf parts bits extras order → count ≡ count_points parts → All (IsPointBelow parts count) order
order_below parts bits extras order count o e = λ k d lt.
    let p : Point = get_or order k d in
    let inside = is_in parts p (o.within p (k, slice_get-get_or order k d lt)) in
    record { wire = has_wire parts p inside; below = (let below = number_within parts p inside in omega arith) }

-- how many stores there are
pub counted : (parts : Parts) (s : Stores) → AreStoresOf parts s → length s.cells.items + 2 * length s.pads.items ≡ length (stores parts)
counted parts s are =
    let some = ap length are.cells in
    let more = ap length are.pads in
    let long = stores_long parts in
    omega arith

-- a run begins with what was compiled
pub run_begins : (parts : Parts) (bits : Bits) (extras : List (ℕ × ℕ × ℕ)) (bonded : List Pad) (plan : SweepPlan) (memories : List Memory) (values : List Bool) → (c : IsCompiled parts bits extras bonded plan values)
    → memories ≡ replicate (length (stores parts)) blank → IsChipRun parts bits extras bonded c.feeds plan memories values
run_begins parts bits extras bonded plan memories values c e =
    subst (λ (ms : List Memory). IsChipRun parts bits extras bonded c.feeds plan ms values) (sym e)
    (subst (λ (vs : List Bool). IsChipRun parts bits extras bonded c.feeds plan (replicate (length (stores parts)) blank) vs) (sym c.empty)
    (run_start parts bits extras bonded c.feeds plan c.planned))
