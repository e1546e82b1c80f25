-- The clocks that are promoted are signals that flip-flops read, and they are few.
use Rattle.std.proofs.Common.{◌≡◌, ℕ, zero, suc, ◌+◌, ◌-◌, ◌<◌, ◌≤◌, ◌==◌, true, Option, None, Some, List, [], ◌∷◌, length, map, filter, refl, ap, arith, ltb-true, length-take, min}
use Rattle.std.specs.Prelude.{slice_index_or}
use Rattle.std.specs.List.{flat_map, range_with_len}
use Rattle.std.proofs.lemmas.Bool.{and_parts}
use Rattle.std.proofs.lemmas.Option.{none-some, same_Some}
use Rattle.ice_base.specs.declared.number.SignalNo.{SignalNo}
use Rattle.ice_base_values.specs.Order.{At, Has}
use Rattle.ice_base_values.proofs.Members.{filter_Has, map_Has}
use Rattle.ice_base_values.proofs.Places.{At_take}
use Rattle.ice_net.specs.declared.kind.CellKind.{CellKind}
use Rattle.ice_net.specs.declared.kind.CellKind.TheVariants.{Lut, Cover, Carry, Flop, PadCell, Global}
use Rattle.ice_net.specs.NetlistData.{NetlistData}
use Rattle.ice_net.specs.Uses.{uses_by}
use Rattle.ice_net.specs.Limits.{most_signals}
use Rattle.ice_check.specs.Faults.{uses_of, is_used}
use Rattle.ice_check.specs.Tables.{times}
use Rattle.ice_check_promote.specs.Promoted.{clock_by, clock_of, is_clock, settled_of, is_promotable, promoted_clocks}
use Rattle.ice_check.proofs.Places.{wire, times_has, has_place}
use Rattle.ice_check.proofs.Uses.{used_at}

pub in_range : (a count i x : ℕ) → At (range_with_len a count) i x → x < a + count
in_range a zero i x at = absurd (none-some x at)
in_range a (suc count) zero x at = let same : a ≡ x = same_Some a x at in omega arith
in_range a (suc count) (suc i) x at = let rest : x < a + 1 + count = in_range (a + 1) count i x at in omega arith

-- a place within a list has a number
pub there_at : (xs : List ℕ) (i : ℕ) → i < length xs → (x : ℕ) × At xs i x
there_at [] i lt = absurd (omega (arith, lt))
there_at (x ∷ xs) zero lt = (x, refl)
there_at (x ∷ xs) (suc i) lt = there_at xs i (omega (arith, lt))

-- a clock is one of the netlist's signals that many flip-flops read
pub promotable : (n : NetlistData) (free j clock : ℕ) → At (promoted_clocks n free) j clock → (clock < length n.names) × (is_promotable n clock ≡ true)
promotable n free j clock at =
    let kept = filter (is_promotable n) (range_with_len 0 (length n.names)) in
    let taken = At_take (min free (most_signals - length n.names)) kept j clock at in
    let found = filter_Has (is_promotable n) (range_with_len 0 (length n.names)) clock (j, taken.1) in
    let lt : clock < 0 + length n.names = in_range 0 (length n.names) found.0.0 clock found.0.1 in
    (omega (arith, lt), found.1)

pub clock_below : (n : NetlistData) (free j clock : ℕ) → At (promoted_clocks n free) j clock → clock < length n.names
clock_below n free j clock at = (promotable n free j clock at).0

pub first_in : (ins : List (Option SignalNo)) (x : SignalNo) → slice_index_or ins 0 None ≡ Some x → At ins 0 (Some x)
first_in [] x e = absurd (none-some x e)
first_in (pin ∷ pins) x e = ap Some e

-- a flip-flop reads its clock
clock_read : (kind : CellKind) (ins : List (Option SignalNo)) (x : SignalNo) → clock_by kind ins ≡ Some x → Has (uses_by kind ins) (Some x)
clock_read (Lut table) ins x e = absurd (none-some x e)
clock_read (Cover table width) ins x e = absurd (none-some x e)
clock_read Carry ins x e = absurd (none-some x e)
clock_read (Flop falling enable reset) ins x e = (0, first_in ins x e)
clock_read (PadCell pin_type pullup) ins x e = absurd (none-some x e)
clock_read Global ins x e = absurd (none-some x e)

pub clock_used : (n : NetlistData) (free j clock : ℕ) → At (promoted_clocks n free) j clock → is_used n clock ≡ true
clock_used n free j clock at =
    let many = (and_parts (is_clock n clock) (times clock (map settled_of n.cells) == 0) (promotable n free j clock at).1).0 in
    let lt : 15 < times clock (map clock_of n.cells) = ltb-true 15 (times clock (map clock_of n.cells)) many in
    let found = map_Has clock_of n.cells (wire clock) (times_has clock (map clock_of n.cells) (omega (arith, lt))) in
    let read = clock_read found.0.kind found.0.ins (record { 0 = clock }) found.2 in
    let used = used_at n.cells found.1.0 found.0 (wire clock) found.1.1 read in
    has_place clock (flat_map uses_of n.cells) used.0 used.1

pub few_clocks : (n : NetlistData) (free : ℕ) → length (promoted_clocks n free) ≤ most_signals - length n.names
few_clocks n free =
    let kept = filter (is_promotable n) (range_with_len 0 (length n.names)) in
    let long = length-take (min free (most_signals - length n.names)) kept in
    omega (arith, long)
