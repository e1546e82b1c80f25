-- A list of edges whose rows rise is no longer than there are numbers of rows.
use Rattle.std.proofs.Common.{◌≡◌, ℕ, zero, suc, ◌-◌, ◌^◌, ◌≤◌, ◌<◌, List, [], ◌∷◌, Some, length, get_or, slice_get, refl, arith}
use Rattle.ice_graph.specs.declared.edge.Edge.{Edge}
use Rattle.ice_graph.specs.Network.{RowsRise}

-- the row at a place is at least the place's number
at_least : (edges : List Edge) (k : ℕ) (e : Edge) → RowsRise edges → slice_get edges k ≡ Some e → k ≤ e.row.0
at_least edges zero e rise at = omega arith
at_least edges (suc k) e rise at = below edges k e rise at (place edges k e at) (at_least edges k (get_or edges k e) rise (place edges k e at))
  where
    place : (edges : List Edge) (k : ℕ) (e : Edge) → slice_get edges (suc k) ≡ Some e → slice_get edges k ≡ Some (get_or edges k e)
    place [] k e at = absurd (cc)
    place (d ∷ edges) zero e at = refl
    place (d ∷ edges) (suc k) e at = place edges k e at

    below : (edges : List Edge) (k : ℕ) (e : Edge) → RowsRise edges → slice_get edges (suc k) ≡ Some e → slice_get edges k ≡ Some (get_or edges k e) → k ≤ (get_or edges k e).row.0 → suc k ≤ e.row.0
    below edges k e rise at before le = let lt = rise k (suc k) (get_or edges k e) e (omega arith) before at in omega arith

-- a list whose last row has a number below 2 ^ 32
pub no_more : (edges : List Edge) (e : Edge) → RowsRise edges → 0 < length edges → slice_get edges (length edges - 1) ≡ Some e → e.row.0 < 2 ^ 32 → length edges ≤ 2 ^ 32
no_more edges e rise some at small = let le = at_least edges (length edges - 1) e rise at in omega arith
