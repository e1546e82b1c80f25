-- The usable rows stand in the order of their numbers, between wires of the chip.
use Rattle.std.proofs.Common.{◌≡◌, ℕ, zero, suc, ◌+◌, ◌<◌, ◌≤◌, Bool, true, false, cond, All, List, [], ◌∷◌, ◌++◌, Some, slice_get, length, subst, arith}
use Rattle.std.proofs.lemmas.List.Elements.{All-tail, All-head}
use Rattle.ice_graph.specs.declared.edge.Edge.{Edge}
use Rattle.ice_graph.specs.Network.{AreBetween, RowsRise}
use Rattle.ice_chip.specs.Database.{Parts, SwitchRow, SwitchGroup}
use Rattle.ice_chip.specs.IsRead.{HasWiresBelow, AreNumbered, IsRead}
use Rattle.ice_bits_rows.specs.Usable.{is_usable}
use Rattle.ice_fabric.specs.Edges.{edge, edges_of, edges_from, usable_rows}

-- the rows rise from one number to below another
abbrev Rises : ℕ → List Edge → ℕ → Type 0
Rises low [] high = low ≤ high
Rises low (e ∷ edges) high = (low ≤ e.row.0) × Rises (e.row.0 + 1) edges high

lower : (low lower : ℕ) (edges : List Edge) (high : ℕ) → lower ≤ low → Rises low edges high → Rises lower edges high
lower low l [] high le up = omega arith
lower low l (e ∷ edges) high le up = (let first : low ≤ e.row.0 = up.0 in omega arith, up.1)

joined : (low middle high : ℕ) (xs ys : List Edge) → Rises low xs middle → Rises middle ys high → Rises low (xs ++ ys) high
joined low middle high [] ys up more = lower middle low ys high up more
joined low middle high (x ∷ xs) ys up more = (up.0, joined (x.row.0 + 1) middle high xs ys up.1 more)

rows_rise : (parts : Parts) (g : SwitchGroup) (n : ℕ) (rows : List SwitchRow) → Rises n (edges_of parts g n rows) (n + length rows)
rows_rise parts g n [] = omega arith
rows_rise parts g n (r ∷ rows) = by (rows_rise parts g (n + 1) rows) (is_usable parts g n r)
  where
    end : (n + 1) + length rows ≡ n + suc (length rows)
    end = omega arith

    by : Rises (n + 1) (edges_of parts g (n + 1) rows) ((n + 1) + length rows) → (b : Bool)
        → Rises n (cond b (edge g n r ∷ edges_of parts g (n + 1) rows) (edges_of parts g (n + 1) rows)) (n + suc (length rows))
    by rest true = (omega arith, subst (λ high. Rises (n + 1) (edges_of parts g (n + 1) rows) high) end rest)
    by rest false = lower (n + 1) n (edges_of parts g (n + 1) rows) (n + suc (length rows)) (omega arith) (subst (λ high. Rises (n + 1) (edges_of parts g (n + 1) rows) high) end rest)

abbrev total : List SwitchGroup → ℕ
total [] = 0
total (g ∷ groups) = length g.rows + total groups

groups_rise : (parts : Parts) (n : ℕ) (groups : List SwitchGroup) → AreNumbered n groups → Rises n (edges_from parts groups) (n + total groups)
groups_rise parts n [] are = omega arith
groups_rise parts n (g ∷ groups) are =
    let here : Rises n (edges_of parts g g.first g.rows) (n + length g.rows) = subst (λ m. Rises m (edges_of parts g g.first g.rows) (m + length g.rows)) are.0 (rows_rise parts g g.first g.rows) in
    let end : (n + length g.rows) + total groups ≡ n + (length g.rows + total groups) = omega arith in
    let later : Rises (n + length g.rows) (edges_from parts groups) (n + (length g.rows + total groups)) =
    subst (λ high. Rises (n + length g.rows) (edges_from parts groups) high) end (groups_rise parts (n + length g.rows) groups are.1) in
    joined n (n + length g.rows) (n + (length g.rows + total groups)) (edges_of parts g g.first g.rows) (edges_from parts groups) here later

low_bound : (low : ℕ) (edges : List Edge) (high k : ℕ) (e : Edge) → Rises low edges high → slice_get edges k ≡ Some e → low ≤ e.row.0
low_bound low [] high k e up at = absurd (cc)
low_bound low (x ∷ edges) high zero e up at = let same : x ≡ e = cc at in subst (λ y. low ≤ y.row.0) same up.0
low_bound low (x ∷ edges) high (suc k) e up at =
    let first : low ≤ x.row.0 = up.0 in
    let later : x.row.0 + 1 ≤ e.row.0 = low_bound (x.row.0 + 1) edges high k e up.1 at in
    omega arith

rise_of : (low : ℕ) (edges : List Edge) (high : ℕ) → Rises low edges high → RowsRise edges
rise_of low [] high up j k d e lt at at' = absurd (cc)
rise_of low (x ∷ edges) high up zero zero d e lt at at' = absurd (omega arith)
rise_of low (x ∷ edges) high up zero (suc k) d e lt at at' =
    let same : x ≡ d = cc at in
    let later : x.row.0 + 1 ≤ e.row.0 = low_bound (x.row.0 + 1) edges high k e up.1 at' in
    subst (λ y. y.row.0 < e.row.0) same (omega arith)
rise_of low (x ∷ edges) high up (suc j) zero d e lt at at' = absurd (omega arith)
rise_of low (x ∷ edges) high up (suc j) (suc k) d e lt at at' = rise_of (x.row.0 + 1) edges high up.1 j k d e (omega arith) at at'

pub rise : (parts : Parts) → IsRead parts → RowsRise (usable_rows parts)
rise parts read = rise_of 0 (usable_rows parts) (0 + total parts.groups) (groups_rise parts 0 parts.groups read.numbered)

-- ---- wires
abbrev Between : ℕ → List Edge → Type 0
Between n [] = Unit {0}
Between n (e ∷ edges) = ((e.from.0 < n) × (e.to.0 < n)) × Between n edges

between_joined : (n : ℕ) (xs ys : List Edge) → Between n xs → Between n ys → Between n (xs ++ ys)
between_joined n [] ys b c = c
between_joined n (x ∷ xs) ys b c = (b.0, between_joined n xs ys b.1 c)

rows_between : (parts : Parts) (g : SwitchGroup) (n : ℕ) (rows : List SwitchRow) → g.wire < parts.wires → All (λ r. r.source < parts.wires) rows → Between parts.wires (edges_of parts g n rows)
rows_between parts g n [] to all = tt
rows_between parts g n (r ∷ rows) to all = by (rows_between parts g (n + 1) rows to (All-tail (λ x. x.source < parts.wires) r rows all)) (is_usable parts g n r)
  where
    by : Between parts.wires (edges_of parts g (n + 1) rows) → (b : Bool) → Between parts.wires (cond b (edge g n r ∷ edges_of parts g (n + 1) rows) (edges_of parts g (n + 1) rows))
    by rest true = ((All-head (λ x. x.source < parts.wires) r rows all, to), rest)
    by rest false = rest

groups_between : (parts : Parts) (groups : List SwitchGroup) → All (HasWiresBelow parts.wires) groups → Between parts.wires (edges_from parts groups)
groups_between parts [] all = tt
groups_between parts (g ∷ groups) all =
    let here : HasWiresBelow parts.wires g = All-head (HasWiresBelow parts.wires) g groups all in
    between_joined parts.wires (edges_of parts g g.first g.rows) (edges_from parts groups) (rows_between parts g g.first g.rows here.target here.sources)
    (groups_between parts groups (All-tail (HasWiresBelow parts.wires) g groups all))

between_of : (n : ℕ) (edges : List Edge) → Between n edges → AreBetween n edges
between_of n [] b k e at = absurd (cc)
between_of n (x ∷ edges) b zero e at = let same : x ≡ e = cc at in subst (λ y. (y.from.0 < n) × (y.to.0 < n)) same b.0
between_of n (x ∷ edges) b (suc k) e at = between_of n edges b.1 k e at

pub between : (parts : Parts) → IsRead parts → AreBetween parts.wires (usable_rows parts)
between parts read = between_of parts.wires (usable_rows parts) (groups_between parts parts.groups read.group_wires)
