-- Each chunk of a run has a cluster of its own.
use Rattle.std.proofs.Common.{◌≡◌, ◌⊎◌, ℕ, zero, suc, ◌+◌, ◌-◌, ◌*◌, ◌/◌, ◌%◌, ◌<◌, None, Some, List, [], ◌∷◌, ◌++◌, length, map, take, drop, replicate, refl, ap, sym, ◌∙◌, subst, arith, inl, inr}
use Rattle.std.specs.Prelude.{flat_map}
use Rattle.std.specs.List.{range_with_len}
use Rattle.std.proofs.lemmas.List.FromFn.{length-range_with_len, get_or-range_with_len}
use Rattle.std.proofs.lemmas.Option.{none-some, same_Some, slice_get_read}
use Rattle.ice_base_values.specs.Order.{At, Has}
use Rattle.ice_base_values.proofs.Members.{At_left, At_right, At_parts, At_within, At_map, map_At}
use Rattle.ice_base_values.proofs.Places.{At_drop}
use Rattle.ice_cells.specs.declared.cell.Control.{Control}
use Rattle.ice_cells.specs.declared.cell.LogicCell.{LogicCell}
use Rattle.ice_cells.specs.declared.cluster.Cluster.{Cluster}
use Rattle.ice_cells.specs.declared.cluster.Clusters.{Clusters}
use Rattle.ice_cells.specs.declared.cluster.TileCells.{TileCells}
use Rattle.ice_cells.specs.declared.design.Design.{Design}
use Rattle.ice_cells.specs.declared.design.Run.{Run}
use Rattle.ice_cells.specs.Clusters.{room, filled_one, filled, left, run_piece, run_pieces, runs_pieces, set_piece, set_pieces, sets_pieces, plain_piece, plain_pieces, slots, with_slots}
use Rattle.ice_cells.specs.Clusterings.{opened_by, groups_by, clusters_with, IsClustering}
use Rattle.ice_cells.specs.Pieces.{pieces_count, piece}
use Rattle.ice_cells.specs.Sets.{FlopCell, sets_of, cells_with}
use Rattle.ice_cluster.specs.Chunks.{HoldsChunk, AreChunks}

-- ---- places
take_at : (k : ℕ) (xs : List ℕ) (i x : ℕ) → i < k → At xs i x → At (take k xs) i x
take_at zero xs i x lt at = absurd (omega arith)
take_at (suc k) [] i x lt at = absurd (none-some x at)
take_at (suc k) (y ∷ xs) zero x lt at = at
take_at (suc k) (y ∷ xs) (suc i) x lt at = take_at k xs i x (omega arith) at

range_at : (n k : ℕ) → k < n → At (range_with_len 0 n) k k
range_at n k lt =
    slice_get_read (range_with_len 0 n) n k k (sym (length-range_with_len 0 n)) lt (sym (get_or-range_with_len 0 n k k lt ∙ (let e : 0 + k ≡ k = omega arith in e)))

at_range : (n i k : ℕ) → At (range_with_len 0 n) i k → k < n
at_range n i k at =
    let lt : i < length (range_with_len 0 n) = At_within (range_with_len 0 n) i k at in
    let within : i < n = subst (λ m. i < m) (length-range_with_len 0 n) lt in
    subst (λ j. j < n) (same_Some i k (sym (range_at n i within) ∙ at)) within

-- cell p of a list stands in piece p / 8
piece_at : (cells : List ℕ) (k i c : ℕ) → i < 8 → At cells (8 * k + i) c → At (piece cells k) i c
piece_at cells k i c lt at = take_at 8 (drop (8 * k) cells) i c lt (At_drop cells (8 * k) i ∙ at)

eights : (p : ℕ) → 8 * (p / 8) + p % 8 ≡ p
eights p = omega arith

below_eight : (p : ℕ) → p % 8 < 8
below_eight p = omega arith

piece_before : (p n : ℕ) → p < n → p / 8 < (n + 7) / 8
piece_before p n lt = omega arith

piece_some : (k n : ℕ) → k < (n + 7) / 8 → 8 * k < n
piece_some k n lt = omega arith

-- ---- the groups of runs
runs_have : (cells : List LogicCell) (first : ℕ) (runs : List Run) (r k : ℕ) (run : Run) → At runs r run → k < pieces_count run.cells
    → Has (runs_pieces cells first runs) (run_piece cells (first + r) run.cells k)
runs_have cells first [] r k run at lt = absurd (none-some run at)
runs_have cells first (x ∷ runs) zero k run at lt = (
  k,
  At_left (run_pieces cells first x) (runs_pieces cells (first + 1) runs) k (run_piece cells (first + 0) run.cells k)
      (subst (λ (y : Run). At (run_pieces cells first y) k (run_piece cells (first + 0) run.cells k)) (sym (same_Some x run at))
      (subst (λ n. At (run_pieces cells first run) k (run_piece cells n run.cells k)) (let e : first ≡ first + 0 = omega arith in e)
      (At_map (run_piece cells first run.cells) (range_with_len 0 (pieces_count run.cells)) k k (range_at (pieces_count run.cells) k lt)))),
)
runs_have cells first (x ∷ runs) (suc r) k run at lt =
    let rest = runs_have cells (first + 1) runs r k run at lt in (
      length (run_pieces cells first x) + rest.0,
      subst (λ n. At (runs_pieces cells first (x ∷ runs)) (length (run_pieces cells first x) + rest.0) (run_piece cells n run.cells k)) (let e : first + 1 + r ≡ first + suc r = omega arith in e)
          (At_right (run_pieces cells first x) (runs_pieces cells (first + 1) runs) rest.0 (run_piece cells (first + 1 + r) run.cells k) rest.1),
    )

-- a group that is a chunk of a run
record IsChunk (cells : List LogicCell) (first : ℕ) (runs : List Run) (group : TileCells) : Type 0 where
  r : ℕ
  k : ℕ
  run : Run
  run_at : At runs r run
  within : k < pieces_count run.cells
  is : group ≡ run_piece cells (first + r) run.cells k

are_of_runs : (cells : List LogicCell) (first : ℕ) (runs : List Run) (n : ℕ) (group : TileCells) → At (runs_pieces cells first runs) n group → IsChunk cells first runs group
are_of_runs cells first [] n group at = absurd (none-some group at)
are_of_runs cells first (x ∷ runs) n group at = by (At_parts (run_pieces cells first x) (runs_pieces cells (first + 1) runs) n group at) (are_of_runs cells (first + 1) runs)
  where
    by : At (run_pieces cells first x) n group ⊎ ((j : ℕ) × (n ≡ length (run_pieces cells first x) + j) × At (runs_pieces cells (first + 1) runs) j group)
        → ((j : ℕ) (other : TileCells) → At (runs_pieces cells (first + 1) runs) j other → IsChunk cells (first + 1) runs other) → IsChunk cells first (x ∷ runs) group
    by (inl here) rest =
        let back = map_At (run_piece cells first x.cells) (range_with_len 0 (pieces_count x.cells)) n group here in
        record {
          r = 0;
          k = back.0;
          run = x;
          run_at = refl;
          within = at_range (pieces_count x.cells) n back.0 back.1;
          is = sym back.2 ∙ ap (λ m. run_piece cells m x.cells back.0) (let e : first ≡ first + 0 = omega arith in e);
        }
    by (inr (j, e, there)) rest =
        let more = rest j group there in
        record {
          r = suc more.r;
          k = more.k;
          run = more.run;
          run_at = more.run_at;
          within = more.within;
          is = more.is ∙ ap (λ m. run_piece cells m more.run.cells more.k) (let e : first + 1 + more.r ≡ first + suc more.r = omega arith in e);
        }

-- ---- plain cells behind them
filled_has : (groups : List TileCells) (plains : List ℕ) (n : ℕ) (group : TileCells) → At groups n group → (more : List ℕ) × At (filled groups plains) n (filled_one group more)
filled_has [] plains n group at = absurd (none-some group at)
filled_has (g ∷ groups) plains zero group at = (plains, ap (λ (x : TileCells). Some (filled_one x plains)) (same_Some g group at))
filled_has (g ∷ groups) plains (suc n) group at = filled_has groups (drop (room g) plains) n group at

has_filled : (groups : List TileCells) (plains : List ℕ) (n : ℕ) (group : TileCells) → At (filled groups plains) n group → (old : TileCells) × (more : List ℕ) × At groups n old × (group ≡ filled_one old more)
has_filled [] plains n group at = absurd (none-some group at)
has_filled (g ∷ groups) plains zero group at = (g, plains, refl, sym (same_Some (filled_one g plains) group at))
has_filled (g ∷ groups) plains (suc n) group at = has_filled groups (drop (room g) plains) n group at

slot_there : (cells more : List ℕ) (i c : ℕ) → At cells i c → At (slots (cells ++ more)) i (Some c)
slot_there cells more i c at =
    At_left (map (λ (x : ℕ). Some x) (cells ++ more)) (replicate (8 - length (cells ++ more)) None) i (Some c)
    (At_map (λ (x : ℕ). Some x) (cells ++ more) i c (At_left cells more i c at))

-- ---- groups that are no chunks
sets_none : (f : Control → List ℕ) (sets : List Control) (n : ℕ) (group : TileCells) → At (flat_map (λ control. set_pieces control (f control)) sets) n group → group.run ≡ None
sets_none f [] n group at = absurd (none-some group at)
sets_none f (s ∷ sets) n group at = by (At_parts (set_pieces s (f s)) (flat_map (λ control. set_pieces control (f control)) sets) n group at) (sets_none f sets)
  where
    by : At (set_pieces s (f s)) n group ⊎ ((j : ℕ) × (n ≡ length (set_pieces s (f s)) + j) × At (flat_map (λ control. set_pieces control (f control)) sets) j group)
        → ((j : ℕ) (other : TileCells) → At (flat_map (λ control. set_pieces control (f control)) sets) j other → other.run ≡ None) → group.run ≡ None
    by (inl here) rest =
        let back = map_At (set_piece s (f s)) (range_with_len 0 (pieces_count (f s))) n group here in
        ap (λ (x : TileCells). x.run) (sym back.2)
    by (inr (j, e, there)) rest = rest j group there

plains_none : (members : List ℕ) (n : ℕ) (group : TileCells) → At (plain_pieces members) n group → group.run ≡ None
plains_none members n group at =
    let back = map_At (plain_piece members) (range_with_len 0 (pieces_count members)) n group at in
    ap (λ (x : TileCells). x.run) (sym back.2)

same_pair : (a b : ℕ × ℕ) → Some a ≡ Some b → (a.0 ≡ b.0) × (a.1 ≡ b.1)
same_pair a b e = let pair = same_Some a b e in (ap (λ (p : ℕ × ℕ). p.0) pair, ap (λ (p : ℕ × ℕ). p.1) pair)

module _ (d : Design) (flops : List FlopCell) (plains : List ℕ) where
  abbrev chunks : List TileCells
  chunks = runs_pieces d.cells 0 d.runs

  abbrev sets : List TileCells
  sets = sets_pieces flops

  abbrev firsts : List TileCells
  firsts = opened_by d.cells d.runs flops

  there : (r p c : ℕ) (run : Run) → At d.runs r run → At run.cells p c
      → (n : ℕ) × (cluster : Cluster) × At (clusters_with d flops plains).list n cluster × (cluster.run ≡ Some (r, p / 8)) × At cluster.cells (p % 8) (Some c)
  there r p c run run_at at =
      let has = runs_have d.cells 0 d.runs r (p / 8) run run_at (piece_before p (length run.cells) (At_within run.cells p c at)) in
      let group = run_piece d.cells (0 + r) run.cells (p / 8) in
      let fills = filled_has firsts plains has.0 group (At_left chunks sets has.0 group has.1) in
      let whole = filled_one group fills.0 in (
        has.0,
        with_slots whole,
        At_map with_slots (groups_by d.cells d.runs flops plains) has.0 whole (At_left (filled firsts plains) (plain_pieces (left firsts plains)) has.0 whole fills.1),
        ap (λ m. Some (m, p / 8)) (let e : 0 + r ≡ r = omega arith in e),
        slot_there (piece run.cells (p / 8)) (take (room group) fills.0) (p % 8) c
            (piece_at run.cells (p / 8) (p % 8) c (below_eight p) (subst (λ q. At run.cells q c) (sym (eights p)) at)),
      )

  chunk_holds : (group : TileCells) (more : List ℕ) (cluster : Cluster) (r k : ℕ) → IsChunk d.cells 0 d.runs group → cluster ≡ with_slots (filled_one group more) → cluster.run ≡ Some (r, k)
      → HoldsChunk d cluster r k
  chunk_holds group more cluster r k chunk e f = record {
    run = chunk.run;
    run_is = subst (λ m. At d.runs m chunk.run) (sym (zero_first) ∙ numbers.0) chunk.run_at;
    some = subst (λ m. 8 * m < length chunk.run.cells) numbers.1 (piece_some chunk.k (length chunk.run.cells) chunk.within);
    cells = λ i c lt at.
        subst (λ (x : Cluster). At x.cells i (Some c)) (sym whole)
        (slot_there (piece chunk.run.cells chunk.k) (take (room group) more) i c
        (piece_at chunk.run.cells chunk.k i c lt (subst (λ m. At chunk.run.cells (8 * m + i) c) (sym numbers.1) at)));
  }
    where
      zero_first : 0 + chunk.r ≡ chunk.r
      zero_first = omega arith

      numbers : (0 + chunk.r ≡ r) × (chunk.k ≡ k)
      numbers = same_pair (0 + chunk.r, chunk.k) (r, k) (ap (λ (x : TileCells). x.run) (sym chunk.is) ∙ ap (λ (x : Cluster). x.run) (sym e) ∙ f)

      whole : cluster ≡ with_slots (record { cells = piece chunk.run.cells chunk.k ++ take (room group) more; control = group.control; run = group.run })
      whole = e ∙ ap (λ xs. with_slots (record { cells = xs ++ take (room group) more; control = group.control; run = group.run })) (ap (λ (x : TileCells). x.cells) chunk.is)

  of_opened : (group : TileCells) (more : List ℕ) (n : ℕ) (cluster : Cluster) (r k : ℕ) → At firsts n group → cluster ≡ with_slots (filled_one group more) → cluster.run ≡ Some (r, k)
      → HoldsChunk d cluster r k
  of_opened group more n cluster r k at e f = by (At_parts chunks sets n group at)
    where
      by : At chunks n group ⊎ ((j : ℕ) × (n ≡ length chunks + j) × At sets j group) → HoldsChunk d cluster r k
      by (inl here) = chunk_holds group more cluster r k (are_of_runs d.cells 0 d.runs n group here) e f
      by (inr (j, g, other)) =
          absurd (none-some (r, k) (sym (sets_none (cells_with flops) (sets_of flops) j group other) ∙ ap (λ (x : Cluster). x.run) (sym e) ∙ f))

  holds : (n r k : ℕ) (cluster : Cluster) → At (clusters_with d flops plains).list n cluster → cluster.run ≡ Some (r, k) → HoldsChunk d cluster r k
  holds n r k cluster at f = by (At_parts (filled firsts plains) (plain_pieces (left firsts plains)) n back.0 back.1)
    where
      back : (group : TileCells) × At (groups_by d.cells d.runs flops plains) n group × (with_slots group ≡ cluster)
      back = map_At with_slots (groups_by d.cells d.runs flops plains) n cluster at

      by : At (filled firsts plains) n back.0 ⊎ ((j : ℕ) × (n ≡ length (filled firsts plains) + j) × At (plain_pieces (left firsts plains)) j back.0) → HoldsChunk d cluster r k
      by (inl here) =
          let old = has_filled firsts plains n back.0 here in
          of_opened old.0 old.1 n cluster r k old.2 (sym back.2 ∙ ap with_slots old.3) f
      by (inr (j, g, other)) = absurd (none-some (r, k) (sym (plains_none (left firsts plains) j back.0 other) ∙ ap (λ (x : Cluster). x.run) back.2 ∙ f))

  made_chunks : AreChunks d (clusters_with d flops plains).list
  made_chunks = record { there = there; holds = holds }

pub are_chunks : (d : Design) (clusters : Clusters) → IsClustering d clusters → AreChunks d clusters.list
are_chunks d clusters of_cells = subst (λ (x : Clusters). AreChunks d x.list) (sym of_cells.is) (made_chunks d of_cells.flops of_cells.plains)
