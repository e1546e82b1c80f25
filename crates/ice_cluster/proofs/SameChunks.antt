-- In each order of the cells the same clusters are chunks of runs.
use Rattle.std.proofs.Common.{◌≡◌, ℕ, ◌+◌, Option, None, List, [], ◌∷◌, ◌++◌, append_assoc, length, map, drop, refl, ap, sym, ◌∙◌, arith}
use Rattle.std.specs.Prelude.{flat_map}
use Rattle.std.specs.List.{range_with_len}
use Rattle.std.proofs.lemmas.List.{length-append, map-append}
use Rattle.ice_cells.specs.declared.cell.Control.{Control}
use Rattle.ice_cells.specs.declared.cell.LogicCell.{LogicCell}
use Rattle.ice_cells.specs.declared.cluster.Cluster.{Cluster}
use Rattle.ice_cells.specs.declared.cluster.Clusters.{Clusters}
use Rattle.ice_cells.specs.declared.cluster.TileCells.{TileCells}
use Rattle.ice_cells.specs.declared.design.Design.{Design}
use Rattle.ice_cells.specs.declared.design.Run.{Run}
use Rattle.ice_cells.specs.Clusterings.{opened_by, groups_by, IsClustering}
use Rattle.ice_cells.specs.Clusters.{room, filled, left, runs_pieces, set_piece, set_pieces, sets_pieces, plain_piece, plain_pieces, loose_flops, loose_plains, with_slots, clusters_of}
use Rattle.ice_cells.specs.Pieces.{pieces_count}
use Rattle.ice_cells.specs.Sets.{FlopCell, sets_of, cells_with}
use Rattle.ice_cluster.proofs.AsMany.{same_length, filled_length}

abbrev Chunk : Type 0
Chunk = Option (ℕ × ℕ)

abbrev run_in : TileCells → Chunk
run_in g = g.run

abbrev no_run : TileCells → Chunk
no_run g = None

-- ---- groups that are no chunks
abbrev HaveNone : List TileCells → Type 0
HaveNone groups = map run_in groups ≡ map no_run groups

none_join : (a b : List TileCells) → HaveNone a → HaveNone b → HaveNone (a ++ b)
none_join a b f g = map-append run_in a b ∙ (λ i. f i ++ g i) ∙ sym (map-append no_run a b)

none_set : (s : Control) (members ks : List ℕ) → HaveNone (map (set_piece s members) ks)
none_set s members [] = refl
none_set s members (k ∷ ks) = ap (λ xs. None ∷ xs) (none_set s members ks)

none_sets : (flops : List FlopCell) (sets : List Control) → HaveNone (flat_map (λ control. set_pieces control (cells_with flops control)) sets)
none_sets flops [] = refl
none_sets flops (s ∷ sets) =
    none_join (set_pieces s (cells_with flops s)) (flat_map (λ control. set_pieces control (cells_with flops control)) sets)
    (none_set s (cells_with flops s) (range_with_len 0 (pieces_count (cells_with flops s)))) (none_sets flops sets)

none_plain : (members ks : List ℕ) → HaveNone (map (plain_piece members) ks)
none_plain members [] = refl
none_plain members (k ∷ ks) = ap (λ xs. None ∷ xs) (none_plain members ks)

by_count : (a b : List TileCells) → length a ≡ length b → map no_run a ≡ map no_run b
by_count [] [] e = refl
by_count [] (g ∷ b) e = absurd (omega arith)
by_count (g ∷ a) [] e = absurd (omega arith)
by_count (g ∷ a) (h ∷ b) e = ap (λ xs. None ∷ xs) (by_count a b (omega arith))

-- ---- all groups
run_of_filled : (groups : List TileCells) (plains : List ℕ) → map run_in (filled groups plains) ≡ map run_in groups
run_of_filled [] plains = refl
run_of_filled (g ∷ groups) plains = ap (λ xs. g.run ∷ xs) (run_of_filled groups (drop (room g) plains))

run_of_slots : (groups : List TileCells) → map (λ (c : Cluster). c.run) (map with_slots groups) ≡ map run_in groups
run_of_slots [] = refl
run_of_slots (g ∷ groups) = ap (λ xs. g.run ∷ xs) (run_of_slots groups)

module _ (cells : List LogicCell) (runs : List Run) where
  abbrev chunks : List TileCells
  chunks = runs_pieces cells 0 runs

  -- the groups behind the chunks
  abbrev others : List FlopCell → List ℕ → List TileCells
  others flops plains = sets_pieces flops ++ plain_pieces (left (opened_by cells runs flops) plains)

  chunks_first : (flops : List FlopCell) (plains : List ℕ) → map run_in (groups_by cells runs flops plains) ≡ map run_in chunks ++ map no_run (others flops plains)
  chunks_first flops plains =
      let firsts = opened_by cells runs flops in
      let last = plain_pieces (left firsts plains) in
      map-append run_in (filled firsts plains) last
      ∙ ap (λ xs. xs ++ map run_in last) (run_of_filled firsts plains ∙ map-append run_in chunks (sets_pieces flops))
      ∙ append_assoc (map run_in chunks) (map run_in (sets_pieces flops)) (map run_in last)
      ∙ ap (λ xs. map run_in chunks ++ xs) (sym (map-append run_in (sets_pieces flops) last))
      ∙ ap (λ xs. map run_in chunks ++ xs)
      (none_join (sets_pieces flops) last (none_sets flops (sets_of flops)) (none_plain (left firsts plains) (range_with_len 0 (pieces_count (left firsts plains)))))

  groups_length : (flops : List FlopCell) (plains : List ℕ) → length (groups_by cells runs flops plains) ≡ length chunks + length (others flops plains)
  groups_length flops plains =
      let firsts = opened_by cells runs flops in
      let last = plain_pieces (left firsts plains) in
      length-append (filled firsts plains) last ∙ ap (λ n. n + length last) (filled_length firsts plains ∙ length-append chunks (sets_pieces flops))
      ∙ regroup (length chunks) (length (sets_pieces flops)) (length last) ∙ ap (λ n. length chunks + n) (sym (length-append (sets_pieces flops) last))
    where
      regroup : (a b c : ℕ) → a + b + c ≡ a + (b + c)
      regroup a b c = omega arith

  behind : (c m n a b : ℕ) → a ≡ c + m → b ≡ c + n → a ≡ b → m ≡ n
  behind c m n a b e f g = omega arith

  same_runs : (flops others_flops : List FlopCell) (plains more : List ℕ) → length (groups_by cells runs others_flops more) ≡ length (groups_by cells runs flops plains)
      → map run_in (groups_by cells runs others_flops more) ≡ map run_in (groups_by cells runs flops plains)
  same_runs flops others_flops plains more e =
      chunks_first others_flops more
      ∙ ap (λ xs. map run_in chunks ++ xs)
      (by_count (others others_flops more) (others flops plains)
      (behind (length chunks) (length (others others_flops more)) (length (others flops plains)) (length (groups_by cells runs others_flops more)) (length (groups_by cells runs flops plains))
      (groups_length others_flops more) (groups_length flops plains) e))
      ∙ sym (chunks_first flops plains)

pub same_chunks : (d : Design) (clusters : Clusters) → IsClustering d clusters → map (λ (c : Cluster). c.run) clusters.list ≡ map (λ (c : Cluster). c.run) (clusters_of d).list
same_chunks d clusters of_cells =
    let flops = loose_flops d.cells d.runs in
    let plains = loose_plains d.cells d.runs in
    ap (λ (x : Clusters). map (λ (c : Cluster). c.run) x.list) of_cells.is
    ∙ run_of_slots (groups_by d.cells d.runs of_cells.flops of_cells.plains)
    ∙ same_runs d.cells d.runs flops of_cells.flops plains of_cells.plains
    (same_length d.cells d.runs flops of_cells.flops plains of_cells.plains of_cells.flops_are of_cells.plains_are)
    ∙ sym (run_of_slots (groups_by d.cells d.runs flops plains))
