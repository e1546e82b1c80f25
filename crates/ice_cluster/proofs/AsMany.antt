-- In each order of the cells there are as many clusters.
use Rattle.std.proofs.Common.{◌≡◌, ℕ, suc, ◌+◌, ◌-◌, ◌*◌, ◌/◌, List, [], ◌∷◌, ◌++◌, length, map, drop, min, refl, ap, sym, ◌∙◌, arith}
use Rattle.std.specs.Prelude.{flat_map, IsPermutation}
use Rattle.std.specs.List.{range_with_len}
use Rattle.std.proofs.lemmas.List.{length-append, length-map, length-take, length-drop}
use Rattle.std.proofs.lemmas.List.FromFn.{length-range_with_len}
use Rattle.std.proofs.lemmas.List.Sorted.{length_permutation}
use Rattle.ice_cells.specs.declared.cell.Control.{Control}
use Rattle.ice_cells.specs.declared.cell.LogicCell.{LogicCell}
use Rattle.ice_cells.specs.declared.cluster.Clusters.{Clusters}
use Rattle.ice_cells.specs.declared.cluster.TileCells.{TileCells}
use Rattle.ice_cells.specs.declared.design.Design.{Design}
use Rattle.ice_cells.specs.declared.design.Run.{Run}
use Rattle.ice_cells.specs.Clusterings.{opened_by, groups_by, IsClustering}
use Rattle.ice_cells.specs.Clusters.{room, filled, left, runs_pieces, set_piece, set_pieces, sets_pieces, plain_piece, plain_pieces, loose_flops, loose_plains, with_slots, need}
use Rattle.ice_cells.specs.Pieces.{pieces_count, piece}
use Rattle.ice_cells.specs.Sets.{FlopCell, sets_of, cells_with}
use Rattle.ice_cluster.proofs.SetSums.{set_sum, same_in_order}
use Rattle.ice_cluster.proofs.Tallies.{nothing_before}

-- ---- what is measured of groups by how many cells they have
abbrev measured : (ℕ → ℕ) → List TileCells → ℕ
measured f [] = 0
measured f (g ∷ groups) = f (length g.cells) + measured f groups

abbrev counts_one : ℕ → ℕ
counts_one n = 1

abbrev counts_free : ℕ → ℕ
counts_free n = 8 - n

assoc : (a b c : ℕ) → a + (b + c) ≡ a + b + c
assoc a b c = omega arith

measured_append : (f : ℕ → ℕ) (a b : List TileCells) → measured f (a ++ b) ≡ measured f a + measured f b
measured_append f [] b = nothing_before (measured f b)
measured_append f (g ∷ a) b = ap (λ n. f (length g.cells) + n) (measured_append f a b) ∙ assoc (f (length g.cells)) (measured f a) (measured f b)

length_measured : (groups : List TileCells) → length groups ≡ measured counts_one groups
length_measured [] = refl
length_measured (g ∷ groups) = ap suc (length_measured groups) ∙ (let e : suc (measured counts_one groups) ≡ 1 + measured counts_one groups = omega arith in e)

-- ---- the pieces of a control set, by how many cells it has
abbrev pieces_measured : (ℕ → ℕ) → ℕ → List ℕ → ℕ
pieces_measured f n [] = 0
pieces_measured f n (k ∷ ks) = f (min 8 (n - 8 * k)) + pieces_measured f n ks

abbrev set_measured : (ℕ → ℕ) → ℕ → ℕ
set_measured f n = pieces_measured f n (range_with_len 0 ((n + 7) / 8))

piece_length : (xs : List ℕ) (k : ℕ) → length (piece xs k) ≡ min 8 (length xs - 8 * k)
piece_length xs k = length-take 8 (drop (8 * k) xs) ∙ ap (min 8) (length-drop (8 * k) xs)

measured_pieces : (f : ℕ → ℕ) (s : Control) (xs ks : List ℕ) → measured f (map (set_piece s xs) ks) ≡ pieces_measured f (length xs) ks
measured_pieces f s xs [] = refl
measured_pieces f s xs (k ∷ ks) = λ i. f (piece_length xs k i) + measured_pieces f s xs ks i

measured_sets : (f : ℕ → ℕ) (flops : List FlopCell) (sets : List Control)
    → measured f (flat_map (λ control. set_pieces control (cells_with flops control)) sets) ≡ set_sum (λ s. set_measured f (length (cells_with flops s))) sets
measured_sets f flops [] = refl
measured_sets f flops (s ∷ sets) =
    measured_append f (set_pieces s (cells_with flops s)) (flat_map (λ control. set_pieces control (cells_with flops control)) sets)
    ∙ (λ i. measured_pieces f s (cells_with flops s) (range_with_len 0 (pieces_count (cells_with flops s))) i + measured_sets f flops sets i)

sets_alike : (f : ℕ → ℕ) (flops others : List FlopCell) → IsPermutation flops others → measured f (sets_pieces others) ≡ measured f (sets_pieces flops)
sets_alike f flops others moved = measured_sets f others (sets_of others) ∙ same_in_order (set_measured f) flops others moved ∙ sym (measured_sets f flops (sets_of flops))

opened_alike : (f : ℕ → ℕ) (cells : List LogicCell) (runs : List Run) (flops others : List FlopCell) → IsPermutation flops others
    → measured f (opened_by cells runs others) ≡ measured f (opened_by cells runs flops)
opened_alike f cells runs flops others moved =
    measured_append f (runs_pieces cells 0 runs) (sets_pieces others) ∙ ap (λ n. measured f (runs_pieces cells 0 runs) + n) (sets_alike f flops others moved)
    ∙ sym (measured_append f (runs_pieces cells 0 runs) (sets_pieces flops))

-- ---- what plain cells need besides
pub filled_length : (groups : List TileCells) (plains : List ℕ) → length (filled groups plains) ≡ length groups
filled_length [] plains = refl
filled_length (g ∷ groups) plains = ap suc (filled_length groups (drop (room g) plains))

less : (n a b : ℕ) → n - a - b ≡ n - (a + b)
less n a b = omega arith

less_none : (n : ℕ) → n ≡ n - 0
less_none n = omega arith

left_length : (groups : List TileCells) (plains : List ℕ) → length (left groups plains) ≡ length plains - measured counts_free groups
left_length [] plains = less_none (length plains)
left_length (g ∷ groups) plains =
    left_length groups (drop (room g) plains) ∙ ap (λ n. n - measured counts_free groups) (length-drop (room g) plains) ∙ less (length plains) (room g) (measured counts_free groups)

plain_length : (plains : List ℕ) → length (plain_pieces plains) ≡ (length plains + 7) / 8
plain_length plains = length-map (range_with_len 0 (pieces_count plains)) (plain_piece plains) ∙ length-range_with_len 0 (pieces_count plains)

abbrev groups_needed : ℕ → ℕ → ℕ → ℕ
groups_needed opened free plains = opened + (plains - free + 7) / 8

groups_length : (cells : List LogicCell) (runs : List Run) (flops : List FlopCell) (plains : List ℕ)
    → length (groups_by cells runs flops plains) ≡ groups_needed (measured counts_one (opened_by cells runs flops)) (measured counts_free (opened_by cells runs flops)) (length plains)
groups_length cells runs flops plains =
    let firsts = opened_by cells runs flops in
    length-append (filled firsts plains) (plain_pieces (left firsts plains))
    ∙ (λ i. (filled_length firsts plains ∙ length_measured firsts) i + (plain_length (left firsts plains) ∙ ap (λ n. (n + 7) / 8) (left_length firsts plains)) i)

pub same_length : (cells : List LogicCell) (runs : List Run) (flops others : List FlopCell) (plains more : List ℕ) → IsPermutation flops others → IsPermutation plains more
    → length (groups_by cells runs others more) ≡ length (groups_by cells runs flops plains)
same_length cells runs flops others plains more moved plains_moved =
    groups_length cells runs others more
    ∙ (λ i. groups_needed (opened_alike counts_one cells runs flops others moved i) (opened_alike counts_free cells runs flops others moved i) (length_permutation plains more plains_moved i))
    ∙ sym (groups_length cells runs flops plains)

pub as_many : (d : Design) (clusters : Clusters) → IsClustering d clusters → length clusters.list ≡ need d
as_many d clusters of_cells =
    let flops = loose_flops d.cells d.runs in
    let plains = loose_plains d.cells d.runs in
    ap (λ (x : Clusters). length x.list) of_cells.is
    ∙ length-map (groups_by d.cells d.runs of_cells.flops of_cells.plains) with_slots
    ∙ same_length d.cells d.runs flops of_cells.flops plains of_cells.plains of_cells.flops_are of_cells.plains_are
    ∙ sym (length-map (groups_by d.cells d.runs flops plains) with_slots)
