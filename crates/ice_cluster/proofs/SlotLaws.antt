-- Each cell of a design stands in exactly one slot of its clusters.
use Rattle.std.proofs.Common.{◌≡◌, ◌⊎◌, ℕ, zero, suc, ◌+◌, ◌-◌, ◌*◌, ◌<◌, ◌≤◌, Bool, true, false, cond, Option, None, Some, List, [], ◌∷◌, ◌++◌, length, map, take, drop, replicate, min, refl, ap, sym, ◌∙◌, subst, arith, inl, inr}
use Rattle.std.specs.Prelude.{◌==◌, flat_map, IsPermutation}
use Rattle.std.specs.List.{range_with_len, list_any}
use Rattle.std.proofs.lemmas.Bool.{cases_lt, eqb-true, eq-eqb}
use Rattle.std.proofs.lemmas.Option.{none-some, same_Some}
use Rattle.std.proofs.lemmas.List.{length-append, length-map, length-replicate, length-take}
use Rattle.ice_base_values.specs.Order.{At, Has}
use Rattle.ice_base_values.proofs.Members.{At_map, map_At, At_left, At_parts, Has_any, any_Has}
use Rattle.ice_base_values.proofs.Places.{At_replicate}
use Rattle.ice_cells.specs.declared.cluster.Cluster.{Cluster}
use Rattle.ice_cells.specs.declared.cluster.Clusters.{Clusters}
use Rattle.ice_cells.specs.declared.cluster.TileCells.{TileCells}
use Rattle.ice_cells.specs.declared.cell.LogicCell.{LogicCell}
use Rattle.ice_cells.specs.declared.design.Design.{Design}
use Rattle.ice_cells.specs.declared.design.Run.{Run}
use Rattle.ice_cells.specs.Clusters.{room, filled_one, filled, left, run_piece, run_pieces, runs_pieces, set_piece, set_pieces, sets_pieces, plain_piece, plain_pieces, run_cells, is_held, held_list, loose_flops, loose_plains, slots, with_slots}
use Rattle.ice_cells.specs.Clusterings.{opened_by, groups_by, clusters_with, IsClustering}
use Rattle.ice_cells.specs.Pieces.{pieces_count, piece}
use Rattle.ice_cells.specs.Sets.{FlopCell, sets_of, cells_with}
use Rattle.ice_cells.specs.declared.cell.Control.{Control}
use Rattle.ice_cells.specs.Formed.{IsFormed}
use Rattle.ice_cells.proofs.TableLaws.{get_or-table}
use Rattle.ice_cluster.specs.Slots.{StandsInSlot, AreSlots}
use Rattle.ice_cluster.proofs.Counted.{members_of, held_at, groups_tally}
use Rattle.ice_cluster.proofs.Tallies.{tally, tally_append, at_tally, one_place, has_tally, once_tally, row_tally, high_tally}

-- ---- a place among groups
pub record StandsIn (groups : List TileCells) (k i c : ℕ) : Type 0 where
  pub group : TileCells
  pub at : At groups k group
  pub slot : At group.cells i c

first_count : (a b c : ℕ) → c ≡ a + b → 1 ≤ a → 1 ≤ c
first_count a b c e le = omega arith

second_count : (a b c : ℕ) → c ≡ a + b → 1 ≤ b → 1 ≤ c
second_count a b c e le = omega arith

two_counts : (a b c : ℕ) → c ≡ a + b → c ≤ 1 → 1 ≤ a → 1 ≤ b → ⊥
two_counts a b c e few x y = omega arith

first_few : (a b c : ℕ) → c ≡ a + b → c ≤ 1 → a ≤ 1
first_few a b c e few = omega arith

second_few : (a b c : ℕ) → c ≡ a + b → c ≤ 1 → b ≤ 1
second_few a b c e few = omega arith

no_count : (a b c : ℕ) → c ≡ a + b → a ≡ 0 → b ≡ c
no_count a b c e f = omega arith

counted : (c : ℕ) (g : TileCells) (groups : List TileCells) → tally c (members_of (g ∷ groups)) ≡ tally c g.cells + tally c (members_of groups)
counted c g groups = tally_append c g.cells (members_of groups)

stands_tally : (c : ℕ) (groups : List TileCells) (k i : ℕ) (group : TileCells) → At groups k group → At group.cells i c → 1 ≤ tally c (members_of groups)
stands_tally c [] k i group at slot = absurd (none-some group at)
stands_tally c (g ∷ groups) zero i group at slot =
    first_count (tally c g.cells) (tally c (members_of groups)) (tally c (members_of (g ∷ groups))) (counted c g groups)
    (at_tally c g.cells i (subst (λ (x : TileCells). At x.cells i c) (sym (same_Some g group at)) slot))
stands_tally c (g ∷ groups) (suc k) i group at slot =
    second_count (tally c g.cells) (tally c (members_of groups)) (tally c (members_of (g ∷ groups))) (counted c g groups) (stands_tally c groups k i group at slot)

tally_stands : (c : ℕ) (groups : List TileCells) → tally c (members_of groups) ≡ 1 → (k : ℕ) × (i : ℕ) × StandsIn groups k i c
tally_stands c [] e = cc
tally_stands c (g ∷ groups) e = by (has_tally c g.cells) (tally_stands c groups)
  where
    by : (tally c g.cells ≡ 0) ⊎ Has g.cells c → (tally c (members_of groups) ≡ 1 → (k : ℕ) × (i : ℕ) × StandsIn groups k i c) → (k : ℕ) × (i : ℕ) × StandsIn (g ∷ groups) k i c
    by (inr (i, slot)) rest = (0, i, record { group = g; at = refl; slot = slot })
    by (inl none) rest =
        let more = rest (no_count (tally c g.cells) (tally c (members_of groups)) (tally c (members_of (g ∷ groups))) (counted c g groups) none ∙ e) in
        (suc more.0, more.1, record { group = more.2.group; at = more.2.at; slot = more.2.slot })

same_place : (c : ℕ) (groups : List TileCells) → tally c (members_of groups) ≤ 1 → (k i m j : ℕ) (one other : TileCells) → At groups k one → At one.cells i c → At groups m other → At other.cells j c
    → (k ≡ m) × (i ≡ j)
same_place c [] few k i m j one other a s b t = absurd (none-some one a)
same_place c (g ∷ groups) few zero i zero j one other a s b t = (
  refl,
  one_place c g.cells i j (subst (λ (x : TileCells). At x.cells i c) (sym (same_Some g one a)) s) (subst (λ (x : TileCells). At x.cells j c) (sym (same_Some g other b)) t)
      (first_few (tally c g.cells) (tally c (members_of groups)) (tally c (members_of (g ∷ groups))) (counted c g groups) few),
)
same_place c (g ∷ groups) few zero i (suc m) j one other a s b t =
    absurd (two_counts (tally c g.cells) (tally c (members_of groups)) (tally c (members_of (g ∷ groups))) (counted c g groups) few
    (at_tally c g.cells i (subst (λ (x : TileCells). At x.cells i c) (sym (same_Some g one a)) s)) (stands_tally c groups m j other b t))
same_place c (g ∷ groups) few (suc k) i zero j one other a s b t =
    absurd (two_counts (tally c g.cells) (tally c (members_of groups)) (tally c (members_of (g ∷ groups))) (counted c g groups) few
    (at_tally c g.cells j (subst (λ (x : TileCells). At x.cells j c) (sym (same_Some g other b)) t)) (stands_tally c groups k i one a s))
same_place c (g ∷ groups) few (suc k) i (suc m) j one other a s b t =
    let rest = same_place c groups (second_few (tally c g.cells) (tally c (members_of groups)) (tally c (members_of (g ∷ groups))) (counted c g groups) few) k i m j one other a s b t in
    (ap suc rest.0, rest.1)

-- ---- slots
some_same : (x c : ℕ) → Some x ≡ Some c → x ≡ c
some_same x c e = same_Some x c e

pub slot_back : (cells : List ℕ) (i c : ℕ) → At (slots cells) i (Some c) → At cells i c
slot_back cells i c at = by (At_parts (map (λ c. Some c) cells) (replicate (8 - length cells) None) i (Some c) at)
  where
    by : At (map (λ (x : ℕ). Some x) cells) i (Some c) ⊎ ((j : ℕ) × (i ≡ length (map (λ (x : ℕ). Some x) cells) + j) × At (replicate (8 - length cells) None) j (Some c)) → At cells i c
    by (inl here) = (let back = map_At (λ (x : ℕ). Some x) cells i (Some c) here in subst (λ x. At cells i x) (some_same back.0 c back.2) back.1)
    by (inr (j, e, there)) = absurd (none-some c (At_replicate (8 - length cells) None j (Some c) there))

slot_on : (cells : List ℕ) (i c : ℕ) → At cells i c → At (slots cells) i (Some c)
slot_on cells i c at = At_left (map (λ (x : ℕ). Some x) cells) (replicate (8 - length cells) None) i (Some c) (At_map (λ (x : ℕ). Some x) cells i c at)

slots_length : (cells : List ℕ) → length cells ≤ 8 → length (slots cells) ≡ 8
slots_length cells le =
    length-append (map (λ (x : ℕ). Some x) cells) (replicate (8 - length cells) None)
    ∙ (λ i. length-map cells (λ (x : ℕ). Some x) i + length-replicate {A = Option ℕ} (8 - length cells) None i)
    ∙ (let e : length cells + (8 - length cells) ≡ 8 = omega arith in e)

stands_back : (groups : List TileCells) (clusters : Clusters) → clusters.list ≡ map with_slots groups → (k i c : ℕ) → StandsInSlot clusters k i c → StandsIn groups k i c
stands_back groups clusters e k i c stands =
    let back = map_At with_slots groups k stands.cluster (subst (λ (xs : List Cluster). At xs k stands.cluster) e stands.at) in
    record {
      group = back.0;
      at = back.1;
      slot = slot_back (back.0).cells i c (subst (λ (x : Cluster). At x.cells i (Some c)) (sym back.2) stands.slot);
    }

stands_on : (groups : List TileCells) (clusters : Clusters) → clusters.list ≡ map with_slots groups → (k i c : ℕ) → StandsIn groups k i c → StandsInSlot clusters k i c
stands_on groups clusters e k i c stands = record {
  cluster = with_slots stands.group;
  at = subst (λ (xs : List Cluster). At xs k (with_slots stands.group)) (sym e) (At_map with_slots groups k stands.group stands.at);
  slot = slot_on stands.group.cells i c stands.slot;
}

-- ---- no group has more than eight cells
abbrev IsShort : TileCells → Type 0
IsShort group = length group.cells ≤ 8

abbrev AreShort : List TileCells → Type 0
AreShort groups = (k : ℕ) (group : TileCells) → At groups k group → IsShort group

none_short : AreShort []
none_short k group at = absurd (none-some group at)

append_short : (a b : List TileCells) → AreShort a → AreShort b → AreShort (a ++ b)
append_short a b f g k group at = by (At_parts a b k group at)
  where
    by : At a k group ⊎ ((j : ℕ) × (k ≡ length a + j) × At b j group) → IsShort group
    by (inl here) = f k group here
    by (inr (j, e, there)) = g j group there

map_short : (f : ℕ → TileCells) → ((k : ℕ) → IsShort (f k)) → (ks : List ℕ) → AreShort (map f ks)
map_short f each ks k group at = let back = map_At f ks k group at in subst IsShort back.2 (each back.0)

eight_at_most : (n m : ℕ) → n ≡ min 8 m → n ≤ 8
eight_at_most n m e = omega arith

piece_short : (xs : List ℕ) (k : ℕ) → length (piece xs k) ≤ 8
piece_short xs k = eight_at_most (length (piece xs k)) (length (drop (8 * k) xs)) (length-take 8 (drop (8 * k) xs))

runs_short : (cells : List LogicCell) (r : ℕ) (runs : List Run) → AreShort (runs_pieces cells r runs)
runs_short cells r [] = none_short
runs_short cells r (run ∷ runs) =
    append_short (run_pieces cells r run) (runs_pieces cells (r + 1) runs)
    (map_short (run_piece cells r run.cells) (λ k. piece_short run.cells k) (range_with_len 0 (pieces_count run.cells))) (runs_short cells (r + 1) runs)

sets_short : (f : Control → List ℕ) (sets : List Control) → AreShort (flat_map (λ control. set_pieces control (f control)) sets)
sets_short f [] = none_short
sets_short f (s ∷ sets) =
    append_short (set_pieces s (f s)) (flat_map (λ control. set_pieces control (f control)) sets)
    (map_short (set_piece s (f s)) (λ k. piece_short (f s) k) (range_with_len 0 (pieces_count (f s)))) (sets_short f sets)

fill_few : (a t p : ℕ) → a ≤ 8 → t ≡ min (8 - a) p → a + t ≤ 8
fill_few a t p le e = omega arith

filled_short : (groups : List TileCells) (plains : List ℕ) → AreShort groups → AreShort (filled groups plains)
filled_short [] plains short k group at = absurd (none-some group at)
filled_short (g ∷ groups) plains short zero group at =
    subst IsShort (same_Some (filled_one g plains) group at)
    (subst (λ n. n ≤ 8) (sym (length-append g.cells (take (room g) plains)))
    (fill_few (length g.cells) (length (take (room g) plains)) (length plains) (short 0 g refl) (length-take (room g) plains)))
filled_short (g ∷ groups) plains short (suc k) group at = filled_short groups (drop (room g) plains) (λ j other there. short (suc j) other there) k group at

groups_short : (cells : List LogicCell) (runs : List Run) (flops : List FlopCell) (plains : List ℕ) → AreShort (groups_by cells runs flops plains)
groups_short cells runs flops plains =
    append_short (filled (opened_by cells runs flops) plains) (plain_pieces (left (opened_by cells runs flops) plains))
    (filled_short (opened_by cells runs flops) plains
    (append_short (runs_pieces cells 0 runs) (sets_pieces flops) (runs_short cells 0 runs) (sets_short (cells_with flops) (sets_of flops))))
    (map_short (plain_piece (left (opened_by cells runs flops) plains)) (λ k. piece_short (left (opened_by cells runs flops) plains) k)
    (range_with_len 0 (pieces_count (left (opened_by cells runs flops) plains))))

-- ---- each cell stands once
count_one : (a b : ℕ) → a ≡ 1 → b ≡ 0 → a + b ≡ 1
count_one a b e f = omega arith

count_other : (a b : ℕ) → a ≡ 0 → b ≡ 1 → a + b ≡ 1
count_other a b e f = omega arith

count_none : (a b : ℕ) → a ≡ 0 → b ≡ 0 → a + b ≡ 0
count_none a b e f = omega arith

module _ (d : Design) (formed : IsFormed d) (flops : List FlopCell) (plains : List ℕ) (flops_are : IsPermutation (loose_flops d.cells d.runs) flops)
    (plains_are : IsPermutation (loose_plains d.cells d.runs) plains) where
  abbrev n : ℕ
  n = length d.cells

  abbrev in_runs : List ℕ
  in_runs = flat_map run_cells d.runs

  abbrev held : List Bool
  held = held_list d.runs n

  held_is : (c : ℕ) → c < n → held_at held c ≡ list_any (λ x. x == c) in_runs
  held_is c lt = get_or-table (is_held d.runs) n c false lt

  tally_within : (c : ℕ) → c < n → tally c (members_of (groups_by d.cells d.runs flops plains)) ≡ 1
  tally_within c lt = groups_tally c d.cells d.runs flops plains flops_are plains_are ∙ by (list_any (λ x. x == c) in_runs) refl
    where
      row : tally c (range_with_len 0 n) ≡ 1
      row = row_tally c n 0 (omega arith) (omega arith)

      by : (b : Bool) → list_any (λ x. x == c) in_runs ≡ b → tally c in_runs + cond (held_at held c) 0 (tally c (range_with_len 0 n)) ≡ 1
      by true e =
          let one = any_Has (λ x. x == c) in_runs e in
          let same : one.0 ≡ c = eqb-true one.0 c one.2 in
          count_one (tally c in_runs) (cond (held_at held c) 0 (tally c (range_with_len 0 n)))
          (once_tally c in_runs (one.1).0 formed.once (subst (λ x. At in_runs (one.1).0 x) same (one.1).1))
          (ap (λ b. cond b 0 (tally c (range_with_len 0 n))) (held_is c lt ∙ e))
      by false e =
          count_other (tally c in_runs) (cond (held_at held c) 0 (tally c (range_with_len 0 n))) (absent (has_tally c in_runs))
          (ap (λ b. cond b 0 (tally c (range_with_len 0 n))) (held_is c lt ∙ e) ∙ row)
        where
          absent : (tally c in_runs ≡ 0) ⊎ Has in_runs c → tally c in_runs ≡ 0
          absent (inl none) = none
          absent (inr (i, at)) = (let found : list_any (λ x. x == c) in_runs ≡ true = Has_any (λ x. x == c) in_runs c i at (eq-eqb c c refl) in cc (found, e))

  tally_beyond : (c : ℕ) → n ≤ c → tally c (members_of (groups_by d.cells d.runs flops plains)) ≡ 0
  tally_beyond c le =
      groups_tally c d.cells d.runs flops plains flops_are plains_are
      ∙ count_none (tally c in_runs) (cond (held_at held c) 0 (tally c (range_with_len 0 n))) (absent (has_tally c in_runs)) (by (held_at held c))
    where
      row : tally c (range_with_len 0 n) ≡ 0
      row = high_tally c n 0 (omega arith)

      by : (b : Bool) → cond b 0 (tally c (range_with_len 0 n)) ≡ 0
      by true = refl
      by false = row

      absent : (tally c in_runs ≡ 0) ⊎ Has in_runs c → tally c in_runs ≡ 0
      absent (inl none) = none
      absent (inr has) = (let lt = formed.inside c has in absurd (omega arith))

  tally_few : (c : ℕ) → tally c (members_of (groups_by d.cells d.runs flops plains)) ≤ 1
  tally_few c = elim (cases_lt c n) [
    | inl lt ↦ (let e = tally_within c lt in omega arith)
    | inr le ↦ (let e = tally_beyond c le in omega arith)
  ]

  abbrev all_groups : List TileCells
  all_groups = groups_by d.cells d.runs flops plains

  abbrev made : Clusters
  made = clusters_with d flops plains

  eight_at : (k : ℕ) (cluster : Cluster) → At made.list k cluster → length cluster.cells ≡ 8
  eight_at k cluster at =
      let back = map_At with_slots all_groups k cluster at in
      ap (λ (x : Cluster). length x.cells) (sym back.2) ∙ slots_length (back.0).cells (groups_short d.cells d.runs flops plains k back.0 back.1)

  stands_there : (c : ℕ) → c < n → (k : ℕ) × (i : ℕ) × StandsInSlot made k i c
  stands_there c lt =
      let there = tally_stands c all_groups (tally_within c lt) in
      (there.0, there.1, stands_on all_groups made refl there.0 there.1 c there.2)

  stands_within : (k i c : ℕ) → StandsInSlot made k i c → c < n
  stands_within k i c a = by (cases_lt c n) (stands_back all_groups made refl k i c a)
    where
      by : (c < n) ⊎ (n ≤ c) → StandsIn all_groups k i c → c < n
      by (inl lt) one = lt
      by (inr le) one =
          let some = stands_tally c all_groups k i one.group one.at one.slot in
          let none = tally_beyond c le in
          absurd (omega arith)

  stands_once : (c k i m j : ℕ) → StandsInSlot made k i c → StandsInSlot made m j c → (k ≡ m) × (i ≡ j)
  stands_once c k i m j a b =
      let one = stands_back all_groups made refl k i c a in
      let two = stands_back all_groups made refl m j c b in
      same_place c all_groups (tally_few c) k i m j one.group two.group one.at one.slot two.at two.slot

  made_slots : AreSlots d made
  made_slots = record { eight = eight_at; there = stands_there; within = stands_within; once = stands_once }

pub are_slots : (d : Design) (clusters : Clusters) → IsFormed d → IsClustering d clusters → AreSlots d clusters
are_slots d clusters formed of_cells = subst (AreSlots d) (sym of_cells.is) (made_slots d formed of_cells.flops of_cells.plains of_cells.flops_are of_cells.plains_are)
