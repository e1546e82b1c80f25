-- The numbers of the rows of a chip's groups.
use Rattle.std.proofs.Common.{◌≡◌, ℕ, zero, suc, ◌+◌, ◌<◌, ◌≤◌, List, [], ◌∷◌, map, length, get_or, ap, ◌∙◌, arith}
use Rattle.std.proofs.lemmas.List.{length-map, length-append}
use Rattle.ice_chip.specs.Database.{SwitchGroup}
use Rattle.ice_chip.specs.Limits.{most_rows}
use Rattle.ice_chip.specs.IsRead.{AreNumbered}
use Rattle.ice_chip.specs.Listings.{rows_of, in_group}
use Rattle.ice_chip.specs.Views.{row_view, group_view}
use Rattle.ice_chip.specs.declared.sections.Group.{Group}

pub rows_count : (g : SwitchGroup) (gs : List SwitchGroup) → length (rows_of (g ∷ gs)) ≡ length g.rows + length (rows_of gs)
rows_count g gs = length-append (map (in_group g) g.rows) (rows_of gs) ∙ ap (λ n. n + length (rows_of gs)) (length-map g.rows (in_group g))

-- the rows up to a group's last are no more than all rows
pub few_up_to : (n : ℕ) (groups : List Group) (i : ℕ) (d : Group) → AreNumbered n (map group_view groups) → i < length groups
    → (get_or groups i d).first.0 + length (get_or groups i d).rows.items ≤ n + length (rows_of (map group_view groups))
few_up_to n [] i d are lt = absurd (omega arith)
few_up_to n (g ∷ groups) zero d are lt =
    let count : length (rows_of (group_view g ∷ map group_view groups)) ≡ length (map row_view g.rows.items) + length (rows_of (map group_view groups)) = rows_count (group_view g) (map group_view groups) in
    let long : length (map row_view g.rows.items) ≡ length g.rows.items = length-map g.rows.items row_view in
    let first : g.first.0 ≡ n = are.0 in
    omega arith
few_up_to n (g ∷ groups) (suc i) d are lt =
    let count : length (rows_of (group_view g ∷ map group_view groups)) ≡ length (map row_view g.rows.items) + length (rows_of (map group_view groups)) = rows_count (group_view g) (map group_view groups) in
    let later : (get_or groups i d).first.0 + length (get_or groups i d).rows.items ≤ (n + length (map row_view g.rows.items)) + length (rows_of (map group_view groups))
    = few_up_to (n + length (map row_view g.rows.items)) groups i d are.1 (omega arith) in
    omega arith

-- a group's rows are among the most that a chip has
pub few_before : (groups : List Group) (i : ℕ) (d : Group) → AreNumbered 0 (map group_view groups) → length (rows_of (map group_view groups)) ≤ most_rows → i < length groups
    → (get_or groups i d).first.0 + length (get_or groups i d).rows.items ≤ most_rows
few_before groups i d are few lt =
    let up : (get_or groups i d).first.0 + length (get_or groups i d).rows.items ≤ 0 + length (rows_of (map group_view groups)) = few_up_to 0 groups i d are lt in omega arith
