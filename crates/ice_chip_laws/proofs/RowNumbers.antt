-- The number of a row is its place.
use Rattle.std.proofs.Common.{◌≡◌, ℕ, ◌+◌, Some, List, [], ◌∷◌, ◌++◌, map, length, inl, inr, sym, ap, ◌∙◌, subst, arith}
use Rattle.std.specs.Prelude.{◌⊎◌}
use Rattle.std.proofs.lemmas.Option.{none-some}
use Rattle.std.proofs.lemmas.List.{length-map}
use Rattle.ice_chip.specs.Database.{Parts, SwitchGroup, SwitchRow}
use Rattle.ice_chip.specs.IsRead.{AreNumbered, IsChip}
use Rattle.ice_chip.specs.Listings.{in_group, rows_of}
use Rattle.ice_base_values.specs.Order.{At, Has}
use Rattle.ice_chip_laws.specs.Groups.{HasRows}
use Rattle.ice_base_values.proofs.Members.{Has_cases, Has_none, At_left, At_right, At_parts, At_map, map_At}
use Rattle.ice_base_values.proofs.Together.{Has_tail}

-- the place of a row among these rows, the first of which has the number n
place_of_row : (n : ℕ) (gs : List SwitchGroup) (g : SwitchGroup) (k : ℕ) (r : SwitchRow) → AreNumbered n gs → Has gs g → At g.rows k r
    → (i : ℕ) × (n + i ≡ g.first + k) × At (rows_of gs) i (g, r)
place_of_row n [] g k r are has at = absurd (Has_none g has)
place_of_row n (h ∷ gs) g k r are has at = by (Has_cases h g gs has) (λ more. place_of_row (n + length h.rows) gs g k r are.1 more at)
  where
    by : (h ≡ g) ⊎ Has gs g → (Has gs g → (i : ℕ) × ((n + length h.rows) + i ≡ g.first + k) × At (rows_of gs) i (g, r)) → (i : ℕ) × (n + i ≡ g.first + k) × At (map (in_group h) h.rows ++ rows_of gs) i (g, r)
    by (inl e) more =
        let start : n ≡ g.first = sym are.0 ∙ ap (λ x. x.first) e in
        let there : At (map (in_group g) g.rows) k (g, r) = At_map (in_group g) g.rows k r at in
        (k, ap (λ x. x + k) start, At_left (map (in_group h) h.rows) (rows_of gs) k (g, r) (subst (λ x. At (map (in_group x) x.rows) k (g, r)) (sym e) there))
    by (inr there) more =
        let found = more there in
        let long : length (map (in_group h) h.rows) ≡ length h.rows = length-map h.rows (in_group h) in
        let found_at : (n + length h.rows) + found.0 ≡ g.first + k = found.1 in
        (length (map (in_group h) h.rows) + found.0, omega arith, At_right (map (in_group h) h.rows) (rows_of gs) found.0 (g, r) found.2)

-- what stands at a place
row_of_place : (n : ℕ) (gs : List SwitchGroup) (i : ℕ) (g : SwitchGroup) (r : SwitchRow) → AreNumbered n gs → At (rows_of gs) i (g, r)
    → Has gs g × ((k : ℕ) × (n + i ≡ g.first + k) × At g.rows k r)
row_of_place n [] i g r are at = absurd (none-some (g, r) at)
row_of_place n (h ∷ gs) i g r are at = by (At_parts (map (in_group h) h.rows) (rows_of gs) i (g, r) at) (λ j there. row_of_place (n + length h.rows) gs j g r are.1 there)
  where
    by : At (map (in_group h) h.rows) i (g, r) ⊎ ((j : ℕ) × (i ≡ length (map (in_group h) h.rows) + j) × At (rows_of gs) j (g, r))
        → ((j : ℕ) → At (rows_of gs) j (g, r) → Has gs g × ((k : ℕ) × ((n + length h.rows) + j ≡ g.first + k) × At g.rows k r))
        → Has (h ∷ gs) g × ((k : ℕ) × (n + i ≡ g.first + k) × At g.rows k r)
    by (inl here) more =
        let found = map_At (in_group h) h.rows i (g, r) here in
        let group : h ≡ g = ap (λ p. p.0) found.2 in
        let row : found.0 ≡ r = ap (λ p. p.1) found.2 in
        let start : n ≡ g.first = sym are.0 ∙ ap (λ x. x.first) group in
        ((0, ap Some group), (i, ap (λ x. x + i) start, subst (λ x. At x.rows i r) group (found.1 ∙ ap Some row)))
    by (inr (j, e, there)) more =
        let found = more j there in
        let long : length (map (in_group h) h.rows) ≡ length h.rows = length-map h.rows (in_group h) in
        let found_at : (n + length h.rows) + j ≡ g.first + found.1.0 = found.1.1 in
        (Has_tail h g gs found.0, (found.1.0, omega arith, found.1.2))

none_before : (n : ℕ) → n ≡ 0 + n
none_before n = omega arith

pub rows_are : (parts : Parts) → IsChip parts → HasRows parts
rows_are parts chip = record {
  numbered = λ g k r has at.
      let found = place_of_row 0 parts.groups g k r chip.read.numbered has at in
      subst (λ i. At (rows_of parts.groups) i (g, r)) (none_before found.0 ∙ found.1) found.2;
  only = λ n g r at.
      let found = row_of_place 0 parts.groups n g r chip.read.numbered at in
      (found.0, (found.1.0, none_before n ∙ found.1.1, found.1.2));
}
