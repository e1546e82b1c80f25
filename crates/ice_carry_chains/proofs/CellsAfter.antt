-- What the cells of a design become, and the cells that its runs have beside their carries.
use Rattle.std.proofs.Common.{◌≡◌, ◌⊎◌, ℕ, zero, suc, ◌+◌, ◌≤◌, Bool, true, false, Option, None, Some, List, [], ◌∷◌, length, map, refl, ap, sym, ◌∙◌, subst, arith, inl, inr}
use Rattle.std.proofs.lemmas.List.{length-append}
use Rattle.std.proofs.lemmas.Option.{none-some, same_Some}
use Rattle.ice_cells.specs.declared.cell.LogicCell.{LogicCell}
use Rattle.ice_cells.specs.declared.follow.Follow.{Follow}
use Rattle.ice_cells.specs.declared.root.CarryIn.{CarryIn}
use Rattle.ice_cells.specs.declared.root.CarryIn.TheVariants.{Fixed, Read}
use Rattle.ice_cells.specs.declared.root.Root.{Root}
use Rattle.std.specs.Prelude.{slice_get}
use Rattle.ice_base_values.specs.Order.{At}
use Rattle.ice_base_values.proofs.Members.{At_left, At_right, At_parts, map_At}
use Rattle.ice_cells.specs.Chains.{Head, takes_in, passes_out, is_read, one_if, feed_in, feed_out, feed_cells}
use Rattle.ice_cells.specs.Moves.{become, become_from, moved_cell, cells_after}

-- ---- what cells become
from_next : (c j : ℕ) → c + 1 + j ≡ c + suc j
from_next c j = omega arith

none_first : (c : ℕ) → c ≡ c + 0
none_first c = omega arith

zero_first : (c : ℕ) → 0 + c ≡ c
zero_first c = omega arith

become_at : (moved fed : List (Option ℕ)) (c : ℕ) (cells : List LogicCell) (j : ℕ) (x : LogicCell) → At cells j x → At (become_from moved fed c cells) j (become moved fed (c + j) x)
become_at moved fed c [] j x at = absurd (none-some x at)
become_at moved fed c (y ∷ cells) zero x at = λ i. Some (become moved fed (none_first c i) (same_Some y x at i))
become_at moved fed c (y ∷ cells) (suc j) x at = subst (λ n. At (become_from moved fed (c + 1) cells) j (become moved fed n x)) (from_next c j) (become_at moved fed (c + 1) cells j x at)

become_back : (moved fed : List (Option ℕ)) (c : ℕ) (cells : List LogicCell) (j : ℕ) (y : LogicCell) → At (become_from moved fed c cells) j y
    → (x : LogicCell) × At cells j x × (become moved fed (c + j) x ≡ y)
become_back moved fed c [] j y at = absurd (none-some y at)
become_back moved fed c (x ∷ cells) zero y at = (x, refl, ap (λ n. become moved fed n x) (sym (none_first c)) ∙ same_Some (become moved fed c x) y at)
become_back moved fed c (x ∷ cells) (suc j) y at =
    let rest = become_back moved fed (c + 1) cells j y at in
    (rest.0, rest.1, ap (λ n. become moved fed n rest.0) (sym (from_next c j)) ∙ rest.2)

pub become_count : (moved fed : List (Option ℕ)) (c : ℕ) (cells : List LogicCell) → length (become_from moved fed c cells) ≡ length cells
become_count moved fed c [] = refl
become_count moved fed c (x ∷ cells) = ap suc (become_count moved fed (c + 1) cells)

-- a cell afterwards: what a cell became, or one that a flip-flop moved to
pub data CellAfter (moved fed : List (Option ℕ)) (cells : List LogicCell) (c : ℕ) (y : LogicCell) : Type 0 where
  Became : (x : LogicCell) → At cells c x → become moved fed c x ≡ y → CellAfter moved fed cells c y
  Moved : (m : ℕ) → moved_cell moved fed cells m ≡ y → CellAfter moved fed cells c y

pub after_back : (moved fed : List (Option ℕ)) (cells : List LogicCell) (movers : List ℕ) (c : ℕ) (y : LogicCell) → At (cells_after moved fed cells movers) c y → CellAfter moved fed cells c y
after_back moved fed cells movers c y at = by (At_parts (become_from moved fed 0 cells) (map (moved_cell moved fed cells) movers) c y at)
  where
    by : At (become_from moved fed 0 cells) c y ⊎ ((j : ℕ) × (c ≡ length (become_from moved fed 0 cells) + j) × At (map (moved_cell moved fed cells) movers) j y) → CellAfter moved fed cells c y
    by (inl here) = (let back = become_back moved fed 0 cells c y here in Became back.0 back.1 (ap (λ n. become moved fed n back.0) (sym (zero_first c)) ∙ back.2))
    by (inr (j, e, there)) = (let back = map_At (moved_cell moved fed cells) movers j y there in Moved back.0 back.2)

pub after_at : (moved fed : List (Option ℕ)) (cells : List LogicCell) (movers : List ℕ) (c : ℕ) (x : LogicCell) → At cells c x → At (cells_after moved fed cells movers) c (become moved fed c x)
after_at moved fed cells movers c x at =
    At_left (become_from moved fed 0 cells) (map (moved_cell moved fed cells) movers) c (become moved fed c x)
    (subst (λ n. At (become_from moved fed 0 cells) c (become moved fed n x)) (zero_first c) (become_at moved fed 0 cells c x at))

pub after_count : (moved fed : List (Option ℕ)) (cells : List LogicCell) (movers : List ℕ) → length cells ≤ length (cells_after moved fed cells movers)
after_count moved fed cells movers =
    let e = length-append (become_from moved fed 0 cells) (map (moved_cell moved fed cells) movers) in
    let f = become_count moved fed 0 cells in
    omega arith

-- ---- the cells that a run has beside its carries
abbrev pub cell_in : Root → LogicCell
cell_in root = record { table = 0; ins = None ∷ Some root ∷ None ∷ None ∷ []; carry = true; carry_to_in3 = false; flop = None }

abbrev pub cell_out : LogicCell
cell_out = record { table = 65280; ins = None ∷ None ∷ None ∷ None ∷ []; carry = false; carry_to_in3 = true; flop = None }

pub data FeedCell (marks : List Follow) (x : Head) (i : ℕ) (cell : LogicCell) : Type 0 where
  FeedsIn : (root : Root) → x.1 ≡ Read root → i ≡ 0 → cell_in root ≡ cell → FeedCell marks x i cell
  FeedsOut : passes_out marks x ≡ true → i ≡ one_if (takes_in x) → cell_out ≡ cell → FeedCell marks x i cell

out_at : (b : Bool) (i : ℕ) (cell : LogicCell) → At (feed_out b) i cell → (b ≡ true) × (i ≡ 0) × (cell_out ≡ cell)
out_at false i cell at = absurd (none-some cell at)
out_at true zero cell at = (refl, refl, same_Some cell_out cell at)
out_at true (suc i) cell at = absurd (none-some cell at)

in_at : (into : CarryIn) (i : ℕ) (cell : LogicCell) → At (feed_in into) i cell → (root : Root) × (into ≡ Read root) × (i ≡ 0) × (cell_in root ≡ cell)
in_at (Fixed level) i cell at = absurd (none-some cell at)
in_at (Read root) zero cell at = (root, refl, refl, same_Some (cell_in root) cell at)
in_at (Read root) (suc i) cell at = absurd (none-some cell at)

in_count : (into : CarryIn) → length (feed_in into) ≡ one_if (is_read into)
in_count (Fixed level) = refl
in_count (Read root) = refl

pub feed_cell : (marks : List Follow) (x : Head) (i : ℕ) (cell : LogicCell) → At (feed_cells marks x) i cell → FeedCell marks x i cell
feed_cell marks x i cell at = by (At_parts (feed_in x.1) (feed_out (passes_out marks x)) i cell at)
  where
    by : At (feed_in x.1) i cell ⊎ ((j : ℕ) × (i ≡ length (feed_in x.1) + j) × At (feed_out (passes_out marks x)) j cell) → FeedCell marks x i cell
    by (inl here) = (let back = in_at x.1 i cell here in FeedsIn back.0 back.1 back.2 back.3)
    by (inr (j, e, there)) =
        let back = out_at (passes_out marks x) j cell there in
        FeedsOut back.0 (e ∙ ap (λ n. length (feed_in x.1) + n) back.1 ∙ sym (none_first (length (feed_in x.1))) ∙ in_count x.1) back.2

pub feeds_in_at : (marks : List Follow) (x : Head) (root : Root) → x.1 ≡ Read root → At (feed_cells marks x) 0 (cell_in root)
feeds_in_at marks x root e = At_left (feed_in x.1) (feed_out (passes_out marks x)) 0 (cell_in root) (ap (λ (into : CarryIn). slice_get (feed_in into) 0) e)

pub feeds_out_at : (marks : List Follow) (x : Head) → passes_out marks x ≡ true → At (feed_cells marks x) (one_if (takes_in x)) cell_out
feeds_out_at marks x e =
    subst (λ n. At (feed_cells marks x) n cell_out) (sym (none_first (length (feed_in x.1))) ∙ in_count x.1)
    (At_right (feed_in x.1) (feed_out (passes_out marks x)) 0 cell_out (ap (λ (b : Bool). slice_get (feed_out b) 0) e))
