-- Which flip-flops move, and where to.
use Rattle.std.proofs.Common.{◌≡◌, ◌⊎◌, ℕ, zero, suc, ◌+◌, ◌<◌, ◌≤◌, true, false, Option, None, Some, List, [], ◌∷◌, length, map, inl, inr, refl, sym, ap, ◌∙◌, subst, arith}
use Rattle.std.specs.Prelude.{slice_get, slice_index_or, option_and_then}
use Rattle.std.specs.List.{range_with_len}
use Rattle.std.specs.Option.{option_map_or}
use Rattle.std.proofs.lemmas.Bool.{cases_lt}
use Rattle.std.proofs.lemmas.List.{get_or_past}
use Rattle.std.proofs.lemmas.Option.{none-some, same_Some}
use Rattle.ice_net.specs.declared.kind.Reset.{Reset}
use Rattle.ice_base_values.specs.Order.{At, Has}
use Rattle.ice_base_values.proofs.Members.{Has_none, filter_Has, At_map, At_right}
use Rattle.ice_cells.specs.declared.cell.Control.{Control}
use Rattle.ice_cells.specs.declared.cell.LogicCell.{LogicCell}
use Rattle.ice_cells.specs.declared.design.Design.{Design}
use Rattle.ice_cells.specs.declared.design.Run.{Run}
use Rattle.ice_cells.specs.declared.root.Root.TheVariants.{CellOut}
use Rattle.ice_cells.specs.Chains.{Fed, number_by, numbers_by}
use Rattle.ice_cells.specs.Moves.{differs, moves_at, run_moves, moves, renamed_flop, become_from, moved_cell}
use Rattle.ice_cells.specs.Pieces.{control_by, control_at, first_control, piece, pieces_count}
use Rattle.ice_cells.specs.Runs.{numbered, cells_fed, fed_numbers, movers, moved_numbers, runs_of}
use Rattle.ice_cells.proofs.TableLaws.{length-table, get_or-table}
use Rattle.ice_carry_chains.proofs.CellsAfter.{FeedsIn, FeedsOut, cell_in, cell_out, become_count}
use Rattle.ice_carry_chains.proofs.DesignRuns.{CellFed, Old, Feed, cell_fed}
use Rattle.ice_carry_chains.proofs.FedNumbers.{number_back}
use Rattle.ice_carry_chains.proofs.RunLists.{flat_back}

-- ---- numbers by cells
-- what the table of numbers has of a cell, the list of pairs has
pub from_table : (pairs : List Fed) (count c m : ℕ) → slice_index_or (numbers_by pairs count) c None ≡ Some m → number_by pairs c ≡ Some m
from_table pairs count c m e = by (cases_lt c count)
  where
    by : (c < count) ⊎ (count ≤ c) → number_by pairs c ≡ Some m
    by (inl lt) = sym (get_or-table (number_by pairs) count c None lt) ∙ e
    by (inr le) = absurd (none-some m (sym (get_or_past (numbers_by pairs count) c None (let l = length-table (number_by pairs) count in omega arith)) ∙ e))

first_number : (k : ℕ) → k ≡ k + 0
first_number k = omega arith

next_number : (k j : ℕ) → k + 1 + j ≡ k + suc j
next_number k j = omega arith

numbered_back : (k : ℕ) (cells : List ℕ) (c m : ℕ) → Has (numbered k cells) (c, m) → (i : ℕ) × At cells i c × (m ≡ k + i)
numbered_back k [] c m has = absurd (Has_none (c, m) has)
numbered_back k (x ∷ cells) c m (zero, at) =
    let pair : (x, k) ≡ (c, m) = same_Some (x, k) (c, m) at in
    (0, ap (λ (p : Fed). Some p.0) pair, sym (ap (λ (p : Fed). p.1) pair) ∙ first_number k)
numbered_back k (x ∷ cells) c m (suc i, at) =
    let rest = numbered_back (k + 1) cells c m (i, at) in
    (suc rest.0, rest.1, rest.2 ∙ next_number k rest.0)

-- ---- only flip-flops move
differs_back : (one other : Option Control) → differs one other ≡ true → (control : Control) × (other ≡ Some control)
differs_back None other e = cc
differs_back (Some one) None e = cc
differs_back (Some one) (Some other) e = (other, refl)

pub record IsFlopAt (cells : List LogicCell) (c : ℕ) : Type 0 where
  pub cell : LogicCell
  pub flop : Control × Reset
  pub at : At cells c cell
  pub is : cell.flop ≡ Some flop

control_back : (cells : List LogicCell) (c : ℕ) (control : Control) → control_at cells c ≡ Some control → IsFlopAt cells c
control_back cells c control e = by (slice_get cells c) refl e
  where
    with_flop : (cell : LogicCell) → At cells c cell → (f : Option (Control × Reset)) → cell.flop ≡ f → control_by f ≡ Some control → IsFlopAt cells c
    with_flop cell at None g h = absurd (none-some control h)
    with_flop cell at (Some flop) g h = record { cell = cell; flop = flop; at = at; is = g }

    by : (o : Option LogicCell) → slice_get cells c ≡ o → option_and_then (λ (cell : LogicCell). control_by cell.flop) o ≡ Some control → IsFlopAt cells c
    by None f g = absurd (none-some control g)
    by (Some cell) f g = with_flop cell f cell.flop refl g

pub moves_back : (cells : List LogicCell) (runs : List Run) (c : ℕ) → Has (moves cells runs) c → IsFlopAt cells c
moves_back cells runs c has =
    let one = flat_back (λ (run : Run). run_moves cells run.cells) runs c has in
    let two = flat_back (moves_at cells one.item.cells) (range_with_len 0 (pieces_count one.item.cells)) c (one.place, one.inside) in
    let members : List ℕ = piece one.item.cells two.item in
    let kept = filter_Has (λ k. differs (first_control cells members) (control_at cells k)) members c (two.place, two.inside) in
    let back = differs_back (first_control cells members) (control_at cells c) kept.1 in
    control_back cells c back.0 back.1

-- ---- in a design

no_flop : (x y : LogicCell) (flop : Control × Reset) → x ≡ y → x.flop ≡ None → y.flop ≡ Some flop → ⊥
no_flop x y flop e f g = none-some flop (sym f ∙ ap (λ (z : LogicCell). z.flop) e ∙ g)

old_cell : (d : Design) (c : ℕ) (x : LogicCell) (flop : Control × Reset) → x.flop ≡ Some flop → CellFed d c x → At d.cells c x
old_cell d c x flop e (Old at) = at
old_cell d c x flop e (Feed r head i at (FeedsIn root f g h) number) = absurd (no_flop (cell_in root) x flop h refl e)
old_cell d c x flop e (Feed r head i at (FeedsOut f g h) number) = absurd (no_flop cell_out x flop h refl e)

-- the flip-flop of a cell that has a number stands in the cell of that number
pub moved_to : (d : Design) (c m : ℕ) → slice_index_or (moved_numbers d) c None ≡ Some m
    → (cell : LogicCell) × (flop : Control × Reset) × At d.cells c cell × (cell.flop ≡ Some flop) × At (runs_of d).cells m (moved_cell (moved_numbers d) (fed_numbers d) d.cells c)
moved_to d c m e =
    let all : List LogicCell = cells_fed d in
    let moved : List (Option ℕ) = moved_numbers d in
    let fed : List (Option ℕ) = fed_numbers d in
    let pair = number_back (numbered (length all) (movers d)) c m (from_table (numbered (length all) (movers d)) (length all) c m e) in
    let mover = numbered_back (length all) (movers d) c m pair in
    let is = moves_back all (runs_of d).runs c (mover.0, mover.1) in
    let old = old_cell d c is.cell is.flop is.is (cell_fed d c is.cell is.at) in
    let number : length (become_from moved fed 0 all) + mover.0 ≡ m = ap (λ n. n + mover.0) (become_count moved fed 0 all) ∙ sym mover.2 in
    let there : At (runs_of d).cells (length (become_from moved fed 0 all) + mover.0) (moved_cell moved fed all c)
    = At_right (become_from moved fed 0 all) (map (moved_cell moved fed all) (movers d)) mover.0 (moved_cell moved fed all c) (At_map (moved_cell moved fed all) (movers d) mover.0 c mover.1) in
    let found : slice_get all c ≡ slice_get d.cells c = is.at ∙ sym old in
    let same : moved_cell moved fed all c ≡ moved_cell moved fed d.cells c
    = λ i. record {
      table = 43690;
      ins = Some (CellOut c) ∷ None ∷ None ∷ None ∷ [];
      carry = false;
      carry_to_in3 = false;
      flop = renamed_flop moved fed (option_map_or (λ (cell : LogicCell). cell.flop) (found i) None);
    } in
    (is.cell, is.flop, old, is.is, subst (λ n. At (runs_of d).cells n (moved_cell moved fed d.cells c)) number (subst (λ (x : LogicCell). At (runs_of d).cells (length (become_from moved fed 0 all) + mover.0) x) same there))
