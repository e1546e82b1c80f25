-- Flip-flops that leave the cells of runs, and how readers are renamed.
use Rattle.std.specs.Prelude.{ℕ, ◌+◌, Bool, true, false, not, List, [], ◌∷◌, ◌++◌, map, filter, flat_map, Option, None, Some, if◌then◌else◌, slice_index_or, unwrap_or, slice_get, is_some}
use Rattle.std.specs.List.{range_with_len}
use Rattle.std.specs.Option.{option_map_or}
use Rattle.ice_cells.specs.declared.cell.Control.{Control}
use Rattle.ice_cells.specs.declared.cell.LogicCell.{LogicCell}
use Rattle.ice_net.specs.declared.kind.Reset.{Reset}
use Rattle.ice_cells.specs.declared.design.Run.{Run}
use Rattle.ice_cells.specs.declared.root.Root.{Root}
use Rattle.ice_cells.specs.declared.root.Root.TheVariants.{PadIn, CellOut, GlobalOut, CarryOut}
use Rattle.ice_cells.specs.Same.{same_control}
use Rattle.ice_cells.specs.Pieces.{piece, pieces_count, control_at, first_control}

-- the flip-flop of a cell is driven otherwise than the first of its piece
abbrev pub differs : Option Control → Option Control → Bool
differs None other = false
differs (Some first) None = false
differs (Some first) (Some other) = not (same_control first other)

-- the cells of a piece that their flip-flops leave
abbrev pub piece_moves : List LogicCell → List ℕ → List ℕ
piece_moves cells members = filter (λ c. differs (first_control cells members) (control_at cells c)) members

abbrev pub moves_at : List LogicCell → List ℕ → ℕ → List ℕ
moves_at cells members k = piece_moves cells (piece members k)

abbrev pub run_moves : List LogicCell → List ℕ → List ℕ
run_moves cells members = flat_map (moves_at cells members) (range_with_len 0 (pieces_count members))

-- run by run and slot by slot
abbrev pub moves : List LogicCell → List Run → List ℕ
moves cells runs = flat_map (λ (run : Run). run_moves cells run.cells) runs

-- ---- readers are renamed: they read a flip-flop where it went, and a carry at the cell that passes it on
abbrev pub renamed : List (Option ℕ) → List (Option ℕ) → Root → Root
renamed moved fed (PadIn k) = PadIn k
renamed moved fed (CellOut c) = CellOut (unwrap_or (slice_index_or moved c None) c)
renamed moved fed (GlobalOut g) = GlobalOut g
renamed moved fed (CarryOut c) = option_map_or (λ f. CellOut f) (slice_index_or fed c None) (CarryOut c)

abbrev pub renamed_source : List (Option ℕ) → List (Option ℕ) → Option Root → Option Root
renamed_source moved fed None = None
renamed_source moved fed (Some root) = Some (renamed moved fed root)

abbrev pub renamed_control : List (Option ℕ) → List (Option ℕ) → Control → Control
renamed_control moved fed control = record {
  clock = renamed_source moved fed control.clock;
  falling = control.falling;
  enable = renamed_source moved fed control.enable;
  reset = renamed_source moved fed control.reset;
}

abbrev pub renamed_flop : List (Option ℕ) → List (Option ℕ) → Option (Control × Reset) → Option (Control × Reset)
renamed_flop moved fed None = None
renamed_flop moved fed (Some flop) = Some (renamed_control moved fed flop.0, flop.1)

abbrev pub kept_flop : Option ℕ → Option (Control × Reset) → Option (Control × Reset)
kept_flop None flop = flop
kept_flop (Some m) flop = None

-- The last input of a cell whose carry follows the one that it reads: it takes the carry.
abbrev pub is_chained : List (Option ℕ) → Option Root → Bool
is_chained fed None = false
is_chained fed (Some (PadIn k)) = false
is_chained fed (Some (CellOut c)) = false
is_chained fed (Some (GlobalOut g)) = false
is_chained fed (Some (CarryOut c)) = not (is_some (slice_index_or fed c None))

abbrev pub last_input : List (Option ℕ) → List (Option ℕ) → Option Root → Option Root
last_input moved fed input = if is_chained fed input then None else renamed_source moved fed input

-- what cell c becomes
abbrev pub become : List (Option ℕ) → List (Option ℕ) → ℕ → LogicCell → LogicCell
become moved fed c cell = record {
  table = cell.table;
  ins = renamed_source moved fed (slice_index_or cell.ins 0 None) ∷ renamed_source moved fed (slice_index_or cell.ins 1 None) ∷ renamed_source moved fed (slice_index_or cell.ins 2 None)
      ∷ last_input moved fed (slice_index_or cell.ins 3 None) ∷ [];
  carry = cell.carry;
  carry_to_in3 = if is_chained fed (slice_index_or cell.ins 3 None) then true else cell.carry_to_in3;
  flop = renamed_flop moved fed (kept_flop (slice_index_or moved c None) cell.flop);
}

abbrev pub become_from : List (Option ℕ) → List (Option ℕ) → ℕ → List LogicCell → List LogicCell
become_from moved fed c [] = []
become_from moved fed c (cell ∷ cells) = become moved fed c cell ∷ become_from moved fed (c + 1) cells

-- the cell to which the flip-flop of a cell went: its first input alone reads the old cell
abbrev pub flop_at : List LogicCell → ℕ → Option (Control × Reset)
flop_at cells c = option_map_or (λ (cell : LogicCell). cell.flop) (slice_get cells c) None

abbrev pub moved_cell : List (Option ℕ) → List (Option ℕ) → List LogicCell → ℕ → LogicCell
moved_cell moved fed cells c = record {
  table = 43690;
  ins = Some (CellOut c) ∷ None ∷ None ∷ None ∷ [];
  carry = false;
  carry_to_in3 = false;
  flop = renamed_flop moved fed (flop_at cells c);
}

-- all cells afterwards
abbrev pub cells_after : List (Option ℕ) → List (Option ℕ) → List LogicCell → List ℕ → List LogicCell
cells_after moved fed cells movers = become_from moved fed 0 cells ++ map (moved_cell moved fed cells) movers
