-- The design with its runs.
use Rattle.std.specs.Prelude.{ℕ, ◌+◌, List, [], ◌∷◌, ◌++◌, map, flat_map, length, Option}
use Rattle.ice_net.specs.NetlistData.{NetlistData}
use Rattle.ice_cells.specs.declared.cell.LogicCell.{LogicCell}
use Rattle.ice_cells.specs.declared.design.Design.{Design}
use Rattle.ice_cells.specs.declared.design.DesignPad.{DesignPad}
use Rattle.ice_cells.specs.declared.design.Run.{Run}
use Rattle.ice_cells.specs.Chains.{Head, Fed, heads, runs_from, feed_cells, fed_from, numbers_by}
use Rattle.ice_cells.specs.Follows.{follows}
use Rattle.ice_cells.specs.Moves.{moves, renamed_source, cells_after}
use Rattle.ice_cells.specs.Packed.{packed}

-- the cells that are moved to, numbered from k on
abbrev pub numbered : ℕ → List ℕ → List Fed
numbered k [] = []
numbered k (c ∷ cells) = (c, k) ∷ numbered (k + 1) cells

abbrev pub renamed_pad : List (Option ℕ) → List (Option ℕ) → DesignPad → DesignPad
renamed_pad moved fed pad = record { port = pad.port; pin_type = pad.pin_type; pullup = pad.pullup; drive = renamed_source moved fed pad.drive; enable = renamed_source moved fed pad.enable; reads = pad.reads }

-- ---- step by step
abbrev pub run_heads : Design → List Head
run_heads d = heads (follows d) d.carries

abbrev pub runs_made : Design → List Run
runs_made d = runs_from (follows d) (length d.cells) (run_heads d)

abbrev pub cells_fed : Design → List LogicCell
cells_fed d = d.cells ++ flat_map (feed_cells (follows d)) (run_heads d)

abbrev pub fed_numbers : Design → List (Option ℕ)
fed_numbers d = numbers_by (fed_from (follows d) (length d.cells) (run_heads d)) (length (cells_fed d))

abbrev pub movers : Design → List ℕ
movers d = moves (cells_fed d) (runs_made d)

abbrev pub moved_numbers : Design → List (Option ℕ)
moved_numbers d = numbers_by (numbered (length (cells_fed d)) (movers d)) (length (cells_fed d))

-- ---- the design afterwards
abbrev pub runs_of : Design → Design
runs_of d = record {
  cells = cells_after (moved_numbers d) (fed_numbers d) (cells_fed d) (movers d);
  runs = runs_made d;
  pads = map (renamed_pad (moved_numbers d) (fed_numbers d)) d.pads;
  globals = map (renamed_source (moved_numbers d) (fed_numbers d)) d.globals;
  carries = [];
}

-- the design of a netlist
abbrev pub design_of : NetlistData → Design
design_of n = runs_of (packed n)
