-- What any netlist text says: a netlist, and the RAMs that close it.
use Rattle.std.specs.Prelude.{ℕ, List, [], ◌∷◌, drop, fold, replicate, reverse, Option, Some, None, option_map, if◌then◌else◌, codes, bytes_eq}
use Rattle.ice_base.specs.Text.{lines, numbered}
use Rattle.ice_net.specs.NetlistData.{NetlistData, empty_netlist}
use Rattle.ice_blif.specs.State.{LastCell, Nothing, Memory, finished}
use Rattle.ice_ram_words.specs.declared.kind.Edges.{Edges}
use Rattle.ice_ram_words.specs.Words.{edges_of, place}
use Rattle.ice_ram_read.specs.RamData.{RamData, is_gate, new_ram, param_said}
use Rattle.ice_ram_read.specs.ClosedNetlists.{ClosedNetlistData, with_ram, closed_by}
use Rattle.ice_blif_laws.specs.NetlistText.{NetSoFar, Wiring, connections_join, blif_line_joins, blif_lines_join, joined_lines, whole}

-- the netlist so far, which has no cell of a RAM, and the RAMs so far, the last one first
abbrev pub ClosedSoFar : Type 0
ClosedSoFar = NetSoFar × List RamData

-- ---- RAMs
-- the edges of the RAM that a line makes by its KIND: `.gate KIND FORMAL=ACTUAL ..`
abbrev pub ram_edges : List ℕ → List (List ℕ) → Option Edges
ram_edges first [] = None
ram_edges first (kind ∷ connections) = if is_gate first then edges_of kind else None

-- a RAM with the signals at its sixty inputs and then its outputs makes no cell
abbrev pub ram_joins : ℕ → Edges → ClosedSoFar → Wiring → ClosedSoFar
ram_joins line edges r c = ((finished c.0 r.0.1, Memory), new_ram line edges c.1 ∷ r.1)

-- `.param NAME VALUE` behind a RAM is that of the RAM
abbrev pub ram_param : LastCell → List (List ℕ) → List RamData → List RamData
ram_param Memory words (ram ∷ rams) = param_said ram words ∷ rams
ram_param last words rams = rams

-- ---- the text
-- a line, by the edges of the RAM that it makes
abbrev pub closed_joins : Option Edges → ℕ → List ℕ → List (List ℕ) → ClosedSoFar → Option ClosedSoFar
closed_joins (Some edges) line first others r = option_map (ram_joins line edges r) (connections_join 60 (place edges) (drop 1 others) (r.0.0, replicate 76 None))
closed_joins None line first others r =
    option_map (λ n. (n, if bytes_eq first (codes ".param") then ram_param r.0.1 others r.1 else r.1)) (blif_line_joins line first others r.0)

abbrev pub closed_line_joins : ℕ → List ℕ → List (List ℕ) → ClosedSoFar → Option ClosedSoFar
closed_line_joins line first others r = closed_joins (ram_edges first others) line first others r

-- a netlist with the ports of RAMs behind its own, and these RAMs
abbrev pub with_rams : NetlistData → List RamData → ClosedNetlistData
with_rams n rams = closed_by n rams (fold with_ram n rams)

abbrev pub closed_whole : ClosedSoFar → ClosedNetlistData
closed_whole r = with_rams (whole r.0) (reverse r.1)

-- the closed netlist that a text says
abbrev pub closed_in : List ℕ → Option ClosedNetlistData
closed_in text = option_map closed_whole (blif_lines_join closed_line_joins ((empty_netlist, Nothing), []) (joined_lines (numbered 1 (lines text))))
