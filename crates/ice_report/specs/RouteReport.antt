-- The report on routing: the sizes of a design, the opening, if there was one, with the trees that nets keep, each round with its histories,
-- its new trees and what stays overused, and how it ended.
use Rattle.std.specs.Prelude.{◌==◌, ℕ, Bool, if◌then◌else◌, List, [], ◌∷◌, ◌++◌, map, codes, decimal}
use Rattle.std.specs.List.{flat_map}
use Rattle.ice_base.specs.Lines.{text_of_lines}
use Rattle.ice_base.specs.declared.number.WireNo.{WireNo}
use Rattle.ice_base.specs.declared.number.NetNo.{NetNo}
use Rattle.ice_base.specs.declared.number.RowNo.{RowNo}
use Rattle.ice_graph.specs.declared.tree.Tree.{Tree}
use Rattle.ice_core.specs.declared.log.RoundLog.{RoundLog}
use Rattle.ice_report.specs.Lines.{line_of}

-- how many cells the design has, how many tiles it needs, and how many nets
abbrev pub sizes_line : ℕ → ℕ → ℕ → List ℕ
sizes_line cells tiles nets = line_of (codes "cells" ∷ decimal cells ∷ codes "tiles" ∷ decimal tiles ∷ codes "nets" ∷ decimal nets ∷ [])

-- a wire and a number of it
abbrev pub wire_line : List ℕ → WireNo × ℕ → List ℕ
wire_line title entry = line_of (title ∷ decimal entry.0.0 ∷ decimal entry.1 ∷ [])

-- a net and the rows of its tree in the order of addition
abbrev pub rows_line : NetNo → List RowNo → List ℕ
rows_line net rows = line_of (codes "net" ∷ decimal net.0 ∷ codes "rows" ∷ map (λ (row : RowNo). decimal row.0) rows)

abbrev pub net_line : NetNo × Tree → List ℕ
net_line moved = rows_line moved.0 moved.1.rows.items

-- the first line of a round, or that of the opening, which has the number 0
abbrev pub title_line : ℕ → List ℕ
title_line round = if round == 0 then line_of (codes "opening" ∷ []) else line_of (codes "round" ∷ decimal round ∷ [])

-- a round: what each wire was overused by before, the nets that moved, and the wires that are overused after it
abbrev pub round_lines : RoundLog → List (List ℕ)
round_lines log =
    title_line log.round
    ∷ (map (wire_line (codes "history")) log.history.items ++ map net_line log.moved.items ++ map (wire_line (codes "over")) log.over.items)

abbrev pub end_line : Bool → List ℕ
end_line routed = if routed then codes "routed" else codes "gave up"

-- the sizes, the rounds in order, and whether the nets were routed in the end
abbrev pub route_lines : ℕ → ℕ → ℕ → List RoundLog → Bool → List (List ℕ)
route_lines cells tiles nets logs routed = sizes_line cells tiles nets ∷ (flat_map round_lines logs ++ end_line routed ∷ [])

abbrev pub route_text : ℕ → ℕ → ℕ → List RoundLog → Bool → List ℕ
route_text cells tiles nets logs routed = text_of_lines (route_lines cells tiles nets logs routed)
