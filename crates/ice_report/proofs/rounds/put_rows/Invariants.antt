use Rattle.std.proofs.Common.{◌≡◌, ◌++◌, ◌∷◌, ℕ, List, map, take, decimal}
use Rattle.std.specs.List.{flat_map}
use Rattle.ice_base.specs.declared.number.RowNo.{RowNo}
use Rattle.ice_report.proofs.rounds.put_rows.Given as goal

abbrev pub invariant-loop-row : goal.invariant-loop-row
invariant-loop-row l = l.text.items ≡ l.fn.text.items ++ flat_map (λ (word : List ℕ). 32 ∷ word) (map (λ (row : RowNo). decimal row.0) (take l.row-index l.rows))
