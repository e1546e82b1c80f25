-- The rows of a tile's bits as the definitions see them.
use Rattle.std.specs.Prelude.{Bool, List, map, Vec}
use Rattle.std.specs.declared.alloc.Global.{Global}

-- the rows without where they lie in memory
abbrev pub rows_view : List (Vec Bool Global) → List (List Bool)
rows_view rows = map (λ row. row.items) rows
