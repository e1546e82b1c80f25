-- The sinks of a free cell, input by input.
use Rattle.std.specs.Prelude.{List, [], ◌∷◌, ◌++◌, Option, None, Some, if◌then◌else◌}
use Rattle.std.specs.List.{list_any}
use Rattle.ice_base.specs.declared.number.WireNo.{WireNo}
use Rattle.ice_cells.specs.declared.root.Root.{Root}
use Rattle.ice_cells.specs.Same.{same_source}
use Rattle.ice_emit_nets.specs.Ends.{End}

-- the sink of an input, unless an input before it reads the same root
abbrev pub first_end : List WireNo → List (Option Root) → Option Root → List End
first_end targets before None = []
first_end targets before (Some root) = if list_any (same_source (Some root)) before then [] else (root, targets) ∷ []

-- those of inputs behind others
abbrev pub first_ends : List WireNo → List (Option Root) → List (Option Root) → List End
first_ends targets before [] = []
first_ends targets before (input ∷ ins) = first_end targets before input ++ first_ends targets (before ++ input ∷ []) ins
