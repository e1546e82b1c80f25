-- The groups into each wire, as lists.
use Rattle.std.specs.Prelude.{List, [], ◌∷◌, ◌++◌, map, slice_set, slice_index_or, Vec}
use Rattle.std.specs.Borrow.{Bor}
use Rattle.std.specs.declared.alloc.Global.{Global}
use Rattle.ice_chip.specs.Database.{SwitchGroup}
use Rattle.ice_chip.specs.Views.{group_view}
use Rattle.ice_chip.specs.declared.sections.Group.{Group}

abbrev pub views : List (Bor Group) → List SwitchGroup
views groups = map (λ g. group_view g.now) groups

abbrev pub lists_of : List (Vec (Bor Group) Global) → List (List SwitchGroup)
lists_of lists = map (λ list. views list.items) lists

abbrev pub with_listed : List (List SwitchGroup) → SwitchGroup → List (List SwitchGroup)
with_listed lists g = slice_set lists g.wire (slice_index_or lists g.wire [] ++ g ∷ [])

abbrev pub listed : List (List SwitchGroup) → List SwitchGroup → List (List SwitchGroup)
listed lists [] = lists
listed lists (g ∷ groups) = listed (with_listed lists g) groups
