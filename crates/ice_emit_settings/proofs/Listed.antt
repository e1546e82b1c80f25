-- Rows that are listed by their numbers.
use Rattle.std.proofs.Common.{◌≡◌, Option, None, Some, List, [], ◌∷◌, ◌++◌, refl, ap, ◌∙◌}
use Rattle.std.specs.List.{cons_option}
use Rattle.std.proofs.lemmas.List.Elements.{filter_map-append}
use Rattle.ice_base.specs.declared.number.RowNo.{RowNo}
use Rattle.ice_chip.specs.Database.{Parts}
use Rattle.ice_decode.specs.declared.driver.Switch.{Switch}
use Rattle.ice_emit_defs.specs.Links.{tree_switch, listed}
use Rattle.ice_emit_settings.specs.Views.{switches}

one_listed : (o : Option Switch) → cons_option o [] ≡ listed o
one_listed None = refl
one_listed (Some s) = refl

pub last_row : (parts : Parts) (rows : List RowNo) (row : RowNo) → switches parts (rows ++ row ∷ []) ≡ switches parts rows ++ listed (tree_switch parts row)
last_row parts rows row = filter_map-append (tree_switch parts) rows (row ∷ []) ∙ ap (λ xs. switches parts rows ++ xs) (one_listed (tree_switch parts row))
