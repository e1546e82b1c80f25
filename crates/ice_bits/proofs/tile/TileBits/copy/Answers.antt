use Rattle.std.proofs.Common.{ap, ◌∙◌}
use Rattle.std.proofs.lemmas.List.Elements.{same_from_all_zip}
use Rattle.ice_bits.specs.TileRows.{rows_view}
use Rattle.ice_bits.proofs.RowWrites.{rows_copied}
use Rattle.ice_bits.proofs.tile.TileBits.copy.Goals as goal

pub returns : goal.returns
returns c =
    rows_copied _ c.deref.result.now c.in_ok-rows.rows.items c.in_ok-rows.ensures.items (λ row copy same. same_from_all_zip _ row.items copy.items same.0 (λ x y e. e))
    ∙ ap rows_view c.deref.ensures.value
    ∙ c.self.view_is
