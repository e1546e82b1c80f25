use Rattle.std.proofs.Common.{ap, ◌∙◌}
use Rattle.ice_chip.specs.Views.{group_view, row_view}
use Rattle.ice_bits.specs.Rewriting.{with_places}
use Rattle.ice_bits.proofs.TileWrites.{row_rewrites}
use Rattle.ice_bits.proofs.bits.Bits.set_row.Goals as goal

pub returns : goal.returns
returns c =
    row_rewrites c.args.chip.now c.args.row.0 (group_view c.row.result.0.now) (row_view c.row.result.1.now) c.args.self.now c.write_all.new.self c.row.ensures
    (c.write_all.ensures ∙ ap (λ ps. with_places c.row.result.0.now.tile ps c.deref-2.result.now c.args.self.now) c.deref.ensures
    ∙ ap (λ vs. with_places c.row.result.0.now.tile c.row.result.0.now.bits.items vs c.args.self.now) c.deref-2.ensures)
