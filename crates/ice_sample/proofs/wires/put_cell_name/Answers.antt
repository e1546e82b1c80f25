use Rattle.std.proofs.Common.{◌++◌, codes, decimal, ap, ◌∙◌, refl}
use Rattle.ice_sample.specs.Lines.{place_words}
use Rattle.ice_base.proofs.Pieces.{further}
use Rattle.ice_sample.proofs.Numbering.{further_on_ok}
use Rattle.ice_sample.proofs.Picking.{placed_line}
use Rattle.ice_sample.proofs.wires.put_cell_name.Goals as goal

pub returns : goal.returns
returns c =
    let named = c.in_ok-put_worded.ensures ∙ ap (λ n. c.put_place.new.text.items ++ (codes " lutff_" ++ decimal n)) c.from.ensures in
    further_on_ok c.put_line.result _ _ c.put_line.new.text.items _ _ _ (further _ _ _ _ _ _ c.in_ok-put_place.ensures named refl) c.put_line.ensures
    (placed_line (place_words c.args.at) (codes "lutff_" ++ decimal c.args.cell) c.args.pin.now)
