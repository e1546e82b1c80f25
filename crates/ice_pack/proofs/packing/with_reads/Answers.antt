use Rattle.std.proofs.Common.{◌≡◌, ap, ◌∙◌, map}
use Rattle.ice_cells.specs.Packed.{read_pad}
use Rattle.ice_pack.specs.Marks.{marked_pad}
use Rattle.ice_pack.proofs.Marking.{reads_are}
use Rattle.ice_pack.proofs.packing.with_reads.Goals as goal

pub returns : goal.returns
returns c =
    let marks : c.deref.result.now ≡ c.in_ok-marks.marks.items = c.deref.ensures.value in
    let found : c.in_ok-pads.pads.items ≡ map (marked_pad c.in_ok-marks.marks.items) c.args.design.pads =
    c.in_ok-pads.ensures ∙ ap (λ ms. map (marked_pad ms) c.pads.result.now) marks ∙ ap (map (marked_pad c.in_ok-marks.marks.items)) c.pads.ensures in
    let pads : c.from_vec.result ≡ map (read_pad c.args.design) c.args.design.pads = c.from_vec.ensures ∙ reads_are c.args.design c.in_ok-marks.marks.items c.in_ok-pads.pads.items c.requires c.in_ok-marks.ensures found in
    λ i. record { cells = c.args.design.cells; runs = c.args.design.runs; pads = pads i; globals = c.args.design.globals; carries = c.args.design.carries }
