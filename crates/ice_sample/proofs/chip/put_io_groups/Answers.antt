use Rattle.std.proofs.Common.{refl}
use Rattle.ice_sample.specs.declared.grid.TileKind.TheVariants.{Io}
use Rattle.ice_sample.specs.Bits.{io_functions}
use Rattle.ice_sample.specs.Groups.{SampleGroup, group_lines, track_groups, io_pin_groups}
use Rattle.ice_sample.proofs.Numbering.{further_on_ok, lists_join}
use Rattle.ice_sample.proofs.chip.put_io_groups.Goals as goal

pub returns : goal.returns
unfolding io_functions track_groups
returns c =
    let g = c.args.grid.now in
    let t = c.args.at in
    further_on_ok c.put_io_pins.result _ _ c.put_io_pins.new.text.items _ _ _ c.in_ok-put_tracks.ensures c.put_io_pins.ensures
    (lists_join (λ (x : SampleGroup). x.size) (group_lines Io t) 16 (track_groups g.width g.height Io t) (io_pin_groups c.args.first) 208 refl)
