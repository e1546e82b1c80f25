use Rattle.std.proofs.Common.{option_map}
use Rattle.ice_asc.proofs.Joining.{tile_joined}
use Rattle.ice_asc.proofs.write.put_tile.Goals as goal

pub returns : goal.returns
returns c =
    tile_joined c.args.bits.now c.args.tile.now (option_map (λ rows. rows.now) c.tile.result) c.columns.result c.args.out.now.items c.put_heading.new.out.items c.put_rows.new.out.items
    c.in_ok-put_heading.ensures c.tile.ensures c.columns.ensures c.in_ok-put_rows.ensures
