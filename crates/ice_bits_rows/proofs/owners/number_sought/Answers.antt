use Rattle.std.proofs.Common.{ap, ◌∙◌, unwrap_or, position}
use Rattle.ice_chip.specs.Database.{same_tile}
use Rattle.ice_bits_rows.proofs.Blocks.{sought_at}
use Rattle.ice_bits_rows.proofs.owners.number_sought.Goals as goal

pub returns : goal.returns
returns c =
    c.unwrap_or.ensures
    ∙ ap (λ found. unwrap_or found c.len.result) c.get_index_of.ensures.index
    ∙ ap (unwrap_or (position (same_tile c.args.tile) c.args.owners.now.tiles.keys)) c.len.ensures.len
    ∙ sought_at (same_tile c.args.tile) c.args.owners.now.tiles.keys
