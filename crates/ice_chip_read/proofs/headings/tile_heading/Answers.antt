use Rattle.std.proofs.Common.{rules, ◌≡◌, [], ◌∷◌, ◌++◌, None}
use Rattle.std.specs.Map.{lookup}
use Rattle.ice_chip.specs.Database.{same_tile}
use Rattle.ice_chip_read.specs.Lines.{tile_line}
use Rattle.ice_chip.proofs.Entries.{new_goes_last}
use Rattle.ice_chip_read.proofs.headings.tile_heading.Goals as goal

pub returns : goal.returns
returns c =
    let none : lookup (same_tile c.in_ok-tile.tile) c.args.reading.now.parts.tiles.entries ≡ None = search rules in
    let joined : c.insert.new.self.entries ≡ c.args.reading.now.parts.tiles.entries ++ (c.in_ok-tile.tile, tile_line c.args.kind c.args.line) ∷ [] = new_goes_last same_tile c.args.reading.now.parts.tiles c.insert.new.self c.in_ok-tile.tile (tile_line c.args.kind c.args.line) none (search rules) in
    search rules
