-- Carries that would stand behind all cells of a netlist, at look-up tables whose inputs they read.
use Rattle.std.specs.Prelude.{ℕ, List, [], ◌++◌, map, slice_get}
use Rattle.std.specs.Option.{option_map_or}
use Rattle.ice_net.specs.declared.cell.Cell.{Cell}
use Rattle.ice_cells.specs.declared.origin.Origin.{Origin}
use Rattle.ice_cells.specs.declared.share.Role.{Role}
use Rattle.ice_cells.specs.declared.share.Role.TheVariants.{Takes}
use Rattle.ice_cells.specs.Pairs.{pair_of, roles_of}

-- what a carry is whose two inputs read what the table at this place reads at its second and third
abbrev pub role_at : List Origin → List Cell → ℕ → Role
role_at os cells i = Takes (pair_of os (option_map_or (λ (cell : Cell). cell.ins) (slice_get cells i) []) 1 2)

-- what all cells are, and then such a carry for each of these tables
abbrev pub roles_behind : List Origin → List Cell → List ℕ → List Role
roles_behind os cells tables = roles_of os cells ++ map (role_at os cells) tables
