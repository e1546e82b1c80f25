-- The rows of a chip database as the definitions see them.
use Rattle.std.specs.Prelude.{map}
use Rattle.ice_chip.specs.Database.{FunctionRow, WireName, SwitchRow, SwitchGroup, PackageRows, Parts}
use Rattle.ice_chip.specs.declared.sections.Function.{Function}
use Rattle.ice_chip.specs.declared.sections.NameRow.{NameRow}
use Rattle.ice_chip.specs.declared.sections.Row.{Row}
use Rattle.ice_chip.specs.declared.sections.Group.{Group}
use Rattle.ice_chip.specs.declared.parts.Package.{Package}
use Rattle.ice_chip.specs.declared.parts.ChipParts.{ChipParts}

abbrev pub function_view : Function → FunctionRow
function_view f = record { kind = f.kind; name = f.name; bits = f.bits.items; line = f.line }

abbrev pub name_view : NameRow → WireName
name_view n = record { wire = n.wire.0; tile = n.tile; name = n.name; line = n.line }

abbrev pub row_view : Row → SwitchRow
row_view r = record { values = r.values.items; source = r.source.0; line = r.line }

abbrev pub group_view : Group → SwitchGroup
group_view g = record { tile = g.tile; wire = g.wire.0; bits = g.bits.items; first = g.first.0; rows = map row_view g.rows.items; line = g.line }

abbrev pub package_view : Package → PackageRows
package_view p = record { name = p.name; pins = p.pins.entries; pads = p.pads.keys }

abbrev pub parts_view : ChipParts → Parts
parts_view p = record {
  width = p.width;
  height = p.height;
  wires = p.wires;
  tiles = p.tiles.entries;
  functions = map function_view p.functions.items;
  names = map name_view p.names.items;
  groups = map group_view p.groups.items;
  packages = map package_view p.packages.items;
  gbufin = p.gbufin.items;
  gbufpin = p.gbufpin.items;
  padin = p.padin.items;
  ieren = p.ieren.items;
  colbuf = p.colbuf.items;
}
