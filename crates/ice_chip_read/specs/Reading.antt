-- What is read of a chip text up to a line: the rows so far, and the section that is open.
use Rattle.std.specs.Prelude.{ℕ, List, [], ◌∷◌, ◌++◌}
pub use Rattle.ice_base.specs.Places.{tile_at}
use Rattle.ice_chip.specs.Database.{Parts, no_parts, SwitchGroup, PackageRows}
use Rattle.ice_chip_read.specs.declared.section.Section.{Section}
use Rattle.ice_chip_read.specs.declared.section.Section.TheVariants as section

-- the rows of the sections that are ended, the lines of `.device` and of each `.net N`, the open section with the group
-- or package that its rows join, and the number of switch rows so far
pub record Reading : Type 0 where
  pub parts : Parts
  pub device : ℕ
  pub nets : List (ℕ × ℕ)
  pub open_section : Section
  pub group : SwitchGroup
  pub pins : PackageRows
  pub rows : ℕ

-- a group and a package without rows, where none is open
abbrev pub no_group : SwitchGroup
no_group = record { tile = tile_at 0 0; wire = 0; bits = []; first = 0; rows = []; line = 0 }

abbrev pub no_package : PackageRows
no_package = record { name = []; pins = []; pads = [] }

-- behind the line of `.device`
abbrev pub begun : ℕ → ℕ → ℕ → ℕ → Reading
begun line width height wires = record {
  parts = no_parts width height wires;
  device = line;
  nets = [];
  open_section = section.Rowless;
  group = no_group;
  pins = no_package;
  rows = 0;
}

-- a group or package whose section ends joins the others
abbrev pub parts_closed : Section → SwitchGroup → PackageRows → Parts → Parts
parts_closed section.Pins group pins parts = record parts { packages = parts.packages ++ pins ∷ [] }
parts_closed section.Switches group pins parts = record parts { groups = parts.groups ++ group ∷ [] }
parts_closed other group pins parts = parts

-- the parts with the group or package that is open
abbrev pub closed : Reading → Parts
closed r = parts_closed r.open_section r.group r.pins r.parts
