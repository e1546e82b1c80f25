-- What the reader answers, as the definitions see it.
use Rattle.std.specs.Prelude.{◌≡◌, Result, Ok, Err}
use Rattle.ice_chip.specs.Views.{parts_view, group_view, package_view}
use Rattle.ice_chip_read.specs.Reading as spec
use Rattle.ice_chip.specs.declared.fault.ChipFault.{ChipFault}
use Rattle.ice_chip_read.specs.declared.fault.ChipStop.{ChipStop}
use Rattle.ice_chip_read.specs.declared.fault.ChipStop.TheVariants.{NoMemory, Fault}
use Rattle.ice_chip_read.specs.declared.reading.Reading.{Reading}

-- what a function that takes no memory returned, seen by view, is what the definition says
abbrev pub Says : {X Y : Type 0} → (X → Y) → Result X ChipFault → Result Y ChipFault → Type 0
Says view (Ok x) said = said ≡ Ok (view x)
Says view (Err fault) said = said ≡ Err fault

abbrev pub Stops : {Y : Type 0} → ChipStop → Result Y ChipFault → Type 0
Stops NoMemory said = Unit {0}
Stops (Fault fault) said = said ≡ Err fault

-- what a function returned, seen by view, is what the definition says, unless memory ran out
abbrev pub Gives : {X Y : Type 0} → (X → Y) → Result X ChipStop → Result Y ChipFault → Type 0
Gives view (Ok x) said = said ≡ Ok (view x)
Gives view (Err stop) said = Stops stop said

abbrev pub reading_view : Reading → spec.Reading
reading_view r = record {
  parts = parts_view r.parts;
  device = r.device;
  nets = r.nets.entries;
  open_section = r.section;
  group = group_view r.group;
  pins = package_view r.pins;
  rows = r.rows;
}
