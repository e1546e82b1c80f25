-- What the reader answers, as the definitions see it.
use Rattle.std.specs.Prelude.{◌≡◌, Result, Ok, Err}
use Rattle.ice_asc.specs.Grammar as spec
use Rattle.ice_asc.specs.declared.fault.AscFault.{AscFault}
use Rattle.ice_asc.specs.declared.fault.AscStop.{AscStop}
use Rattle.ice_asc.specs.declared.fault.AscStop.TheVariants.{NoMemory, Fault}
use Rattle.ice_asc.specs.declared.reading.Reading.{Reading}

abbrev pub reading_view : Reading → spec.Reading
reading_view r = record {
  line = r.line;
  has_device = r.has_device;
  section = r.section;
  rows = r.rows;
  words = r.words.items;
  seen = r.seen.keys;
  filled = r.filled.keys;
  bits = r.bits;
}

-- what a function that takes no memory returned, seen by view, is what the definition says
abbrev pub Says : {X Y : Type 0} → (X → Y) → Result X AscFault → Result Y AscFault → Type 0
Says view (Ok x) said = said ≡ Ok (view x)
Says view (Err fault) said = said ≡ Err fault

abbrev pub Stops : {Y : Type 0} → AscStop → Result Y AscFault → Type 0
Stops NoMemory said = Unit {0}
Stops (Fault fault) said = said ≡ Err fault

-- what a function returned, seen by view, is what the definition says, unless memory ran out
abbrev pub Gives : {X Y : Type 0} → (X → Y) → Result X AscStop → Result Y AscFault → Type 0
Gives view (Ok x) said = said ≡ Ok (view x)
Gives view (Err stop) said = Stops stop said
