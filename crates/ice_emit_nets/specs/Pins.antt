-- Pins of tiles, as the program names them.
use Rattle.ice_place_defs.specs.Loads.{Pin, Input, Clock, Enable, SetReset, Feed, Drive, DriveEnable}
use Rattle.ice_emit_nets.specs.declared.pins.TilePin.{TilePin}
use Rattle.ice_emit_nets.specs.declared.pins.TilePin.TheVariants.{Input as AtInput, Clock as AtClock, Enable as AtEnable, SetReset as AtSetReset, Feed as AtFeed, Drive as AtDrive, DriveEnable as AtDriveEnable}

abbrev pub pin_in : TilePin → Pin
pin_in (AtInput i k) = Input i k
pin_in AtClock = Clock
pin_in AtEnable = Enable
pin_in AtSetReset = SetReset
pin_in AtFeed = Feed
pin_in (AtDrive pio) = Drive pio
pin_in (AtDriveEnable pio) = DriveEnable pio
