-- Bits as the definitions see them.
use Rattle.ice_bits.specs.Configuration.{Configuration}
use Rattle.ice_bits.specs.declared.bits.Bits.TheInside.{Inside}

abbrev pub bits_view : Inside → Configuration
bits_view c = record { tiles = c.grids; kinds = c.kinds.items; extras = c.extras.items; contents = c.contents }
