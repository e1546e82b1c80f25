-- The rows by which wires are driven.
use Rattle.std.specs.Prelude.{Option, None, Some}
use Rattle.ice_base.specs.declared.number.RowNo.{RowNo}
use Rattle.ice_decode.specs.declared.driver.Driver.{Driver}
use Rattle.ice_decode.specs.declared.driver.Driver.TheVariants.{Nothing, By, Several}

-- the number of the one row that drives a wire
abbrev pub row_of : Driver → Option RowNo
row_of Nothing = None
row_of (By s) = Some s.row
row_of (Several first second) = None
