-- What `build` is asked for.
use Rattle.std.specs.Prelude.{ℕ, Bool, Option}
use Rattle.clap.specs.Words.{Text}

-- `build`: the netlist at `blif` on the chip at `chip`, with the constraints at `pcf`; the text of its bits is written at `asc`, and reports on the
-- pins and on the routes where their files are named
pub record Build : Type 0 where
  pub chip : Text
  pub package_name : Text
  pub pcf : Text
  pub blif : Text
  pub asc : Text
  pub pins : Option Text
  pub report : Option Text
  pub seed : ℕ
  pub rounds : ℕ
  pub workers : ℕ
  pub opening : Bool
