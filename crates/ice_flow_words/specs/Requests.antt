-- Requests: what a command is asked for.
use Rattle.std.specs.Prelude.{ℕ}
use Rattle.clap.specs.Words.{Text}
use Rattle.ice_flow_words.specs.BuildRequest.{Build}

-- `back`: the netlist of the bits at `asc` is written at `blif`
pub record Back : Type 0 where
  pub chip : Text
  pub package_name : Text
  pub asc : Text
  pub blif : Text

-- `play-net`
pub record PlayNet : Type 0 where
  pub blif : Text
  pub levels : Text

-- `play-bits`
pub record PlayBits : Type 0 where
  pub chip : Text
  pub package_name : Text
  pub asc : Text
  pub levels : Text

-- `time`
pub record Time : Type 0 where
  pub chip : Text
  pub package_name : Text
  pub asc : Text
  pub delays : Text

-- `sample`
pub record Sample : Type 0 where
  pub number : ℕ
  pub workers : ℕ

-- what words ask for
pub data Asked : Type 0 where
  ForBuild : Build → Asked
  ForBack : Back → Asked
  ForPlayNet : PlayNet → Asked
  ForPlayBits : PlayBits → Asked
  ForTime : Time → Asked
  ForSample : Sample → Asked
