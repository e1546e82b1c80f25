use Rattle.std.proofs.Common.{refl}
use Rattle.std.specs.Fmt.{digits}
use Rattle.ice_sample.specs.Wires.{io_names, cell_names, cell_pins, control_names, track_names}
use Rattle.ice_sample.proofs.laws.names_are_at_places.Goals as goal

pub returns : goal.returns
unfolding io_names cell_names cell_pins control_names track_names digits
returns c = record {
  inputs = refl;
  outputs = refl;
  carries = refl;
  controls = refl;
  pads = refl;
  logic_tracks = refl;
  io_tracks = refl;
  logic_wires = refl;
  io_wires = refl;
}
