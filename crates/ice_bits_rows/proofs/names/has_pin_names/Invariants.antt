use Rattle.std.proofs.Common.{◌≡◌, ◌||◌, drop}
use Rattle.std.specs.List.{list_any}
use Rattle.ice_chip.specs.Lookups.{kind_at}
use Rattle.ice_bits_rows.specs.WireNames.{is_input_in, is_output_in, has_input_name, has_output_name}
use Rattle.ice_bits_rows.proofs.names.has_pin_names.Given as goal

abbrev pub invariant-loop-placed : goal.invariant-loop-placed
invariant-loop-placed l = record {
  input : has_input_name l.chip l.fn.wire.0 ≡ (l.input || list_any (λ n. is_input_in (kind_at l.chip n.tile) n.name) (drop l.placed-index l.placed-items));
  output : has_output_name l.chip l.fn.wire.0 ≡ (l.output || list_any (λ n. is_output_in (kind_at l.chip n.tile) n.name) (drop l.placed-index l.placed-items));
}
