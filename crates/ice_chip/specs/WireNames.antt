-- The wires that names are of.
pub use Rattle.ice_chip_names.specs.WireNames.{output_name, carry_out_name, look_up_name, clock_name, clock_enable_name, set_reset_name, carry_in_name, first_carry_name, fabout_name, global_name, wire_name, IsTileWire, cell_wire, pad_wire, lone_wire, ram_wire, global_wire, outer_wire, tile_wire, IsNamedWire, WireNamesAreRead}
