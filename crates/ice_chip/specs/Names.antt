-- The names of functions and wires.
pub use Rattle.ice_chip_names.specs.Names.{digit, number_of_digit, lone_number, behind, number_behind, is_global_name, cell_pin, input_name, pad_input_name, pad_output_name, output_enable_name, input_clock_name, output_clock_name, in_out_enable_name, cell_function, falling_clock_function, pin_type_function, input_enable_function, column_buffer_function, separated_number, padin_global}
