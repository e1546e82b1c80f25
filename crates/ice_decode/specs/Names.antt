-- The names of pins and of functions, as they stand at the chip.
pub use Rattle.ice_chip.specs.Names.{digit, input_name, pad_input_name, pad_output_name, output_enable_name, cell_function, pin_type_function, input_enable_function, column_buffer_function}
