-- The functions that names are of.
pub use Rattle.ice_chip_names.specs.FunctionNames.{carry_set_function, pull_up_function, power_up_function, ram_mode_function, function_name, IsTileFunction, pad_function, lone_function, mode_function, buffer_function, enable_function, outer_function, tile_function, IsNamedFunction, FunctionNamesAreRead}
