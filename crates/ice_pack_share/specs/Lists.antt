-- The record that contracts see of what is known of cells.
pub use Rattle.ice_cells.specs.Homes.{Facts as FactLists}
