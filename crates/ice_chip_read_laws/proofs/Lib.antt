mod LineWords
mod Named
pub mod RowsSaid
mod TextWords
mod TextSections
mod TextRows
mod TextHeadings
pub mod TextLines
