-- What `back` is asked for.
use Rattle.std.specs.Prelude.{[], ◌∷◌}
use Rattle.ice_flow_frame.specs.declared.cause.FileRole.TheVariants.{Chip, Asc, Blif}
use Rattle.ice_flow_frame.specs.Reading.{Files}
pub use Rattle.ice_flow_words.specs.Requests.{Back}

-- the files that are read, in the order of reading
abbrev pub files_of : Back → Files
files_of b = record { role = Chip; name = b.chip } ∷ record { role = Asc; name = b.asc } ∷ []

-- the one file that is written
abbrev pub outputs_of : Back → Files
outputs_of b = record { role = Blif; name = b.blif } ∷ []
