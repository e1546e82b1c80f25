-- What `build` is asked for, and the task that its three texts say.
use Rattle.std.specs.Prelude.{◌≡◌, ℕ, ◌<◌, Option, None, Some, List, [], ◌∷◌, ◌++◌, length, Ok}
use Rattle.ice_net.specs.Formed.{IsFormed}
use Rattle.ice_net.specs.NetlistData.{NetlistData}
use Rattle.ice_ram_read.specs.ClosedNetlists.{closed_netlist_of, without_rams}
use Rattle.ice_check.specs.Sound.{IsSound}
use Rattle.ice_chip_read.specs.Whole.{chip_says}
use Rattle.ice_pcf.specs.Grammar.{pin_text_says}
use Rattle.ice_pads.specs.Closings.{open_closing}
use Rattle.ice_flow_prepare.specs.Prepared.{most_cells, prepared_on}
use Rattle.ice_flow_build.specs.Laid.{Task}
use Rattle.ice_flow_build.specs.declared.answer.Effort.{Effort}
use Rattle.ice_flow_frame.specs.declared.cause.FileRole.{FileRole}
use Rattle.ice_flow_frame.specs.declared.cause.FileRole.TheVariants.{Chip, Pcf, Blif, Asc, Pins, Report}
use Rattle.ice_flow_frame.specs.Reading.{File, Files}
use Rattle.ice_flow_frame.specs.Texts.{text_at}
pub use Rattle.ice_flow_words.specs.BuildRequest.{Build}

-- how long to try, and from where
abbrev pub effort_of : Build → Effort
effort_of b = record { seed = b.seed; rounds = b.rounds; workers = b.workers; opening = b.opening }

-- the files that are read, in the order of reading
abbrev pub files_of : Build → Files
files_of b = record { role = Chip; name = b.chip } ∷ record { role = Pcf; name = b.pcf } ∷ record { role = Blif; name = b.blif } ∷ []

-- a file, where there is one
abbrev pub listed : Option File → Files
listed None = []
listed (Some file) = file ∷ []

-- the file of this role, where its name is asked for
abbrev pub file_asked : FileRole → Option (List ℕ) → Option File
file_asked role None = None
file_asked role (Some name) = Some (record { role = role; name = name })

-- the file of the report on the pins, where it is asked for
abbrev pub pins_of : Build → Option File
pins_of b = file_asked Pins b.pins

-- the file of the report on the routes, where it is asked for; it is written, too, where the rounds give up
abbrev pub parting_of : Build → Option File
parting_of b = file_asked Report b.report

-- the files that are written, in the order of writing: that of the bits, and those of the reports
abbrev pub outputs_of : Build → Files
outputs_of b = record { role = Asc; name = b.asc } ∷ (listed (pins_of b) ++ listed (parting_of b))

-- The texts say this task: the first says the chip, the second the constraints, and the third a sound netlist without RAMs. That is to be
-- built in the package of this name, with its clocks promoted and the ends of its carry chains in their runs.
pub record IsAsked (name : List ℕ) (texts : List (List ℕ)) (task : Task) : Type 0 where
  pub circuit : NetlistData
  pub is_chip : chip_says (text_at texts 1) ≡ Ok task.parts
  pub is_name : task.name ≡ name
  pub are_constraints : pin_text_says (text_at texts 2) ≡ Ok task.constraints
  pub is_circuit : closed_netlist_of (text_at texts 3) ≡ Ok (without_rams circuit)
  pub is_sound : IsSound circuit
  pub is_prepared : task.circuit ≡ prepared_on task.parts circuit []
  pub is_open : task.closing ≡ open_closing circuit

-- the texts say this task, and its netlist as it was read is well formed and has room for what is added
pub record IsTaskRead (name : List ℕ) (texts : List (List ℕ)) (task : Task) : Type 0 where
  pub is_asked : IsAsked name texts task
  pub is_formed : IsFormed is_asked.circuit
  pub has_room : length is_asked.circuit.cells < most_cells

-- the texts say a task of which this is true
pub record Asks (name : List ℕ) (IsSo : Task → Type 0) (texts : List (List ℕ)) : Type 0 where
  pub task : Task
  pub is_asked : IsAsked name texts task
  pub is_so : IsSo task
