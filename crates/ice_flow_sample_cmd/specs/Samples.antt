-- What `sample` is asked for, and the task that the sample texts say.
use Rattle.std.specs.Prelude.{◌≡◌, ℕ, ◌≤◌, List, [], Ok, codes, false}
use Rattle.ice_blif.specs.Grammar.{netlist_of}
use Rattle.ice_pads.specs.Closings.{open_closing}
use Rattle.ice_flow_build.specs.declared.answer.Effort.{Effort}
use Rattle.ice_flow_build.specs.Laid.{Task}
use Rattle.ice_check.specs.Sound.{IsSound}
use Rattle.ice_chip_read.specs.Whole.{chip_says}
use Rattle.ice_sample.specs.Chip.{sample_chip_text}
use Rattle.ice_sample.specs.Netlist.{sample_net_text}
pub use Rattle.ice_flow_words.specs.Requests.{Sample}

-- from 1 to 8 workers
pub record IsManned (workers : ℕ) : Type 0 where
  pub some : 1 ≤ workers
  pub few : workers ≤ 8

-- the text of the chip: 14 tiles wide and 18 high
unfoldable pub chip_text : List ℕ
chip_text = sample_chip_text 14 18

-- the text of the netlist of a number: 96 cells
unfoldable pub net_text : ℕ → List ℕ
net_text number = sample_net_text number 96

-- the package of the chip
abbrev pub package_name : List ℕ
package_name = codes "sample"

-- up to 64 rounds without an opening; what is so does not depend on how many workers there are
abbrev pub sample_effort : Effort
sample_effort = record { seed = 1; rounds = 64; workers = 1; opening = false }

-- The sample texts of a number say this task: the one says the chip, and the other a sound netlist. Nothing constrains its ports.
pub record IsAsked (number : ℕ) (task : Task) : Type 0 where
  pub is_chip : chip_says chip_text ≡ Ok task.parts
  pub is_name : task.name ≡ package_name
  pub no_constraints : task.constraints ≡ []
  pub is_circuit : netlist_of (net_text number) ≡ Ok task.circuit
  pub is_sound : IsSound task.circuit
  pub is_open : task.closing ≡ open_closing task.circuit

-- the sample texts of a number say a task of which this is true
pub record Asks (number : ℕ) (IsSo : Task → Type 0) : Type 0 where
  pub task : Task
  pub is_asked : IsAsked number task
  pub is_so : IsSo task
