-- What is kept of the lines so far, and of the ports so far.
use Rattle.std.specs.Prelude.{◌≡◌, ℕ, ◌+◌, false, if◌then◌else◌, Option, None, List, slice_index_or, take}
use Rattle.std.specs.List.{list_any}
use Rattle.std.specs.HashMap.{HashMap, get_by}
use Rattle.std.specs.HashSet.{HashSet, contains_by}
use Rattle.ice_chip.specs.Database.{Parts, same_pad}
use Rattle.ice_chip.specs.declared.rows.Pad.{Pad}
use Rattle.ice_pads.specs.declared.want.Want.{Want}
use Rattle.ice_pads.specs.declared.given.Given.{Given}
use Rattle.ice_pads.specs.declared.given.Chosen.{Chosen}
use Rattle.ice_net.specs.declared.port.Port.{Port}
use Rattle.ice_pads.specs.declared.tables.Tables.{Tables}
use Rattle.ice_pads.specs.declared.progress.Progress.{Progress}
use Rattle.ice_pads.specs.Constraints.{of_port, of_pad, place_of_port}
use Rattle.ice_pads.specs.Ports.{is_fit}

-- each port and each pad has what the first line with it gave
pub record AreTables {S : Type 0} (given : List Given) (ports : List (Option Given)) (pads : HashMap Pad Given S) : Type 0 where
  pub by_port : (k : ℕ) → slice_index_or ports k None ≡ of_port given k
  pub by_pad : (pad : Pad) → get_by (same_pad pad) pads ≡ of_pad given pad

-- the tables are kept
abbrev pub AreKept : Tables → Type 0
AreKept tables = AreTables tables.given.items tables.ports.items tables.pads

-- the place of the first port of each signal
abbrev pub ArePlaces : List Port → List (Option ℕ) → Type 0
ArePlaces ports places = (s : ℕ) → slice_index_or places s None ≡ place_of_port ports s

-- the set has the pads of these ports
abbrev pub AreTaken : {S : Type 0} → List Chosen → HashSet Pad S → Type 0
AreTaken chosen taken = (pad : Pad) → contains_by (same_pad pad) taken ≡ list_any (λ (c : Chosen). same_pad pad c.pad) chosen

-- the number of the wires that a port needs
abbrev pub kind_of : Want → ℕ
kind_of want = (if want.input then 1 else 0) + (if want.output then 2 else 0) + (if want.enable then 4 else 0)

-- no pad before a port's starting place fits it
abbrev pub ArePassed : Parts → List Pad → List Given → List Chosen → List ℕ → Type 0
ArePassed parts pads given chosen starts = (want : Want) → list_any (is_fit parts given chosen want) (take (slice_index_or starts (kind_of want) 0) pads) ≡ false

-- what is kept of the ports so far
pub record AreDone (parts : Parts) (pads : List Pad) (given : List Given) (progress : Progress) : Type 0 where
  pub taken : AreTaken progress.chosen.items progress.taken
  pub passed : ArePassed parts pads given progress.chosen.items progress.starts
