-- What is shown, with the pads that are chosen, and by the readers of the texts: more than the headline says.
use Rattle.std.specs.Prelude.{◌≡◌, ℕ, List, Ok}
use Rattle.ice_net.specs.NetlistData.{NetlistData}
use Rattle.ice_ram_read.specs.ClosedNetlists.{closed_netlist_of, without_rams}
use Rattle.ice_check.specs.Sound.{IsSound}
use Rattle.ice_chip.specs.Database.{Parts}
use Rattle.ice_chip_read.specs.Whole.{chip_says}
use Rattle.ice_pcf.specs.Grammar.{pin_text_says}
use Rattle.ice_pcf.specs.declared.constraint.Constraint.{Constraint}
use Rattle.ice_bits.specs.Configuration.{Configuration}
use Rattle.ice_asc.specs.Grammar.{asc_in}
use Rattle.ice_asc.specs.Text.{asc_text}
use Rattle.ice_cells.specs.Runs.{design_of}
use Rattle.ice_pads.specs.Assign.{PadsData, assign_of}
use Rattle.ice_pads.specs.Closings.{open_closing}
use Rattle.ice_place.specs.declared.arrangement.Arrangement.{Arrangement}
use Rattle.ice_flow_build.specs.Shown.{RealisesNetlist}
use Rattle.ice_flow_frame.specs.Texts.{text_at}
use Rattle.ice_flow_frame.specs.Told.{Told}
use Rattle.ice_flow_build_cmd.specs.Asked.{Build}
use Rattle.ice_flow_build_cmd.specs.Made.{IsMadeByBuild}

-- The text of bits, read by the database that the first text says, is a circuit without a fault. For every list of levels it shows,
-- step by step, exactly what the sound netlist without RAMs of the third text shows, at the pads that the constraints of the second give its ports in
-- the package of this name, and it drives no other pad.
pub record IsShownExactly (name : List ℕ) (texts : List (List ℕ)) (text : List ℕ) : Type 0 where
  pub parts : Parts
  pub constraints : List Constraint
  pub circuit : NetlistData
  pub pads : PadsData
  pub configuration : Configuration
  pub is_chip : chip_says (text_at texts 1) ≡ Ok parts
  pub are_constraints : pin_text_says (text_at texts 2) ≡ Ok constraints
  pub is_circuit : closed_netlist_of (text_at texts 3) ≡ Ok (without_rams circuit)
  pub is_sound : IsSound circuit
  pub are_pads : assign_of parts name constraints circuit (open_closing circuit) (design_of circuit) ≡ Ok pads
  pub decodes : asc_in parts text ≡ Ok configuration
  pub shows : RealisesNetlist circuit pads.ports parts configuration

-- the bits that `build` makes of its texts are shown so
abbrev pub MadeIsShownExactly : Type 0
MadeIsShownExactly = (b : Build) (texts made : List (List ℕ)) (arrangement : Arrangement) (told : Told) (is_made : IsMadeByBuild b texts made arrangement told)
    → IsShownExactly b.package_name texts (asc_text is_made.task.parts is_made.built.bits)
