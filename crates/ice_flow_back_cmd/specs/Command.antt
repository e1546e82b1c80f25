-- The command `back`.
use Rattle.std.specs.Prelude.{ℕ, List, false}
use Rattle.ice_flow_frame.specs.declared.cause.Cause.{Cause}
use Rattle.ice_flow_frame.specs.Commands.{Command, command_of, InFiles, IsDone}
use Rattle.ice_flow_chip_frame.specs.Standing as bits
use Rattle.ice_flow_back_cmd.specs.Asked.{Back, files_of, outputs_of}
use Rattle.ice_flow_back_cmd.specs.Made.{IsMadeByBack}

-- behind bits without a fault the work is done
abbrev pub StandsForBack : List ℕ → List (List ℕ) → Cause → Type 0
StandsForBack name texts = bits.TextsStand false (λ bonded. IsDone) name texts

abbrev pub back_files : Back → Command
back_files b = command_of (files_of b) (StandsForBack b.package_name) (IsMadeByBack b.package_name) (InFiles (outputs_of b))
