-- The command `build`.
use Rattle.ice_flow_frame.specs.Commands.{Command, InFiles}
use Rattle.ice_flow_build_cmd.specs.Asked.{Build, files_of, outputs_of, parting_of, effort_of}
use Rattle.ice_flow_build_cmd.specs.Made.{IsMadeByBuild}
use Rattle.ice_flow_build_cmd.specs.Parting.{TellsOf}
use Rattle.ice_flow_build_cmd.specs.Standing.{StandsForBuild}

abbrev pub build_files : Build → Command
build_files b = record {
  files = files_of b;
  Stands = StandsForBuild b.package_name (effort_of b);
  Gives = IsMadeByBuild b;
  output = InFiles (outputs_of b);
  parting = parting_of b;
  Leaves = TellsOf b;
}
