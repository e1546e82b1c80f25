use Rattle.std.proofs.Common.{◌≡◌, false, take}
use Rattle.clap.specs.Words.{app_of}
use Rattle.clap.specs.declared.builder.command.Command.TheViews.{out-Command as fields_of}
use Rattle.ice_flow_words.specs.Arguments.{with_arguments}
use Rattle.ice_flow_words.proofs.command.with_arguments.Given as goal

abbrev pub invariant-loop-argument : goal.invariant-loop-argument
invariant-loop-argument l = record {
  local : (fields_of l.command).has_globals ≡ false;
  app : app_of l.command ≡ with_arguments (app_of l.initial.command) (take l.argument-index l.arguments);
}
