-- The arguments that the code lists, as rules of a command.
use Rattle.std.specs.Prelude.{List, fold}
use Rattle.clap.specs.Words.{App, Rule, with_rule}
use Rattle.ice_flow_words.specs.Command.{place, number_place, file_option, number_option}
use Rattle.ice_flow_words.specs.declared.command.Argument.{Argument}
use Rattle.ice_flow_words.specs.declared.command.Argument.TheVariants as argument

abbrev pub rule_for : Argument → Rule
rule_for (argument.Place id) = place id.now
rule_for (argument.NumberPlace id least most) = number_place id.now least most
rule_for (argument.File id) = file_option id.now
rule_for (argument.Number id least most usual) = number_option id.now least most usual.now

-- a command with a rule more for each argument, in order
abbrev pub with_arguments : App → List Argument → App
with_arguments app arguments = fold (λ (a : App) (argument : Argument). with_rule a (rule_for argument)) app arguments
