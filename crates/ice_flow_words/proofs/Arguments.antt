-- A command with the arguments of a list, one by one.
use Rattle.std.proofs.Common.{◌≡◌, ◌∙◌, ◌+◌, ◌<◌, ℕ, List, take, get_or, length, sym, ap}
use Rattle.std.proofs.lemmas.List.Sums.{fold_more}
use Rattle.clap.specs.Words.{App, with_rule}
use Rattle.ice_flow_words.specs.declared.command.Argument.{Argument}
use Rattle.ice_flow_words.specs.Arguments.{rule_for, with_arguments}

abbrev with_argument : App → Argument → App
with_argument app argument = with_rule app (rule_for argument)

-- the step of the loop
pub one_more : (app before after : App) (arguments : List Argument) (i : ℕ) (d : Argument)
    → i < length arguments → before ≡ with_arguments app (take i arguments) → after ≡ with_rule before (rule_for (get_or arguments i d))
    → after ≡ with_arguments app (take (i + 1) arguments)
one_more app before after arguments i d within so_far step =
    step ∙ ap (λ (a : App). with_argument a (get_or arguments i d)) so_far ∙ sym (fold_more with_argument app arguments i d within)
