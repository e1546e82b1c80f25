use Rattle.std.proofs.Common.{rules, arith, ◌∙◌, ap}
use Rattle.clap.specs.Words.{Rule, app_of, with_rule}
use Rattle.ice_flow_words.proofs.Arguments.{one_more}
use Rattle.ice_flow_words.proofs.command.with_arguments.Goals as goal

pub loop-argument-preserved : goal.loop-argument-preserved
loop-argument-preserved c = record {
  local = search rules;
  app = one_more (app_of c.args.command) (app_of c.loop-argument.command) _ c.args.arguments.now c.loop-argument.argument-index _ (omega arith) c.loop-argument.invariant.app
      (c.in_ok-command.ensures.shape c.arg_of.ensures.local ∙ ap (λ (r : Rule). with_rule (app_of c.loop-argument.command) r) c.arg_of.ensures.rule);
}
