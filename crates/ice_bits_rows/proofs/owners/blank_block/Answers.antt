use Rattle.std.proofs.Common.{None, Option, ap, get_or, length, ◌∙◌}
use Rattle.std.proofs.lemmas.List.{length-replicate}
use Rattle.ice_bits_rows.specs.declared.owners.Owner.{Owner}
use Rattle.ice_bits_rows.proofs.Blocks.{none_at}
use Rattle.ice_bits_rows.proofs.owners.blank_block.Goals as goal

pub returns-clause-long : goal.returns-clause-long
returns-clause-long c = ap length c.in_ok-block.ensures ∙ length-replicate {A = Option Owner} c.args.places None

pub returns-clause-none : goal.returns-clause-none
returns-clause-none c = λ i. ap (λ xs. get_or xs i None) c.in_ok-block.ensures ∙ none_at c.args.places i
