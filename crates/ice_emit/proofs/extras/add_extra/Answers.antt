use Rattle.std.proofs.Common.{[], sym, ap, ◌∙◌}
use Rattle.std.specs.List.{cons_option}
use Rattle.ice_emit.specs.Views.{with_extras}
use Rattle.ice_emit.proofs.ExtraBits.{nothing_more}
use Rattle.ice_emit.proofs.extras.add_extra.Goals as goal

pub returns-in-None : goal.returns-in-None
returns-in-None c = nothing_more c.args.bits.now ∙ ap (λ o. with_extras (cons_option o []) c.args.bits.now) (sym c.in-None.is)

pub returns-in_ok-add_extra-in-Some : goal.returns-in_ok-add_extra-in-Some
returns-in_ok-add_extra-in-Some c = c.in_ok-add_extra-in-Some.ensures.added ∙ ap (λ o. with_extras (cons_option o []) c.args.bits.now) (sym c.in-Some.is)
