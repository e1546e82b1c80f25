use Rattle.std.proofs.Common.{sym, ◌∙◌, arith}
use Rattle.ice_pads.specs.Ports.{is_fit}
use Rattle.ice_pads.proofs.Fits.{place_found, none_found}
use Rattle.ice_pads.proofs.choosing.first_fit.Goals as goal

pub returns-then-is_fit-clause-found : goal.returns-then-is_fit-clause-found
returns-then-is_fit-clause-found c =
    place_found (is_fit c.args.chip.now c.args.tables.now.given.items c.args.progress.now.chosen.items c.args.want) c.args.pads.now c.loop-place.place _ (omega arith) c.loop-place.invariant (sym c.is_fit.ensures ∙ c.if-is_fit.true)

pub returns-clause-found : goal.returns-clause-found
returns-clause-found c = none_found (is_fit c.args.chip.now c.args.tables.now.given.items c.args.progress.now.chosen.items c.args.want) c.args.pads.now c.loop-place.place (omega arith) c.loop-place.invariant
