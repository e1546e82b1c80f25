use Rattle.std.proofs.Common.{arith}
use Rattle.ice_graph.proofs.Bounding.{bounds_fall}
use Rattle.ice_path.proofs.Settling.{bounds_fall_by, price_positive}
use Rattle.ice_path.proofs.laws.bounds_fall.Goals as goal

pub returns-clause-one : goal.returns-clause-one
returns-clause-one c graph places p t e between long are has =
    let falls = bounds_fall graph places between long are has.0 e t has.1 in
    let pos = price_positive p e.to.0 in
    omega (arith, falls, pos)

pub returns-clause-least : goal.returns-clause-least
returns-clause-least c graph places p targets e between long are has = bounds_fall_by graph targets p (bounds_fall graph places between long are) e has
