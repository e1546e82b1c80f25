use Rattle.std.proofs.Common.{◌<◌, ℕ, List, get_or, subst, sym}
use Rattle.std.proofs.lemmas.Option.{slice_get-get_or}
use Rattle.ice_base_values.specs.Order.{At}
use Rattle.ice_tests_netlists.proofs.orders.NandsPoints.local.Goals as goal

pub bounds-values-read : goal.bounds-values-read
bounds-values-read c =
    let row = c.depends-read-items.result.now in
    let read = get_or row c.loop-read.read-index 0 in
    let there : At row c.loop-read.read-index read = slice_get-get_or row c.loop-read.read-index 0 c.loop-read-test.true in
    subst (λ (n : ℕ). read < n) (sym c.requires.values)
    (c.requires.ready.points c.args.point read (c.loop-read.read-index, subst (λ (points : List ℕ). At points c.loop-read.read-index read) c.depends-read-items.ensures there))
