use Rattle.std.proofs.Common.{arith}
use Rattle.ice_chip.proofs.RowPlaces.{ends_by}
use Rattle.ice_chip.proofs.places.rows_count.Goals as goal

pub overflow_cast-result : goal.overflow_cast-result
overflow_cast-result c = let e = ends_by c.args.groups.now c.index-groups-count.result c.requires.numbered c.if-count-eq0.false c.index-groups-count.is in omega (arith, e, c.requires.few, c.len.ensures, c.index-groups-count.result.rows.ok)

pub overflow_add-result : goal.overflow_add-result
overflow_add-result c = let e = ends_by c.args.groups.now c.index-groups-count.result c.requires.numbered c.if-count-eq0.false c.index-groups-count.is in omega (arith, e, c.requires.few, c.len.ensures, c.index-groups-count.result.rows.ok)

pub returns : goal.returns
returns c = let e = ends_by c.args.groups.now c.index-groups-count.result c.requires.numbered c.if-count-eq0.false c.index-groups-count.is in omega (arith, e, c.len.ensures, c.index-groups-count.result.rows.ok)
