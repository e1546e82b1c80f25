use Rattle.std.proofs.Common.{◌+◌, ◌-◌, ◌<◌, ◌≤◌, length, sym, subst, arith}
use Rattle.ice_chip.specs.declared.sections.Group.{Group}
use Rattle.ice_chip.proofs.RowPlaces.{row_there, row_found, some_begun}
use Rattle.ice_chip.proofs.places.row_among.Goals as goal

pub overflow_sub-group : goal.overflow_sub-group
overflow_sub-group c = let some = some_begun c.args.groups.now c.args.row c.begun-count.result c.requires.numbered c.requires.within c.begun-count.ensures in omega (arith, some)

pub overflow_sub-place : goal.overflow_sub-place
overflow_sub-place c =
    let g = c.index-groups-count.result in
    let some = some_begun c.args.groups.now c.args.row c.begun-count.result c.requires.numbered c.requires.within c.begun-count.ensures in
    let there = row_there c.args.groups.now c.args.row c.begun-count.result g c.requires.numbered c.requires.within c.begun-count.ensures some in
    subst (λ (x : Group). x.first.0 ≤ c.args.row) (sym c.index-groups-count.is) there.1

pub index-requires : goal.index-requires
index-requires c =
    let g = c.index-groups-count.result in
    let some = some_begun c.args.groups.now c.args.row c.begun-count.result c.requires.numbered c.requires.within c.begun-count.ensures in
    let there = row_there c.args.groups.now c.args.row c.begun-count.result g c.requires.numbered c.requires.within c.begun-count.ensures some in
    let first : g.first.0 ≤ c.args.row = subst (λ (x : Group). x.first.0 ≤ c.args.row) (sym c.index-groups-count.is) there.1 in
    let ends : c.args.row < g.first.0 + length g.rows.items = subst (λ (x : Group). c.args.row < x.first.0 + length x.rows.items) (sym c.index-groups-count.is) there.2 in
    omega (arith, first, ends, g.rows.ok)

pub returns : goal.returns
returns c =
    let g = c.index-groups-count.result in
    let some = some_begun c.args.groups.now c.args.row c.begun-count.result c.requires.numbered c.requires.within c.begun-count.ensures in
    let there = row_there c.args.groups.now c.args.row c.begun-count.result g c.requires.numbered c.requires.within c.begun-count.ensures some in
    let first : g.first.0 ≤ c.args.row = subst (λ (x : Group). x.first.0 ≤ c.args.row) (sym c.index-groups-count.is) there.1 in
    let ends : c.args.row < g.first.0 + length g.rows.items = subst (λ (x : Group). c.args.row < x.first.0 + length x.rows.items) (sym c.index-groups-count.is) there.2 in
    row_found c.args.groups.now (c.begun-count.result - 1) (c.args.row - g.first.0) c.args.row g c.index.result.now c.requires.numbered there.0 c.index-groups-count.is (omega (arith, first, ends)) c.index.ensures (omega (arith, first))
