use Rattle.std.proofs.Common.{◌≡◌, ◌+◌, ◌*◌, ◌≤◌, length, get_or, ap, sym, ◌∙◌, subst, arith}
use Rattle.ice_sample.proofs.Counting.{place_below, small_wire, length_first_wires, found_wire}
use Rattle.ice_sample.proofs.grid.Grid.first_wire.Goals as goal

pub index-requires : goal.index-requires
index-requires c =
    let g = c.args.self.now in
    let long : length g.first_wires.items ≡ g.width * g.height = ap length g.numbered ∙ length_first_wires g.width g.height in
    let below = place_below g.width g.height c.args.at.x c.args.at.y c.requires.column c.requires.row in
    let same : c.from.result * c.from-2.result + c.from-3.result ≡ c.args.at.y * g.width + c.args.at.x = cc in
    omega (arith, g.first_wires.ok.0)

pub returns-clause-wire : goal.returns-clause-wire
returns-clause-wire c =
    let g = c.args.self.now in
    let same : c.from.result * c.from-2.result + c.from-3.result ≡ c.args.at.y * g.width + c.args.at.x = cc in
    c.index.ensures
    ∙ ap (λ wires. get_or wires (c.from.result * c.from-2.result + c.from-3.result) c.index.result.now) g.numbered
    ∙ found_wire g.width g.height c.args.at.x c.args.at.y (c.from.result * c.from-2.result + c.from-3.result) c.index.result.now c.requires.column c.requires.row same

pub returns-clause-few : goal.returns-clause-few
returns-clause-few c =
    let g = c.args.self.now in
    subst (λ n. n ≤ 500000) (sym (returns-clause-wire c))
    (small_wire g.width g.height (c.args.at.y * g.width + c.args.at.x) g.narrow g.low (place_below g.width g.height c.args.at.x c.args.at.y c.requires.column c.requires.row))
