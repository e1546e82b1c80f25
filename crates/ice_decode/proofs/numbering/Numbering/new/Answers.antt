use Rattle.std.proofs.Common.{◌≡◌, List, [], ap, sym, ◌∙◌, subst}
use Rattle.ice_base.specs.declared.number.TileAt.{TileAt}
use Rattle.ice_base_values.specs.Order.{StandOnce}
use Rattle.ice_decode.specs.Cells.{logic_tiles}
use Rattle.ice_decode.specs.Different.{different}
use Rattle.ice_decode.specs.Points.{points_by}
use Rattle.ice_decode.proofs.Numbered.{tiles_once, all_points}
use Rattle.ice_decode.proofs.numbering.Numbering.new.Goals as goal

pub invariant_of-result : goal.invariant_of-result
invariant_of-result c =
    let keys : c.in_ok-tiles.tiles.keys ≡ different [] (logic_tiles c.args.chip.now) = c.in_ok-tiles.ensures ∙ ap (different []) (c.deref.ensures.value ∙ c.in_ok-logic.ensures) in
    record {
      points = c.in_ok-points.ensures ∙ ap (points_by c.wires-wires.result) c.as_slice.ensures.keys;
      once = subst (λ (tiles : List TileAt). StandOnce tiles) (sym keys) (tiles_once (logic_tiles c.args.chip.now));
    }

pub returns-clause-points : goal.returns-clause-points
returns-clause-points c =
    let keys : c.in_ok-tiles.tiles.keys ≡ different [] (logic_tiles c.args.chip.now) = c.in_ok-tiles.ensures ∙ ap (different []) (c.deref.ensures.value ∙ c.in_ok-logic.ensures) in
    all_points c.args.chip.now c.in_ok-points.points.items
    (c.in_ok-points.ensures ∙ ap (points_by c.wires-wires.result) (c.as_slice.ensures.keys ∙ keys)
    ∙ ap (λ wires. points_by wires (different [] (logic_tiles c.args.chip.now))) c.wires-wires.ensures.wires)
