use Rattle.std.proofs.Common.{◌≡◌, ◌∙◌, ◌≤◌, ◌^◌, List, Option, length, subst}
use Rattle.ice_base.specs.declared.number.TileAt.{TileAt}
use Rattle.ice_graph.specs.declared.edge.Edge.{Edge}
use Rattle.ice_graph.specs.declared.edge.End.TheVariants.{Source, Target}
use Rattle.ice_graph.specs.declared.extent.Extent.{Extent}
use Rattle.ice_graph.specs.Boxes.{AreBoxes, IsSpread}
use Rattle.ice_graph.specs.Sorting.{IsIndex}
use Rattle.ice_graph.proofs.graph.Graph.placed.Goals as goal

pub invariant_of-result : goal.invariant_of-result
invariant_of-result c = record {
  between = c.requires.between;
  rise = c.requires.rise;
  few = subst (λ (xs : List Edge). length xs ≤ 2 ^ 32) c.deref.ensures.value c.number_of-number.ensures.few;
  into = subst (λ (xs : List Edge). IsIndex Target c.args.wires xs c.in_ok-into.into) c.deref-2.ensures.value c.in_ok-into.ensures;
  from = subst (λ (xs : List Edge). IsIndex Source c.args.wires xs c.in_ok-from.from) c.deref-3.ensures.value c.in_ok-from.ensures;
  places = c.args.places.items;
  small = c.spread_of-spread.ensures.small;
  placed = c.requires.places;
  are_places = record {
    boxes = subst (λ (ts : List TileAt). AreBoxes c.args.wires c.args.edges.items ts c.in_ok-boxes.boxes.items) c.deref-5.ensures.value (subst (λ (xs : List Edge). AreBoxes c.args.wires xs c.deref-5.result.now c.in_ok-boxes.boxes.items) c.deref-4.ensures.value c.in_ok-boxes.ensures);
    spread = subst (λ (bs : List (Option Extent)). IsSpread c.args.edges.items bs c.spread_of-spread.result) c.deref-7.ensures.value (subst (λ (xs : List Edge). IsSpread xs c.deref-7.result.now c.spread_of-spread.result) c.deref-6.ensures.value c.spread_of-spread.ensures.spread);
  };
  hops = c.none.ensures c.args.edges.items;
}
