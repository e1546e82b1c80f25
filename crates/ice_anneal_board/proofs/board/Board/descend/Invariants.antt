use Rattle.std.proofs.Common.{◌≡◌, ◌≤◌}
use Rattle.ice_anneal_board.specs.Board.{IsBoard, Keeps, IsLeast}
use Rattle.ice_anneal_board.proofs.board.Board.descend.Given as goal

abbrev pub invariant-loop-self : goal.invariant-loop-self
invariant-loop-self l = record {
  board : IsBoard l.wiring l.self;
  keeps : Keeps l.free l.fn.self.place.items l.self.place.items;
  falls : l.self.total ≤ l.fn.self.total;
  below : l.self.total ≤ l.before;
  least : l.self.total ≡ l.before → IsLeast l.wiring.nets.items l.free l.self.place.items l.count;
}

abbrev pub decreases-loop-self : goal.decreases-loop-self
decreases-loop-self l = l.before
