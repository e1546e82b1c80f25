use Rattle.std.proofs.Common.{◌≡◌, ℕ, List, ◌++◌, length}
use Rattle.ice_desk_pieces.specs.Taken.{TakesMore}
use Rattle.ice_chip_read_pieces.specs.Stands.{Follows, IsSpent}
use Rattle.ice_chip_read_pieces.proofs.reader.ChipReader.feed.Given as goal

abbrev pub invariant-loop-behind : goal.invariant-loop-behind
invariant-loop-behind l = record {
  taken : List ℕ;
  whole : l.piece ≡ taken ++ l.left;
  more : TakesMore (Follows l.fn.self) (Follows l.self) taken;
  out : IsSpent l.fn.self → IsSpent l.self;
}

abbrev pub decreases-loop-behind : goal.decreases-loop-behind
decreases-loop-behind l = length l.left
