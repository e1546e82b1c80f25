-- Nets of some clusters are nets of more.
use Rattle.std.proofs.Common.{ℕ, ◌≤◌, List, get_or, arith}
use Rattle.std.specs.List.{All}
use Rattle.ice_anneal_board.specs.declared.net.Node.{Node}
use Rattle.ice_anneal_board.specs.declared.net.Node.TheVariants.{Cluster, Fixed}
use Rattle.ice_anneal_board.specs.declared.net.NetNodes.{NetNodes}
use Rattle.ice_anneal_board.specs.Length.{IsNode, IsNet}

wider_node : (n m : ℕ) (node : Node) → n ≤ m → IsNode n node → IsNode m node
wider_node n m (Cluster c) le h = omega arith
wider_node n m (Fixed t) le h = tt

pub wider : (n m : ℕ) (nets : List NetNodes) → n ≤ m → All (IsNet n) nets → All (IsNet m) nets
wider n m nets le h = λ k d lt. λ j node within. wider_node n m (get_or (get_or nets k d).nodes.items j node) le (h k d lt j node within)
