-- Tiles in another order.
use Rattle.std.proofs.Common.{◌≡◌, List, sym, subst}
use Rattle.std.specs.List.Sorted.{IsPermutation}
use Rattle.std.proofs.lemmas.List.Sorted.{IsPermutation-refl}
use Rattle.ice_base.specs.declared.number.TileAt.{TileAt}

pub moved_same : (old new : List TileAt) → new ≡ old → IsPermutation old new
moved_same old new e = subst (λ (p : List TileAt). IsPermutation old p) (sym e) (IsPermutation-refl old)
