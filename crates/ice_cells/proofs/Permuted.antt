-- What a permutation of a list has, the list has.
use Rattle.std.specs.Prelude.{List, IsPermutation}
use Rattle.std.proofs.lemmas.List.Sorted.{All-permutation}
use Rattle.std.proofs.lemmas.Option.{slice_get-get_or}
use Rattle.ice_base_values.specs.Order.{Has}
use Rattle.ice_base_values.proofs.Members.{Has_all}

pub Has_permuted : {X : Type 0} (xs ys : List X) (x : X) → IsPermutation xs ys → Has ys x → Has xs x
Has_permuted xs ys x moved has = Has_all (Has xs) ys x (All-permutation (Has xs) xs ys moved (λ k d lt. (k, slice_get-get_or xs k d lt))) has
