-- Lines without a comment.
use Rattle.std.proofs.Common.{◌≡◌, ℕ, false, List, [], ◌∷◌, refl, ap}
use Rattle.std.specs.List.{list_any}
use Rattle.std.proofs.lemmas.Bool.{or_parts}
use Rattle.ice_base.specs.Text.{begins_with, uncommented}

-- words none of which begins a comment
pub no_comment : (ws : List (List ℕ)) → list_any (begins_with 35) ws ≡ false → uncommented ws ≡ ws
no_comment [] h = refl
no_comment (w ∷ ws) h =
    let both = or_parts (begins_with 35 w) (list_any (begins_with 35) ws) h in
    rw both.0 (ap (λ vs. w ∷ vs) (no_comment ws both.1))
