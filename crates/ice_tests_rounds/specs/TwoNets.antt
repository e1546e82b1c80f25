-- Two nets on three wires, of which both want the last.
use Rattle.std.specs.Prelude.{◌≡◌, ℕ, ◌≤◌, List, [], ◌∷◌}
use Rattle.ice_claim.specs.declared.view.ClaimView.{ClaimView}
use Rattle.ice_claim.specs.Claims.{total, claims_on, takes_pair, own}

abbrev pub two_nets : List (List ℕ)
two_nets = (0 ∷ 2 ∷ []) ∷ (1 ∷ 2 ∷ []) ∷ []

-- the pass claimed the net, and hasn't taken the wire 2 for it
pub record Wants (net : ℕ) (v : ClaimView) : Type 0 where
  pub claimed : 1 ≤ total (claims_on net) v
  pub new : total (takes_pair net 2) v ≡ 0

-- the pass itself took it
abbrev pub HasTaken : ℕ → ClaimView → Type 0
HasTaken net v = 1 ≤ takes_pair net 2 (own v)

-- the standing of a pass is as before
pub record StandsAs (old new : ClaimView) : Type 0 where
  pub main : new.main ≡ old.main
  pub worker : new.worker ≡ old.worker
  pub out : new.out ≡ old.out
