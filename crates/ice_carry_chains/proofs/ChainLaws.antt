-- Each carry stands in the chain of one first carry, at one place.
use Rattle.std.proofs.Common.{◌≡◌, ◌⊎◌, ℕ, zero, suc, ◌<◌, ◌≤◌, Option, None, Some, List, [], length, refl, ap, sym, ◌∙◌, arith, inl, inr}
use Rattle.std.specs.Prelude.{slice_get, option_and_then}
use Rattle.std.specs.Option.{option_map_or}
use Rattle.std.proofs.lemmas.Option.{same_Some, slice_get_within}
use Rattle.ice_cells.specs.Chains.{next, chain}
use Rattle.ice_cells.specs.declared.follow.Follow.{Follow}

-- the carry that stands i places behind another
abbrev pub behind : List Follow → ℕ → ℕ → Option ℕ
behind marks zero h = Some h
behind marks (suc i) h = option_and_then (next marks) (behind marks i h)

pub behind_shift : (marks : List Follow) (i h d : ℕ) → next marks h ≡ Some d → behind marks (suc i) h ≡ behind marks i d
behind_shift marks zero h d e = e
behind_shift marks (suc i) h d e = ap (option_and_then (next marks)) (behind_shift marks i h d e)

pub behind_none : (marks : List Follow) (i h : ℕ) → next marks h ≡ None → behind marks (suc i) h ≡ None
behind_none marks zero h e = e
behind_none marks (suc i) h e = ap (option_and_then (next marks)) (behind_none marks i h e)

-- what stands in a chain
pub chain_at : (marks : List Follow) (k h i c : ℕ) → slice_get (chain marks k h) i ≡ Some c → behind marks i h ≡ Some c
chain_at marks zero h i c e = cc
chain_at marks (suc k) h zero c e = e
chain_at marks (suc k) h (suc i) c e = by (next marks h) refl e (λ d. chain_at marks k d i c)
  where
    by : (o : Option ℕ) → next marks h ≡ o → slice_get (option_map_or (chain marks k) o []) i ≡ Some c → ((d : ℕ) → slice_get (chain marks k d) i ≡ Some c → behind marks i d ≡ Some c)
        → behind marks (suc i) h ≡ Some c
    by None f g rest = cc
    by (Some d) f g rest = behind_shift marks i h d f ∙ rest d g

pub chain_has : (marks : List Follow) (k h i c : ℕ) → i < k → behind marks i h ≡ Some c → slice_get (chain marks k h) i ≡ Some c
chain_has marks zero h i c lt e = absurd (omega arith)
chain_has marks (suc k) h zero c lt e = e
chain_has marks (suc k) h (suc i) c lt e = by (next marks h) refl (λ d. chain_has marks k d i c (omega arith))
  where
    by : (o : Option ℕ) → next marks h ≡ o → ((d : ℕ) → behind marks i d ≡ Some c → slice_get (chain marks k d) i ≡ Some c) → slice_get (option_map_or (chain marks k) o []) i ≡ Some c
    by None f rest = (let g = behind_none marks i h f in cc (g, e))
    by (Some d) f rest = rest d (sym (behind_shift marks i h d f) ∙ e)

-- the one before
pub before : (marks : List Follow) (i h c : ℕ) → behind marks (suc i) h ≡ Some c → (d : ℕ) × (behind marks i h ≡ Some d) × (next marks d ≡ Some c)
before marks i h c e = by (behind marks i h) refl e
  where
    by : (o : Option ℕ) → behind marks i h ≡ o → option_and_then (next marks) o ≡ Some c → (d : ℕ) × (behind marks i h ≡ Some d) × (next marks d ≡ Some c)
    by None f g = cc
    by (Some d) f g = (d, f, g)

-- no carry is followed by this one
abbrev pub IsHead : List Follow → ℕ → Type 0
IsHead marks h = (d : ℕ) → next marks d ≡ Some h → ⊥

-- no two carries are followed by one
abbrev pub FollowsOne : List Follow → Type 0
FollowsOne marks = (a b c : ℕ) → next marks a ≡ Some c → next marks b ≡ Some c → a ≡ b

-- a carry stands behind one head, at one place
pub one_head : (marks : List Follow) → FollowsOne marks → (h g : ℕ) → IsHead marks h → IsHead marks g → (i j c : ℕ) → behind marks i h ≡ Some c → behind marks j g ≡ Some c → (h ≡ g) × (i ≡ j)
one_head marks one h g is_h is_g zero zero c e f = (same_Some h g (e ∙ sym f), refl)
one_head marks one h g is_h is_g zero (suc j) c e f =
    let b = before marks j g c f in let same : h ≡ c = same_Some h c e in absurd (is_h b.0 (b.2 ∙ ap Some (sym same)))
one_head marks one h g is_h is_g (suc i) zero c e f =
    let b = before marks i h c e in let same : g ≡ c = same_Some g c f in absurd (is_g b.0 (b.2 ∙ ap Some (sym same)))
one_head marks one h g is_h is_g (suc i) (suc j) c e f =
    let a = before marks i h c e in let b = before marks j g c f in
    let same : b.0 ≡ a.0 = one b.0 a.0 c b.2 a.2 in
    let rest = one_head marks one h g is_h is_g i j a.0 a.1 (b.1 ∙ ap Some same) in
    (rest.0, ap suc rest.1)

-- ---- each carry stands behind a head, where ranks rise from carry to carry
pub record HasHead (marks : List Follow) (c : ℕ) : Type 0 where
  pub head : ℕ
  pub place : ℕ
  pub is_head : IsHead marks head
  pub behind_it : behind marks place head ≡ Some c

pub has_head : (marks : List Follow) (rank : ℕ → ℕ) → ((a c : ℕ) → next marks a ≡ Some c → rank a < rank c)
    → ((c : ℕ) → ((d : ℕ) × (next marks d ≡ Some c)) ⊎ IsHead marks c) → (bound c : ℕ) → rank c < bound → HasHead marks c
has_head marks rank rises cases zero c lt = absurd (omega arith)
has_head marks rank rises cases (suc bound) c lt = by (cases c) (has_head marks rank rises cases bound)
  where
    by : ((d : ℕ) × (next marks d ≡ Some c)) ⊎ IsHead marks c → ((d : ℕ) → rank d < bound → HasHead marks d) → HasHead marks c
    by (inr is) rest = record { head = c; place = 0; is_head = is; behind_it = refl }
    by (inl prior) rest =
        let less = rises prior.0 c prior.1 in
        let old = rest prior.0 (omega arith) in
        record { head = old.head; place = suc old.place; is_head = old.is_head; behind_it = ap (option_and_then (next marks)) old.behind_it ∙ prior.1 }

-- a chain has a carry at each place up to one that is there
chain_long : (marks : List Follow) (k h i c : ℕ) → slice_get (chain marks k h) i ≡ Some c → i < length (chain marks k h)
chain_long marks k h i c e = slice_get_within (chain marks k h) i c e

-- what stands behind a head, stands so few places behind it
pub behind_few : (marks : List Follow) (n h : ℕ) → ((k : ℕ) → length (chain marks k h) ≤ n) → (i c : ℕ) → behind marks i h ≡ Some c → i < n
behind_few marks n h short i c e =
    let there = chain_has marks (suc i) h i c (omega arith) e in
    let long = chain_long marks (suc i) h i c there in
    let few = short (suc i) in omega arith
