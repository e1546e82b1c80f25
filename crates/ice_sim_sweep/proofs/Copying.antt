-- Signals that take levels from a list.
use Rattle.std.proofs.Common.{◌≡◌, ◌≢◌, ℕ, zero, suc, ◌<◌, Bool, false, List, [], ◌∷◌, ◌++◌, length, set, Option, Some, None, refl, ap, sym, ◌∙◌, subst, inl, inr, arith, get_or-set_same, get_or-set_other}
use Rattle.std.specs.List.{flat_map}
use Rattle.std.proofs.lemmas.List.{length-set}
use Rattle.std.proofs.lemmas.Option.{same_Some}
use Rattle.std.proofs.lemmas.Bool.Decides.{eqb_tells}
use Rattle.ice_base_values.specs.Order.{At}
use Rattle.ice_sim_sweep.specs.declared.parts.Link.{Link}
use Rattle.ice_sim_sweep.specs.Slots.{level_at}
use Rattle.ice_sim_sweep.specs.Feeds.{linked}
use Rattle.ice_sim_sweep.specs.Sweeps.{copied}

-- F tells where the level of each signal stands in the list, if the signal takes one
module _ (F : ℕ → Option ℕ) (from : List Bool) where
  abbrev links : List ℕ → List Link
  links signals = flat_map (λ s. linked s (F s)) signals

  pub copy_long : (signals : List ℕ) (values : List Bool) → length (copied (links signals) from values) ≡ length values
  copy_long [] values = refl
  copy_long (s ∷ signals) values = of (F s) refl (λ vs. copy_long signals vs)
    where
      of : (o : Option ℕ) → F s ≡ o → ((vs : List Bool) → length (copied (links signals) from vs) ≡ length vs) → length (copied (linked s o ++ links signals) from values) ≡ length values
      of None e rec = rec values
      of (Some k) e rec = rec (set values s (level_at from k)) ∙ length-set values s (level_at from k)

  -- a slot behind all the signals
  pub copy_behind : (signals : List ℕ) (t : ℕ) → ((j s : ℕ) → At signals j s → s < t) → (values : List Bool)
      → level_at (copied (links signals) from values) t ≡ level_at values t
  copy_behind [] t below values = refl
  copy_behind (s ∷ signals) t below values = of (F s) (λ vs. copy_behind signals t (λ j r at. below (suc j) r at) vs)
    where
      of : (o : Option ℕ) → ((vs : List Bool) → level_at (copied (links signals) from vs) t ≡ level_at vs t) → level_at (copied (linked s o ++ links signals) from values) t ≡ level_at values t
      of None rec = rec values
      of (Some k) rec =
          let lt : s < t = below 0 s refl in
          let other : t ≢ s = λ e. absurd (omega arith) in
          rec (set values s (level_at from k)) ∙ get_or-set_other values s t (level_at from k) false other

  -- a signal that takes no level
  pub copy_other : (signals : List ℕ) (t : ℕ) → F t ≡ None → (values : List Bool) → level_at (copied (links signals) from values) t ≡ level_at values t
  copy_other [] t none values = refl
  copy_other (s ∷ signals) t none values = of (F s) refl (λ vs. copy_other signals t none vs)
    where
      of : (o : Option ℕ) → F s ≡ o → ((vs : List Bool) → level_at (copied (links signals) from vs) t ≡ level_at vs t) → level_at (copied (linked s o ++ links signals) from values) t ≡ level_at values t
      of None e rec = rec values
      of (Some k) e rec =
          let other : t ≢ s = λ same. let f : F t ≡ Some k = ap F same ∙ e in cc (f, none) in
          rec (set values s (level_at from k)) ∙ get_or-set_other values s t (level_at from k) false other

  -- a signal that has the level that it takes keeps it
  pub copy_keeps : (signals : List ℕ) (t k : ℕ) → F t ≡ Some k → (values : List Bool) → t < length values → level_at values t ≡ level_at from k
      → level_at (copied (links signals) from values) t ≡ level_at from k
  copy_keeps [] t k is values lt has = has
  copy_keeps (s ∷ signals) t k is values lt has = of (F s) refl (λ vs l h. copy_keeps signals t k is vs l h)
    where
      of : (o : Option ℕ) → F s ≡ o → ((vs : List Bool) → t < length vs → level_at vs t ≡ level_at from k → level_at (copied (links signals) from vs) t ≡ level_at from k)
          → level_at (copied (linked s o ++ links signals) from values) t ≡ level_at from k
      of None e rec = rec values lt has
      of (Some m) e rec =
          let long = length-set values s (level_at from m) in
          rec (set values s (level_at from m)) (omega arith) (elim (eqb_tells t s) [
            | inl same ↦ (let f : F t ≡ Some m = ap F same.1 ∙ e in let g : m ≡ k = same_Some m k (sym f ∙ is) in
                rw (same.1, g) (get_or-set_same values s (level_at from k) false (let h : s < length values = subst (λ (x : ℕ). x < length values) same.1 lt in h)))
            | inr other ↦ get_or-set_other values s t (level_at from m) false other.1 ∙ has
          ])

  -- a signal among these takes its level
  pub copy_done : (signals : List ℕ) (j t k : ℕ) → At signals j t → F t ≡ Some k → (values : List Bool) → t < length values
      → level_at (copied (links signals) from values) t ≡ level_at from k
  copy_done [] j t k at is values lt = cc
  copy_done (s ∷ signals) zero t k at is values lt =
      let same : s ≡ t = same_Some s t at in
      let long = length-set values t (level_at from k) in
      rw (same, is) (copy_keeps signals t k is (set values t (level_at from k)) (omega arith) (get_or-set_same values t (level_at from k) false lt))
  copy_done (s ∷ signals) (suc j) t k at is values lt = of (F s) (λ vs l. copy_done signals j t k at is vs l)
    where
      of : (o : Option ℕ) → ((vs : List Bool) → t < length vs → level_at (copied (links signals) from vs) t ≡ level_at from k)
          → level_at (copied (linked s o ++ links signals) from values) t ≡ level_at from k
      of None rec = rec values lt
      of (Some m) rec = let long = length-set values s (level_at from m) in rec (set values s (level_at from m)) (omega arith)
