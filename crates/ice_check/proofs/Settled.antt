-- With more steps than there are signals no value of a netlist changes.
use Rattle.std.proofs.Common.{◌≡◌, ◌⊎◌, ℕ, ◌+◌, ◌<◌, ◌≤◌, Bool, Option, None, Some, List, [], length, inl, refl, sym, ◌∙◌, subst}
use Rattle.std.specs.List.{range_with_len}
use Rattle.std.proofs.lemmas.List.FromFn.{length-range_with_len}
use Rattle.std.proofs.lemmas.Option.{none-some}
use Rattle.ice_base_values.specs.Order.{Has}
use Rattle.ice_base_values.specs.System.{System, value}
use Rattle.ice_base_values.proofs.Enough.{value_enough}
use Rattle.ice_base_values.proofs.Values.{value_at_more}
use Rattle.ice_base_values.proofs.ListPlaces.{has_number}
use Rattle.ice_net.specs.NetlistData.{NetlistData}
use Rattle.ice_net.specs.Formed.{IsFormed}
use Rattle.ice_net.specs.Meaning.{depends_on, system_of}
use Rattle.ice_check.proofs.OldSignals.{depends_below}

module _ (n : NetlistData) (formed : IsFormed n) (levels kept : List Bool) where
  abbrev pub count : ℕ
  count = length n.names

  abbrev pub before : System ℕ Bool
  before = system_of n levels kept

  closed : (p q : ℕ) → Has (range_with_len 0 count) p → Has (depends_on n p) q → Has (range_with_len 0 count) q ⊎ (depends_on n q ≡ [])
  closed p q has reads = inl (has_number count q (depends_below n formed p q reads))

  -- with more steps than there are signals nothing changes
  pub value_settled : (more s : ℕ) → count + 1 ≤ more → s < count → value before more s ≡ value before (count + 1) s
  value_settled more s le lt = by (value before more s) refl (value before (count + 1) s) refl
    where
      known : (x : Bool) → value before more s ≡ Some x → value before (count + 1) s ≡ Some x
      known x e =
          subst (λ k. value before (k + 1) s ≡ Some x) (length-range_with_len 0 count)
          (value_enough before (range_with_len 0 count) closed more s x (has_number count s lt) e)

      by : (o : Option Bool) → value before more s ≡ o → (p : Option Bool) → value before (count + 1) s ≡ p → value before more s ≡ value before (count + 1) s
      by (Some x) e p f = e ∙ sym (known x e)
      by None e None f = e ∙ sym f
      by None e (Some x) f = absurd (none-some x (sym e ∙ value_at_more before (count + 1) more s x le f))
