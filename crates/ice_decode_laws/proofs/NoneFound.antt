-- Where none of the faults is found there is none.
use Rattle.std.proofs.Common.{◌≡◌, ℕ, zero, suc, Bool, true, false, not, cond, Option, None, Some, option_map, List, [], ◌∷◌, refl, sym, ap, ◌∙◌, true≢false}
use Rattle.std.specs.List.{find}
use Rattle.ice_base.specs.declared.number.TileAt.{TileAt}
use Rattle.ice_base_values.specs.Order.{At, Has}
use Rattle.ice_chip.specs.Database.{Parts, FunctionRow}
use Rattle.ice_chip.specs.declared.rows.TileLine.{TileLine}
use Rattle.ice_bits.specs.Configuration.{Bits}
use Rattle.ice_decode.specs.declared.driver.Switch.{Switch}
use Rattle.ice_decode.specs.Direct.{is_padin}
use Rattle.ice_decode.specs.Drivers.{switches_on}
use Rattle.ice_decode.specs.Faults.{is_memory_wire, is_set_in, has_wrong_type}
use Rattle.ice_decode.specs.FirstFaults.{or_else, foreign_in, first_foreign}
use Rattle.ice_decode.specs.Pads.{pads}
use Rattle.ice_decode.proofs.Driven.{uncontended}
use Rattle.ice_decode_laws.specs.Faultless.{PlainBitsHaveNoFault}

-- ---- what is not found is not there
passed_over : {X : Type 0} (test : X → Bool) (xs : List X) (i : ℕ) (x : X) → find test xs ≡ None → At xs i x → test x ≡ false
passed_over test [] i x none at = absurd (cc)
passed_over test (y ∷ xs) zero x none at = by (test y) refl none
  where
    by : (b : Bool) → test y ≡ b → cond b (Some y) (find test xs) ≡ None → test x ≡ false
    by true is none = absurd (cc)
    by false is none = let same : y ≡ x = cc in ap test (sym same) ∙ is
passed_over test (y ∷ xs) (suc i) x none at = by (test y) (λ e. passed_over test xs i x e at) none
  where
    by : (b : Bool) → (find test xs ≡ None → test x ≡ false) → cond b (Some y) (find test xs) ≡ None → test x ≡ false
    by true later none = absurd (cc)
    by false later none = later none

no_source : {X Y : Type 0} (f : X → Y) (o : Option X) → option_map f o ≡ None → o ≡ None
no_source f None e = refl
no_source f (Some x) e = absurd (cc)

neither : {X : Type 0} (one other : Option X) → or_else one other ≡ None → (one ≡ None) × (other ≡ None)
neither None other e = (refl, e)
neither (Some x) other e = absurd (cc)

module _ (parts : Parts) (bits : Bits) where
  none_foreign : (tiles : List (TileAt × TileLine)) (i : ℕ) (tile : TileAt × TileLine) → first_foreign parts bits tiles ≡ None → At tiles i tile → foreign_in parts bits tile ≡ None
  none_foreign [] i tile none at = absurd (cc)
  none_foreign (t ∷ tiles) zero tile none at =
      let same : t ≡ tile = cc in
      ap (foreign_in parts bits) (sym same) ∙ (neither (foreign_in parts bits t) (first_foreign parts bits tiles) none).0
  none_foreign (t ∷ tiles) (suc i) tile none at = none_foreign tiles i tile (neither (foreign_in parts bits t) (first_foreign parts bits tiles) none).1 at

  not_set : (tile : TileAt × TileLine) (f : FunctionRow) → foreign_in parts bits tile ≡ None → Has parts.functions f → is_set_in parts bits tile f ≡ false
  not_set tile f none has =
      passed_over (is_set_in parts bits tile) parts.functions has.0 f (no_source (λ (g : FunctionRow). (tile.0, g.line)) (find (is_set_in parts bits tile) parts.functions) none) has.1

known : (b : Bool) → not b ≡ false → b ≡ true
known true e = refl
known false e = absurd (true≢false e)

pub no_fault : PlainBitsHaveNoFault
no_fault parts bits extras plain =
    let is = plain.faultless in
    record {
      uncontended = λ w first second below. uncontended parts bits extras is w below first second;
      sources = λ s has.
          passed_over (λ (r : Switch). is_memory_wire parts r.source.0) (switches_on bits parts.groups) has.0 s
          (no_source (λ (r : Switch). r.source.0) (find (λ (r : Switch). is_memory_wire parts r.source.0) (switches_on bits parts.groups)) plain.memories) has.1;
      functions = λ tile f there has. not_set parts bits tile f (none_foreign parts bits parts.tiles there.0 tile is.of_chip.functions there.1) has;
      extras_known = λ extra has. known (is_padin parts extra) (passed_over (λ e. not (is_padin parts e)) extras has.0 extra is.of_chip.extras_known has.1);
      loopless = is.loopless;
      types = λ pad has. passed_over (has_wrong_type parts bits) (pads parts) has.0 pad is.types has.1;
    }
