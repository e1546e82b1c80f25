-- The test whether a pad is read, and the list of what is read.
use Rattle.std.proofs.Common.{◌≡◌, ℕ, true, Option, None, Some, refl, sym, ap, subst}
use Rattle.std.proofs.lemmas.Bool.{eqb-true, eq-eqb}
use Rattle.ice_base_values.specs.Order.{Has}
use Rattle.ice_base_values.proofs.Members.{any_Has, Has_any}
use Rattle.ice_net.specs.NetlistData.{NetlistData}
use Rattle.ice_cells.specs.declared.design.Design.{Design}
use Rattle.ice_cells.specs.declared.root.Root.{Root}
use Rattle.ice_cells.specs.declared.root.Root.TheVariants.{PadIn, CellOut, GlobalOut, CarryOut}
use Rattle.ice_cells.specs.Packed.{unread_by, plan_of}
use Rattle.ice_cells.specs.Readings.{roots_read, is_read}
use Rattle.ice_cells.specs.Same.{same_source}

pub same_pad : (k : ℕ) (x : Option Root) → same_source (Some (PadIn k)) x ≡ true → x ≡ Some (PadIn k)
same_pad k None e = cc e
same_pad k (Some (PadIn j)) e = ap (λ i. Some (PadIn i)) (sym (eqb-true k j e))
same_pad k (Some (CellOut j)) e = cc e
same_pad k (Some (GlobalOut j)) e = cc e
same_pad k (Some (CarryOut j)) e = cc e

abbrev pub unread : NetlistData → Design
unread m = unread_by m (plan_of m)

pub is_there : (m : NetlistData) (k : ℕ) → is_read (unread m) (PadIn k) ≡ true → Has (roots_read (unread m)) (Some (PadIn k))
is_there m k e =
    let found = any_Has (same_source (Some (PadIn k))) (roots_read (unread m)) e in
    subst (λ (x : Option Root). Has (roots_read (unread m)) x) (same_pad k found.0 found.2) found.1

pub there_is : (m : NetlistData) (k : ℕ) → Has (roots_read (unread m)) (Some (PadIn k)) → is_read (unread m) (PadIn k) ≡ true
there_is m k has = Has_any (same_source (Some (PadIn k))) (roots_read (unread m)) (Some (PadIn k)) has.0 has.1 (eq-eqb k k refl)
