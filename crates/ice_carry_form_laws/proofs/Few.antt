-- A design reads no more roots than its netlist has signals, but for the cells of the two constants.
use Rattle.std.proofs.Common.{◌≡◌, ℕ, ◌+◌, Option, None, Some, List, [], ◌∷◌, ◌++◌, length, length-append, map, refl, sym, ap, ◌∙◌, arith}
use Rattle.std.specs.Prelude.{unwrap_or}
use Rattle.std.proofs.lemmas.List.{length-map}
use Rattle.std.proofs.lemmas.Option.{same_Some}
use Rattle.ice_base_values.specs.Order.{At, Has}
use Rattle.ice_base_values.proofs.Members.{At_map}
use Rattle.ice_base_values.proofs.ListPlaces.{Has_left, Has_right}
use Rattle.ice_net.specs.Formed as netlist
use Rattle.ice_net.specs.NetlistData.{NetlistData}
use Rattle.ice_cells.specs.declared.cell.LogicCell.{LogicCell}
use Rattle.ice_cells.specs.declared.origin.Origin.{Origin}
use Rattle.ice_cells.specs.declared.origin.Origin.TheVariants.{Fixed, Pad, Made}
use Rattle.ice_cells.specs.declared.root.Root.{Root}
use Rattle.ice_cells.specs.declared.root.Root.TheVariants.{PadIn, CellOut}
use Rattle.ice_cells.specs.Homes.{taker}
use Rattle.ice_cells.specs.Moves.{renamed}
use Rattle.ice_cells.specs.Origins.{origin, origins}
use Rattle.ice_cells.specs.Packed.{plan_of, packed, origin_root}
use Rattle.ice_cells.specs.Readings.{roots_read}
use Rattle.ice_cells.specs.Runs.{fed_numbers, moved_numbers, design_of}
use Rattle.ice_cells.proofs.TableLaws.{length-table}
use Rattle.ice_carry_chains.specs.Before.{IsBeforeRuns}
use Rattle.ice_carry_form_laws.specs.Few.{ReadsAtMost}
use Rattle.ice_carry_laws.proofs.Movers.{mover_carry}
use Rattle.ice_carry_laws.proofs.NewReads.{NewRoot, IsRenamed, Renamed, Left, new_root}
use Rattle.ice_pack_laws.specs.IsPacked.{root_at, IsOpen}
use Rattle.ice_pack_laws.proofs.Sources.{ComesFrom, Signal, Zero, One, root_comes}
use Rattle.ice_pack_laws.proofs.Taken.{is_taken}

-- where a root is read afterwards
abbrev renamed_in : NetlistData → Root → Root
renamed_in n root = renamed (moved_numbers (packed n)) (fed_numbers (packed n)) root

-- The root that is read afterwards of a signal with this origin. A look-up table that a flip-flop has for itself stays where it is read, if the flip-flop moves.
abbrev made_root : NetlistData → Option ℕ → Root → Root
made_root n None root = renamed_in n root
made_root n (Some f) root = root

abbrev signal_root : NetlistData → Origin → Root
signal_root n (Fixed level) = PadIn 0
signal_root n (Pad k) = PadIn k
signal_root n (Made j) = made_root n (taker (plan_of n).facts j) (unwrap_or (root_at (plan_of n) j) (PadIn 0))

-- the roots of all signals, and those of the cells of constants
abbrev constant_roots : NetlistData → List Root
constant_roots n = renamed_in n (CellOut (plan_of n).zero) ∷ renamed_in n (CellOut (plan_of n).one) ∷ []

abbrev all_roots : NetlistData → List Root
all_roots n = map (signal_root n) (origins n) ++ constant_roots n

roots_long : (n : NetlistData) → length (all_roots n) ≡ length n.names + 2
roots_long n =
    length-append (map (signal_root n) (origins n)) (constant_roots n) ∙ ap (λ k. k + 2) (length-map (origins n) (signal_root n) ∙ length-table (origin n) (length n.names))

module _ (n : NetlistData) (formed : netlist.IsFormed n) (ready : IsBeforeRuns (packed n)) where
  open_root : (o : Origin) (q : Root) → IsOpen (plan_of n) o → origin_root (plan_of n).roots o ≡ Some q → signal_root n o ≡ renamed_in n q
  open_root (Fixed level) q opened e = cc e
  open_root (Pad k) q opened e = ap (renamed_in n) (same_Some (PadIn k) q e)
  open_root (Made j) q opened e =
      ap (λ t. made_root n t (unwrap_or (root_at (plan_of n) j) (PadIn 0))) (opened j refl) ∙ ap (λ (o : Option Root). renamed_in n (unwrap_or o (PadIn 0))) e

  of_signal : (s : ℕ) (o : Origin) (r : Root) → At (origins n) s o → signal_root n o ≡ r → Has (all_roots n) r
  of_signal s o r at e = Has_left (map (signal_root n) (origins n)) (constant_roots n) r (s, At_map (signal_root n) (origins n) s o at ∙ ap Some e)

  of_constant : (i : ℕ) (r : Root) → At (constant_roots n) i r → Has (all_roots n) r
  of_constant i r at = Has_right (map (signal_root n) (origins n)) (constant_roots n) r (i, at)

  renamed_has : (r : Root) (is : IsRenamed (packed n) r) → ComesFrom n is.root → Has (all_roots n) r
  renamed_has r is (Signal s o at opened e) = of_signal s o r at (open_root o is.root opened e ∙ is.is)
  renamed_has r is (Zero e) = of_constant 0 r (ap Some (ap (renamed_in n) e ∙ is.is))
  renamed_has r is (One e) = of_constant 1 r (ap Some (ap (renamed_in n) e ∙ is.is))

  -- each root that is read is among them
  each_root : (r : Root) → Has (roots_read (design_of n)) (Some r) → Has (all_roots n) r
  each_root r has = by (new_root (packed n) ready r has)
    where
      by : NewRoot (packed n) r → Has (all_roots n) r
      by (Renamed is) = renamed_has r is (root_comes n formed is.root is.read)
      by (Left m cell flop at e mover same) =
          let carry = ready.there m (mover_carry (packed n) ready m cell at mover) in
          let on = ap (λ (c : LogicCell). c.carry) (same_Some cell carry.0 (sym at ∙ carry.1)) ∙ carry.2 in
          let taken = is_taken n m cell flop at e on in
          of_signal taken.signal (Made taken.table) r taken.at
          (ap (λ t. made_root n t (unwrap_or (root_at (plan_of n) taken.table) (PadIn 0))) taken.takes ∙ ap (λ (o : Option Root). unwrap_or o (PadIn 0)) taken.root ∙ same)

-- so they are at most so many
pub reads_few : (n : NetlistData) → netlist.IsFormed n → IsBeforeRuns (packed n) → ReadsAtMost (length n.names + 2) (design_of n)
reads_few n formed ready = record { roots = all_roots n; few = (let long = roots_long n in omega (arith, long)); each = λ root has. each_root n formed ready root has }
