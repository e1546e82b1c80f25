-- The origin of a signal is settled once there are more steps than signals.
use Rattle.std.proofs.Common.{◌≡◌, ◌⊎◌, ℕ, ◌+◌, ◌<◌, ◌≤◌, Bool, true, false, cond, Option, None, Some, List, [], length, inl, refl, sym, ◌∙◌, subst}
use Rattle.std.specs.Prelude.{slice_get, slice_index_or}
use Rattle.std.specs.List.{range_with_len}
use Rattle.std.specs.Option.{option_map_or}
use Rattle.std.proofs.lemmas.List.FromFn.{length-range_with_len}
use Rattle.std.proofs.lemmas.Option.{none-some}
use Rattle.std.proofs.lemmas.List.{map-id}
use Rattle.ice_base.specs.declared.number.SignalNo.{SignalNo}
use Rattle.ice_base_values.specs.Order.{Has}
use Rattle.ice_base_values.specs.System.{System, value, present}
use Rattle.ice_base_values.proofs.Enough.{value_enough}
use Rattle.ice_base_values.proofs.Values.{value_at_more, value_along}
use Rattle.ice_base_values.proofs.ListPlaces.{has_number}
use Rattle.ice_net.specs.declared.cell.Cell.{Cell}
use Rattle.ice_net.specs.declared.kind.CellKind.{CellKind}
use Rattle.ice_net.specs.declared.kind.CellKind.TheVariants.{Lut, Cover, Carry, Flop, PadCell, Global}
use Rattle.ice_net.specs.declared.driver.SignalDriver.{SignalDriver}
use Rattle.ice_net.specs.declared.driver.SignalDriver.TheVariants.{Nothing, Pad, Output}
use Rattle.ice_net.specs.NetlistData.{NetlistData}
use Rattle.ice_net.specs.Formed.{IsFormed}
use Rattle.ice_net.specs.Drivers.{numbers, driver_of}
use Rattle.ice_net.specs.Meaning.{cell_reads, reads, reads_by}
use Rattle.ice_check.proofs.Graphs.{reads_below}
use Rattle.ice_cells.specs.declared.origin.Origin.{Origin}
use Rattle.ice_cells.specs.declared.origin.Origin.TheVariants.{Fixed}
use Rattle.ice_cells.specs.Origins.{is_alias, cell_aliases, aliases, origin_system, origin, origins}
use Rattle.ice_cells.proofs.TableLaws.{get_or-table}

-- an origin in the list of all origins
pub listed : (m : NetlistData) (s : ℕ) → s < length m.names → slice_index_or (origins m) s (Fixed false) ≡ origin m s
listed m s lt = get_or-table (origin m) (length m.names) s (Fixed false) lt

-- what an alias is made of, a cell reads
alias_reads : (kind : CellKind) (ins : List (Option SignalNo)) (q : ℕ) (cell : Cell) → cell.kind ≡ kind → cell.ins ≡ ins → Has (present (cell_aliases cell)) q → Has (present (cell_reads cell)) q
alias_reads kind ins q cell is same has = by kind (subst (λ (x : CellKind). Has (present (cond (is_alias x) (numbers cell.ins) [])) q) is has) is
  where
    none : Has (present []) q → ⊥
    none has = cc has.1

    by : (kind : CellKind) → Has (present (cond (is_alias kind) (numbers cell.ins) [])) q → cell.kind ≡ kind → Has (present (cell_reads cell)) q
    by (Lut t) has is = absurd (none has)
    by (Cover t width) has is = cover (is_alias (Cover t width)) has
      where
        cover : (b : Bool) → Has (present (cond b (numbers cell.ins) [])) q → Has (present (cell_reads cell)) q
        cover true has = subst (λ (x : CellKind). Has (present (numbers (reads_by x cell.ins))) q) (sym is) has
        cover false has = absurd (none has)
    by Carry has is = absurd (none has)
    by (Flop falling enable reset) has is = absurd (none has)
    by (PadCell pin_type pullup) has is = absurd (none has)
    by Global has is = absurd (none has)

module _ (n : NetlistData) (formed : IsFormed n) where
  abbrev before : System ℕ Origin
  before = origin_system n

  read_too : (q : ℕ) (d : SignalDriver) → Has (present (aliases n d)) q → Has (present (reads n d)) q
  read_too q Nothing has = has
  read_too q (Pad k) has = has
  read_too q (Output i) has = by (slice_get n.cells i) has
    where
      by : (o : Option Cell) → Has (present (option_map_or cell_aliases o [])) q → Has (present (option_map_or (λ (cell : Cell). cell_reads cell) o [])) q
      by None has = has
      by (Some cell) has = alias_reads cell.kind cell.ins q cell refl refl has

  pub alias_below : (s q : ℕ) → Has (before.depends s) q → q < length n.names
  alias_below s q has = let read = read_too q (driver_of n s) has in reads_below n formed (driver_of n s) read.0 q read.1

  closed : (s q : ℕ) → Has (range_with_len 0 (length n.names)) s → Has (before.depends s) q → Has (range_with_len 0 (length n.names)) q ⊎ (before.depends q ≡ [])
  closed s q has reads = inl (has_number (length n.names) q (alias_below s q reads))

  -- with more steps than there are signals nothing changes
  pub origin_settled : (more s : ℕ) → length n.names + 1 ≤ more → s < length n.names → value before more s ≡ value before (length n.names + 1) s
  origin_settled more s le lt = by (value before more s) refl (value before (length n.names + 1) s) refl
    where
      known : (x : Origin) → value before more s ≡ Some x → value before (length n.names + 1) s ≡ Some x
      known x e =
          subst (λ k. value before (k + 1) s ≡ Some x) (length-range_with_len 0 (length n.names))
          (value_enough before (range_with_len 0 (length n.names)) closed more s x (has_number (length n.names) s lt) e)

      by : (o : Option Origin) → value before more s ≡ o → (r : Option Origin) → value before (length n.names + 1) s ≡ r → value before more s ≡ value before (length n.names + 1) s
      by (Some x) e r f = e ∙ sym (known x e)
      by None e None f = e ∙ sym f
      by None e (Some x) f = absurd (none-some x (sym e ∙ value_at_more before (length n.names + 1) more s x le f))

-- signals that a new netlist makes as before have the origins that they had, after as many steps
pub settled_alike : (n new : NetlistData) → IsFormed n → ((s : ℕ) → s < length n.names → (origin_system new).depends s ≡ (origin_system n).depends s)
    → ((s : ℕ) (xs : List Origin) → s < length n.names → (origin_system new).local s xs ≡ (origin_system n).local s xs)
    → (f s : ℕ) → s < length n.names → value (origin_system new) f s ≡ value (origin_system n) f s
settled_alike n new formed depends local f s lt =
    value_along (origin_system n) (origin_system new) (λ s. s) (λ s. s < length n.names)
    (λ s c q has. alias_below n formed s q has)
    (λ s c. depends s c ∙ sym (map-id ((origin_system n).depends s)))
    (λ s xs c. local s xs c)
    f s lt
