-- The origins of signals along an order of evaluation.
use Rattle.std.proofs.Common.{◌≡◌, ℕ, suc, ◌+◌, ◌<◌, ◌≤◌, Bool, true, false, Option, None, Some, List, [], ◌∷◌, length, get_or, set, map, cond, inl, inr, refl, sym, ap, ◌∙◌, subst, eqb, arith, replicate}
use Rattle.std.specs.Prelude.{slice_get, slice_index_or, unwrap_or}
use Rattle.std.specs.Option.{option_map_or}
use Rattle.std.proofs.lemmas.Bool.{and_parts, eqb-true, cases_lt, cases_eq}
use Rattle.std.proofs.lemmas.List.{length-set, get_or-set_same, get_or-set_other, length-replicate}
use Rattle.std.proofs.lemmas.Option.{same_Some, slice_get_within, slice_get-get_or}
use Rattle.ice_base.specs.declared.number.SignalNo.{SignalNo}
use Rattle.ice_base_values.specs.System.{value, reading, present}
use Rattle.ice_base_values.specs.Order.{At, Has, IsOrder}
use Rattle.ice_base_values.proofs.Values.{value_there, value_step, value_suc}
use Rattle.ice_base_values.proofs.Gaps.{local_gapped}
use Rattle.ice_net.specs.declared.cell.Cell.{Cell}
use Rattle.ice_net.specs.declared.kind.CellKind.{CellKind}
use Rattle.ice_net.specs.declared.kind.CellKind.TheVariants.{Lut, Cover, Carry, Flop, PadCell, Global}
use Rattle.ice_net.specs.declared.driver.SignalDriver.{SignalDriver}
use Rattle.ice_net.specs.declared.driver.SignalDriver.TheVariants.{Nothing, Output}
use Rattle.ice_net.specs.declared.driver.SignalDriver.TheVariants as driver
use Rattle.ice_net.specs.NetlistData.{NetlistData}
use Rattle.ice_net.specs.Drivers.{numbers, driver_of}
use Rattle.ice_net.specs.Meaning.{reads, reads_by, cell_reads, depends_on}
use Rattle.ice_check.specs.Tables.{AreDrivers}
use Rattle.ice_cells.specs.declared.origin.Origin.{Origin}
use Rattle.ice_cells.specs.declared.origin.Origin.TheVariants.{Fixed}
use Rattle.ice_cells.specs.Origins.{is_alias, cell_aliases, cell_origin, aliases, origin_made, origin_system, origin, origins, input_origin}
use Rattle.ice_cells.proofs.TableLaws.{table_from}
use Rattle.ice_pack_share.specs.Along.{found_at, origins_read, made_of, AreFound}

-- ---- what a driver makes of origins
pub first_read : (found : List Origin) (ins : List (Option SignalNo)) → slice_index_or (origins_read found (numbers ins)) 0 (Fixed false) ≡ input_origin found (get_or ins 0 None)
first_read found [] = refl
first_read found (None ∷ ins) = refl
first_read found (Some signal ∷ ins) = refl

made_is : (n : NetlistData) (found : List Origin) (d : SignalDriver) → made_of n.cells found d ≡ origin_made n d (origins_read found (aliases n d))
made_is n found Nothing = refl
made_is n found (driver.Pad k) = refl
made_is n found (Output i) = by (slice_get n.cells i)
  where
    by : (o : Option Cell) → option_map_or (λ (cell : Cell). cell_origin i (origins_read found (cell_aliases cell)) cell) o (Fixed false)
        ≡ option_map_or (cell_origin i (origins_read found (option_map_or cell_aliases o []))) o (Fixed false)
    by None = refl
    by (Some cell) = refl

-- ---- an order of signals goes along aliases, too
-- an alias is a cover of one input with the table 2
pub alias_cover : (kind : CellKind) → is_alias kind ≡ true → kind ≡ Cover 2 1
alias_cover (Lut table) e = cc e
alias_cover (Cover table width) e = let two = and_parts (eqb width 1) (eqb table 2) e in ap (λ t. Cover t width) (eqb-true table 2 two.1) ∙ ap (λ w. Cover 2 w) (eqb-true width 1 two.0)
alias_cover Carry e = cc e
alias_cover (Flop falling enable reset) e = cc e
alias_cover (PadCell pin_type pullup) e = cc e
alias_cover Global e = cc e

-- what makes an origin, the signal reads
alias_read : (n : NetlistData) (d : SignalDriver) (q : ℕ) → Has (present (aliases n d)) q → Has (present (reads n d)) q
alias_read n Nothing q has = has
alias_read n (driver.Pad k) q has = has
alias_read n (Output i) q has = by (slice_get n.cells i) has
  where
    cell_by : (cell : Cell) (b : Bool) → is_alias cell.kind ≡ b → Has (present (cond b (numbers cell.ins) [])) q → Has (present (cell_reads cell)) q
    cell_by cell true e h = subst (λ (k : CellKind). Has (present (numbers (reads_by k cell.ins))) q) (sym (alias_cover cell.kind e)) h
    cell_by cell false e h = cc h.1

    by : (o : Option Cell) → Has (present (option_map_or cell_aliases o [])) q → Has (present (option_map_or (λ (cell : Cell). cell_reads cell) o [])) q
    by None h = h
    by (Some cell) h = cell_by cell (is_alias cell.kind) refl h

-- what inputs read is the same where the origins of what they read are
read_same : (f g : ℕ → Origin) (inputs : List (Option ℕ)) → ((q : ℕ) → Has (present inputs) q → f q ≡ g q) → map (reading (Fixed false) f) inputs ≡ map (reading (Fixed false) g) inputs
read_same f g [] same = refl
read_same f g (None ∷ inputs) same = ap (λ os. Fixed false ∷ os) (read_same f g inputs same)
read_same f g (Some q ∷ inputs) same =
    ap (λ o. o ∷ map (reading (Fixed false) f) inputs) (same q (0, refl))
    ∙ ap (λ os. g q ∷ os) (read_same f g inputs (λ r has. same r (suc has.0, has.1)))

module _ (n : NetlistData) (order : List ℕ) (sorted : IsOrder (length n.names) (depends_on n) order) where
  pub falls : (i s q : ℕ) → At order i s → Has (present (aliases n (driver_of n s))) q → (j : ℕ) × (j < i) × At order j q
  falls i s q at has = sorted.after i s q at (alias_read n (driver_of n s) q has)

  origin_there : (s : ℕ) → s < length n.names → value (origin_system n) (length n.names + 1) s ≡ Some (origin n s)
  origin_there s lt =
      let stands = sorted.each s lt in
      let inside : stands.0 < length order = slice_get_within order stands.0 s stands.1 in
      let count : length order ≡ length n.names = sorted.count in
      let got = value_there (origin_system n) (At order) falls (length n.names + 1) stands.0 s stands.1 (omega arith) in
      got.1 ∙ ap Some (sym (ap (λ o. unwrap_or o (Fixed false)) got.1))

  -- the signals that are read are signals
  read_below : (s q : ℕ) → s < length n.names → Has ((origin_system n).depends s) q → q < length n.names
  read_below s q lt has = let stands = sorted.each s lt in let before = falls stands.0 s q stands.1 has in sorted.within before.0 q before.2

  -- each origin is what the driver makes of those that it looks through
  pub origin_meets : (s : ℕ) → s < length n.names → origin n s ≡ origin_made n (driver_of n s) (map (reading (Fixed false) (origin n)) (aliases n (driver_of n s)))
  origin_meets s lt =
      let step = value_step (origin_system n) (origin n) (length n.names + 1) s (λ q has. origin_there q (read_below s q lt has)) in
      let up = value_suc (origin_system n) (length n.names + 1) s (origin n s) (origin_there s lt) in
      same_Some (origin n s) ((origin_system n).local s (map (origin n) ((origin_system n).depends s))) (sym up ∙ step)
      ∙ local_gapped (λ t. aliases n (driver_of n t)) (Fixed false) (λ t. origin_made n (driver_of n t)) (origin n) s

  -- ---- one signal after another
  pub next_below : (i d : ℕ) → i < length order → get_or order i d < length n.names
  next_below i d lt = sorted.within i (get_or order i d) (slice_get-get_or order i d lt)

  pub none_found : AreFound n order 0 (replicate (length n.names) (Fixed false))
  none_found = record { long = length-replicate (length n.names) (Fixed false); found_are = λ j s lt at. absurd (omega (arith, lt)) }

  -- what is made at place i of the order is the origin
  made_there : (i s : ℕ) (found : List Origin) → At order i s → AreFound n order i found → made_of n.cells found (driver_of n s) ≡ origin n s
  made_there i s found at are =
      made_is n found (driver_of n s)
      ∙ ap (origin_made n (driver_of n s)) (read_same (found_at found) (origin n) (aliases n (driver_of n s))
      (λ q has. let before = falls i s q at has in are.found_are before.0 q before.1 before.2))
      ∙ sym (origin_meets s (sorted.within i s at))

  pub found_more : (cells : List Cell) (drivers : List SignalDriver) (i s : ℕ) (old new : List Origin) → cells ≡ n.cells → AreDrivers n drivers → At order i s → AreFound n order i old
      → new ≡ set old s (made_of cells old (slice_index_or drivers s Nothing)) → AreFound n order (i + 1) new
  found_more cells drivers i s old new same_cells table at are e = subst (AreFound n order (i + 1)) (sym e) (record {
    long = length-set old s x ∙ are.long;
    found_are = λ j t lt here. elim (cases_eq t s) [
      | inl same ↦ ap (λ k. get_or (set old s x) k (Fixed false)) same ∙ get_or-set_same old s x (Fixed false) (let l = are.long in omega (arith, below, l)) ∙ is ∙ ap (origin n) (sym same)
      | inr other ↦ get_or-set_other old s t x (Fixed false) other ∙ are.found_are j t (before j t lt here other) here
    ];
  })
    where
      x : Origin
      x = made_of cells old (slice_index_or drivers s Nothing)

      below : s < length n.names
      below = sorted.within i s at

      is : x ≡ origin n s
      is = ap (λ (xs : List Cell). made_of xs old (slice_index_or drivers s Nothing)) same_cells ∙ ap (made_of n.cells old) (table.drivers s below) ∙ made_there i s old at are

      before : (j t : ℕ) → j < i + 1 → At order j t → (t ≡ s → ⊥) → j < i
      before j t lt here other = elim (cases_lt j i) [
        | inl less ↦ less
        | inr past ↦ absurd (other (same_Some t s (sym here ∙ ap (slice_get order) (let f : j ≡ i = omega arith in f) ∙ at)))
      ]

  pub all_found : (i : ℕ) (found : List Origin) → length order ≤ i → AreFound n order i found → found ≡ origins n
  all_found i found all are =
      table_from (origin n) (length n.names) found (Fixed false) are.long
      (λ s lt. let stands = sorted.each s lt in are.found_are stands.0 s (let inside : stands.0 < length order = slice_get_within order stands.0 s stands.1 in omega arith) stands.1)
