-- Carries at look-up tables read signals in use.
use Rattle.std.proofs.Common.{◌≡◌, ℕ, zero, suc, true, None, Some, List, [], ◌∷◌, length, map, take, All, refl, ap, sym, ◌∙◌, subst, arith, length-take-le}
use Rattle.std.specs.Prelude.{slice_index_or}
use Rattle.std.specs.List.{flat_map}
use Rattle.std.specs.Option.{option_map_or}
use Rattle.std.proofs.lemmas.List.{length-map}
use Rattle.std.proofs.lemmas.List.Elements.{All-nil, All-cons, All-get_or}
use Rattle.std.proofs.lemmas.Option.{none-some, same_Some, get_or_from_slice_get, slice_get_within}
use Rattle.ice_base_values.specs.Order.{At, Has}
use Rattle.ice_base_values.proofs.Members.{map_At}
use Rattle.ice_net.specs.declared.cell.Cell.{Cell}
use Rattle.ice_net.specs.declared.kind.CellKind.{CellKind}
use Rattle.ice_net.specs.declared.kind.CellKind.TheVariants.{Lut, Cover, Carry, Flop, PadCell, Global}
use Rattle.ice_net.specs.Uses.{uses_by}
use Rattle.ice_net.specs.Formed.{IsBelow, IsFormedCell, IsFormed}
use Rattle.ice_net.specs.NetlistData.{NetlistData}
use Rattle.ice_check.specs.Faults.{uses_of}
use Rattle.ice_check.proofs.ListsBelow.{at_below}
use Rattle.ice_check.proofs.Places.{wire, has_place}
use Rattle.ice_check.proofs.Uses.{used_at}
use Rattle.ice_net_additions.proofs.GrownSound.{AreInUse}
use Rattle.ice_carry_tails.specs.Tails.{tail_name, tail_names, behind, read_behind}
use Rattle.ice_carry_tails.specs.TailLaws.{is_lut, IsTableAt, CanTakeTails}
use Rattle.ice_carry_tails.proofs.Added.{Ins}

-- ---- the three inputs
pub behind_below : (count : ℕ) (ins : Ins) → All (IsBelow count) ins → All (IsBelow count) (behind ins)
behind_below count ins all =
    All-cons (IsBelow count) (slice_index_or ins 1 None) (slice_index_or ins 2 None ∷ slice_index_or ins 3 None ∷ []) (at_below count ins 1 all)
    (All-cons (IsBelow count) (slice_index_or ins 2 None) (slice_index_or ins 3 None ∷ []) (at_below count ins 2 all)
    (All-cons (IsBelow count) (slice_index_or ins 3 None) [] (at_below count ins 3 all) (All-nil (IsBelow count))))

pub there : (ins : Ins) (k s : ℕ) → slice_index_or ins k None ≡ wire s → At ins k (wire s)
there [] k s e = absurd (none-some (record { 0 = s }) e)
there (pin ∷ pins) zero s e = ap Some e
there (pin ∷ pins) (suc k) s e = there pins k s e

pub behind_has : (ins : Ins) (s : ℕ) → Has (behind ins) (wire s) → Has ins (wire s)
behind_has ins s (zero, at) = (1, there ins 1 s (same_Some (slice_index_or ins 1 None) (wire s) at))
behind_has ins s (suc zero, at) = (2, there ins 2 s (same_Some (slice_index_or ins 2 None) (wire s) at))
behind_has ins s (suc (suc zero), at) = (3, there ins 3 s (same_Some (slice_index_or ins 3 None) (wire s) at))
behind_has ins s (suc (suc (suc i)), at) = absurd (none-some (wire s) at)

-- ---- a look-up table uses all that it reads
lut_uses : (kind : CellKind) (ins : Ins) → is_lut kind ≡ true → uses_by kind ins ≡ ins
lut_uses (Lut table) ins e = refl
lut_uses (Cover table width) ins e = cc e
lut_uses Carry ins e = cc e
lut_uses (Flop falling enable reset) ins e = cc e
lut_uses (PadCell pin_type pullup) ins e = cc e
lut_uses Global ins e = cc e

module _ (n : NetlistData) (tables : List ℕ) (formed : IsFormed n) (can : CanTakeTails n tables) where
  pub table_at : (j i : ℕ) → At tables j i → IsTableAt n i
  table_at j i at =
      subst (IsTableAt n) (get_or_from_slice_get tables j i i at) (All-get_or (IsTableAt n) tables j i (slice_get_within tables j i at) can.tables_are)

  pub formed_at : (i : ℕ) (cell : Cell) → At n.cells i cell → IsFormedCell (length n.names) cell
  formed_at i cell at =
      subst (IsFormedCell (length n.names)) (get_or_from_slice_get n.cells i cell cell at)
      (All-get_or (IsFormedCell (length n.names)) n.cells i cell (slice_get_within n.cells i cell at) formed.cells)

  -- what a carry reads are the inputs of a table
  pub read_by : (j : ℕ) (ins : Ins) → At (map (read_behind n.cells) tables) j ins → (i : ℕ) × (cell : Cell) × At n.cells i cell × (is_lut cell.kind ≡ true) × (behind cell.ins ≡ ins)
  read_by j ins at =
      let found = map_At (read_behind n.cells) tables j ins at in
      let table = table_at j found.0 found.1 in
      (found.0, table.0, table.1, table.2, sym (ap (λ o. behind (option_map_or (λ (cell : Cell). cell.ins) o [])) table.1) ∙ found.2)

  pub in_use : AreInUse n (tail_names n.names (length tables)) (map (read_behind n.cells) tables)
  in_use = record {
    named =
        (let few = can.few in
        let a = length-map (take (length tables) n.names) tail_name in
        let b = length-take-le (length tables) n.names few in
        let c = length-map tables (read_behind n.cells) in
        omega (arith, a, b, c));
    below = λ j ins at. let by = read_by j ins at in
        subst (All (IsBelow (length n.names))) by.4 (behind_below (length n.names) by.1.ins (formed_at by.0 by.1 by.2).ins_below);
    used = λ j s ins at has. let by = read_by j ins at in
        let has_in = behind_has by.1.ins s (subst (λ (xs : Ins). Has xs (wire s)) (sym by.4) has) in
        let in_cell : Has (uses_of by.1) (wire s) = subst (λ (xs : Ins). Has xs (wire s)) (sym (lut_uses by.1.kind by.1.ins by.3)) has_in in
        let used = used_at n.cells by.0 by.1 (wire s) by.2 in_cell in
        has_place s (flat_map uses_of n.cells) used.0 used.1;
  }
