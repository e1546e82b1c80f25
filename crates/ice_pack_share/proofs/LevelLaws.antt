-- A signal has the level of its origin.
use Rattle.std.proofs.Common.{◌≡◌, ℕ, zero, suc, ◌+◌, ◌<◌, Bool, true, false, Option, None, Some, List, [], ◌∷◌, length, map, cond, refl, sym, ap, ◌∙◌, subst, eqb, arith}
use Rattle.std.specs.Prelude.{slice_get, slice_index_or}
use Rattle.std.specs.Option.{option_map_or}
use Rattle.std.proofs.lemmas.Bool.{eqb-true}
use Rattle.std.proofs.lemmas.Option.{same_Some, slice_get_within, get_or_from_slice_get}
use Rattle.ice_base.specs.declared.number.SignalNo.{SignalNo}
use Rattle.ice_base_values.specs.Order.{At, Has, IsOrder}
use Rattle.ice_base_values.specs.System.{reading, present}
use Rattle.ice_base_values.proofs.Values.{value_step, value_suc}
use Rattle.ice_base_values.proofs.Gaps.{local_gapped}
use Rattle.ice_net.specs.declared.cell.Cell.{Cell}
use Rattle.ice_net.specs.declared.kind.CellKind.{CellKind}
use Rattle.ice_net.specs.declared.kind.CellKind.TheVariants.{Lut, Cover, Carry, Flop, PadCell, Global}
use Rattle.ice_net.specs.declared.driver.SignalDriver.{SignalDriver}
use Rattle.ice_net.specs.declared.driver.SignalDriver.TheVariants.{Nothing, Output}
use Rattle.ice_net.specs.declared.driver.SignalDriver.TheVariants as driver
use Rattle.ice_net.specs.Kinds.{ins_count}
use Rattle.ice_net.specs.NetlistData.{NetlistData}
use Rattle.ice_net.specs.Formed.{IsFormed, IsFormedCell}
use Rattle.ice_net.specs.Drivers.{signal_number, numbers, driver_of, pin_of}
use Rattle.ice_net.specs.Meaning.{number_of, table_bit, makes, makes_by, reads, reads_by, cell_reads, signal_value, depends_on, pad_level, system_of}
use Rattle.ice_check.proofs.Faulty.{signals_valued}
use Rattle.ice_cells.specs.declared.origin.Origin.{Origin}
use Rattle.ice_cells.specs.declared.origin.Origin.TheVariants.{Fixed, Made}
use Rattle.ice_cells.specs.Origins.{is_alias, constant_of, cell_aliases, aliases, cell_origin, origin_made, origin}
use Rattle.ice_pack_share.specs.Laws.{origin_level}
use Rattle.ice_pack_share.proofs.OriginSteps.{alias_cover, falls, origin_meets}

-- ---- the inputs of covers
formed_at : (n : NetlistData) → IsFormed n → (cell : Cell) (i : ℕ) → At n.cells i cell → IsFormedCell (length n.names) cell
formed_at n formed cell i at = subst (λ (c : Cell). IsFormedCell (length n.names) c) (get_or_from_slice_get n.cells i cell cell at) (formed.cells i cell (slice_get_within n.cells i cell at))

one_of : (ins : List (Option SignalNo)) → length ins ≡ 1 → (q : Option SignalNo) × (ins ≡ q ∷ [])
one_of [] e = absurd (omega arith)
one_of (q ∷ []) e = (q, refl)
one_of (q ∷ r ∷ ins) e = absurd (omega arith)

none_of : (ins : List (Option SignalNo)) → length ins ≡ 0 → ins ≡ []
none_of [] e = refl
none_of (q ∷ ins) e = absurd (omega arith)

-- an alias has one input
alias_one : (n : NetlistData) → IsFormed n → (cell : Cell) (i : ℕ) → At n.cells i cell → is_alias cell.kind ≡ true → (q : Option SignalNo) × (cell.ins ≡ q ∷ [])
alias_one n formed cell i at e = one_of cell.ins ((formed_at n formed cell i at).ins_long ∙ ap ins_count (alias_cover cell.kind e))

-- a constant has none
constant_width : (kind : CellKind) (b : Bool) → constant_of kind ≡ Some b → ins_count kind ≡ 0
constant_width (Lut t) b e = cc e
constant_width (Cover t width) b e = by (eqb width 0) refl e
  where
    by : (x : Bool) → eqb width 0 ≡ x → cond x (Some (table_bit t 0)) None ≡ Some b → width ≡ 0
    by true is f = eqb-true width 0 is
    by false is f = cc f
constant_width Carry b e = cc e
constant_width (Flop falling enable reset) b e = cc e
constant_width (PadCell pin_type pullup) b e = cc e
constant_width Global b e = cc e

constant_none : (n : NetlistData) → IsFormed n → (cell : Cell) (i : ℕ) → At n.cells i cell → (b : Bool) → constant_of cell.kind ≡ Some b → cell.ins ≡ []
constant_none n formed cell i at b e = none_of cell.ins ((formed_at n formed cell i at).ins_long ∙ constant_width cell.kind b e)

-- ---- levels
module _ (n : NetlistData) (order : List ℕ) (sorted : IsOrder (length n.names) (depends_on n) order) where
  module _ (levels kept : List Bool) where
    abbrev sv : ℕ → Bool
    sv s = signal_value n levels kept s

    abbrev lv : Origin → Bool
    lv o = origin_level n levels kept o

    -- each signal has what its driver makes of what it reads
    meets : (s : ℕ) → s < length n.names → sv s ≡ makes n levels kept (driver_of n s) (map (reading false sv) (reads n (driver_of n s)))
    meets s lt =
        let stands = sorted.each s lt in
        let step = value_step (system_of n levels kept) sv (length n.names + 1) s (λ q has. let before = sorted.after stands.0 s q stands.1 has in signals_valued n order sorted levels kept q (sorted.within before.0 q before.2)) in
        let up = value_suc (system_of n levels kept) (length n.names + 1) s (sv s) (signals_valued n order sorted levels kept s lt) in
        same_Some (sv s) ((system_of n levels kept).local s (map sv ((system_of n levels kept).depends s))) (sym up ∙ step)
        ∙ local_gapped (λ t. reads n (driver_of n t)) false (λ t. makes n levels kept (driver_of n t)) sv s

    abbrev made_by : ℕ → Option Cell → Bool
    made_by i o = option_map_or (λ (cell : Cell). makes_by cell.kind (slice_index_or kept i false) (pad_level n.ports levels (pin_of cell)) (map (reading false sv) (option_map_or (λ (c : Cell). cell_reads c) o []))) o false

    -- one step, by the driver
    stepped : (d : SignalDriver) → ((q : ℕ) → Has (present (aliases n d)) q → sv q ≡ lv (origin n q)) → ((cell : Cell) (i : ℕ) → d ≡ Output i → At n.cells i cell → is_alias cell.kind ≡ true → (q : Option SignalNo) × (cell.ins ≡ q ∷ []))
        → ((cell : Cell) (i : ℕ) → d ≡ Output i → At n.cells i cell → (b : Bool) → constant_of cell.kind ≡ Some b → cell.ins ≡ [])
        → makes n levels kept d (map (reading false sv) (reads n d)) ≡ lv (origin_made n d (map (reading (Fixed false) (origin n)) (aliases n d)))
    stepped Nothing lower one none = refl
    stepped (driver.Pad k) lower one none = refl
    stepped (Output i) lower one none = by (slice_get n.cells i) refl
      where
        alias_by : (cell : Cell) (q : Option SignalNo) (kind : CellKind) (ins : List (Option SignalNo)) (l p : Bool) → kind ≡ Cover 2 1 → ins ≡ q ∷ [] → ((s : ℕ) → Has (present (numbers ins)) s → sv s ≡ lv (origin n s))
            → makes_by kind l p (map (reading false sv) (numbers (reads_by kind ins))) ≡ lv (slice_index_or (map (reading (Fixed false) (origin n)) (numbers ins)) 0 (Fixed false))
        alias_by cell q kind ins l p ek ei each =
            rw (ek, ei) (two q (subst (λ (xs : List (Option SignalNo)). (s : ℕ) → Has (present (numbers xs)) s → sv s ≡ lv (origin n s)) ei each))
          where
            bit : (b : Bool) → table_bit 2 (number_of (b ∷ [])) ≡ b
            bit true = refl
            bit false = refl

            two : (q : Option SignalNo) → ((s : ℕ) → Has (present (numbers (q ∷ []))) s → sv s ≡ lv (origin n s)) → table_bit 2 (number_of (reading false sv (signal_number q) ∷ [])) ≡ lv (reading (Fixed false) (origin n) (signal_number q))
            two None each = refl
            two (Some s) each = bit (sv s.0) ∙ each s.0 (0, refl)

        cell_by : (cell : Cell) → At n.cells i cell → (b : Bool) → is_alias cell.kind ≡ b → ((q : ℕ) → Has (present (cond b (numbers cell.ins) [])) q → sv q ≡ lv (origin n q))
            → makes_by cell.kind (slice_index_or kept i false) (pad_level n.ports levels (pin_of cell)) (map (reading false sv) (cell_reads cell))
            ≡ lv (cond b (slice_index_or (map (reading (Fixed false) (origin n)) (cond b (numbers cell.ins) [])) 0 (Fixed false)) (option_map_or (λ b. Fixed b) (constant_of cell.kind) (Made i)))
        cell_by cell at true e each =
            let q = one cell i refl at e in
            alias_by cell q.0 cell.kind cell.ins (slice_index_or kept i false) (pad_level n.ports levels (pin_of cell)) (alias_cover cell.kind e) q.1 each
        cell_by cell at false e each = other (constant_of cell.kind) refl
          where
            other : (o : Option Bool) → constant_of cell.kind ≡ o
                → makes_by cell.kind (slice_index_or kept i false) (pad_level n.ports levels (pin_of cell)) (map (reading false sv) (cell_reads cell)) ≡ lv (option_map_or (λ b. Fixed b) o (Made i))
            other None f = sym (ap (λ o. option_map_or (λ (c : Cell). makes_by c.kind (slice_index_or kept i false) (pad_level n.ports levels (pin_of c)) (map (reading false sv) (option_map_or (λ (x : Cell). cell_reads x) o []))) o false) at)
            other (Some b) f = constant_by cell.kind cell.ins (none cell i refl at b f) f
              where
                constant_by : (kind : CellKind) (ins : List (Option SignalNo)) → ins ≡ [] → constant_of kind ≡ Some b
                    → makes_by kind (slice_index_or kept i false) (pad_level n.ports levels (pin_of cell)) (map (reading false sv) (numbers (reads_by kind ins))) ≡ b
                constant_by (Lut table) ins ei g = cc g
                constant_by (Cover table width) ins ei g = rw ei (by_width (eqb width 0) g)
                  where
                    by_width : (x : Bool) → cond x (Some (table_bit table 0)) None ≡ Some b → table_bit table 0 ≡ b
                    by_width true h = same_Some (table_bit table 0) b h
                    by_width false h = cc h
                constant_by Carry ins ei g = cc g
                constant_by (Flop falling enable reset) ins ei g = cc g
                constant_by (PadCell pin_type pullup) ins ei g = cc g
                constant_by Global ins ei g = cc g

        by : (o : Option Cell) → slice_get n.cells i ≡ o → made_by i (slice_get n.cells i) ≡ lv (option_map_or (cell_origin i (map (reading (Fixed false) (origin n)) (option_map_or cell_aliases (slice_get n.cells i) []))) (slice_get n.cells i) (Fixed false))
        by None e = rw e refl
        by (Some cell) e =
            ap (made_by i) e
            ∙ cell_by cell e (is_alias cell.kind) refl (λ q has. lower q (subst (λ (o : Option Cell). Has (present (option_map_or cell_aliases o [])) q) (sym e) has))
            ∙ sym (ap (λ o. lv (option_map_or (cell_origin i (map (reading (Fixed false) (origin n)) (option_map_or cell_aliases o []))) o (Fixed false))) e)

    levels_are : ((cell : Cell) (i : ℕ) → At n.cells i cell → is_alias cell.kind ≡ true → (q : Option SignalNo) × (cell.ins ≡ q ∷ []))
        → ((cell : Cell) (i : ℕ) → At n.cells i cell → (b : Bool) → constant_of cell.kind ≡ Some b → cell.ins ≡ [])
        → (bound i s : ℕ) → i < bound → At order i s → sv s ≡ lv (origin n s)
    levels_are one none zero i s lt at = absurd (omega arith)
    levels_are one none (suc bound) i s lt at =
        let below : s < length n.names = sorted.within i s at in
        meets s below
        ∙ stepped (driver_of n s) (λ q has. let before = falls n order sorted i s q at has in levels_are one none bound before.0 q (let l : before.0 < i = before.1 in omega arith) before.2) (λ cell k e at'. one cell k at') (λ cell k e at'. none cell k at')
        ∙ ap lv (sym (origin_meets n order sorted s below))

    -- a signal has the level of its origin
    pub level_of_origin : IsFormed n → (s : ℕ) → s < length n.names → sv s ≡ lv (origin n s)
    level_of_origin formed s lt =
        let stands = sorted.each s lt in
        levels_are (alias_one n formed) (constant_none n formed) (stands.0 + 1) stands.0 s (omega arith) stands.1
