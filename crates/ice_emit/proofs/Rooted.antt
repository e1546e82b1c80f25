-- The wires of roots, as they are looked up.
use Rattle.std.proofs.Common.{◌≡◌, ℕ, ◌≤◌, Option, None, length, inl, inr, sym, ap, ◌∙◌, arith}
use Rattle.std.specs.Prelude.{slice_index_or, option_map}
use Rattle.std.specs.Option.{option_and_then}
use Rattle.std.proofs.lemmas.Bool.{cases_lt}
use Rattle.std.proofs.lemmas.List.{get_or_past}
use Rattle.std.proofs.lemmas.Option.{slice_get_past}
use Rattle.ice_cells.specs.declared.root.Root.TheVariants.{PadIn, CellOut, GlobalOut}
use Rattle.ice_cells.specs.Tables.{table}
use Rattle.ice_cells.proofs.TableLaws.{length-table, get_or-table}
use Rattle.ice_chip.specs.Database.{Parts}
use Rattle.ice_pads.specs.Globals.{global_wire}
use Rattle.ice_place_defs.specs.Plan.{Plan, plan_in}
use Rattle.ice_emit_nets.specs.Ends.{wire_no}
use Rattle.ice_emit_nets.specs.Nets.{root_wire, pad_wire, slot_wire, pad_root, cell_root, global_root}
use Rattle.ice_emit_nets.specs.Rooted.{root_no}
use Rattle.ice_emit.specs.Routed.{IsRouted}
use Rattle.ice_emit.specs.declared.routed.Routed.{Routed}

-- what a table that is left at some number says
pub table_look : {X : Type 0} (f : ℕ → Option X) (n k : ℕ) → (n ≤ k → f k ≡ None) → slice_index_or (table f n) k None ≡ f k
table_look f n k past = elim (cases_lt k n) [
  | inl lt ↦ get_or-table f n k None lt
  | inr ge ↦ get_or_past (table f n) k None (let l : length (table f n) ≡ n = length-table f n in omega arith) ∙ sym (past ge)
]

module _ (routed : Routed) (is : IsRouted routed) where
  abbrev parts : Parts
  parts = routed.placed.chip.now

  abbrev plan : Plan
  plan = plan_in routed.placed

  pub pad_root_is : (k : ℕ) → slice_index_or routed.wires.now.pads.items k None ≡ option_map wire_no (root_wire parts plan (PadIn k))
  pad_root_is k =
      ap (λ w. slice_index_or w.pads k None) is.wires
      ∙ table_look (λ j. root_no parts plan (pad_root j)) (length plan.ports) k (λ le. ap (λ o. option_map wire_no (option_and_then (pad_wire parts) o)) (slice_get_past plan.ports k le))

  pub cell_root_is : (c : ℕ) → slice_index_or routed.wires.now.cells.items c None ≡ option_map wire_no (root_wire parts plan (CellOut c))
  cell_root_is c =
      ap (λ w. slice_index_or w.cells c None) is.wires
      ∙ table_look (λ j. root_no parts plan (cell_root j)) (length plan.design.cells) c (λ le. ap (λ o. option_map wire_no (option_and_then (slot_wire parts) o)) (is.cells c le))

  pub global_root_is : (g : ℕ) → slice_index_or routed.wires.now.globals.items g None ≡ option_map wire_no (root_wire parts plan (GlobalOut g))
  global_root_is g =
      ap (λ w. slice_index_or w.globals g None) is.wires
      ∙ table_look (λ j. root_no parts plan (global_root j)) (length plan.globals) g (λ le. ap (λ o. option_map wire_no (option_and_then (global_wire parts) o)) (slice_get_past plan.globals g le))
