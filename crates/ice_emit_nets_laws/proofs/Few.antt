-- A placed design has no more nets than roots that are read.
use Rattle.std.proofs.Common.{◌≡◌, ◌⊎◌, ℕ, ◌≤◌, Bool, true, Option, None, Some, List, ◌++◌, length, map, inl, inr, sym, ap, ◌∙◌, subst, ◌-◌}
use Rattle.std.specs.List.{range_with_len}
use Rattle.ice_base_values.specs.Order.{At, Has, StandOnce}
use Rattle.ice_base_values.proofs.Members.{any_Has, map_Has}
use Rattle.ice_base_values.proofs.Places.{At_append_cases}
use Rattle.ice_base_values.proofs.Once.{once_append}
use Rattle.ice_chip.specs.Database.{Parts, PackageRows}
use Rattle.ice_cells.specs.declared.root.Root.{Root}
use Rattle.ice_cells.specs.declared.root.Root.TheVariants.{PadIn, CellOut, GlobalOut}
use Rattle.ice_cells.specs.Readings.{roots_read, is_read}
use Rattle.ice_cells.specs.Same.{same_source}
use Rattle.ice_place_defs.specs.Plan.{Plan}
use Rattle.ice_emit_nets.specs.Ends.{ends}
use Rattle.ice_emit_nets.specs.Nets.{Bare, pad_root, cell_root, global_root, root_wire, roots, sinks_of, net_of, nets_of}
use Rattle.ice_emit_led_laws.specs.Trees.{IsOnChip}
use Rattle.ice_emit_led_laws.proofs.Reading.{end_read}
use Rattle.ice_emit_led_laws.proofs.Roots.{root_same}
use Rattle.ice_emit_led_laws.proofs.Trees.{sink_told, net_told}
use Rattle.ice_emit_nets_laws.proofs.Once.{once_map, once_range, few_given}

-- ---- no root stands twice among all of a design
same_pad : (a b : ℕ) → PadIn a ≡ PadIn b → a ≡ b
same_pad a b e = cc e

same_cell : (a b : ℕ) → CellOut a ≡ CellOut b → a ≡ b
same_cell a b e = cc e

same_global : (a b : ℕ) → GlobalOut a ≡ GlobalOut b → a ≡ b
same_global a b e = cc e

pad_cell : (a b : ℕ) → PadIn a ≡ CellOut b → ⊥
pad_cell a b e = cc e

pad_global : (a b : ℕ) → PadIn a ≡ GlobalOut b → ⊥
pad_global a b e = cc e

cell_global : (a b : ℕ) → CellOut a ≡ GlobalOut b → ⊥
cell_global a b e = cc e

module _ (plan : Plan) where
  abbrev pads : List Root
  pads = map pad_root (range_with_len 0 (length plan.ports))

  abbrev cells : List Root
  cells = map cell_root (range_with_len 0 (length plan.design.cells))

  abbrev buffers : List Root
  buffers = map global_root (range_with_len 0 (length plan.globals))

  pads_cells : (r : Root) → Has pads r → Has cells r → ⊥
  pads_cells r a b =
      let pad = map_Has pad_root (range_with_len 0 (length plan.ports)) r a in
      let cell = map_Has cell_root (range_with_len 0 (length plan.design.cells)) r b in
      pad_cell pad.0 cell.0 (pad.2 ∙ sym cell.2)

  rest_global : (r : Root) → Has (pads ++ cells) r → Has buffers r → ⊥
  rest_global r a b = by (At_append_cases pads cells a.0 r a.1)
    where
      buffer : (g : ℕ) × Has (range_with_len 0 (length plan.globals)) g × (global_root g ≡ r)
      buffer = map_Has global_root (range_with_len 0 (length plan.globals)) r b

      by : At pads a.0 r ⊎ ((length pads ≤ a.0) × At cells (a.0 - length pads) r) → ⊥
      by (inl here) = (let pad = map_Has pad_root (range_with_len 0 (length plan.ports)) r (a.0, here) in pad_global pad.0 buffer.0 (pad.2 ∙ sym buffer.2))
      by (inr there) = (let cell = map_Has cell_root (range_with_len 0 (length plan.design.cells)) r (a.0 - length pads, there.1) in cell_global cell.0 buffer.0 (cell.2 ∙ sym buffer.2))

  roots_once : StandOnce (roots plan)
  roots_once =
      once_append (pads ++ cells) buffers
      (once_append pads cells (once_map pad_root (range_with_len 0 (length plan.ports)) same_pad (once_range (length plan.ports)))
      (once_map cell_root (range_with_len 0 (length plan.design.cells)) same_cell (once_range (length plan.design.cells))) pads_cells)
      (once_map global_root (range_with_len 0 (length plan.globals)) same_global (once_range (length plan.globals))) rest_global

-- what is read is among what is read
read_has : (plan : Plan) (root : Root) → is_read plan.design root ≡ true → Has (roots_read plan.design) (Some root)
read_has plan root e =
    let found = any_Has (same_source (Some root)) (roots_read plan.design) e in
    subst (λ (o : Option Root). Has (roots_read plan.design) o) (same_is found.0 found.2) found.1
  where
    same_is : (o : Option Root) → same_source (Some root) o ≡ true → o ≡ Some root
    same_is None f = cc f
    same_is (Some r) f = ap Some (sym (root_same root r f))

module _ (parts : Parts) (rows : PackageRows) (plan : Plan) (pullups : List Bool) (on : IsOnChip parts rows plan pullups) where
  -- the root of a net is read
  net_read : (root : Root) (net : Bare) → net_of parts plan (ends parts plan) root ≡ Some net → is_read plan.design root ≡ true
  net_read root net gives =
      let told = net_told (root_wire parts plan root) (sinks_of (ends parts plan) root) net gives in
      let e = sink_told (ends parts plan) root told.2.0 told.2.1 in
      subst (λ (r : Root). is_read plan.design r ≡ true) e.2 (end_read parts rows plan pullups on e.0 e.1)

  -- there are no more nets than roots in a list that has all that are read
  pub nets_are_few : (all : List Root) → ((root : Root) → Has (roots_read plan.design) (Some root) → Has all root) → length (nets_of parts plan) ≤ length all
  nets_are_few all each =
      few_given (net_of parts plan (ends parts plan)) (roots plan) all (roots_once plan) (λ root net has gives. each root (read_has plan root (net_read root net gives)))
