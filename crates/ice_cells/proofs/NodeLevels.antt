-- The level of a node is its value, however many steps gave it.
use Rattle.std.proofs.Common.{◌≡◌, ◌⊎◌, ℕ, zero, suc, ◌+◌, ◌*◌, ◌<◌, ◌≤◌, Bool, false, Option, None, Some, List, [], ◌∷◌, ◌++◌, length, map, inl, inr, refl, sym, ap, ◌∙◌, arith}
use Rattle.std.specs.Prelude.{unwrap_or, option_map}
use Rattle.std.specs.List.{range_with_len}
use Rattle.std.specs.Option.{option_map_or}
use Rattle.std.proofs.lemmas.Bool.{cases_lt}
use Rattle.std.proofs.lemmas.List.{length-append, length-map}
use Rattle.std.proofs.lemmas.List.FromFn.{length-range_with_len, get_or-range_with_len}
use Rattle.std.proofs.lemmas.Option.{same_Some, slice_get_past, slice_get-get_or}
use Rattle.ice_base.specs.Lists.{all_known}
use Rattle.ice_base_values.specs.Arriving.{HasValue}
use Rattle.ice_base_values.specs.Order.{At, Has}
use Rattle.ice_base_values.specs.System.{System, value, reading, present}
use Rattle.ice_base_values.proofs.Arriving.{values_rank}
use Rattle.ice_base_values.proofs.Enough.{first, value_enough}
use Rattle.ice_base_values.proofs.Gaps.{local_gapped}
use Rattle.ice_base_values.proofs.Members.{At_map, At_left, At_right}
use Rattle.ice_base_values.proofs.Values.{value_suc, value_at_more, value_step}
use Rattle.ice_cells.specs.declared.cell.LogicCell.{LogicCell}
use Rattle.ice_cells.specs.declared.design.Design.{Design}
use Rattle.ice_cells.specs.declared.root.Root.TheVariants.{PadIn, CellOut, GlobalOut, CarryOut}
use Rattle.ice_cells.specs.Meaning.{cell_inputs, output_reads, carry_reads, node_reads, node_makes, system_of, count_nodes, node_level, HasValues}
use Rattle.ice_cells.specs.Nodes.{Node, Net, Level, net}

pub range_at : (n i : ℕ) → i < n → At (range_with_len 0 n) i i
range_at n i lt =
    let long : i < length (range_with_len 0 n) = let l = length-range_with_len 0 n in omega arith in
    slice_get-get_or (range_with_len 0 n) i 0 long ∙ ap Some (get_or-range_with_len 0 n i 0 lt ∙ (let z : 0 + i ≡ i = omega arith in z))

-- what an input reads is among what is read
pub present_has : {P : Type 0} (inputs : List (Option P)) (i : ℕ) (q : P) → At inputs i (Some q) → Has (present inputs) q
present_has [] i q at = cc
present_has (None ∷ inputs) zero q at = cc
present_has (None ∷ inputs) (suc i) q at = present_has inputs i q at
present_has (Some p ∷ inputs) zero q at = (0, same_Some (Some p) (Some q) at)
present_has (Some p ∷ inputs) (suc i) q at = let rest = present_has inputs i q at in (suc rest.0, rest.1)

enough : (m n c g p : ℕ) → m ≡ c + (c + g) → n ≡ p + 2 * c + g + 2 → m + 1 ≤ n + 1
enough m n c g p e f = omega arith

module _ (d : Design) (levels kept : List Bool) where
  abbrev system : System Node Bool
  system = system_of d levels kept

  abbrev cell_numbers : List ℕ
  cell_numbers = range_with_len 0 (length d.cells)

  abbrev outputs : List Node
  outputs = map (λ c. Net (CellOut c)) cell_numbers

  abbrev carries : List Node
  carries = map (λ c. Net (CarryOut c)) cell_numbers

  abbrev buffers : List Node
  buffers = map (λ g. Net (GlobalOut g)) (range_with_len 0 (length d.globals))

  -- the nodes that read others
  abbrev nodes : List Node
  nodes = outputs ++ (carries ++ buffers)

  nodes_count : length nodes ≡ length d.cells + (length d.cells + length d.globals)
  nodes_count =
      length-append outputs (carries ++ buffers)
      ∙ (λ i. (length-map cell_numbers (λ c. Net (CellOut c)) ∙ length-range_with_len 0 (length d.cells)) i
      + (length-append carries buffers ∙ (λ j. (length-map cell_numbers (λ c. Net (CarryOut c)) ∙ length-range_with_len 0 (length d.cells)) j
      + (length-map (range_with_len 0 (length d.globals)) (λ g. Net (GlobalOut g)) ∙ length-range_with_len 0 (length d.globals)) j)) i)

  listed : (n : Node) → Has nodes n ⊎ (system.depends n ≡ [])
  listed (Net (PadIn k)) = inr refl
  listed (Level b) = inr refl
  listed (Net (CellOut c)) = elim (cases_lt c (length d.cells)) [
    | inl lt ↦ inl (c, At_left outputs (carries ++ buffers) c (Net (CellOut c)) (At_map (λ c. Net (CellOut c)) cell_numbers c c (range_at (length d.cells) c lt)))
    | inr le ↦ inr (ap (λ o. present (option_map_or (λ (cell : LogicCell). output_reads cell.flop (cell_inputs d c cell)) o [])) (slice_get_past d.cells c le))
  ]
  listed (Net (CarryOut c)) = elim (cases_lt c (length d.cells)) [
    | inl lt ↦ inl (
      length outputs + c,
      At_right outputs (carries ++ buffers) c (Net (CarryOut c))
          (At_left carries buffers c (Net (CarryOut c)) (At_map (λ c. Net (CarryOut c)) cell_numbers c c (range_at (length d.cells) c lt))),
    )
    | inr le ↦ inr (ap (λ o. present (option_map_or (carry_reads d c) o [])) (slice_get_past d.cells c le))
  ]
  listed (Net (GlobalOut g)) = elim (cases_lt g (length d.globals)) [
    | inl lt ↦ inl (
      length outputs + (length carries + g),
      At_right outputs (carries ++ buffers) (length carries + g) (Net (GlobalOut g))
          (At_right carries buffers g (Net (GlobalOut g)) (At_map (λ g. Net (GlobalOut g)) (range_with_len 0 (length d.globals)) g g (range_at (length d.globals) g lt))),
    )
    | inr le ↦ inr (ap (λ o. present (option_map_or (λ root. net root ∷ []) o [])) (slice_get_past d.globals g le))
  ]

  -- a node that has a value with some number of steps has it with as many as there are nodes and one more
  pub level_there : (n : Node) (x : Bool) → HasValue system n x → value system (count_nodes d + 1) n ≡ Some x
  level_there n x (k, e) = there (listed n)
    where
      there : Has nodes n ⊎ (system.depends n ≡ []) → value system (count_nodes d + 1) n ≡ Some x
      there (inl has) =
          value_at_more system (length nodes + 1) (count_nodes d + 1) n x (enough (length nodes) (count_nodes d) (length d.cells) (length d.globals) (length d.pads) nodes_count refl)
          (value_enough system nodes (λ p q a b. listed q) k n x has e)
      there (inr none) =
          let one : value system 1 n ≡ Some (system.local n []) = ap (λ qs. option_map (system.local n) (all_known (map (λ q. value system 0 q) qs))) none in
          let few : value system (count_nodes d + 1) n ≡ Some (system.local n []) = value_at_more system 1 (count_nodes d + 1) n (system.local n []) (omega arith) one in
          let many : value system (k + (count_nodes d + 1)) n ≡ Some (system.local n []) = value_at_more system 1 (k + (count_nodes d + 1)) n (system.local n []) (omega arith) one in
          let same : value system (k + (count_nodes d + 1)) n ≡ Some x = value_at_more system k (k + (count_nodes d + 1)) n x (omega arith) e in
          few ∙ sym many ∙ same

  pub level_is : (n : Node) (x : Bool) → HasValue system n x → node_level d levels kept n ≡ x
  level_is n x has = ap (λ o. unwrap_or o false) (level_there n x has)

-- where all nodes have a value, levels meet the equations of nodes
module _ (d : Design) (values : HasValues d) (levels kept : List Bool) where
  abbrev s : System Node Bool
  s = system_of d levels kept

  abbrev v : Node → Bool
  v n = node_level d levels kept n

  has_level : (n : Node) → value s (count_nodes d + 1) n ≡ Some (v n)
  has_level n = let each = values.each levels kept n in each.1 ∙ ap Some (sym (ap (λ o. unwrap_or o false) each.1))

  pub level_meets : (n : Node) → v n ≡ node_makes d levels kept n (map (reading false v) (node_reads d n))
  level_meets n =
      let more : value s (suc (count_nodes d + 1)) n ≡ Some (v n) = value_suc s (count_nodes d + 1) n (v n) (has_level n) in
      let step : value s (suc (count_nodes d + 1)) n ≡ Some (s.local n (map v (s.depends n))) = value_step s v (count_nodes d + 1) n (λ q has. has_level q) in
      same_Some (v n) (s.local n (map v (s.depends n))) (sym more ∙ step) ∙ local_gapped (node_reads d) false (node_makes d levels kept) v n

  abbrev pub level_rank : Node → ℕ
  level_rank n = first s (count_nodes d + 1) n

  pub level_falls : (p q : Node) → Has (node_reads d p) (Some q) → level_rank q < level_rank p
  level_falls p q has = values_rank s (count_nodes d + 1) (λ n. values.each levels kept n) p q (present_has (node_reads d p) has.0 q has.1)
