-- The usable rows of a chip as switches.
use Rattle.std.proofs.Common.{◌≡◌, ℕ, suc, ◌+◌, Bool, true, false, cond, Some, List, [], ◌∷◌, inl, inr, refl, sym, ap, ◌∙◌, subst, arith}
use Rattle.std.specs.Prelude.{◌&&◌, option_map}
use Rattle.std.proofs.lemmas.Bool.{and_parts}
use Rattle.ice_base_values.specs.Order.{At, Has}
use Rattle.ice_base_values.proofs.Members.{Has_none, Has_cases}
use Rattle.ice_base_values.proofs.Together.{Has_head, Has_tail}
use Rattle.ice_graph.specs.declared.edge.Edge.{Edge}
use Rattle.ice_chip.specs.Database.{Parts, SwitchRow, SwitchGroup}
use Rattle.ice_chip_laws.specs.Groups.{HasRows}
use Rattle.ice_decode.specs.declared.driver.Switch.{Switch}
use Rattle.ice_decode.specs.Drivers.{switch}
use Rattle.ice_decode.proofs.Members.{Has_append_cases}
use Rattle.ice_bits_rows.specs.Sound.{is_sound}
use Rattle.ice_bits_rows.specs.Usable.{is_usable}
use Rattle.ice_bits_rows.specs.WireNames.{may_leave, may_enter}
use Rattle.ice_fabric.specs.Edges.{edge, edges_of, edges_from, usable_rows}
use Rattle.ice_graph.specs.Walks.{HasEdge}
use Rattle.ice_emit_rows_laws.specs.Wanted.{IsRowOf}
use Rattle.ice_emit_defs.specs.Links.{switch_of_row, switch_numbered, tree_switch}

-- ---- edges of groups
row_of_edge : (parts : Parts) (g : SwitchGroup) (n : ℕ) (rows : List SwitchRow) (e : Edge) → Has (edges_of parts g n rows) e
    → (k : ℕ) × (r : SwitchRow) × At rows k r × (is_usable parts g (n + k) r ≡ true) × (e ≡ edge g (n + k) r)
row_of_edge parts g n [] e has = absurd (Has_none e has)
row_of_edge parts g n (r ∷ rows) e has = by (is_usable parts g n r) refl has (row_of_edge parts g (n + 1) rows e)
  where
    here : n ≡ n + 0
    here = omega arith

    more : ((k : ℕ) × (q : SwitchRow) × At rows k q × (is_usable parts g (n + 1 + k) q ≡ true) × (e ≡ edge g (n + 1 + k) q))
        → (k : ℕ) × (q : SwitchRow) × At (r ∷ rows) k q × (is_usable parts g (n + k) q ≡ true) × (e ≡ edge g (n + k) q)
    more got =
        let same : n + 1 + got.0 ≡ n + suc got.0 = omega arith in
        (suc got.0, got.1, got.2, subst (λ (m : ℕ). is_usable parts g m got.1 ≡ true) same got.3, subst (λ (m : ℕ). e ≡ edge g m got.1) same got.4)

    by : (b : Bool) → is_usable parts g n r ≡ b → Has (cond b (edge g n r ∷ edges_of parts g (n + 1) rows) (edges_of parts g (n + 1) rows)) e
        → (Has (edges_of parts g (n + 1) rows) e → (k : ℕ) × (q : SwitchRow) × At rows k q × (is_usable parts g (n + 1 + k) q ≡ true) × (e ≡ edge g (n + 1 + k) q))
        → (k : ℕ) × (q : SwitchRow) × At (r ∷ rows) k q × (is_usable parts g (n + k) q ≡ true) × (e ≡ edge g (n + k) q)
    by true is h later = elim (Has_cases (edge g n r) e (edges_of parts g (n + 1) rows) h) [
      | inl same ↦ (0, r, refl, subst (λ (m : ℕ). is_usable parts g m r ≡ true) here is, subst (λ (m : ℕ). e ≡ edge g m r) here (sym same))
      | inr rest ↦ more (later rest)
    ]
    by false is h later = more (later h)

group_of_edge : (parts : Parts) (groups : List SwitchGroup) (e : Edge) → Has (edges_from parts groups) e
    → (g : SwitchGroup) × Has groups g × ((k : ℕ) × (r : SwitchRow) × At g.rows k r × (is_usable parts g (g.first + k) r ≡ true) × (e ≡ edge g (g.first + k) r))
group_of_edge parts [] e has = absurd (Has_none e has)
group_of_edge parts (g ∷ groups) e has = elim (Has_append_cases (edges_of parts g g.first g.rows) (edges_from parts groups) e has) [
  | inl here ↦ (g, Has_head g groups, row_of_edge parts g g.first g.rows e here)
  | inr there ↦ let got = group_of_edge parts groups e there in (got.0, Has_tail g got.0 groups got.1, got.2)
]

-- the switch is the usable row that the edge is
pub record IsSwitchOf (parts : Parts) (e : Edge) (s : Switch) : Type 0 where
  pub group : SwitchGroup
  pub row_in : SwitchRow
  pub is_row : IsRowOf parts s group row_in
  pub sound : is_sound parts group s.row.0 row_in ≡ true
  pub numbered : tree_switch parts e.row ≡ Some s
  pub row : s.row ≡ e.row
  pub source : s.source ≡ e.from
  pub target : s.target ≡ e.to
  pub leave : may_leave parts s.source.0 ≡ true
  pub enter : may_enter parts s.target.0 ≡ true

module _ (parts : Parts) (numbers : HasRows parts) where
  -- the switch of a row by its number
  pub numbered_switch : (g : SwitchGroup) (k : ℕ) (r : SwitchRow) → Has parts.groups g → At g.rows k r → switch_numbered parts (g.first + k) ≡ Some (switch g (g.first + k) r)
  numbered_switch g k r in_groups in_rows = ap (option_map (switch_of_row (g.first + k))) (numbers.numbered g k r in_groups in_rows)

  pub usable_switch : (e : Edge) → HasEdge (usable_rows parts) e → (s : Switch) × IsSwitchOf parts e s
  usable_switch e has =
      let got = group_of_edge parts parts.groups e has in
      let g : SwitchGroup = got.0 in
      let n : ℕ = g.first + got.2.0 in
      let r : SwitchRow = got.2.1 in
      let two = and_parts (is_sound parts g n r && may_leave parts r.source) (may_enter parts g.wire) got.2.3 in
      let sound = and_parts (is_sound parts g n r) (may_leave parts r.source) two.0 in
      let edges : edge g n r ≡ e = sym got.2.4 in (
        switch g n r,
        record {
          group = g;
          row_in = r;
          is_row = record { in_groups = got.1; place = got.2.0; in_rows = got.2.2; number = refl; tile = refl; source = refl; target = refl };
          sound = sound.0;
          numbered = ap (λ (x : Edge). tree_switch parts x.row) (sym edges) ∙ numbered_switch g got.2.0 r got.1 got.2.2;
          row = ap (λ (x : Edge). x.row) edges;
          source = ap (λ (x : Edge). x.from) edges;
          target = ap (λ (x : Edge). x.to) edges;
          leave = sound.1;
          enter = two.1;
        },
      )
