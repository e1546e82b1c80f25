-- The wires of a tree, from its root on.
use Rattle.std.proofs.Common.{◌≡◌, ℕ, zero, suc, ◌≤◌, ◌<◌, List, [], ◌∷◌, refl, sym, ◌∙◌, subst, arith, add-one}
use Rattle.std.proofs.lemmas.Option.{none-some, same_Some, slice_get_within}
use Rattle.ice_base.specs.declared.number.RowNo.{RowNo}
use Rattle.ice_base.specs.declared.number.WireNo.{WireNo}
use Rattle.ice_base_values.specs.Order.{At, Has}
use Rattle.ice_graph.specs.declared.edge.Edge.{Edge}
use Rattle.ice_decode.specs.declared.driver.Switch.{Switch}
use Rattle.ice_graph.specs.Walks.{HasEdge}
use Rattle.ice_graph.specs.Leading.{Route}
use Rattle.ice_graph.specs.Leading.{Grows, AreEnds}
use Rattle.ice_emit_defs.specs.Led.{LeadFrom, Here, ByRow}
use Rattle.ice_emit_led_laws.proofs.Roots.{at_below}

-- the row by which a wire of a tree is entered, and the wire that the row leaves, which stands before it
pub record IsEntered (edges : List Edge) (route : Route) (j : ℕ) (w : WireNo) : Type 0 where
  pub row : RowNo
  pub row_is : At route.rows j row
  pub edge : Edge
  pub there : HasEdge edges edge
  pub same_row : edge.row ≡ row
  pub to : edge.to ≡ w
  pub place : ℕ
  pub before : place ≤ j
  pub from : At route.wires place edge.from

module _ (edges : List Edge) (root : WireNo) (route : Route) (growing : Grows edges root route) where
  pub entered : (j : ℕ) (w : WireNo) → At route.wires (suc j) w → IsEntered edges route j w
  entered j w at =
      let row = at_below route.rows j (let a = slice_get_within route.wires (suc j) w at in let b = growing.long in omega (arith, a, b)) in
      let got = growing.grows j row.0 w row.1 (subst (λ (n : ℕ). At route.wires n w) (sym (add-one j)) at) in
      record { row = row.0; row_is = row.1; edge = got.0; there = got.1; same_row = got.2; to = got.3; place = got.4.0; before = got.4.1; from = got.4.2 }

  module _ (wanted : List Switch) (on : (e : Edge) → HasEdge edges e → Has route.rows e.row → (s : Switch) × Has wanted s × (s.source ≡ e.from) × (s.target ≡ e.to)) where
    led_at : (bound i : ℕ) (w : WireNo) → i < bound → At route.wires i w → LeadFrom wanted w root
    led_at zero i w lt at = absurd (omega arith)
    led_at (suc bound) zero w lt at = subst (λ (v : WireNo). LeadFrom wanted v root) (same_Some root w (sym growing.starts ∙ at)) (Here root)
    led_at (suc bound) (suc j) w lt at =
        let e = entered j w at in
        let s = on e.edge e.there (j, subst (λ (r : RowNo). At route.rows j r) (sym e.same_row) e.row_is) in
        let before = led_at bound e.place e.edge.from (let b = e.before in omega (arith, b, lt)) e.from in
        subst (λ (v : WireNo). LeadFrom wanted v root) (s.3 ∙ e.to) (ByRow s.0 root s.1 (subst (λ (v : WireNo). LeadFrom wanted v root) (sym s.2) before))

    -- rows that are on lead to each wire of a tree from its root
    pub tree_leads : (w : WireNo) → Has route.wires w → LeadFrom wanted w root
    tree_leads w has = led_at (suc has.0) has.0 w (omega arith) has.1

-- ---- ends
-- each end is a target of a sink that the tree holds
pub end_is : (sinks : List (List WireNo)) (ends wires : List WireNo) (w : WireNo) → AreEnds sinks ends wires → Has ends w → (k : ℕ) × (targets : List WireNo) × At ends k w × At sinks k targets × Has targets w
end_is [] [] wires w are has = absurd (none-some w has.1)
end_is [] (t ∷ ends) wires w are has = absurd are
end_is (targets ∷ sinks) [] wires w are has = absurd are
end_is (targets ∷ sinks) (t ∷ ends) wires w are (zero, at) = (0, targets, at, refl, subst (Has targets) (same_Some t w at) are.0)
end_is (targets ∷ sinks) (t ∷ ends) wires w are (suc i, at) = let got = end_is sinks ends wires w are.2 (i, at) in (suc got.0, got.1, got.2, got.3, got.4)

-- each sink has an end
pub sink_has : (sinks : List (List WireNo)) (ends wires : List WireNo) (k : ℕ) (targets : List WireNo) → AreEnds sinks ends wires → At sinks k targets → (w : WireNo) × At ends k w × Has targets w × Has wires w
sink_has [] ends wires k targets are at = absurd (none-some targets at)
sink_has (x ∷ sinks) [] wires k targets are at = absurd are
sink_has (x ∷ sinks) (t ∷ ends) wires zero targets are at = (t, refl, subst (λ (ts : List WireNo). Has ts t) (same_Some x targets at) are.0, are.1)
sink_has (x ∷ sinks) (t ∷ ends) wires (suc k) targets are at = let got = sink_has sinks ends wires k targets are.2 at in (got.0, got.1, got.2, got.3)
