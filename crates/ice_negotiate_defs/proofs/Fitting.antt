-- A route that leads to sinks reaches them, over wires of the graph; and the trees that nets keep, as rounds begin from them.
use Rattle.std.proofs.Common.{◌≡◌, ℕ, zero, suc, ◌+◌, ◌<◌, List, [], ◌∷◌, ◌++◌, Some, length, slice_get, refl, sym, ap, ◌∙◌, subst, arith}
use Rattle.std.proofs.lemmas.Option.{same_Some, slice_get_within}
use Rattle.ice_base.specs.declared.number.RowNo.{RowNo}
use Rattle.ice_base.specs.declared.number.WireNo.{WireNo}
use Rattle.ice_graph.specs.declared.edge.Edge.{Edge}
use Rattle.ice_graph.specs.declared.tree.Tree.{Tree}
use Rattle.ice_graph.specs.Network.{Network, AreBetween}
use Rattle.ice_graph.specs.Walks.{IsWalk}
use Rattle.ice_core.specs.declared.net.Net.{Net}
use Rattle.ice_path.specs.Room.{AreWires}
use Rattle.ice_path.proofs.Walking.{walk_more}
use Rattle.ice_base_values.specs.Order.{At, Has}
use Rattle.ice_negotiate_defs.specs.Trees.{AreReached, IsReached, Route}
use Rattle.ice_negotiate_defs.specs.Leading.{AreEnds, Grows, Leads, OpeningLeads}
use Rattle.ice_negotiate_defs.specs.Fitting.{Fits, whole, wholes}
use Rattle.ice_negotiate_defs.specs.declared.kept.Kept.{Kept}
use Rattle.ice_negotiate_defs.specs.declared.kept.Kept.TheVariants.{Whole, Lost, Cut}

row_at : (rows : List RowNo) (n : ℕ) → n < length rows → (row : RowNo) × (slice_get rows n ≡ Some row)
row_at [] n lt = absurd (omega arith)
row_at (row ∷ rows) zero lt = (row, refl)
row_at (row ∷ rows) (suc n) lt = row_at rows n (omega (arith, lt))

module _ (edges : List Edge) (root : WireNo) (route : Route) (grows : Grows edges root route) where
  -- each wire is reached, since each row comes out of an earlier wire
  reached_below : (bound i : ℕ) (w : WireNo) → i < bound → At route.wires i w → IsReached edges root w
  reached_below zero i w lt at = absurd (omega arith)
  reached_below (suc bound) zero w lt at = ([], ap (λ (v : WireNo). v.0) (same_Some root w (sym grows.starts ∙ at)))
  reached_below (suc bound) (suc i) w lt at =
      let there = slice_get_within route.wires (suc i) w at in
      let row = row_at route.rows i (omega (arith, there, grows.long)) in
      let one : i + 1 ≡ suc i = omega arith in
      let step = grows.grows i row.0 w row.1 (ap (slice_get route.wires) one ∙ at) in
      let before = reached_below bound step.4.0 step.0.from (omega (arith, step.4.1, lt)) step.4.2 in
      (before.0 ++ step.0 ∷ [], subst (λ (v : WireNo). IsWalk edges root.0 (before.0 ++ step.0 ∷ []) v.0) step.3 (walk_more edges root.0 step.0.from.0 before.0 step.0 before.1 step.1 refl))

  pub wire_reached : (i : ℕ) (w : WireNo) → At route.wires i w → IsReached edges root w
  wire_reached i w at = reached_below (suc i) i w (omega arith) at

end_at : (sinks : List (List WireNo)) (ends wires : List WireNo) → AreEnds sinks ends wires → (k : ℕ) (targets : List WireNo) → slice_get sinks k ≡ Some targets → (t : WireNo) × Has targets t × Has wires t
end_at [] ends wires are k targets at = absurd (cc)
end_at (first ∷ sinks) [] wires are k targets at = absurd are
end_at (first ∷ sinks) (t ∷ ends) wires are zero targets at = (let same : first ≡ targets = same_Some first targets at in (t, subst (λ ts. Has ts t) same are.0, are.1))
end_at (first ∷ sinks) (t ∷ ends) wires are (suc k) targets at = end_at sinks ends wires are.2 k targets at

pub leads_reached : (edges : List Edge) (root : WireNo) (sinks : List (List WireNo)) (route : Route) → Leads edges root sinks route → AreReached edges root sinks
leads_reached edges root sinks route leads k targets at =
    let e = end_at sinks leads.ends route.wires leads.are_ends k targets at in
    (e.1.0, e.0, e.1.1, wire_reached edges root route leads.growing e.2.0 e.0 e.2.1)

-- and its wires are wires of the graph
pub leads_within : (graph : Network) (root : WireNo) (sinks : List (List WireNo)) (route : Route) → AreBetween graph.wires graph.edges → root.0 < graph.wires → Leads graph.edges root sinks route → AreWires graph.wires route.wires
leads_within graph root sinks route between low leads zero w at = subst (λ (v : WireNo). v.0 < graph.wires) (same_Some root w (sym leads.growing.starts ∙ at)) low
leads_within graph root sinks route between low leads (suc i) w at =
    let there = slice_get_within route.wires (suc i) w at in
    let row = row_at route.rows i (omega (arith, there, leads.growing.long)) in
    let one : i + 1 ≡ suc i = omega arith in
    let step = leads.growing.grows i row.0 w row.1 (ap (slice_get route.wires) one ∙ at) in
    subst (λ (v : WireNo). v.0 < graph.wires) step.3 (between step.1.0 step.0 step.1.1).1

-- ---- the trees that nets keep, as rounds begin from them
whole_is : (one : Kept) (tree : Tree) → whole one ≡ Some tree → one ≡ Whole tree
whole_is (Whole its) tree e = ap Whole (same_Some its tree e)
whole_is (Lost wire) tree e = absurd (cc)
whole_is (Cut wire) tree e = absurd (cc)

pub whole_at : (kept : List Kept) (n : ℕ) (tree : Tree) → slice_get (wholes kept) n ≡ Some (Some tree) → slice_get kept n ≡ Some (Whole tree)
whole_at [] n tree at = absurd (cc)
whole_at (one ∷ kept) zero tree at = ap Some (whole_is one tree (same_Some (whole one) (Some tree) at))
whole_at (one ∷ kept) (suc n) tree at = whole_at kept n tree at

pub wholes_long : (kept : List Kept) → length (wholes kept) ≡ length kept
wholes_long [] = refl
wholes_long (one ∷ kept) = ap suc (wholes_long kept)

pub fits_lead : (graph : Network) (nets : List Net) (kept : List Kept) → Fits graph nets kept → OpeningLeads graph nets (Some (wholes kept))
fits_lead graph nets kept fits n net tree at here = fits.lead n net tree at (whole_at kept n tree here)
