-- Which tree holds each wire, as it is noted.
use Rattle.std.proofs.Common.{◌≡◌, ℕ, suc, ◌+◌, ◌<◌, Bool, true, false, Option, None, Some, List, [], ◌∷◌, ◌++◌, length, map, drop, drop-cons, get_or, add-one, replicate, refl, ap, sym, ◌∙◌}
use Rattle.std.specs.Prelude.{nat_eq, ◌||◌, option_map, if◌then◌else◌}
use Rattle.std.specs.Option.{option_or}
use Rattle.std.specs.List.{find}
use Rattle.std.proofs.lemmas.List.Folds.{find-append}
use Rattle.ice_base.specs.declared.number.WireNo.{WireNo}
use Rattle.ice_graph.specs.declared.tree.Tree.{Tree}
use Rattle.ice_cells.specs.Tables.{table, is_place, put_at, keep}
use Rattle.ice_cells.proofs.TableLaws.{scattered_kept, table_same}
use Rattle.ice_graph.specs.Leading.{Route, route_of}
use Rattle.ice_emit_nets.specs.Ends.{wire_no}
use Rattle.ice_emit_defs.specs.Arrivals.{holds}
use Rattle.ice_emit.specs.Holding.{Holding, holding, held_wire, holder, noted, tree_holdings, all_holdings}
use Rattle.ice_emit.specs.Routed.{owner_from}

noted_append : (owners : List (Option ℕ)) (a b : List Holding) → noted owners (a ++ b) ≡ noted (noted owners a) b
noted_append owners [] b = refl
noted_append owners (h ∷ a) b = noted_append (put_at (keep holder) None owners h (held_wire h)) a b

-- the next tree
pub next_holdings : (trees : List Tree) (k : ℕ) (tree : Tree) (owners new : List (Option ℕ)) → k < length trees → tree ≡ get_or trees k tree → new ≡ noted owners (tree_holdings k tree.wires.items)
    → noted new (all_holdings (k + 1) (map route_of (drop (k + 1) trees))) ≡ noted owners (all_holdings k (map route_of (drop k trees)))
next_holdings trees k tree owners new lt at e =
    let first : drop k trees ≡ tree ∷ drop (k + 1) trees = drop-cons trees k tree lt ∙ ap (λ (t : Tree). t ∷ drop (suc k) trees) (sym at) ∙ ap (λ n. tree ∷ drop n trees) (sym (add-one k)) in
    ap (λ os. noted os (all_holdings (k + 1) (map route_of (drop (k + 1) trees)))) e
    ∙ sym (noted_append owners (tree_holdings k tree.wires.items) (all_holdings (k + 1) (map route_of (drop (k + 1) trees))))
    ∙ ap (λ n. noted owners (tree_holdings k tree.wires.items ++ all_holdings n (map route_of (drop (k + 1) trees)))) (add-one k)
    ∙ ap (λ ts. noted owners (all_holdings k (map route_of ts))) (sym first)

-- ---- one wire
abbrev is_of : ℕ → Holding → Bool
is_of w h = is_place w (held_wire h)

in_tree : (w n : ℕ) (wires : List WireNo) → option_map holder (find (is_of w) (tree_holdings n wires)) ≡ (if holds wires (Some (wire_no w)) then Some n else None)
in_tree w n [] = refl
in_tree w n (v ∷ wires) = by (nat_eq v.0 w) (in_tree w n wires)
  where
    by : (x : Bool) → option_map holder (find (is_of w) (tree_holdings n wires)) ≡ (if holds wires (Some (wire_no w)) then Some n else None)
        → option_map holder (if x then Some (holding n v) else find (is_of w) (tree_holdings n wires)) ≡ (if (x || holds wires (Some (wire_no w))) then Some n else None)
    by true e = refl
    by false e = e

first_holder : (a b : Option Holding) (x : Bool) (n : ℕ) (rest : Option ℕ) → option_map holder a ≡ (if x then Some n else None) → option_map holder b ≡ rest → option_map holder (option_or a b) ≡ (if x then Some n else rest)
first_holder None b true n rest e f = absurd (cc)
first_holder None b false n rest e f = f
first_holder (Some h) b true n rest e f = e
first_holder (Some h) b false n rest e f = absurd (cc)

in_all : (w n : ℕ) (routes : List Route) → option_map holder (find (is_of w) (all_holdings n routes)) ≡ owner_from n routes w
in_all w n [] = refl
in_all w n (route ∷ routes) =
    ap (option_map holder) (find-append (is_of w) (tree_holdings n route.wires) (all_holdings (suc n) routes))
    ∙ first_holder (find (is_of w) (tree_holdings n route.wires)) (find (is_of w) (all_holdings (suc n) routes)) (holds route.wires (Some (wire_no w))) n (owner_from (suc n) routes w) (in_tree w n route.wires) (in_all w (suc n) routes)

pub owners_are : (routes : List Route) (n : ℕ) (none owners : List (Option ℕ)) → none ≡ replicate n None → owners ≡ noted none (all_holdings 0 routes) → owners ≡ table (owner_from 0 routes) n
owners_are routes n none owners e f =
    f ∙ ap (λ xs. noted xs (all_holdings 0 routes)) e ∙ scattered_kept held_wire holder n (all_holdings 0 routes)
    ∙ table_same (λ w. option_map holder (find (is_of w) (all_holdings 0 routes))) (owner_from 0 routes) n (λ w lt. in_all w 0 routes)
