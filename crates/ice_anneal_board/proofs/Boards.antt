-- Lengths after a change.
use Rattle.std.proofs.Common.{◌≡◌, ℕ, ◌+◌, ◌<◌, ◌≤◌, ◌*◌, ◌⊎◌, inl, inr, List, [], ◌∷◌, length, get_or, set, take, map, nat_eq, suc, Bool, ◌||◌, true, false, sum, sym, refl, subst, ap, ap₂, ◌∙◌, arith}
use Rattle.std.specs.List.{All, Contains, swap}
use Rattle.std.proofs.lemmas.Bool.{cases_eq, eqb-false}
use Rattle.std.proofs.lemmas.Grind.{get_or-set_at}
use Rattle.std.proofs.lemmas.List.{take_more, get_or-set_other}
use Rattle.std.proofs.lemmas.List.Edits.{swapped_from_swap}
use Rattle.std.proofs.lemmas.List.Elements.{Contains-push_cases}
use Rattle.std.proofs.lemmas.List.Sums.{sum_by-le}
use Rattle.std.proofs.lemmas.Option.{same_Some}
use Rattle.ice_base.specs.declared.number.TileAt.{TileAt}
use Rattle.ice_anneal_board.specs.declared.net.Node.{Node}
use Rattle.ice_anneal_board.specs.declared.net.Node.TheVariants.{Cluster, Fixed}
use Rattle.ice_anneal_board.specs.declared.net.NetNodes.{NetNodes}
use Rattle.ice_place_defs.specs.Length.{half_perimeter}
use Rattle.ice_anneal_board.specs.Length.{net_length, wire_length, box_of, tile_of, origin}
use Rattle.ice_anneal_board.specs.declared.board.Board.{Board}
use Rattle.ice_anneal_board.specs.declared.wiring.Touched.{Touched}
use Rattle.ice_anneal_board.specs.declared.wiring.Wiring.{Wiring}
use Rattle.ice_anneal_board.specs.Board.{IsBoard}
use Rattle.ice_anneal_board.specs.Wiring.{At, touches, IsWiring}

is_or_not : (b : Bool) → (b ≡ true) ⊎ (b ≡ false)
is_or_not true = inl refl
is_or_not false = inr refl

-- no length above 131070
pub sum_bound : (xs : List ℕ) → All (λ n. n ≤ 131070) xs → sum xs ≤ 131070 * length xs
sum_bound xs h = let b = sum_by-le (λ x. x) 131070 xs h in omega (arith, b)

-- lengths that are right net by net
pub lists_right : (nets : List NetNodes) (place : List TileAt) (ls : List ℕ) → length ls ≡ length nets
    → ((k : ℕ) (net : NetNodes) → At nets k net → get_or ls k 0 ≡ net_length place net.nodes.items)
    → ls ≡ map (λ net. net_length place net.nodes.items) nets
lists_right [] place [] e h = refl
lists_right [] place (l ∷ ls) e h = absurd (omega arith)
lists_right (n ∷ ns) place [] e h = absurd (omega arith)
lists_right (n ∷ ns) place (l ∷ ls) e h =
    let a : l ≡ net_length place n.nodes.items = h 0 n refl in
    let b = lists_right ns place ls (omega arith) (λ k net at. h (suc k) net at) in
    ap₂ (λ x xs. x ∷ xs) a b

pub total_is : (w : Wiring) (b : Board) → IsBoard w b → b.total ≡ wire_length w.nets.items b.place.items
total_is w b h = h.total ∙ ap sum (lists_right w.nets.items b.place.items b.lengths.items h.counts h.right)

-- one more net measured
pub right_more : (nets : List NetNodes) (place : List TileAt) (touched : List ℕ) (i : ℕ) (start before : List ℕ) (n v : ℕ) (net : NetNodes)
    → i < length touched → n ≡ get_or touched i 0 → At nets n net → v ≡ net_length place net.nodes.items → n < length before
    → ((k : ℕ) (m : NetNodes) → At nets k m → Contains (take i touched) k ⊎ (get_or start k 0 ≡ net_length place m.nodes.items) → get_or before k 0 ≡ net_length place m.nodes.items)
    → (k : ℕ) (m : NetNodes) → At nets k m → Contains (take (i + 1) touched) k ⊎ (get_or start k 0 ≡ net_length place m.nodes.items) → get_or (set before n v) k 0 ≡ net_length place m.nodes.items
right_more nets place touched i start before n v net lt is at value within old k m here h =
    elim (cases_eq k n) [
      | inl e ↦
          let same : m ≡ net = same_Some m net (sym here ∙ subst (λ j. At nets j net) (sym e) at) in
          get_or-set_at before n k v 0 e within ∙ (value ∙ ap (λ (q : NetNodes). net_length place q.nodes.items) (sym same))
      | inr ne ↦ get_or-set_other before n k v 0 ne ∙ old k m here (elim h [
        | inl has ↦ elim (Contains-push_cases (take i touched) (get_or touched i 0) k (subst (λ (l : List ℕ). Contains l k) (take_more touched i 0 lt) has)) [
          | inl a ↦ inl a
          | inr e ↦ absurd (ne (sym (is ∙ e)))
        ]
        | inr s ↦ inr s
      ])
    ]

or_none : (a b : Bool) → (a || b) ≡ false → (a ≡ false) × (b ≡ false)
or_none true b h = absurd (cc)
or_none false b h = (refl, h)

swap_keeps : (place : List TileAt) (c d e : ℕ) → c < length place → d < length place → (e ≡ c → ⊥) → (e ≡ d → ⊥) → get_or place e origin ≡ get_or (swap place c d) e origin
swap_keeps place c d e lc ld nc nd = sym ((swapped_from_swap place (swap place c d) c d origin lc ld refl).2 e nc nd)

-- a net without nodes of the two stays as it is
untouched : (place : List TileAt) (c d : ℕ) (nodes : List Node) → c < length place → d < length place
    → touches c nodes ≡ false → touches d nodes ≡ false
    → map (tile_of place) nodes ≡ map (tile_of (swap place c d)) nodes
untouched place c d [] lc ld tc td = refl
untouched place c d (Fixed t ∷ nodes) lc ld tc td = ap (λ xs. t ∷ xs) (untouched place c d nodes lc ld tc td)
untouched place c d (Cluster e ∷ nodes) lc ld tc td =
    let hc = or_none (nat_eq e c) (touches c nodes) tc in
    let hd = or_none (nat_eq e d) (touches d nodes) td in
    ap₂ (λ x xs. x ∷ xs) (swap_keeps place c d e lc ld (eqb-false e c hc.0) (eqb-false e d hd.0)) (untouched place c d nodes lc ld hc.1 hd.1)

untouched_length : (place : List TileAt) (c d : ℕ) (nodes : List Node) → c < length place → d < length place
    → touches c nodes ≡ false → touches d nodes ≡ false → net_length place nodes ≡ net_length (swap place c d) nodes
untouched_length place c d nodes lc ld tc td = ap (λ tiles. half_perimeter (box_of tiles)) (untouched place c d nodes lc ld tc td)

-- after both clusters' nets are measured
pub exchanged : (w : Wiring) (place : List TileAt) (c d : ℕ) (tc td : Touched) (l0 l1 l2 : List ℕ)
    → c < length place → d < length place → At w.touching.items c tc → At w.touching.items d td → IsWiring (length place) w
    → ((k : ℕ) (m : NetNodes) → At w.nets.items k m → get_or l0 k 0 ≡ net_length place m.nodes.items)
    → ((k : ℕ) (m : NetNodes) → At w.nets.items k m → Contains tc.nets.items k ⊎ (get_or l0 k 0 ≡ net_length (swap place c d) m.nodes.items) → get_or l1 k 0 ≡ net_length (swap place c d) m.nodes.items)
    → ((k : ℕ) (m : NetNodes) → At w.nets.items k m → Contains td.nets.items k ⊎ (get_or l1 k 0 ≡ net_length (swap place c d) m.nodes.items) → get_or l2 k 0 ≡ net_length (swap place c d) m.nodes.items)
    → (k : ℕ) (m : NetNodes) → At w.nets.items k m → get_or l2 k 0 ≡ net_length (swap place c d) m.nodes.items
exchanged w place c d tc td l0 l1 l2 lc ld ac ad wiring old first second k m at =
    elim (is_or_not (touches d m.nodes.items)) [
      | inl y ↦ second k m at (inl (wiring.each d td k m ad at y))
      | inr nd ↦ second k m at (inr (first k m at (elim (is_or_not (touches c m.nodes.items)) [
        | inl y ↦ inl (wiring.each c tc k m ac at y)
        | inr nc ↦ inr (old k m at ∙ untouched_length place c d m.nodes.items lc ld nc nd)
      ])))
    ]
