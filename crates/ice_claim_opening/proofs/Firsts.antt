-- The lists of wires of the trees that nets get at first.
use Rattle.std.proofs.Common.{◌≡◌, ℕ, zero, suc, ◌+◌, ◌≤◌, ◌<◌, List, [], ◌∷◌, ◌++◌, Some, get_or, length, length-append, map, slice_get, take, refl, sym, ap, subst, arith, ◌∙◌}
use Rattle.std.proofs.lemmas.Option.{same_Some, slice_get_within}
use Rattle.std.proofs.lemmas.List.{take_more}
use Rattle.std.proofs.Math.Path.{fun_ext}
use Rattle.std.specs.List.{AllByRecursion}
use Rattle.ice_base_values.specs.Order.{Has}
use Rattle.ice_graph.specs.declared.tree.Tree.{Tree}
use Rattle.ice_graph.specs.Network.{Network}
use Rattle.ice_core.specs.declared.net.Net.{Net}
use Rattle.ice_core.specs.declared.prices.Prices.{Prices}
use Rattle.ice_core.specs.Congestion.{price}
use Rattle.ice_core.specs.Routes.{numbers, times, wires_of}
use Rattle.ice_claim.specs.Rule.{AreLists}
use Rattle.ice_negotiate_defs.specs.Rounds.{AreNets}
use Rattle.ice_negotiate_defs.specs.Trees.{AreSinks, IsTree, AreOnce, AreReached, IsRooted, route_of}
use Rattle.ice_negotiate_defs.specs.declared.kept.Kept.{Kept}
use Rattle.ice_negotiate_defs.specs.declared.kept.Kept.TheVariants.{Whole, Lost, Cut}
use Rattle.ice_negotiate_defs.proofs.Wires.{numbered, once_times}
use Rattle.ice_claim_opening.specs.Opened.{IsAtOne}
use Rattle.ice_claim_opening.specs.First.{AreFirst, IsFirst, wires_by_number}
use Rattle.ice_claim_opening.proofs.Wires.{numbers_within, times_has}

-- the tree in prices that are all 1
pub at_one : (graph : Network) (net : Net) (prices : Prices) (tree : Tree) → ((w : ℕ) → price prices w ≡ 1) → IsTree graph.edges (price prices) net.root net.sinks.items (route_of tree) → AreReached graph.edges net.root net.sinks.items → IsAtOne graph net tree
at_one graph net prices tree one is reached = record { joined = subst (λ f. IsTree graph.edges f net.root net.sinks.items (route_of tree)) (fun_ext one) is; reached = reached }

pub first_whole : (graph : Network) (net : Net) (prices : Prices) (tree : Tree) → ((w : ℕ) → price prices w ≡ 1) → IsTree graph.edges (price prices) net.root net.sinks.items (route_of tree) → AreReached graph.edges net.root net.sinks.items → IsRooted graph net.root tree.wires.items → AreOnce tree.wires.items
    → IsFirst graph net (Whole tree)
first_whole graph net prices tree one is reached rooted once = (at_one graph net prices tree one is reached, rooted, once)

-- one net more
pub first_more : (graph : Network) (nets : List Net) (kept : List Kept) (net : Net) (one : Kept) → AreFirst graph nets kept → IsFirst graph net one → AreFirst graph (nets ++ net ∷ []) (kept ++ one ∷ [])
first_more graph nets kept net one h is = record {
  long = omega (arith, length-append nets (net ∷ []), length-append kept (one ∷ []), h.long);
  each = pushed nets kept h.long h.each;
}
  where
    pushed : (ns : List Net) (ks : List Kept) → length ks ≡ length ns → ((n : ℕ) (a : Net) (b : Kept) → slice_get ns n ≡ Some a → slice_get ks n ≡ Some b → IsFirst graph a b)
        → (n : ℕ) (a : Net) (b : Kept) → slice_get (ns ++ net ∷ []) n ≡ Some a → slice_get (ks ++ one ∷ []) n ≡ Some b → IsFirst graph a b
    pushed [] [] long each zero a b at there = (let net_is : net ≡ a = same_Some net a at in let one_is : one ≡ b = same_Some one b there in subst (λ x. IsFirst graph x b) net_is (subst (IsFirst graph net) one_is is))
    pushed [] [] long each (suc n) a b at there = absurd (cc)
    pushed [] (k ∷ ks) long each n a b at there = absurd (omega arith)
    pushed (m ∷ ns) [] long each n a b at there = absurd (omega arith)
    pushed (m ∷ ns) (k ∷ ks) long each zero a b at there = each zero a b at there
    pushed (m ∷ ns) (k ∷ ks) long each (suc n) a b at there = pushed ns ks (omega (arith, long)) (λ j x y x_at y_at. each (suc j) x y x_at y_at) n a b at there

pub first_none : (graph : Network) → AreFirst graph [] []
first_none graph = record { long = refl; each = λ n net one at there. absurd (let lt = slice_get_within [] n net at in omega (arith, lt)) }

pub first_next : (graph : Network) (nets : List Net) (i : ℕ) (kept after : List Kept) (net : Net) (one : Kept) → i < length nets → net ≡ get_or nets i net → AreFirst graph (take i nets) kept → IsFirst graph net one → after ≡ kept ++ one ∷ [] → AreFirst graph (take (i + 1) nets) after
first_next graph nets i kept after net one lt at h is pushed =
    let more : take (i + 1) nets ≡ take i nets ++ net ∷ [] = take_more nets i net lt ∙ ap (λ (n : Net). take i nets ++ n ∷ []) (sym at) in
    subst (λ (ks : List Kept). AreFirst graph (take (i + 1) nets) ks) (sym pushed) (subst (λ (ns : List Net). AreFirst graph ns (kept ++ one ∷ [])) (sym more) (first_more graph (take i nets) kept net one h is))

-- the net at a place is one of the nets
pub net_there : (graph : Network) (nets : List Net) (i : ℕ) (net : Net) → AreNets graph nets → i < length nets → net ≡ get_or nets i net → (net.root.0 < graph.wires) × AreSinks graph.wires net.sinks.items
net_there graph nets i net h lt at = h i net (get_there nets i lt at)
  where
    get_there : (ns : List Net) (k : ℕ) → k < length ns → net ≡ get_or ns k net → slice_get ns k ≡ Some net
    get_there [] k less is = absurd (omega arith)
    get_there (n ∷ ns) zero less is = ap Some (sym is)
    get_there (n ∷ ns) (suc k) less is = get_there ns k (omega (arith, less)) is

-- ---- the list of a net
pub list_at : (kept : List Kept) (n : ℕ) (one : Kept) → slice_get kept n ≡ Some one → wires_of (map wires_by_number kept) n ≡ wires_by_number one
list_at [] n one at = absurd (cc)
list_at (k ∷ kept) zero one at = ap wires_by_number (same_Some k one at)
list_at (k ∷ kept) (suc n) one at = list_at kept n one at

-- a list that has something is that of a tree
pub tree_at : (kept : List Kept) (n w : ℕ) → 1 ≤ times w (wires_of (map wires_by_number kept) n) → (tree : Tree) × (slice_get kept n ≡ Some (Whole tree)) × Has tree.wires.items (numbered w)
tree_at [] n w some_of = absurd (omega arith)
tree_at (Whole tree ∷ kept) zero w some_of = (tree, refl, times_has tree.wires.items (numbered w) some_of)
tree_at (Lost wire ∷ kept) zero w some_of = absurd (omega arith)
tree_at (Cut wire ∷ kept) zero w some_of = absurd (omega arith)
tree_at (k ∷ kept) (suc n) w some_of = tree_at kept n w some_of

-- what is so of the empty list and of the wires of each first tree is so of each list
each_list : (graph : Network) (nets : List Net) (kept : List Kept) (P : List ℕ → Type 0) → P [] → ((net : Net) (tree : Tree) → IsRooted graph net.root tree.wires.items → AreOnce tree.wires.items → P (numbers tree.wires.items)) → AreFirst graph nets kept
    → (n : ℕ) → P (wires_of (map wires_by_number kept) n)
each_list graph nets kept P none some_tree h n = by_place nets kept n h.long h.each
  where
    of_one : (net : Net) (one : Kept) → IsFirst graph net one → P (wires_by_number one)
    of_one net (Whole tree) is = some_tree net tree is.1 is.2
    of_one net (Lost wire) is = absurd is
    of_one net (Cut wire) is = none

    by_place : (ns : List Net) (ks : List Kept) (i : ℕ) → length ks ≡ length ns → ((j : ℕ) (net : Net) (one : Kept) → slice_get ns j ≡ Some net → slice_get ks j ≡ Some one → IsFirst graph net one) → P (wires_of (map wires_by_number ks) i)
    by_place ns [] i long each = none
    by_place [] (k ∷ ks) i long each = absurd (omega arith)
    by_place (m ∷ ns) (k ∷ ks) zero long each = of_one m k (each zero m k refl refl)
    by_place (m ∷ ns) (k ∷ ks) (suc i) long each = by_place ns ks i (omega (arith, long)) (λ j net one at there. each (suc j) net one at there)

pub map_length : (kept : List Kept) → length (map wires_by_number kept) ≡ length kept
map_length [] = refl
map_length (k ∷ kept) = ap suc (map_length kept)

pub lists_long : (graph : Network) (nets : List Net) (kept : List Kept) → AreFirst graph nets kept → length (map wires_by_number kept) ≡ length nets
lists_long graph nets kept h = map_length kept ∙ h.long

pub first_are_lists : (graph : Network) (nets : List Net) (kept : List Kept) → length nets ≤ 65536 → AreFirst graph nets kept → AreLists graph.wires (map wires_by_number kept)
first_are_lists graph nets kept few h = record {
  few = omega (arith, few, lists_long graph nets kept h);
  within = each_list graph nets kept (AllByRecursion (λ w. w < graph.wires)) tt (λ net tree rooted once. numbers_within graph.wires tree.wires.items rooted.within) h;
  once = λ n w. each_list graph nets kept (λ ws. times w ws ≤ 1) (omega arith) (λ net tree rooted once. once_times tree.wires.items once w) h n;
}
