-- Lists of wires and of trees for the log of a round.
use Rattle.std.proofs.Common.{rules, ◌≡◌, ℕ, ◌+◌, ◌≤◌, ◌<◌, Bool, true, false, cond, List, [], ◌∷◌, ◌++◌, Some, length, drop, get_or, nat_lt, slice_get, slice_index, refl, sym, ap, ◌∙◌, arith, inl, inr}
use Rattle.std.proofs.lemmas.List.{drop_more, drop_all, append_assoc, append-nil}
use Rattle.std.proofs.lemmas.Option.{slice_get-get_or}
use Rattle.ice_base.specs.declared.number.WireNo.{WireNo}
use Rattle.ice_base.specs.declared.number.NetNo.{NetNo}
use Rattle.ice_graph.specs.declared.tree.Tree.{Tree}
use Rattle.ice_negotiate_defs.specs.Trees.{route_of}
use Rattle.ice_negotiate_defs.specs.Logs.{AreTreesOf, beyond}
use Rattle.ice_negotiate_defs.proofs.Listing.{length_push, pushed}

-- with one wire more the list goes on
beyond_step : (least : ℕ) (xs : List ℕ) (i : ℕ) (list all : List (WireNo × ℕ)) (b : Bool) → i < length xs → nat_lt least (slice_index xs i) ≡ b → all ≡ list ++ beyond least i (drop i xs)
    → all ≡ list ++ cond b ((record { 0 = i }, slice_index xs i) ∷ beyond least (i + 1) (drop (i + 1) xs)) (beyond least (i + 1) (drop (i + 1) xs))
beyond_step least xs i list all b lt is h =
    h ∙ ap (λ ys. list ++ beyond least i ys) (drop_more xs i 0 lt) ∙ ap (λ t. list ++ cond t ((record { 0 = i }, slice_index xs i) ∷ beyond least (i + 1) (drop (i + 1) xs)) (beyond least (i + 1) (drop (i + 1) xs))) is

lt_true : (a b : ℕ) → a < b → nat_lt a b ≡ true
lt_true a b lt = search (rules, lt)

lt_false : (a b : ℕ) → b ≤ a → nat_lt a b ≡ false
lt_false a b le = search (rules, le)

pub beyond_yes : (least : ℕ) (xs : List ℕ) (i : ℕ) (list : List (WireNo × ℕ)) → i < length xs → least < slice_index xs i → beyond least 0 xs ≡ list ++ beyond least i (drop i xs)
    → beyond least 0 xs ≡ (list ++ (record { 0 = i }, slice_index xs i) ∷ []) ++ beyond least (i + 1) (drop (i + 1) xs)
beyond_yes least xs i list lt more h = beyond_step least xs i list (beyond least 0 xs) true lt (lt_true least (slice_index xs i) more) h ∙ sym (append_assoc list ((record { 0 = i }, slice_index xs i) ∷ []) (beyond least (i + 1) (drop (i + 1) xs)))

pub beyond_no : (least : ℕ) (xs : List ℕ) (i : ℕ) (list : List (WireNo × ℕ)) → i < length xs → slice_index xs i ≤ least → beyond least 0 xs ≡ list ++ beyond least i (drop i xs)
    → beyond least 0 xs ≡ list ++ beyond least (i + 1) (drop (i + 1) xs)
beyond_no least xs i list lt le h = beyond_step least xs i list (beyond least 0 xs) false lt (lt_false least (slice_index xs i) le) h

pub beyond_all : (least : ℕ) (xs : List ℕ) (i : ℕ) (list : List (WireNo × ℕ)) → length xs ≤ i → beyond least 0 xs ≡ list ++ beyond least i (drop i xs) → list ≡ beyond least 0 xs
beyond_all least xs i list le h = sym (h ∙ ap (λ ys. list ++ beyond least i ys) (drop_all i xs le) ∙ append-nil list)

-- the first i nets stand in the list with their routes
pub record Listed (trees : List Tree) (nets : List NetNo) (i : ℕ) (list : List (NetNo × Tree)) : Type 0 where
  pub long : length list ≡ i
  pub each : (k : ℕ) (net : NetNo) (tree : Tree) → slice_get list k ≡ Some (net, tree)
      → (slice_get nets k ≡ Some net) × ((after : Tree) → slice_get trees net.0 ≡ Some after → route_of tree ≡ route_of after)

pub trees_none : (trees : List Tree) (nets : List NetNo) → Listed trees nets 0 []
trees_none trees nets = record { long = refl; each = λ k net tree at. absurd (cc) }

pub trees_more : (trees : List Tree) (nets : List NetNo) (i : ℕ) (list : List (NetNo × Tree)) (d : NetNo) (old copy : Tree) → i < length nets → slice_get trees (get_or nets i d).0 ≡ Some old → route_of copy ≡ route_of old
    → Listed trees nets i list → Listed trees nets (i + 1) (list ++ (get_or nets i d, copy) ∷ [])
trees_more trees nets i list d old copy lt at same h =
    let long = h.long in
    record {
      long = (let e = length_push list (get_or nets i d, copy) in omega arith);
      each = λ k net tree got. elim (pushed list (get_or nets i d, copy) k (net, tree) got) [
        | inl before ↦ h.each k net tree before
        | inr new ↦
            (let net_is : get_or nets i d ≡ net = ap (λ (x : NetNo × Tree). x.0) new.1 in
            let tree_is : copy ≡ tree = ap (λ (x : NetNo × Tree). x.1) new.1 in
            let place : k ≡ i = new.0 ∙ h.long in (
              ap (slice_get nets) place ∙ (slice_get-get_or nets i d lt ∙ ap Some net_is),
              λ after after_at. (let both : Some old ≡ Some after = sym at ∙ (ap (λ (x : NetNo). slice_get trees x.0) net_is ∙ after_at) in let is : old ≡ after = (cc) in
                  ap route_of (sym tree_is) ∙ (same ∙ ap route_of is)),
            ))
      ];
    }

pub trees_all : (trees : List Tree) (nets : List NetNo) (i : ℕ) (list : List (NetNo × Tree)) → i ≡ length nets → Listed trees nets i list → AreTreesOf trees nets list
trees_all trees nets i list same h = record { long = h.long ∙ same; each = h.each }
