-- What the first round begins with.
use Rattle.std.proofs.Common.{◌≡◌, ℕ, zero, suc, ◌+◌, ◌<◌, List, [], ◌∷◌, ◌++◌, Some, length, slice_get, refl, sym, ap, ◌∙◌, subst, arith, inl, inr}
use Rattle.std.proofs.lemmas.Bool.{cases_eq}
use Rattle.ice_base.specs.declared.number.NetNo.{NetNo}
use Rattle.ice_graph.specs.declared.tree.Tree.{Tree}
use Rattle.ice_negotiate_defs.specs.Rounds.{AreAll, AreBare}

pub all_none : AreAll 0 []
all_none = record { long = refl; each = λ k lt. absurd (omega arith) }

last_net : (list : List NetNo) (x : NetNo) → slice_get (list ++ x ∷ []) (length list) ≡ Some x
last_net [] x = refl
last_net (y ∷ list) x = last_net list x

earlier_net : (list : List NetNo) (x : NetNo) (k : ℕ) → k < length list → slice_get (list ++ x ∷ []) k ≡ slice_get list k
earlier_net [] x k lt = absurd (omega arith)
earlier_net (y ∷ list) x zero lt = refl
earlier_net (y ∷ list) x (suc k) lt = earlier_net list x k (omega arith)

length_nets : (list : List NetNo) (x : NetNo) → length (list ++ x ∷ []) ≡ suc (length list)
length_nets [] x = refl
length_nets (y ∷ list) x = ap suc (length_nets list x)

pub all_more : (n : ℕ) (list : List NetNo) → AreAll n list → AreAll (n + 1) (list ++ record { 0 = n } ∷ [])
all_more n list h =
    let long = h.long in
    record {
      long = (let e = length_nets list (record { 0 = n }) in omega arith);
      each = λ k lt. elim (cases_eq k n) [
        | inl same ↦ ap (slice_get (list ++ record { 0 = n } ∷ [])) (same ∙ sym h.long) ∙ (last_net list (record { 0 = n }) ∙ ap (λ x. Some (record { 0 = x })) (sym same))
        | inr other ↦ (let less : k < n = grind arith in earlier_net list (record { 0 = n }) k (omega arith) ∙ h.each k less)
      ];
    }

pub bare_none : AreBare []
bare_none = λ k tree at. absurd (cc)

pub bare_more : (trees : List Tree) (new : Tree) → new.wires.items ≡ [] → AreBare trees → AreBare (trees ++ new ∷ [])
bare_more [] new is h zero tree at = (let same : new ≡ tree = (cc) in subst (λ (x : Tree). x.wires.items ≡ []) same is)
bare_more [] new is h (suc k) tree at = absurd (cc)
bare_more (t ∷ trees) new is h zero tree at = h zero tree at
bare_more (t ∷ trees) new is h (suc k) tree at = bare_more trees new is (λ j u got. h (suc j) u got) k tree at
