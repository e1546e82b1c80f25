-- Tasks are listed one by one.
use Rattle.std.proofs.Common.{◌≡◌, ℕ, ◌+◌, ◌<◌, List, [], ◌∷◌, ◌++◌, Some, length, take, get_or, slice_get, sym, ap, ◌∙◌, subst, arith, inl, inr}
use Rattle.std.proofs.lemmas.List.{take_more}
use Rattle.std.proofs.lemmas.Option.{slice_get_within}
use Rattle.ice_base.specs.declared.number.NetNo.{NetNo}
use Rattle.ice_graph.specs.declared.tree.Tree.{Tree}
use Rattle.ice_core.specs.declared.net.Net.{Net}
use Rattle.ice_core.specs.declared.task.Task.{Task}
use Rattle.ice_core.proofs.Counting.{some_same}
use Rattle.ice_negotiate_defs.proofs.Listing.{length_push, pushed}
use Rattle.ice_negotiate_round.specs.Moving.{AreTasksOf, IsTaskFor}

module _ (nets : List Net) (trees : List Tree) where
  one_more : (front : List NetNo) (tasks : List Task) (number : NetNo) (net : Net) (tree : Tree) (task : Task) → slice_get nets number.0 ≡ Some net → slice_get trees number.0 ≡ Some tree → IsTaskFor net tree number task
      → AreTasksOf nets trees front tasks → AreTasksOf nets trees (front ++ number ∷ []) (tasks ++ task ∷ [])
  one_more front tasks number net tree task net_at tree_at is h = record {
    long = omega (arith, h.long, length_push tasks task, length_push front number);
    each = λ k other its_net its_tree its_task moved_at its_net_at its_tree_at task_at. elim (pushed tasks task k its_task task_at) [
      | inl old ↦ elim (pushed front number k other moved_at) [
        | inl before ↦ h.each k other its_net its_tree its_task before its_net_at its_tree_at old
        | inr end ↦ absurd (let lt = slice_get_within tasks k its_task old in omega (arith, h.long, end.0))
      ]
      | inr end ↦ elim (pushed front number k other moved_at) [
        | inl before ↦ absurd (let lt = slice_get_within front k other before in omega (arith, h.long, end.0))
        | inr also ↦
            (let same_net : net ≡ its_net = some_same nets number.0 net its_net net_at (ap (λ (n : NetNo). slice_get nets n.0) also.1 ∙ its_net_at) in
            let same_tree : tree ≡ its_tree = some_same trees number.0 tree its_tree tree_at (ap (λ (n : NetNo). slice_get trees n.0) also.1 ∙ its_tree_at) in
            subst (λ (n : NetNo). IsTaskFor its_net its_tree n its_task) also.1
            (subst (IsTaskFor its_net its_tree number) end.1 (subst (λ (t : Tree). IsTaskFor its_net t number task) same_tree (subst (λ (n : Net). IsTaskFor n tree number task) same_net is))))
      ]
    ];
  }

  pub tasks_none : (items : List Task) → items ≡ [] → AreTasksOf nets trees [] items
  tasks_none items none = record {
    long = ap length none;
    each = λ k number net tree task moved_at. absurd (let nobody : List NetNo = [] in let lt : k < 0 = slice_get_within nobody k number moved_at in omega arith);
  }

  pub tasks_more : (moved : List NetNo) (tasks items : List Task) (i : ℕ) (d : NetNo) (net : Net) (tree : Tree) (task : Task) → i < length moved → slice_get nets (get_or moved i d).0 ≡ Some net → slice_get trees (get_or moved i d).0 ≡ Some tree
      → IsTaskFor net tree (get_or moved i d) task → items ≡ tasks ++ task ∷ [] → AreTasksOf nets trees (take i moved) tasks → AreTasksOf nets trees (take (i + 1) moved) items
  tasks_more moved tasks items i d net tree task lt net_at tree_at is are h =
      subst (λ (ts : List Task). AreTasksOf nets trees (take (i + 1) moved) ts) (sym are)
      (subst (λ (ns : List NetNo). AreTasksOf nets trees ns (tasks ++ task ∷ [])) (sym (take_more moved i d lt)) (one_more (take i moved) tasks (get_or moved i d) net tree task net_at tree_at is h))
