-- What is so of all signals of a list, as the list is gone over.
use Rattle.std.proofs.Common.{ℕ, ◌+◌, ◌<◌, ◌≤◌, List, length, take, Option, All, get_or, subst}
use Rattle.std.proofs.lemmas.List.{take_all}
use Rattle.std.proofs.lemmas.List.Elements.{All-more, All-get_or}
use Rattle.ice_base.specs.declared.number.SignalNo.{SignalNo}
use Rattle.ice_net.specs.Formed.{IsBelow, IsPresent}

pub below_seen : (n : ℕ) (list : List (Option SignalNo)) (i : ℕ) (d : Option SignalNo) → i < length list → All (IsBelow n) (take i list) → IsBelow n (get_or list i d) → All (IsBelow n) (take (i + 1) list)
below_seen n list i d lt so_far here = All-more (IsBelow n) list i d lt so_far here

pub below_all : (n : ℕ) (list : List (Option SignalNo)) (i : ℕ) → length list ≤ i → All (IsBelow n) (take i list) → All (IsBelow n) list
below_all n list i le all = subst (All (IsBelow n)) (take_all i list le) all

pub not_below : (n : ℕ) (list : List (Option SignalNo)) (i : ℕ) (d : Option SignalNo) → i < length list → (IsBelow n (get_or list i d) → ⊥) → All (IsBelow n) list → ⊥
not_below n list i d lt never all = never (All-get_or (IsBelow n) list i d lt all)

pub present_seen : (n : ℕ) (list : List (Option SignalNo)) (i : ℕ) (d : Option SignalNo) → i < length list → All (IsPresent n) (take i list) → IsPresent n (get_or list i d) → All (IsPresent n) (take (i + 1) list)
present_seen n list i d lt so_far here = All-more (IsPresent n) list i d lt so_far here

pub present_all : (n : ℕ) (list : List (Option SignalNo)) (i : ℕ) → length list ≤ i → All (IsPresent n) (take i list) → All (IsPresent n) list
present_all n list i le all = subst (All (IsPresent n)) (take_all i list le) all

pub not_present : (n : ℕ) (list : List (Option SignalNo)) (i : ℕ) (d : Option SignalNo) → i < length list → (IsPresent n (get_or list i d) → ⊥) → All (IsPresent n) list → ⊥
not_present n list i d lt never all = never (All-get_or (IsPresent n) list i d lt all)
