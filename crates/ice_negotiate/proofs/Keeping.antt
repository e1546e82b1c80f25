-- What the first round begins with where nets keep trees.
use Rattle.std.proofs.Common.{◌≡◌, ℕ, zero, suc, ◌+◌, ◌≤◌, ◌<◌, ◌⊎◌, Bool, true, false, List, [], ◌∷◌, ◌++◌, Option, None, Some, length, drop, option_map, slice_get, refl, sym, ap, ◌∙◌, subst, arith, inl, inr}
use Rattle.std.proofs.lemmas.List.{drop_more, drop_all, append_assoc, append-nil}
use Rattle.std.proofs.lemmas.Option.{get_or_from_slice_get, slice_get-map, slice_get_within}
use Rattle.ice_base.specs.declared.number.NetNo.{NetNo}
use Rattle.ice_graph.specs.declared.tree.Tree.{Tree}
use Rattle.ice_graph.specs.Network.{Network, AreBetween as AreWithinGraph}
use Rattle.ice_core.specs.declared.net.Net.{Net}
use Rattle.ice_core.specs.Moves.{AreBelow, AreWithin}
use Rattle.ice_negotiate_defs.specs.Trees.{Route, AreOnce as AreWiresOnce, route_of}
use Rattle.ice_negotiate_defs.specs.Rounds.{AreDifferent, AreNets, BeginsWith, HoldOnce, IsBegun, IsOneOf, kept_from, left_from}
use Rattle.ice_negotiate_defs.specs.Fitting.{Fits, is_whole, whole, wholes}
use Rattle.ice_negotiate_defs.specs.declared.kept.Kept.{Kept}
use Rattle.ice_negotiate_defs.specs.declared.kept.Kept.TheVariants.{Whole, Lost, Cut}
use Rattle.ice_negotiate_defs.proofs.Fitting.{leads_reached, leads_within, whole_at, wholes_long}
use Rattle.ice_negotiate_defs.proofs.Listing.{length_push, pushed, there_at}
use Rattle.ice_negotiate_defs.proofs.Openings.{left_or_kept}
use Rattle.ice_negotiate_defs.proofs.Rounding.{some_same}
use Rattle.ice_negotiate.specs.Progress.{MoveAtFirst, Rise}
use Rattle.ice_negotiate.proofs.Rounding.{AreBetween, AreOnce, once_first, with_first}

-- ---- the numbers of the nets that keep a tree, and of the others, one net after another
abbrev numbered : ℕ → NetNo
numbered n = record { 0 = n }

rest_at : (kept : List Kept) (i : ℕ) (one : Kept) → slice_get kept i ≡ Some one → drop i kept ≡ one ∷ drop (i + 1) kept
rest_at kept i one at = drop_more kept i one (slice_get_within kept i one at) ∙ ap (λ x. x ∷ drop (i + 1) kept) (get_or_from_slice_get kept i one one at)

left_whole : (i : ℕ) (one : Kept) (rest : List Kept) → is_whole one ≡ true → left_from i (wholes (one ∷ rest)) ≡ left_from (i + 1) (wholes rest)
left_whole i (Whole tree) rest is = refl
left_whole i (Lost wire) rest is = absurd (cc)
left_whole i (Cut wire) rest is = absurd (cc)

left_other : (i : ℕ) (one : Kept) (rest : List Kept) → is_whole one ≡ false → left_from i (wholes (one ∷ rest)) ≡ numbered i ∷ left_from (i + 1) (wholes rest)
left_other i (Whole tree) rest is = absurd (cc)
left_other i (Lost wire) rest is = refl
left_other i (Cut wire) rest is = refl

kept_whole : (i : ℕ) (one : Kept) (rest : List Kept) → is_whole one ≡ true → kept_from i (wholes (one ∷ rest)) ≡ numbered i ∷ kept_from (i + 1) (wholes rest)
kept_whole i (Whole tree) rest is = refl
kept_whole i (Lost wire) rest is = absurd (cc)
kept_whole i (Cut wire) rest is = absurd (cc)

kept_other : (i : ℕ) (one : Kept) (rest : List Kept) → is_whole one ≡ false → kept_from i (wholes (one ∷ rest)) ≡ kept_from (i + 1) (wholes rest)
kept_other i (Whole tree) rest is = absurd (cc)
kept_other i (Lost wire) rest is = refl
kept_other i (Cut wire) rest is = refl

-- with these numbers more, and with none
more_by : (pick : ℕ → List Kept → List NetNo) (kept : List Kept) (i : ℕ) (one : Kept) (list all : List NetNo) → slice_get kept i ≡ Some one → pick i (one ∷ drop (i + 1) kept) ≡ numbered i ∷ pick (i + 1) (drop (i + 1) kept) → all ≡ list ++ pick i (drop i kept)
    → all ≡ (list ++ numbered i ∷ []) ++ pick (i + 1) (drop (i + 1) kept)
more_by pick kept i one list all at here h =
    h ∙ ap (λ ks. list ++ pick i ks) (rest_at kept i one at) ∙ ap (λ ns. list ++ ns) here ∙ sym (append_assoc list (numbered i ∷ []) (pick (i + 1) (drop (i + 1) kept)))

same_by : (pick : ℕ → List Kept → List NetNo) (kept : List Kept) (i : ℕ) (one : Kept) (list all : List NetNo) → slice_get kept i ≡ Some one → pick i (one ∷ drop (i + 1) kept) ≡ pick (i + 1) (drop (i + 1) kept) → all ≡ list ++ pick i (drop i kept)
    → all ≡ list ++ pick (i + 1) (drop (i + 1) kept)
same_by pick kept i one list all at here h = h ∙ ap (λ ks. list ++ pick i ks) (rest_at kept i one at) ∙ ap (λ ns. list ++ ns) here

module _ (kept : List Kept) (i : ℕ) (one : Kept) (keeps : Bool) (list : List NetNo) where
  pub left_more : slice_get kept i ≡ Some one → keeps ≡ is_whole one → keeps ≡ false → left_from 0 (wholes kept) ≡ list ++ left_from i (wholes (drop i kept))
      → left_from 0 (wholes kept) ≡ (list ++ record { 0 = i } ∷ []) ++ left_from (i + 1) (wholes (drop (i + 1) kept))
  left_more at is tells h = more_by (λ n ks. left_from n (wholes ks)) kept i one list (left_from 0 (wholes kept)) at (left_other i one (drop (i + 1) kept) (sym is ∙ tells)) h

  pub left_same : slice_get kept i ≡ Some one → keeps ≡ is_whole one → keeps ≡ true → left_from 0 (wholes kept) ≡ list ++ left_from i (wholes (drop i kept))
      → left_from 0 (wholes kept) ≡ list ++ left_from (i + 1) (wholes (drop (i + 1) kept))
  left_same at is tells h = same_by (λ n ks. left_from n (wholes ks)) kept i one list (left_from 0 (wholes kept)) at (left_whole i one (drop (i + 1) kept) (sym is ∙ tells)) h

  pub keeping_more : slice_get kept i ≡ Some one → keeps ≡ is_whole one → keeps ≡ true → kept_from 0 (wholes kept) ≡ list ++ kept_from i (wholes (drop i kept))
      → kept_from 0 (wholes kept) ≡ (list ++ record { 0 = i } ∷ []) ++ kept_from (i + 1) (wholes (drop (i + 1) kept))
  keeping_more at is tells h = more_by (λ n ks. kept_from n (wholes ks)) kept i one list (kept_from 0 (wholes kept)) at (kept_whole i one (drop (i + 1) kept) (sym is ∙ tells)) h

  pub keeping_same : slice_get kept i ≡ Some one → keeps ≡ is_whole one → keeps ≡ false → kept_from 0 (wholes kept) ≡ list ++ kept_from i (wholes (drop i kept))
      → kept_from 0 (wholes kept) ≡ list ++ kept_from (i + 1) (wholes (drop (i + 1) kept))
  keeping_same at is tells h = same_by (λ n ks. kept_from n (wholes ks)) kept i one list (kept_from 0 (wholes kept)) at (kept_other i one (drop (i + 1) kept) (sym is ∙ tells)) h

all_by : (pick : ℕ → List Kept → List NetNo) → ((n : ℕ) → pick n [] ≡ []) → (kept : List Kept) (i : ℕ) (list all : List NetNo) → length kept ≤ i → all ≡ list ++ pick i (drop i kept) → list ≡ all
all_by pick none kept i list all le h = sym (h ∙ ap (λ ks. list ++ pick i ks) (drop_all i kept le) ∙ ap (λ ns. list ++ ns) (none i) ∙ append-nil list)

pub left_all : (kept : List Kept) (i : ℕ) (list : List NetNo) → length kept ≤ i → left_from 0 (wholes kept) ≡ list ++ left_from i (wholes (drop i kept)) → list ≡ left_from 0 (wholes kept)
left_all kept i list le h = all_by (λ n ks. left_from n (wholes ks)) (λ n. refl) kept i list (left_from 0 (wholes kept)) le h

pub keeping_all : (kept : List Kept) (i : ℕ) (list : List NetNo) → length kept ≤ i → kept_from 0 (wholes kept) ≡ list ++ kept_from i (wholes (drop i kept)) → list ≡ kept_from 0 (wholes kept)
keeping_all kept i list le h = all_by (λ n ks. kept_from n (wholes ks)) (λ n. refl) kept i list (kept_from 0 (wholes kept)) le h

-- ---- they stand by rising number
left_within : (n high : ℕ) (kept : List (Option Tree)) → n + length kept ≡ high → AreBetween n high (left_from n kept)
left_within n high [] long = λ k net at. absurd (let none : slice_get [] k ≡ Some net = at in cc)
left_within n high (None ∷ kept) long = with_first true n high (left_from (n + 1) kept) (omega (arith, long)) (left_within (n + 1) high kept (omega (arith, long)))
left_within n high (Some tree ∷ kept) long = with_first false n high (left_from (n + 1) kept) (omega (arith, long)) (left_within (n + 1) high kept (omega (arith, long)))

left_apart : (n high : ℕ) (kept : List (Option Tree)) → n + length kept ≡ high → AreOnce (left_from n kept)
left_apart n high [] long = λ j k net a b. absurd (let none : slice_get [] j ≡ Some net = a in cc)
left_apart n high (None ∷ kept) long = once_first true n high (left_from (n + 1) kept) (left_within (n + 1) high kept (omega (arith, long))) (left_apart (n + 1) high kept (omega (arith, long)))
left_apart n high (Some tree ∷ kept) long = once_first false n high (left_from (n + 1) kept) (left_within (n + 1) high kept (omega (arith, long))) (left_apart (n + 1) high kept (omega (arith, long)))

pub left_different : (nets : List Net) (kept : List Kept) (moved : List NetNo) → length kept ≡ length nets → moved ≡ left_from 0 (wholes kept) → AreDifferent nets moved
left_different nets kept moved long is = subst (AreDifferent nets) (sym is) (record {
  within = λ k net at. (let h = left_within 0 (length nets) (wholes kept) (omega (arith, wholes_long kept, long)) k net at in h.1);
  apart = left_apart 0 (length nets) (wholes kept) (omega (arith, wholes_long kept, long));
})

rise_first : (n high : ℕ) (rest : List NetNo) → AreBetween (n + 1) high rest → Rise rest → Rise (numbered n ∷ rest)
rise_first n high rest h rise zero zero one other a b lt = absurd (omega (arith, ap (λ (x : NetNo). x.0) (some_same (numbered n) one a), ap (λ (x : NetNo). x.0) (some_same (numbered n) other b), lt))
rise_first n high rest h rise zero (suc k) one other a b lt = omega arith
rise_first n high rest h rise (suc j) zero one other a b lt = absurd (omega (arith, (h j one a).0, ap (λ (x : NetNo). x.0) (some_same (numbered n) other b), lt))
rise_first n high rest h rise (suc j) (suc k) one other a b lt = omega (arith, rise j k one other a b lt)

left_rise : (n high : ℕ) (kept : List (Option Tree)) → n + length kept ≡ high → Rise (left_from n kept)
left_rise n high [] long = λ j k one other a b lt. absurd (let none : slice_get [] j ≡ Some one = a in cc)
left_rise n high (None ∷ kept) long = rise_first n high (left_from (n + 1) kept) (left_within (n + 1) high kept (omega (arith, long))) (left_rise (n + 1) high kept (omega (arith, long)))
left_rise n high (Some tree ∷ kept) long = left_rise (n + 1) high kept (omega (arith, long))

pub left_first : (graph : Network) (nets : List Net) (kept : List Kept) (moved : List NetNo) → Fits graph nets kept → moved ≡ left_from 0 (wholes kept) → MoveAtFirst graph nets moved
left_first graph nets kept moved fits is = record {
  rise = subst Rise (sym is) (left_rise 0 (length (wholes kept)) (wholes kept) (omega arith));
  others = λ n net at. elim (left_or_kept (wholes kept) n (omega (arith, slice_get_within nets n net at, wholes_long kept, fits.long))) [
    | inl moves ↦ inl (subst (λ ms. IsOneOf ms n) (sym is) moves)
    | inr keeps ↦ inr (leads_reached graph.edges net.root net.sinks.items (route_of keeps.0) (fits.lead n net keeps.0 at (whole_at kept n keeps.0 keeps.1)))
  ];
}

-- the numbers of those that keep a tree are numbers of nets
kept_within : (n high : ℕ) (kept : List (Option Tree)) → n + length kept ≡ high → AreBetween n high (kept_from n kept)
kept_within n high [] long = λ k net at. absurd (let none : slice_get [] k ≡ Some net = at in cc)
kept_within n high (None ∷ kept) long = with_first false n high (kept_from (n + 1) kept) (omega (arith, long)) (kept_within (n + 1) high kept (omega (arith, long)))
kept_within n high (Some tree ∷ kept) long = with_first true n high (kept_from (n + 1) kept) (omega (arith, long)) (kept_within (n + 1) high kept (omega (arith, long)))

pub keeping_below : (kept : List Kept) (trees : List Tree) (moved : List NetNo) → moved ≡ kept_from 0 (wholes kept) → BeginsWith (Some (wholes kept)) trees → (k : ℕ) (net : NetNo) → slice_get moved k ≡ Some net → net.0 < length trees
keeping_below kept trees moved is begins k net at =
    let h = kept_within 0 (length (wholes kept)) (wholes kept) (omega arith) k net (ap (λ ms. slice_get ms k) (sym is) ∙ at) in
    omega (arith, h.1, begins.0)

-- ---- the first trees
-- those of the first i nets
pub record BeginTo (kept : List Kept) (i : ℕ) (trees : List Tree) : Type 0 where
  pub long : length trees ≡ i
  pub each : (n : ℕ) (tree : Tree) → slice_get trees n ≡ Some tree → IsBegun (slice_get (wholes kept) n) tree

pub begin_none : (kept : List Kept) → BeginTo kept 0 []
begin_none kept = record { long = refl; each = λ n tree at. absurd (let none : slice_get [] n ≡ Some tree = at in cc) }

entry_is : (kept : List Kept) (n : ℕ) (one : Kept) → slice_get kept n ≡ Some one → slice_get (wholes kept) n ≡ Some (whole one)
entry_is kept n one at = slice_get-map whole kept n ∙ ap (option_map whole) at

pub begin_more : (kept : List Kept) (i : ℕ) (one : Kept) (trees : List Tree) (new : Tree) → slice_get kept i ≡ Some one → IsBegun (Some (whole one)) new → BeginTo kept i trees → BeginTo kept (i + 1) (trees ++ new ∷ [])
begin_more kept i one trees new at begun h = record {
  long = omega (arith, length_push trees new, h.long);
  each = λ n tree here. elim (pushed trees new n tree here) [
    | inl before ↦ h.each n tree before
    | inr end ↦
        let place : i ≡ n = sym h.long ∙ sym end.0 in
        subst (λ (t : Tree). IsBegun (slice_get (wholes kept) n) t) end.1
        (subst (λ k. IsBegun (slice_get (wholes kept) k) new) place (subst (λ (e : Option (Option Tree)). IsBegun e new) (sym (entry_is kept i one at)) begun))
  ];
}

pub begin_all : (kept : List Kept) (i : ℕ) (trees : List Tree) → i ≡ length kept → BeginTo kept i trees → BeginsWith (Some (wholes kept)) trees
begin_all kept i trees all h = (omega (arith, h.long, all, wholes_long kept), h.each)

-- a first tree is the kept one, or it holds no wire
begun_is : (kept : List Kept) (trees : List Tree) (k : ℕ) (tree : Tree) → BeginsWith (Some (wholes kept)) trees → slice_get trees k ≡ Some tree
    → ((its : Tree) × (slice_get kept k ≡ Some (Whole its)) × (route_of tree ≡ route_of its)) ⊎ (tree.wires.items ≡ [])
begun_is kept trees k tree begins at =
    let lt : k < length kept = omega (arith, slice_get_within trees k tree at, begins.0, wholes_long kept) in
    let one = there_at kept k lt in
    by_one one.0 one.1 (subst (λ (e : Option (Option Tree)). IsBegun e tree) (entry_is kept k one.0 one.1) (begins.1 k tree at))
  where
    by_one : (one : Kept) → slice_get kept k ≡ Some one → IsBegun (Some (whole one)) tree → ((its : Tree) × (slice_get kept k ≡ Some (Whole its)) × (route_of tree ≡ route_of its)) ⊎ (tree.wires.items ≡ [])
    by_one (Whole its) there is = inl (its, there, is)
    by_one (Lost wire) there is = inr is
    by_one (Cut wire) there is = inr is

module _ (graph : Network) (nets : List Net) (kept : List Kept) (trees : List Tree) (fits : Fits graph nets kept) (begins : BeginsWith (Some (wholes kept)) trees) where
  net_of : (k : ℕ) (tree : Tree) → slice_get trees k ≡ Some tree → (net : Net) × (slice_get nets k ≡ Some net)
  net_of k tree at = there_at nets k (omega (arith, slice_get_within trees k tree at, begins.0, wholes_long kept, fits.long))

  pub begun_long : length trees ≡ length nets
  begun_long = begins.0 ∙ (wholes_long kept ∙ fits.long)

  pub begun_within : AreNets graph nets → AreWithinGraph graph.wires graph.edges → AreWithin graph.wires trees
  begun_within are between k tree at =
      let net = net_of k tree at in
      elim (begun_is kept trees k tree begins at) [
        | inl keeps ↦ subst (λ (r : Route). AreBelow graph.wires r.wires) (sym keeps.2) (leads_within graph net.0.root net.0.sinks.items (route_of keeps.0) between (are k net.0 net.1).0 (fits.lead k net.0 keeps.0 net.1 keeps.1))
        | inr bare ↦ subst (AreBelow graph.wires) (sym bare) (λ j v none. absurd (let none_there : slice_get [] j ≡ Some v = none in cc))
      ]

  pub begun_once : HoldOnce trees
  begun_once k tree at =
      let net = net_of k tree at in
      elim (begun_is kept trees k tree begins at) [
        | inl keeps ↦ subst (λ (r : Route). AreWiresOnce r.wires) (sym keeps.2) (fits.lead k net.0 keeps.0 net.1 keeps.1).once
        | inr bare ↦ subst AreWiresOnce (sym bare) (λ i j v a b. absurd (let none_there : slice_get [] i ≡ Some v = a in cc))
      ]
