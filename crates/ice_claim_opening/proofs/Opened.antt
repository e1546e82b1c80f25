-- What the notes leave of all nets is what an opening leaves.
use Rattle.std.proofs.Common.{◌≡◌, ℕ, zero, suc, ◌≤◌, ◌<◌, List, [], ◌∷◌, Some, None, Option, eq-eqb, length, map, slice_get, refl, sym, ap, subst, arith, inl, inr, ◌∙◌}
use mathlib.Core.Option.{some}
use lib.ListN.{get_elem?}
use Rattle.std.proofs.lemmas.Bool.{cases_eq}
use Rattle.std.proofs.lemmas.Option.{same_Some, slice_get_within}
use Rattle.std.specs.Global.{Vec}
use Rattle.std.specs.List.{sum_by, AllByRecursion}
use Rattle.ice_base.specs.declared.number.WireNo.{WireNo}
use Rattle.ice_base_values.specs.Order.{Has}
use Rattle.ice_graph.specs.declared.tree.Tree.{Tree}
use Rattle.ice_graph.specs.Network.{Network}
use Rattle.ice_core.specs.declared.net.Net.{Net}
use Rattle.ice_core.specs.Routes.{lists_of, times, wires_of}
use Rattle.ice_core.proofs.Sums.{is_at, at_other, below_once, sum_at}
use Rattle.ice_words_hands.proofs.Lists.{one_of}
use Rattle.ice_claim.specs.Rule.{AreLists, IsShared}
use Rattle.ice_negotiate_defs.specs.Trees.{Route, route_of, bare}
use Rattle.ice_negotiate_defs.specs.Fitting.{AreApart, Fits}
use Rattle.ice_negotiate_defs.proofs.Joining.{joined_unique}
use Rattle.ice_negotiate_defs.proofs.Leading.{trees_lead}
use Rattle.ice_negotiate_defs.specs.declared.kept.Kept.{Kept}
use Rattle.ice_negotiate_defs.specs.declared.kept.Kept.TheVariants.{Whole, Lost, Cut}
use Rattle.ice_negotiate_defs.proofs.Wires.{numbered}
use Rattle.ice_negotiate_defs.proofs.Listing.{there_at}
use Rattle.ice_claim_opening.specs.declared.notes.Note.{Note}
use Rattle.ice_claim_opening.specs.Opened.{AreKeptInTurn, IsAtOne, IsKept, IsLost, IsOpened}
use Rattle.ice_claim_opening.specs.First.{AreFirst, IsFirst, wires_by_number}
use Rattle.ice_claim_opening.specs.Notes.{kept_on, AreAllNotes, AreInTurn, IsLossNoted}
use Rattle.ice_claim_opening.specs.Marks.{IsNotedLost, AreMarked}
use Rattle.ice_claim_opening.proofs.Wires.{has_times}
use Rattle.ice_claim_opening.proofs.Firsts.{first_are_lists, list_at, lists_long, map_length, tree_at}
use Rattle.ice_claim_opening.proofs.Marking.{notes_below}
use Rattle.ice_claim_opening.proofs.Noting.{get_of, not_some}

each_get : (P : Note → Type 0) (xs : List Note) (k : ℕ) (a : Note) → AllByRecursion P xs → slice_get xs k ≡ Some a → P a
each_get P [] k a each at = absurd (cc)
each_get P (x ∷ xs) zero a each at = subst P (same_Some x a at) each.0
each_get P (x ∷ xs) (suc k) a each at = each_get P xs k a each.1 at

-- no two variants are the same
whole_not_lost : (tree : Tree) (wire : WireNo) → Whole tree ≡ Lost wire → ⊥
whole_not_lost tree wire e = absurd (cc)

cut_not_lost : (sink wire : WireNo) → Cut sink ≡ Lost wire → ⊥
cut_not_lost sink wire e = absurd (cc)

module _ (graph : Network) (nets : List Net) (workers : ℕ) (first : List Kept) (notes : List Note) (kept : List Kept) (firsts : AreFirst graph nets first) (all : AreAllNotes (map wires_by_number first) workers notes) (marked : AreMarked first notes kept) where
  abbrev lists : List (List ℕ)
  lists = map wires_by_number first

  many : length lists ≡ length nets
  many = lists_long graph nets first firsts

  -- a list that has a wire is that of a net with a tree
  has_tree : (n w : ℕ) → 1 ≤ times w (wires_of lists n) → (net : Net) × (tree : Tree) × (slice_get nets n ≡ Some net) × (slice_get first n ≡ Some (Whole tree)) × IsAtOne graph net tree × Has tree.wires.items (numbered w)
  has_tree n w some_of =
      let t = tree_at first n w some_of in
      let lt : n < length nets = omega (arith, slice_get_within first n (Whole t.0) t.1, firsts.long) in
      let m = there_at nets n lt in
      (m.0, t.0, m.1, t.1, (firsts.each n m.0 (Whole t.0) m.1 t.1).0, t.2)

  -- what a note of a loss says
  loss_of : (n : ℕ) (wire : WireNo) → IsNotedLost notes n wire → (1 ≤ times wire.0 (wires_of lists n)) × IsShared lists n wire.0
  loss_of n wire lost = subst (λ k. (1 ≤ times wire.0 (wires_of lists k)) × IsShared lists k wire.0) lost.of (each_get (IsLossNoted lists) notes lost.place lost.note all.losses lost.at wire lost.lost)

  same_net : (n : ℕ) (one other : Net) → slice_get nets n ≡ Some one → slice_get nets n ≡ Some other → one ≡ other
  same_net n one other at also = same_Some one other (sym at ∙ also)

  lost_is : (n : ℕ) (net : Net) (wire : WireNo) → slice_get nets n ≡ Some net → IsNotedLost notes n wire → IsLost graph nets n net wire
  lost_is n net wire at lost =
      let loss = loss_of n wire lost in
      let mine = has_tree n wire.0 loss.0 in
      let its = has_tree loss.1.0 wire.0 loss.1.2 in
      record {
        tree = mine.1;
        is = subst (λ (m : Net). IsAtOne graph m mine.1) (same_net n mine.0 net mine.2 at) mine.4;
        has = mine.5;
        elsewhere = record { number = loss.1.0; other = loss.1.1; net = its.0; at = its.2; tree = its.1; is = its.4; has = its.5 };
      }

  first_is : (n : ℕ) (net : Net) (one : Kept) → IsFirst graph net one → IsKept graph nets n net one
  first_is n net (Whole tree) is = is.0
  first_is n net (Lost wire) is = absurd is
  first_is n net (Cut wire) is = is

  each_is : (n : ℕ) (net : Net) (one : Kept) → slice_get nets n ≡ Some net → slice_get kept n ≡ Some one → IsKept graph nets n net one
  each_is n net one at there = elim (marked.each n one there) [
    | inl still ↦ first_is n net one (firsts.each n net one at still.0)
    | inr gone ↦ subst (IsKept graph nets n net) (sym gone.2) (lost_is n net gone.0 at gone.1)
  ]

  -- ---- kept nets have all their wires
  one_note : (n : ℕ) → n < length lists → (k : ℕ) × (note : Note) × (slice_get notes k ≡ Some note) × (get_elem? notes k ≡ some note) × (n ≡ note.net)
  one_note n lt =
      let t = one_of (λ (note : Note). is_at n note.net) notes (omega (arith, all.nets (is_at n), below_once (length lists) n lt)) in
      (t.0, t.1, get_of notes t.0 t.1 t.2, t.2, is_same t.1 t.3)
    where
      is_same : (note : Note) → 1 ≤ is_at n note.net → n ≡ note.net
      is_same note some_of = elim (cases_eq n note.net) [
        | inl same ↦ same
        | inr other ↦ absurd (omega (arith, some_of, at_other n note.net other))
      ]

  never_lost : (n : ℕ) (note : Note) (k : ℕ) (lost : Option WireNo) → note.lost ≡ lost → slice_get notes k ≡ Some note → n ≡ note.net → ((wire : WireNo) → IsNotedLost notes n wire → ⊥) → note.lost ≡ None
  never_lost n note k None is at of never = is
  never_lost n note k (Some wire) is at of never = absurd (never wire (record { place = k; note = note; at = at; of = sym of; lost = is }))

  whole_noted : (n w : ℕ) → n < length lists → ((wire : WireNo) → IsNotedLost notes n wire → ⊥) → 1 ≤ times w (wires_of lists n) → 1 ≤ sum_by (kept_on lists n w) notes
  whole_noted n w lt never some_of =
      let t = one_note n lt in
      let none = never_lost n t.1 t.0 t.1.lost refl t.2 t.4 never in
      let gives : kept_on lists n w t.1 ≡ times w (wires_of lists n) = rw (eq-eqb n t.1.net t.4, none) refl in
      omega (arith, gives, some_of, sum_at (kept_on lists n w) notes t.0 t.1 t.3)

  whole_is : (n : ℕ) (tree : Tree) (wire : WireNo) → slice_get kept n ≡ Some (Whole tree) → Has tree.wires.items wire → 1 ≤ sum_by (kept_on lists n wire.0) notes
  whole_is n tree wire at has = elim (marked.each n (Whole tree) at) [
    | inl still ↦
        let listed : 1 ≤ times wire.0 (wires_of lists n) = subst (λ ws. 1 ≤ times wire.0 ws) (sym (list_at first n (Whole tree) still.0)) (has_times tree.wires.items wire has) in
        let lt : n < length lists = omega (arith, slice_get_within first n (Whole tree) still.0, many, firsts.long) in
        whole_noted n wire.0 lt still.1 listed
    | inr gone ↦ absurd (whole_not_lost tree gone.0 gone.2)
  ]

  apart_is : AreApart kept
  apart_is i j one other wire at there has also = all.apart i j wire.0 (whole_is i one wire at has) (whole_is j other wire there also)

  -- ---- one worker
  -- a net that is noted as kept isn't noted as lost
  not_lost : AreInTurn lists notes → (m : ℕ) (note : Note) (wire : WireNo) → slice_get notes m ≡ Some note → note.lost ≡ None → IsNotedLost notes m wire → ⊥
  not_lost turn m note wire at none lost =
      let place : lost.place ≡ m = sym (turn.turn lost.place lost.note lost.at) ∙ lost.of in
      let also : slice_get notes m ≡ Some lost.note = subst (λ k. slice_get notes k ≡ Some lost.note) place lost.at in
      clash note lost.note (sym at ∙ also) none lost.lost
    where
      clash : (a b : Note) → Some a ≡ Some b → a.lost ≡ None → b.lost ≡ Some wire → ⊥
      clash a b e is has = absurd (not_some wire (sym is ∙ (ap (λ (x : Note). x.lost) (same_Some a b e) ∙ has)))

  kept_still : (m : ℕ) (tree : Tree) (one : Kept) → slice_get first m ≡ Some (Whole tree) → slice_get kept m ≡ Some one → ((wire : WireNo) → IsNotedLost notes m wire → ⊥) → slice_get kept m ≡ Some (Whole tree)
  kept_still m tree one at there never = elim (marked.each m one there) [
    | inl still ↦ (let same : Some one ≡ Some (Whole tree) = sym still.0 ∙ at in there ∙ same)
    | inr gone ↦ absurd (never gone.0 gone.1)
  ]

  -- a net that lost a wire comes behind a kept one that has it
  held_is : AreInTurn lists notes → (n : ℕ) (wire : WireNo) → IsNotedLost notes n wire → (m : ℕ) × (its : Tree) × (m < n) × (slice_get kept m ≡ Some (Whole its)) × Has its.wires.items wire
  held_is turn n wire lost =
      let place : lost.place ≡ n = sym (turn.turn lost.place lost.note lost.at) ∙ lost.of in
      let h = turn.lost lost.place lost.note wire lost.at lost.lost in
      let its = has_tree h.place wire.0 h.listed in
      let lt : h.place < length kept = omega (arith, slice_get_within first h.place (Whole its.1) its.3, marked.long) in
      let k = there_at kept h.place lt in
      (h.place, its.1, omega (arith, h.before, place), kept_still h.place its.1 k.0 its.3 k.1 (λ other. not_lost turn h.place h.note other h.at h.kept), its.5)

  -- the wire that a net lost is in each tree that it has at price 1
  in_its_tree : (n : ℕ) (net : Net) (tree : Tree) (wire : WireNo) → slice_get nets n ≡ Some net → IsAtOne graph net tree → IsNotedLost notes n wire → Has tree.wires.items wire
  in_its_tree n net tree wire at is lost =
      let mine = lost_is n net wire at lost in
      let same = joined_unique graph.edges (λ w. 1) (bare net.root) net.sinks.items (route_of mine.tree) (route_of tree) mine.is.joined is.joined in
      subst (λ (r : Route). Has r.wires wire) same mine.has

  in_turn : AreInTurn lists notes → AreKeptInTurn graph nets kept
  in_turn turn n net tree at is free =
      let lt : n < length kept = omega (arith, slice_get_within nets n net at, marked.long, firsts.long) in
      let k = there_at kept n lt in
      by_kept k.0 k.1
    where
      by_first : (one : Kept) → IsFirst graph net one → slice_get kept n ≡ Some one → (its : Tree) × (slice_get kept n ≡ Some (Whole its))
      by_first (Whole its) h there = (its, there)
      by_first (Lost wire) h there = absurd h
      by_first (Cut wire) h there = absurd (h.4 (is.reached h.0 h.1 h.2))

      by_kept : (one : Kept) → slice_get kept n ≡ Some one → (its : Tree) × (slice_get kept n ≡ Some (Whole its))
      by_kept one there = elim (marked.each n one there) [
        | inl still ↦ by_first one (firsts.each n net one at still.0) there
        | inr gone ↦
            let held = held_is turn n gone.0 gone.1 in
            absurd (free held.0 held.1 gone.0 held.2 held.3 held.4 (in_its_tree n net tree gone.0 at is gone.1))
      ]

  pub opened : IsOpened graph nets workers kept
  opened = record {
    long = marked.long ∙ firsts.long;
    each = each_is;
    apart = apart_is;
    exact = λ one. in_turn (all.turn one);
  }

-- ---- rounds may begin from what is left
pub fitting : (graph : Network) (nets : List Net) (workers : ℕ) (kept : List Kept) → IsOpened graph nets workers kept → Fits graph nets kept
fitting graph nets workers kept is = record {
  long = is.long;
  lead = λ n net tree at here. trees_lead graph.edges (λ w. 1) net.root net.sinks.items (route_of tree) (λ w. omega arith) (is.each n net (Whole tree) at here).joined;
  apart = is.apart;
}

-- ---- the same by what the calls say, each of which reads the list of the one before
module _ (kept as_kept : List Kept) (lists as_lists : List (Vec WireNo)) where
  same_lists : as_kept ≡ kept → lists_of lists ≡ map wires_by_number as_kept → as_lists ≡ lists → lists_of as_lists ≡ map wires_by_number kept
  same_lists kept_is of lists_is = ap lists_of lists_is ∙ (of ∙ ap (map wires_by_number) kept_is)

  pub lists_ready : (graph : Network) (nets : List Net) (wires : ℕ) → wires ≡ graph.wires → length nets ≤ 65536 → AreFirst graph nets kept → as_kept ≡ kept → lists_of lists ≡ map wires_by_number as_kept → as_lists ≡ lists → AreLists wires (lists_of as_lists)
  lists_ready graph nets wires count few firsts kept_is of lists_is = subst (λ n. AreLists n (lists_of as_lists)) (sym count) (subst (AreLists graph.wires) (sym (same_lists kept_is of lists_is)) (first_are_lists graph nets kept few firsts))

  pub notes_ready : (workers : ℕ) (notes as_notes : List Note) → as_kept ≡ kept → lists_of lists ≡ map wires_by_number as_kept → as_lists ≡ lists → AreAllNotes (lists_of as_lists) workers notes → as_notes ≡ notes → AllByRecursion (λ (note : Note). note.net < length kept) as_notes
  notes_ready workers notes as_notes kept_is of lists_is all notes_is =
      subst (λ (ns : List Note). AllByRecursion (λ (note : Note). note.net < length kept) ns) (sym notes_is)
      (subst (λ n. AllByRecursion (λ (note : Note). note.net < n) notes) (ap length (same_lists kept_is of lists_is) ∙ map_length kept) (notes_below (lists_of as_lists) workers notes all))

  pub opened_by : (graph : Network) (nets : List Net) (workers : ℕ) (notes as_notes : List Note) (after : List Kept) → AreFirst graph nets kept → as_kept ≡ kept → lists_of lists ≡ map wires_by_number as_kept → as_lists ≡ lists → AreAllNotes (lists_of as_lists) workers notes → as_notes ≡ notes
      → AreMarked kept as_notes after → IsOpened graph nets workers after
  opened_by graph nets workers notes as_notes after firsts kept_is of lists_is all notes_is marked =
      opened graph nets workers kept notes after firsts (subst (λ ls. AreAllNotes ls workers notes) (same_lists kept_is of lists_is) all) (subst (λ (ns : List Note). AreMarked kept ns after) notes_is marked)

  pub fits_by : (graph : Network) (nets : List Net) (workers : ℕ) (notes as_notes : List Note) (after : List Kept) → AreFirst graph nets kept → as_kept ≡ kept → lists_of lists ≡ map wires_by_number as_kept → as_lists ≡ lists → AreAllNotes (lists_of as_lists) workers notes → as_notes ≡ notes
      → AreMarked kept as_notes after → Fits graph nets after
  fits_by graph nets workers notes as_notes after firsts kept_is of lists_is all notes_is marked = fitting graph nets workers after (opened_by graph nets workers notes as_notes after firsts kept_is of lists_is all notes_is marked)
