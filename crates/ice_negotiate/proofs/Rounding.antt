-- One round after another.
use Rattle.std.proofs.Common.{◌≡◌, ℕ, zero, suc, ◌+◌, ◌-◌, ◌≤◌, ◌<◌, Bool, true, false, cond, List, [], ◌∷◌, ◌++◌, None, Some, length, replicate, slice_get, slice_index, refl, sym, ap, ◌∙◌, subst, arith, inl, inr}
use Rattle.std.proofs.lemmas.Option.{slice_get_within}
use Rattle.std.proofs.lemmas.List.Sums.{sum_by-cons}
use Rattle.ice_base.specs.declared.number.WireNo.{WireNo}
use Rattle.ice_base.specs.declared.number.NetNo.{NetNo}
use Rattle.ice_graph.specs.declared.tree.Tree.{Tree}
use Rattle.ice_graph.specs.Network.{Network}
use Rattle.ice_core.specs.declared.net.Net.{Net}
use Rattle.ice_core.specs.declared.log.RoundLog.{RoundLog}
use Rattle.ice_core.specs.Congestion.{next_history}
use Rattle.ice_core.specs.Moves.{IsOccupancy, holds, stands_in, occupancy, moves, movers_from, movers_of}
use Rattle.ice_negotiate_defs.specs.Rounds.{Past, AreAll, AreBare, AreDifferent, AreMoversReached, AreOverused, AreReachedBefore, AreRoundsFrom, BeginsWith, Follows, IsOverused}
use Rattle.ice_negotiate_defs.specs.Logs.{AreLogs, AreLogsFrom, IsLog}
use Rattle.ice_words.specs.Grips.{Shut}
use Rattle.ice_negotiate_defs.specs.Tallies.{AreTalliesFrom, IsTally}
use Rattle.ice_words_hands.proofs.Lists.{zeros_index}
use Rattle.ice_negotiate_defs.proofs.Listing.{pushed, length_push, last_get}
use Rattle.ice_negotiate_defs.proofs.Rounding.{some_same}
use Rattle.ice_negotiate.specs.Progress.{MoveAtFirst, Opening}

pub length_next : (h c : List ℕ) → length (next_history h c) ≡ length h
length_next [] c = refl
length_next (x ∷ h) [] = refl
length_next (x ∷ h) (n ∷ c) = ap suc (length_next h c)

-- a history rises by at most the count less one
pub next_low : (h c : List ℕ) (w : ℕ) → slice_index (next_history h c) w ≤ slice_index h w + (slice_index c w - 1)
next_low [] c w = omega arith
next_low (x ∷ h) [] w = omega arith
next_low (x ∷ h) (n ∷ c) zero = omega arith
next_low (x ∷ h) (n ∷ c) (suc w) = next_low h c w

-- net numbers between two bounds
abbrev pub AreBetween : ℕ → ℕ → List NetNo → Type 0
AreBetween low high nets = (k : ℕ) (net : NetNo) → slice_get nets k ≡ Some net → (low ≤ net.0) × (net.0 < high)

-- each net stands at one place
abbrev pub AreOnce : List NetNo → Type 0
AreOnce nets = (j k : ℕ) (net : NetNo) → slice_get nets j ≡ Some net → slice_get nets k ≡ Some net → j ≡ k

pub with_first : (b : Bool) (n high : ℕ) (rest : List NetNo) → n < high → AreBetween (n + 1) high rest → AreBetween n high (cond b (record { 0 = n } ∷ rest) rest)
with_first true n high rest lt h zero net at = (let same : record { 0 = n } ≡ net = some_same (record { 0 = n }) net at in let e : n ≡ net.0 = ap (λ (x : NetNo). x.0) same in ((omega arith), (omega arith)))
with_first true n high rest lt h (suc k) net at = (let g = h k net at in ((omega (arith, g.0)), g.1))
with_first false n high rest lt h k net at = (let g = h k net at in ((omega (arith, g.0)), g.1))

first_only : (n high : ℕ) (rest : List NetNo) (k : ℕ) (net : NetNo) → AreBetween (n + 1) high rest → slice_get rest k ≡ Some net → Some (record { 0 = n }) ≡ Some net → ⊥
first_only n high rest k net h got is = (let same : record { 0 = n } ≡ net = some_same (record { 0 = n }) net is in let e : n ≡ net.0 = ap (λ (x : NetNo). x.0) same in let g = h k net got in omega (arith, g.0))

pub once_first : (b : Bool) (n high : ℕ) (rest : List NetNo) → AreBetween (n + 1) high rest → AreOnce rest → AreOnce (cond b (record { 0 = n } ∷ rest) rest)
once_first true n high rest h once zero zero net x y = refl
once_first true n high rest h once zero (suc k) net x y = absurd (first_only n high rest k net h y x)
once_first true n high rest h once (suc j) zero net x y = absurd (first_only n high rest j net h x y)
once_first true n high rest h once (suc j) (suc k) net x y = ap suc (once j k net x y)
once_first false n high rest h once j k net x y = once j k net x y

-- the movers have numbers from n on
movers_within : (round : ℕ) (all : List Tree) (n high : ℕ) (trees : List Tree) → n + length trees ≡ high → AreBetween n high (movers_from round all n trees)
movers_within round all n high [] long = λ k net at. absurd (let none : slice_get [] k ≡ Some net = at in cc)
movers_within round all n high (t ∷ trees) long = with_first (moves round all n t) n high (movers_from round all (n + 1) trees) (omega arith) (movers_within round all (n + 1) high trees (omega arith))

movers_apart : (round : ℕ) (all : List Tree) (n high : ℕ) (trees : List Tree) → n + length trees ≡ high → AreOnce (movers_from round all n trees)
movers_apart round all n high [] long = λ j k net a b. absurd (let none : slice_get [] j ≡ Some net = a in cc)
movers_apart round all n high (t ∷ trees) long = once_first (moves round all n t) n high (movers_from round all (n + 1) trees) (movers_within round all (n + 1) high trees (omega arith)) (movers_apart round all (n + 1) high trees (omega arith))

pub movers_different : (round : ℕ) (trees : List Tree) (nets : List Net) (moved : List NetNo) → length trees ≡ length nets → moved ≡ movers_of round trees → AreDifferent nets moved
movers_different round trees nets moved long is = subst (AreDifferent nets) (sym is) (record {
  within = λ k net at. (let h = movers_within round trees 0 (length trees) trees (omega arith) k net at in omega (arith, h.1));
  apart = movers_apart round trees 0 (length trees) trees (omega arith);
})

pub all_different : (nets : List Net) (moved : List NetNo) → AreAll (length nets) moved → AreDifferent nets moved
all_different nets moved all = record {
  within = λ k net at. (let e = is k net at in let lt = place k net at in omega arith);
  apart = λ j k net a b. is j net a ∙ sym (is k net b);
}
  where
    place : (k : ℕ) (net : NetNo) → slice_get moved k ≡ Some net → k < length nets
    place k net at = (let lt = slice_get_within moved k net at in let long = all.long in omega arith)

    is : (k : ℕ) (net : NetNo) → slice_get moved k ≡ Some net → k ≡ net.0
    is k net at = (let same : record { 0 = k } ≡ net = some_same (record { 0 = k }) net (sym (all.each k (place k net at)) ∙ at) in ap (λ (x : NetNo). x.0) same)

no_holder : (b : Bool) (all rest : ℕ) → b ≡ false → all ≡ cond b 1 0 + rest → rest ≡ 0 → all ≡ 0
no_holder true all rest is e z = absurd (cc)
no_holder false all rest is e z = omega arith

-- trees without wires hold none
bare_none_holds : (trees : List Tree) (w : ℕ) → AreBare trees → occupancy trees w ≡ 0
bare_none_holds [] w bare = refl
bare_none_holds (t ∷ trees) w bare =
    no_holder (holds w t) (occupancy (t ∷ trees) w) (occupancy trees w) (ap (λ (ws : List WireNo). stands_in ws w) (bare 0 t refl))
    (sum_by-cons (λ (y : Tree). cond (holds w y) 1 0) t trees) (bare_none_holds trees w (λ n tree at. bare (suc n) tree at))

pub bare_occupied : (wires : ℕ) (counts : List ℕ) (trees : List Tree) → counts ≡ replicate wires 0 → AreBare trees → IsOccupancy counts trees
bare_occupied wires counts trees zeros bare = record {
  each = λ w lt. zero_at w ∙ sym (bare_none_holds trees w bare);
  within = λ n tree at k v got. absurd (let none : slice_get [] k ≡ Some v = ap (λ (ws : List WireNo). slice_get ws k) (sym (bare n tree at)) ∙ got in cc);
}
  where
    zero_at : (w : ℕ) → slice_index counts w ≡ 0
    zero_at w = ap (λ xs. slice_index xs w) zeros ∙ zeros_index wires w

-- rounds with one more that follows on the last
pub rounds_more : (graph : Network) (nets : List Net) (opening : Opening) (earlier : List Past) (last new : Past) → AreRoundsFrom graph nets opening (earlier ++ last ∷ []) → Follows graph nets last new → length new.counts ≡ graph.wires → IsOccupancy new.counts new.trees
    → AreRoundsFrom graph nets opening ((earlier ++ last ∷ []) ++ new ∷ [])
rounds_more graph nets opening earlier last new h follows long occupied =
    let xs : List Past = earlier ++ last ∷ [] in
    let many : length xs ≡ suc (length earlier) = length_push earlier last in
    record {
      first = λ one at. elim (pushed xs new 0 one at) [
        | inl old ↦ h.first one old
        | inr end ↦ absurd (let e = end.0 in omega arith)
      ];
      follow = λ k one next at next_at. elim (pushed xs new (k + 1) next next_at) [
        | inl old ↦ elim (pushed xs new k one at) [
          | inl before ↦ h.follow k one next before old
          | inr end ↦ absurd (let e = end.0 in let lt = slice_get_within xs (k + 1) next old in omega arith)
        ]
        | inr end ↦ elim (pushed xs new k one at) [
          | inl before ↦
              (let e = end.0 in
              let place : k ≡ length earlier = omega arith in
              let is : last ≡ one = some_same last one (sym (last_get earlier last) ∙ (ap (slice_get xs) (sym place) ∙ before)) in
              subst (λ x. Follows graph nets x next) is (subst (λ x. Follows graph nets last x) end.1 follows))
          | inr again ↦ absurd (let e = end.0 in let f = again.0 in omega arith)
        ]
      ];
      counted = λ k one at. elim (pushed xs new k one at) [
        | inl old ↦ h.counted k one old
        | inr end ↦ subst (λ (x : Past). (length x.counts ≡ graph.wires) × IsOccupancy x.counts x.trees) end.1 (long, occupied)
      ];
    }

pub overused_more : (earlier : List Past) (last : Past) → AreOverused earlier → IsOverused last → AreOverused (earlier ++ last ∷ [])
overused_more earlier last h over = λ k one at. elim (pushed earlier last k one at) [
  | inl old ↦ h k one old
  | inr end ↦ subst IsOverused end.1 over
]

pub logs_more : (earlier : List Past) (last : Past) (logs : List RoundLog) (log : RoundLog) → AreLogs earlier logs → IsLog last log → AreLogs (earlier ++ last ∷ []) (logs ++ log ∷ [])
logs_more earlier last logs log h is =
    let long = h.long in
    record {
      long = (let a = length_push earlier last in let b = length_push logs log in omega arith);
      each = λ k past entry at entry_at. elim (pushed earlier last k past at) [
        | inl old ↦ elim (pushed logs log k entry entry_at) [
          | inl kept ↦ h.each k past entry old kept
          | inr end ↦ absurd (let e = end.0 in let lt = slice_get_within earlier k past old in omega arith)
        ]
        | inr end ↦ elim (pushed logs log k entry entry_at) [
          | inl kept ↦ absurd (let e = end.0 in let lt = slice_get_within logs k entry kept in omega arith)
          | inr last_log ↦ subst (λ x. IsLog x entry) end.1 (subst (λ x. IsLog last x) last_log.1 is)
        ]
      ];
    }

-- the same with the log of an opening before them, if there is one
pub logs_go_on : (opening : Opening) (earlier : List Past) (last : Past) (logs : List RoundLog) (log : RoundLog) → AreLogsFrom opening earlier logs → IsLog last log → AreLogsFrom opening (earlier ++ last ∷ []) (logs ++ log ∷ [])
logs_go_on None earlier last logs log h is = logs_more earlier last logs log h is
logs_go_on (Some kept) earlier last logs log h is = (h.0, h.1 ++ log ∷ [], ap (λ ls. ls ++ log ∷ []) h.2, h.3, logs_more earlier last h.1 log h.4 is)

-- behind the first round all nets were reached
pub first_reached : (graph : Network) (nets : List Net) (moved : List NetNo) → MoveAtFirst graph nets moved → AreMoversReached graph nets moved (length moved) → AreReachedBefore graph nets (length nets)
first_reached graph nets moved first h = λ j net lt at. elim (first.others j net at) [
  | inl moves ↦ h moves.0 (record { 0 = j }) net (slice_get_within moved moves.0 (record { 0 = j }) moves.1) moves.1 at
  | inr reached ↦ reached
]

-- all nets in order
pub all_first : (graph : Network) (nets : List Net) (moved : List NetNo) → AreAll (length nets) moved → MoveAtFirst graph nets moved
all_first graph nets moved all = record {
  rise = λ j k one other a b lt. omega (arith, is j one a, is k other b, lt);
  others = λ n net at. inl (n, all.each n (slice_get_within nets n net at));
}
  where
    is : (k : ℕ) (net : NetNo) → slice_get moved k ≡ Some net → k ≡ net.0
    is k net at =
        let long = all.long in
        let lt = slice_get_within moved k net at in
        ap (λ (x : NetNo). x.0) (some_same (record { 0 = k }) net (sym (all.each k (omega arith)) ∙ at))

-- ---- tallies
pub tallies_none : (wires : ℕ) (opening : Opening) → AreTalliesFrom wires opening [] []
tallies_none wires opening = record {
  long = refl;
  first = λ one shut at shut_at. absurd (let none_there : slice_get [] 0 ≡ Some one = at in cc);
  next = λ k one after shut at after_at shut_at. absurd (let none_there : slice_get [] k ≡ Some one = at in cc);
}

pub tallies_first : (wires : ℕ) (opening : Opening) (one : Past) (before : List Tree) (shut : Shut) → BeginsWith opening before → IsTally wires one.moved before one.trees shut → AreTalliesFrom wires opening (one ∷ []) (shut ∷ [])
tallies_first wires opening one before shut begins tally = record {
  long = refl;
  first = λ past other at other_at. (before, begins, subst (λ (x : Past). IsTally wires x.moved before x.trees other) (some_same one past at) (subst (IsTally wires one.moved before one.trees) (some_same shut other other_at) tally));
  next = λ k past after other at after_at other_at. absurd (let lt = slice_get_within (one ∷ []) (k + 1) after after_at in omega arith);
}

pub tallies_more : (wires : ℕ) (opening : Opening) (earlier : List Past) (last new : Past) (tallies : List Shut) (shut : Shut) → AreTalliesFrom wires opening (earlier ++ last ∷ []) tallies → IsTally wires new.moved last.trees new.trees shut → AreTalliesFrom wires opening ((earlier ++ last ∷ []) ++ new ∷ []) (tallies ++ shut ∷ [])
tallies_more wires opening earlier last new tallies shut h tally =
    let xs : List Past = earlier ++ last ∷ [] in
    let many : length xs ≡ suc (length earlier) = length_push earlier last in
    let long = h.long in
    record {
      long = (let a = length_push xs new in let b = length_push tallies shut in omega arith);
      first = λ one other at other_at. elim (pushed xs new 0 one at) [
        | inl old ↦ elim (pushed tallies shut 0 other other_at) [
          | inl kept ↦ h.first one other old kept
          | inr end ↦ absurd (let e = end.0 in omega arith)
        ]
        | inr end ↦ absurd (let e = end.0 in omega arith)
      ];
      next = λ k one after other at after_at other_at. elim (pushed xs new (k + 1) after after_at) [
        | inl old ↦ elim (pushed tallies shut (k + 1) other other_at) [
          | inl kept ↦ elim (pushed xs new k one at) [
            | inl before ↦ h.next k one after other before old kept
            | inr end ↦ absurd (let e = end.0 in let lt = slice_get_within xs (k + 1) after old in omega arith)
          ]
          | inr end ↦ absurd (let e = end.0 in let lt = slice_get_within xs (k + 1) after old in omega arith)
        ]
        | inr end ↦ elim (pushed tallies shut (k + 1) other other_at) [
          | inl kept ↦ absurd (let e = end.0 in let lt = slice_get_within tallies (k + 1) other kept in omega arith)
          | inr last_one ↦ elim (pushed xs new k one at) [
            | inl before ↦
                (let e = end.0 in
                let place : k ≡ length earlier = omega arith in
                let is : last ≡ one = some_same last one (sym (last_get earlier last) ∙ (ap (slice_get xs) (sym place) ∙ before)) in
                subst (λ (x : Past). IsTally wires after.moved x.trees after.trees other) is (subst (λ (x : Past). IsTally wires x.moved last.trees x.trees other) end.1 (subst (IsTally wires new.moved last.trees new.trees) last_one.1 tally)))
            | inr again ↦ absurd (let e = end.0 in let f = again.0 in omega arith)
          ]
        ]
      ];
    }
