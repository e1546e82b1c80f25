-- What holds of the table between any two steps.
use Rattle.std.specs.Prelude.{◌≡◌, ◌≢◌, ℕ, ◌+◌, ◌≤◌, ◌<◌, List, [], ◌∷◌, length, min, slice_index}
use mathlib.Core.Option.{Option, some, none}
use Rattle.std.specs.List.{AllByRecursion}
use Rattle.atomic_table.specs.Table.{State}
use Rattle.ice_core.specs.Routes.{times, sum_below, wires_of}
use Rattle.ice_words_hands.specs.Standing.{AreSeated}
use Rattle.ice_claim.specs.declared.view.ClaimView.{ClaimView}
use Rattle.ice_claim.specs.Claims.{total, total_of, nets_by, claims_on, claims, ends_of, takes_on, takes_pair, losses_pair, claiming, ending, taking, losing, own, with_own, standing_of}

-- the wires of each net: at most 65,536 nets, wires in range, and none twice in a list
pub record AreLists (wires : ℕ) (lists : List (List ℕ)) : Type 0 where
  pub few : length lists ≤ 65536
  pub within : (n : ℕ) → AllByRecursion (λ w. w < wires) (wires_of lists n)
  pub once : (n w : ℕ) → times w (wires_of lists n) ≤ 1

-- another net's list has the wire
abbrev pub IsShared : List (List ℕ) → ℕ → ℕ → Type 0
IsShared lists n w = (m : ℕ) × (m ≢ n) × (1 ≤ times w (wires_of lists m))

-- a net that is claimed in the view didn't get a wire of its list, which another list has too
pub record IsLost (lists : List (List ℕ)) (v : ClaimView) (n w : ℕ) : Type 0 where
  pub claimed : 1 ≤ total (claims_on n) v
  pub listed : 1 ≤ times w (wires_of lists n)
  pub shared : IsShared lists n w

pub record IsView (lists : List (List ℕ)) (v : ClaimView) : Type 0 where
  pub same : 1 ≤ v.main + v.worker → v.lists ≡ lists
  -- a wire is taken for a net that is claimed in the view, once for each, and that has it in its list
  pub claimed : (n w : ℕ) → total (takes_pair n w) v ≤ total (claims_on n) v
  pub listed : (n w : ℕ) → 1 ≤ total (takes_pair n w) v → 1 ≤ times w (wires_of lists n)
  pub lost : (n w : ℕ) → 1 ≤ total (losses_pair n w) v → IsLost lists v n w

pub record Holds (wires : ℕ) (lists : List (List ℕ)) (s : State ℕ ClaimView) : Type 0 where
  pub start : AreLists wires lists
  pub words : length s.words ≡ wires + 1
  pub seated : AreSeated standing_of s.views
  pub views : AllByRecursion (IsView lists) s.views
  -- each number below word 0 and below the number of nets is claimed once, and no other: however numbers are weighed, the weights agree
  pub draws : (f : ℕ → ℕ) → total_of (nets_by f) s.views ≡ sum_below (min (slice_index s.words 0) (length lists)) f
  pub drawn : slice_index s.words 0 ≡ total_of claims s.views + total_of ends_of s.views
  -- a wire's word is the number of its takers, which is 0 or 1
  pub taken : (w : ℕ) → w < wires → slice_index s.words (w + 1) ≡ total_of (takes_on w) s.views
  pub once : (w : ℕ) → w < wires → slice_index s.words (w + 1) ≤ 1

-- the newest net is of a lower number than n
abbrev pub IsAfter : ℕ → List ℕ → Type 0
IsAfter n [] = Unit {0}
IsAfter n (m ∷ nets) = m < n

-- each wire that the own part has taken has one of so many words
abbrev pub AreAmong : ℕ → ClaimView → Type 0
AreAmong words v = (n w : ℕ) → 1 ≤ takes_pair n w (own v) → w + 1 < words

-- ---- what a step tells its pass
-- no other pass is out, so what it knows is all that was done
pub record IsLone (v : ClaimView) : Type 0 where
  pub main : v.main ≡ 1
  pub out : v.out ≡ 0

-- the number n was drawn
pub record Draws (v : ClaimView) (n : ℕ) (w : ClaimView) : Type 0 where
  pub number : n < length v.lists → (w ≡ with_own (claiming n) v) × IsAfter n (own v).nets
  pub none : length v.lists ≤ n → w ≡ with_own ending v
  pub lone : IsLone v → n ≡ total claims v + total ends_of v

-- a wire's word was found as n
pub record Finds (v : ClaimView) (w n : ℕ) : Type 0 where
  pub own : 1 ≤ total (takes_on w) v → n ≢ 0
  pub lone : IsLone v → n ≡ total (takes_on w) v

-- it was wanted for a net: taken where it was 0, and else lost to another net
pub record Tries (v : ClaimView) (net w n : ℕ) (after : ClaimView) : Type 0 where
  pub finds : Finds v w n
  pub taken : n ≡ 0 → after ≡ with_own (taking net w) v
  pub lost : n ≢ 0 → (after ≡ with_own (losing net w) v) × IsShared v.lists net w

-- the net for which a wire is taken or given back
abbrev pub told_net : Option ℕ → ℕ
told_net none = 0
told_net (some net) = net

-- what is taken at the close, once every pass is joined to the main one
pub record IsClosing (wires : ℕ) (v : ClaimView) (closed : List ℕ) : Type 0 where
  pub long : length closed ≡ wires
  pub taken : (w : ℕ) → w < wires → slice_index closed w ≡ total (takes_on w) v
  pub once : (w : ℕ) → w < wires → slice_index closed w ≤ 1
  -- the claimed nets are those below the number of draws, each once
  pub draws : (f : ℕ → ℕ) → total (nets_by f) v ≡ sum_below (min (total claims v + total ends_of v) (length v.lists)) f
