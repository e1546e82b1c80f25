-- What holds of the histories' table between any two steps.
use Rattle.std.specs.Prelude.{◌≡◌, ℕ, ◌+◌, ◌*◌, ◌≤◌, ◌<◌, ◌^◌, List, [], ◌∷◌, length, min, slice_index}
use Rattle.std.specs.List.{AllByRecursion}
use Rattle.atomic_table.specs.Table.{State}
use Rattle.ice_core.specs.Routes.{sum_below}
use Rattle.ice_words_hands.specs.Standing.{AreSeated}
use Rattle.ice_words_histories.specs.declared.view.HistoryPart.{HistoryPart}
use Rattle.ice_words_histories.specs.declared.view.HistoryView.{HistoryView}
use Rattle.ice_words_histories.specs.Blocks.{blocks_of, block_of, total, total_of, blocks_by, claims_on, claims, bumps_on, raises_on, ends_of, claiming, ending, with_own, own, standing_of}

-- what the histories are to be as the words begin
pub record AreHistories (histories : List ℕ) : Type 0 where
  pub wires : length histories < 2 ^ 32
  pub low : (w : ℕ) → w < length histories → slice_index histories w < 2 ^ 32

-- each wire is bumped at most as often as its block is claimed in the same part, each time by less than 2^32
pub record IsPart (p : HistoryPart) : Type 0 where
  pub once : (w : ℕ) → bumps_on w p ≤ claims_on (block_of w) p
  pub low : (w : ℕ) → raises_on w p ≤ 2 ^ 32 * bumps_on w p

pub record IsView (histories : List ℕ) (v : HistoryView) : Type 0 where
  pub same : 1 ≤ v.main + v.worker → v.histories ≡ histories
  pub parts : AllByRecursion IsPart v.parts

pub record Holds (histories : List ℕ) (s : State ℕ HistoryView) : Type 0 where
  pub opening : AreHistories histories
  pub words : length s.words ≡ length histories + 1
  pub seated : AreSeated standing_of s.views
  pub views : AllByRecursion (IsView histories) s.views
  -- each number below word 0 and below the number of blocks is claimed once, and no other
  pub draws : (f : ℕ → ℕ) → total_of (blocks_by f) s.views ≡ sum_below (min (slice_index s.words 0) (blocks_of (length histories))) f
  pub drawn : slice_index s.words 0 ≡ total_of claims s.views + total_of ends_of s.views
  pub raised : (w : ℕ) → w < length histories → slice_index s.words (w + 1) ≡ slice_index histories w + total_of (raises_on w) s.views

-- the newest block is of a lower number than n
abbrev pub IsAfter : ℕ → List ℕ → Type 0
IsAfter n [] = Unit {0}
IsAfter n (b ∷ blocks) = b < n

-- ---- what a step tells its hand
pub record Draws (v : HistoryView) (n : ℕ) (w : HistoryView) : Type 0 where
  pub number : n < blocks_of (length v.histories) → (w ≡ with_own (claiming n) v) × IsAfter n (own v).blocks
  pub none : blocks_of (length v.histories) ≤ n → w ≡ with_own ending v

-- at least what the hand knows, and exactly that where it claimed the wire's block, or where it is the main one and no other is out
pub record Looks (v : HistoryView) (w n : ℕ) : Type 0 where
  pub least : slice_index v.histories w + total (raises_on w) v ≤ n
  pub exact : 1 ≤ total (claims_on (block_of w)) v → n ≡ slice_index v.histories w + total (raises_on w) v
  pub lone : v.main ≡ 1 → v.out ≡ 0 → n ≡ slice_index v.histories w + total (raises_on w) v

-- what the histories are at the close, once every hand is joined to the main one
pub record IsClosing (v : HistoryView) (closed : List ℕ) : Type 0 where
  pub long : length closed ≡ length v.histories
  pub raised : (w : ℕ) → w < length v.histories → slice_index closed w ≡ slice_index v.histories w + total (raises_on w) v
  -- the claimed blocks are those below the number of draws, each once
  pub draws : (f : ℕ → ℕ) → total (blocks_by f) v ≡ sum_below (min (total claims v + total ends_of v) (blocks_of (length v.histories))) f
