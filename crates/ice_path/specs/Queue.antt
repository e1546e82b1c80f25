-- The queue of open wires: a list for each low sum of label and bound, and a heap of the higher sums.
use Rattle.std.specs.Prelude.{◌≡◌, ℕ, zero, suc, ◌+◌, ◌≤◌, ◌<◌, ◌⊎◌, Bool, true, false, List, [], Some, length, slice_index, slice_index_or, slice_get, vec_capacity}
use Rattle.std.specs.BinaryHeap.{IsHeap, heap_items, heap_len, heap_capacity}
use Rattle.std.specs.List.{All, Contains}
use Rattle.std.specs.Ordering.{nat_cmp, ordering_then}
use Rattle.std.specs.declared.cmp.Ordering.{Ordering}
use Rattle.std.specs.declared.cmp.Reverse.{Reverse}
use Rattle.ice_path.specs.declared.queue.Queue.{Queue}
use Rattle.ice_path.specs.declared.queue.Waiting.{Waiting}

-- an entry of the heap: the sum of a label and a bound, and the wire that had them when the entry was made
abbrev pub Entry : Type 0
Entry = Reverse ℕ × ℕ

abbrev pub entry : ℕ → ℕ → Entry
entry l w = (record { 0 = l }, w)

-- the heap's order: the less the sum, the sooner
abbrev pub sooner : Entry → Entry → Ordering
sooner x y = ordering_then (nat_cmp y.0.0 x.0.0) (nat_cmp x.1 y.1)

-- n steps down the list that begins below the place `at`, the wire stands
abbrev pub StandsBelow : List Waiting → ℕ → ℕ → ℕ → Type 0
StandsBelow entries zero at w = (i : ℕ) × (e : Waiting) × (at ≡ suc i) × (slice_get entries i ≡ Some e) × (e.wire ≡ w)
StandsBelow entries (suc n) at w = (i : ℕ) × (e : Waiting) × (at ≡ suc i) × (slice_get entries i ≡ Some e) × StandsBelow entries n e.behind w

-- the wire stands in the list that begins below the place `at`
abbrev pub OnList : List Waiting → ℕ → ℕ → Type 0
OnList entries at w = (n : ℕ) × StandsBelow entries n at w

-- each entry leads to one that was put in before it, or ends its list
abbrev pub LeadDown : List Waiting → Type 0
LeadDown entries = (i : ℕ) (e : Waiting) → slice_get entries i ≡ Some e → e.behind ≤ i

-- one list for each sum below 1024
pub record AreLists (heads : List ℕ) (entries : List Waiting) : Type 0 where
  pub long : length heads ≡ 1024
  pub heads_in : (s : ℕ) → slice_index heads s ≤ length entries
  pub down : LeadDown entries

-- the wire waits in the list of the sum s
abbrev pub Listed : List ℕ → List Waiting → ℕ → ℕ → Type 0
Listed heads entries s w = OnList entries (slice_index heads s) w

-- the wire waits in the queue under the sum s
abbrev pub Waits : Queue → ℕ → ℕ → Type 0
Waits q s w = Listed q.heads.items q.entries.items s w ⊎ Contains (heap_items q.far) (entry s w)

-- how many entries were put in, but for those taken from the heap
abbrev pub queue_len : Queue → ℕ
queue_len q = length q.entries.items + heap_len q.far

-- the lists are well formed, the heap has its order and no low sum, and both have the room
pub record IsQueue (q : Queue) : Type 0 where
  pub lists : AreLists q.heads.items q.entries.items
  pub order : IsHeap sooner (heap_items q.far)
  pub high : All (λ (x : Entry). 1024 ≤ x.0.0) (heap_items q.far)
  pub near_room : q.room ≤ vec_capacity q.entries
  pub far_room : q.room ≤ heap_capacity q.far

-- no wire waits
pub record IsEmpty (q : Queue) : Type 0 where
  pub near : (s : ℕ) → slice_index q.heads.items s ≡ 0
  pub far : heap_items q.far ≡ []

-- the wire w was put in under the sum s
pub record Adds (old new : Queue) (s w : ℕ) : Type 0 where
  pub kept : (t v : ℕ) → Waits old t v → Waits new t v
  pub there : Waits new s w
  pub only : (t v : ℕ) → Waits new t v → Waits old t v ⊎ ((t ≡ s) × (v ≡ w))
  pub low : (t v : ℕ) → t < new.low → Listed new.heads.items new.entries.items t v → (t < old.low) × Listed old.heads.items old.entries.items t v

-- whether the wire is settled
abbrev pub done : List Bool → ℕ → Bool
done settled w = slice_index_or settled w false

-- the first wire of the list below `at` that isn't settled, with the place below which the rest of the list begins
pub record IsFirstOpen (entries : List Waiting) (settled : List Bool) (at w behind : ℕ) : Type 0 where
  pub there : OnList entries at w
  pub unsettled : done settled w ≡ false
  pub within : behind ≤ length entries
  pub only : (v : ℕ) → OnList entries behind v → OnList entries at v
  pub kept : (v : ℕ) → OnList entries at v → done settled v ≡ false → OnList entries behind v ⊎ (v ≡ w)

-- the least sum from `low` on in whose list a wire waits that isn't settled, the first such wire, and where the rest of the list begins
pub record IsFirstListed (heads : List ℕ) (entries : List Waiting) (settled : List Bool) (low s w behind : ℕ) : Type 0 where
  pub within : s < 1024
  pub from : low ≤ s
  pub first : IsFirstOpen entries settled (slice_index heads s) w behind
  pub least : (t v : ℕ) → low ≤ t → t < s → Listed heads entries t v → done settled v ≡ true

-- the wire w was taken from the heap, the first that isn't settled
pub record IsFirstFar (settled : List Bool) (old new : List Entry) (s w : ℕ) : Type 0 where
  pub there : Contains old (entry s w)
  pub unsettled : done settled w ≡ false
  pub least : (t v : ℕ) → Contains old (entry t v) → done settled v ≡ false → s ≤ t
  pub only : (t v : ℕ) → Contains new (entry t v) → Contains old (entry t v)
  pub kept : (t v : ℕ) → Contains old (entry t v) → done settled v ≡ false → Contains new (entry t v) ⊎ (v ≡ w)
