-- The queue of open wires: what an entry pushed and an entry popped leave.
use Rattle.std.proofs.Common.{◌≡◌, ◌≢◌, ℕ, zero, suc, ◌+◌, ◌≤◌, ◌<◌, Bool, true, false, cond, List, [], ◌∷◌, Option, Some, None, length, get_or, slice_set, refl, sym, ap, ◌∙◌, subst, arith, inl, inr, ◌⊎◌, get_or-set_same, get_or-set_other}
use Rattle.std.proofs.lemmas.Bool.{cases_eq, cases_lt, false≢true, lt-ltb}
use Rattle.std.proofs.lemmas.List.Sorted.{All-permutation, Contains-permutation, IsPermutation-sym}
use Rattle.std.proofs.lemmas.List.Elements.{All-cons, All-weaker, All-contains, All-contains_itself, All-from_recursion}
use Rattle.std.specs.List.{All, Contains}
use Rattle.std.specs.List.Sorted.{IsPermutation}
use Rattle.std.specs.BinaryHeap.{IsUpperBound, heap_items}
use Rattle.std.specs.Ordering.{nat_cmp, ordering_then, is_lt}
use Rattle.std.specs.declared.cmp.Ordering.TheVariants.{Less, Equal, Greater}
use Rattle.std.specs.Prelude.{eqb, min, slice_index, IfSome, IfNone}
use Rattle.ice_path.specs.declared.queue.Queue.{Queue}
use Rattle.ice_path.specs.declared.queue.Waiting.{Waiting}
use Rattle.ice_path.specs.Queue.{Adds, AreLists, Entry, IsFirstFar, IsFirstListed, IsQueue, Listed, OnList, Waits, entry, sooner, done}
use Rattle.ice_path.specs.Search.{label, IsLeastOpen, Lowers, Queues}
use Rattle.ice_path.proofs.Listing.{put, joined, listed_kept, listed_there, listed_old, listed_cases}
use Rattle.ice_path.proofs.Relaxing.{label_within, lowered_all, lowered_made}

contains_head : (x : Entry) (xs : List Entry) → Contains (x ∷ xs) x
contains_head x xs = (0, omega arith, refl)

contains_tail : (x y : Entry) (xs : List Entry) → Contains xs x → Contains (y ∷ xs) x
contains_tail x y xs h = (suc h.0, omega (arith, h.1), h.2)

contains_cases : (x y : Entry) (xs : List Entry) → Contains (y ∷ xs) x → (y ≡ x) ⊎ Contains xs x
contains_cases x y xs h = go h.0 h.1 h.2
  where
    go : (k : ℕ) → k < length (y ∷ xs) → get_or (y ∷ xs) k x ≡ x → (y ≡ x) ⊎ Contains xs x
    go zero lt is = inl is
    go (suc k) lt is = inr (k, omega arith, is)

-- the entry popped first has the least sum
pub least_entry : (x : Entry) (xs : List Entry) → IsUpperBound sooner x xs → All (λ (y : Entry). x.0.0 ≤ y.0.0) xs
least_entry x xs h = All-weaker (λ y. is_lt (sooner x y) ≡ false) (λ y. x.0.0 ≤ y.0.0) at_most xs (All-from_recursion (λ y. is_lt (sooner x y) ≡ false) xs h)
  where
    at_most : (y : Entry) → is_lt (sooner x y) ≡ false → x.0.0 ≤ y.0.0
    at_most y is = elim (cases_lt y.0.0 x.0.0) [
      | inl less ↦ absurd (false≢true (sym is ∙ ap (λ b. is_lt (ordering_then (cond b Less (cond (eqb y.0.0 x.0.0) Equal Greater)) (nat_cmp x.1 y.1))) (lt-ltb y.0.0 x.0.0 less)))
      | inr le ↦ le
    ]

-- what is left of a heap from which settled wires alone were taken
pub record GoesDown (settled : List Bool) (old new : List Entry) : Type 0 where
  pub only : (t v : ℕ) → Contains new (entry t v) → Contains old (entry t v)
  pub kept : (t v : ℕ) → Contains old (entry t v) → done settled v ≡ false → Contains new (entry t v)

pub goes_none : (settled : List Bool) (items : List Entry) → GoesDown settled items items
goes_none settled items = record { only = λ t v has. has; kept = λ t v has open'. has }

module _ (settled : List Bool) (old now next : List Entry) (s w : ℕ) (h : GoesDown settled old now) (perm : IsPermutation now (entry s w ∷ next)) where
  taken : (t v : ℕ) → Contains now (entry t v) → (entry s w ≡ entry t v) ⊎ Contains next (entry t v)
  taken t v has = contains_cases (entry t v) (entry s w) next (Contains-permutation now (entry s w ∷ next) (entry t v) perm has)

  stays : (t v : ℕ) → Contains next (entry t v) → Contains now (entry t v)
  stays t v has = Contains-permutation (entry s w ∷ next) now (entry t v) (IsPermutation-sym now (entry s w ∷ next) perm) (contains_tail (entry t v) (entry s w) next has)

  top_in : Contains now (entry s w)
  top_in = Contains-permutation (entry s w ∷ next) now (entry s w) (IsPermutation-sym now (entry s w ∷ next) perm) (contains_head (entry s w) next)

  pub top_within : (n : ℕ) → All (λ (x : Entry). x.1 < n) old → w < n
  top_within n all = All-contains (λ (x : Entry). x.1 < n) old (entry s w) all (h.only s w top_in)

  pub goes_down : done settled w ≡ true → GoesDown settled old next
  goes_down shut = record {
    only = λ t v has. h.only t v (stays t v has);
    kept = λ t v has open'. elim (taken t v (h.kept t v has open')) [
      | inl same ↦ absurd (false≢true (sym open' ∙ (ap (λ (x : Entry). done settled x.1) (sym same) ∙ shut)))
      | inr there ↦ there
    ];
  }

  pub first_far : done settled w ≡ false → IsUpperBound sooner (entry s w) now → IsFirstFar settled old next s w
  first_far open' top = record {
    there = h.only s w top_in;
    unsettled = open';
    least = λ t v has is. All-contains (λ (y : Entry). s ≤ y.0.0) now (entry t v) (least_entry (entry s w) now top) (h.kept t v has is);
    only = λ t v has. h.only t v (stays t v has);
    kept = λ t v has is. elim (taken t v (h.kept t v has is)) [
      | inl same ↦ inr (ap (λ (x : Entry). x.1) (sym same))
      | inr there ↦ inl there
    ];
  }

-- of an empty heap nothing is left
pub far_none : (settled : List Bool) (old now : List Entry) → GoesDown settled old now → now ≡ [] → (t v : ℕ) → Contains old (entry t v) → done settled v ≡ true
far_none settled old now h empty t v has = by (done settled v) refl
  where
    by : (b : Bool) → done settled v ≡ b → b ≡ true
    by true is = refl
    by false is = (let none = subst (λ (xs : List Entry). Contains xs (entry t v)) empty (h.kept t v has is) in absurd (omega (arith, none.1)))

-- the same lists by other names
pub same_lists : (hs ks : List ℕ) (es fs : List Waiting) → hs ≡ ks → es ≡ fs → (s w : ℕ) → Listed hs es s w → Listed ks fs s w
same_lists hs ks es fs heads entries s w on = subst (λ (xs : List ℕ). Listed xs fs s w) heads (subst (λ (xs : List Waiting). Listed hs xs s w) entries on)

-- what is left of a heap has high sums, too
pub high_left : (old new : List Entry) → ((t v : ℕ) → Contains new (entry t v) → Contains old (entry t v)) → All (λ (x : Entry). 1024 ≤ x.0.0) old → All (λ (x : Entry). 1024 ≤ x.0.0) new
high_left old new only h = All-weaker (Contains new) (λ (x : Entry). 1024 ≤ x.0.0) (λ x has. All-contains (λ (y : Entry). 1024 ≤ y.0.0) old x h (only x.0.0 x.1 has)) new (All-contains_itself new)

pub min_left : (a b : ℕ) → min a b ≤ a
min_left a b = omega arith

pub min_right : (a b : ℕ) → min a b ≤ b
min_right a b = omega arith

-- a queue whose heap alone got an entry
pub adds_far : (old new : Queue) (s w : ℕ) → new.heads.items ≡ old.heads.items → new.entries.items ≡ old.entries.items → new.low ≡ old.low
    → IsPermutation (entry s w ∷ heap_items old.far) (heap_items new.far) → Adds old new s w
adds_far old new s w heads entries low perm =
    let back = IsPermutation-sym (entry s w ∷ heap_items old.far) (heap_items new.far) perm in
    let there : (t v : ℕ) → Listed old.heads.items old.entries.items t v → Listed new.heads.items new.entries.items t v = λ t v on. subst (λ (hs : List ℕ). Listed hs new.entries.items t v) (sym heads) (subst (λ (es : List Waiting). Listed old.heads.items es t v) (sym entries) on) in
    let here : (t v : ℕ) → Listed new.heads.items new.entries.items t v → Listed old.heads.items old.entries.items t v = λ t v on. subst (λ (hs : List ℕ). Listed hs old.entries.items t v) heads (subst (λ (es : List Waiting). Listed new.heads.items es t v) entries on) in
    record {
      kept = λ t v waits. elim waits [
        | inl on ↦ inl (there t v on)
        | inr has ↦ inr (Contains-permutation (entry s w ∷ heap_items old.far) (heap_items new.far) (entry t v) perm (contains_tail (entry t v) (entry s w) (heap_items old.far) has))
      ];
      there = inr (Contains-permutation (entry s w ∷ heap_items old.far) (heap_items new.far) (entry s w) perm (contains_head (entry s w) (heap_items old.far)));
      only = λ t v waits. elim waits [
        | inl on ↦ inl (inl (here t v on))
        | inr has ↦ elim (contains_cases (entry t v) (entry s w) (heap_items old.far) (Contains-permutation (heap_items new.far) (entry s w ∷ heap_items old.far) (entry t v) back has)) [
          | inl same ↦ inr (ap (λ (x : Entry). x.0.0) (sym same), ap (λ (x : Entry). x.1) (sym same))
          | inr old' ↦ inl (inr old')
        ]
      ];
      low = λ t v lt on. (omega (arith, lt, low), here t v on);
    }

-- a queue of which a list alone got an entry
pub adds_near : (old new : Queue) (s w : ℕ) → s < 1024 → AreLists old.heads.items old.entries.items → new.heads.items ≡ put old.heads.items old.entries.items s → new.entries.items ≡ joined old.heads.items old.entries.items s w
    → new.low ≤ old.low → new.low ≤ s → heap_items new.far ≡ heap_items old.far → Adds old new s w
adds_near old new s w lt lists heads entries low_old low_s far =
    let there : (t v : ℕ) → Listed (put old.heads.items old.entries.items s) (joined old.heads.items old.entries.items s w) t v → Listed new.heads.items new.entries.items t v =
    λ t v on. subst (λ (hs : List ℕ). Listed hs new.entries.items t v) (sym heads) (subst (λ (es : List Waiting). Listed (put old.heads.items old.entries.items s) es t v) (sym entries) on) in
    let here : (t v : ℕ) → Listed new.heads.items new.entries.items t v → Listed (put old.heads.items old.entries.items s) (joined old.heads.items old.entries.items s w) t v =
    λ t v on. subst (λ (hs : List ℕ). Listed hs (joined old.heads.items old.entries.items s w) t v) heads (subst (λ (es : List Waiting). Listed new.heads.items es t v) entries on) in
    record {
      kept = λ t v waits. elim waits [
        | inl on ↦ inl (there t v (listed_kept old.heads.items old.entries.items s w lt lists t v on))
        | inr has ↦ inr (subst (λ (xs : List Entry). Contains xs (entry t v)) (sym far) has)
      ];
      there = inl (there s w (listed_there old.heads.items old.entries.items s w lt lists));
      only = λ t v waits. elim waits [
        | inl on ↦ elim (listed_cases old.heads.items old.entries.items s w lt lists t v (here t v on)) [
          | inl on' ↦ inl (inl on')
          | inr is ↦ inr is
        ]
        | inr has ↦ inl (inr (subst (λ (xs : List Entry). Contains xs (entry t v)) far has))
      ];
      low = λ t v t_lt on. (omega (arith, t_lt, low_old), listed_old old.heads.items old.entries.items s w lt lists t v (λ same. omega (arith, same, t_lt, low_s)) (here t v on));
    }

-- the high sums of the heap, with one more
pub high_more : (old new : List Entry) (s w : ℕ) → 1024 ≤ s → IsPermutation (entry s w ∷ old) new → All (λ (x : Entry). 1024 ≤ x.0.0) old → All (λ (x : Entry). 1024 ≤ x.0.0) new
high_more old new s w le perm h = All-permutation (λ (x : Entry). 1024 ≤ x.0.0) (entry s w ∷ old) new perm (All-cons (λ (x : Entry). 1024 ≤ x.0.0) (entry s w) old le h)

-- what waits in the heap waits in the queue
pub far_within : (q : Queue) (n : ℕ) → ((s w : ℕ) → Waits q s w → w < n) → All (λ (x : Entry). x.1 < n) (heap_items q.far)
far_within q n within = All-weaker (Contains (heap_items q.far)) (λ (x : Entry). x.1 < n) (λ x has. within x.0.0 x.1 (inr has)) (heap_items q.far) (All-contains_itself (heap_items q.far))

pub first_within : (settled : List Bool) (q : Queue) (new : List Entry) (n : ℕ) → ((s w : ℕ) → Waits q s w → w < n) → (o : Option (ℕ × ℕ)) → IfSome o (λ r. IsFirstFar settled (heap_items q.far) new r.1 r.0) → IfSome o (λ r. r.0 < n)
first_within settled q new n within None some = tt
first_within settled q new n within (Some r) some = within r.1 r.0 (inr some.there)

module _ (bound : ℕ → ℕ) where
  -- a label that is lowered, and its entry put in
  pub pushed : (settled : List Bool) (labels new : List (Option ℕ)) (w d : ℕ) (queue next : Queue) → w < length labels → Lowers labels new w d → label new w ≡ Some d
      → Adds queue next (d + bound w) w → Queues bound settled labels queue → Queues bound settled new next
  pushed settled labels new w d queue next lt low is adds h = record {
    waits = λ v l at v_open. elim (lowered_made labels new w d v l lt low at) [
      | inl before ↦ adds.kept (l + bound v) v (h.waits v l before v_open)
      | inr t ↦ (
          let same : d + bound w ≡ l + bound v = (let a : bound w ≡ bound v = ap bound (sym t.0) in omega (arith, a, t.1)) in
          subst (λ x. Waits next (l + bound v) x) (sym t.0) (subst (λ x. Waits next x w) same adds.there))
    ];
    sound = λ s v waits. elim (adds.only s v waits) [
      | inl before ↦ (let t = h.sound s v before in let u = lowered_all labels new w d v t.0 lt low t.1 in (u.0, u.1, omega (arith, u.2, t.2)))
      | inr t ↦ (d, (ap (label new) t.1 ∙ is), (let a : bound v ≡ bound w = ap bound t.1 in omega (arith, t.0, a)))
    ];
    low = λ s v s_lt on. (let t = adds.low s v s_lt on in h.low s v t.0 t.1);
  }

  -- an open wire with a label waits in a list or in the heap, each with a sum that its label makes
  pub waits_by : (settled : List Bool) (labels : List (Option ℕ)) (q : Queue) → Queues bound settled labels q → (s w : ℕ) → Waits q s w → w < length labels
  waits_by settled labels q h s w waits = let t = h.sound s w waits in label_within labels w t.0 t.1

  -- a wire is settled, and what was settled stays so
  opened : (settled : List Bool) (w v : ℕ) → w < length settled → done (slice_set settled w true) v ≡ false → (done settled v ≡ false) × (v ≢ w)
  opened settled w v lt open' =
      let other : v ≢ w = (λ same. false≢true (sym open' ∙ (ap (done (slice_set settled w true)) same ∙ get_or-set_same settled w true false lt))) in
      (sym (get_or-set_other settled w v true false other) ∙ open', other)

  stays_shut : (settled : List Bool) (w v : ℕ) → w < length settled → done settled v ≡ true → done (slice_set settled w true) v ≡ true
  stays_shut settled w v lt shut = elim (cases_eq v w) [
    | inl same ↦ ap (done (slice_set settled w true)) same ∙ get_or-set_same settled w true false lt
    | inr other ↦ get_or-set_other settled w v true false other ∙ shut
  ]

  module _ (settled : List Bool) (labels : List (Option ℕ)) (q new : Queue) (long : length settled ≡ length labels) (h : Queues bound settled labels q) (is : IsQueue q) where
    module _ (s w behind : ℕ) (first : IsFirstListed q.heads.items q.entries.items settled q.low s w behind) where
      -- an open wire waits under no lower sum
      near_least : (t v : ℕ) → Waits q t v → done settled v ≡ false → s ≤ t
      near_least t v waits open' = elim waits [
        | inl on ↦ elim (cases_lt t s) [
          | inl less ↦ elim (cases_lt t q.low) [
            | inl low ↦ absurd (false≢true (sym open' ∙ h.low t v low on))
            | inr from ↦ absurd (false≢true (sym open' ∙ first.least t v from less on))
          ]
          | inr le ↦ le
        ]
        | inr has ↦ (let high = All-contains (λ (x : Entry). 1024 ≤ x.0.0) (heap_items q.far) (entry t v) is.high has in omega (arith, high, first.within))
      ]

      pub near_open : IsLeastOpen bound labels settled (Some (w, s))
      near_open =
          let t = h.sound s w (inl first.first.there) in
          let le = near_least (t.0 + bound w) w (h.waits w t.0 t.1 first.first.unsettled) first.first.unsettled in
          ((t.0, t.1, omega (arith, le, t.2)), first.first.unsettled, λ v k at open'. near_least (k + bound v) v (h.waits v k at open') open')

      pub near_within : w < length labels
      near_within = waits_by settled labels q h s w (inl first.first.there)

      module _ (heads : new.heads.items ≡ slice_set q.heads.items s behind) (entries : new.entries.items ≡ q.entries.items) (low : new.low ≡ s) (far : heap_items new.far ≡ heap_items q.far) where
        head_is : slice_index new.heads.items s ≡ behind
        head_is = ap (λ hs. slice_index hs s) heads ∙ get_or-set_same q.heads.items s behind 0 (let lt = first.within in let n = is.lists.long in omega (arith, lt, n))

        other_head : (t : ℕ) → t ≢ s → slice_index new.heads.items t ≡ slice_index q.heads.items t
        other_head t other = ap (λ hs. slice_index hs t) heads ∙ get_or-set_other q.heads.items s t behind 0 other

        was_listed : (t v : ℕ) → Listed new.heads.items new.entries.items t v → Listed q.heads.items q.entries.items t v
        was_listed t v on =
            let here : OnList q.entries.items (slice_index new.heads.items t) v = subst (λ (es : List Waiting). OnList es (slice_index new.heads.items t) v) entries on in
            elim (cases_eq t s) [
              | inl same ↦ subst (λ k. OnList q.entries.items (slice_index q.heads.items k) v) (sym same) (first.first.only v (subst (λ k. OnList q.entries.items k v) (ap (slice_index new.heads.items) same ∙ head_is) here))
              | inr other ↦ subst (λ k. OnList q.entries.items k v) (other_head t other) here
            ]

        stays_listed : (t v : ℕ) → Listed q.heads.items q.entries.items t v → done settled v ≡ false → v ≢ w → Listed new.heads.items new.entries.items t v
        stays_listed t v on open' other =
            subst (λ (es : List Waiting). OnList es (slice_index new.heads.items t) v) (sym entries) (elim (cases_eq t s) [
              | inl same ↦ elim (first.first.kept v (subst (λ k. OnList q.entries.items (slice_index q.heads.items k) v) same on) open') [
                | inl rest ↦ subst (λ k. OnList q.entries.items k v) (sym (ap (slice_index new.heads.items) same ∙ head_is)) rest
                | inr is_w ↦ absurd (other is_w)
              ]
              | inr else' ↦ subst (λ k. OnList q.entries.items k v) (sym (other_head t else')) on
            ])

        pub near_queues : Queues bound (slice_set settled w true) labels new
        near_queues = record {
          waits = λ v l at open'. (
              let o = opened settled w v (omega (arith, near_within, long)) open' in
              elim (h.waits v l at o.0) [
                | inl on ↦ inl (stays_listed (l + bound v) v on o.0 o.1)
                | inr has ↦ inr (subst (λ (xs : List Entry). Contains xs (entry (l + bound v) v)) (sym far) has)
              ]);
          sound = λ t v waits. elim waits [
            | inl on ↦ h.sound t v (inl (was_listed t v on))
            | inr has ↦ h.sound t v (inr (subst (λ (xs : List Entry). Contains xs (entry t v)) far has))
          ];
          low = λ t v lt on. (
              let old' = was_listed t v on in
              stays_shut settled w v (omega (arith, near_within, long)) (elim (cases_lt t q.low) [
                | inl less ↦ h.low t v less old'
                | inr from ↦ first.least t v from (omega (arith, lt, low)) old'
              ]));
        }

    module _ (none : (s w : ℕ) → q.low ≤ s → Listed q.heads.items q.entries.items s w → done settled w ≡ true) where
      all_shut : (t v : ℕ) → Listed q.heads.items q.entries.items t v → done settled v ≡ true
      all_shut t v on = elim (cases_lt t q.low) [
        | inl less ↦ h.low t v less on
        | inr from ↦ none t v from on
      ]

      open_far : (t v : ℕ) → Waits q t v → done settled v ≡ false → Contains (heap_items q.far) (entry t v)
      open_far t v waits open' = elim waits [
        | inl on ↦ absurd (false≢true (sym open' ∙ all_shut t v on))
        | inr has ↦ has
      ]

      pub far_open : (o : Option (ℕ × ℕ)) → IfSome o (λ r. IsFirstFar settled (heap_items q.far) (heap_items new.far) r.1 r.0) → IfNone o ((t v : ℕ) → Contains (heap_items q.far) (entry t v) → done settled v ≡ true) → IsLeastOpen bound labels settled o
      far_open None some none' = λ v k at. by v k at (done settled v) refl
        where
          by : (v k : ℕ) → label labels v ≡ Some k → (b : Bool) → done settled v ≡ b → b ≡ true
          by v k at true shut = refl
          by v k at false open' = absurd (false≢true (sym open' ∙ none' (k + bound v) v (open_far (k + bound v) v (h.waits v k at open') open')))
      far_open (Some r) some none' =
          let t = h.sound r.1 r.0 (inr some.there) in
          let least = λ (v k : ℕ) (at : label labels v ≡ Some k) (open' : done settled v ≡ false). some.least (k + bound v) v (open_far (k + bound v) v (h.waits v k at open') open') open' in
          let le : r.1 ≤ t.0 + bound r.0 = least r.0 t.0 t.1 some.unsettled in
          ((t.0, t.1, omega (arith, le, t.2)), some.unsettled, least)

      pub far_below : (o : Option (ℕ × ℕ)) → IfSome o (λ r. IsFirstFar settled (heap_items q.far) (heap_items new.far) r.1 r.0) → IfSome o (λ r. r.0 < length labels)
      far_below None some = tt
      far_below (Some r) some = waits_by settled labels q h r.1 r.0 (inr some.there)

      pub far_queues : new.heads.items ≡ q.heads.items → new.entries.items ≡ q.entries.items → (o : Option (ℕ × ℕ)) → IfSome o (λ r. IsFirstFar settled (heap_items q.far) (heap_items new.far) r.1 r.0)
          → IfSome o (λ r. Queues bound (slice_set settled r.0 true) labels new)
      far_queues heads entries None some = tt
      far_queues heads entries (Some r) some =
          let lt : r.0 < length settled = (let le = far_below (Some r) some in omega (arith, le, long)) in
          let was : (t v : ℕ) → Listed new.heads.items new.entries.items t v → Listed q.heads.items q.entries.items t v =
          λ t v on. subst (λ (hs : List ℕ). Listed hs q.entries.items t v) heads (subst (λ (es : List Waiting). Listed new.heads.items es t v) entries on) in
          record {
            waits = λ v l at open'. (
                let o = opened settled r.0 v lt open' in
                elim (some.kept (l + bound v) v (open_far (l + bound v) v (h.waits v l at o.0) o.0) o.0) [
                  | inl has ↦ inr has
                  | inr same ↦ absurd (o.1 same)
                ]);
            sound = λ t v waits. elim waits [
              | inl on ↦ h.sound t v (inl (was t v on))
              | inr has ↦ h.sound t v (inr (some.only t v has))
            ];
            low = λ t v t_lt on. stays_shut settled r.0 v lt (all_shut t v (was t v on));
          }

-- a label that is set where it was higher
pub lowers_by_set : (labels : List (Option ℕ)) (w d : ℕ) → ((l : ℕ) → label labels w ≡ Some l → d < l) → Lowers labels (slice_set labels w (Some d)) w d
lowers_by_set labels w d h = inl (refl, h)

pub marked : (bound : ℕ → ℕ) (labels : List (Option ℕ)) (w d : ℕ) (queue next : Queue) → w < length labels → ((l : ℕ) → label labels w ≡ Some l → d < l) → Adds queue next (d + bound w) w
    → (settled : List Bool) → Queues bound settled labels queue → Queues bound settled (slice_set labels w (Some d)) next
marked bound labels w d queue next lt h adds settled q = pushed bound settled labels (slice_set labels w (Some d)) w d queue next lt (lowers_by_set labels w d h) (get_or-set_same labels w (Some d) None lt) adds q
