-- Lists of waiting wires: what an entry put in, and the first one taken out, leave.
use Rattle.std.proofs.Common.{◌≡◌, ◌≢◌, ℕ, zero, suc, ◌+◌, ◌-◌, ◌≤◌, ◌<◌, Bool, true, false, get_or, List, [], ◌∷◌, ◌++◌, Some, length, slice_get, slice_index, slice_set, refl, sym, ap, ◌∙◌, subst, arith, inl, inr, ◌⊎◌, get_or-set_same, get_or-set_other, length-set}
use Rattle.std.proofs.lemmas.Bool.{cases_eq, cases_lt, false≢true}
use Rattle.std.proofs.lemmas.Option.{slice_get-get_or}
use Rattle.std.proofs.lemmas.List.{length_push}
use Rattle.std.proofs.lemmas.List.Elements.{All-nil}
use Rattle.std.specs.List.{All}
use Rattle.ice_base_values.proofs.Places.{At_push_cases, At_push_old, At_push_new}
use Rattle.ice_path.specs.declared.queue.Waiting.{Waiting}
use Rattle.ice_path.specs.Queue.{AreLists, Entry, IsFirstOpen, LeadDown, Listed, OnList, StandsBelow, done}

-- nothing stands below the place 0
pub none_at : (entries : List Waiting) (w : ℕ) → OnList entries 0 w → ⊥
none_at entries w h = go h.0 h.1
  where
    go : (n : ℕ) → StandsBelow entries n 0 w → ⊥
    go zero t = omega (arith, t.2)
    go (suc n) t = omega (arith, t.2)

module _ (entries : List Waiting) (i : ℕ) (e : Waiting) (at : slice_get entries i ≡ Some e) where
  same_entry : (j : ℕ) (d : Waiting) → suc i ≡ suc j → slice_get entries j ≡ Some d → d ≡ e
  same_entry j d is here =
      let same : j ≡ i = omega (arith, is) in
      let both : Some d ≡ Some e = sym here ∙ (ap (λ k. slice_get entries k) same ∙ at) in
      (cc)

  -- below a place stands the wire of the entry there, or what stands behind it
  pub at_cases : (w : ℕ) → OnList entries (suc i) w → (w ≡ e.wire) ⊎ OnList entries e.behind w
  at_cases w h = go h.0 h.1
    where
      go : (n : ℕ) → StandsBelow entries n (suc i) w → (w ≡ e.wire) ⊎ OnList entries e.behind w
      go zero t = inl (sym t.4 ∙ ap (λ (x : Waiting). x.wire) (same_entry t.0 t.1 t.2 t.3))
      go (suc n) t = inr (n, subst (λ (x : Waiting). StandsBelow entries n x.behind w) (same_entry t.0 t.1 t.2 t.3) t.4)

  pub at_head : OnList entries (suc i) e.wire
  at_head = let t : StandsBelow entries zero (suc i) e.wire = (i, e, refl, at, refl) in (zero, t)

  pub at_behind : (w : ℕ) → OnList entries e.behind w → OnList entries (suc i) w
  at_behind w h = let t : StandsBelow entries (suc h.0) (suc i) w = (i, e, refl, at, h.1) in (suc h.0, t)

module _ (entries : List Waiting) (x : Waiting) where
  -- what is put in later leaves each list as it is
  pub kept_by_push : (at w : ℕ) → OnList entries at w → OnList (entries ++ x ∷ []) at w
  kept_by_push at w h = (h.0, go h.0 at h.1)
    where
      go : (n at : ℕ) → StandsBelow entries n at w → StandsBelow (entries ++ x ∷ []) n at w
      go zero at t = (t.0, t.1, t.2, At_push_old entries x t.0 t.1 t.3, t.4)
      go (suc n) at t = (t.0, t.1, t.2, At_push_old entries x t.0 t.1 t.3, go n t.1.behind t.4)

  older : (at i : ℕ) (e : Waiting) → at ≤ length entries → at ≡ suc i → slice_get (entries ++ x ∷ []) i ≡ Some e → slice_get entries i ≡ Some e
  older at i e le is here = elim (At_push_cases entries x i e here) [ inl old ↦ old | inr t ↦ absurd (omega (arith, t.0, le, is)) ]

  pub old_by_push : LeadDown entries → (at w : ℕ) → at ≤ length entries → OnList (entries ++ x ∷ []) at w → OnList entries at w
  old_by_push down at w le h = (h.0, go h.0 at le h.1)
    where
      go : (n at : ℕ) → at ≤ length entries → StandsBelow (entries ++ x ∷ []) n at w → StandsBelow entries n at w
      go zero at le t = (t.0, t.1, t.2, older at t.0 t.1 le t.2 t.3, t.4)
      go (suc n) at le t =
          let here = older at t.0 t.1 le t.2 t.3 in
          (t.0, t.1, t.2, here, go n t.1.behind (omega (arith, down t.0 t.1 here, t.2, le)) t.4)

-- an entry put in before the others of its list
abbrev pub put : List ℕ → List Waiting → ℕ → List ℕ
put heads entries s = slice_set heads s (length entries + 1)

abbrev pub joined : List ℕ → List Waiting → ℕ → ℕ → List Waiting
joined heads entries s w = entries ++ record { wire = w; behind = slice_index heads s } ∷ []

head_is : (heads : List ℕ) (entries : List Waiting) (s : ℕ) → s < length heads → slice_index (put heads entries s) s ≡ suc (length entries)
head_is heads entries s lt = let e = get_or-set_same heads s (length entries + 1) 0 lt in omega (arith, e)

other_head : (heads : List ℕ) (entries : List Waiting) (s t : ℕ) → t ≢ s → slice_index (put heads entries s) t ≡ slice_index heads t
other_head heads entries s t other = get_or-set_other heads s t (length entries + 1) 0 other

pub lists_more : (heads : List ℕ) (entries : List Waiting) (s w : ℕ) → s < 1024 → AreLists heads entries → AreLists (put heads entries s) (joined heads entries s w)
lists_more heads entries s w lt h =
    let x : Waiting = record { wire = w; behind = slice_index heads s } in
    let pushed = length_push entries x in
    let more : length (entries ++ x ∷ []) ≡ suc (length entries) = omega (arith, pushed) in
    record {
      long = length-set heads s (length entries + 1) ∙ h.long;
      heads_in = λ t. elim (cases_eq t s) [
        | inl same ↦ (let e = head_is heads entries s (omega (arith, lt, h.long)) in let at : slice_index (put heads entries s) t ≡ slice_index (put heads entries s) s = ap (slice_index (put heads entries s)) same in omega (arith, e, at, more))
        | inr other ↦ (let e = other_head heads entries s t other in let le = h.heads_in t in omega (arith, e, le, more))
      ];
      down = λ i e at. elim (At_push_cases entries x i e at) [
        | inl old ↦ h.down i e old
        | inr t ↦ (let le = h.heads_in s in let is : slice_index heads s ≡ e.behind = ap (λ (y : Waiting). y.behind) t.1 in omega (arith, le, is, t.0))
      ];
    }

module _ (heads : List ℕ) (entries : List Waiting) (s w : ℕ) (lt : s < 1024) (h : AreLists heads entries) where
  long : s < length heads
  long = omega (arith, lt, h.long)

  pub listed_kept : (t v : ℕ) → Listed heads entries t v → Listed (put heads entries s) (joined heads entries s w) t v
  listed_kept t v on = elim (cases_eq t s) [
    | inl same ↦ (
        let x : Waiting = record { wire = w; behind = slice_index heads s } in
        let here : OnList entries (slice_index heads s) v = subst (λ k. OnList entries (slice_index heads k) v) same on in
        let at = at_behind (joined heads entries s w) (length entries) x (At_push_new entries x) v (kept_by_push entries x (slice_index heads s) v here) in
        subst (λ k. OnList (joined heads entries s w) (slice_index (put heads entries s) k) v) (sym same) (subst (λ k. OnList (joined heads entries s w) k v) (sym (head_is heads entries s long)) at))
    | inr other ↦ subst (λ k. OnList (joined heads entries s w) k v) (sym (other_head heads entries s t other)) (kept_by_push entries (record { wire = w; behind = slice_index heads s }) (slice_index heads t) v on)
  ]

  pub listed_there : Listed (put heads entries s) (joined heads entries s w) s w
  listed_there =
      let x : Waiting = record { wire = w; behind = slice_index heads s } in
      subst (λ k. OnList (joined heads entries s w) k w) (sym (head_is heads entries s long)) (at_head (joined heads entries s w) (length entries) x (At_push_new entries x))

  pub listed_old : (t v : ℕ) → t ≢ s → Listed (put heads entries s) (joined heads entries s w) t v → Listed heads entries t v
  listed_old t v other on = old_by_push entries (record { wire = w; behind = slice_index heads s }) h.down (slice_index heads t) v (h.heads_in t) (subst (λ k. OnList (joined heads entries s w) k v) (other_head heads entries s t other) on)

  pub listed_cases : (t v : ℕ) → Listed (put heads entries s) (joined heads entries s w) t v → Listed heads entries t v ⊎ ((t ≡ s) × (v ≡ w))
  listed_cases t v on = elim (cases_eq t s) [
    | inl same ↦ (
        let x : Waiting = record { wire = w; behind = slice_index heads s } in
        let here : OnList (joined heads entries s w) (suc (length entries)) v = subst (λ k. OnList (joined heads entries s w) k v) (head_is heads entries s long) (subst (λ k. OnList (joined heads entries s w) (slice_index (put heads entries s) k) v) same on) in
        elim (at_cases (joined heads entries s w) (length entries) x (At_push_new entries x) v here) [
          | inl is ↦ inr (same, is)
          | inr behind ↦ inl (subst (λ k. OnList entries (slice_index heads k) v) (sym same) (old_by_push entries x h.down (slice_index heads s) v (h.heads_in s) behind))
        ])
    | inr other ↦ inl (listed_old t v other on)
  ]

-- a list begins elsewhere, no further on
pub lists_cut : (heads : List ℕ) (entries : List Waiting) (s at : ℕ) → at ≤ length entries → s < 1024 → AreLists heads entries → AreLists (slice_set heads s at) entries
lists_cut heads entries s at le lt h = record {
  long = length-set heads s at ∙ h.long;
  heads_in = λ t. elim (cases_eq t s) [
    | inl same ↦ (let e = get_or-set_same heads s at 0 (omega (arith, lt, h.long)) in let is : slice_index (slice_set heads s at) t ≡ slice_index (slice_set heads s at) s = ap (slice_index (slice_set heads s at)) same in omega (arith, e, is, le))
    | inr other ↦ (let e = get_or-set_other heads s t at 0 other in let was = h.heads_in t in omega (arith, e, was))
  ];
  down = h.down;
}

-- where no list begins
pub lists_none : (heads : List ℕ) (entries : List Waiting) → length heads ≡ 1024 → ((s : ℕ) → slice_index heads s ≡ 0) → entries ≡ [] → AreLists heads entries
lists_none heads entries long none empty = record {
  long = long;
  heads_in = λ s. (let e = none s in omega (arith, e));
  down = λ i e at. (let bad = subst (λ (es : List Waiting). slice_get es i ≡ Some e) empty at in absurd (cc));
}

pub none_high : (entries : List Entry) → entries ≡ [] → All (λ (x : Entry). 1024 ≤ x.0.0) entries
none_high entries empty = subst (All (λ (x : Entry). 1024 ≤ x.0.0)) (sym empty) (All-nil (λ (x : Entry). 1024 ≤ x.0.0))

-- below the place `rest`, which is no further on than `head`, stand all wires of the list that aren't settled, and none but wires of the list
pub record GoesOn (entries : List Waiting) (settled : List Bool) (head rest : ℕ) : Type 0 where
  pub within : rest ≤ length entries
  pub only : (w : ℕ) → OnList entries rest w → OnList entries head w
  pub kept : (w : ℕ) → OnList entries head w → done settled w ≡ false → OnList entries rest w

pub goes_none : (entries : List Waiting) (settled : List Bool) (head : ℕ) → head ≤ length entries → GoesOn entries settled head head
goes_none entries settled head le = record { within = le; only = λ w on. on; kept = λ w on open'. on }

module _ (entries : List Waiting) (settled : List Bool) (head i : ℕ) (e : Waiting) (at : slice_get entries i ≡ Some e) (down : LeadDown entries) (le : suc i ≤ length entries) (h : GoesOn entries settled head (suc i)) where
  pub goes_on : done settled e.wire ≡ true → GoesOn entries settled head e.behind
  goes_on shut = record {
    within = omega (arith, down i e at, le);
    only = λ w on. h.only w (at_behind entries i e at w on);
    kept = λ w on open'. elim (at_cases entries i e at w (h.kept w on open')) [
      | inl is ↦ absurd (false≢true (sym open' ∙ (ap (done settled) is ∙ shut)))
      | inr behind ↦ behind
    ];
  }

  pub first_is : done settled e.wire ≡ false → IsFirstOpen entries settled head e.wire e.behind
  first_is open' = record {
    there = h.only e.wire (at_head entries i e at);
    unsettled = open';
    within = omega (arith, down i e at, le);
    only = λ w on. h.only w (at_behind entries i e at w on);
    kept = λ w on is. elim (at_cases entries i e at w (h.kept w on is)) [
      | inl same ↦ inr same
      | inr behind ↦ inl behind
    ];
  }

-- at the end of the list
pub goes_home : (entries : List Waiting) (settled : List Bool) (head : ℕ) → GoesOn entries settled head 0 → (w : ℕ) → OnList entries head w → done settled w ≡ true
goes_home entries settled head h w on = by (done settled w) refl
  where
    by : (b : Bool) → done settled w ≡ b → b ≡ true
    by true is = refl
    by false is = absurd (none_at entries w (h.kept w on is))

-- an entry of the list, by the place below which it stands
module _ (entries : List Waiting) (settled : List Bool) (head rest : ℕ) (d : Waiting) (more : 0 < rest) (down : LeadDown entries) (h : GoesOn entries settled head rest) where
  up : suc (rest - 1) ≡ rest
  up = omega (arith, more)

  at_rest : slice_get entries (rest - 1) ≡ Some (get_or entries (rest - 1) d)
  at_rest = slice_get-get_or entries (rest - 1) d (omega (arith, more, h.within))

  so_far : GoesOn entries settled head (suc (rest - 1))
  so_far = subst (GoesOn entries settled head) (sym up) h

  pub entry_in : OnList entries head (get_or entries (rest - 1) d).wire
  entry_in = so_far.only (get_or entries (rest - 1) d).wire (at_head entries (rest - 1) (get_or entries (rest - 1) d) at_rest)

  pub entry_smaller : (get_or entries (rest - 1) d).behind < rest
  entry_smaller = omega (arith, down (rest - 1) (get_or entries (rest - 1) d) at_rest, more)

  pub entry_on : done settled (get_or entries (rest - 1) d).wire ≡ true → GoesOn entries settled head (get_or entries (rest - 1) d).behind
  entry_on shut = goes_on entries settled head (rest - 1) (get_or entries (rest - 1) d) at_rest down (omega (arith, more, h.within)) so_far shut

  pub entry_first : done settled (get_or entries (rest - 1) d).wire ≡ false → IsFirstOpen entries settled head (get_or entries (rest - 1) d).wire (get_or entries (rest - 1) d).behind
  entry_first open' = first_is entries settled head (rest - 1) (get_or entries (rest - 1) d) at_rest down (omega (arith, more, h.within)) so_far open'

-- beyond the heads no list begins
pub heads_past : (heads : List ℕ) (s : ℕ) → length heads ≤ s → slice_index heads s ≡ 0
heads_past [] s le = refl
heads_past (h ∷ heads) zero le = absurd (omega (arith, le))
heads_past (h ∷ heads) (suc s) le = heads_past heads s (omega (arith, le))

pub ended_more : (heads : List ℕ) (n : ℕ) → n < length heads → ((s : ℕ) → s < n → slice_index heads s ≡ 0) → (s : ℕ) → s < n + 1 → slice_index (slice_set heads n 0) s ≡ 0
ended_more heads n n_lt h s lt = elim (cases_eq s n) [
  | inl same ↦ ap (slice_index (slice_set heads n 0)) same ∙ get_or-set_same heads n 0 0 n_lt
  | inr other ↦ get_or-set_other heads n s 0 0 other ∙ h s (grind arith)
]

pub ended_all : (heads : List ℕ) (n : ℕ) → length heads ≤ n → ((s : ℕ) → s < n → slice_index heads s ≡ 0) → (s : ℕ) → slice_index heads s ≡ 0
ended_all heads n le h s = elim (cases_lt s n) [
  | inl less ↦ h s less
  | inr more ↦ heads_past heads s (omega (arith, le, more))
]

-- the lists of the sums from `low` to below n have settled wires alone
abbrev pub AreShut : List ℕ → List Waiting → List Bool → ℕ → ℕ → Type 0
AreShut heads entries settled low n = (t v : ℕ) → low ≤ t → t < n → Listed heads entries t v → done settled v ≡ true

pub shut_more : (heads : List ℕ) (entries : List Waiting) (settled : List Bool) (low n : ℕ) → AreShut heads entries settled low n → ((v : ℕ) → OnList entries (slice_index heads n) v → done settled v ≡ true) → AreShut heads entries settled low (n + 1)
shut_more heads entries settled low n h here t v le lt on = elim (cases_eq t n) [
  | inl same ↦ here v (subst (λ k. OnList entries (slice_index heads k) v) same on)
  | inr other ↦ h t v le (grind arith) on
]

pub shut_all : (heads : List ℕ) (entries : List Waiting) (settled : List Bool) (low n : ℕ) → AreLists heads entries → 1024 ≤ n → AreShut heads entries settled low n → (t v : ℕ) → low ≤ t → Listed heads entries t v → done settled v ≡ true
shut_all heads entries settled low n lists le h t v t_le on = elim (cases_lt t n) [
  | inl less ↦ h t v t_le less on
  | inr more ↦ absurd (none_at entries v (subst (λ k. OnList entries k v) (heads_past heads t (omega (arith, lists.long, le, more))) on))
]
