-- Runs, and the cells that they have beside their carries, by the places of their first carries.
use Rattle.std.proofs.Common.{◌≡◌, ◌⊎◌, ℕ, zero, suc, ◌+◌, ◌<◌, ◌≤◌, Bool, true, false, Some, List, [], ◌∷◌, ◌++◌, length, refl, ap, sym, ◌∙◌, subst, arith, inl, inr}
use Rattle.std.specs.List.{flat_map}
use Rattle.std.proofs.lemmas.List.{length-append}
use Rattle.std.proofs.lemmas.Option.{none-some, same_Some}
use Rattle.ice_base_values.specs.Order.{At, Has, StandOnce}
use Rattle.ice_base_values.proofs.Members.{At_left, At_right, At_parts, Has_none}
use Rattle.ice_base_values.proofs.Once.{once_append}
use Rattle.ice_cells.specs.declared.cell.LogicCell.{LogicCell}
use Rattle.ice_cells.specs.declared.design.Run.{Run}
use Rattle.ice_cells.specs.declared.root.CarryIn.{CarryIn}
use Rattle.ice_cells.specs.declared.root.CarryIn.TheVariants.{Fixed, Read}
use Rattle.ice_cells.specs.declared.follow.Follow.{Follow}
use Rattle.ice_cells.specs.Chains.{Head, chain, is_read, takes_in, passes_out, one_if, list_if, feeds, run_from, runs_from, feed_in, feed_out, feed_cells}

-- how many cells the first runs have beside their carries
abbrev pub feeds_before : List Follow → List Head → ℕ → ℕ
feeds_before marks [] r = 0
feeds_before marks (head ∷ heads) zero = 0
feeds_before marks (head ∷ heads) (suc r) = feeds marks head + feeds_before marks heads r

none_more : (k : ℕ) → k + 0 ≡ k
none_more k = omega arith

none_first : (k : ℕ) → k ≡ 0 + k
none_first k = omega arith

pub one_further : (k a b : ℕ) → k + a + b ≡ k + (a + b)
one_further k a b = omega arith

-- ---- runs
pub run_at : (marks : List Follow) (k : ℕ) (heads : List Head) (r : ℕ) (x : Head) → At heads r x → At (runs_from marks k heads) r (run_from marks (k + feeds_before marks heads r) x)
run_at marks k [] r x at = absurd (none-some x at)
run_at marks k (h ∷ heads) zero x at = ap (λ (y : Head). Some (run_from marks k y)) (same_Some h x at) ∙ ap (λ m. Some (run_from marks m x)) (sym (none_more k))
run_at marks k (h ∷ heads) (suc r) x at =
    subst (λ m. At (runs_from marks (k + feeds marks h) heads) r (run_from marks m x)) (one_further k (feeds marks h) (feeds_before marks heads r)) (run_at marks (k + feeds marks h) heads r x at)

pub run_back : (marks : List Follow) (k : ℕ) (heads : List Head) (r : ℕ) (run : Run) → At (runs_from marks k heads) r run
    → (x : Head) × At heads r x × (run_from marks (k + feeds_before marks heads r) x ≡ run)
run_back marks k [] r run at = absurd (none-some run at)
run_back marks k (h ∷ heads) zero run at = (h, refl, ap (λ m. run_from marks m h) (none_more k) ∙ same_Some (run_from marks k h) run at)
run_back marks k (h ∷ heads) (suc r) run at =
    let rest = run_back marks (k + feeds marks h) heads r run at in
    (rest.0, rest.1, ap (λ m. run_from marks m rest.0) (sym (one_further k (feeds marks h) (feeds_before marks heads r))) ∙ rest.2)

-- ---- the cells that they have beside their carries
pub feed_count : (marks : List Follow) (x : Head) → length (feed_cells marks x) ≡ feeds marks x
feed_count marks x = by x.1 (passes_out marks x)
  where
    by : (into : CarryIn) (b : Bool) → length (feed_in into ++ feed_out b) ≡ one_if (is_read into) + one_if b
    by (Fixed level) false = refl
    by (Fixed level) true = refl
    by (Read root) false = refl
    by (Read root) true = refl

behind_feeds : (l f b i : ℕ) → l ≡ f → l + (b + i) ≡ f + b + i
behind_feeds l f b i e = omega arith

pub feed_at : (marks : List Follow) (heads : List Head) (r : ℕ) (x : Head) (i : ℕ) (cell : LogicCell) → At heads r x → At (feed_cells marks x) i cell
    → At (flat_map (feed_cells marks) heads) (feeds_before marks heads r + i) cell
feed_at marks [] r x i cell at there = absurd (none-some x at)
feed_at marks (h ∷ heads) zero x i cell at there =
    subst (λ m. At (flat_map (feed_cells marks) (h ∷ heads)) m cell) (none_first i)
    (At_left (feed_cells marks h) (flat_map (feed_cells marks) heads) i cell (subst (λ (y : Head). At (feed_cells marks y) i cell) (sym (same_Some h x at)) there))
feed_at marks (h ∷ heads) (suc r) x i cell at there =
    subst (λ m. At (flat_map (feed_cells marks) (h ∷ heads)) m cell) (behind_feeds (length (feed_cells marks h)) (feeds marks h) (feeds_before marks heads r) i (feed_count marks h))
    (At_right (feed_cells marks h) (flat_map (feed_cells marks) heads) (feeds_before marks heads r + i) cell (feed_at marks heads r x i cell at there))

pub record FeedAt (marks : List Follow) (heads : List Head) (j : ℕ) (cell : LogicCell) : Type 0 where
  pub run : ℕ
  pub head : Head
  pub place : ℕ
  pub at : At heads run head
  pub cell_at : At (feed_cells marks head) place cell
  pub number : j ≡ feeds_before marks heads run + place

pub feed_back : (marks : List Follow) (heads : List Head) (j : ℕ) (cell : LogicCell) → At (flat_map (feed_cells marks) heads) j cell → FeedAt marks heads j cell
feed_back marks [] j cell at = absurd (none-some cell at)
feed_back marks (h ∷ heads) j cell at = by (At_parts (feed_cells marks h) (flat_map (feed_cells marks) heads) j cell at) (feed_back marks heads)
  where
    by : At (feed_cells marks h) j cell ⊎ ((i : ℕ) × (j ≡ length (feed_cells marks h) + i) × At (flat_map (feed_cells marks) heads) i cell)
        → ((i : ℕ) (cell : LogicCell) → At (flat_map (feed_cells marks) heads) i cell → FeedAt marks heads i cell) → FeedAt marks (h ∷ heads) j cell
    by (inl here) rest = record { run = 0; head = h; place = j; at = refl; cell_at = here; number = none_first j }
    by (inr (i, e, there)) rest =
        let old = rest i cell there in
        record {
          run = suc old.run;
          head = old.head;
          place = old.place;
          at = old.at;
          cell_at = old.cell_at;
          number = e ∙ ap (λ m. length (feed_cells marks h) + m) old.number ∙ behind_feeds (length (feed_cells marks h)) (feeds marks h) (feeds_before marks heads old.run) old.place (feed_count marks h);
        }

pub feeds_within : (marks : List Follow) (heads : List Head) (r : ℕ) (x : Head) → At heads r x → feeds_before marks heads r + feeds marks x ≤ length (flat_map (feed_cells marks) heads)
feeds_within marks [] r x at = absurd (none-some x at)
feeds_within marks (h ∷ heads) zero x at =
    let e = length-append (feed_cells marks h) (flat_map (feed_cells marks) heads) in
    let f : length (feed_cells marks h) ≡ feeds marks x = feed_count marks h ∙ ap (feeds marks) (same_Some h x at) in
    omega arith
feeds_within marks (h ∷ heads) (suc r) x at =
    let e = length-append (feed_cells marks h) (flat_map (feed_cells marks) heads) in
    let f = feed_count marks h in
    let rest = feeds_within marks heads r x at in
    omega arith

-- ---- the items of a list of lists
pub record InOne {X Y : Type 0} (f : X → List Y) (xs : List X) (y : Y) : Type 0 where
  pub row : ℕ
  pub item : X
  pub place : ℕ
  pub at : At xs row item
  pub inside : At (f item) place y

pub flat_back : {X Y : Type 0} (f : X → List Y) (xs : List X) (y : Y) → Has (flat_map f xs) y → InOne f xs y
flat_back f [] y has = absurd (Has_none y has)
flat_back {X} {Y} f (x ∷ xs) y (i, at) = by (At_parts (f x) (flat_map f xs) i y at) (flat_back f xs y)
  where
    by : At (f x) i y ⊎ ((j : ℕ) × (i ≡ length (f x) + j) × At (flat_map f xs) j y) → (Has (flat_map f xs) y → InOne f xs y) → InOne f (x ∷ xs) y
    by (inl here) rest = record { row = 0; item = x; place = i; at = refl; inside = here }
    by (inr (j, e, there)) rest = let old = rest (j, there) in record { row = suc old.row; item = old.item; place = old.place; at = old.at; inside = old.inside }

pub flat_on : {X Y : Type 0} (f : X → List Y) (xs : List X) (r : ℕ) (x : X) (y : Y) → At xs r x → Has (f x) y → Has (flat_map f xs) y
flat_on f [] r x y at has = absurd (none-some x at)
flat_on {X} f (z ∷ xs) zero x y at has =
    let here = subst (λ (w : X). Has (f w) y) (sym (same_Some z x at)) has in
    (here.0, At_left (f z) (flat_map f xs) here.0 y here.1)
flat_on f (z ∷ xs) (suc r) x y at has =
    let rest = flat_on f xs r x y at has in
    (length (f z) + rest.0, At_right (f z) (flat_map f xs) rest.0 y rest.1)

-- ---- the cells of a run
if_at : (b : Bool) (m : ℕ) → b ≡ true → At (list_if b m) 0 m
if_at true m e = refl
if_at false m e = cc

if_back : (b : Bool) (m i c : ℕ) → At (list_if b m) i c → (b ≡ true) × (i ≡ 0) × (m ≡ c)
if_back true m zero c at = (refl, refl, same_Some m c at)
if_back true m (suc i) c at = absurd (none-some c at)
if_back false m i c at = absurd (none-some c at)

if_count : (b : Bool) (m : ℕ) → length (list_if b m) ≡ one_if b
if_count true m = refl
if_count false m = refl

-- the cells that take in and pass on, and those between them
abbrev parts : Bool → Bool → ℕ → ℕ → List ℕ → List ℕ
parts b p m q xs = list_if b m ++ xs ++ list_if p q

front_count : (b : Bool) (m : ℕ) (xs : List ℕ) → length (list_if b m ++ xs) ≡ one_if b + length xs
front_count b m xs = length-append (list_if b m) xs ∙ ap (λ n. n + length xs) (if_count b m)

parts_first : (b p : Bool) (m q : ℕ) (xs : List ℕ) → b ≡ true → At (parts b p m q xs) 0 m
parts_first b p m q xs e = At_left (list_if b m ++ xs) (list_if p q) 0 m (At_left (list_if b m) xs 0 m (if_at b m e))

parts_inner : (b p : Bool) (m q : ℕ) (xs : List ℕ) (j c : ℕ) → At xs j c → At (parts b p m q xs) (one_if b + j) c
parts_inner b p m q xs j c at =
    At_left (list_if b m ++ xs) (list_if p q) (one_if b + j) c (subst (λ n. At (list_if b m ++ xs) (n + j) c) (if_count b m) (At_right (list_if b m) xs j c at))

parts_last : (b p : Bool) (m q : ℕ) (xs : List ℕ) → p ≡ true → At (parts b p m q xs) (one_if b + length xs) q
parts_last b p m q xs e =
    subst (λ n. At (parts b p m q xs) n q) (none_more (length (list_if b m ++ xs)) ∙ front_count b m xs) (At_right (list_if b m ++ xs) (list_if p q) 0 q (if_at p q e))

abbrev Parts : Bool → Bool → ℕ → ℕ → List ℕ → ℕ → ℕ → Type 0
Parts b p m q xs i c = ((b ≡ true) × (i ≡ 0) × (m ≡ c)) ⊎ (((j : ℕ) × (i ≡ one_if b + j) × At xs j c) ⊎ ((p ≡ true) × (i ≡ one_if b + length xs) × (q ≡ c)))

parts_back : (b p : Bool) (m q : ℕ) (xs : List ℕ) (i c : ℕ) → At (parts b p m q xs) i c → Parts b p m q xs i c
parts_back b p m q xs i c at = by (At_parts (list_if b m ++ xs) (list_if p q) i c at)
  where
    front : At (list_if b m) i c ⊎ ((j : ℕ) × (i ≡ length (list_if b m) + j) × At xs j c) → Parts b p m q xs i c
    front (inl first) = inl (if_back b m i c first)
    front (inr (j, e, there)) = inr (inl (j, e ∙ ap (λ n. n + j) (if_count b m), there))

    by : At (list_if b m ++ xs) i c ⊎ ((j : ℕ) × (i ≡ length (list_if b m ++ xs) + j) × At (list_if p q) j c) → Parts b p m q xs i c
    by (inl there) = front (At_parts (list_if b m) xs i c there)
    by (inr (k, e, last)) =
        let back = if_back p q k c last in
        inr (inr (back.0, e ∙ ap (λ n. length (list_if b m ++ xs) + n) back.1 ∙ none_more (length (list_if b m ++ xs)) ∙ front_count b m xs, back.2))

parts_count : (b p : Bool) (m q : ℕ) (xs : List ℕ) → length (parts b p m q xs) ≡ one_if b + length xs + one_if p
parts_count b p m q xs = length-append (list_if b m ++ xs) (list_if p q) ∙ (λ i. front_count b m xs i + if_count p q i)

-- ---- the same of the run of a first carry
module _ (marks : List Follow) (m : ℕ) (x : Head) where
  abbrev inner : List ℕ
  inner = chain marks (length marks) x.0

  pub takes_first : takes_in x ≡ true → At (run_from marks m x).cells 0 m
  takes_first e = parts_first (takes_in x) (passes_out marks x) m (m + one_if (takes_in x)) inner e

  pub carries_inner : (j c : ℕ) → At inner j c → At (run_from marks m x).cells (one_if (takes_in x) + j) c
  carries_inner j c at = parts_inner (takes_in x) (passes_out marks x) m (m + one_if (takes_in x)) inner j c at

  pub passes_last : passes_out marks x ≡ true → At (run_from marks m x).cells (one_if (takes_in x) + length inner) (m + one_if (takes_in x))
  passes_last e = parts_last (takes_in x) (passes_out marks x) m (m + one_if (takes_in x)) inner e

  pub run_parts : (i c : ℕ) → At (run_from marks m x).cells i c → Parts (takes_in x) (passes_out marks x) m (m + one_if (takes_in x)) inner i c
  run_parts i c at = parts_back (takes_in x) (passes_out marks x) m (m + one_if (takes_in x)) inner i c at

  pub run_count : length (run_from marks m x).cells ≡ one_if (takes_in x) + length inner + one_if (passes_out marks x)
  run_count = parts_count (takes_in x) (passes_out marks x) m (m + one_if (takes_in x)) inner

-- ---- lists in which nothing stands twice
if_once : (b : Bool) (m : ℕ) → StandOnce (list_if b m)
if_once b m i j c at there = (if_back b m i c at).1 ∙ sym (if_back b m j c there).1

pub run_once : (b p : Bool) (m q : ℕ) (xs : List ℕ) → q ≡ m + one_if b → StandOnce xs → ((c : ℕ) → Has xs c → c < m) → StandOnce (parts b p m q xs)
run_once b p m q xs e once low = once_append (list_if b m ++ xs) (list_if p q) (once_append (list_if b m) xs (if_once b m) once first) (if_once p q) last
  where
    first : (c : ℕ) → Has (list_if b m) c → Has xs c → ⊥
    first c (i, at) there = (let same = (if_back b m i c at).2 in let lt = low c there in omega arith)

    above : (c : ℕ) → c < m → q ≡ c → ⊥
    above c lt f = omega arith

    over : (c : ℕ) → b ≡ true → m ≡ c → q ≡ c → ⊥
    over c f g h = (let one : one_if b ≡ 1 = ap one_if f in omega arith)

    apart : (c i : ℕ) → q ≡ c → At (list_if b m) i c ⊎ ((j : ℕ) × (i ≡ length (list_if b m) + j) × At xs j c) → ⊥
    apart c i f (inl at) = (let back = if_back b m i c at in over c back.0 back.2 f)
    apart c i f (inr (j, g, there)) = above c (low c (j, there)) f

    last : (c : ℕ) → Has (list_if b m ++ xs) c → Has (list_if p q) c → ⊥
    last c (i, at) (j, there) = apart c i (if_back p q j c there).2 (At_parts (list_if b m) xs i c at)
