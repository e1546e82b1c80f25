-- Each step of the search for an order keeps what the search keeps true: n points, point p depending on `d p`.
use Rattle.std.proofs.Common.{◌≡◌, ◌≢◌, ℕ, zero, suc, ◌+◌, ◌-◌, ◌*◌, ◌<◌, ◌≤◌, List, [], ◌∷◌, ◌++◌, inl, inr, refl, ap, sym, ◌∙◌, subst, length, get_or, set, take, drop, replicate, arith, length-set, length-drop}
use Rattle.std.proofs.lemmas.Bool.{cases_lt}
use Rattle.std.proofs.lemmas.Option.{slice_get_within, slice_get-get_or}
use Rattle.std.proofs.lemmas.List.{length_push, length-replicate}
use Rattle.ice_base_values.specs.Order.{At, Has, IsOrder, IsSimpleCycle}
use Rattle.ice_base_values.specs.Search.{new_count, done_count, IsSearch}
use Rattle.ice_base_values.specs.declared.search.Mark.{Mark}
use Rattle.ice_base_values.specs.declared.search.Mark.TheVariants.{New, Open, Done}
use Rattle.ice_base_values.proofs.Places.{At_same, At_set_cases, At_set_same, At_set_other, At_push_cases, At_push_old, At_push_new, At_drop, At_replicate, At_last}

-- a mark that is written changes the counts
pub new_count_enter : (marks : List Mark) (q : ℕ) → At marks q New → suc (new_count (set marks q Open)) ≡ new_count marks
new_count_enter [] q at = cc
new_count_enter (New ∷ ms) zero at = refl
new_count_enter (Open ∷ ms) zero at = cc
new_count_enter (Done ∷ ms) zero at = cc
new_count_enter (New ∷ ms) (suc q) at = ap suc (new_count_enter ms q at)
new_count_enter (Open ∷ ms) (suc q) at = new_count_enter ms q at
new_count_enter (Done ∷ ms) (suc q) at = new_count_enter ms q at

pub new_count_leave : (marks : List Mark) (q : ℕ) → At marks q Open → new_count (set marks q Done) ≡ new_count marks
new_count_leave [] q at = cc
new_count_leave (New ∷ ms) zero at = cc
new_count_leave (Open ∷ ms) zero at = refl
new_count_leave (Done ∷ ms) zero at = cc
new_count_leave (New ∷ ms) (suc q) at = ap suc (new_count_leave ms q at)
new_count_leave (Open ∷ ms) (suc q) at = new_count_leave ms q at
new_count_leave (Done ∷ ms) (suc q) at = new_count_leave ms q at

pub done_count_enter : (marks : List Mark) (q : ℕ) → At marks q New → done_count (set marks q Open) ≡ done_count marks
done_count_enter [] q at = cc
done_count_enter (New ∷ ms) zero at = refl
done_count_enter (Open ∷ ms) zero at = cc
done_count_enter (Done ∷ ms) zero at = cc
done_count_enter (New ∷ ms) (suc q) at = done_count_enter ms q at
done_count_enter (Open ∷ ms) (suc q) at = done_count_enter ms q at
done_count_enter (Done ∷ ms) (suc q) at = ap suc (done_count_enter ms q at)

pub done_count_leave : (marks : List Mark) (q : ℕ) → At marks q Open → done_count (set marks q Done) ≡ suc (done_count marks)
done_count_leave [] q at = cc
done_count_leave (New ∷ ms) zero at = cc
done_count_leave (Open ∷ ms) zero at = refl
done_count_leave (Done ∷ ms) zero at = cc
done_count_leave (New ∷ ms) (suc q) at = done_count_leave ms q at
done_count_leave (Open ∷ ms) (suc q) at = done_count_leave ms q at
done_count_leave (Done ∷ ms) (suc q) at = ap suc (done_count_leave ms q at)

done_count_all : (marks : List Mark) → ((q : ℕ) → q < length marks → At marks q Done) → done_count marks ≡ length marks
done_count_all [] all = refl
done_count_all (New ∷ ms) all = let e = all 0 (omega arith) in cc e
done_count_all (Open ∷ ms) all = let e = all 0 (omega arith) in cc e
done_count_all (Done ∷ ms) all = ap suc (done_count_all ms (λ q lt. all (suc q) (omega arith)))

done_count_start : (n : ℕ) → 0 ≡ done_count (replicate n New)
done_count_start zero = refl
done_count_start (suc n) = done_count_start n

module _ (n : ℕ) (d : ℕ → List ℕ) where
  pub search_start : IsSearch n d (replicate n New) (replicate n 0) [] []
  search_start = record {
    marks_length = length-replicate n New;
    next_length = length-replicate n 0;
    count = done_count_start n;
    done = λ p at. let e = At_replicate n New p Done at in cc e;
    ordered = λ i p at. cc at;
    once = λ i j p at. cc at;
    after = λ i p q at. cc at;
    opened = λ p at. let e = At_replicate n New p Open at in cc e;
    on_path = λ i p at. cc at;
    path_once = λ i j p at. cc at;
    edges = λ i p q at. cc at;
    passed = λ p k j q at lt. let e : 0 ≡ k = At_replicate n 0 p k at in absurd (omega arith);
  }

  -- a point that is new is entered from the last point of the path, which depends on it
  pub search_enter : (marks : List Mark) (next path order : List ℕ) (q : ℕ) → IsSearch n d marks next path order → At marks q New
      → ((p : ℕ) → At path (length path - 1) p → Has (d p) q)
      → IsSearch n d (set marks q Open) next (path ++ q ∷ []) order
  search_enter marks next path order q s new last =
      let inside : q < length marks = slice_get_within marks q New new in
      let kept : (p : ℕ) (m : Mark) → m ≢ New → At marks p m → At (set marks q Open) p m
      = λ p m ne at. At_set_other marks q p Open m (λ e. ne (At_same marks q m New (subst (λ r. At marks r m) e at) new)) at in
      let not_on_path : (i : ℕ) → At path i q → ⊥ = λ i at. let e = s.on_path i q at in cc (e, new) in
      record {
        marks_length = length-set marks q Open ∙ s.marks_length;
        next_length = s.next_length;
        count = s.count ∙ sym (done_count_enter marks q new);
        done = λ p at. elim (At_set_cases marks q p Open Done inside at) [ inl both ↦ cc both.1 | inr old ↦ s.done p old.1 ];
        ordered = λ i p at. kept p Done (λ e. cc e) (s.ordered i p at);
        once = s.once;
        after = s.after;
        opened = λ p at. elim (At_set_cases marks q p Open Open inside at) [
          | inl both ↦ (length path, subst (λ r. At (path ++ q ∷ []) (length path) r) (sym both.0) (At_push_new path q))
          | inr old ↦ (let has = s.opened p old.1 in (has.0, At_push_old path q has.0 p has.1))
        ];
        on_path = λ i p at. elim (At_push_cases path q i p at) [
          | inl old ↦ kept p Open (λ e. cc e) (s.on_path i p old)
          | inr both ↦ subst (λ r. At (set marks q Open) r Open) both.1 (At_set_same marks q Open inside)
        ];
        path_once = λ i j p a b. elim (At_push_cases path q i p a) [
          | inl x ↦ elim (At_push_cases path q j p b) [
            | inl y ↦ s.path_once i j p x y
            | inr y ↦ absurd (not_on_path i (subst (λ r. At path i r) (sym y.1) x))
          ]
          | inr x ↦ elim (At_push_cases path q j p b) [
            | inl y ↦ absurd (not_on_path j (subst (λ r. At path j r) (sym x.1) y))
            | inr y ↦ x.0 ∙ sym y.0
          ]
        ];
        edges = λ i p r a b. elim (At_push_cases path q (i + 1) r b) [
          | inl y ↦ elim (At_push_cases path q i p a) [
            | inl x ↦ s.edges i p r x y
            | inr x ↦ (let lt = slice_get_within path (i + 1) r y in absurd (omega (arith, x.0, lt)))
          ]
          | inr y ↦ elim (At_push_cases path q i p a) [
            | inl x ↦ (let e : i ≡ length path - 1 = omega (arith, y.0) in subst (λ t. Has (d p) t) y.1 (last p (subst (λ t. At path t p) e x)))
            | inr x ↦ absurd (omega (arith, x.0, y.0))
          ]
        ];
        passed = λ p k j r a lt at. kept r Done (λ e. cc e) (s.passed p k j r a lt at);
      }

  -- the dependences before the k-th are in the order
  pub search_advance : (marks : List Mark) (next path order : List ℕ) (p k : ℕ) → IsSearch n d marks next path order → p < n
      → ((j q : ℕ) → j < k → At (d p) j q → At marks q Done)
      → IsSearch n d marks (set next p k) path order
  search_advance marks next path order p k s lt all =
      let inside : p < length next = let e = s.next_length in omega arith in
      record {
        marks_length = s.marks_length;
        next_length = length-set next p k ∙ s.next_length;
        count = s.count;
        done = s.done;
        ordered = s.ordered;
        once = s.once;
        after = s.after;
        opened = s.opened;
        on_path = s.on_path;
        path_once = s.path_once;
        edges = s.edges;
        passed = λ r h j q a below at. elim (At_set_cases next p r k h inside a) [
          | inl both ↦ all j q (let e = both.1 in omega arith) (subst (λ t. At (d t) j q) both.0 at)
          | inr old ↦ s.passed r h j q old.1 below at
        ];
      }

  -- the last point of the path goes to the end of the order, where all that it depends on stands already
  pub search_leave : (marks : List Mark) (next path rest order : List ℕ) (p : ℕ) → IsSearch n d marks next path order
      → path ≡ rest ++ p ∷ [] → ((j q : ℕ) → At (d p) j q → At marks q Done)
      → IsSearch n d (set marks p Done) next rest (order ++ p ∷ [])
  search_leave marks next path rest order p s e all =
      let old_path : (i r : ℕ) → At rest i r → At path i r = λ i r at. rw e (At_push_old rest p i r at) in
      let here : At path (length rest) p = rw e (At_push_new rest p) in
      let is_open : At marks p Open = s.on_path (length rest) p here in
      let inside : p < length marks = slice_get_within marks p Open is_open in
      let not_ordered : (i : ℕ) → At order i p → ⊥ = λ i at. let f = s.ordered i p at in cc (f, is_open) in
      let not_on_rest : (i r : ℕ) → At rest i r → r ≢ p
      = λ i r at same. let f : i ≡ length rest = s.path_once i (length rest) p (subst (λ t. At path i t) same (old_path i r at)) here in
      let lt = slice_get_within rest i r at in omega arith in
      let kept : (r : ℕ) → At marks r Done → At (set marks p Done) r Done
      = λ r at. At_set_other marks p r Done Done (λ same. let f : At marks p Done = subst (λ t. At marks t Done) same at in cc (f, is_open)) at in
      record {
        marks_length = length-set marks p Done ∙ s.marks_length;
        next_length = s.next_length;
        count = length_push order p ∙ (let f = s.count in let g = done_count_leave marks p is_open in omega arith);
        done = λ r at. elim (At_set_cases marks p r Done Done inside at) [
          | inl both ↦ (length order, subst (λ t. At (order ++ p ∷ []) (length order) t) (sym both.0) (At_push_new order p))
          | inr old ↦ (let has = s.done r old.1 in (has.0, At_push_old order p has.0 r has.1))
        ];
        ordered = λ i r at. elim (At_push_cases order p i r at) [
          | inl old ↦ kept r (s.ordered i r old)
          | inr both ↦ subst (λ t. At (set marks p Done) t Done) both.1 (At_set_same marks p Done inside)
        ];
        once = λ i j r a b. elim (At_push_cases order p i r a) [
          | inl x ↦ elim (At_push_cases order p j r b) [
            | inl y ↦ s.once i j r x y
            | inr y ↦ absurd (not_ordered i (subst (λ t. At order i t) (sym y.1) x))
          ]
          | inr x ↦ elim (At_push_cases order p j r b) [
            | inl y ↦ absurd (not_ordered j (subst (λ t. At order j t) (sym x.1) y))
            | inr y ↦ x.0 ∙ sym y.0
          ]
        ];
        after = λ i r q at has. elim (At_push_cases order p i r at) [
          | inl old ↦ (let below = s.after i r q old has in (below.0, below.1, At_push_old order p below.0 q below.2))
          | inr both ↦ (let f = all has.0 q (subst (λ t. At (d t) has.0 q) (sym both.1) has.1) in
              let stands = s.done q f in
              let lt = slice_get_within order stands.0 q stands.1 in
              (stands.0, (let g = both.0 in omega arith), At_push_old order p stands.0 q stands.1))
        ];
        opened = λ r at. elim (At_set_cases marks p r Done Open inside at) [
          | inl both ↦ cc both.1
          | inr old ↦ (let has = s.opened r old.1 in
              elim (At_push_cases rest p has.0 r (rw (← e) has.1)) [
                | inl x ↦ (has.0, x)
                | inr x ↦ absurd (old.0 (sym x.1))
              ])
        ];
        on_path = λ i r at. At_set_other marks p r Done Open (not_on_rest i r at) (s.on_path i r (old_path i r at));
        path_once = λ i j r a b. s.path_once i j r (old_path i r a) (old_path j r b);
        edges = λ i r q a b. s.edges i r q (old_path i r a) (old_path (i + 1) q b);
        passed = λ r k j q a lt at. kept q (s.passed r k j q a lt at);
      }

  -- the last point is on the path, and within the marks
  pub search_last : (marks : List Mark) (next path order : List ℕ) (p : ℕ) → IsSearch n d marks next path order
      → At path (length path - 1) p → At marks p Open × (p < n) × (suc (length path - 1) ≡ length path)
  search_last marks next path order p s last =
      let e = s.on_path (length path - 1) p last in
      let lt = slice_get_within marks p Open e in
      let k = slice_get_within path (length path - 1) p last in
      (e, (let f = s.marks_length in omega arith), omega arith)

  -- all dependences of the last point before `at` are in the order
  pub search_moved : (marks : List Mark) (next path order : List ℕ) (p from at : ℕ) → IsSearch n d marks next path order
      → At path (length path - 1) p → At next p from
      → ((j q : ℕ) → from ≤ j → j < at → At (d p) j q → At marks q Done)
      → ((j q : ℕ) → j < at → At (d p) j q → At marks q Done) × IsSearch n d marks (set next p at) path order
  search_moved marks next path order p from at s last stood more =
      let all : (j q : ℕ) → j < at → At (d p) j q → At marks q Done
      = λ j q lt here. elim (cases_lt j from) [ inl below ↦ s.passed p from j q stood below here | inr above ↦ more j q above lt here ] in
      (all, search_advance marks next path order p at s (search_last marks next path order p s last).1 all)

  -- the step that leaves the last point
  pub step_leaves : (marks : List Mark) (next path rest order after : List ℕ) (p from at : ℕ) → IsSearch n d marks next path order
      → At path (length path - 1) p → At next p from
      → ((j q : ℕ) → from ≤ j → j < at → At (d p) j q → At marks q Done)
      → at ≡ length (d p) → rest ≡ take (length path - 1) path → after ≡ order ++ p ∷ []
      → IsSearch n d (set marks p Done) (set next p at) rest after
      × (2 * new_count (set marks p Done) + length rest < 2 * new_count marks + length path)
      × ((q : ℕ) → At (set marks p Done) q New → At marks q New)
  step_leaves marks next path rest order after p from at s last stood more all e f =
      let here = search_last marks next path order p s last in
      let moved = search_moved marks next path order p from at s last stood more in
      let ends : path ≡ rest ++ p ∷ [] = rw e (At_last path (length path - 1) p last here.2) in (
        rw f (search_leave marks (set next p at) path rest order p moved.1 ends
            (λ j q in'. moved.0 j q (let lt = slice_get_within (d p) j q in' in omega arith) in')),
        (let k = new_count_leave marks p here.0 in let l : length path ≡ length rest + 1 = ap length ends ∙ length_push rest p in omega arith),
        λ q at_new. elim (At_set_cases marks p q Done New (slice_get_within marks p Open here.0) at_new) [ inl both ↦ cc both.1 | inr old ↦ old.1 ],
      )

  -- the step that enters a new point
  pub step_enters : (marks : List Mark) (next path after order : List ℕ) (p from at q : ℕ) → IsSearch n d marks next path order
      → At path (length path - 1) p → At next p from
      → ((j r : ℕ) → from ≤ j → j < at → At (d p) j r → At marks r Done)
      → At (d p) at q → At marks q New → after ≡ path ++ q ∷ []
      → IsSearch n d (set marks q Open) (set next p at) after order
      × (2 * new_count (set marks q Open) + length after < 2 * new_count marks + length path)
      × ((r : ℕ) → At (set marks q Open) r New → At marks r New)
  step_enters marks next path after order p from at q s last stood more has is_new e =
      let moved = search_moved marks next path order p from at s last stood more in (
        rw e (search_enter marks (set next p at) path order q moved.1 is_new
            (λ r end. let f : p ≡ r = At_same path (length path - 1) p r last end in (at, subst (λ t. At (d t) at q) f has))),
        (let k = new_count_enter marks q is_new in let l : length after ≡ length path + 1 = ap length e ∙ length_push path q in omega arith),
        λ r at_new. elim (At_set_cases marks q r Open New (slice_get_within marks q New is_new) at_new) [ inl both ↦ cc | inr old ↦ old.1 ],
      )

  -- the first point of a path is entered
  pub root_enters : (marks : List Mark) (next path after order : List ℕ) (root : ℕ) → IsSearch n d marks next path order
      → path ≡ [] → At marks root New → after ≡ path ++ root ∷ []
      → IsSearch n d (set marks root Open) next after order
      × ((q : ℕ) → At (set marks root Open) q New → At marks q New × (q ≢ root))
  root_enters marks next path after order root s empty is_new e = (
    rw e (search_enter marks next path order root s is_new
        (λ r end. let lt = slice_get_within path (length path - 1) r end in let f : length path ≡ 0 = ap length empty in absurd (omega arith))),
    λ q at_new. elim (At_set_cases marks root q Open New (slice_get_within marks root New is_new) at_new) [ inl both ↦ cc both.1 | inr old ↦ (old.1, old.0) ],
  )

  -- a dependence of the last point that is on the path closes a cycle
  pub search_cycle : (marks : List Mark) (next path order : List ℕ) (p q i : ℕ) → IsSearch n d marks next path order
      → At path (length path - 1) p → Has (d p) q → At path i q → IsSimpleCycle n d (drop i path)
  search_cycle marks next path order p q i s last has at =
      let lt = slice_get_within path i q at in
      let at_path : (j r : ℕ) → At (drop i path) j r → At path (i + j) r = λ j r a. sym (At_drop path i j) ∙ a in
      record {
        below = record {
          within = λ j r a. let inside = slice_get_within marks r Open (s.on_path (i + j) r (at_path j r a)) in let e = s.marks_length in omega arith;
          closes = record {
            some = rw length-drop (omega arith);
            next = λ j r t a b. s.edges (i + j) r t (at_path j r a) (let f : i + (j + 1) ≡ i + j + 1 = omega arith in subst (λ k. At path k t) f (at_path (j + 1) t b));
            closed = λ first end a b.
                let f : q ≡ first = At_same path i q first at (let g : i + 0 ≡ i = omega arith in subst (λ k. At path k first) g (at_path 0 first a)) in
                let g : p ≡ end = At_same path (length path - 1) p end last
                (let h : i + (length (drop i path) - 1) ≡ length path - 1 = omega (arith, length-drop i path) in subst (λ k. At path k end) h (at_path (length (drop i path) - 1) end b)) in
                subst (λ t. Has (d end) t) f (subst (λ t. Has (d t) q) g has);
          };
        };
        once = λ j k r a b. let e = s.path_once (i + j) (i + k) r (at_path j r a) (at_path k r b) in omega (arith, e);
      }

  -- where no point is new and the path is empty, the order is one of all points
  pub search_finish : (marks : List Mark) (next order : List ℕ) → IsSearch n d marks next [] order
      → ((q : ℕ) → At marks q New → ⊥) → IsOrder n d order
  search_finish marks next order s none =
      let each : (q : ℕ) → q < length marks → At marks q Done
      = λ q lt. of q (get_or marks q Done) (slice_get-get_or marks q Done lt) in
      record {
        count = s.count ∙ done_count_all marks each ∙ s.marks_length;
        within = λ i p at. let lt = slice_get_within marks p Done (s.ordered i p at) in let e = s.marks_length in omega arith;
        each = λ p lt. s.done p (each p (let e = s.marks_length in omega arith));
        once = s.once;
        after = s.after;
      }
    where
      of : (q : ℕ) (m : Mark) → At marks q m → At marks q Done
      of q New at = absurd (none q at)
      of q Open at = let has = s.opened q at in cc has.1
      of q Done at = at

-- a mark that is neither new nor done
pub opened_else : (marks : List Mark) (q : ℕ) (m : Mark) → At marks q m → (m ≡ New → ⊥) → (At marks q Done → ⊥) → At marks q Open
opened_else marks q New at a b = absurd (a refl)
opened_else marks q Open at a b = at
opened_else marks q Done at a b = absurd (b at)

-- no point up to the root is new
pub not_new_up_to : (marks : List Mark) (root : ℕ) → ((q : ℕ) → q < root → At marks q New → ⊥) → (At marks root New → ⊥)
    → (q : ℕ) → q < root + 1 → At marks q New → ⊥
not_new_up_to marks root before here q lt at =
    elim (cases_lt q root) [ inl below ↦ before q below at | inr above ↦ here (let e : q ≡ root = omega arith in subst (λ t. At marks t New) e at) ]
