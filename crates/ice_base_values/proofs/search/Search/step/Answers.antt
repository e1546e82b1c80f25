use Rattle.std.proofs.Common.{◌≡◌, ℕ, ◌-◌, ◌<◌, ◌≤◌, List, length, get_or, refl, sym, ◌∙◌, ap, subst, arith, rules}
use Rattle.std.specs.Prelude.{vec_len}
use Rattle.std.proofs.lemmas.Option.{slice_get_read, slice_get-get_or}
use Rattle.ice_base_values.specs.Graph.{depends_of, IsWithin}
use Rattle.ice_base_values.specs.Order.{At}
use Rattle.ice_base_values.specs.SearchState.{IsSearching}
use Rattle.ice_base_values.specs.declared.search.Search.{Search}
use Rattle.ice_base_values.specs.declared.search.Mark.TheVariants.{Done}
use Rattle.ice_base_values.proofs.SearchSteps.{search_last, step_leaves, step_enters, search_cycle, opened_else}
use Rattle.ice_base_values.proofs.search.Search.step.Goals as goal
use Rattle.ice_base_values.proofs.search.Search.step.Goals.{After-first_not_done-cursor, After-index-2}

-- where the last point of the path may be looked up
record InReach (rows : List (List ℕ)) (s : Search) (p : ℕ) : Type 0 where
  row : p < length rows
  next : p < vec_len s.next
  next_item : p < length s.next.items
  mark : p < vec_len s.marks

in_reach : (rows : List (List ℕ)) (s : Search) (p : ℕ) → IsSearching rows s → At s.path.items (length s.path.items - 1) p → InReach rows s p
in_reach rows s p search last =
    let here = search_last (length rows) (depends_of rows) s.marks.items s.next.items s.path.items s.order.items p search last in
    let a : p < length rows = here.1 in
    record {
      row = a;
      next = (let e = search.next_length in let f = s.next.ok.0 in omega arith);
      next_item = (let e = search.next_length in omega arith);
      mark = (let e = search.marks_length in let f = s.marks.ok.0 in omega arith);
    }

pub depends-reads-requires : goal.depends-reads-requires
depends-reads-requires c = (in_reach c.args.graph.now c.args.self.now c.args.point c.requires.search c.requires.last).row

pub index-requires : goal.index-requires
index-requires c = (in_reach c.args.graph.now c.args.self.now c.args.point c.requires.search c.requires.last).next

pub first_not_done-cursor-requires : goal.first_not_done-cursor-requires
first_not_done-cursor-requires c j q here =
    let lt = c.requires.within.points c.args.point q (j, rw (← c.depends-reads.ensures) here) in
    let e = c.requires.search.marks_length in
    rw c.deref.ensures.value (omega arith)

pub index_mut-requires : goal.index_mut-requires
index_mut-requires c = (in_reach c.args.graph.now c.args.self.now c.args.point c.requires.search c.requires.last).next

pub index_mut-requires-then-cursor-reads : goal.index_mut-requires-then-cursor-reads
index_mut-requires-then-cursor-reads c = (in_reach c.args.graph.now c.args.self.now c.args.point c.requires.search c.requires.last).mark

-- what `next` has for the point, and that the dependences from there to `at` are in the order
stood : (c : After-first_not_done-cursor) → At c.args.self.now.next.items c.args.point c.index.result.now
    × ((j q : ℕ) → c.index.result.now ≤ j → j < c.first_not_done-cursor.result → At (depends_of c.args.graph.now c.args.point) j q → At c.args.self.now.marks.items q Done)
stood c =
    let reach = in_reach c.args.graph.now c.args.self.now c.args.point c.requires.search c.requires.last in (
      slice_get_read c.args.self.now.next.items (length c.args.self.now.next.items) c.args.point c.index.result.now refl reach.next_item c.index.ensures,
      λ j q le lt here. rw (← c.deref.ensures.value) (c.first_not_done-cursor.ensures.passed j q le lt (rw c.depends-reads.ensures here)),
    )

pub returns-then-cursor-reads-clause-goes_on : goal.returns-then-cursor-reads-clause-goes_on
returns-then-cursor-reads-clause-goes_on c =
    let so_far = stood (goal.at.returns-then-cursor-reads-clause-goes_on c).After-first_not_done-cursor in
    let done = step_leaves (length c.args.graph.now) (depends_of c.args.graph.now) c.args.self.now.marks.items c.args.self.now.next.items c.args.self.now.path.items c.pop.new.self.items c.args.self.now.order.items c.push.new.self.items
    c.args.point c.index.result.now c.first_not_done-cursor.result c.requires.search c.requires.last so_far.0 so_far.1
    (c.if-cursor-reads.true ∙ ap length c.depends-reads.ensures)
    (let e = c.args.self.now.path.ok.0 in rw e at c.pop.ensures.rest)
    (search rules) in
    record { search = done.0; less = done.1; entered = done.2 }

-- the dependence that is looked at, and that it has a mark
target_at : (rows : List (List ℕ)) (s : Search) (targets : List ℕ) (p at : ℕ) → IsWithin rows → IsSearching rows s
    → targets ≡ depends_of rows p → at ≤ length targets → (at ≡ length targets → ⊥)
    → At (depends_of rows p) at (get_or targets at 0) × (get_or targets at 0 < vec_len s.marks) × (get_or targets at 0 < length s.marks.items)
target_at rows s targets p at within search e le ne =
    let here : At (depends_of rows p) at (get_or targets at 0) = rw (← e) (slice_get-get_or targets at 0 (omega arith)) in
    let lt = within.points p (get_or targets at 0) (at, here) in
    let f = search.marks_length in
    let g = s.marks.ok.0 in
    (here, omega arith, omega arith)

pub index-requires-2 : goal.index-requires-2
index-requires-2 c = (target_at c.args.graph.now c.args.self.now c.depends-reads.result.now c.args.point c.first_not_done-cursor.result c.requires.within c.requires.search c.depends-reads.ensures c.first_not_done-cursor.ensures.bound c.if-cursor-reads.false).1

pub index_mut-requires-in-New : goal.index_mut-requires-in-New
index_mut-requires-in-New c = (target_at c.args.graph.now c.args.self.now c.depends-reads.result.now c.args.point c.first_not_done-cursor.result c.requires.within c.requires.search c.depends-reads.ensures c.first_not_done-cursor.ensures.bound c.if-cursor-reads.false).1

-- the dependence, and its mark
target : (c : After-index-2) → At (depends_of c.args.graph.now c.args.point) c.first_not_done-cursor.result (get_or c.depends-reads.result.now c.first_not_done-cursor.result 0)
    × At c.args.self.now.marks.items (get_or c.depends-reads.result.now c.first_not_done-cursor.result 0) c.index-2.result.now
target c =
    let here = target_at c.args.graph.now c.args.self.now c.depends-reads.result.now c.args.point c.first_not_done-cursor.result c.requires.within c.requires.search c.depends-reads.ensures c.first_not_done-cursor.ensures.bound c.if-cursor-reads.false in
    (here.0, slice_get_read c.args.self.now.marks.items (length c.args.self.now.marks.items) (get_or c.depends-reads.result.now c.first_not_done-cursor.result 0) c.index-2.result.now refl here.2 c.index-2.ensures)

pub returns-in-New-clause-goes_on : goal.returns-in-New-clause-goes_on
returns-in-New-clause-goes_on c =
    let so_far = stood (goal.at.returns-in-New-clause-goes_on c).After-first_not_done-cursor in
    let found = target (goal.at.returns-in-New-clause-goes_on c).After-index-2 in
    let done = step_enters (length c.args.graph.now) (depends_of c.args.graph.now) c.args.self.now.marks.items c.args.self.now.next.items c.args.self.now.path.items c.push-in-New.new.self.items c.args.self.now.order.items
    c.args.point c.index.result.now c.first_not_done-cursor.result (get_or c.depends-reads.result.now c.first_not_done-cursor.result 0) c.requires.search c.requires.last so_far.0 so_far.1
    found.0 (subst (λ m. At c.args.self.now.marks.items (get_or c.depends-reads.result.now c.first_not_done-cursor.result 0) m) c.in-New.is found.1) (search rules) in
    record { search = done.0; less = done.1; entered = done.2 }

pub place_of-requires : goal.place_of-requires
place_of-requires c =
    let found = target (goal.at.place_of-requires c).After-index-2 in
    let not_done : At c.args.self.now.marks.items (get_or c.depends-reads.result.now c.first_not_done-cursor.result 0) Done → ⊥
    = λ is_done. c.first_not_done-cursor.ensures.stopped (get_or c.depends-reads.result.now c.first_not_done-cursor.result 0) (subst (λ ts. At ts c.first_not_done-cursor.result (get_or c.depends-reads.result.now c.first_not_done-cursor.result 0)) (sym c.depends-reads.ensures) found.0) (rw c.deref.ensures.value is_done) in
    rw c.deref-2.ensures.value (c.requires.search.opened (get_or c.depends-reads.result.now c.first_not_done-cursor.result 0)
    (opened_else c.args.self.now.marks.items (get_or c.depends-reads.result.now c.first_not_done-cursor.result 0) c.index-2.result.now found.1 c.in_default.not-New not_done))

pub returns-clause-cycle : goal.returns-clause-cycle
returns-clause-cycle c =
    let found = target (goal.at.returns-clause-cycle c).After-index-2 in
    search_cycle (length c.args.graph.now) (depends_of c.args.graph.now) c.args.self.now.marks.items c.args.self.now.next.items c.args.self.now.path.items c.args.self.now.order.items
    c.args.point (get_or c.depends-reads.result.now c.first_not_done-cursor.result 0) c.place_of.result c.requires.search c.requires.last (c.first_not_done-cursor.result, found.0)
    (rw (← c.deref-2.ensures.value) c.place_of.ensures)
