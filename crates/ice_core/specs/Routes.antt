-- Routes as lists of wires by number, what is counted in them, and what the tasks and counts of a round are to be.
use Rattle.std.specs.Prelude.{◌≡◌, ℕ, zero, suc, ◌+◌, ◌-◌, ◌≤◌, ◌<◌, ◌^◌, List, [], count_by, nat_eq, length, map, slice_index, slice_index_or}
use Rattle.std.specs.Global.{Vec}
use Rattle.std.specs.List.{sum_by, AllByRecursion}
use Rattle.ice_base.specs.declared.number.WireNo.{WireNo}
use Rattle.ice_graph.specs.declared.tree.Tree.{Tree}
use Rattle.ice_core.specs.declared.task.Task.{Task}

-- the wires by number
abbrev pub numbers : List WireNo → List ℕ
numbers wires = map (λ (w : WireNo). w.0) wires

-- lists of wires by number
abbrev pub lists_of : List (Vec WireNo) → List (List ℕ)
lists_of lists = map (λ (wires : Vec WireNo). numbers wires.items) lists

-- the old wires of each task
abbrev pub old_wires : List Task → List (List ℕ)
old_wires tasks = map (λ (t : Task). numbers t.old.items) tasks

-- the wires of each tree
abbrev pub tree_wires : List Tree → List (List ℕ)
tree_wires trees = map (λ (t : Tree). numbers t.wires.items) trees

-- the wires of a task, where those of all tasks are given
abbrev pub wires_of : List (List ℕ) → ℕ → List ℕ
wires_of lists t = slice_index_or lists t []

-- how often x stands in the list
abbrev pub times : ℕ → List ℕ → ℕ
times x xs = count_by (λ y. nat_eq y x) xs

-- the sum of f over the numbers below n
abbrev pub sum_below : ℕ → (ℕ → ℕ) → ℕ
sum_below zero f = 0
sum_below (suc n) f = sum_below n f + f n

-- how much the counts are above 1
abbrev pub overuse : List ℕ → ℕ
overuse counts = sum_by (λ c. c - 1) counts

-- what the old wires of the tasks, and the counts of all wires, are to be as a round begins
pub record IsOpening (olds : List (List ℕ)) (counts : List ℕ) : Type 0 where
  pub tasks : length olds ≤ 65536
  pub wires : length counts < 2 ^ 32
  pub within : (t : ℕ) → AllByRecursion (λ w. w < length counts) (wires_of olds t)
  pub once : (t w : ℕ) → times w (wires_of olds t) ≤ 1
  pub few : (w : ℕ) → w < length counts → slice_index counts w ≤ 65536
  -- a wire's count is at least the number of tasks that have it as an old one
  pub counted : (w : ℕ) → w < length counts → sum_below (length olds) (λ t. times w (wires_of olds t)) ≤ slice_index counts w

-- the new wires of the tasks: a list for each task, of wires below a number, and none twice in a list
pub record AreNews (olds news : List (List ℕ)) (wires : ℕ) : Type 0 where
  pub tasks : length news ≡ length olds
  pub within : (t : ℕ) → AllByRecursion (λ w. w < wires) (wires_of news t)
  pub once : (t w : ℕ) → times w (wires_of news t) ≤ 1
