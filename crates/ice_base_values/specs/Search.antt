-- What the search for an order keeps true, over plain lists. Each point has a mark: it is new, or open (it stands on the path
-- that the search has gone down), or done (it stands in the order).
use Rattle.std.specs.Prelude.{◌≡◌, ℕ, ◌+◌, ◌<◌, List, [], ◌∷◌, length}
use Rattle.std.proofs.Common.{suc}
use Rattle.ice_base_values.specs.Order.{At, Has, StandOnce, StandsAfter}
use Rattle.ice_base_values.specs.declared.search.Mark.{Mark}
use Rattle.ice_base_values.specs.declared.search.Mark.TheVariants.{New, Open, Done}

-- how many points the search has not entered yet
abbrev pub new_count : List Mark → ℕ
new_count [] = 0
new_count (New ∷ marks) = suc (new_count marks)
new_count (Open ∷ marks) = new_count marks
new_count (Done ∷ marks) = new_count marks

-- how many points are in the order
abbrev pub done_count : List Mark → ℕ
done_count [] = 0
done_count (New ∷ marks) = done_count marks
done_count (Open ∷ marks) = done_count marks
done_count (Done ∷ marks) = suc (done_count marks)

-- `next` is each point's cursor in its list of dependences: those before it are done, and are not looked at again
pub record IsSearch (points : ℕ) (depends : ℕ → List ℕ) (marks : List Mark) (next path order : List ℕ) : Type 0 where
  pub marks_length : length marks ≡ points
  pub next_length : length next ≡ points
  -- the order so far
  pub count : length order ≡ done_count marks
  pub done : (point : ℕ) → At marks point Done → Has order point
  pub ordered : (i point : ℕ) → At order i point → At marks point Done
  pub once : StandOnce order
  pub after : StandsAfter depends order
  -- the path: each point of it depends on the next
  pub opened : (point : ℕ) → At marks point Open → Has path point
  pub on_path : (i point : ℕ) → At path i point → At marks point Open
  pub path_once : StandOnce path
  pub edges : (i point read : ℕ) → At path i point → At path (i + 1) read → Has (depends point) read
  -- the dependences before a point's cursor are in the order
  pub passed : (point cursor j read : ℕ) → At next point cursor → j < cursor → At (depends point) j read → At marks read Done
