-- How views stand to one another: which is the main one, which were split off from it, and how many parts each has.
use Rattle.std.specs.Prelude.{◌≡◌, ℕ, ◌+◌, ◌-◌, ◌*◌, ◌≤◌, List, length}
use Rattle.std.specs.List.{sum_by, AllByRecursion}

pub record Standing : Type 0 where
  -- 1 in the main view
  pub main : ℕ
  -- 1 in another view that isn't spent
  pub worker : ℕ
  -- in the main view the number of other views that aren't spent, and the number of splits made
  pub out : ℕ
  pub splits : ℕ
  -- how many parts it has: its own, and one for each view that it took in
  pub parts : ℕ

-- the main view has one part more than it has joined, another view that isn't spent has one, and a spent one none
pub record IsStanding (st : Standing) : Type 0 where
  pub many : st.parts + st.out ≡ st.splits + st.main + st.worker
  pub few : st.splits ≤ 65535 * st.main
  pub fits : st.out ≤ st.splits

-- one view is the main one, and it counts the other views that aren't spent, and the splits
pub record AreSeated {V : Type 0} (standing_of : V → Standing) (views : List V) : Type 0 where
  pub mains : sum_by (λ v. (standing_of v).main) views ≡ 1
  pub opens : sum_by (λ v. (standing_of v).out) views ≡ sum_by (λ v. (standing_of v).worker) views
  pub splits : sum_by (λ v. (standing_of v).splits) views + 1 ≡ length views
  pub each : AllByRecursion (λ v. IsStanding (standing_of v)) views

-- ---- the views as they are made, cut and joined
abbrev pub first_standing : Standing
first_standing = record { main = 1; worker = 0; out = 0; splits = 0; parts = 1 }

abbrev pub worker_standing : Standing
worker_standing = record { main = 0; worker = 1; out = 0; splits = 0; parts = 1 }

abbrev pub spent_standing : Standing
spent_standing = record { main = 0; worker = 0; out = 0; splits = 0; parts = 0 }

abbrev pub split_standing : Standing → Standing
split_standing st = record { main = st.main; worker = st.worker; out = st.out + 1; splits = st.splits + 1; parts = st.parts }

abbrev pub joined_standing : Standing → Standing → Standing
joined_standing st other = record { main = st.main; worker = st.worker; out = st.out - 1; splits = st.splits; parts = st.parts + other.parts }
