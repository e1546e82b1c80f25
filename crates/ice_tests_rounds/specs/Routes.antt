-- New routes of tasks.
use Rattle.std.specs.Prelude.{ℕ, ◌≤◌, ◌<◌, List}
use Rattle.std.specs.List.{AllByRecursion}
use Rattle.ice_core.specs.Routes.{times, wires_of}

-- routes over so many wires, none with a wire twice
pub record AreRoutes (wires : ℕ) (routes : List (List ℕ)) : Type 0 where
  pub within : (t : ℕ) → AllByRecursion (λ w. w < wires) (wires_of routes t)
  pub once : (t w : ℕ) → times w (wires_of routes t) ≤ 1
