-- Names that are the keys of a map.
use Rattle.std.specs.Prelude.{List, ℕ, map, Vec}
use Rattle.std.specs.declared.alloc.Global.{Global}

-- names without where they lie in memory
abbrev pub texts : List (Vec ℕ Global) → List (List ℕ)
texts keys = map (λ key. key.items) keys
