-- The texts of a command's files as the program keeps them.
use Rattle.std.specs.Prelude.{ℕ, List, map, Vec}
use Rattle.std.specs.declared.alloc.Global.{Global}

abbrev pub texts_view : List (Vec ℕ Global) → List (List ℕ)
texts_view texts = map (λ text. text.items) texts
