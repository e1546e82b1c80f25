-- Where the first function of each kind and name, and the first package of each name, stands in its list.
use Rattle.std.specs.Prelude.{ℕ, ◌+◌, List, [], ◌∷◌, map, bytes_eq, Vec}
use Rattle.std.specs.declared.alloc.Global.{Global}
use Rattle.ice_chip.specs.Database.{FunctionRow, PackageRows}
use Rattle.ice_chip.specs.Indices.{with_first}
use Rattle.ice_chip.specs.declared.rows.TileKind.{TileKind}
use Rattle.ice_chip.specs.declared.rows.TileKind.TheVariants.{Io, Logic, RamBottom, RamTop}
use Rattle.ice_chip.specs.declared.name_places.FunctionPlaces.{FunctionPlaces}

-- names with their places in a list, without where they lie in memory
abbrev pub by_text : List (Vec ℕ Global × ℕ) → List (List ℕ × ℕ)
by_text entries = map (λ entry. (entry.0.items, entry.1)) entries

-- ---- functions, those of each kind apart
pub record PlacesByKind : Type 0 where
  pub io : List (List ℕ × ℕ)
  pub logic : List (List ℕ × ℕ)
  pub ram_bottom : List (List ℕ × ℕ)
  pub ram_top : List (List ℕ × ℕ)

abbrev pub no_places : PlacesByKind
no_places = record { io = []; logic = []; ram_bottom = []; ram_top = [] }

abbrev pub by_kind : FunctionPlaces → PlacesByKind
by_kind places = record {
  io = by_text places.io.entries;
  logic = by_text places.logic.entries;
  ram_bottom = by_text places.ram_bottom.entries;
  ram_top = by_text places.ram_top.entries;
}

abbrev pub of_kind : PlacesByKind → TileKind → List (List ℕ × ℕ)
of_kind s Io = s.io
of_kind s Logic = s.logic
of_kind s RamBottom = s.ram_bottom
of_kind s RamTop = s.ram_top

abbrev pub put_kind : PlacesByKind → TileKind → List ℕ × ℕ → PlacesByKind
put_kind s Io row = record { io = with_first bytes_eq s.io row; logic = s.logic; ram_bottom = s.ram_bottom; ram_top = s.ram_top }
put_kind s Logic row = record { io = s.io; logic = with_first bytes_eq s.logic row; ram_bottom = s.ram_bottom; ram_top = s.ram_top }
put_kind s RamBottom row = record { io = s.io; logic = s.logic; ram_bottom = with_first bytes_eq s.ram_bottom row; ram_top = s.ram_top }
put_kind s RamTop row = record { io = s.io; logic = s.logic; ram_bottom = s.ram_bottom; ram_top = with_first bytes_eq s.ram_top row }

-- the places with those of these functions, the first of which has the number
abbrev pub function_places : PlacesByKind → ℕ → List FunctionRow → PlacesByKind
function_places s n [] = s
function_places s n (f ∷ fs) = function_places (put_kind s f.kind (f.name, n)) (n + 1) fs

-- ---- packages
-- the places with those of these packages, the first of which has the number
abbrev pub package_places : List (List ℕ × ℕ) → ℕ → List PackageRows → List (List ℕ × ℕ)
package_places entries n [] = entries
package_places entries n (p ∷ ps) = package_places (with_first bytes_eq entries (p.name, n)) (n + 1) ps
