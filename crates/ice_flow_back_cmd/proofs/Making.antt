-- The packages of a chip.
use Rattle.std.proofs.Common.{◌≡◌, ℕ, List, Some, bytes_eq}
use Rattle.ice_base_values.specs.Order.{Has}
use Rattle.ice_base_values.proofs.Members.{find_Has}
use Rattle.ice_chip.specs.Database.{Parts, PackageRows}
use Rattle.ice_chip.specs.Lookups.{package_of}

-- a package that is found is one of the chip's
pub is_listed : (parts : Parts) (name : List ℕ) (rows : PackageRows) → package_of parts name ≡ Some rows → Has parts.packages rows
is_listed parts name rows found = (find_Has (λ (p : PackageRows). bytes_eq p.name name) parts.packages rows found).0
