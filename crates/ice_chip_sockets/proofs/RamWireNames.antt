-- Names of wires behind the last.
use Rattle.std.proofs.Common.{◌≡◌, ◌≤◌, ℕ, [], length, refl, sym, arith}
use Rattle.std.proofs.lemmas.List.{get_or_past}
use Rattle.ice_chip_names.specs.RamNames.{ram_names, ram_name}

count : length ram_names ≡ 76
unfolding ram_names
count = refl

pub no_name : (n : ℕ) → 76 ≤ n → [] ≡ ram_name n
no_name n le = let all = count in sym (get_or_past ram_names n [] (omega (arith, all, le)))
