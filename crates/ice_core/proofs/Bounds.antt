-- How large a price is.
use Rattle.std.proofs.Common.{ℕ, ◌*◌, ◌≤◌, ◌<◌, arith}
use Rattle.std.proofs.lemmas.Nat.{mul-le}

pub factor_fits : (rounds others : ℕ) → rounds ≤ 63 → others ≤ 65535 → rounds * others ≤ 4128705
factor_fits rounds others r o = let le : rounds * others ≤ 63 * 65535 = mul-le rounds others 63 65535 r o in omega arith

pub product_low : (one' other : ℕ) → 1 ≤ one' → 1 ≤ other → 1 ≤ one' * other
product_low one' other a b = let low : 1 * 1 ≤ one' * other = mul-le 1 1 one' other a b in omega arith

pub product_high : (one' other : ℕ) → one' ≤ 4128706 → other ≤ 4128706 → one' * other ≤ 17046213234436
product_high one' other a b = let high : one' * other ≤ 4128706 * 4128706 = mul-le one' other 4128706 4128706 a b in omega arith
