-- The ports of pads, one after another.
use Rattle.std.proofs.Common.{◌≡◌, ℕ, zero, suc, ◌+◌, ◌≤◌, ◌==◌, not, false, None, Some, List, [], ◌∷◌, ◌++◌, length, map, refl, ap, ◌∙◌, nat_lt, arith, rules, tests, if◌then◌else◌}
use Rattle.std.specs.List.{range_with_len, position_or_len}
use Rattle.ice_net.specs.declared.port.Port.{Port}
use Rattle.ice_net.specs.declared.port.Way.TheVariants.{Both}
use Rattle.ice_net.specs.NetlistData.{is_at, port_at, port_by, with_port}
use Rattle.ice_back_laws.specs.Back.{pad_port}
use Rattle.ice_back_laws.specs.Numbers.{port_number, signal}

nowhere : (a n s : ℕ) → port_number (a + n) ≤ s → position_or_len (is_at s) (map pad_port (range_with_len a n)) ≡ n
nowhere a zero s le = refl
nowhere a (suc n) s le =
    let other : (port_number a == s) ≡ false = search (rules, tests, arith) in
    let rest = nowhere (a + 1) n s (omega (arith, le)) in
    let e : 1 + n ≡ suc n = omega arith in
    ap (λ b. if not b then 1 + position_or_len (is_at s) (map pad_port (range_with_len (a + 1) n)) else 0) other ∙ ap (λ m. 1 + m) rest ∙ e

many : (a n : ℕ) → length (map pad_port (range_with_len a n)) ≡ n
many a zero = refl
many a (suc n) = let rest = many (a + 1) n in omega (arith, rest)

free : (k : ℕ) → port_at (port_number k) (map pad_port (range_with_len 0 k)) ≡ None
free k =
    let first = nowhere 0 k (port_number k) (omega arith) in
    let long = many 0 k in
    let no_less : nat_lt k k ≡ false = search (rules, tests) in
    (λ j. if nat_lt (first j) (long j) then Some (first j) else None) ∙ ap (λ b. if b then Some k else None) no_less

one_more : (a n : ℕ) → map pad_port (range_with_len a n) ++ pad_port (a + n) ∷ [] ≡ map pad_port (range_with_len a (suc n))
one_more a zero = let e : a + 0 ≡ a = omega arith in ap (λ k. pad_port k ∷ []) e
one_more a (suc n) =
    let e : a + suc n ≡ a + 1 + n = omega arith in
    ap (λ (ps : List Port). pad_port a ∷ ps) (ap (λ k. map pad_port (range_with_len (a + 1) n) ++ pad_port k ∷ []) e ∙ one_more (a + 1) n)

-- the next port goes last
pub ports_next : (k : ℕ) → with_port (map pad_port (range_with_len 0 k)) (signal (port_number k)) Both ≡ map pad_port (range_with_len 0 (k + 1))
ports_next k =
    let z : k ≡ 0 + k = omega arith in
    let e : suc k ≡ k + 1 = omega arith in
    ap (port_by (map pad_port (range_with_len 0 k)) (signal (port_number k)) Both) (free k)
    ∙ ap (λ m. map pad_port (range_with_len 0 k) ++ pad_port m ∷ []) z
    ∙ one_more 0 k
    ∙ ap (λ m. map pad_port (range_with_len 0 m)) e
