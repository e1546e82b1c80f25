-- Maps of counts and of turns, by the definitions' tests.
use Rattle.std.proofs.Common.{◌≡◌, ℕ, ◌+◌, Bool, true, false, cond, Option, Some, List, refl, ap, sym, ◌∙◌, subst, arith}
use Rattle.std.specs.Prelude.{◌&&◌, ◌==◌, unwrap_or, if◌then◌else◌}
use Rattle.std.specs.Map.{lookup}
use Rattle.std.proofs.Math.Path.{fun_ext}
use Rattle.ice_cells.specs.declared.share.Pair.{Pair}
use Rattle.ice_cells.specs.declared.share.Role.{Role}
use Rattle.ice_cells.specs.declared.share.Role.TheVariants.{Gives}
use Rattle.ice_cells.specs.Pairs.{gives}
use Rattle.ice_cells.specs.Same.{same_pair}
use Rattle.ice_cells.proofs.SamePairs.{same_pair_is, pairs_equal}
use Rattle.ice_pack_share.specs.contracts.pairing.TurnPartialEq.TheImpl as turns
use Rattle.ice_pack_share.specs.declared.pairing.Turn.{Turn}
use Rattle.ice_pack_share.specs.Turns.{same_turn, turn_of, count_in, one_if, lut_at}

pub turns_equal : (turns.eq-value).it ≡ same_turn
turns_equal = fun_ext (λ (a : Turn). fun_ext (λ (b : Turn). ap (λ (same : Pair → Pair → Bool). same a.pair b.pair && (a.turn == b.turn)) pairs_equal))

-- one more of a pair
pub counted : (eq : Pair → Pair → Bool) → eq ≡ same_pair → (old new : List (Pair × ℕ)) (k : Pair) (n : ℕ)
    → ((q : Pair) → lookup (eq q) new ≡ cond (eq k q) (Some (n + 1)) (lookup (eq q) old)) → n ≡ count_in old k
    → (p : Pair) → count_in new p ≡ count_in old p + one_if (same_pair k p)
counted eq e old new k n updates is p = by (same_pair k p) refl
  where
    at : lookup (same_pair p) new ≡ cond (same_pair k p) (Some (n + 1)) (lookup (same_pair p) old)
    at = subst (λ (test : Pair → Pair → Bool). lookup (test p) new ≡ cond (test k p) (Some (n + 1)) (lookup (test p) old)) e (updates p)

    by : (b : Bool) → same_pair k p ≡ b → count_in new p ≡ count_in old p + cond b 1 0
    by true same = ap (λ (o : Option ℕ). unwrap_or o 0) (at ∙ ap (λ b. cond b (Some (n + 1)) (lookup (same_pair p) old)) same) ∙ ap (λ x. x + 1) (is ∙ ap (count_in old) (same_pair_is k p same))
    by false other = ap (λ (o : Option ℕ). unwrap_or o 0) (at ∙ ap (λ b. cond b (Some (n + 1)) (lookup (same_pair p) old)) other) ∙ (let z : count_in old p ≡ count_in old p + 0 = omega arith in z)

turn_test : (q p : Pair) (n k : ℕ) (counts : List (Pair × ℕ)) (b : Bool) → same_pair q p ≡ b → n ≡ count_in counts q → (b && (n == k)) ≡ (b && (count_in counts p == k))
turn_test q p n k counts true same is = ap (λ x. x == k) (is ∙ ap (count_in counts) (same_pair_is q p same))
turn_test q p n k counts false other is = refl

-- a look-up table is noted by its turn
pub noted : (role : Role) (q : Pair) → role ≡ Gives q → (old new : List (Turn × ℕ)) (counts : List (Pair × ℕ)) (n j : ℕ) → n ≡ count_in counts q
    → ((t : Turn) → lut_at new t ≡ (if same_turn (turn_of q n) t then Some j else lut_at old t))
    → (p : Pair) (k : ℕ) → lut_at new (turn_of p k) ≡ (if gives p role && (count_in counts p == k) then Some j else lut_at old (turn_of p k))
noted role q e old new counts n j is put p k =
    put (turn_of p k) ∙ ap (λ b. cond b (Some j) (lut_at old (turn_of p k))) (turn_test q p n k counts (same_pair q p) refl is ∙ ap (λ r. gives p r && (count_in counts p == k)) (sym e))
