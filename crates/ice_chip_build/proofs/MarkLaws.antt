-- Marks of the bits that are noted.
use Rattle.std.proofs.Common.{◌≡◌, ℕ, ◌<◌, ◌≤◌, Bool, true, false, cond, not, Some, List, ◌∷◌, length, get_or, set, length-set, refl, sym, ap, subst, ◌∙◌, arith, rules, tests, true≢false, nat_lt, inl, inr}
use Rattle.std.specs.Prelude.{◌||◌}
use Rattle.std.specs.Map.{lookup}
use Rattle.std.proofs.lemmas.Bool.{and_parts, or_parts, cases_eq}
use Rattle.std.proofs.lemmas.List.{get_or-set_same, get_or-set_other}
use Rattle.ice_chip.specs.SharedFunction.{same_bit}
use Rattle.ice_chip.specs.declared.rows.TileKind.{TileKind}
use Rattle.ice_chip.specs.declared.rows.TileKind.TheVariants.{Io, Logic, RamBottom, RamTop}
use Rattle.ice_chip.specs.declared.uses.KindBit.{KindBit}
use Rattle.ice_chip_build.specs.Marks.{is_within, kind_number, may_be_noted, place_of, with_mark, LeaveTo}
use Rattle.ice_chip_build.proofs.SharedLaws.{same_bit_is}

kind_below : (k : TileKind) → kind_number k ≤ 3
kind_below Io = omega arith
kind_below Logic = omega arith
kind_below RamBottom = omega arith
kind_below RamTop = omega arith

pub place_below : (p : KindBit) → is_within p ≡ true → place_of p < 4096
place_below p e =
    let parts = and_parts (nat_lt p.bit.row 16) (nat_lt p.bit.col 64) e in
    let low : nat_lt p.bit.row 16 ≡ true = parts.0 in
    let left : nat_lt p.bit.col 64 ≡ true = parts.1 in
    let row : p.bit.row < 16 = search (rules, tests) in
    let col : p.bit.col < 64 = search (rules, tests) in
    omega (arith, row, col, kind_below p.kind)

pub long_with : (marks : List Bool) (p : KindBit) → length (with_mark marks p) ≡ length marks
long_with marks p = by (is_within p)
  where
    by : (b : Bool) → length (cond b (set marks (place_of p) true) marks) ≡ length marks
    by true = length-set marks (place_of p) true
    by false = refl

-- what isn't marked behind a mark is another bit, and wasn't marked before
not_marked : (marks : List Bool) (k p : KindBit) → length marks ≡ 4096 → may_be_noted (with_mark marks k) p ≡ false → (may_be_noted marks p ≡ false) × (same_bit p k ≡ false)
not_marked marks k p long e = (before (is_within k) refl, apart (same_bit p k) refl)
  where
    parts : (not (is_within p) ≡ false) × (get_or (with_mark marks k) (place_of p) false ≡ false)
    parts = or_parts (not (is_within p)) (get_or (with_mark marks k) (place_of p) false) e

    at : (b : Bool) → is_within k ≡ b → get_or (cond b (set marks (place_of k) true) marks) (place_of p) false ≡ false
    at b is = ap (λ c. get_or (cond c (set marks (place_of k) true) marks) (place_of p) false) (sym is) ∙ parts.1

    apart : (s : Bool) → same_bit p k ≡ s → s ≡ false
    apart false same = refl
    apart true same =
        let is : p ≡ k = same_bit_is p k same in
        let within : is_within k ≡ true = subst (λ q. is_within q ≡ true) is (in_tile (is_within p) refl) in
        let lt : place_of k < length marks = (let below = place_below k within in omega (arith, below, long)) in
        let on : get_or (set marks (place_of k) true) (place_of p) false ≡ true = ap (λ q. get_or (set marks (place_of k) true) (place_of q) false) is ∙ get_or-set_same marks (place_of k) true false lt in
        absurd (true≢false (sym on ∙ at true within))
      where
        in_tile : (b : Bool) → is_within p ≡ b → is_within p ≡ true
        in_tile true is = is
        in_tile false is = absurd (true≢false (sym (ap not is) ∙ parts.0))

    none : get_or marks (place_of p) false ≡ false → may_be_noted marks p ≡ false
    none is = ap (λ b. b || get_or marks (place_of p) false) parts.0 ∙ is

    before : (b : Bool) → is_within k ≡ b → may_be_noted marks p ≡ false
    before false is = none (at false is)
    before true is = elim (cases_eq (place_of p) (place_of k)) [
      | inl same ↦ (
          let lt : place_of k < length marks = (let below = place_below k is in omega (arith, below, long)) in
          let on : get_or (set marks (place_of k) true) (place_of p) false ≡ true = ap (λ q. get_or (set marks (place_of k) true) q false) same ∙ get_or-set_same marks (place_of k) true false lt in
          absurd (true≢false (sym on ∙ at true is)))
      | inr other ↦ none (sym (get_or-set_other marks (place_of k) (place_of p) true false other) ∙ at true is)
    ]

-- a bit more
pub marks_next : (marks : List Bool) (lines : List (KindBit × ℕ)) (e : KindBit × ℕ) (rest : List (KindBit × ℕ)) → length marks ≡ 4096 → LeaveTo (e ∷ rest) marks lines → LeaveTo rest (with_mark marks e.0) lines
marks_next marks lines e rest long leave p off =
    let parts = not_marked marks e.0 p long off in
    leave p parts.0 ∙ ap (λ b. cond b (Some e.1) (lookup (same_bit p) rest)) parts.1
