-- A text that is made of lines is cut into these lines.
use Rattle.std.proofs.Common.{◌≡◌, ◌≢◌, ℕ, ◌<◌, ◌==◌, ◌^◌, Bool, true, false, not, List, [], ◌∷◌, length, map, refl, ap, arith, eq-eqb}
use Rattle.std.specs.Prelude.{codes, decimal}
use Rattle.std.specs.List.{AllByRecursion, list_all}
use Rattle.std.proofs.lemmas.Bool.{and_parts}
use Rattle.ice_base.specs.Text.{lines, ends_word}
use Rattle.ice_base.specs.Lines.{IsLine, IsWord}
use Rattle.ice_base.proofs.TextLaws.{decimal_is_word}
use Rattle.ice_base.proofs.TextLines.{word_line}
use Rattle.ice_chip.specs.declared.rows.TileKind.{TileKind}
use Rattle.ice_chip.specs.declared.rows.TileKind.TheVariants.{Io, Logic, RamBottom, RamTop}
use Rattle.ice_asc.specs.Words.{heading_of_kind}
use Rattle.ice_asc.specs.Text.{digit_of_bit}

-- ---- pieces of text

is_no_feed : (b : ℕ) → not (b == 10) ≡ true → b ≢ 10
is_no_feed b h e = let low : not (b == 10) ≡ false = ap not (eq-eqb b 10 e) in absurd (cc)

pub plain_line : (l : List ℕ) → list_all (λ b. not (b == 10)) l ≡ true → IsLine l
plain_line [] h = tt
plain_line (b ∷ l) h = let parts = and_parts (not (b == 10)) (list_all (λ x. not (x == 10)) l) h in (is_no_feed b parts.0, plain_line l parts.1)

pub decimal_line : (n : ℕ) → n < 2 ^ 64 → IsLine (decimal n)
decimal_line n small = word_line (decimal n) (decimal_is_word n small).1

-- ---- rows
pub digits_line : (row : List Bool) → IsLine (map digit_of_bit row)
digits_line [] = tt
digits_line (true ∷ row) = (is_no_feed 49 refl, digits_line row)
digits_line (false ∷ row) = (is_no_feed 48 refl, digits_line row)

pub digits_end_no_word : (row : List Bool) → AllByRecursion (λ b. ends_word b ≡ false) (map digit_of_bit row)
digits_end_no_word [] = tt
digits_end_no_word (true ∷ row) = (refl, digits_end_no_word row)
digits_end_no_word (false ∷ row) = (refl, digits_end_no_word row)

-- ---- the first words of headings
no_end : (w : List ℕ) → list_all (λ b. not (ends_word b)) w ≡ true → AllByRecursion (λ b. ends_word b ≡ false) w
no_end [] h = tt
no_end (b ∷ w) h = let parts = and_parts (not (ends_word b)) (list_all (λ x. not (ends_word x)) w) h in (low (ends_word b) parts.0, no_end w parts.1)
  where
    low : (x : Bool) → not x ≡ true → x ≡ false
    low false e = refl
    low true e = absurd (cc)

pub plain_word : (w : List ℕ) → 0 < length w → list_all (λ b. not (ends_word b)) w ≡ true → IsWord w
plain_word w some h = (some, no_end w h)

pub kind_word : (kind : TileKind) → IsWord (heading_of_kind kind)
kind_word Io = plain_word (codes ".io_tile") (omega arith) refl
kind_word Logic = plain_word (codes ".logic_tile") (omega arith) refl
kind_word RamBottom = plain_word (codes ".ramb_tile") (omega arith) refl
kind_word RamTop = plain_word (codes ".ramt_tile") (omega arith) refl
