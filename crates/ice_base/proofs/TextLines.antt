-- A text of lines has these lines.
use Rattle.std.proofs.Common.{◌≡◌, ℕ, true, false, List, [], ◌∷◌, ◌++◌, ap, ◌∙◌, append_assoc}
use Rattle.std.specs.List.{AllByRecursion}
use Rattle.ice_base.specs.Text.{lines, ends_word}
use Rattle.ice_base.specs.Lines.{IsLine, text_of_lines}
use Rattle.ice_base.proofs.TextLaws.{no_lines_left, first_line}

pub all_append : {X : Type 0} (P : X → Type 0) (xs ys : List X) → AllByRecursion P xs → AllByRecursion P ys → AllByRecursion P (xs ++ ys)
all_append P [] ys h k = k
all_append P (x ∷ xs) ys h k = (h.0, all_append P xs ys h.1 k)

-- a word is a line
pub word_line : (w : List ℕ) → AllByRecursion (λ b. ends_word b ≡ false) w → IsLine w
word_line [] h = tt
word_line (b ∷ w) h = (λ e. let ends : ends_word b ≡ true = ap ends_word e in absurd (cc (ends, h.0)), word_line w h.1)

pub lines_read : (ls : List (List ℕ)) → AllByRecursion IsLine ls → lines (text_of_lines ls) ≡ ls
lines_read [] h = no_lines_left
lines_read (l ∷ ls) h = ap lines (append_assoc l (10 ∷ []) (text_of_lines ls)) ∙ first_line l (text_of_lines ls) h.0 ∙ ap (λ ms. l ∷ ms) (lines_read ls h.1)
