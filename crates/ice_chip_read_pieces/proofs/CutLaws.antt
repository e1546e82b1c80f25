-- Texts that are cut behind their last line feed, and the lines of such texts.
use Rattle.std.proofs.Common.{◌≡◌, ℕ, List, [], ◌∷◌, ◌++◌, refl, sym, ap, ◌∙◌, append_assoc, append-nil, arith}
use Rattle.std.specs.List.{AllByRecursion}
use Rattle.ice_base.specs.Text.{lines, numbered, next_number, words, uncommented, plain_lines, with_words}
use Rattle.ice_base.specs.Lines.{IsLine, text_of_lines}
use Rattle.ice_base.proofs.TextLaws.{first_line, last_line, no_lines_left, no_words_left}
use Rattle.ice_base.proofs.Pieces.{text_join}
use Rattle.ice_chip_read_pieces.specs.Cut.{IsCut, number_behind}
use Rattle.ice_chip_read_pieces.specs.SoFar.{words_at}

-- ---- where a text is cut
all_append : {X : Type 0} (P : X → Type 0) (xs ys : List X) → AllByRecursion P xs → AllByRecursion P ys → AllByRecursion P (xs ++ ys)
all_append P [] ys front back = back
all_append P (x ∷ xs) ys front back = (front.0, all_append P xs ys front.1 back)

pub nothing_cut : IsCut [] [] []
nothing_cut = record { ends = tt; unended = tt; whole = refl }

-- more bytes of the line that isn't ended
pub cut_more : (text : List ℕ) (ended : List (List ℕ)) (rest more : List ℕ) → IsCut text ended rest → IsLine more → IsCut (text ++ more) ended (rest ++ more)
cut_more text ended rest more c line = record {
  ends = c.ends;
  unended = all_append (λ b. b ≡ 10 → ⊥) rest more c.unended line;
  whole = ap (λ t. t ++ more) c.whole ∙ append_assoc (text_of_lines ended) rest more;
}

-- its line feed
pub cut_end : (text : List ℕ) (ended : List (List ℕ)) (rest : List ℕ) → IsCut text ended rest → IsCut (text ++ 10 ∷ []) (ended ++ rest ∷ []) []
cut_end text ended rest c = record {
  ends = all_append IsLine ended (rest ∷ []) c.ends (c.unended, tt);
  unended = tt;
  whole =
      ap (λ t. t ++ 10 ∷ []) c.whole ∙ append_assoc (text_of_lines ended) rest (10 ∷ [])
      ∙ ap (λ t. text_of_lines ended ++ t) (sym (append-nil (rest ++ 10 ∷ []))) ∙ text_join ended (rest ∷ [])
      ∙ sym (append-nil (text_of_lines (ended ++ rest ∷ [])));
}

-- ---- the lines of a text that is cut
lines_behind : (ended : List (List ℕ)) (rest : List ℕ) → AllByRecursion IsLine ended → lines (text_of_lines ended ++ rest) ≡ ended ++ lines rest
lines_behind [] rest h = refl
lines_behind (line ∷ ended) rest h =
    ap lines (append_assoc (line ++ 10 ∷ []) (text_of_lines ended) rest ∙ append_assoc line (10 ∷ []) (text_of_lines ended ++ rest))
    ∙ first_line line (text_of_lines ended ++ rest) h.0 ∙ ap (λ ls. line ∷ ls) (lines_behind ended rest h.1)

numbered_append : (n : ℕ) (xs ys : List (List ℕ)) → numbered n (xs ++ ys) ≡ numbered n xs ++ numbered (number_behind n xs) ys
numbered_append n [] ys = refl
numbered_append n (x ∷ xs) ys = ap (λ ls. (n, x) ∷ ls) (numbered_append (next_number n) xs ys)

pub number_after : (n : ℕ) (xs : List (List ℕ)) (x : List ℕ) → number_behind n (xs ++ x ∷ []) ≡ next_number (number_behind n xs)
number_after n [] x = refl
number_after n (y ∷ xs) x = number_after (next_number n) xs x

with_append : (n : ℕ) (ws : List (List ℕ)) (front back : List (ℕ × List (List ℕ))) → with_words n ws (front ++ back) ≡ with_words n ws front ++ back
with_append n [] front back = refl
with_append n (w ∷ ws) front back = refl

plain_append : (xs ys : List (ℕ × List ℕ)) → plain_lines (xs ++ ys) ≡ plain_lines xs ++ plain_lines ys
plain_append [] ys = refl
plain_append (l ∷ xs) ys =
    ap (with_words l.0 (uncommented (words l.1))) (plain_append xs ys) ∙ with_append l.0 (uncommented (words l.1)) (plain_lines xs) (plain_lines ys)

-- one line behind others
pub plain_more : (ended : List (List ℕ)) (line : List ℕ)
    → plain_lines (numbered 1 (ended ++ line ∷ [])) ≡ plain_lines (numbered 1 ended) ++ words_at (number_behind 1 ended) line
plain_more ended line = ap plain_lines (numbered_append 1 ended (line ∷ [])) ∙ plain_append (numbered 1 ended) ((number_behind 1 ended, line) ∷ [])

-- an empty rest is no line, and has no words
plain_rest : (n : ℕ) (rest : List ℕ) → IsLine rest → plain_lines (numbered n (lines rest)) ≡ words_at n rest
plain_rest n [] h = ap (λ ls. plain_lines (numbered n ls)) no_lines_left ∙ sym (ap (λ ws. with_words n (uncommented ws) []) no_words_left)
plain_rest n (b ∷ rest) h = ap (λ ls. plain_lines (numbered n ls)) (last_line (b ∷ rest) h (omega arith))

pub plain_whole : (text : List ℕ) (ended : List (List ℕ)) (rest : List ℕ) → IsCut text ended rest
    → plain_lines (numbered 1 (lines text)) ≡ plain_lines (numbered 1 ended) ++ words_at (number_behind 1 ended) rest
plain_whole text ended rest c =
    ap (λ t. plain_lines (numbered 1 (lines t))) c.whole ∙ ap (λ ls. plain_lines (numbered 1 ls)) (lines_behind ended rest c.ends)
    ∙ ap plain_lines (numbered_append 1 ended (lines rest)) ∙ plain_append (numbered 1 ended) (numbered (number_behind 1 ended) (lines rest))
    ∙ ap (λ ls. plain_lines (numbered 1 ended) ++ ls) (plain_rest (number_behind 1 ended) rest c.unended)
