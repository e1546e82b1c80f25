-- The words of a line with one space between them.
use Rattle.std.proofs.Common.{◌≡◌, ◌≢◌, ℕ, ◌==◌, false, true, List, [], ◌∷◌, ◌++◌, refl, sym, ap, ◌∙◌, true≢false}
use Rattle.std.specs.List.{AllByRecursion}
use Rattle.ice_base.specs.Lines.{IsLine, IsWord}
use Rattle.ice_base.specs.Text.{begins_with, ends_word, uncommented, words}
use Rattle.ice_base.proofs.TextLaws.{first_word, last_word}
use Rattle.ice_base.proofs.TextLines.{all_append}

-- a word that begins no comment, and a space
pub front_says : (text word rest : List ℕ) → IsWord word → begins_with 35 word ≡ false → text ≡ word ++ 32 ∷ rest → uncommented (words text) ≡ word ∷ uncommented (words rest)
front_says text word rest is bare whole = ap (λ t. uncommented (words t)) whole ∙ ap uncommented (first_word word 32 rest is refl) ∙ (rw bare refl)

pub last_says : (word : List ℕ) → IsWord word → begins_with 35 word ≡ false → uncommented (words word) ≡ word ∷ []
last_says word is bare = ap uncommented (last_word word is) ∙ (rw bare refl)

-- ---- no line feed is in them
no_feed : (b : ℕ) → ends_word b ≡ false → b ≢ 10
no_feed b within is = absurd (true≢false (sym (ap ends_word is) ∙ within))

space_apart : (b : ℕ) → b ≡ 32 → b ≢ 10
space_apart b space feed = absurd (true≢false (ap (λ c. c == 32) (sym space ∙ feed)))

no_feeds : (word : List ℕ) → AllByRecursion (λ b. ends_word b ≡ false) word → IsLine word
no_feeds [] all = tt
no_feeds (b ∷ word) all = (no_feed b all.0, no_feeds word all.1)

pub line_of_word : (word : List ℕ) → IsWord word → IsLine word
line_of_word word is = no_feeds word is.1

pub space_in_line : (front rest : List ℕ) → IsLine front → IsLine rest → IsLine (front ++ 32 ∷ rest)
space_in_line front rest is line = all_append (λ b. b ≢ 10) front (32 ∷ rest) is (space_apart 32 refl, line)
