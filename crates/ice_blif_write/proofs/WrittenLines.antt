-- A line of words has these words, and does not go on in the next line.
use Rattle.std.proofs.Common.{◌≡◌, ◌≢◌, ℕ, ◌==◌, ◌&&◌, Bool, true, false, None, List, [], ◌∷◌, ◌++◌, map, if◌then◌else◌, refl, sym, ap, ◌∙◌, subst, append-nil, append_assoc, arith, rules, tests}
use Rattle.std.specs.List.{AllByRecursion, flat_map, list_all}
use Rattle.std.proofs.lemmas.Grind.{flat_map-append}
use Rattle.ice_base.proofs.Booleans.{and_false}
use Rattle.ice_base.specs.Text.{words, lines, ends_word, is_blank, numbered, next_number, uncommented}
use Rattle.ice_base.specs.Lines.{IsWord, IsLine, text_of_lines}
use Rattle.ice_base.proofs.TextLaws.{first_word, last_word}
use Rattle.ice_base.proofs.TextLines.{all_append, word_line, lines_read}
use Rattle.ice_blif.specs.JoinedLines.{goes_on, goes_on_by, plain, plain_by, with_next, later_joined, joined, FilledLine, filled}
use Rattle.ice_blif.specs.Continued.{before_backslash, in_front_of, continued, outside_comment}
use Rattle.ice_blif.proofs.Backslashes.{no_front}
use Rattle.ice_blif_write.specs.RoundTrip.{IsName}
use Rattle.ice_blif_write.specs.Text.{Words, behind_space, ends_in, line_of}

-- each word of a line is one, and begins no comment
abbrev pub AreWords : Words → Type 0
AreWords ws = IsName ws.0 × AllByRecursion IsName ws.1

-- ---- its words
spaced_words : (w : List ℕ) (ws : List (List ℕ)) → IsName w → AllByRecursion IsName ws → words (w ++ flat_map behind_space ws) ≡ w ∷ ws
spaced_words w [] h hs = ap words (append-nil w) ∙ last_word w h.word
spaced_words w (x ∷ ws) h hs = first_word w 32 (x ++ flat_map behind_space ws) h.word refl ∙ ap (λ vs. w ∷ vs) (spaced_words x ws hs.0 hs.1)

-- a line with `#` behind it is a line of one word more
with_mark : (w : List ℕ) (ws : List (List ℕ)) → (w ++ flat_map behind_space ws) ++ 32 ∷ 35 ∷ [] ≡ w ++ flat_map behind_space (ws ++ (35 ∷ []) ∷ [])
with_mark w ws =
    append_assoc w (flat_map behind_space ws) (32 ∷ 35 ∷ []) ∙ ap (λ xs. w ++ xs) (sym (flat_map-append behind_space ws ((35 ∷ []) ∷ [])))

marked_words : (w : List ℕ) (ws : List (List ℕ)) → IsName w → AllByRecursion IsName ws → words (w ++ flat_map behind_space (ws ++ (35 ∷ []) ∷ [])) ≡ w ∷ (ws ++ (35 ∷ []) ∷ [])
marked_words w [] h hs = first_word w 32 ((35 ∷ []) ++ []) h.word refl ∙ ap (λ vs. w ∷ vs) (last_word (35 ∷ []) (omega arith, (refl, tt)))
marked_words w (x ∷ ws) h hs = first_word w 32 (x ++ flat_map behind_space (ws ++ (35 ∷ []) ∷ [])) h.word refl ∙ ap (λ vs. w ∷ vs) (marked_words x ws hs.0 hs.1)

not_commented : (ws : List (List ℕ)) → AllByRecursion IsName ws → uncommented ws ≡ ws
not_commented [] hs = refl
not_commented (w ∷ ws) hs = rw hs.0.no_comment (ap (λ vs. w ∷ vs) (not_commented ws hs.1))

mark_commented : (ws : List (List ℕ)) → AllByRecursion IsName ws → uncommented (ws ++ (35 ∷ []) ∷ []) ≡ ws
mark_commented [] hs = refl
mark_commented (w ∷ ws) hs = rw hs.0.no_comment (ap (λ vs. w ∷ vs) (mark_commented ws hs.1))

-- ---- its last byte
abbrev last_blank : List ℕ → Bool
last_blank [] = false
last_blank (b ∷ []) = is_blank b
last_blank (b ∷ c ∷ line) = last_blank (c ∷ line)

last_behind : (front : List ℕ) (b : ℕ) (line : List ℕ) → last_blank (front ++ b ∷ line) ≡ last_blank (b ∷ line)
last_behind [] b line = refl
last_behind (c ∷ []) b line = refl
last_behind (c ∷ d ∷ front) b line = last_behind (d ∷ front) b line

pub ends_behind : (e : ℕ) (front : List ℕ) (b : ℕ) (line : List ℕ) → ends_in e (front ++ b ∷ line) ≡ ends_in e (b ∷ line)
ends_behind e [] b line = refl
ends_behind e (c ∷ []) b line = refl
ends_behind e (c ∷ d ∷ front) b line = ends_behind e (d ∷ front) b line

no_blank : (b : ℕ) → ends_word b ≡ false → is_blank b ≡ false
no_blank b h = search (rules, tests)

word_last : (b : ℕ) (w : List ℕ) → AllByRecursion (λ c. ends_word c ≡ false) (b ∷ w) → last_blank (b ∷ w) ≡ false
word_last b [] h = no_blank b h.0
word_last b (c ∷ w) h = word_last c w h.1

spaced_last : (w : List ℕ) (ws : List (List ℕ)) → IsWord w → AllByRecursion IsName ws → last_blank (w ++ flat_map behind_space ws) ≡ false
spaced_last [] ws h hs = absurd (let some = h.0 in omega arith)
spaced_last (b ∷ w) [] h hs = ap last_blank (append-nil (b ∷ w)) ∙ word_last b w h.1
spaced_last (b ∷ w) ([] ∷ ws) h hs = absurd (let some = hs.0.word.0 in omega arith)
spaced_last (b ∷ w) ((c ∷ x) ∷ ws) h hs =
    last_behind (b ∷ w) 32 ((c ∷ x) ++ flat_map behind_space ws) ∙ spaced_last (c ∷ x) ws hs.0.word hs.1

some_unblank : (b : ℕ) (line : List ℕ) → last_blank (b ∷ line) ≡ false → list_all is_blank (b ∷ line) ≡ false
some_unblank b [] h = rw h refl
some_unblank b (c ∷ line) h = ap (λ t. is_blank b && t) (some_unblank c line h) ∙ and_false (is_blank b)

no_backslash : (line : List ℕ) → last_blank line ≡ false → ends_in 92 line ≡ false → before_backslash line ≡ None
no_backslash [] h e = refl
no_backslash (b ∷ []) h e = rw e refl
no_backslash (b ∷ c ∷ line) h e =
    ap (in_front_of b (list_all is_blank (c ∷ line))) (no_backslash (c ∷ line) h e) ∙ ap (λ t. in_front_of b t None) (some_unblank c line h) ∙ no_front (b == 92)

-- ---- no line feed

spaced_line : (w : List ℕ) (ws : List (List ℕ)) → IsWord w → AllByRecursion IsName ws → IsLine (w ++ flat_map behind_space ws)
spaced_line w [] h hs = subst IsLine (sym (append-nil w)) (word_line w h.1)
spaced_line w (x ∷ ws) h hs = all_append (λ b. b ≢ 10) w (32 ∷ (x ++ flat_map behind_space ws)) (word_line w h.1) (λ e. omega arith, spaced_line x ws hs.0.word hs.1)

-- ---- the line
-- a line of words is cut into these words, and does not go on
pub record IsPlain (ws : Words) (line : List ℕ) : Type 0 where
  pub feeds : IsLine line
  pub ends : goes_on line ≡ false
  pub plain : plain line ≡ ws.0 ∷ ws.1

by_words : (ws : Words) (text : List ℕ) → IsLine text → before_backslash text ≡ None → uncommented (words text) ≡ ws.0 ∷ ws.1 → IsPlain ws text
by_words ws text is none said =
    let not_continued : continued text ≡ None = ap outside_comment none in
    record { feeds = is; ends = ap goes_on_by not_continued; plain = ap (plain_by text) not_continued ∙ said }

pub plain_line : (ws : Words) → AreWords ws → IsPlain ws (line_of ws)
plain_line ws h = of (ends_in 92 text) refl
  where
    text : List ℕ
    text = ws.0 ++ flat_map behind_space ws.1

    marked : List ℕ
    marked = text ++ 32 ∷ 35 ∷ []

    is_line : IsLine text
    is_line = spaced_line ws.0 ws.1 h.0.word h.1

    of : (b : Bool) → ends_in 92 text ≡ b → IsPlain ws (if b then text ++ 32 ∷ 35 ∷ [] else text)
    of false e =
        by_words ws text is_line (no_backslash text (spaced_last ws.0 ws.1 h.0.word h.1) e)
        (ap uncommented (spaced_words ws.0 ws.1 h.0 h.1) ∙ not_commented (ws.0 ∷ ws.1) (h.0, h.1))
    of true e =
        by_words ws marked (all_append (λ b. b ≢ 10) text (32 ∷ 35 ∷ []) is_line (λ e. omega arith, (λ e. omega arith, tt)))
        (no_backslash marked (last_behind text 32 (35 ∷ [])) (ends_behind 92 text 32 (35 ∷ [])))
        (ap uncommented (ap words (with_mark ws.0 ws.1) ∙ marked_words ws.0 ws.1 h.0 h.1) ∙ mark_commented (ws.0 ∷ ws.1) (h.0, h.1))

-- ---- the text

are_lines : (wss : List Words) → AllByRecursion AreWords wss → AllByRecursion IsLine (map line_of wss)
are_lines [] h = tt
are_lines (ws ∷ wss) h = ((plain_line ws h.0).feeds, are_lines wss h.1)

-- the lines that these words are, the first with the number k
abbrev pub lines_from : ℕ → List Words → List FilledLine
lines_from k [] = []
lines_from k (ws ∷ wss) = (record { number = k; first = ws.0; others = ws.1 }) ∷ lines_from (next_number k) wss

filled_lines : (k : ℕ) (wss : List Words) → AllByRecursion AreWords wss → filled (joined (numbered k (map line_of wss))) ≡ lines_from k wss
filled_lines k [] h = refl
filled_lines k (ws ∷ wss) h =
    let p : IsPlain ws (line_of ws) = plain_line ws h.0 in
    let rest : List (ℕ × List (List ℕ)) = joined (numbered (next_number k) (map line_of wss)) in
    ap (λ b. filled ((k, with_next b (plain (line_of ws)) rest) ∷ later_joined b rest)) p.ends
    ∙ ap (λ vs. filled ((k, vs) ∷ rest)) p.plain
    ∙ ap (λ ls. (record { number = k; first = ws.0; others = ws.1 }) ∷ ls) (filled_lines (next_number k) wss h.1)

-- a text of lines of words has these lines
pub text_lines : (wss : List Words) → AllByRecursion AreWords wss → filled (joined (numbered 1 (lines (text_of_lines (map line_of wss))))) ≡ lines_from 1 wss
text_lines wss h = ap (λ ls. filled (joined (numbered 1 ls))) (lines_read (map line_of wss) (are_lines wss h)) ∙ filled_lines 1 wss h
