-- What is held of a text, line after line.
use Rattle.std.proofs.Common.{◌≡◌, ℕ, List, [], ◌∷◌, ◌++◌, length, Option, None, Ok, Err, refl, sym, ap, subst, ◌∙◌, append_assoc, append-nil}
use Rattle.ice_base.specs.Text.{numbered, next_number, plain_lines}
use Rattle.ice_base.specs.Lines.{IsLine, plain_lines_of}
use Rattle.ice_chip_read.specs.Reading.{Reading}
use Rattle.ice_chip_read.specs.Whole.{chip_says}
use Rattle.ice_chip_read.specs.declared.fault.ChipStop.{ChipStop}
use Rattle.ice_chip_read.specs.declared.fault.ChipStop.TheVariants.{NoMemory, Fault}
use Rattle.ice_chip_read_pieces.specs.Cut.{IsCut}
use Rattle.ice_chip_read_pieces.specs.Held.{Held, HasSaid, IsMade, HoldsRest}
use Rattle.ice_chip_read_pieces.specs.SoFar.{so_far, words_at, lines_so_far}
use Rattle.ice_chip_read_pieces.specs.Stands.{Follows, StandsFor, kept_behind, IsKept}
use Rattle.ice_chip_read_pieces.proofs.CutLaws.{nothing_cut, cut_more, cut_end, number_after, plain_more, plain_whole}
use Rattle.ice_chip_read_pieces.proofs.SaidLaws.{Said, WordLine, stops_more, Means, means}

abbrev pub held_by : Said → ℕ → List ℕ → Held
held_by said number held = record { said = said; number = number; rest = held }

-- what the taking of one line ensures
abbrev pub Took : Said → Said → ℕ → List ℕ → Type 0
Took old new number line = (ls : List WordLine) → HasSaid old (so_far ls) → HasSaid new (so_far (ls ++ words_at number line))

abbrev pub Stays : Said → Said → Type 0
Stays old new = (stop : ChipStop) → old ≡ Err stop → new ≡ Err stop

-- a line whose bytes are held, or of which a stop holds none
line_taken : (old new : Said) (ls : List WordLine) (number : ℕ) (rest held line taken : List ℕ) → HoldsRest old rest held → HasSaid old (so_far ls) → taken ≡ held ++ line → Took old new number taken → Stays old new
    → HasSaid new (so_far (ls ++ words_at number (rest ++ line)))
line_taken (Ok rows) new ls number rest held line taken holds h is took stays = subst (λ t. HasSaid new (so_far (ls ++ words_at number t))) (is ∙ ap (λ t. t ++ line) holds) (took ls h)
line_taken (Err stop) new ls number rest held line taken holds h is took stays =
    subst (λ s. HasSaid s (so_far (ls ++ words_at number (rest ++ line)))) (sym (stays stop refl)) (stops_more stop ls number _ h)

none_held : (said : Said) → HoldsRest said [] []
none_held (Ok rows) = refl
none_held (Err stop) = refl

-- nothing is read yet
pub follows_nothing : Follows (held_by (Ok None) 1 []) []
follows_nothing = record { ended = []; rest = []; cut = nothing_cut; lines = refl; next = refl; bytes = refl }

-- a line is ended
pub follows_line : (old new : Said) (number next : ℕ) (held left text line taken : List ℕ) → Follows (held_by old number held) text → IsLine line → taken ≡ held ++ line → next ≡ next_number number → left ≡ []
    → Took old new number taken → Stays old new → Follows (held_by new next left) (text ++ (line ++ 10 ∷ []))
follows_line old new number next held left text line taken f is_line is next_is none took stays =
    let more : IsCut (text ++ line) f.ended (f.rest ++ line) = cut_more text f.ended f.rest line f.cut is_line in
    let said : HasSaid new (so_far (plain_lines (numbered 1 f.ended) ++ words_at number (f.rest ++ line))) =
    line_taken old new (plain_lines (numbered 1 f.ended)) number f.rest held line taken f.bytes f.lines is took stays in
    record {
      ended = f.ended ++ (f.rest ++ line) ∷ [];
      rest = [];
      cut = subst (λ t. IsCut t (f.ended ++ (f.rest ++ line) ∷ []) []) (append_assoc text line (10 ∷ [])) (cut_end (text ++ line) f.ended (f.rest ++ line) more);
      lines = subst (λ ls. HasSaid new (so_far ls)) (sym (plain_more f.ended (f.rest ++ line)))
          (subst (λ n. HasSaid new (so_far (plain_lines (numbered 1 f.ended) ++ words_at n (f.rest ++ line)))) f.next said);
      next = next_is ∙ ap next_number f.next ∙ sym (number_after 1 f.ended (f.rest ++ line));
      bytes = subst (HoldsRest new []) (sym none) (none_held new);
    }

-- bytes of the line that isn't ended are held
pub follows_more : (rows : Option Reading) (number : ℕ) (held text more : List ℕ) → Follows (held_by (Ok rows) number held) text → IsLine more → Follows (held_by (Ok rows) number (held ++ more)) (text ++ more)
follows_more rows number held text more f is_line = record {
  ended = f.ended;
  rest = f.rest ++ more;
  cut = cut_more text f.ended f.rest more f.cut is_line;
  lines = f.lines;
  next = f.next;
  bytes = ap (λ t. t ++ more) f.bytes;
}

-- behind a stop they are not
pub follows_stopped : (stop : ChipStop) (number : ℕ) (held text more : List ℕ) → Follows (held_by (Err stop) number held) text → IsLine more → Follows (held_by (Err stop) number held) (text ++ more)
follows_stopped stop number held text more f is_line = record {
  ended = f.ended;
  rest = f.rest ++ more;
  cut = cut_more text f.ended f.rest more f.cut is_line;
  lines = f.lines;
  next = f.next;
  bytes = f.bytes;
}

-- nor where memory runs out
pub follows_out : (said : Said) (number : ℕ) (held text more : List ℕ) → Follows (held_by said number held) text → IsLine more → Follows (held_by (Err NoMemory) number []) (text ++ more)
follows_out said number held text more f is_line = record {
  ended = f.ended;
  rest = f.rest ++ more;
  cut = cut_more text f.ended f.rest more f.cut is_line;
  lines = tt;
  next = f.next;
  bytes = refl;
}

-- the last line is taken
follows_whole : (old new : Said) (number : ℕ) (held text : List ℕ) → Follows (held_by old number held) text → Took old new number held → Stays old new → HasSaid new (so_far (plain_lines_of text))
follows_whole old new number held text f took stays =
    let said : HasSaid new (so_far (plain_lines (numbered 1 f.ended) ++ words_at number (f.rest ++ []))) =
    line_taken old new (plain_lines (numbered 1 f.ended)) number f.rest held [] held f.bytes f.lines (sym (append-nil held)) took stays in
    subst (λ ls. HasSaid new (so_far ls)) (sym (plain_whole text f.ended f.rest f.cut))
    (subst (λ n. HasSaid new (so_far (plain_lines (numbered 1 f.ended) ++ words_at n f.rest))) f.next
    (subst (λ t. HasSaid new (so_far (plain_lines (numbered 1 f.ended) ++ words_at number t))) (append-nil f.rest) said))

-- so what is held then is what the text says
pub follows_says : (held : Held) (old new : Said) (number : ℕ) (rest taken text : List ℕ) → held_by old number rest ≡ held → taken ≡ rest → Took old new number taken → Stays old new → StandsFor held text → Means new (chip_says text)
follows_says held old new number rest taken text are is took stays stands =
    means new (plain_lines_of text)
    (follows_whole old new number rest text (subst (λ h. Follows h text) (sym are) stands.0) (subst (λ t. Took old new number t) is took) stays)

-- what is held is made of lines
pub made_more : (old new : Said) (number : ℕ) (line : List ℕ) → IsMade old → Took old new number line → IsMade new
made_more old new number line (ls, h) took = (ls ++ words_at number line, took ls h)

kept_bytes : (said : Said) (ended : List (List ℕ)) (rest held : List ℕ) → HasSaid said (lines_so_far ended) → HoldsRest said rest held → (said ≡ Err NoMemory → ⊥) → length held ≡ kept_behind (lines_so_far ended) (length rest)
kept_bytes (Ok rows) ended rest held h holds going = ap length holds ∙ sym (ap (λ s. kept_behind s (length rest)) h)
kept_bytes (Err NoMemory) ended rest held h holds going = absurd (going refl)
kept_bytes (Err (Fault fault)) ended rest held h holds going = ap length holds ∙ sym (ap (λ s. kept_behind s (length rest)) h)

-- how many bytes are kept
pub follows_kept : (said : Said) (number : ℕ) (held text : List ℕ) → Follows (held_by said number held) text → (said ≡ Err NoMemory → ⊥) → IsKept text (length held)
follows_kept said number held text f going = record { ended = f.ended; rest = f.rest; cut = f.cut; bytes = kept_bytes said f.ended f.rest held f.lines f.bytes going }
