-- How the names of bits at the front of a text are read.
use Rattle.std.proofs.Common.{◌≡◌, ◌≢◌, ℕ, ◌<◌, List, [], ◌∷◌, ◌++◌, nat_lt, Some, option_map, false, true, refl, sym, ap, ◌∙◌, arith, rules, tests, append_assoc, length-append}
use Rattle.std.specs.List.{AllByRecursion}
use Rattle.ice_base.specs.Lines.{IsLine}
use Rattle.ice_base.specs.Places.{bit_named, bits_named}
use Rattle.ice_base.specs.Text.{ends_word, number_below, number_in, uncommented, words}
use Rattle.ice_base.specs.declared.bit.BitAt.{BitAt}
use Rattle.ice_base.proofs.KnownLists.{all_begin, known_joins}
use Rattle.ice_base.proofs.PlainBits.{bit_is}
use Rattle.ice_base.proofs.TextLines.{all_append}
use Rattle.ice_chip_read.specs.Fronts.{AreBitsAhead, IsBitAhead, IsNumberAhead}
use Rattle.ice_chip_read.proofs.PlainRows.{number_plain}
use Rattle.ice_chip_read.proofs.PlainWords.{front_says, last_says, line_of_word, space_in_line}

-- ---- one bit
below_known : (limit n : ℕ) (word : List ℕ) → number_in word ≡ Some n → n < limit → number_below limit word ≡ Some n
below_known limit n word is lt = let small : nat_lt n limit ≡ true = search (rules, tests) in rw (is, small) refl

-- the name of a bit, by the digits of its row and column
abbrev name_of : List ℕ → List ℕ → List ℕ
name_of row column = 66 ∷ (row ++ 91 ∷ (column ++ 93 ∷ []))

name_within : (row column : List ℕ) → AllByRecursion (λ b. ends_word b ≡ false) row → AllByRecursion (λ b. ends_word b ≡ false) column → AllByRecursion (λ b. ends_word b ≡ false) (name_of row column)
name_within row column rows columns =
    (refl, all_append (λ b. ends_word b ≡ false) row (91 ∷ (column ++ 93 ∷ [])) rows (refl, all_append (λ b. ends_word b ≡ false) column (93 ∷ []) columns (refl, tt)))

name_whole : (row column rest : List ℕ) → 66 ∷ (row ++ 91 ∷ (column ++ 93 ∷ rest)) ≡ name_of row column ++ rest
name_whole row column rest =
    ap (λ t. 66 ∷ (row ++ 91 ∷ t)) (sym (append_assoc column (93 ∷ []) rest)) ∙ ap (λ t. 66 ∷ t) (sym (append_assoc row (91 ∷ (column ++ 93 ∷ [])) rest))

pub bit_stands : (text front middle back last rest : List ℕ) (row column : ℕ) → text ≡ 66 ∷ front → IsNumberAhead front row middle → middle ≡ 91 ∷ back → IsNumberAhead back column last → last ≡ 93 ∷ rest → row < 16 → column < 54
    → IsBitAhead text (record { row = row; col = column }) rest
bit_stands text front middle back last rest row column is rows opened columns closed high wide =
    let first = number_plain rows.word row rows.number in
    let second = number_plain columns.word column columns.number in
    record {
      word = name_of rows.word columns.word;
      whole =
          is ∙ ap (λ t. 66 ∷ t) (rows.whole ∙ ap (λ t. rows.word ++ t) (opened ∙ ap (λ t. 91 ∷ t) (columns.whole ∙ ap (λ t. columns.word ++ t) closed)))
          ∙ name_whole rows.word columns.word rest;
      plain = record { word = (omega arith, name_within rows.word columns.word first.word.1 second.word.1); no_comment = refl };
      named = bit_is 54 rows.word columns.word row column (below_known 16 row rows.word rows.number high) (below_known 54 column columns.word columns.number wide);
    }

-- ---- all bits of a line
-- the names so far are of these bits
pub record AreBitsTo (text left : List ℕ) (bits : List BitAt) : Type 0 where
  pub read : List ℕ
  pub whole : text ≡ read ++ left
  pub ends : IsLine read
  pub named : (line : List ℕ) → bits_named 54 (uncommented (words (read ++ line))) ≡ option_map (λ others. bits ++ others) (bits_named 54 (uncommented (words line)))

pub no_bits : (text : List ℕ) → AreBitsTo text text []
no_bits text = record { read = []; whole = refl; ends = tt; named = λ line. all_begin (bits_named 54 (uncommented (words line))) }

one_named : (bit : BitAt) (word : List ℕ) (others : List (List ℕ)) → bit_named 54 word ≡ Some bit → bits_named 54 (word ∷ others) ≡ option_map (λ bits. bit ∷ bits) (bits_named 54 others)
one_named bit word others is = rw is refl

-- the name of a bit, and a space behind it
pub bit_joins : (text left rest behind : List ℕ) (bits : List BitAt) (bit : BitAt) → AreBitsTo text left bits → IsBitAhead left bit rest → rest ≡ 32 ∷ behind → AreBitsTo text behind (bits ++ bit ∷ [])
bit_joins text left rest behind bits bit so_far ahead space = record {
  read = so_far.read ++ (ahead.word ++ 32 ∷ []);
  whole =
      so_far.whole ∙ ap (λ t. so_far.read ++ t) (ahead.whole ∙ ap (λ t. ahead.word ++ t) space ∙ sym (append_assoc ahead.word (32 ∷ []) behind))
      ∙ sym (append_assoc so_far.read (ahead.word ++ 32 ∷ []) behind);
  ends = all_append (λ b. b ≢ 10) so_far.read (ahead.word ++ 32 ∷ []) so_far.ends (space_in_line ahead.word [] (line_of_word ahead.word ahead.plain.word) tt);
  named = λ line.
      ap (λ t. bits_named 54 (uncommented (words t))) (append_assoc so_far.read (ahead.word ++ 32 ∷ []) line ∙ ap (λ t. so_far.read ++ t) (append_assoc ahead.word (32 ∷ []) line))
      ∙ so_far.named (ahead.word ++ 32 ∷ line)
      ∙ ap (option_map (λ others. bits ++ others))
      (ap (bits_named 54) (front_says (ahead.word ++ 32 ∷ line) ahead.word line ahead.plain.word ahead.plain.no_comment refl) ∙ one_named bit ahead.word (uncommented (words line)) ahead.named)
      ∙ known_joins bits bit (bits_named 54 (uncommented (words line)));
}

-- the name of a bit, and a line feed behind it
pub bits_stand : (text left rest behind : List ℕ) (bits : List BitAt) (bit : BitAt) → AreBitsTo text left bits → IsBitAhead left bit rest → rest ≡ 10 ∷ behind → AreBitsAhead text (bits ++ bit ∷ []) behind
bits_stand text left rest behind bits bit so_far ahead feed = record {
  line = so_far.read ++ ahead.word;
  whole = so_far.whole ∙ ap (λ t. so_far.read ++ t) (ahead.whole ∙ ap (λ t. ahead.word ++ t) feed) ∙ sym (append_assoc so_far.read ahead.word (10 ∷ behind));
  ends = all_append (λ b. b ≢ 10) so_far.read ahead.word so_far.ends (line_of_word ahead.word ahead.plain.word);
  named =
      so_far.named ahead.word
      ∙ ap (option_map (λ others. bits ++ others)) (ap (bits_named 54) (last_says ahead.word ahead.plain.word ahead.plain.no_comment) ∙ one_named bit ahead.word [] ahead.named);
  some = omega (arith, length-append bits (bit ∷ []));
}
