-- How a line at the front of a text is cut into the words of its form.
use Rattle.std.proofs.Common.{◌≡◌, ◌≢◌, inl, inr, ℕ, zero, suc, ◌<◌, ◌≤◌, ◌+◌, ◌-◌, Bool, true, false, List, [], ◌∷◌, ◌++◌, length, get_or, take, drop, nat_lt, if◌then◌else◌, codes, refl, sym, ap, ◌∙◌, arith, rules, tests, true≢false, append_assoc, length-take, take-append-drop}
use Rattle.std.specs.List.{AllByRecursion}
use Rattle.std.proofs.lemmas.List.{drop_more, take_more}
use Rattle.ice_base.specs.declared.bit.BitAt.{BitAt}
use Rattle.ice_base.specs.Text.{begins_with, ends_word}
use Rattle.ice_base.proofs.Cuts.{tail_is}
use Rattle.ice_chip_read.specs.Fronts.{AreBitsAhead, AreSwitchesAhead, IsGroupAhead, IsLastAhead, IsNameAhead, IsNameRowAhead, IsNetAhead, IsNumberAhead, IsRowAhead, IsWireAhead}
use Rattle.ice_chip_read.specs.PlainRows.{AreAhead, IsAhead, has_blank}

-- ---- numbers
pub space_behind : (text rest behind : List ℕ) (n : ℕ) → IsNumberAhead text n rest → rest ≡ 32 ∷ behind → IsAhead text n behind
space_behind text rest behind n ahead is = record { word = ahead.word; whole = ahead.whole ∙ ap (λ r. ahead.word ++ r) is; number = ahead.number }

pub feed_behind : (text rest behind : List ℕ) (n : ℕ) → IsNumberAhead text n rest → rest ≡ 10 ∷ behind → IsLastAhead text n behind
feed_behind text rest behind n ahead is = record { word = ahead.word; whole = ahead.whole ∙ ap (λ r. ahead.word ++ r) is; number = ahead.number }

positive : (n : ℕ) → n ≢ 0 → 0 < n
positive zero some = absurd (some refl)
positive (suc n) some = omega arith

-- what stands behind so many bytes and a byte that is known
behind_byte : (text : List ℕ) (count b : ℕ) → count < length text → get_or text count 0 ≡ b → text ≡ take count text ++ b ∷ drop (count + 1) text
behind_byte text count b within is =
    sym (take-append-drop count text) ∙ ap (λ rest. take count text ++ rest) (drop_more text count 0 within ∙ ap (λ c. c ∷ drop (count + 1) text) is)

-- ---- rows
pub row_stands : (bits : ℕ) (text behind : List ℕ) (source : ℕ) → bits ≢ 0 → bits < length text → get_or text bits 0 ≡ 32 → IsLastAhead (take (length text - (bits + 1)) (drop (bits + 1) text)) source behind
    → IsRowAhead bits text (take bits text) source behind
row_stands bits text behind source some within space ahead = record {
  line = take bits text ++ 32 ∷ ahead.word;
  whole =
      behind_byte text bits 32 within space
      ∙ ap (λ rest. take bits text ++ 32 ∷ rest) (sym (tail_is text (bits + 1)) ∙ ahead.whole)
      ∙ sym (append_assoc (take bits text) (32 ∷ ahead.word) (10 ∷ behind));
  cut = record {
    some = positive bits some;
    count = omega (arith, length-take bits text, within);
    word = ahead.word;
    whole = refl;
    number = ahead.number;
  };
}

-- ---- names
sign_within : (b : ℕ) → nat_lt b 33 ≡ false → ends_word b ≡ false
sign_within b sign = search (rules, tests)

all_within : (bytes : List ℕ) → has_blank bytes ≡ false → AllByRecursion (λ b. ends_word b ≡ false) bytes
all_within [] none = tt
all_within (b ∷ bytes) none = by (nat_lt b 33) refl none (λ rest. all_within bytes rest)
  where
    by : (low : Bool) → nat_lt b 33 ≡ low → (if low then true else has_blank bytes) ≡ false → (has_blank bytes ≡ false → AllByRecursion (λ c. ends_word c ≡ false) bytes)
        → AllByRecursion (λ c. ends_word c ≡ false) (b ∷ bytes)
    by true is none later = absurd (true≢false none)
    by false is none later = (sign_within b is, later none)

blank_join : (xs : List ℕ) (b : ℕ) → has_blank xs ≡ false → nat_lt b 33 ≡ false → has_blank (xs ++ b ∷ []) ≡ false
blank_join [] b none sign = rw sign refl
blank_join (x ∷ xs) b none sign = by (nat_lt x 33) none (λ rest. blank_join xs b rest sign)
  where
    by : (low : Bool) → (if low then true else has_blank xs) ≡ false → (has_blank xs ≡ false → has_blank (xs ++ b ∷ []) ≡ false) → (if low then true else has_blank (xs ++ b ∷ [])) ≡ false
    by true none later = none
    by false none later = later none

-- one sign more
pub sign_joins : (text : List ℕ) (k : ℕ) → has_blank (take k text) ≡ false → k < length text → 33 ≤ get_or text k 0 → has_blank (take (k + 1) text) ≡ false
sign_joins text k none lt sign =
    let high : nat_lt (get_or text k 0) 33 ≡ false = search (rules, tests) in
    ap has_blank (take_more text k 0 lt) ∙ blank_join (take k text) (get_or text k 0) none high

begins_alike : (b count : ℕ) (text : List ℕ) → count ≢ 0 → begins_with b (take count text) ≡ begins_with b text
begins_alike b zero text some = absurd (some refl)
begins_alike b (suc n) [] some = refl
begins_alike b (suc n) (c ∷ text) some = refl

pub name_stands : (text : List ℕ) (count : ℕ) → count < length text → has_blank (take count text) ≡ false → count ≢ 0 → get_or text count 0 ≡ 10 → begins_with 35 text ≡ false
    → IsNameAhead text (take count text) (take (length text - (count + 1)) (drop (count + 1) text))
name_stands text count within signs some feed bare =
    let long = length-take count text in
    record {
      whole = behind_byte text count 10 within feed ∙ ap (λ rest. take count text ++ 10 ∷ rest) (sym (tail_is text (count + 1)));
      plain = record { word = (omega (arith, long, within, some), all_within (take count text) signs); no_comment = begins_alike 35 count text some ∙ bare };
    }

-- a number and a space in front of a line
ahead_joins : (text line first behind : List ℕ) (n : ℕ) → (ahead : IsAhead text n first) → first ≡ line ++ 10 ∷ behind → text ≡ (ahead.word ++ 32 ∷ line) ++ 10 ∷ behind
ahead_joins text line first behind n ahead is = ahead.whole ∙ ap (λ r. ahead.word ++ 32 ∷ r) is ∙ sym (append_assoc ahead.word (32 ∷ line) (10 ∷ behind))

ahead_in : (text first line : List ℕ) (n : ℕ) → (ahead : IsAhead text n first) → IsAhead (ahead.word ++ 32 ∷ line) n line
ahead_in text first line n ahead = record { word = ahead.word; whole = refl; number = ahead.number }

pub name_row_stands : (text first second name behind : List ℕ) (x y : ℕ) → IsAhead text x first → IsAhead first y second → IsNameAhead second name behind → IsNameRowAhead text (x, y) name behind
name_row_stands text first second name behind x y is_x is_y is = record {
  line = is_x.word ++ 32 ∷ (is_y.word ++ 32 ∷ name);
  whole = ahead_joins text (is_y.word ++ 32 ∷ name) first behind x is_x (ahead_joins first name second behind y is_y is.whole);
  cut = record {
    behind = is_y.word ++ 32 ∷ name;
    x = ahead_in text first (is_y.word ++ 32 ∷ name) x is_x;
    y = ahead_in first second name y is_y;
    last = is.plain;
  };
}

-- ---- headings
pub wire_stands : (text rest : List ℕ) → text ≡ 46 ∷ 110 ∷ 101 ∷ 116 ∷ 32 ∷ rest → IsWireAhead text rest
wire_stands text rest is = is

pub net_stands : (text rest behind : List ℕ) (wire : ℕ) → IsWireAhead text rest → IsLastAhead rest wire behind → IsNetAhead text wire behind
net_stands text rest behind wire is ahead = record {
  line = codes ".net" ++ 32 ∷ ahead.word;
  whole = is ∙ ap (λ r. codes ".net" ++ 32 ∷ r) ahead.whole;
  cut = record { word = ahead.word; whole = refl; number = ahead.number };
}

pub three_are_ahead : (text first second bits : List ℕ) (x y wire : ℕ) → IsAhead text x first → IsAhead first y second → IsAhead second wire bits → AreAhead text (x, y, wire) bits
three_are_ahead text first second bits x y wire is_x is_y is_wire = record { first = first; second = second; x = is_x; y = is_y; wire = is_wire }

pub buffer_stands : (text rest : List ℕ) → text ≡ 46 ∷ 98 ∷ 117 ∷ 102 ∷ 102 ∷ 101 ∷ 114 ∷ 32 ∷ rest → AreSwitchesAhead text rest
buffer_stands text rest is = inl is

pub routing_stands : (text rest : List ℕ) → text ≡ 46 ∷ 114 ∷ 111 ∷ 117 ∷ 116 ∷ 105 ∷ 110 ∷ 103 ∷ 32 ∷ rest → AreSwitchesAhead text rest
routing_stands text rest is = inr is

-- the line behind its first word
abbrev switches_line : (rest second behind : List ℕ) (numbers : ℕ × ℕ × ℕ) (bits : List BitAt) → AreAhead rest numbers second → AreBitsAhead second bits behind → List ℕ
switches_line rest second behind numbers bits three named = three.x.word ++ 32 ∷ (three.y.word ++ 32 ∷ (three.wire.word ++ 32 ∷ named.line))

switches_whole : (rest second behind : List ℕ) (numbers : ℕ × ℕ × ℕ) (bits : List BitAt) → (three : AreAhead rest numbers second) → (named : AreBitsAhead second bits behind)
    → rest ≡ switches_line rest second behind numbers bits three named ++ 10 ∷ behind
switches_whole rest second behind numbers bits three named =
    ahead_joins rest (three.y.word ++ 32 ∷ (three.wire.word ++ 32 ∷ named.line)) three.first behind numbers.0 three.x
    (ahead_joins three.first (three.wire.word ++ 32 ∷ named.line) three.second behind numbers.1 three.y
    (ahead_joins three.second named.line second behind numbers.2 three.wire named.whole))

switches_in : (rest second behind : List ℕ) (numbers : ℕ × ℕ × ℕ) (bits : List BitAt) → (three : AreAhead rest numbers second) → (named : AreBitsAhead second bits behind)
    → AreAhead (switches_line rest second behind numbers bits three named) numbers named.line
switches_in rest second behind numbers bits three named = record {
  first = three.y.word ++ 32 ∷ (three.wire.word ++ 32 ∷ named.line);
  second = three.wire.word ++ 32 ∷ named.line;
  x = ahead_in rest three.first (three.y.word ++ 32 ∷ (three.wire.word ++ 32 ∷ named.line)) numbers.0 three.x;
  y = ahead_in three.first three.second (three.wire.word ++ 32 ∷ named.line) numbers.1 three.y;
  wire = ahead_in three.second second named.line numbers.2 three.wire;
}

pub group_is_ahead : (text rest second behind : List ℕ) (numbers : ℕ × ℕ × ℕ) (bits : List BitAt) → AreSwitchesAhead text rest → AreAhead rest numbers second → AreBitsAhead second bits behind
    → IsGroupAhead text numbers bits behind
group_is_ahead text rest second behind numbers bits (inl is) three named = record {
  line = codes ".buffer" ++ 32 ∷ switches_line rest second behind numbers bits three named;
  behind = named.line;
  whole = is ∙ ap (λ r. codes ".buffer" ++ 32 ∷ r) (switches_whole rest second behind numbers bits three named);
  cut = record { behind = switches_line rest second behind numbers bits three named; whole = inl refl; ahead = switches_in rest second behind numbers bits three named };
  ends = named.ends;
  named = named.named;
  some = named.some;
}
group_is_ahead text rest second behind numbers bits (inr is) three named = record {
  line = codes ".routing" ++ 32 ∷ switches_line rest second behind numbers bits three named;
  behind = named.line;
  whole = is ∙ ap (λ r. codes ".routing" ++ 32 ∷ r) (switches_whole rest second behind numbers bits three named);
  cut = record { behind = switches_line rest second behind numbers bits three named; whole = inr refl; ahead = switches_in rest second behind numbers bits three named };
  ends = named.ends;
  named = named.named;
  some = named.some;
}
