-- A row of switches in the form in which databases have it says what its words say.
use Rattle.std.proofs.Common.{◌≡◌, ℕ, ◌<◌, ◌^◌, ◌==◌, ◌&&◌, Bool, true, false, Option, None, Some, IfSome, is_some, List, [], ◌∷◌, ◌++◌, length, map, Result, Ok, Err, nat_le, nat_lt, if◌then◌else◌, refl, sym, ap, subst, ◌∙◌, rules, tests, true≢false}
use Rattle.std.specs.Char.{is_ascii_digit}
use Rattle.std.specs.List.{AllByRecursion}
use Rattle.std.specs.Str.{all_ascii_digits}
use Rattle.std.proofs.lemmas.Bool.{and_parts}
use Rattle.ice_base.specs.Places.{digit_value, values_in}
use Rattle.ice_base.specs.Text.{begins_with, uncommented, words, ends_word, decimal_value, is_number, number_in}
use Rattle.ice_base.specs.Lines.{IsLine, IsWord}
use Rattle.ice_base.specs.Lists.{all_known}
use Rattle.ice_base.proofs.Digits.{number_is}
use Rattle.ice_base.proofs.TextLaws.{first_word, last_word}
use Rattle.ice_chip.specs.declared.fault.ChipFault.{ChipFault}
use Rattle.ice_chip_read.specs.Faults.{◌>>=◌}
use Rattle.ice_chip_read.specs.Fronts.{IsRowAhead, IsTaken}
use Rattle.ice_chip_read.specs.Lines.{known_values, chip_line_says, row_says, switch_row, values_at, wire_in}
use Rattle.ice_chip_read.specs.PlainRows.{IsCutRow, row_joins, row_comes}
use Rattle.ice_chip_read.specs.Reading.{Reading}
use Rattle.ice_chip_read.specs.Views.{Gives}
use Rattle.ice_chip_read.specs.declared.fault.ChipStop.{ChipStop}
use Rattle.ice_chip_read.specs.declared.section.Section.TheVariants as section
use Rattle.ice_chip_read.proofs.PlainWords.{line_of_word, space_in_line}
use Rattle.ice_chip_read.proofs.Results.{some_mapped}

-- a byte that ends no word and begins neither a comment nor a heading
record IsPlain (b : ℕ) : Type 0 where
  within : ends_word b ≡ false
  no_comment : (b == 35) ≡ false
  no_heading : (b == 46) ≡ false

-- ---- digits of values
digit_plain : (b : ℕ) → IfSome (digit_value b) (λ v. IsPlain b)
digit_plain b = by_tests b (b == 48) (b == 49) refl refl
  where
    by_tests : (b : ℕ) (nought one : Bool) → (b == 48) ≡ nought → (b == 49) ≡ one → IfSome (if nought then Some false else (if one then Some true else None)) (λ v. IsPlain b)
    by_tests b true one is_nought is_one =
        let is : b ≡ 48 = search (rules, tests) in subst IsPlain (sym is) (record { within = refl; no_comment = refl; no_heading = refl })
    by_tests b false true is_nought is_one =
        let is : b ≡ 49 = search (rules, tests) in subst IsPlain (sym is) (record { within = refl; no_comment = refl; no_heading = refl })
    by_tests b false false is_nought is_one = tt

joined : (d : ℕ) (ds : List ℕ) (o : Option Bool) (os : List (Option Bool)) → IfSome o (λ v. IsPlain d) → IfSome (all_known os) (λ vs. AllByRecursion IsPlain ds)
    → IfSome (all_known (o ∷ os)) (λ vs. AllByRecursion IsPlain (d ∷ ds))
joined d ds None os first rest = tt
joined d ds (Some v) os first rest =
    some_mapped (λ vs. AllByRecursion IsPlain (d ∷ ds)) (λ vs. AllByRecursion IsPlain ds) (all_known os) (λ xs. v ∷ xs) rest (λ vs all. (first, all))

values_plain : (digits : List ℕ) → IfSome (values_in digits) (λ vs. AllByRecursion IsPlain digits)
values_plain [] = tt
values_plain (d ∷ ds) = joined d ds (digit_value d) (map digit_value ds) (digit_plain d) (values_plain ds)

-- ---- digits of numbers
numeral_plain : (b : ℕ) → is_ascii_digit b ≡ true → IsPlain b
numeral_plain b digit = record {
  within = search (rules, tests);
  no_comment = search (rules, tests);
  no_heading = search (rules, tests);
}

numerals_plain : (ds : List ℕ) → all_ascii_digits ds ≡ true → AllByRecursion IsPlain ds
numerals_plain [] all = tt
numerals_plain (d ∷ ds) all = let both = and_parts (is_ascii_digit d) (all_ascii_digits ds) all in (numeral_plain d both.0, numerals_plain ds both.1)

is_numeral : (word : List ℕ) (test : Bool) (n : ℕ) → (if test then Some (decimal_value word) else None) ≡ Some n → test ≡ true
is_numeral word true n e = refl
is_numeral word false n e = absurd (true≢false (sym (ap is_some e)))

-- ---- words
-- a word that begins neither a comment nor a heading
pub record IsPlainWord (bytes : List ℕ) : Type 0 where
  pub word : IsWord bytes
  pub no_comment : begins_with 35 bytes ≡ false
  pub no_heading : begins_with 46 bytes ≡ false

all_within : (bytes : List ℕ) → AllByRecursion IsPlain bytes → AllByRecursion (λ b. ends_word b ≡ false) bytes
all_within [] all = tt
all_within (b ∷ bytes) all = (all.0.within, all_within bytes all.1)

plain_word : (bytes : List ℕ) → 0 < length bytes → AllByRecursion IsPlain bytes → IsPlainWord bytes
plain_word [] some all = record { word = (some, tt); no_comment = refl; no_heading = refl }
plain_word (b ∷ bytes) some all = record { word = (some, all_within (b ∷ bytes) all); no_comment = all.0.no_comment; no_heading = all.0.no_heading }

pub number_plain : (word : List ℕ) (n : ℕ) → number_in word ≡ Some n → IsPlainWord word
number_plain word n e =
    let is : is_number word ≡ true = is_numeral word (is_number word) n (sym (number_is word) ∙ e) in
    let fits = and_parts (nat_le 1 (length word) && nat_le (length word) 10 && all_ascii_digits word) (nat_lt (decimal_value word) (2 ^ 32)) is in
    let digits = and_parts (nat_le 1 (length word) && nat_le (length word) 10) (all_ascii_digits word) fits.0 in
    let long = and_parts (nat_le 1 (length word)) (nat_le (length word) 10) digits.0 in
    let least : nat_le 1 (length word) ≡ true = long.0 in
    plain_word word (search (rules, tests)) (numerals_plain word digits.1)

digits_plain : (digits : List ℕ) (values : List Bool) → 0 < length digits → values_in digits ≡ Some values → IsPlainWord digits
digits_plain digits values some e = plain_word digits some (subst (λ o. IfSome o (λ vs. AllByRecursion IsPlain digits)) e (values_plain digits))

two_words : (digits word : List ℕ) → IsPlainWord digits → IsPlainWord word → uncommented (words (digits ++ 32 ∷ word)) ≡ digits ∷ word ∷ []
two_words digits word first second =
    ap uncommented (first_word digits 32 word first.word refl ∙ ap (λ ws. digits ∷ ws) (last_word word second.word))
    ∙ (rw (first.no_comment, second.no_comment) refl)

-- ---- rows
pub next_alike : {A B : Type 0} (m : Result A ChipFault) (f g : A → Result B ChipFault) → ((x : A) → f x ≡ g x) → m >>= f ≡ m >>= g
next_alike (Ok x) f g same = same x
next_alike (Err fault) f g same = refl

values_are : (line bits : ℕ) (digits : List ℕ) (values : List Bool) → length digits ≡ bits → values_in digits ≡ Some values → values_at line bits digits ≡ Ok values
values_are line bits digits values count e =
    let same : (length digits == bits) ≡ true = search (rules, tests) in rw same (ap (known_values line) e)

switch_says : (r : Reading) (line : ℕ) (digits word : List ℕ) (values : List Bool) (source : ℕ) → length digits ≡ length r.group.bits → values_in digits ≡ Some values → number_in word ≡ Some source
    → switch_row r line digits (word ∷ []) ≡ row_comes r line values source
switch_says r line digits word values source count are number =
    rw number
    (next_alike (wire_in line r.parts source)
    (λ s. values_at line (length r.group.bits) digits >>= (λ vs. row_joins r line vs s))
    (row_joins r line values)
    (λ s. ap (λ m. m >>= (λ vs. row_joins r line vs s)) (values_are line (length r.group.bits) digits values count are)))

row_is : (r : Reading) (line : ℕ) (digits word : List ℕ) → r.open_section ≡ section.Switches → begins_with 46 digits ≡ false → chip_line_says r line (digits ∷ word ∷ []) ≡ switch_row r line digits (word ∷ [])
row_is r line digits word opened row = rw row (ap (λ s. row_says r line s digits (word ∷ [])) opened)

cut_row_says : (r : Reading) (line : ℕ) (text digits : List ℕ) (values : List Bool) (source : ℕ) → r.open_section ≡ section.Switches → IsCutRow (length r.group.bits) text digits source
    → values_in digits ≡ Some values → chip_line_says r line (uncommented (words text)) ≡ row_comes r line values source
cut_row_says r line text digits values source opened cut are =
    let first : IsPlainWord digits = digits_plain digits values (subst (λ n. 0 < n) (sym cut.count) cut.some) are in
    let second : IsPlainWord cut.word = number_plain cut.word source cut.number in
    ap (λ t. chip_line_says r line (uncommented (words t))) cut.whole
    ∙ ap (chip_line_says r line) (two_words digits cut.word first second)
    ∙ row_is r line digits cut.word opened first.no_heading
    ∙ switch_says r line digits cut.word values source cut.count are cut.number

row_line : (bits : ℕ) (text digits : List ℕ) (source : ℕ) (values : List Bool) → IsCutRow bits text digits source → values_in digits ≡ Some values → IsLine text
row_line bits text digits source values cut are =
    let first : IsPlainWord digits = digits_plain digits values (subst (λ n. 0 < n) (sym cut.count) cut.some) are in
    let second : IsPlainWord cut.word = number_plain cut.word source cut.number in
    subst IsLine (sym cut.whole) (space_in_line digits cut.word (line_of_word digits first.word) (line_of_word cut.word second.word))

pub row_taken : {X : Type 0} (r new : Reading) (number bits : ℕ) (text digits : List ℕ) (source : ℕ) (rest : List ℕ) (values : List Bool) (answer : Result X ChipStop) → r.open_section ≡ section.Switches
    → bits ≡ length r.group.bits → IsRowAhead bits text digits source rest → values_in digits ≡ Some values → Gives (λ _. new) answer (row_comes r number values source) → IsTaken r new number text answer rest
row_taken r new number bits text digits source rest values answer opened count ahead are gives = record {
  line = ahead.line;
  whole = ahead.whole;
  ends = row_line bits ahead.line digits source values ahead.cut are;
  says = subst (Gives (λ _. new) answer)
      (sym (cut_row_says r number ahead.line digits values source opened (subst (λ n. IsCutRow n ahead.line digits source) count ahead.cut) are)) gives;
}
