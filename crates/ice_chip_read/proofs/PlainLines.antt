-- Names and headings in the form in which databases have them say what their words say.
use Rattle.std.proofs.Common.{◌≡◌, ◌⊎◌, inl, inr, ℕ, ◌<◌, ◌==◌, false, List, [], ◌∷◌, ◌++◌, length, codes, Some, Result, Ok, Err, if◌then◌else◌, refl, sym, ap, subst, ◌∙◌, arith, rules, tests}
use Rattle.ice_base.specs.Lines.{IsLine, IsWord}
use Rattle.ice_base.specs.Places.{bits_named}
use Rattle.ice_base.specs.Text.{number_in, begins_with, uncommented, words}
use Rattle.ice_base.specs.declared.bit.BitAt.{BitAt}
use Rattle.ice_base.proofs.TextLaws.{no_words_left}
use Rattle.ice_chip.specs.declared.fault.ChipFault.TheVariants.{BadBit}
use Rattle.ice_chip_read.specs.Faults.{◌>>=◌}
use Rattle.ice_chip_read.specs.Fronts.{IsGroupAhead, IsNameRowAhead, IsNetAhead, IsTaken}
use Rattle.ice_chip_read.specs.Lines.{bits_at, chip_line_says, group_bits, name_row, row_says, switches_heading, tile_in, wire_in, with_closed, with_group}
use Rattle.ice_chip_read.specs.PlainRows.{AreAhead, IsAhead, IsCutName, IsCutNet, group_stands, name_comes, net_comes}
use Rattle.ice_chip_read.specs.Reading.{Reading}
use Rattle.ice_chip_read.specs.Views.{Gives}
use Rattle.ice_chip_read.specs.declared.fault.ChipStop.{ChipStop}
use Rattle.ice_chip_read.specs.declared.section.Section.TheVariants as section
use Rattle.ice_chip_read.proofs.PlainRows.{IsPlainWord, next_alike, number_plain}
use Rattle.ice_chip_read.proofs.PlainWords.{front_says, last_says, line_of_word, space_in_line}

-- ---- words
ahead_says : (text : List ℕ) (n : ℕ) (rest : List ℕ) → (ahead : IsAhead text n rest) → uncommented (words text) ≡ ahead.word ∷ uncommented (words rest)
ahead_says text n rest ahead =
    let plain : IsPlainWord ahead.word = number_plain ahead.word n ahead.number in
    front_says text ahead.word rest plain.word plain.no_comment ahead.whole

ahead_line : (text : List ℕ) (n : ℕ) (rest : List ℕ) → IsAhead text n rest → IsLine rest → IsLine text
ahead_line text n rest ahead line =
    let plain : IsPlainWord ahead.word = number_plain ahead.word n ahead.number in
    subst IsLine (sym ahead.whole) (space_in_line ahead.word rest (line_of_word ahead.word plain.word) line)

-- ---- lines without a byte
pub nothing_taken : {X : Type 0} (r new : Reading) (number : ℕ) (text rest : List ℕ) (answer : Result X ChipStop) → text ≡ 10 ∷ rest → Gives (λ _. new) answer (Ok r) → IsTaken r new number text answer rest
nothing_taken r new number text rest answer is gives = record {
  line = [];
  whole = is;
  ends = tt;
  says = subst (Gives (λ _. new) answer) (sym (ap (λ ws. chip_line_says r number (uncommented ws)) no_words_left)) gives;
}

-- ---- names
name_words : (text : List ℕ) (at : ℕ × ℕ) (name : List ℕ) → (cut : IsCutName text at name) → uncommented (words text) ≡ cut.x.word ∷ cut.y.word ∷ name ∷ []
name_words text at name cut =
    ahead_says text at.0 cut.behind cut.x
    ∙ ap (λ ws. cut.x.word ∷ ws) (ahead_says cut.behind at.1 name cut.y ∙ ap (λ ws. cut.y.word ∷ ws) (last_says name cut.last.word cut.last.no_comment))

names_say : (r : Reading) (line wire : ℕ) (first second name : List ℕ) (x y : ℕ) → number_in first ≡ Some x → number_in second ≡ Some y → name_row r line wire (first ∷ second ∷ name ∷ []) ≡ name_comes r line wire (x, y) name
names_say r line wire first second name x y is_x is_y = rw (is_x, is_y) refl

row_is : (r : Reading) (line wire : ℕ) (first : List ℕ) (ws : List (List ℕ)) → r.open_section ≡ section.Names wire → begins_with 46 first ≡ false → chip_line_says r line (first ∷ ws) ≡ name_row r line wire (first ∷ ws)
row_is r line wire first ws opened row = rw row (ap (λ s. row_says r line s first ws) opened)

name_line : (r : Reading) (line wire : ℕ) (text : List ℕ) (at : ℕ × ℕ) (name : List ℕ) → r.open_section ≡ section.Names wire → IsCutName text at name
    → chip_line_says r line (uncommented (words text)) ≡ name_comes r line wire at name
name_line r line wire text at name opened cut =
    ap (chip_line_says r line) (name_words text at name cut)
    ∙ row_is r line wire cut.x.word (cut.y.word ∷ name ∷ []) opened (number_plain cut.x.word at.0 cut.x.number).no_heading
    ∙ names_say r line wire cut.x.word cut.y.word name at.0 at.1 cut.x.number cut.y.number

pub name_taken : {X : Type 0} (r new : Reading) (number wire : ℕ) (text : List ℕ) (at : ℕ × ℕ) (name rest : List ℕ) (answer : Result X ChipStop) → r.open_section ≡ section.Names wire → IsNameRowAhead text at name rest
    → Gives (λ _. new) answer (name_comes r number wire at name) → IsTaken r new number text answer rest
name_taken r new number wire text at name rest answer opened ahead gives =
    let cut = ahead.cut in
    record {
      line = ahead.line;
      whole = ahead.whole;
      ends = ahead_line ahead.line at.0 cut.behind cut.x (ahead_line cut.behind at.1 name cut.y (line_of_word name cut.last.word));
      says = subst (Gives (λ _. new) answer) (sym (name_line r number wire ahead.line at name opened cut)) gives;
    }

-- ---- headings of wires
net_is_word : IsWord (codes ".net")
net_is_word = (omega arith, (refl, (refl, (refl, (refl, tt)))))

net_words : (text : List ℕ) (wire : ℕ) → (cut : IsCutNet text wire) → uncommented (words text) ≡ codes ".net" ∷ cut.word ∷ []
net_words text wire cut =
    let plain : IsPlainWord cut.word = number_plain cut.word wire cut.number in
    front_says text (codes ".net") cut.word net_is_word refl cut.whole ∙ ap (λ ws. codes ".net" ∷ ws) (last_says cut.word plain.word plain.no_comment)

nets_say : (r : Reading) (line : ℕ) (word : List ℕ) (wire : ℕ) → number_in word ≡ Some wire → chip_line_says r line (codes ".net" ∷ word ∷ []) ≡ net_comes (with_closed r) line wire
nets_say r line word wire is = rw is refl

pub net_taken : {X : Type 0} (r new : Reading) (number : ℕ) (text : List ℕ) (wire : ℕ) (rest : List ℕ) (answer : Result X ChipStop) → IsNetAhead text wire rest
    → Gives (λ _. new) answer (net_comes (with_closed r) number wire) → IsTaken r new number text answer rest
net_taken r new number text wire rest answer ahead gives =
    let cut = ahead.cut in
    let plain : IsPlainWord cut.word = number_plain cut.word wire cut.number in
    record {
      line = ahead.line;
      whole = ahead.whole;
      ends = subst IsLine (sym cut.whole) (space_in_line (codes ".net") cut.word (line_of_word (codes ".net") net_is_word) (line_of_word cut.word plain.word));
      says = subst (Gives (λ _. new) answer) (sym (ap (chip_line_says r number) (net_words ahead.line wire cut) ∙ nets_say r number cut.word wire cut.number)) gives;
    }

-- ---- headings of groups
buffer_is_word : IsWord (codes ".buffer")
buffer_is_word = (omega arith, (refl, (refl, (refl, (refl, (refl, (refl, (refl, tt))))))))

routing_is_word : IsWord (codes ".routing")
routing_is_word = (omega arith, (refl, (refl, (refl, (refl, (refl, (refl, (refl, (refl, tt)))))))))

three_words : (text : List ℕ) (numbers : ℕ × ℕ × ℕ) (bits : List ℕ) → (ahead : AreAhead text numbers bits) → uncommented (words text) ≡ ahead.x.word ∷ ahead.y.word ∷ ahead.wire.word ∷ uncommented (words bits)
three_words text numbers bits ahead =
    ahead_says text numbers.0 ahead.first ahead.x
    ∙ ap (λ ws. ahead.x.word ∷ ws) (ahead_says ahead.first numbers.1 ahead.second ahead.y ∙ ap (λ ws. ahead.y.word ∷ ws) (ahead_says ahead.second numbers.2 bits ahead.wire))

-- the bits, which are one or more
bits_say : (line : ℕ) (ws : List (List ℕ)) (bits : List BitAt) → bits_named 54 ws ≡ Some bits → 0 < length bits → group_bits line ws ≡ Ok bits
bits_say line ws bits named some =
    let full : (length bits == 0) ≡ false = search (rules, tests) in
    ap (λ o. bits_at line o >>= (λ bs. if length bs == 0 then Err (BadBit line) else Ok bs)) named ∙ (rw full refl)

numbers_say : (r : Reading) (line : ℕ) (first second third : List ℕ) (ws : List (List ℕ)) (x y wire : ℕ) (bits : List BitAt) → number_in first ≡ Some x → number_in second ≡ Some y → number_in third ≡ Some wire → group_bits line ws ≡ Ok bits
    → switches_heading r line (first ∷ second ∷ third ∷ ws) ≡ group_stands r line (x, y, wire) bits
numbers_say r line first second third ws x y wire bits is_x is_y is_wire named =
    rw (is_x, is_y, is_wire)
    (next_alike (tile_in line r.parts x y)
    (λ tile. wire_in line r.parts wire >>= (λ w. group_bits line ws >>= (λ bs. Ok (with_group r line tile w bs))))
    (λ tile. wire_in line r.parts wire >>= (λ w. Ok (with_group r line tile w bits)))
    (λ tile. next_alike (wire_in line r.parts wire)
    (λ w. group_bits line ws >>= (λ bs. Ok (with_group r line tile w bs)))
    (λ w. Ok (with_group r line tile w bits))
    (λ w. ap (λ m. m >>= (λ bs. Ok (with_group r line tile w bs))) named)))

group_line : (r : Reading) (number : ℕ) (text behind : List ℕ) (numbers : ℕ × ℕ × ℕ) (bits : List ℕ) (places : List BitAt) → (text ≡ codes ".buffer" ++ 32 ∷ behind) ⊎ (text ≡ codes ".routing" ++ 32 ∷ behind)
    → (ahead : AreAhead behind numbers bits) → group_bits number (uncommented (words bits)) ≡ Ok places
    → chip_line_says r number (uncommented (words text)) ≡ group_stands (with_closed r) number numbers places
group_line r number text behind numbers bits places (inl whole) ahead named =
    ap (chip_line_says r number) (front_says text (codes ".buffer") behind buffer_is_word refl whole ∙ ap (λ ws. codes ".buffer" ∷ ws) (three_words behind numbers bits ahead))
    ∙ numbers_say (with_closed r) number ahead.x.word ahead.y.word ahead.wire.word (uncommented (words bits)) numbers.0 numbers.1 numbers.2 places ahead.x.number ahead.y.number ahead.wire.number named
group_line r number text behind numbers bits places (inr whole) ahead named =
    ap (chip_line_says r number) (front_says text (codes ".routing") behind routing_is_word refl whole ∙ ap (λ ws. codes ".routing" ∷ ws) (three_words behind numbers bits ahead))
    ∙ numbers_say (with_closed r) number ahead.x.word ahead.y.word ahead.wire.word (uncommented (words bits)) numbers.0 numbers.1 numbers.2 places ahead.x.number ahead.y.number ahead.wire.number named

three_line : (text : List ℕ) (numbers : ℕ × ℕ × ℕ) (bits : List ℕ) → AreAhead text numbers bits → IsLine bits → IsLine text
three_line text numbers bits ahead line =
    ahead_line text numbers.0 ahead.first ahead.x (ahead_line ahead.first numbers.1 ahead.second ahead.y (ahead_line ahead.second numbers.2 bits ahead.wire line))

heading_line : (text behind : List ℕ) → (text ≡ codes ".buffer" ++ 32 ∷ behind) ⊎ (text ≡ codes ".routing" ++ 32 ∷ behind) → IsLine behind → IsLine text
heading_line text behind (inl whole) line = subst IsLine (sym whole) (space_in_line (codes ".buffer") behind (line_of_word (codes ".buffer") buffer_is_word) line)
heading_line text behind (inr whole) line = subst IsLine (sym whole) (space_in_line (codes ".routing") behind (line_of_word (codes ".routing") routing_is_word) line)

pub group_taken : {X : Type 0} (r new : Reading) (number : ℕ) (text : List ℕ) (numbers : ℕ × ℕ × ℕ) (bits : List BitAt) (rest : List ℕ) (answer : Result X ChipStop) → IsGroupAhead text numbers bits rest
    → Gives (λ _. new) answer (group_stands (with_closed r) number numbers bits) → IsTaken r new number text answer rest
group_taken r new number text numbers bits rest answer ahead gives =
    let cut = ahead.cut in
    record {
      line = ahead.line;
      whole = ahead.whole;
      ends = heading_line ahead.line cut.behind cut.whole (three_line cut.behind numbers ahead.behind cut.ahead ahead.ends);
      says = subst (Gives (λ _. new) answer)
          (sym (group_line r number ahead.line cut.behind numbers ahead.behind bits cut.whole cut.ahead (bits_say number (uncommented (words ahead.behind)) bits ahead.named ahead.some))) gives;
    }
