-- The lines that are written for a netlist are of words.
use Rattle.std.proofs.Common.{◌≡◌, ℕ, ◌+◌, ◌^◌, ◌/◌, ◌%◌, ◌<◌, ◌&&◌, zero, suc, not, ◌==◌, Bool, true, false, Option, Some, None, List, [], ◌∷◌, ◌++◌, length, nat_lt, if◌then◌else◌, codes, refl, arith, rules, tests}
use Rattle.std.specs.List.{AllByRecursion, flat_map, list_all}
use Rattle.std.proofs.lemmas.Bool.{and_parts}
use Rattle.ice_base.specs.Text.{ends_word, begins_with}
use Rattle.ice_base.specs.declared.number.SignalNo.{SignalNo}
use Rattle.ice_base.proofs.TextLines.{all_append}
use Rattle.ice_net.specs.declared.kind.CellKind.{CellKind}
use Rattle.ice_net.specs.declared.kind.CellKind.TheVariants.{Lut, Cover, Carry, Flop, PadCell, Global}
use Rattle.ice_net.specs.declared.kind.Reset.{Reset}
use Rattle.ice_net.specs.declared.kind.Reset.TheVariants.{Nothing, SyncReset, AsyncReset, SyncSet, AsyncSet}
use Rattle.ice_net.specs.declared.port.Way.{Way}
use Rattle.ice_net.specs.declared.port.Way.TheVariants.{Input, Output, Both}
use Rattle.ice_net.specs.Meaning.{table_bit}
use Rattle.ice_blif_write.specs.RoundTrip.{IsName}
use Rattle.ice_blif_write.specs.Text.{name_of, port_lines_by, signal_words, connections, kind_word, port_names, gate_line, param_line, digit_of, digits_of, levels_of, row_line, rows_from, cell_lines}
use Rattle.ice_blif_write.proofs.CellRead.{MayBeNamed}
use Rattle.ice_blif_write.proofs.WrittenLines.{AreWords}

-- ---- words
-- a plain word: no byte ends it, and it begins no comment; 35 is `#`
abbrev is_plain : List ℕ → Bool
is_plain word = nat_lt 0 (length word) && (not (begins_with 35 word) && list_all (λ b. not (ends_word b)) word)

not_true : (b : Bool) → not b ≡ true → b ≡ false
not_true false e = refl
not_true true e = absurd (cc)

no_end : (word : List ℕ) → list_all (λ b. not (ends_word b)) word ≡ true → AllByRecursion (λ b. ends_word b ≡ false) word
no_end [] h = tt
no_end (b ∷ word) h = let both = and_parts (not (ends_word b)) (list_all (λ c. not (ends_word c)) word) h in (not_true (ends_word b) both.0, no_end word both.1)

pub plain_name : (word : List ℕ) → is_plain word ≡ true → IsName word
plain_name word h =
    let first = and_parts (nat_lt 0 (length word)) (not (begins_with 35 word) && list_all (λ b. not (ends_word b)) word) h in
    let next = and_parts (not (begins_with 35 word)) (list_all (λ b. not (ends_word b)) word) first.1 in
    let some : nat_lt 0 (length word) ≡ true = first.0 in
    record { word = (search (rules, tests), no_end word next.1); no_comment = not_true (begins_with 35 word) next.0 }

-- FORMAL=ACTUAL is a word
joined_name : (formal name : List ℕ) → is_plain formal ≡ true → IsName name → IsName (formal ++ 61 ∷ name)
joined_name [] name h is = absurd (let e : false ≡ true = h in cc e)
joined_name (b ∷ formal) name h is =
    let f : IsName (b ∷ formal) = plain_name (b ∷ formal) h in
    record { word = (omega arith, all_append (λ c. ends_word c ≡ false) (b ∷ formal) (61 ∷ name) f.word.1 (refl, is.word.1)); no_comment = f.no_comment }

digits_word : (digits : List ℕ) → 0 < length digits → AllByRecursion (λ b. (ends_word b ≡ false) × ((b == 35) ≡ false)) digits → IsName digits
digits_word [] lt h = absurd (omega arith)
digits_word (d ∷ digits) lt h = record { word = (lt, ends (d ∷ digits) h); no_comment = h.0.1 }
  where
    ends : (ds : List ℕ) → AllByRecursion (λ b. (ends_word b ≡ false) × ((b == 35) ≡ false)) ds → AllByRecursion (λ b. ends_word b ≡ false) ds
    ends [] k = tt
    ends (e ∷ ds) k = (k.0.0, ends ds k.1)

digit_plain : (x : ℕ) → x < 2 → (ends_word (digit_of x) ≡ false) × ((digit_of x == 35) ≡ false)
digit_plain zero lt = (refl, refl)
digit_plain (suc zero) lt = (refl, refl)
digit_plain (suc (suc x)) lt = absurd (omega arith)

digits_plain : (width n : ℕ) → AllByRecursion (λ b. (ends_word b ≡ false) × ((b == 35) ≡ false)) (digits_of width n)
digits_plain zero n = tt
digits_plain (suc width) n = (digit_plain (n / 2 ^ width % 2) (omega arith), digits_plain width n)

levels_plain : (width j : ℕ) → AllByRecursion (λ b. (ends_word b ≡ false) × ((b == 35) ≡ false)) (levels_of width j)
levels_plain zero j = tt
levels_plain (suc width) j = (digit_plain (j % 2) (omega arith), levels_plain width (j / 2))

digits_name : (width n : ℕ) → IsName (digits_of (suc width) n)
digits_name width n = digits_word (digits_of (suc width) n) (omega arith) (digits_plain (suc width) n)

-- ---- lines of ports
pub port_words : (name : List ℕ) (way : Way) → IsName name → AllByRecursion AreWords (port_lines_by name way)
port_words name Input is = ((plain_name (codes ".inputs") refl, (is, tt)), tt)
port_words name Output is = ((plain_name (codes ".outputs") refl, (is, tt)), tt)
port_words name Both is = ((plain_name (codes ".inputs") refl, (is, tt)), ((plain_name (codes ".outputs") refl, (is, tt)), tt))

-- ---- lines of cells
abbrev ArePlain : List (List ℕ) → Type 0
ArePlain words = AllByRecursion (λ word. is_plain word ≡ true) words

names_plain : (kind : CellKind) → ArePlain (port_names kind)
names_plain (Lut table) = (refl, (refl, (refl, (refl, (refl, tt)))))
names_plain (Cover table width) = tt
names_plain Carry = (refl, (refl, (refl, (refl, tt))))
names_plain (Flop falling enable reset) = by enable reset
  where
    by : (enable : Bool) (reset : Reset) → ArePlain (port_names (Flop falling enable reset))
    by true Nothing = (refl, (refl, (refl, (refl, tt))))
    by true SyncReset = (refl, (refl, (refl, (refl, (refl, tt)))))
    by true AsyncReset = (refl, (refl, (refl, (refl, (refl, tt)))))
    by true SyncSet = (refl, (refl, (refl, (refl, (refl, tt)))))
    by true AsyncSet = (refl, (refl, (refl, (refl, (refl, tt)))))
    by false Nothing = (refl, (refl, (refl, tt)))
    by false SyncReset = (refl, (refl, (refl, (refl, tt))))
    by false AsyncReset = (refl, (refl, (refl, (refl, tt))))
    by false SyncSet = (refl, (refl, (refl, (refl, tt))))
    by false AsyncSet = (refl, (refl, (refl, (refl, tt))))
names_plain (PadCell pin_type pullup) = (refl, (refl, (refl, (refl, (refl, (refl, (refl, (refl, (refl, (refl, tt))))))))))
names_plain Global = (refl, (refl, tt))

connections_words : (names : List (List ℕ)) (formals : List (List ℕ)) (signals : List (Option SignalNo)) → ArePlain formals → AllByRecursion (MayBeNamed names) signals → AllByRecursion IsName (connections names formals signals)
connections_words names [] signals plain named = tt
connections_words names (formal ∷ formals) [] plain named = tt
connections_words names (formal ∷ formals) (None ∷ signals) plain named = connections_words names formals signals plain.1 named.1
connections_words names (formal ∷ formals) (Some signal ∷ signals) plain named =
    (joined_name formal (name_of names signal) plain.0 named.0, connections_words names formals signals plain.1 named.1)

signals_words : (names : List (List ℕ)) (signals : List (Option SignalNo)) → AllByRecursion (MayBeNamed names) signals → AllByRecursion IsName (flat_map (signal_words names) signals)
signals_words names [] named = tt
signals_words names (None ∷ signals) named = signals_words names signals named.1
signals_words names (Some signal ∷ signals) named = (named.0, signals_words names signals named.1)

gate_words : (names : List (List ℕ)) (kind : CellKind) (ins outs : List (Option SignalNo)) → is_plain (kind_word kind) ≡ true → AllByRecursion (MayBeNamed names) (ins ++ outs) → AreWords (gate_line names kind ins outs)
gate_words names kind ins outs plain named = (plain_name (codes ".gate") refl, (plain_name (kind_word kind) plain, connections_words names (port_names kind) (ins ++ outs) (names_plain kind) named))

flop_plain : (falling enable : Bool) (reset : Reset) → is_plain (kind_word (Flop falling enable reset)) ≡ true
flop_plain true true Nothing = refl
flop_plain true true SyncReset = refl
flop_plain true true AsyncReset = refl
flop_plain true true SyncSet = refl
flop_plain true true AsyncSet = refl
flop_plain true false Nothing = refl
flop_plain true false SyncReset = refl
flop_plain true false AsyncReset = refl
flop_plain true false SyncSet = refl
flop_plain true false AsyncSet = refl
flop_plain false true Nothing = refl
flop_plain false true SyncReset = refl
flop_plain false true AsyncReset = refl
flop_plain false true SyncSet = refl
flop_plain false true AsyncSet = refl
flop_plain false false Nothing = refl
flop_plain false false SyncReset = refl
flop_plain false false AsyncReset = refl
flop_plain false false SyncSet = refl
flop_plain false false AsyncSet = refl

row_words : (width j : ℕ) → AreWords (row_line width j)
row_words zero j = (plain_name (codes "1") refl, tt)
row_words (suc width) j = (digits_word (levels_of (suc width) j) (omega arith) (levels_plain (suc width) j), (plain_name (codes "1") refl, tt))

rows_words : (table width j left : ℕ) → AllByRecursion AreWords (rows_from table width j left)
rows_words table width j zero = tt
rows_words table width j (suc left) = by (table_bit table j) (rows_words table width (j + 1) left)
  where
    by : (b : Bool) → AllByRecursion AreWords (rows_from table width (j + 1) left) → AllByRecursion AreWords ((if b then row_line width j ∷ [] else []) ++ rows_from table width (j + 1) left)
    by true rest = (row_words width j, rest)
    by false rest = rest

param_words : (name : List ℕ) (width n : ℕ) → is_plain name ≡ true → AreWords (param_line name (digits_of (suc width) n))
param_words name width n plain = (plain_name (codes ".param") refl, (plain_name name plain, (digits_name width n, tt)))

pub cell_words : (names : List (List ℕ)) (kind : CellKind) (line : ℕ) (ins outs : List (Option SignalNo)) → AllByRecursion (MayBeNamed names) (ins ++ outs)
    → AllByRecursion AreWords (cell_lines names (record { kind = kind; line = line; ins = ins; outs = outs }))
cell_words names (Lut table) line ins outs named = (gate_words names (Lut table) ins outs refl named, (param_words (codes "LUT_INIT") 15 table refl, tt))
cell_words names (Cover table width) line ins outs named = ((plain_name (codes ".names") refl, signals_words names (ins ++ outs) named), rows_words table width 0 (2 ^ width))
cell_words names Carry line ins outs named = (gate_words names Carry ins outs refl named, tt)
cell_words names (Flop falling enable reset) line ins outs named = (gate_words names (Flop falling enable reset) ins outs (flop_plain falling enable reset) named, tt)
cell_words names (PadCell pin_type pullup) line ins outs named =
    (gate_words names (PadCell pin_type pullup) ins outs refl named, (param_words (codes "PIN_TYPE") 5 pin_type refl, (param_words (codes "PULLUP") 0 (if pullup then 1 else 0) refl, tt)))
cell_words names Global line ins outs named = (gate_words names Global ins outs refl named, tt)
