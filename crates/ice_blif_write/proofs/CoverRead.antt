-- A cover and its rows are read as its cell.
use Rattle.std.proofs.Common.{◌≡◌, ◌≢◌, ℕ, ◌+◌, ◌-◌, ◌%◌, ◌/◌, ◌^◌, ◌<◌, ◌≤◌, ◌==◌, ◌&&◌, zero, suc, Bool, true, false, Option, Some, None, Result, Ok, Err, List, [], ◌∷◌, ◌++◌, length, map, take, drop, nat_lt, if◌then◌else◌, codes, bytes_eq, refl, sym, ap, ◌∙◌, subst, append-nil, append_assoc, length-append, length-take, arith, ◌⊎◌, inl, inr, rules, tests}
use Rattle.std.specs.List.{AllByRecursion, flat_map, list_all}
use Rattle.ice_base.specs.declared.number.SignalNo.{SignalNo}
use Rattle.ice_net.specs.Formed.{IsPresent}
use Rattle.ice_net.specs.Meaning.{table_bit}
use Rattle.ice_net.specs.NetlistData.{NetlistData}
use Rattle.ice_blif.specs.declared.fault.BlifFault.{BlifFault}
use Rattle.ice_blif.specs.declared.fault.BlifFault.TheVariants.{TooWide, BadCover}
use Rattle.ice_blif.specs.Cells.{◌>>=◌, level_alone, row_and_level, row_parts, cover_row_of, row_of_level, cover_row_says, is_row_digit, is_row, agrees}
use Rattle.ice_blif.specs.Covers.{level_of_word}
use Rattle.ice_blif.specs.State.{named, signal_of, OpenCover, Rows, with_cover_row}
use Rattle.ice_blif.specs.Reading.{NetReading}
use Rattle.ice_blif.specs.Grammar.{new_cover, cover_signals, cover_of, with_last, row_or_fault, directive_says, line_says, no_rams}
use Rattle.ice_blif_write.specs.RoundTrip.{named_signal}
use Rattle.ice_blif_write.specs.Text.{Words, name_of, signal_words, digit_of, levels_of, row_line, rows_from}
use Rattle.ice_blif_write.proofs.CellRead.{first_known, rest_known}
use Rattle.ice_blif_write.proofs.GateRead.{said_more}
use Rattle.ice_blif_write.proofs.NamesRead.{grows_same, grows_more, grows_name, Know, know_later, know_more, know_name}
use Rattle.ice_blif_write.proofs.Reading.{numbered_line, Ends, ends_line, GrewBy}
use Rattle.ice_blif_write.proofs.Rows.{IsCovering, row_skipped, row_added}

-- ---- the signals of a cover
-- signals that are there
abbrev pub AreThere : List (Option SignalNo) → Type 0
AreThere [] = Unit {0}
AreThere (None ∷ signals) = ⊥
AreThere (Some signal ∷ signals) = AreThere signals

pub there_both : (xs ys : List (Option SignalNo)) → AreThere xs → AreThere ys → AreThere (xs ++ ys)
there_both [] ys h k = k
there_both (None ∷ xs) ys h k = absurd h
there_both (Some x ∷ xs) ys h k = there_both xs ys h k

pub all_there : (signals : ℕ) (xs : List (Option SignalNo)) → AllByRecursion (IsPresent signals) xs → AreThere xs
all_there signals [] h = tt
all_there signals (None ∷ xs) h = absurd h.0
all_there signals (Some x ∷ xs) h = all_there signals xs h.1

record AreCoverSignals (names : List (List ℕ)) (n : NetlistData) (said : List (Option SignalNo)) (count : ℕ) (c : NetlistData × List (Option SignalNo)) : Type 0 where
  grew : GrewBy n c.0
  know : Know c.0.names c.1 (map (named_signal names) said)
  long : length c.1 ≡ count

cover_signals_read : (names : List (List ℕ)) (line : ℕ) (n : NetlistData) (read done signals : List (Option SignalNo)) → AreThere signals → length read + length signals ≤ 5
    → Know n.names read (map (named_signal names) done)
    → (c : NetlistData × List (Option SignalNo)) × (cover_signals line n read (flat_map (signal_words names) signals) ≡ Ok c) × AreCoverSignals names n (done ++ signals) (length read + length signals) c
cover_signals_read names line n read done [] there few know = (
  (n, read),
  refl,
  record {
    grew = record { grows = grows_same n.names; ports = refl; cells = refl };
    know = subst (λ (ds : List (Option SignalNo)). Know n.names read (map (named_signal names) ds)) (sym (append-nil done)) know;
    long = omega arith;
  },
)
cover_signals_read names line n read done (None ∷ signals) there few know = absurd there
cover_signals_read names line n read done (Some signal ∷ signals) there few know =
    let name : List ℕ = name_of names signal in
    let m : NetlistData = named n name in
    let new : Option SignalNo = Some (signal_of n name) in
    let long : length (read ++ new ∷ []) ≡ length read + 1 = length-append read (new ∷ []) in
    let kept : Know m.names read (map (named_signal names) done) = know_later n.names m.names read (map (named_signal names) done) (grows_name n.names name) know in
    let known : Know m.names (read ++ new ∷ []) (map (named_signal names) (done ++ Some signal ∷ [])) =
    subst (λ said. Know m.names (read ++ new ∷ []) said) (said_more names done (Some signal)) (know_more m.names read (map (named_signal names) done) new (Some name) kept (know_name n.names name)) in
    let later = cover_signals_read names line m (read ++ new ∷ []) (done ++ Some signal ∷ []) signals there (omega (arith, long)) known in
    let is : AreCoverSignals names m ((done ++ Some signal ∷ []) ++ signals) (length (read ++ new ∷ []) + length signals) later.0 = later.2 in
    let narrow : nat_lt 4 (length read) ≡ false = (let le : length read ≤ 4 = omega arith in search (rules, tests)) in (
      later.0,
      ap (λ b. if b then Err (TooWide line) else cover_signals line m (read ++ new ∷ []) (flat_map (signal_words names) signals)) narrow ∙ later.1,
      record {
        grew = record {
          grows = grows_more n.names m.names later.0.0.names (grows_name n.names name) is.grew.grows;
          ports = is.grew.ports;
          cells = is.grew.cells;
        };
        know = subst (λ (ds : List (Option SignalNo)). Know later.0.0.names later.0.1 (map (named_signal names) ds)) (append_assoc done (Some signal ∷ []) signals) is.know;
        long = is.long ∙ omega (arith, long);
      },
    )

some_cover : (line : ℕ) (r : NetReading) (n : NetlistData) (signals : List (Option SignalNo)) → 0 < length signals → cover_of line r n signals ≡ Ok (with_last n r.last (Rows (new_cover line signals)) true)
some_cover line r n [] lt = absurd (omega arith)
some_cover line r n (s ∷ signals) lt = refl

-- a reader has made this cover, without rows, and has this netlist
pub record IsCoverRead (names : List (List ℕ)) (r : NetReading) (ins outs : List (Option SignalNo)) (read : NetlistData) (c : OpenCover) : Type 0 where
  pub grew : GrewBy r.netlist read
  pub long : length c.ins ≡ length ins
  pub know_ins : Know read.names c.ins (map (named_signal names) ins)
  pub know_outs : Know read.names c.outs (map (named_signal names) outs)
  pub level : c.level ≡ None
  pub covered : c.covered ≡ 0

pub cover_read : (names : List (List ℕ)) (r : NetReading) (ins outs : List (Option SignalNo)) (k : ℕ) → AreThere ins → AreThere outs → length ins ≤ 4 → length outs ≡ 1
    → (m : NetlistData) × (c : OpenCover) × (line_says no_rams (numbered_line k (codes ".names", flat_map (signal_words names) (ins ++ outs))) r ≡ Ok (with_last m r.last (Rows c) true))
    × IsCoverRead names r ins outs m c
cover_read names r ins outs k ins_there outs_there narrow one =
    let all_long : length (ins ++ outs) ≡ length ins + 1 = length-append ins outs ∙ ap (λ n. length ins + n) one in
    let nothing : List (Option SignalNo) = [] in
    let read = cover_signals_read names k r.netlist [] [] (ins ++ outs) (there_both ins outs ins_there outs_there) (omega (arith, all_long)) (λ later. refl) in
    let c : NetlistData × List (Option SignalNo) = read.0 in
    let is : AreCoverSignals names r.netlist (ins ++ outs) (0 + length (ins ++ outs)) c = read.2 in
    let long : length c.1 ≡ length ins + 1 = is.long ∙ omega (arith, all_long) in
    let front : length c.1 - 1 ≡ length ins = omega (arith, long) in
    let cover : OpenCover = new_cover k c.1 in
    let known : Know c.0.names (take (length ins) (c.1 ++ nothing)) (map (named_signal names) ins) = first_known names c.0.names c.1 nothing ins outs (length ins) refl is.know in
    let ins_known : Know c.0.names (take (length ins) c.1) (map (named_signal names) ins) =
    subst (λ (ss : List (Option SignalNo)). Know c.0.names (take (length ins) ss) (map (named_signal names) ins)) (append-nil c.1) known in
    let outs_known : Know c.0.names (drop (length ins) c.1) (map (named_signal names) outs) = rest_known names c.0.names c.1 ins outs (length ins) refl is.know in (
      c.0,
      cover,
      ap (λ (x : Result (NetlistData × List (Option SignalNo)) BlifFault). (x >>= (λ d. cover_of k r d.0 d.1)) >>= no_rams k) read.1
          ∙ ap (λ (x : Result NetReading BlifFault). x >>= no_rams k) (some_cover k r c.0 c.1 (omega (arith, long))),
      record {
        grew = is.grew;
        long = length-take (length c.1 - 1) c.1 ∙ omega (arith, long);
        know_ins = subst (λ n. Know c.0.names (take n c.1) (map (named_signal names) ins)) (sym front) ins_known;
        know_outs = subst (λ n. Know c.0.names (drop n c.1) (map (named_signal names) outs)) (sym front) outs_known;
        level = refl;
        covered = refl;
      },
    )

-- ---- rows
levels_long : (width j : ℕ) → length (levels_of width j) ≡ width
levels_long zero j = refl
levels_long (suc width) j = ap suc (levels_long width (j / 2))

level_digit : (x : ℕ) → x < 2 → is_row_digit (digit_of x) ≡ true
level_digit zero lt = refl
level_digit (suc zero) lt = refl
level_digit (suc (suc x)) lt = absurd (omega arith)

level_digits : (width j : ℕ) → list_all is_row_digit (levels_of width j) ≡ true
level_digits zero j = refl
level_digits (suc width) j = ap (λ b. b && list_all is_row_digit (levels_of width (j / 2))) (level_digit (j % 2) (omega arith)) ∙ level_digits width (j / 2)

levels_are_row : (width j : ℕ) → is_row width (levels_of width j) ≡ true
levels_are_row width j =
    let same : (length (levels_of width j) == width) ≡ true = (let e : length (levels_of width j) ≡ width = levels_long width j in search (rules, tests)) in
    ap (λ b. b && list_all is_row_digit (levels_of width j)) same ∙ level_digits width j

-- a reader with a cover as its last cell
abbrev pub at_cover : NetlistData → OpenCover → NetReading
at_cover n c = record { netlist = n; last = Rows c; rows = true }

-- the words of a row are its digits and its level
row_said : (c : OpenCover) (width j k : ℕ) (first : List ℕ) (others : List (List ℕ)) → length c.ins ≡ width → row_parts width first others ≡ Some (levels_of width j, codes "1") → agrees c.level true ≡ true
    → cover_row_says k c first others ≡ Ok (with_cover_row c (levels_of width j) true)
row_said c width j k first others long parts agree =
    let row : List ℕ = levels_of width j in
    let is : is_row (length c.ins) row ≡ true = ap (λ w. is_row w row) long ∙ levels_are_row width j in
    ap (λ w. cover_row_of k c (row_parts w first others)) long ∙ ap (cover_row_of k c) parts
    ∙ ap (λ b. if b then row_of_level k c row (level_of_word (codes "1")) else Err (BadCover k)) is
    ∙ ap (λ b. if b then Ok (with_cover_row c row true) else Err (BadCover k)) agree

row_read : (n : NetlistData) (c : OpenCover) (width j k : ℕ) → length c.ins ≡ width → agrees c.level true ≡ true
    → line_says no_rams (numbered_line k (row_line width j)) (at_cover n c) ≡ Ok (at_cover n (with_cover_row c (levels_of width j) true))
row_read n c zero j k long agree =
    ap (λ (x : Result OpenCover BlifFault). (x >>= (λ d. Ok (at_cover n d))) >>= no_rams k) (row_said c zero j k (codes "1") [] long refl agree)
row_read n c (suc width) j k long agree =
    let first : List ℕ = levels_of (suc width) j in
    let others : List (List ℕ) = codes "1" ∷ [] in
    let no_dot : (digit_of (j % 2) == 46) ≡ false = (let ne : digit_of (j % 2) ≢ 46 = omega arith in search (rules, tests)) in
    let some : (suc width == 0) ≡ false = search (rules, tests) in
    ap (λ b. (if b then directive_says k (at_cover n c) first others else row_or_fault k (at_cover n c) first others) >>= no_rams k) no_dot
    ∙ ap (λ (x : Result OpenCover BlifFault). (x >>= (λ d. Ok (at_cover n d))) >>= no_rams k) (row_said c (suc width) j k first others long (ap (λ b. if b then level_alone first others else row_and_level first others) some) agree)

-- no row is `.end`; 46 is the dot
row_no_end : (width j : ℕ) → bytes_eq (row_line width j).0 (codes ".end") ≡ false
row_no_end zero j = refl
row_no_end (suc width) j = let other : (digit_of (j % 2) == 46) ≡ false = (let ne : digit_of (j % 2) ≢ 46 = omega arith in search (rules, tests)) in ap (λ b. b && bytes_eq (levels_of width (j / 2)) (codes "end")) other

agree_on : (table width j : ℕ) (c : OpenCover) → IsCovering table width j c → agrees c.level true ≡ true
agree_on table width j c is = of is.level
  where
    of : ((c.level ≡ None) × (c.covered ≡ 0)) ⊎ (c.level ≡ Some true) → agrees c.level true ≡ true
    of (inl none) = ap (λ level. agrees level true) none.0
    of (inr on) = ap (λ level. agrees level true) on

-- a cover with the same signals
pub record HasSignalsOf (was now : OpenCover) : Type 0 where
  pub ins : now.ins ≡ was.ins
  pub outs : now.outs ≡ was.outs

-- all rows of a table are read, and then the lines behind them
pub rows_read : (n : NetlistData) (m : NetlistData) (first : OpenCover) (rest : List Words) (table width : ℕ) → width ≤ 4 → 2 ^ width ≤ 16
    → ((c : OpenCover) → HasSignalsOf first c → IsCovering table width (2 ^ width) c → Ends n (at_cover m c) rest)
    → (j left : ℕ) (c : OpenCover) → j + left ≡ 2 ^ width → length c.ins ≡ width → HasSignalsOf first c → IsCovering table width j c
    → Ends n (at_cover m c) (rows_from table width j left ++ rest)
rows_read n m first rest table width narrow sixteen later j zero c all long same is =
    later c same (subst (λ k. IsCovering table width k c) (let e : j ≡ 2 ^ width = omega arith in e) is)
rows_read n m first rest table width narrow sixteen later j (suc left) c all long same is =
    let next = rows_read n m first rest table width narrow sixteen later (j + 1) left in
    of (table_bit table j) refl (next c (omega arith) long same)
    (next (with_cover_row c (levels_of width j) true) (omega arith) long (record { ins = same.ins; outs = same.outs }))
  where
    of : (b : Bool) → table_bit table j ≡ b → (IsCovering table width (j + 1) c → Ends n (at_cover m c) (rows_from table width (j + 1) left ++ rest))
        → (IsCovering table width (j + 1) (with_cover_row c (levels_of width j) true) → Ends n (at_cover m (with_cover_row c (levels_of width j) true)) (rows_from table width (j + 1) left ++ rest))
        → Ends n (at_cover m c) (((if b then row_line width j ∷ [] else []) ++ rows_from table width (j + 1) left) ++ rest)
    of false e skip add = skip (row_skipped table width j c e is)
    of true e skip add =
        ends_line n (at_cover m c) (λ k. at_cover m (with_cover_row c (levels_of width j) true)) (row_line width j) (rows_from table width (j + 1) left ++ rest) (row_no_end width j)
        (λ k. row_read m c width j k long (agree_on table width j c is)) (λ k. add (row_added table width j c narrow sixteen (omega arith) e is))
