-- What taking cells apart keeps, and where a hidden signal is one too many.
use Rattle.std.proofs.Common.{◌≡◌, ℕ, ◌+◌, ◌*◌, ◌<◌, ◌≤◌, ◌==◌, Bool, true, false, List, [], ◌∷◌, ◌++◌, length, length-append, nat_lt, Option, Some, None, Result, Ok, Err, if◌then◌else◌, codes, refl, sym, ap, subst, ◌∙◌, arith, rules, tests, append-nil}
use Rattle.ice_base.specs.Lists.{with_name}
use Rattle.ice_net.specs.declared.cell.Cell.{Cell}
use Rattle.ice_net.specs.declared.kind.CellKind.{CellKind}
use Rattle.ice_net.specs.declared.kind.CellKind.TheVariants.{Lut, Cover, Carry, Flop, PadCell, Global}
use Rattle.ice_net.specs.NetlistData.{NetlistData}
use Rattle.ice_net.proofs.NetlistLaws.{names_grow}
use Rattle.ice_blif.specs.declared.fault.BlifFault.{BlifFault}
use Rattle.ice_blif.specs.declared.fault.BlifFault.TheVariants.{TooMany}
use Rattle.ice_blif.specs.Cells.{◌>>=◌}
use Rattle.ice_blif.specs.FirstFault.{IsOneTooMany}
use Rattle.ice_blif.specs.Registers.{hidden_name, input_pad, input_register, output_pad, output_register, buffer_of, with_input, with_output, with_pad, with_cells_of, with_buffer, with_apart, all_apart}
use Rattle.ice_blif.specs.FewSignals.{few_signals, apart_says}
use Rattle.ice_blif.specs.State.{named, signal_of, own_cell, with_cell}
use Rattle.ice_blif.proofs.Kept.{bound}

-- ---- names
-- what hidden names keep
abbrev pub HiddenKeep : (List (List ℕ) → Type 0) → Type 0
HiddenKeep P = (names : List (List ℕ)) (line : ℕ) → P names → P (with_name names (hidden_name line (codes "in"))) × P (with_name names (hidden_name line (codes "out")))

pad_keeps : (P : List (List ℕ) → Type 0) → HiddenKeep P → (n : NetlistData) (cell : Cell) (pin_type : ℕ) (pullup : Bool) → P n.names → P (with_pad n cell pin_type pullup).names
pad_keeps P keep n cell pin_type pullup h = by (pin_type == 0) (pin_type == 21)
  where
    input : NetlistData
    input = with_input (named n (hidden_name cell.line (codes "in"))) cell pullup (signal_of n (hidden_name cell.line (codes "in")))

    output : NetlistData
    output = with_output (named n (hidden_name cell.line (codes "out"))) cell pullup (signal_of n (hidden_name cell.line (codes "out")))

    by : (b c : Bool) → P (if b then input else (if c then output else with_cell n cell)).names
    by true c = (keep n.names cell.line h).0
    by false true = (keep n.names cell.line h).1
    by false false = h

own_keeps : (P : List (List ℕ) → Type 0) → HiddenKeep P → (n : NetlistData) (cell : Cell) (kind : CellKind) → P n.names → P (with_cells_of n cell kind).names
own_keeps P keep n cell (Lut table) h = h
own_keeps P keep n cell (Cover table width) h = h
own_keeps P keep n cell Carry h = h
own_keeps P keep n cell (Flop falling enable reset) h = h
own_keeps P keep n cell (PadCell pin_type pullup) h = pad_keeps P keep n cell pin_type pullup h
own_keeps P keep n cell Global h = h

buffer_names : (n : NetlistData) (found : Option Cell) → (with_buffer n found).names ≡ n.names
buffer_names n None = refl
buffer_names n (Some cell) = refl

pub apart_keeps : (P : List (List ℕ) → Type 0) → HiddenKeep P → (n : NetlistData) (cell : Cell) → P n.names → P (with_apart n cell).names
apart_keeps P keep n cell h =
    subst P (sym (buffer_names (with_cells_of n (own_cell cell) cell.kind) (buffer_of cell))) (own_keeps P keep n (own_cell cell) cell.kind h)

pub all_keep : (P : List (List ℕ) → Type 0) → HiddenKeep P → (n : NetlistData) (cells : List Cell) → P n.names → P (all_apart n cells).names
all_keep P keep n [] h = h
all_keep P keep n (cell ∷ cells) h = all_keep P keep (with_apart n cell) cells (apart_keeps P keep n cell h)

-- names are as many or more
hidden_grow : (m : ℕ) → HiddenKeep (λ names. m ≤ length names)
hidden_grow m names line le = (
  omega (arith, le, (names_grow names (hidden_name line (codes "in"))).0),
  omega (arith, le, (names_grow names (hidden_name line (codes "out"))).0),
)

pub own_grows : (n : NetlistData) (cell : Cell) (kind : CellKind) → length n.names ≤ length (with_cells_of n cell kind).names
own_grows n cell kind = own_keeps (λ names. length n.names ≤ length names) (hidden_grow (length n.names)) n cell kind (omega arith)

pub apart_grows : (n : NetlistData) (cell : Cell) → length n.names ≤ length (with_apart n cell).names
apart_grows n cell = apart_keeps (λ names. length n.names ≤ length names) (hidden_grow (length n.names)) n cell (omega arith)

pub all_grow : (n : NetlistData) (cells : List Cell) → length n.names ≤ length (all_apart n cells).names
all_grow n cells = all_keep (λ names. length n.names ≤ length names) (hidden_grow (length n.names)) n cells (omega arith)

-- ---- cells
-- three cells at most
one_few : (n : NetlistData) (cell : Cell) → length (with_cell n cell).cells ≡ length n.cells + 1
one_few n cell = length-append n.cells (cell ∷ [])

both_few : (n : NetlistData) (pad register : Cell) → length (with_cell (with_cell n pad) register).cells ≡ length n.cells + 2
both_few n pad register = one_few (with_cell n pad) register ∙ omega (arith, one_few n pad)

pad_few : (n : NetlistData) (cell : Cell) (pin_type : ℕ) (pullup : Bool) → length (with_pad n cell pin_type pullup).cells ≤ length n.cells + 2
pad_few n cell pin_type pullup = by (pin_type == 0) (pin_type == 21)
  where
    input : NetlistData
    input = with_input (named n (hidden_name cell.line (codes "in"))) cell pullup (signal_of n (hidden_name cell.line (codes "in")))

    output : NetlistData
    output = with_output (named n (hidden_name cell.line (codes "out"))) cell pullup (signal_of n (hidden_name cell.line (codes "out")))

    by : (b c : Bool) → length (if b then input else (if c then output else with_cell n cell)).cells ≤ length n.cells + 2
    by true c =
        let hidden = signal_of n (hidden_name cell.line (codes "in")) in
        omega (arith, both_few (named n (hidden_name cell.line (codes "in"))) (input_pad cell pullup hidden) (input_register cell hidden))
    by false true =
        let hidden = signal_of n (hidden_name cell.line (codes "out")) in
        omega (arith, both_few (named n (hidden_name cell.line (codes "out"))) (output_pad cell pullup hidden) (output_register cell hidden))
    by false false = omega (arith, one_few n cell)

pub own_few : (n : NetlistData) (cell : Cell) (kind : CellKind) → length (with_cells_of n cell kind).cells ≤ length n.cells + 2
own_few n cell (Lut table) = omega (arith, one_few n cell)
own_few n cell (Cover table width) = omega (arith, one_few n cell)
own_few n cell Carry = omega (arith, one_few n cell)
own_few n cell (Flop falling enable reset) = omega (arith, one_few n cell)
own_few n cell (PadCell pin_type pullup) = pad_few n cell pin_type pullup
own_few n cell Global = omega (arith, one_few n cell)

buffer_few : (n : NetlistData) (found : Option Cell) → length (with_buffer n found).cells ≤ length n.cells + 1
buffer_few n None = omega arith
buffer_few n (Some cell) = omega (arith, one_few n cell)

pub apart_few : (n : NetlistData) (cell : Cell) → length (with_apart n cell).cells ≤ length n.cells + 3
apart_few n cell = omega (arith, own_few n (own_cell cell) cell.kind, buffer_few (with_cells_of n (own_cell cell) cell.kind) (buffer_of cell))

pub all_few : (n : NetlistData) (cells : List Cell) → length (all_apart n cells).cells ≤ length n.cells + 3 * length cells
all_few n [] = omega arith
all_few n (cell ∷ cells) = omega (arith, apart_few n cell, all_few (with_apart n cell) cells)

-- ---- limits
same_netlist : (n m : NetlistData) → (let said : Result NetlistData BlifFault = Ok n in said) ≡ Ok m → n ≡ m
same_netlist n m e = cc

-- what is found few is the same, and few
record IsFew (n m : NetlistData) : Type 0 where
  same : n ≡ m
  few : length m.names ≤ 65534

few_by : (line : ℕ) (n m : NetlistData) (b : Bool) → nat_lt 65534 (length n.names) ≡ b → (let said : Result NetlistData BlifFault = if b then Err (TooMany line 65534) else Ok n in said) ≡ Ok m → IsFew n m
few_by line n m true is e = absurd (cc)
few_by line n m false is e =
    let same : n ≡ m = same_netlist n m e in
    let few : length n.names ≤ 65534 = search (rules, tests) in
    record { same = same; few = subst (λ (x : NetlistData). length x.names ≤ 65534) same few }

few_told : (line : ℕ) (n m : NetlistData) → few_signals line n ≡ Ok m → IsFew n m
few_told line n m e = few_by line n m (nat_lt 65534 (length n.names)) refl e

few_passes : (line : ℕ) (n : NetlistData) → length n.names ≤ 65534 → few_signals line n ≡ Ok n
few_passes line n le = let few : nat_lt 65534 (length n.names) ≡ false = search (rules, tests) in rw few refl

many_told : (line : ℕ) (n : NetlistData) → 65534 < length n.names → few_signals line n ≡ Err (TooMany line 65534)
many_told line n lt = let many : nat_lt 65534 (length n.names) ≡ true = search (rules, tests) in rw many refl

-- cells that are said to be taken apart are, and their signals are few
pub record IsSaid (n : NetlistData) (cells : List Cell) (m : NetlistData) : Type 0 where
  pub apart : m ≡ all_apart n cells
  pub few : length m.names ≤ 65534

pub said_apart : (n : NetlistData) (cells : List Cell) (m : NetlistData) → length n.names ≤ 65534 → apart_says n cells ≡ Ok m → IsSaid n cells m
said_apart n [] m le e = let same : n ≡ m = same_netlist n m e in record { apart = sym same; few = subst (λ (x : NetlistData). length x.names ≤ 65534) same le }
said_apart n (cell ∷ cells) m le e =
    let parts = bound (few_signals cell.line (with_apart n cell)) (λ k. apart_says k cells) m e in
    let first = few_told cell.line (with_apart n cell) parts.value parts.made in
    let later = said_apart parts.value cells m first.few parts.goes_on in
    record { apart = later.apart ∙ ap (λ k. all_apart k cells) (sym first.same); few = later.few }

-- cells whose signals are few are taken apart, and then those behind them
apart_led : (n : NetlistData) (before rest : List Cell) → length (all_apart n before).names ≤ 65534 → apart_says n (before ++ rest) ≡ apart_says (all_apart n before) rest
apart_led n [] rest le = refl
apart_led n (cell ∷ before) rest le =
    ap (λ x. x >>= (λ k. apart_says k (before ++ rest))) (few_passes cell.line (with_apart n cell) (omega (arith, le, all_grow (with_apart n cell) before)))
    ∙ apart_led (with_apart n cell) before rest le

pub apart_within : (n : NetlistData) (cells : List Cell) → length (all_apart n cells).names ≤ 65534 → apart_says n cells ≡ Ok (all_apart n cells)
apart_within n cells le = ap (apart_says n) (sym (append-nil cells)) ∙ apart_led n cells [] le

same_fault : (e f : BlifFault) → (let said : Result NetlistData BlifFault = Err e in said) ≡ Err f → e ≡ f
same_fault e f h = cc

later_many : (n : NetlistData) (cell : Cell) (cells : List Cell) (f : BlifFault) → IsOneTooMany (with_apart n cell) cells f → IsOneTooMany n (cell ∷ cells) f
later_many n cell cells f h = record {
  before = cell ∷ h.before;
  cell = h.cell;
  behind = h.behind;
  stands = ap (λ xs. cell ∷ xs) h.stands;
  few = h.few;
  many = h.many;
  told = h.told;
}

-- that there are too many is told of the first cell whose hidden signal is one too many
pub apart_told : (n : NetlistData) (cells : List Cell) (f : BlifFault) → length n.names ≤ 65534 → apart_says n cells ≡ Err f → IsOneTooMany n cells f
apart_told n [] f le e = absurd (cc)
apart_told n (cell ∷ cells) f le e = by (nat_lt 65534 (length (with_apart n cell).names)) refl e (apart_told (with_apart n cell) cells f)
  where
    m : NetlistData
    m = with_apart n cell

    by : (b : Bool) → nat_lt 65534 (length m.names) ≡ b → ((if b then Err (TooMany cell.line 65534) else Ok m) >>= (λ k. apart_says k cells)) ≡ Err f
        → (length m.names ≤ 65534 → apart_says m cells ≡ Err f → IsOneTooMany m cells f) → IsOneTooMany n (cell ∷ cells) f
    by true is said later =
        let many : 65534 < length m.names = search (rules, tests) in
        record { before = []; cell = cell; behind = cells; stands = refl; few = le; many = many; told = sym (same_fault (TooMany cell.line 65534) f said) }
    by false is said later =
        let few : length m.names ≤ 65534 = search (rules, tests) in
        later_many n cell cells f (later few said)

pub apart_faulty : (n : NetlistData) (cells : List Cell) (f : BlifFault) → IsOneTooMany n cells f → apart_says n cells ≡ Err f
apart_faulty n cells f h =
    ap (apart_says n) h.stands ∙ apart_led n h.before (h.cell ∷ h.behind) h.few
    ∙ ap (λ x. x >>= (λ k. apart_says k h.behind)) (many_told h.cell.line (with_apart (all_apart n h.before) h.cell) h.many)
    ∙ ap (λ e. Err e) (sym h.told)
