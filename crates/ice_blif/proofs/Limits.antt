-- The limits of a netlist text, and that it has no RAM, apart from the rest of its grammar.
use Rattle.std.proofs.Common.{◌≡◌, ℕ, ◌+◌, Bool, true, false, List, [], ◌∷◌, length, nat_lt, Result, Ok, Err, if◌then◌else◌, codes, bytes_eq, ap, ◌∙◌}
use Rattle.ice_net.specs.NetlistData.{NetlistData}
use Rattle.ice_blif.specs.declared.fault.BlifFault.{BlifFault}
use Rattle.ice_blif.specs.declared.fault.BlifFault.TheVariants.{TooMany, NoModel}
use Rattle.ice_blif.specs.Reading.{NetReading}
use Rattle.ice_blif.specs.State.{LastCell, Nothing, Gate, Memory, Rows}
use Rattle.ice_base.specs.Text.{lines, numbered}
use Rattle.ice_blif.specs.JoinedLines.{FilledLine, joined, filled, last_number}
use Rattle.ice_blif.specs.Cells.{◌>>=◌, count_of}
use Rattle.ice_blif.specs.Grammar.{within_limits, no_limits, unless_ram, no_rams, line_says, model_says, lines_say, text_says, ended, empty_reader, HasNetlist, HasNetlistAlone}
use Rattle.ice_blif.proofs.Kept.{bound}

within_by : (line : ℕ) (r s : NetReading) (b c : Bool)
    → (let said : Result NetReading BlifFault = if b then Err (TooMany line 65534) else (if c then Err (TooMany line 1048576) else Ok r) in said) ≡ Ok s → r ≡ s
within_by line r s true c h = absurd (cc)
within_by line r s false true h = absurd (cc)
within_by line r s false false h = cc

within_same : (line : ℕ) (r s : NetReading) → within_limits line r ≡ Ok s → r ≡ s
within_same line r s h = within_by line r s (nat_lt 65534 (length r.netlist.names)) (nat_lt 1048576 (length r.netlist.cells + count_of r.last)) h

unless_same : (line : ℕ) (r s : NetReading) (last : LastCell) → unless_ram line r last ≡ Ok s → r ≡ s
unless_same line r s Nothing h = cc
unless_same line r s (Gate cell) h = cc
unless_same line r s Memory h = absurd (cc)
unless_same line r s (Rows cover) h = cc

-- ---- limits that change nothing
module _ (limits : ℕ → NetReading → Result NetReading BlifFault) (same : (line : ℕ) (r s : NetReading) → limits line r ≡ Ok s → r ≡ s) where
  -- a line within such limits says the same without them
  line_has : (l : FilledLine) (r s : NetReading) → line_says limits l r ≡ Ok s → line_says no_limits l r ≡ Ok s
  line_has l r s h =
      let parts = bound _ (limits l.number) s h in
      ap (λ x. x >>= no_limits l.number) parts.made ∙ ap Ok (same l.number parts.value s parts.goes_on)

  model_step : (last : ℕ) (l : FilledLine) (ls : List FilledLine) (r : NetReading) (n : NetlistData) (b : Bool)
      → ((s : NetReading) → model_says limits last s ls ≡ Ok n → model_says no_limits last s ls ≡ Ok n)
      → (if b then ended r ls else line_says limits l r >>= (λ s. model_says limits last s ls)) ≡ Ok n
      → (if b then ended r ls else line_says no_limits l r >>= (λ s. model_says no_limits last s ls)) ≡ Ok n
  model_step last l ls r n true rest h = h
  model_step last l ls r n false rest h =
      let parts = bound (line_says limits l r) (λ s. model_says limits last s ls) n h in
      ap (λ x. x >>= (λ s. model_says no_limits last s ls)) (line_has l r parts.value parts.made) ∙ rest parts.value parts.goes_on

  model_has : (last : ℕ) (ls : List FilledLine) (r : NetReading) (n : NetlistData) → model_says limits last r ls ≡ Ok n → model_says no_limits last r ls ≡ Ok n
  model_has last [] r n h = absurd (cc)
  model_has last (l ∷ ls) r n h = model_step last l ls r n (bytes_eq l.first (codes ".end")) (λ s. model_has last ls s n) h

  lines_step : (last : ℕ) (l : FilledLine) (ls : List FilledLine) (n : NetlistData) (b : Bool)
      → (if b then model_says limits last empty_reader ls else Err (NoModel l.number)) ≡ Ok n
      → (if b then model_says no_limits last empty_reader ls else Err (NoModel l.number)) ≡ Ok n
  lines_step last l ls n true h = model_has last ls empty_reader n h
  lines_step last l ls n false h = absurd (cc)

  lines_has : (last : ℕ) (ls : List FilledLine) (n : NetlistData) → lines_say limits last ls ≡ Ok n → lines_say no_limits last ls ≡ Ok n
  lines_has last [] n h = absurd (cc)
  lines_has last (l ∷ ls) n h = lines_step last l ls n (bytes_eq l.first (codes ".model")) h

  -- what a text says within them it says without them
  pub freely : (text : List ℕ) (raw : NetlistData) → text_says limits text ≡ Ok raw → text_says no_limits text ≡ Ok raw
  freely text raw h = lines_has (last_number 0 (numbered 1 (lines text))) (filled (joined (numbered 1 (lines text)))) raw h

-- what a text says within the limits it says without them
pub text_has : (text : List ℕ) (raw : NetlistData) → text_says within_limits text ≡ Ok raw → text_says no_limits text ≡ Ok raw
text_has text raw h = freely within_limits within_same text raw h

-- a text with a netlist and no RAM has this netlist
pub alone_has : (text : List ℕ) (n : NetlistData) → HasNetlistAlone text n → HasNetlist text n
alone_has text n has = (has.0, freely no_rams (λ line r s h. unless_same line r s r.last h) text has.0 has.1, has.2)
