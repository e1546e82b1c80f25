-- Texts whose cells are taken apart: what is read is what the text has.
use Rattle.std.proofs.Common.{◌≡◌, ℕ, ◌≤◌, List, length, Result, Ok, Err, IfOk, sym, ap, subst, ◌∙◌, arith}
use Rattle.ice_net.specs.NetlistData.{NetlistData}
use Rattle.ice_blif.specs.declared.fault.BlifFault.{BlifFault}
use Rattle.ice_blif.specs.Answers.{Gives}
use Rattle.ice_blif.specs.Cells.{◌>>=◌, IsRawWithin}
use Rattle.ice_blif.specs.Grammar.{within_limits, text_says, netlist_of, HasNetlist, lines_made, IsWithinLimits}
use Rattle.ice_blif.specs.Registers.{all_apart, without_cells}
use Rattle.ice_blif.specs.FewSignals.{taken_apart_says}
use Rattle.ice_blif.proofs.Apart.{all_grow, all_few, said_apart, apart_within}
use Rattle.ice_blif.proofs.Growing.{text_within, text_small}
use Rattle.ice_blif.proofs.Kept.{bound}
use Rattle.ice_blif.proofs.Limits.{text_has}

-- what is read is had, and within the limits
record IsWhole (text : List ℕ) (n : NetlistData) : Type 0 where
  has : HasNetlist text n
  within : IsWithinLimits text n

whole : (text : List ℕ) (n : NetlistData) → netlist_of text ≡ Ok n → IsWhole text n
whole text n e =
    let parts = bound (text_says within_limits text) taken_apart_says n e in
    let raw : NetlistData = parts.value in
    let small : IsRawWithin raw = text_small text raw parts.made in
    let said = said_apart (without_cells raw) raw.cells n small.signals parts.goes_on in
    let has = text_has text raw parts.made in
    record {
      has = (raw, has, said.apart);
      within = record {
        signals = said.few;
        lines = subst (λ x. lines_made x ≤ 1048576) (sym has) small.cells;
        cells = rw said.apart (omega (arith, all_few (without_cells raw) raw.cells, small.cells));
      };
    }

pub netlist_has : (text : List ℕ) (n : NetlistData) → netlist_of text ≡ Ok n → HasNetlist text n
netlist_has text n e = (whole text n e).has

pub netlist_within : (text : List ℕ) (n : NetlistData) → netlist_of text ≡ Ok n → IsWithinLimits text n
netlist_within text n e = (whole text n e).within

-- a text with a netlist that is within the limits is read as that netlist
pub has_within : (text : List ℕ) (n : NetlistData) → HasNetlist text n → IsWithinLimits text n → netlist_of text ≡ Ok n
has_within text n has within =
    let raw : NetlistData = has.0 in
    let names : length (all_apart (without_cells raw) raw.cells).names ≤ 65534 = subst (λ (m : NetlistData). length m.names ≤ 65534) has.2 within.signals in
    let small : IsRawWithin raw = record {
      signals = omega (arith, names, all_grow (without_cells raw) raw.cells);
      cells = subst (λ x. lines_made x ≤ 1048576) has.1 within.lines;
    } in
    ap (λ x. x >>= taken_apart_says) (text_within text raw has.1 small) ∙ apart_within (without_cells raw) raw.cells names ∙ ap Ok (sym has.2)

-- ---- in the reader's words
pub result_has : (text : List ℕ) (result : Result NetlistData BlifFault) → Gives (λ n. n) result (netlist_of text) → IfOk result (HasNetlist text)
result_has text (Ok n) h = netlist_has text n h
result_has text (Err e) h = tt

pub result_within : (text : List ℕ) (result : Result NetlistData BlifFault) → Gives (λ n. n) result (netlist_of text) → IfOk result (IsWithinLimits text)
result_within text (Ok n) h = netlist_within text n h
result_within text (Err e) h = tt
