-- What the reader takes of a line that makes no RAM is what the line says.
use Rattle.std.proofs.Common.{◌≡◌, ℕ, ◌+◌, true, ◌||◌, List, ◌∷◌, [], length, fold, nat_lt, Some, None, Ok, Err, IfOk, if◌then◌else◌, codes, bytes_eq, refl, ap}
use Rattle.ice_base.specs.Text.{begins_with}
use Rattle.ice_net.specs.declared.port.Way.{Way}
use Rattle.ice_net.specs.declared.port.Way.TheVariants.{Input, Output}
use Rattle.ice_net.specs.NetlistData.{NetlistData}
use Rattle.ice_blif.specs.declared.fault.BlifFault.TheVariants.{SecondModel, UnknownDirective, TooMany}
use Rattle.ice_blif.specs.State.{LastCell}
use Rattle.ice_blif.specs.Reading.{NetReading}
use Rattle.ice_blif.specs.JoinedLines.{FilledLine}
use Rattle.ice_blif.specs.Cells.{param_says, count_of}
use Rattle.ice_blif.specs.Grammar.{ports_say, without_rows, gate_says, names_say, row_line, row_or_fault, port_directive_says, param_directive_says, directive_says, within_limits, line_says}
use Rattle.ice_blif.proofs.Kept.{bind_keeps, either}
use Rattle.ice_ram_read.specs.RamData.{is_gate}
use Rattle.ice_blif_laws.specs.NetlistText.{port_joins, gate_directive, signal_joins, cover_joins, row_joins_cover, param_joins, directive_joins, blif_line_joins}
use Rattle.ice_blif_laws.proofs.TextParams.{param_said}
use Rattle.ice_blif_laws.proofs.TextSteps.{OpensNone, seen, Alike, chosen, chosen_by, ports_said, gate_said, names_said, row_said}

ports_directive_said : (line : ℕ) (way : Way) (r : NetReading) (names : List (List ℕ)) → Alike (Some (fold (port_joins way) r.netlist names, r.last)) (port_directive_says line way r names)
ports_directive_said line way r names =
    bind_keeps (λ (m : NetlistData). fold (port_joins way) r.netlist names ≡ m) (λ (s : NetReading). Some (fold (port_joins way) r.netlist names, r.last) ≡ Some (seen s)) (ports_say line way r.netlist names) (λ n. Ok (without_rows n r.last))
    (ports_said line way r.netlist names) (λ n one. ap (λ (x : NetlistData). Some (x, r.last)) one)

param_directive_said : (line : ℕ) (r : NetReading) (ws : List (List ℕ)) → Alike (Some (r.netlist, param_joins r.last ws)) (param_directive_says line r ws)
param_directive_said line r ws =
    bind_keeps (λ (k : LastCell). param_joins r.last ws ≡ k) (λ (s : NetReading). Some (r.netlist, param_joins r.last ws) ≡ Some (seen s)) (param_says line r.last ws) (λ last. Ok (without_rows r.netlist last))
    (param_said line r.last ws) (λ last one. ap (λ (x : LastCell). Some (r.netlist, x)) one)

directive_said : (line : ℕ) (r : NetReading) (first : List ℕ) (others : List (List ℕ)) → (is_gate first ≡ true → OpensNone others) → Alike (directive_joins line first others (seen r)) (directive_says line r first others)
directive_said line r first others none =
    chosen_by (bytes_eq first (codes ".gate") || bytes_eq first (codes ".subckt")) (gate_directive line others (seen r)) _ (gate_says line r others) _ (λ gate. gate_said line r others (none gate))
    (chosen (bytes_eq first (codes ".names")) (Some (cover_joins line r.last (fold signal_joins (r.netlist, []) others))) _ (names_say line r others) _ (names_said line r others)
    (chosen (bytes_eq first (codes ".param")) (Some (r.netlist, param_joins r.last others)) _ (param_directive_says line r others) _ (param_directive_said line r others)
    (chosen (bytes_eq first (codes ".attr") || bytes_eq first (codes ".cname")) (Some (seen r)) _ (Ok (without_rows r.netlist r.last)) _ refl
    (chosen (bytes_eq first (codes ".inputs")) (Some (fold (port_joins Input) r.netlist others, r.last)) _ (port_directive_says line Input r others) _ (ports_directive_said line Input r others)
    (chosen (bytes_eq first (codes ".outputs")) (Some (fold (port_joins Output) r.netlist others, r.last)) None (port_directive_says line Output r others) _ (ports_directive_said line Output r others)
    (either (λ (s : NetReading). None ≡ Some (seen s)) (bytes_eq first (codes ".model")) (Err (SecondModel line)) (Err (UnknownDirective line)) tt tt))))))

-- what holds of a state holds of it within the limits
pub within_keeps : (P : NetReading → Type 0) (line : ℕ) (s : NetReading) → P s → IfOk (within_limits line s) P
within_keeps P line s p =
    either P (nat_lt 65534 (length s.netlist.names)) (Err (TooMany line 65534)) _ tt
    (either P (nat_lt 1048576 (length s.netlist.cells + count_of s.last)) (Err (TooMany line 1048576)) (Ok s) tt p)

pub line_said : (l : FilledLine) (r : NetReading) → (is_gate l.first ≡ true → OpensNone l.others) → Alike (blif_line_joins l.number l.first l.others (seen r)) (line_says within_limits l r)
line_said l r none =
    bind_keeps (λ (s : NetReading). blif_line_joins l.number l.first l.others (seen r) ≡ Some (seen s)) (λ (s : NetReading). blif_line_joins l.number l.first l.others (seen r) ≡ Some (seen s))
    (if begins_with 46 l.first then directive_says l.number r l.first l.others else row_or_fault l.number r l.first l.others) (within_limits l.number)
    (chosen (begins_with 46 l.first) (directive_joins l.number l.first l.others (seen r)) (row_joins_cover r.last (l.first ∷ l.others) r.netlist) (directive_says l.number r l.first l.others) (row_or_fault l.number r l.first l.others)
    (directive_said l.number r l.first l.others none)
    (either (λ (s : NetReading). row_joins_cover r.last (l.first ∷ l.others) r.netlist ≡ Some (seen s)) r.rows (row_line l.number r r.last l.first l.others) (Err (UnknownDirective l.number)) (row_said l.number r r.last l.first l.others) tt))
    (λ s is. within_keeps (λ (t : NetReading). blif_line_joins l.number l.first l.others (seen r) ≡ Some (seen t)) l.number s is)
