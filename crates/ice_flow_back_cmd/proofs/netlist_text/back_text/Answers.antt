use Rattle.std.proofs.Common.{ℕ, List, sym, subst}
use Rattle.ice_chip.specs.Views.{package_view}
use Rattle.ice_blif_laws.specs.SameNames.{SaysTheSame}
use Rattle.ice_flow_back_cmd.proofs.Written.{can_be_written, says_bits}
use Rattle.ice_flow_back_cmd.proofs.netlist_text.back_text.Goals as goal

pub returns-clause-says : goal.returns-clause-says
returns-clause-says c =
    let n = c.in_ok-netlist.netlist in
    let made = c.in_ok-netlist.ensures in
    let parts = c.args.chip.now in
    let k = c.args.circuit.now.configuration in
    let rows = package_view c.args.bonded.now in
    let read = c.is_chip.ensures.read in
    let writable = can_be_written parts k rows read c.requires.listed c.requires.words n made.netlist made.sound in
    says_bits parts k rows read c.requires.listed c.requires.words n c.in_ok-text.text.items made.netlist made.shows
    (subst (λ (text : List ℕ). SaysTheSame text n) (sym c.in_ok-text.ensures.text) (c.in_ok-text.ensures.says made.sound writable))
