use Rattle.std.proofs.Common.{◌∷◌, sym, subst, arith, ◌∙◌}
use Rattle.ice_check.specs.Sound.{IsSound}
use Rattle.ice_flow_frame.specs.Texts.{text_at}
use Rattle.ice_flow_build_cmd.proofs.Refusing.{blif_unread, net_unread, rams_unread}
use Rattle.ice_flow_build_cmd.proofs.Unclosed.{read_alone}
use Rattle.ice_flow_build_cmd.proofs.building.read_sound.Goals as goal

pub returns-in-Err-clause-refused : goal.returns-in-Err-clause-refused
returns-in-Err-clause-refused c = λ b chip_text parts constraints read.
    blif_unread b (chip_text ∷ c.args.texts.now) parts constraints c.in-Err.fault c.blif_refusal.result read (rw c.at.ensures at c.in-Err.ensures.closed) c.blif_refusal.ensures

pub returns-in-Err-check-clause-refused : goal.returns-in-Err-check-clause-refused
returns-in-Err-check-clause-refused c = λ b chip_text parts constraints read.
    net_unread b (chip_text ∷ c.args.texts.now) parts constraints c.in-Ok.circuit c.in-Err-check.fault c.net_refusal.result read (rw c.at.ensures at c.in-Ok.ensures.closed)
    (rw c.into_netlist.ensures at c.in-Err-check.ensures.fault) c.net_refusal.ensures

pub returns-then-rams-gt0-clause-refused : goal.returns-then-rams-gt0-clause-refused
returns-then-rams-gt0-clause-refused c = λ b chip_text parts constraints read.
    rams_unread b (chip_text ∷ c.args.texts.now) parts constraints c.in-Ok.circuit c.rams_count-rams.result c.rams_refusal.result read (rw c.at.ensures at c.in-Ok.ensures.closed)
    (subst IsSound c.into_netlist.ensures c.in-Ok-check.ensures.sound) (sym c.rams_count-rams.ensures) (omega (arith, c.if-rams-gt0.true)) c.rams_refusal.ensures

pub returns-clause-circuit : goal.returns-clause-circuit
returns-clause-circuit c =
    read_alone (text_at c.args.texts.now 2) c.in-Ok.circuit c.in-Ok-check.sound (rw c.at.ensures at c.in-Ok.ensures.closed) (omega (arith, c.if-rams-gt0.false, c.rams_count-rams.ensures))
    (c.in-Ok-check.ensures.netlist ∙ c.into_netlist.ensures)

pub returns-clause-limits : goal.returns-clause-limits
returns-clause-limits c =
    let within = rw c.at.ensures at c.in-Ok.ensures.limits in
    rw c.in-Ok-check.ensures.netlist (rw c.into_netlist.ensures (within (omega (arith, c.if-rams-gt0.false, c.rams_count-rams.ensures))))
