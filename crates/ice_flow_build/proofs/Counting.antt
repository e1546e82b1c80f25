-- How many nets a placed design has.
use Rattle.std.proofs.Common.{◌≡◌, ℕ, ◌+◌, ◌≤◌, List, length, sym, ap, ◌∙◌, subst, le_trans}
use Rattle.std.proofs.lemmas.List.{length-map}
use Rattle.ice_net.specs.NetlistData.{NetlistData}
use Rattle.ice_pcf.specs.declared.constraint.Constraint.{Constraint}
use Rattle.ice_chip.specs.Database.{Parts}
use Rattle.ice_chip.specs.IsRead.{IsChip}
use Rattle.ice_carry_form_laws.specs.Few.{ReadsAtMost, DesignsReadFew}
use Rattle.ice_pack_laws.specs.PackLaws.{IsSoundInOrder}
use Rattle.ice_core.specs.declared.net.Net.{Net}
use Rattle.ice_emit_nets.specs.Nets.{Bare, bare_net}
use Rattle.ice_place_defs.specs.Plan.{Plan}
use Rattle.ice_emit_nets_laws.specs.Few.{PlacedNetsAreFew}
use Rattle.ice_emit_nets_laws.specs.Routing.{AreNetsOf}
use Rattle.ice_flow_build.specs.Answers.{net_count}
use Rattle.ice_flow_build.specs.Laid.{IsLaidOut, StandsOn, plan_in, task_of}
use Rattle.ice_flow_build.specs.declared.answer.Layout.{Layout}

-- they are as many as the roots that are read, at most: one of each signal, and the cells of the two constants
pub layout_few : (parts : Parts) (n : NetlistData) (order : List ℕ) → IsChip parts → IsSoundInOrder n order → DesignsReadFew → PlacedNetsAreFew
    → (name : List ℕ) (constraints : List Constraint) (layout : Layout) → IsLaidOut (task_of parts name constraints n) layout → StandsOn parts name 0 layout
    → net_count parts (plan_in layout) ≤ length n.names + 2
layout_few parts n order chip sound read few name constraints layout laid stands =
    let reads : ReadsAtMost (length n.names + 2) layout.design = subst (ReadsAtMost (length n.names + 2)) (sym laid.design) (read n order sound) in
    let nets : net_count parts (plan_in layout) ≤ length reads.roots = few parts stands.0 (plan_in layout) layout.pads.pullups reads.roots chip stands.2 reads.each in
    le_trans nets reads.few

pub nets_counted : (parts : Parts) (plan : Plan) (nets : List Net) → AreNetsOf parts plan nets → length nets ≡ net_count parts plan
nets_counted parts plan nets are = sym (length-map nets bare_net) ∙ ap (λ (all : List Bare). length all) are
