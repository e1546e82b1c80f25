use Rattle.std.proofs.Common.{ℕ, Bool, List, length, sym, ap, ◌∙◌, subst}
use Rattle.std.specs.List.{All}
use Rattle.ice_chip.specs.declared.rows.Pad.{Pad}
use Rattle.ice_cells.specs.declared.cluster.Cluster.{Cluster}
use Rattle.ice_place_defs.specs.Length.{length_of}
use Rattle.ice_anneal_board.specs.Length.{IsNet}
use Rattle.ice_anneal.proofs.placing.nets_in.Goals as goal

pub returns-clause-nets : goal.returns-clause-nets
returns-clause-nets c = subst (λ (l : List Cluster). All (IsNet (length l)) c.in_ok-nets.nets.items) c.list.ensures c.in_ok-nets.ensures.nets

pub returns-clause-lengths : goal.returns-clause-lengths
returns-clause-lengths c at e =
    let parts = c.args.chip.now in
    let d = c.args.design.now in
    let pads = c.args.pads.now in
    let clusters = c.args.clusters.now in
    c.in_ok-nets.ensures.lengths at (e ∙ sym (ap length c.list.ensures))
    ∙ ap (λ (x : List Cluster). length_of parts (record { design = d; clusters = x; at = at; ports = c.ports.result.now; globals = c.globals.result.now; direct = c.direct.result.now })) c.list.ensures
    ∙ ap (λ (x : List Pad). length_of parts (record { design = d; clusters = clusters.list; at = at; ports = x; globals = c.globals.result.now; direct = c.direct.result.now })) c.ports.ensures
    ∙ ap (λ (x : List ℕ). length_of parts (record { design = d; clusters = clusters.list; at = at; ports = pads.ports; globals = x; direct = c.direct.result.now })) c.globals.ensures
    ∙ ap (λ (x : List Bool). length_of parts (record { design = d; clusters = clusters.list; at = at; ports = pads.ports; globals = pads.globals; direct = x })) c.direct.ensures
