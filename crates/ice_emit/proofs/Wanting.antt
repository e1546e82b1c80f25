-- All rows and all settings, from their parts.
use Rattle.std.proofs.Common.{◌≡◌, Bool, List, [], ◌∷◌, ◌++◌, map, refl, ap, ◌∙◌}
use Rattle.std.specs.Prelude.{flat_map}
use Rattle.ice_base.specs.declared.number.RowNo.{RowNo}
use Rattle.ice_graph.specs.declared.tree.Tree.{Tree}
use Rattle.ice_chip.specs.Database.{Parts}
use Rattle.ice_chip.specs.Indices.{enables_of}
use Rattle.ice_chip_rams.specs.Sites.{sites}
use Rattle.ice_decode.specs.declared.driver.Switch.{Switch}
use Rattle.ice_graph.specs.Leading.{route_of}
use Rattle.ice_place_defs.specs.Plan.{Plan}
use Rattle.ice_emit_rows_laws.specs.Settings.{Setting}
use Rattle.ice_emit_defs.specs.Arrivals.{Held}
use Rattle.ice_emit_defs.specs.Functions.{settings, clusters_settings, ports_settings, enable_settings, read_pads, buffer_settings}
use Rattle.ice_emit_defs.specs.Links.{all_links}
use Rattle.ice_emit_defs.specs.Rams.{site_settings}
use Rattle.ice_ram.specs.Ram.{Kept}
use Rattle.ice_ram.specs.declared.setup.Setup.{Setup}
use Rattle.ice_emit_defs.specs.Written.{route_rows, wanted_rows}
use Rattle.ice_emit.specs.Views.{rows_in}
use Rattle.ice_emit_settings.specs.Views.{switches}

tree_rows : (trees : List Tree) → flat_map rows_in trees ≡ flat_map (λ (rows : List RowNo). rows) (map route_rows (map route_of trees))
tree_rows [] = refl
tree_rows (tree ∷ trees) = ap (λ rows. tree.rows.items ++ rows) (tree_rows trees)

pub wanted_are : (parts : Parts) (plan : Plan) (trees : List Tree) (rows all : List RowNo) → rows ≡ [] ++ flat_map rows_in trees → switches parts all ≡ switches parts rows ++ all_links parts plan.design.cells plan.at plan.clusters
    → switches parts all ≡ wanted_rows parts plan (map route_of trees)
wanted_are parts plan trees rows all e f = f ∙ ap (λ (rs : List RowNo). switches parts rs ++ all_links parts plan.design.cells plan.at plan.clusters) (e ∙ tree_rows trees)

pub settings_are : (parts : Parts) (plan : Plan) (pullups : List Bool) (rams : List (Setup × Kept)) (held : Held) (wanted : List Switch) (a b c d e : List Setting) → a ≡ [] ++ clusters_settings parts held plan.design plan.at plan.clusters
    → b ≡ a ++ ports_settings parts plan.ports pullups plan.design.pads → c ≡ b ++ flat_map (enable_settings (enables_of parts) (read_pads plan.ports plan.design.pads)) (enables_of parts) → d ≡ c ++ flat_map (buffer_settings parts) wanted
    → e ≡ d ++ site_settings (sites parts) rams → e ≡ settings parts plan pullups rams held wanted
settings_are parts plan pullups rams held wanted a b c d e first second third fourth fifth =
    let x = clusters_settings parts held plan.design plan.at plan.clusters in
    let y = ports_settings parts plan.ports pullups plan.design.pads in
    let z = flat_map (enable_settings (enables_of parts) (read_pads plan.ports plan.design.pads)) (enables_of parts) in
    let w = flat_map (buffer_settings parts) wanted in
    let v = site_settings (sites parts) rams in
    fifth ∙ ap (λ xs. xs ++ v) (fourth ∙ ap (λ xs. xs ++ w) (third ∙ ap (λ xs. xs ++ z) (second ∙ ap (λ xs. xs ++ y) first)))
