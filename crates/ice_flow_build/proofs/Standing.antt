-- Placed designs stand on their chip.
use Rattle.std.proofs.Common.{◌≡◌, ℕ, Option, Some, None, List, refl, sym, subst}
use Rattle.std.specs.Prelude.{Ok, bytes_eq}
use Rattle.ice_base_values.proofs.Members.{find_Has}
use Rattle.ice_net.specs.NetlistData.{NetlistData}
use Rattle.ice_pcf.specs.declared.constraint.Constraint.{Constraint}
use Rattle.ice_chip.specs.Database.{Parts, PackageRows}
use Rattle.ice_chip.specs.IsRead.{IsChip}
use Rattle.ice_chip.specs.Lookups.{package_of}
use Rattle.ice_cells.specs.Clusterings.{IsClustering}
use Rattle.ice_cells.specs.Formed.{IsFormed}
use Rattle.ice_cells.specs.Meaning.{HasValues}
use Rattle.ice_cells.specs.declared.design.Design.{Design}
use Rattle.ice_cluster.specs.Orders.{RanksGiveClusterings}
use Rattle.ice_carry_form_laws.specs.FormLaws.{DesignsAreFormed, DesignsHaveValues}
use Rattle.ice_pack_laws.specs.PackLaws.{IsSoundInOrder}
use Rattle.ice_pads.specs.Assign.{PadsData, assigned, assign_of}
use Rattle.ice_pads.specs.Closings.{open_closing}
use Rattle.ice_pads.specs.declared.closing.Closing.{Closing}
use Rattle.ice_pads.specs.Facts.{AssignedPadsFit}
use Rattle.ice_pads.specs.Wants.{wants, buffers}
use Rattle.ice_place.specs.Place.{chunks_of}
use Rattle.ice_sites.specs.Legal.{IsLegal, IsLegalOn}
use Rattle.ice_sites.specs.Stretches.{stretches_of}
use Rattle.ice_base.specs.declared.number.TileAt.{TileAt}
use Rattle.ice_flow_build.specs.Laid.{Task, IsLaidOut, IsOnSites, StandsOn, task_of}
use Rattle.ice_flow_build.specs.declared.answer.Layout.{Layout}

-- where pads are assigned, the package is there
package_there : (parts : Parts) (name : List ℕ) (constraints : List Constraint) (n : NetlistData) (closing : Closing) (d : Design) (pads : PadsData) → assign_of parts name constraints n closing d ≡ Ok pads → (bonded : PackageRows) × (package_of parts name ≡ Some bonded)
package_there parts name constraints n closing d pads said = by (package_of parts name) said
  where
    by : (o : Option PackageRows) → assigned parts constraints n closing (wants d) (buffers d) o ≡ Ok pads → (bonded : PackageRows) × (o ≡ Some bonded)
    by None e = absurd (cc)
    by (Some bonded) e = (bonded, refl)

abbrev pub SitesAreLegal : Type 0
SitesAreLegal = (parts : Parts) → (chunks : List (Option (ℕ × ℕ))) → (at : List TileAt) → IsLegal (stretches_of parts) chunks at → IsLegalOn parts chunks at

pub stands : (parts : Parts) (n : NetlistData) (order : List ℕ) → IsChip parts → IsSoundInOrder n order → DesignsAreFormed → DesignsHaveValues → RanksGiveClusterings → AssignedPadsFit → SitesAreLegal
    → (name : List ℕ) (constraints : List Constraint) (layout : Layout) → IsOnSites (task_of parts name constraints n) layout → StandsOn parts name 0 layout
stands parts n order chip sound formed values ranked fit legal name constraints layout laid =
    let there = package_there parts name constraints n (open_closing n) layout.design layout.pads laid.pads in (
      there.0,
      there.1,
      record {
        formed = subst IsFormed (sym laid.design) (formed n order sound);
        values = subst HasValues (sym laid.design) (values n order sound);
        clusters = subst (IsClustering layout.design) (sym laid.clusters) (ranked layout.ranks layout.design);
        legal = legal parts (chunks_of layout.clusters.list) layout.placement laid.legal;
        «package» = (find_Has (λ (p : PackageRows). bytes_eq p.name name) parts.packages there.0 there.1).0;
        rams = 0;
        pads = fit parts name constraints n (open_closing n) layout.design there.0 layout.pads chip there.1 laid.pads;
      },
      chip,
      refl,
    )

-- a placed design is on sites
pub laid_on_sites : (task : Task) (layout : Layout) → IsLaidOut task layout → IsOnSites task layout
laid_on_sites task layout laid = record { design = laid.design; clusters = laid.clusters; pads = laid.pads; legal = laid.placed.legal }
