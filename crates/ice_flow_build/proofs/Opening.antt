-- What the opening leaves of nets, where it is asked for and where it is not.
use Rattle.std.proofs.Common.{Bool, true, false, List, None, Some, if◌then◌else◌}
use Rattle.std.specs.Bool.{OnTrue}
use Rattle.ice_core.specs.declared.net.Net.{Net}
use Rattle.ice_graph.specs.Network.{Network}
use Rattle.ice_negotiate_defs.specs.Fitting.{Fits, wholes}
use Rattle.ice_negotiate_defs.specs.Leading.{OpeningLeads}
use Rattle.ice_negotiate_defs.specs.declared.kept.Kept.{Kept}
use Rattle.ice_negotiate_defs.proofs.Fitting.{fits_lead}
use Rattle.ice_flow_build.specs.Answers.{opening_in}
use Rattle.ice_flow_build.specs.declared.answer.Effort.{Effort}

-- rounds may begin from it
pub opening_leads : (graph : Network) (nets : List Net) (effort : Effort) (kept : List Kept) → OnTrue effort.opening (Fits graph nets kept) → OpeningLeads graph nets (opening_in effort kept)
opening_leads graph nets effort kept fits = by effort.opening fits
  where
    by : (asked : Bool) → OnTrue asked (Fits graph nets kept) → OpeningLeads graph nets (if asked then Some (wholes kept) else None)
    by true is = fits_lead graph nets kept is
    by false is = tt
