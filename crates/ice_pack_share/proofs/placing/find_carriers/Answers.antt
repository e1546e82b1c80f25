use Rattle.std.proofs.Common.{List, Option, ℕ, length, replicate, ap, ◌∙◌}
use Rattle.std.specs.List.{enumerate_from}
use Rattle.ice_cells.specs.declared.share.Part.{Part}
use Rattle.ice_cells.specs.Homes.{no_carrier, all_shared}
use Rattle.ice_pack_share.proofs.Openers.{carriers_found}
use Rattle.ice_pack_share.proofs.placing.find_carriers.Goals as goal

pub returns : goal.returns
returns c =
    carriers_found c.args.facts.now c.in_ok-found.found.items c.note_carriers.new.carriers.items
    (c.in_ok-found.ensures ∙ ap (λ (parts : List Part). replicate (length parts) no_carrier) c.parts.ensures)
    (c.note_carriers.ensures ∙ ap (λ (luts : List (Option ℕ)). all_shared c.in_ok-found.found.items (enumerate_from 0 luts)) c.luts.ensures)
