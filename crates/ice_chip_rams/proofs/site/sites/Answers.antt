use Rattle.std.proofs.Common.{◌++◌, List, sym, ap, ◌∙◌}
use Rattle.std.proofs.lemmas.List.{append-nil, at_drop_all}
use Rattle.ice_chip.specs.declared.tile.Tile.{Tile}
use Rattle.ice_chip_rams.specs.Tiles.{sites_among}
use Rattle.ice_chip_rams.proofs.SitesAmong.{among_all, among_more}
use Rattle.ice_chip_rams.proofs.site.sites.Goals as goal

pub loop-tile-preserved : goal.loop-tile-preserved
loop-tile-preserved c =
    among_more c.args.chip.now c.tiles-tile-items.result.now c.loop-tile.tile-index _ c.site_at.result (sites_among c.args.chip.now c.tiles-tile-items.result.now) c.loop-tile.sites.items
    c.add_site.new.sites.items c.loop-tile-test.true c.loop-tile.invariant c.site_at.ensures c.in_ok-add_site.ensures

pub returns : goal.returns
returns c =
    sym (append-nil c.loop-tile.sites.items)
    ∙ ap (λ found. c.loop-tile.sites.items ++ found)
    (sym (at_drop_all (λ (tiles : List Tile). sites_among c.args.chip.now tiles) c.tiles-tile-items.result.now c.loop-tile.tile-index c.loop-tile-test.false))
    ∙ sym c.loop-tile.invariant
    ∙ ap (sites_among c.args.chip.now) c.tiles-tile-items.ensures
    ∙ among_all c.args.chip.now c.args.chip.now.tiles
