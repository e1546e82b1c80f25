use Rattle.std.proofs.Common.{◌++◌, List, sym, ap, ◌∙◌, append-nil}
use Rattle.std.specs.List.{flat_map}
use Rattle.std.proofs.lemmas.List.{at_drop_all}
use Rattle.ice_chip.specs.declared.rows.Pad.{Pad}
use Rattle.ice_chip_rams.specs.Sites.{ram_pins}
use Rattle.ice_chip_rams.specs.declared.ram_site.RamSite.{RamSite}
use Rattle.ice_chip_sockets.proofs.PinLists.{pins_more}
use Rattle.ice_chip_sockets.proofs.pins.add_pins.Goals as goal

pub loop-site-preserved : goal.loop-site-preserved
loop-site-preserved c =
    pins_more c.args.sites.now c.loop-site.site-index _ (c.args.pins.now.items ++ flat_map ram_pins c.args.sites.now) c.loop-site.pins.items c.add_own.new.pins.items c.loop-site-test.true c.loop-site.invariant
    c.in_ok-add_own.ensures

pub returns : goal.returns
returns c =
    sym (append-nil c.loop-site.pins.items)
    ∙ sym (c.loop-site.invariant
    ∙ ap (λ (pins : List Pad). c.loop-site.pins.items ++ pins) (at_drop_all (λ (ss : List RamSite). flat_map ram_pins ss) c.args.sites.now c.loop-site.site-index c.loop-site-test.false))
