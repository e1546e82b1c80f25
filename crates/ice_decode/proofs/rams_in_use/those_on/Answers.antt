use Rattle.std.proofs.Common.{filter, ap, ◌∙◌, arith}
use Rattle.std.proofs.lemmas.List.{take_all}
use Rattle.ice_bits.specs.Configuration.{bits_of}
use Rattle.ice_decode.specs.Rams.{is_on}
use Rattle.ice_decode.proofs.RamsOn.{kept_more}
use Rattle.ice_decode.proofs.rams_in_use.those_on.Goals as goal

pub loop-site-preserved : goal.loop-site-preserved
loop-site-preserved c =
    kept_more (is_on c.args.chip.now (bits_of c.args.bits.now)) c.args.all.now c.loop-site.site-index _ c.is_on.result c.loop-site.rams.items c.add_if.new.rams.items c.loop-site-test.true
    c.loop-site.invariant c.is_on.ensures c.in_ok-add_if.ensures

pub returns : goal.returns
returns c =
    c.loop-site.invariant
    ∙ ap (filter (is_on c.args.chip.now (bits_of c.args.bits.now))) (take_all c.loop-site.site-index c.args.all.now (let done = c.loop-site-test.false in omega arith))
