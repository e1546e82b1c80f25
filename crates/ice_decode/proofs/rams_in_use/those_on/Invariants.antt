use Rattle.std.proofs.Common.{◌≡◌, take, filter}
use Rattle.ice_bits.specs.Configuration.{bits_of}
use Rattle.ice_decode.specs.Rams.{is_on}
use Rattle.ice_decode.proofs.rams_in_use.those_on.Given as goal

abbrev pub invariant-loop-site : goal.invariant-loop-site
invariant-loop-site l = l.rams.items ≡ filter (is_on l.chip (bits_of l.bits)) (take l.site-index l.all)
