use Rattle.std.proofs.Common.{sym, subst}
use Rattle.ice_chip.specs.Answers.{Answers, chip_of}
use Rattle.ice_chip.specs.Database.{Parts}
use Rattle.ice_chip.specs.IsRead.{IsRead}
use Rattle.ice_chip_build.proofs.chip.build.Goals as goal

pub build_named-requires : goal.build_named-requires
build_named-requires c = subst IsRead (sym c.in_ok-named.ensures) c.requires

pub returns : goal.returns
returns c = subst (λ (p : Parts). Answers c.build_named.result (chip_of p)) c.in_ok-named.ensures c.build_named.ensures
