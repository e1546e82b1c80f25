use Rattle.std.proofs.Common.{◌≡◌, IfOk, sym, subst, ap, ◌∙◌}
use Rattle.ice_chip.specs.Database.{Parts}
use Rattle.ice_chip.specs.IsRead.{IsRead}
use Rattle.ice_chip.specs.Whole.{whole_fault}
use Rattle.ice_chip.proofs.chip.Chip.new.Goals as goal

pub indexed-requires-clause-read : goal.indexed-requires-clause-read
indexed-requires-clause-read c = subst IsRead (sym c.into_parts-parts.ensures.rows) c.requires.read

pub indexed-requires-clause-faultless : goal.indexed-requires-clause-faultless
indexed-requires-clause-faultless c = ap whole_fault c.into_parts-parts.ensures.rows ∙ c.requires.faultless

pub returns : goal.returns
returns c = subst (λ (parts : Parts). IfOk c.indexed.result (λ chip. chip ≡ parts)) c.into_parts-parts.ensures.rows c.indexed.ensures
