use Rattle.std.proofs.Common.{◌≡◌, IfNone, IfSome, subst}
use Rattle.ice_base.specs.Lines.{IsLine}
use Rattle.ice_chip_read_pieces.specs.Stands.{IsStep}
use Rattle.ice_chip_read_pieces.proofs.reader.ChipReader.take_line.Goals as goal

pub returns-in-None-clause-taken : goal.returns-in-None-clause-taken
returns-in-None-clause-taken c =
    subst (λ held. IfSome c.take_whole.result (λ rest. IsStep held c.take_whole.new.self c.args.bytes.now rest.now)) c.in-None.ensures.same c.take_whole.ensures.taken

pub returns-in-None-clause-same : goal.returns-in-None-clause-same
returns-in-None-clause-same c =
    subst (λ held. IfNone c.take_whole.result ((c.take_whole.new.self ≡ held) × IsLine c.args.bytes.now)) c.in-None.ensures.same c.take_whole.ensures.same
