use Rattle.std.proofs.Common.{◌++◌, Err, sym, subst}
use Rattle.ice_chip_read.specs.declared.fault.ChipStop.TheVariants.{NoMemory}
use Rattle.ice_chip_read_pieces.specs.Held.{said_view}
use Rattle.ice_chip_read_pieces.specs.Stands.{Follows}
use Rattle.ice_chip_read_pieces.proofs.Following.{held_by, follows_out}
use Rattle.ice_chip_read_pieces.proofs.reader.ChipReader.keep.Goals as goal

pub returns-then-is_err : goal.returns-then-is_err
returns-then-is_err c =
    let r = c.self.inside in
    let more = c.args.bytes.now in
    record {
      taken = λ text f.
          subst (λ said. Follows (held_by said r.number c.clear.new.self.items) (text ++ more)) (sym c.stop.ensures)
          (subst (λ rest. Follows (held_by (Err NoMemory) r.number rest) (text ++ more)) (sym c.clear.ensures.items)
          (follows_out (said_view r.said) r.number r.rest.items text more (subst (λ held. Follows held text) (sym c.self.view_is) f) c.requires));
      out = λ e. c.stop.ensures;
    }
