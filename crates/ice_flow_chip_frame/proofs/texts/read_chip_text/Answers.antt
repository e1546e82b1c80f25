use Rattle.std.proofs.Common.{[]}
use Rattle.ice_desk.specs.declared.whole.ReadStop.TheVariants.{TooLong}
use Rattle.ice_flow_frame.specs.Reading.{most_bytes}
use Rattle.ice_flow_chip_frame.proofs.Places.{within}
use Rattle.ice_flow_chip_frame.proofs.texts.read_chip_text.Goals as goal

pub returns-in-Ok-clause-text : goal.returns-in-Ok-clause-text
returns-in-Ok-clause-text g c =
    let D = g.D.Desk in
    let e = c.in-Ok.ensures in
    record {
      chip_text = e.taken.0;
      stands = e.taken.2 [] c.requires.empty;
      is_text = e.taken.1.whole;
      fits = within c.in-Ok.field-0 (TooLong most_bytes) (D.seen c.read_pieces.new.desk) e.taken.0 e.taken.1.given e.too_long;
    }
