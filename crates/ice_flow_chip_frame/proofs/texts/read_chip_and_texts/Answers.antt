use Rattle.ice_flow_frame.specs.Texts.{files_view}
use Rattle.ice_flow_frame.proofs.TextFacts.{still_permitted}
use Rattle.ice_flow_chip_frame.specs.ChipFiles.{chip_file}
use Rattle.ice_flow_chip_frame.proofs.Places.{read_behind, chip_behind, unread_first, unread_further}
use Rattle.ice_flow_chip_frame.proofs.texts.read_chip_and_texts.Goals as goal

pub read_texts-requires : goal.read_texts-requires
read_texts-requires g c =
    let D = g.D.Desk in
    still_permitted (D.may_read c.args.desk.now) (D.may_read c.read_chip_text.new.desk) (files_view c.args.files.now) c.in-Ok.ensures.names_read c.requires.files

pub returns-in-Ok-read_texts-clause-texts : goal.returns-in-Ok-read_texts-clause-texts
returns-in-Ok-read_texts-clause-texts g c =
    let D = g.D.Desk in
    read_behind c.args.chip.now (files_view c.args.files.now) (D.seen c.args.desk.now) (D.seen c.read_chip_text.new.desk) c.read_chip_text.new.reader c.in-Ok-read_texts.texts
    c.in-Ok.ensures.same c.in-Ok.ensures.text c.in-Ok-read_texts.ensures.texts

pub returns-in-Err-read_texts-clause-stop : goal.returns-in-Err-read_texts-clause-stop
returns-in-Err-read_texts-clause-stop g c =
    let D = g.D.Desk in
    let old = D.seen c.args.desk.now in
    let mid = D.seen c.read_chip_text.new.desk in
    let e = c.in-Ok.ensures in
    unread_further (chip_file c.args.chip.now) (files_view c.args.files.now) e.text.chip_text old mid (D.seen c.read_texts.new.desk) c.in-Err-read_texts.cause
    (chip_behind c.args.chip.now old mid c.read_chip_text.new.reader e.text e.same e.begun) c.in-Err-read_texts.ensures.stop

pub returns-in-Err-clause-stop : goal.returns-in-Err-clause-stop
returns-in-Err-clause-stop g c =
    let D = g.D.Desk in
    let e = c.in-Err.ensures in
    unread_first (chip_file c.args.chip.now) (files_view c.args.files.now) (D.seen c.args.desk.now) (D.seen c.read_chip_text.new.desk) c.in-Err.cause e.same e.begun e.stop
