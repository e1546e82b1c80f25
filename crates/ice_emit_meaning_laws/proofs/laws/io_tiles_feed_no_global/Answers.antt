use Rattle.ice_emit_meaning_laws.proofs.IoFeeds.{fed_by_io}
use Rattle.ice_emit_meaning_laws.proofs.laws.io_tiles_feed_no_global.Goals as goal

pub returns : goal.returns
returns c io = fed_by_io c.args.chip.now c.chip_is_lawful.ensures io
