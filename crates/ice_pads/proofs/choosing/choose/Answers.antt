use Rattle.ice_pads.proofs.Fits.{passed_still}
use Rattle.ice_pads.proofs.choosing.choose.Goals as goal

pub returns-clause-done : goal.returns-clause-done
returns-clause-done c = record {
  taken = c.in_ok-push.ensures.taken;
  passed = passed_still c.args.chip.now c.args.pads.now c.args.tables.now.given.items c.args.progress.now.chosen.items c.push.new.self.chosen.items _ c.args.progress.now.starts c.push.new.self.starts
      c.in_ok-push.ensures.added c.in_ok-push.ensures.starts c.requires.done.passed;
}
