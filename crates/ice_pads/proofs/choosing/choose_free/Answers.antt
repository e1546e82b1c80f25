use Rattle.std.proofs.Common.{◌<◌, length, set, ap, ◌∙◌, rules}
use Rattle.ice_pads.specs.Tables.{kind_of}
use Rattle.ice_pads.proofs.Fits.{passed_after}
use Rattle.ice_pads.proofs.choosing.choose_free.Goals as goal

pub returns-clause-done : goal.returns-clause-done
returns-clause-done c =
    let within : kind_of c.args.want < length c.args.progress.now.starts = search rules in
    record {
      taken = c.in_ok-push.ensures.taken;
      passed = passed_after c.args.chip.now c.args.pads.now c.args.tables.now.given.items c.args.progress.now.chosen.items c.push.new.self.chosen.items _ c.args.progress.now.starts c.push.new.self.starts
          c.args.want c.in-Some.place c.in_ok-push.ensures.added
          (c.in_ok-push.ensures.starts ∙ ap (λ k. set c.args.progress.now.starts k c.in-Some.place) c.kind_of.ensures.value)
          c.requires.done.passed within c.in-Some.ensures.passed.1;
    }
