use Rattle.std.specs.Vec.Iter.{into_iter_items, into_iter_len}
use Rattle.ice_ram_read.proofs.Starts.{started_more, started_all, long_more, left_none}
use Rattle.ice_ram_read.proofs.closed.started.Goals as goal

pub loop-text-preserved : goal.loop-text-preserved
loop-text-preserved c =
    let loop = c.loop-text in
    let left = into_iter_items loop.text-iterator in
    let rest = into_iter_items c.next.new.self in
    record {
      said = started_more c.args.texts.items left rest c.in-Some.text loop.rams.items c.push.new.self.items c.into_ram.result loop.invariant.said c.in-Some.ensures.steps.0 c.into_ram.ensures c.in_ok-push.ensures.items;
      long = long_more left rest c.in-Some.text (into_iter_len loop.text-iterator) (into_iter_len c.next.new.self) c.in-Some.ensures.steps.0 c.in-Some.ensures.steps.1 loop.invariant.long;
    }

pub returns : goal.returns
returns c =
    started_all c.args.texts.items (into_iter_items c.loop-text.text-iterator) c.loop-text.rams.items c.loop-text.invariant.said
    (left_none (into_iter_items c.loop-text.text-iterator) (into_iter_len c.loop-text.text-iterator) c.in-None.ensures.steps.0 c.loop-text.invariant.long)
