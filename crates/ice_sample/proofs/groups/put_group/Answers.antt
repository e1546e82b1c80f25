use Rattle.ice_sample.specs.Groups.{SampleGroup, group_heading, source_rows}
use Rattle.ice_sample.proofs.Numbering.{further_on_ok, head_join}
use Rattle.ice_sample.proofs.groups.put_group.Goals as goal

pub returns : goal.returns
returns c =
    let group : SampleGroup = record { target = c.args.target; size = c.args.size; sources = c.args.sources.now } in
    further_on_ok c.put_sources.result _ _ c.put_sources.new.text.items _ _ _ c.in_ok-put_group_heading.ensures c.put_sources.ensures
    (head_join (group_heading c.args.tile.kind c.args.tile.at c.args.bit group) (source_rows c.args.size 1 c.args.sources.now))
