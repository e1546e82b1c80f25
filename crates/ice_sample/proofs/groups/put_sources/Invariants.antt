use Rattle.std.proofs.Common.{◌≡◌, ◌+◌, ◌++◌, take}
use Rattle.ice_base.specs.Lines.{text_of_lines}
use Rattle.ice_sample.specs.Groups.{source_rows}
use Rattle.ice_sample.proofs.groups.put_sources.Given as goal

abbrev pub invariant-loop-source : goal.invariant-loop-source
invariant-loop-source l = record {
  counted : l.value ≡ 1 + l.source-index;
  written : l.text.items ≡ l.fn.text.items ++ text_of_lines (source_rows l.size 1 (take l.source-index l.sources));
}
