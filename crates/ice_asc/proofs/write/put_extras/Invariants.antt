use Rattle.std.proofs.Common.{◌≡◌, ◌++◌, map, take, All}
use Rattle.ice_base.specs.Lines.{text_of_lines}
use Rattle.ice_asc.specs.RoundTrip.{IsSmall}
use Rattle.ice_asc.specs.Text.{extra_line}
use Rattle.ice_asc.proofs.write.put_extras.Given as goal

abbrev pub invariant-loop-extra : goal.invariant-loop-extra
invariant-loop-extra l = record {
  written : l.out.items ≡ l.fn.out.items ++ text_of_lines (map extra_line (take l.extra-index l.extras));
  small : All IsSmall (take l.extra-index l.extras);
}
