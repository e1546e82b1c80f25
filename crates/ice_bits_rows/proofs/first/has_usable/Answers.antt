use Rattle.std.proofs.Common.{◌≡◌, ◌+◌, List, length, map, sym, ◌∙◌, arith, rules}
use Rattle.std.proofs.lemmas.List.{at_drop_all}
use Rattle.ice_chip.specs.Views.{row_view, group_view}
use Rattle.ice_chip.specs.declared.sections.Row.{Row}
use Rattle.ice_bits_rows.specs.FirstSound.{some_usable}
use Rattle.ice_bits_rows.proofs.first.has_usable.Goals as goal

pub returns : goal.returns
returns c =
    let count : c.len-k-end.result ≡ length c.args.group.now.rows.items = search rules in
    sym (c.loop-k.invariant
    ∙ at_drop_all (λ (rs : List Row). some_usable c.args.index.now.chip.now c.args.source.0 (group_view c.args.group.now) (c.args.group.now.first.0 + c.loop-k.k) (map row_view rs))
    c.args.group.now.rows.items c.loop-k.k (omega (arith, count, c.loop-k-test.false)))
