use Rattle.std.proofs.Common.{◌≡◌}
use Rattle.std.specs.List.{list_any}
use Rattle.ice_base.specs.Text.{lines, numbered, begins_with}
use Rattle.ice_tests_netlists.proofs.words.has_heading.Given as goal

abbrev pub invariant-loop-line : goal.invariant-loop-line
invariant-loop-line l =
    (goal.iterator-loop-line).can_next l.line-iterator × (goal.iterator-loop-line).is_finite l.line-iterator
    × (list_any (λ line. begins_with 46 line.1) (numbered 1 (lines l.text)) ≡ list_any (λ line. begins_with 46 line.1) l.line-iterator)
