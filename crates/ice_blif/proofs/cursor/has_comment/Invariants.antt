use Rattle.std.proofs.Common.{◌≡◌}
use Rattle.std.specs.List.{list_any}
use Rattle.ice_base.specs.Text.{words, begins_with}
use Rattle.ice_blif.proofs.cursor.has_comment.Given as goal

abbrev pub invariant-loop-word : goal.invariant-loop-word
invariant-loop-word l =
    (goal.iterator-loop-word).can_next l.word-iterator × (goal.iterator-loop-word).is_finite l.word-iterator
    × (list_any (begins_with 35) (words l.line) ≡ list_any (begins_with 35) l.word-iterator)
