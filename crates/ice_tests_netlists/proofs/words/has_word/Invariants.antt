use Rattle.std.proofs.Common.{◌≡◌, bytes_eq}
use Rattle.std.specs.List.{list_any}
use Rattle.ice_base.specs.Text.{words}
use Rattle.ice_tests_netlists.proofs.words.has_word.Given as goal

abbrev pub invariant-loop-found : goal.invariant-loop-found
invariant-loop-found l =
    (goal.iterator-loop-found).can_next l.found-iterator × (goal.iterator-loop-found).is_finite l.found-iterator
    × (list_any (bytes_eq l.word) (words l.text) ≡ list_any (bytes_eq l.word) l.found-iterator)
