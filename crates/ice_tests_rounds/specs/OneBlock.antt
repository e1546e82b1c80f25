-- A hand on the histories of three wires, before and behind a raising of one of them.
use Rattle.std.specs.Prelude.{◌≡◌, ℕ, List, [], ◌∷◌}
use Rattle.ice_words_histories.specs.declared.view.HistoryView.{HistoryView}

abbrev pub three_histories : List ℕ
three_histories = 0 ∷ 5 ∷ 7 ∷ []

-- the hand is as before, but for what it did
pub record HasRaised (old new : HistoryView) : Type 0 where
  pub histories : new.histories ≡ old.histories
  pub main : new.main ≡ old.main
  pub worker : new.worker ≡ old.worker
  pub out : new.out ≡ old.out
