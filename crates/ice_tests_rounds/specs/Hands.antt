-- Hands before and after their work.
use Rattle.std.specs.Prelude.{◌≡◌}
use Rattle.ice_words.specs.Grips.{Board, Grip, IsHandOf}
use Rattle.ice_worker.specs.Kits.{IsFresh}

-- a hand of these words that has done nothing
pub record IsFreshOf (board : Board) (hand : Grip) : Type 0 where
  pub of : IsHandOf board hand
  pub fresh : IsFresh hand.view

-- the hand has worked, and has nothing left to post
pub record HasWorked (board : Board) (old new : Grip) : Type 0 where
  pub of : IsHandOf board new
  pub main : new.view.main ≡ old.view.main
  pub worker : new.view.worker ≡ old.view.worker
  pub out : new.view.out ≡ old.view.out
  pub up : new.view.up ≡ 0
  pub down : new.view.down ≡ 0
