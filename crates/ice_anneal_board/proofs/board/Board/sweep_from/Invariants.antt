use Rattle.ice_anneal_board.specs.Board.{IsBoard, LoweredFrom}
use Rattle.ice_anneal_board.proofs.board.Board.sweep_from.Given as goal

abbrev pub invariant-loop-d : goal.invariant-loop-d
invariant-loop-d l = record { board : IsBoard l.wiring l.self; lowered : LoweredFrom l.wiring.nets.items l.free l.fn.self l.self l.c l.d }
