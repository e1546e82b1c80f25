use Rattle.ice_anneal_board.specs.Board.{IsBoard, Lowered}
use Rattle.ice_anneal_board.proofs.board.Board.sweep.Given as goal

abbrev pub invariant-loop-c : goal.invariant-loop-c
invariant-loop-c l = record { board : IsBoard l.wiring l.self; lowered : Lowered l.wiring.nets.items l.free l.fn.self l.self l.c }
