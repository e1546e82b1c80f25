use Rattle.std.proofs.Common.{◌+◌, ◌<◌, length, sym, subst, arith}
use Rattle.std.proofs.lemmas.List.Sorted.{length_permutation}
use Rattle.ice_anneal_board.specs.declared.board.Board.{Board}
use Rattle.ice_anneal_board.specs.Board.{IsBoard, LoweredFrom}
use Rattle.ice_anneal_board.specs.Wiring.{IsWiring}
use Rattle.ice_anneal_board.proofs.Sweeps.{from_more, from_rigid}
use Rattle.ice_anneal_board.proofs.board.Board.sweep_from.Goals as goal
use Rattle.ice_anneal_board.proofs.board.Board.sweep_from.Goals.{then-free-d, else-free-d}

pub attempt-requires-clause-wiring : goal.attempt-requires-clause-wiring
attempt-requires-clause-wiring c =
    subst (λ n. IsWiring n c.args.wiring.now) (sym (length_permutation c.args.self.now.place.items c.loop-d.self.place.items c.loop-d.invariant.lowered.keeps.moved)) c.requires.wiring

pub attempt-requires-clause-c : goal.attempt-requires-clause-c
attempt-requires-clause-c c = let n = length_permutation c.args.self.now.place.items c.loop-d.self.place.items c.loop-d.invariant.lowered.keeps.moved in omega arith

pub attempt-requires-clause-d : goal.attempt-requires-clause-d
attempt-requires-clause-d c = let n = length_permutation c.args.self.now.place.items c.loop-d.self.place.items c.loop-d.invariant.lowered.keeps.moved in omega arith

pub loop-d-preserved : goal.loop-d-preserved
loop-d-preserved c =
    let nets = c.args.wiring.now.nets.items in
    let n = length_permutation c.args.self.now.place.items c.loop-d.self.place.items c.loop-d.invariant.lowered.keeps.moved in
    let lc : c.args.c < length c.loop-d.self.place.items = omega arith in
    let ld : c.loop-d.d < length c.loop-d.self.place.items = omega arith in
    elim c.if-free-d.branch [
      | then-free-d w ↦ record {
        board = subst (λ (b : Board). IsBoard c.args.wiring.now b) (sym w.self-is) w.attempt.ensures.board;
        lowered = subst (λ (b : Board). LoweredFrom nets c.args.free.now c.args.self.now b c.args.c (c.loop-d.d + 1)) (sym w.self-is)
            (from_more nets c.args.free.now c.args.self.now c.loop-d.self w.attempt.new.self c.args.c c.loop-d.d lc ld c.requires.may w.if-free-d.true c.loop-d.invariant.lowered w.attempt.ensures.attempted);
      }
      | else-free-d w ↦ record {
        board = subst (λ (b : Board). IsBoard c.args.wiring.now b) (sym w.self-is) c.loop-d.invariant.board;
        lowered = subst (λ (b : Board). LoweredFrom nets c.args.free.now c.args.self.now b c.args.c (c.loop-d.d + 1)) (sym w.self-is)
            (from_rigid nets c.args.free.now c.args.self.now c.loop-d.self c.args.c c.loop-d.d w.if-free-d.false c.loop-d.invariant.lowered);
      }
    ]
