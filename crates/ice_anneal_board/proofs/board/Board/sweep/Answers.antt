use Rattle.std.proofs.Common.{◌+◌, sym, subst, ◌∙◌}
use Rattle.std.proofs.lemmas.List.Sorted.{length_permutation}
use Rattle.ice_anneal_board.specs.declared.board.Board.{Board}
use Rattle.ice_anneal_board.specs.Board.{IsBoard, Lowered}
use Rattle.ice_anneal_board.specs.Wiring.{IsWiring}
use Rattle.ice_anneal_board.proofs.Sweeps.{all_more, all_rigid}
use Rattle.ice_anneal_board.proofs.board.Board.sweep.Goals as goal
use Rattle.ice_anneal_board.proofs.board.Board.sweep.Goals.{then-free-c, else-free-c}

pub sweep_from-requires-clause-wiring : goal.sweep_from-requires-clause-wiring
sweep_from-requires-clause-wiring c =
    subst (λ n. IsWiring n c.args.wiring.now) (sym (length_permutation c.args.self.now.place.items c.loop-c.self.place.items c.loop-c.invariant.lowered.keeps.moved)) c.requires.wiring

pub sweep_from-requires-clause-free : goal.sweep_from-requires-clause-free
sweep_from-requires-clause-free c = c.requires.free ∙ sym (length_permutation c.args.self.now.place.items c.loop-c.self.place.items c.loop-c.invariant.lowered.keeps.moved)

pub loop-c-preserved : goal.loop-c-preserved
loop-c-preserved c =
    let nets = c.args.wiring.now.nets.items in
    elim c.if-free-c.branch [
      | then-free-c w ↦ record {
        board = subst (λ (b : Board). IsBoard c.args.wiring.now b) (sym w.self-is) w.sweep_from.ensures.board;
        lowered = subst (λ (b : Board). Lowered nets c.args.free.now c.args.self.now b (c.loop-c.c + 1)) (sym w.self-is)
            (all_more nets c.args.free.now c.args.self.now c.loop-c.self w.sweep_from.new.self c.loop-c.c c.loop-c.invariant.lowered w.sweep_from.ensures.lowered);
      }
      | else-free-c w ↦ record {
        board = subst (λ (b : Board). IsBoard c.args.wiring.now b) (sym w.self-is) c.loop-c.invariant.board;
        lowered = subst (λ (b : Board). Lowered nets c.args.free.now c.args.self.now b (c.loop-c.c + 1)) (sym w.self-is)
            (all_rigid nets c.args.free.now c.args.self.now c.loop-c.self c.loop-c.c w.if-free-c.false c.loop-c.invariant.lowered);
      }
    ]
