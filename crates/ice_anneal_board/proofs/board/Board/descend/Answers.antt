use Rattle.std.proofs.Common.{sym, subst, ◌∙◌, arith}
use Rattle.std.proofs.lemmas.List.Sorted.{length_permutation}
use Rattle.ice_anneal_board.specs.Wiring.{IsWiring}
use Rattle.ice_anneal_board.proofs.Sweeps.{keeps_trans}
use Rattle.ice_anneal_board.proofs.board.Board.descend.Goals as goal

pub sweep-requires-in-loop-self-clause-wiring : goal.sweep-requires-in-loop-self-clause-wiring
sweep-requires-in-loop-self-clause-wiring c =
    subst (λ n. IsWiring n c.args.wiring.now) (sym (length_permutation c.args.self.now.place.items c.loop-self.self.place.items c.loop-self.invariant.keeps.moved)) c.requires.wiring

pub sweep-requires-in-loop-self-clause-free : goal.sweep-requires-in-loop-self-clause-free
sweep-requires-in-loop-self-clause-free c = c.requires.free ∙ sym (length_permutation c.args.self.now.place.items c.loop-self.self.place.items c.loop-self.invariant.keeps.moved)

pub loop-self-preserved : goal.loop-self-preserved
loop-self-preserved c =
    let s = c.sweep-in-loop-self.ensures.lowered in
    let i = c.loop-self.invariant in
    record {
      board = c.sweep-in-loop-self.ensures.board;
      keeps = keeps_trans c.args.free.now c.args.self.now.place.items c.loop-self.self.place.items c.sweep-in-loop-self.new.self.place.items i.keeps s.keeps;
      falls = (let a = s.falls in let b = i.falls in omega arith);
      below = s.falls;
      least = λ e. (s.least e).1;
    }
