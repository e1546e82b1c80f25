use Rattle.std.proofs.Common.{◌≡◌, ℕ, ◌<◌, ◌≤◌, length, get_or, take, List, ◌⊎◌, sym, refl, ap₂, subst, ◌∙◌, arith}
use Rattle.std.specs.List.{Contains}
use Rattle.std.proofs.lemmas.List.{take_all, length-set, get_or_default}
use Rattle.std.proofs.lemmas.List.Elements.{All-set}
use Rattle.std.proofs.lemmas.List.Sums.{sum_by-set, get_or-le-sum_by}
use Rattle.std.proofs.lemmas.Option.{slice_get_read}
use Rattle.ice_anneal_board.specs.Length.{net_length}
use Rattle.ice_anneal_board.proofs.Boards.{sum_bound, right_more}
use Rattle.ice_anneal_board.proofs.board.Board.measure.Goals as goal

pub overflow_add-self : goal.overflow_add-self
overflow_add-self c =
    let b = sum_bound c.loop-net.self.lengths.items c.loop-net.invariant.bound in
    let e = c.loop-net.invariant.total in
    let l = c.loop-net.invariant.lengths in
    let f = c.requires.wiring.few in
    let v = c.length_of_net-length.ensures.bound in
    omega arith

pub loop-net-preserved : goal.loop-net-preserved
loop-net-preserved c =
    let n = get_or c.args.nets.now c.loop-net.net-index 0 in
    let old = c.loop-net.self.lengths.items in
    let v = c.length_of_net-length.result in
    let i = c.loop-net.invariant in
    let inside : n < length c.args.wiring.now.nets.items = c.requires.nets c.loop-net.net-index 0 c.loop-net-test.true in
    let within : n < length old = (let l = i.lengths in omega arith) in
    let s = sum_by-set (λ x. x) old n v 0 within in
    let le = get_or-le-sum_by (λ x. x) old n 0 within in
    let h0 = c.index in
    let h1 = c.index-in-loop-net in
    let h2 = c.deref-in-loop-net in
    let h3 = c.length_of_net-length in
    record {
      place = i.place;
      lengths = length-set old n v ∙ i.lengths;
      bound = All-set (λ x. x ≤ 131070) old n v h3.ensures.bound i.bound;
      total = (let t = i.total in let r : h1.result.now ≡ get_or old n 0 = h1.ensures ∙ get_or_default old n h1.result.now 0 within in omega arith);
      right = right_more c.args.wiring.now.nets.items c.args.self.now.place.items c.args.nets.now c.loop-net.net-index c.args.self.now.lengths.items old n v h0.result.now
          c.loop-net-test.true refl (slice_get_read c.args.wiring.now.nets.items (length c.args.wiring.now.nets.items) n h0.result.now refl inside h0.ensures)
          (h3.ensures.value ∙ ap₂ (λ p ns. net_length p ns) (c.deref.ensures.value ∙ i.place) h2.ensures.value) within i.right;
    }

pub returns-clause-right : goal.returns-clause-right
returns-clause-right c k net at h =
    let e : take c.loop-net.net-index c.args.nets.now ≡ c.args.nets.now = take_all c.loop-net.net-index c.args.nets.now (omega arith) in
    c.loop-net.invariant.right k net at (subst (λ (l : List ℕ). Contains l k ⊎ (get_or c.args.self.now.lengths.items k 0 ≡ net_length c.args.self.now.place.items net.nodes.items)) (sym e) h)
