use Rattle.std.proofs.Common.{◌≡◌, ℕ, ◌<◌, length, get_or, ◌⊎◌, List, sym, refl, subst, ◌∙◌, arith}
use Rattle.std.specs.List.{Contains, swap}
use Rattle.std.proofs.lemmas.Option.{slice_get_read}
use Rattle.ice_base.specs.declared.number.TileAt.{TileAt}
use Rattle.ice_anneal_board.specs.declared.net.NetNodes.{NetNodes}
use Rattle.ice_anneal_board.specs.Length.{net_length}
use Rattle.ice_anneal_board.specs.Wiring.{At}
use Rattle.ice_anneal_board.proofs.Boards.{exchanged}
use Rattle.ice_anneal_board.proofs.board.Board.exchange.Goals as goal

pub returns-clause-board : goal.returns-clause-board
returns-clause-board c =
    let place = c.args.self.now.place.items in
    let nets = c.args.wiring.now.nets.items in
    let lists = c.args.wiring.now.touching.items in
    let sp = swap place c.args.c c.args.d in
    let h3 = c.measure.ensures in
    let h4 = c.measure-2.ensures in
    let e1 : c.swap.new.self.items ≡ sp = c.swap.ensures.items in
    let e2 : c.measure.new.self.place.items ≡ sp = h3.place ∙ e1 in
    let e3 : c.measure-2.new.self.place.items ≡ sp = h4.place ∙ e2 in
    let n = c.requires.wiring.counts in
    let lc : c.args.c < length place = c.requires.c in
    let ld : c.args.d < length place = c.requires.d in
    let first = subst (λ (p : List TileAt). (k : ℕ) (m : NetNodes) → At nets k m → Contains c.index.result.now.nets.items k ⊎ (get_or c.args.self.now.lengths.items k 0 ≡ net_length p m.nodes.items) → get_or c.measure.new.self.lengths.items k 0 ≡ net_length p m.nodes.items) e1
    (subst (λ (ks : List ℕ). (k : ℕ) (m : NetNodes) → At nets k m → Contains ks k ⊎ (get_or c.args.self.now.lengths.items k 0 ≡ net_length c.swap.new.self.items m.nodes.items) → get_or c.measure.new.self.lengths.items k 0 ≡ net_length c.swap.new.self.items m.nodes.items) c.deref.ensures.value h3.right) in
    let second = subst (λ (p : List TileAt). (k : ℕ) (m : NetNodes) → At nets k m → Contains c.index-2.result.now.nets.items k ⊎ (get_or c.measure.new.self.lengths.items k 0 ≡ net_length p m.nodes.items) → get_or c.measure-2.new.self.lengths.items k 0 ≡ net_length p m.nodes.items) e2
    (subst (λ (ks : List ℕ). (k : ℕ) (m : NetNodes) → At nets k m → Contains ks k ⊎ (get_or c.measure.new.self.lengths.items k 0 ≡ net_length c.measure.new.self.place.items m.nodes.items) → get_or c.measure-2.new.self.lengths.items k 0 ≡ net_length c.measure.new.self.place.items m.nodes.items) c.deref-2.ensures.value h4.right) in
    record {
      counts = h4.lengths;
      bound = h4.bound;
      total = h4.total;
      right = subst (λ (p : List TileAt). (k : ℕ) (m : NetNodes) → At nets k m → get_or c.measure-2.new.self.lengths.items k 0 ≡ net_length p m.nodes.items) (sym e3)
          (exchanged c.args.wiring.now place c.args.c c.args.d c.index.result.now c.index-2.result.now c.args.self.now.lengths.items c.measure.new.self.lengths.items c.measure-2.new.self.lengths.items lc ld
          (slice_get_read lists (length lists) c.args.c c.index.result.now refl (omega arith) c.index.ensures)
          (slice_get_read lists (length lists) c.args.d c.index-2.result.now refl (omega arith) c.index-2.ensures)
          c.requires.wiring c.requires.board.right first second);
    }
