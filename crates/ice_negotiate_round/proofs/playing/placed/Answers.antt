use Rattle.std.proofs.Common.{◌≡◌, List, length, sym, subst, arith, ◌∙◌}
use Rattle.std.specs.Vec.{with_items}
use Rattle.std.proofs.lemmas.List.{with_items_is}
use Rattle.ice_graph.specs.declared.tree.Tree.{Tree}
use Rattle.ice_negotiate_round.specs.Played.{AreTrees, made_in}
use Rattle.ice_negotiate_round.proofs.PlacingTrees.{covered, covers_first}
use Rattle.ice_negotiate_round.proofs.playing.placed.Goals as goal

pub returns-clause-trees : goal.returns-clause-trees
returns-clause-trees c = λ wanted.
    let graph = c.args.graph.now in
    let r = c.args.prices.now in
    let tasks = c.args.tasks.now in
    let items : (with_items c.in_ok-news.news c.place_all.new.news).items ≡ c.place_all.new.news = with_items_is c.in_ok-news.news c.place_all.new.news (c.place_all.auto.news ∙ c.deref_mut.ensures.len) in
    let many : length c.deref_mut.result.now ≡ length tasks = omega (arith, c.deref_mut.ensures.len, c.in_ok-news.ensures, c.in_ok-news.news.ok) in
    let covers = c.in_ok-kits.ensures.covers (covers_first graph r tasks c.deref_mut.result.now (λ t. made_in t c.args.dones.items) many wanted) in
    subst (λ (news : List Tree). AreTrees graph r tasks news) (sym items) (covered graph r tasks c.place_all.new.news (c.place_all.auto.news ∙ many) covers)
