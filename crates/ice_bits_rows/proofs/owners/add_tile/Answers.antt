use Rattle.std.proofs.Common.{◌≡◌, [], ◌∷◌, ◌++◌, cond, sym, ap, subst, ◌∙◌}
use Rattle.ice_bits_rows.specs.Owners.{items_of, owner_among, AreEven}
use Rattle.ice_bits_rows.proofs.Blocks.{even_more, items_push, same_among}
use Rattle.ice_bits_rows.proofs.owners.add_tile.Goals as goal

pub returns-clause-tiles : goal.returns-clause-tiles
returns-clause-tiles c =
    c.in_ok-insert.ensures.keys
    ∙ ap (λ there. cond there c.args.owners.now.tiles.keys (c.args.owners.now.tiles.keys ++ c.args.tile ∷ [])) c.requires.absent

pub returns-clause-even : goal.returns-clause-even
returns-clause-even c =
    let tiles = c.args.owners.now.tiles.keys in
    let more : c.insert.new.self.keys ≡ tiles ++ c.args.tile ∷ [] =
    c.in_ok-insert.ensures.keys ∙ ap (λ there. cond there tiles (tiles ++ c.args.tile ∷ [])) c.requires.absent in
    let blocks : items_of c.push.new.self.items ≡ items_of c.args.owners.now.blocks.items ++ c.in_ok-block.block.items ∷ [] =
    items_push c.args.owners.now.blocks.items c.in_ok-block.block c.push.new.self.items c.in_ok-push.ensures.items in
    subst (λ ts. AreEven ts (items_of c.push.new.self.items)) (sym more)
    (subst (λ bs. AreEven (tiles ++ c.args.tile ∷ []) bs) (sym blocks)
    (even_more tiles (items_of c.args.owners.now.blocks.items) c.args.tile c.in_ok-block.block.items c.requires.even c.in_ok-block.ensures.long))

pub returns-clause-same : goal.returns-clause-same
returns-clause-same c = λ t b.
    let tiles = c.args.owners.now.tiles.keys in
    let more : c.insert.new.self.keys ≡ tiles ++ c.args.tile ∷ [] =
    c.in_ok-insert.ensures.keys ∙ ap (λ there. cond there tiles (tiles ++ c.args.tile ∷ [])) c.requires.absent in
    let blocks : items_of c.push.new.self.items ≡ items_of c.args.owners.now.blocks.items ++ c.in_ok-block.block.items ∷ [] =
    items_push c.args.owners.now.blocks.items c.in_ok-block.block c.push.new.self.items c.in_ok-push.ensures.items in
    ap (λ ts. owner_among ts (items_of c.push.new.self.items) t b) more
    ∙ ap (λ bs. owner_among (tiles ++ c.args.tile ∷ []) bs t b) blocks
    ∙ same_among tiles (items_of c.args.owners.now.blocks.items) c.args.tile c.in_ok-block.block.items t b c.requires.even.count c.in_ok-block.ensures.none
