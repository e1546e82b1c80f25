use Rattle.std.proofs.Common.{◌≡◌, ℕ, ◌++◌, List, OnOk, ap, ◌∙◌, subst}
use Rattle.ice_base.specs.declared.number.TileAt.{TileAt}
use Rattle.ice_base.specs.Lines.{text_of_lines}
use Rattle.ice_sample.specs.declared.grid.Tile.{Tile}
use Rattle.ice_sample.specs.declared.pads.Pad.{Pad}
use Rattle.ice_sample.specs.Sections.{io_places, logic_places, pads_at}
use Rattle.ice_sample.specs.Chip.{sections_of}
use Rattle.ice_sample.proofs.chip.put_layout.Goals as goal

-- sections of equal lists are equal
same_sections : (w h : ℕ) (io io' : List TileAt) (pads pads' : List Pad) (logic logic' : List TileAt) (ts : List Tile) → io ≡ io' → pads ≡ pads' → logic ≡ logic'
    → sections_of w h io pads logic ts ≡ sections_of w h io' pads' logic' ts
same_sections w h io io' pads pads' logic logic' ts e f g =
    ap (λ x. sections_of w h x pads logic ts) e ∙ ap (λ x. sections_of w h io' x logic ts) f ∙ ap (λ x. sections_of w h io' pads' x ts) g

pub returns : goal.returns
returns c =
    let g = c.args.grid.now in
    let ts = g.tiles.items in
    let io_is : c.in_ok-io.io.items ≡ io_places ts = c.in_ok-io.ensures ∙ ap io_places c.deref.ensures.value in
    let pads_are : c.in_ok-pads.pads.items ≡ pads_at (io_places ts) = c.in_ok-pads.ensures ∙ ap pads_at (c.deref-2.ensures.value ∙ io_is) in
    let logic_is : c.in_ok-logic.logic.items ≡ logic_places ts = c.in_ok-logic.ensures ∙ ap logic_places c.deref-3.ensures.value in
    subst (λ lines. OnOk c.put_sections.result (c.put_sections.new.text.items ≡ c.args.text.now.items ++ text_of_lines lines))
    (same_sections g.width g.height _ _ _ _ _ _ ts (c.deref-4.ensures.value ∙ io_is) (c.deref-5.ensures.value ∙ pads_are) (c.deref-6.ensures.value ∙ logic_is))
    c.put_sections.ensures
