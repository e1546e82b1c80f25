use Rattle.std.proofs.Common.{List, Bool, sym, ap, ◌∙◌}
use Rattle.std.specs.Map.{lookup}
use Rattle.std.specs.Prelude.{unwrap_or}
use Rattle.std.proofs.lemmas.List.{at_drop_all}
use Rattle.ice_base.specs.declared.number.TileAt.{TileAt}
use Rattle.ice_chip.specs.Database.{same_tile}
use Rattle.ice_sim_chip_rams.specs.ClosedChips.{no_words, words_of}
use Rattle.ice_sim_chip_rams.proofs.Words.{found, own_words, later_words}
use Rattle.ice_sim_chip_rams.proofs.setups.words_of.Goals as goal

pub loop-content-init : goal.loop-content-init
loop-content-init c = ap (λ (all : List (TileAt × List (List Bool))). unwrap_or (lookup (same_tile c.args.site.lower) all) no_words) (sym c.contents-content-items.ensures)

pub returns-then-is_same : goal.returns-then-is_same
returns-then-is_same c =
    c.in_ok-words.ensures.items
    ∙ c.deref.ensures.value
    ∙ sym (own_words c.args.site.lower no_words (words_of c.args.bits.now c.args.site) c.contents-content-items.result.now c.loop-content.content-index c.content-item.result c.loop-content-test.true
    c.content-item.is (sym c.is_same.ensures ∙ c.if-is_same.true) c.loop-content.invariant)

pub loop-content-preserved : goal.loop-content-preserved
loop-content-preserved c =
    later_words c.args.site.lower no_words (words_of c.args.bits.now c.args.site) c.contents-content-items.result.now c.loop-content.content-index c.content-item.result c.loop-content-test.true
    c.content-item.is (sym c.is_same.ensures ∙ c.if-is_same.false) c.loop-content.invariant

pub returns : goal.returns
returns c =
    c.in_ok-blank.ensures
    ∙ sym (c.loop-content.invariant ∙ at_drop_all (found c.args.site.lower no_words) c.contents-content-items.result.now c.loop-content.content-index c.loop-content-test.false)
