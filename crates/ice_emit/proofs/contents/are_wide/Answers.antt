use Rattle.std.proofs.Common.{◌≡◌, Bool, List, length, subst}
use Rattle.std.specs.Prelude.{All}
use Rattle.std.proofs.lemmas.List.{take_all}
use Rattle.std.proofs.lemmas.List.Elements.{All-more}
use Rattle.ice_emit.proofs.contents.are_wide.Goals as goal

pub loop-word-preserved : goal.loop-word-preserved
loop-word-preserved c = All-more (λ word. length word ≡ 16) c.args.words.now c.loop-word.word-index _ c.loop-word-test.true c.loop-word.invariant c.is_wide.ensures

pub returns : goal.returns
returns c = subst (λ (words : List (List Bool)). All (λ word. length word ≡ 16) words) (take_all c.loop-word.word-index c.args.words.now c.loop-word-test.false) c.loop-word.invariant
