use Rattle.std.proofs.Common.{◌≡◌, ◌∷◌, ◌++◌, [], false, replicate, ap, ◌∙◌, arith}
use Rattle.std.proofs.lemmas.List.{replicate_more}
use Rattle.ice_sim_chip_rams.specs.ClosedChips.{no_words}
use Rattle.ice_sim_chip_rams.proofs.setups.no_words.Goals as goal

pub loop-word-preserved : goal.loop-word-preserved
loop-word-preserved c =
    c.in_ok-push.ensures.items ∙ ap (λ words. words ++ replicate 16 false ∷ []) c.loop-word.invariant ∙ replicate_more c.loop-word._word (replicate 16 false)

pub returns : goal.returns
unfolding no_words
returns c =
    let all : c.loop-word._word ≡ 256 = omega (arith, c.loop-word-test.false, c.loop-word.auto._word-end) in
    c.loop-word.invariant ∙ ap (λ n. replicate n (replicate 16 false)) all
