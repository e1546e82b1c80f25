use Rattle.std.proofs.Common.{◌≡◌, ◌+◌, ◌<◌, List, [], ◌∷◌, ◌++◌, ℕ, drop, get_or, length, slice_index, take, sym, ap, arith, ◌∙◌}
use Rattle.std.proofs.lemmas.List.{get_or-drop, take_more}
use Rattle.std.specs.Mem.Slots.{slots_items}
use Rattle.ice_core.proofs.Sums.{read_at}
use Rattle.ice_words.proofs.counts.counts_in.Goals as goal

pub overflow_cast-word : goal.overflow_cast-word
overflow_cast-word c =
    let w = c.loop-wire.wire in
    let e = read_at (slots_items c.args.shut.now.words) (w + 3) c.word.result c.word.ensures in
    omega (arith, e, c.requires.low w c.loop-wire-test.true)

pub loop-wire-preserved : goal.loop-wire-preserved
loop-wire-preserved c =
    let w = c.loop-wire.wire in
    let words = slots_items c.args.shut.now.words in
    let lt : w < length (drop 3 words) = omega (arith, c.loop-wire-test.true, c.requires.wires.1) in
    let same : 3 + w ≡ w + 3 = omega arith in
    let item : c.word.result ≡ get_or (drop 3 words) w 0 = read_at words (w + 3) c.word.result c.word.ensures ∙ sym (get_or-drop 3 words w 0 ∙ ap (λ k. slice_index words k) same) in
    record {
      items = c.push_reserved.ensures.items ∙ (ap (λ (xs : List ℕ). xs ++ c.word.result ∷ []) c.loop-wire.invariant.items ∙ (ap (λ x. take w (drop 3 words) ++ x ∷ []) item ∙ sym (take_more (drop 3 words) w 0 lt)));
      room = omega (arith, c.push_reserved.ensures.capacity, c.loop-wire.invariant.room);
    }
