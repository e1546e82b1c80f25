use Rattle.std.proofs.Common.{[], ◌∷◌, ◌++◌, sym, ap, subst, ◌∙◌, append_assoc}
use Rattle.std.proofs.lemmas.Result.{IfOk-weaker}
use Rattle.ice_desk_pieces.specs.Taken.{TakesMore}
use Rattle.ice_chip_read_pieces.specs.Stands.{Follows, StandsFor, IsSpent}
use Rattle.ice_chip_read_pieces.proofs.reader.ChipReader.feed.Goals as goal

pub loop-behind-preserved : goal.loop-behind-preserved
loop-behind-preserved c =
    let i = c.loop-behind.invariant in
    let step = c.in-Some.ensures.taken in
    record {
      taken = i.taken ++ (step.line ++ 10 ∷ []);
      whole = i.whole ∙ ap (λ t. i.taken ++ t) (step.whole ∙ sym (append_assoc step.line (10 ∷ []) c.in-Some.behind.now)) ∙ sym (append_assoc i.taken (step.line ++ 10 ∷ []) c.in-Some.behind.now);
      more = λ text f. subst (Follows c.take_line.new.self) (append_assoc text i.taken (step.line ++ 10 ∷ [])) (step.more (text ++ i.taken) (i.more text f));
      out = λ e. c.take_line.ensures.out (i.out e);
    }

pub returns-clause-taken : goal.returns-clause-taken
returns-clause-taken c =
    let i = c.loop-behind.invariant in
    let left = c.loop-behind.left.now in
    let same = c.in_default.ensures.same.0 in
    IfOk-weaker c.has_memory.result (λ _. IsSpent c.keep.new.self → ⊥) (λ _. TakesMore (StandsFor c.args.self.now) (StandsFor c.keep.new.self) c.args.piece.now)
    (λ _ going text stands.
    let whole = append_assoc text i.taken left ∙ ap (λ t. text ++ t) (sym i.whole) in
    let follows = subst (λ held. Follows held (text ++ i.taken)) (sym same) (i.more text stands.0) in
    (subst (Follows c.keep.new.self) whole (c.keep.ensures.taken (text ++ i.taken) follows), going))
    c.has_memory.ensures.ok

pub returns-clause-failed : goal.returns-clause-failed
returns-clause-failed c = c.has_memory.ensures.err
