use Rattle.std.proofs.Common.{true, false, List, ◌++◌, ℕ, take, drop, get_or, refl, sym, subst, suc, ◌+◌}
use Rattle.ice_desk.proofs.Desks.{same_test_trans}
use Rattle.ice_flow_frame.specs.Causes.{after_blank, spaced}
use Rattle.ice_desk.specs.Said.{IsSaid}
use Rattle.ice_desk.proofs.Saying.{saying_trans, said_both, cut_first, whole, cut}
use Rattle.ice_flow_frame.proofs.PieceTexts.{joined_more, joined_all}
use Rattle.ice_flow_frame.proofs.say.say_names.Goals as goal

pub returns-then-not-say_named-clause-said : goal.returns-then-not-say_named-clause-said
returns-then-not-say_named-clause-said g c =
    let D = g.D.Desk in
    let old = D.seen c.args.desk.now in
    let mid = D.seen c.loop-name.desk in
    let new = D.seen c.say_named.new.desk in
    let names : List (List ℕ) = c.as_slice-name-items.result.now in
    let i = c.loop-name.name-index in
    let here : List ℕ = after_blank (get_or names i c.name-item.result) in
    let front : List ℕ = spaced (take i names) in
    let said = subst (λ (ns : List (List ℕ)). IsSaid old mid (spaced (take i ns)) true) (sym c.as_slice-name-items.ensures) c.loop-name.invariant.said in
    let cut_here = subst (λ (n : List ℕ). IsSaid mid new (after_blank n) false) c.name-item.is (cut mid new (after_blank c.name-item.result) c.say_named.result c.if-not-say_named.true c.say_named.ensures.said) in
    subst (λ (ns : List (List ℕ)). IsSaid old new (spaced ns) false) c.as_slice-name-items.ensures
    (cut_first old new (front ++ here) (spaced (drop (suc i) names)) (spaced names) (joined_all after_blank names i c.name-item.result c.loop-name-test.true)
    (said_both old mid new front here (front ++ here) false refl c.loop-name.invariant.same.tells said cut_here))

pub loop-name-preserved : goal.loop-name-preserved
loop-name-preserved g c =
    let D = g.D.Desk in
    let old = D.seen c.args.desk.now in
    let mid = D.seen c.loop-name.desk in
    let new = D.seen c.say_named.new.desk in
    let names : List (List ℕ) = c.as_slice-name-items.result.now in
    let i = c.loop-name.name-index in
    let here : List ℕ = after_blank (get_or names i c.name-item.result) in
    let front : List ℕ = spaced (take i names) in
    let said = subst (λ (ns : List (List ℕ)). IsSaid old mid (spaced (take i ns)) true) (sym c.as_slice-name-items.ensures) c.loop-name.invariant.said in
    let said_here = subst (λ (n : List ℕ). IsSaid mid new (after_blank n) true) c.name-item.is (whole mid new (after_blank c.name-item.result) c.say_named.result c.if-not-say_named.false c.say_named.ensures.said) in
    record {
      same = saying_trans old mid new c.loop-name.invariant.same c.say_named.ensures.same;
      names_read = same_test_trans (D.may_read c.args.desk.now) (D.may_read c.loop-name.desk) (D.may_read c.say_named.new.desk) c.loop-name.invariant.names_read c.say_named.ensures.names_read;
      names_written = same_test_trans (D.may_write c.args.desk.now) (D.may_write c.loop-name.desk) (D.may_write c.say_named.new.desk) c.loop-name.invariant.names_written c.say_named.ensures.names_written;
      said = subst (λ (ns : List (List ℕ)). IsSaid old new (spaced (take (i + 1) ns)) true) c.as_slice-name-items.ensures
          (said_both old mid new front here (spaced (take (i + 1) names)) true (joined_more after_blank names i c.name-item.result c.loop-name-test.true) c.loop-name.invariant.same.tells said said_here);
    }
