use Rattle.std.proofs.Common.{◌≡◌, ◌∙◌, ◌+◌, ◌<◌, ◌≤◌, ◌++◌, ◌∷◌, [], ℕ, Some, List, length, slice_get, refl, sym, ap, subst, arith}
use Rattle.std.proofs.lemmas.List.{length_push}
use Rattle.std.specs.Prelude.{Vec}
use Rattle.std.specs.declared.alloc.Global.{Global}
use Rattle.ice_graph.specs.Hops.{AreColumns, IsColumn}
use Rattle.ice_graph.specs.Levels.{lists_of, IsColumnOf}
use Rattle.ice_graph.proofs.Hopping.{column_is, columns_more, lists_long}
use Rattle.ice_graph.proofs.table.push_columns.Goals as goal

pub loop-bit-preserved : goal.loop-bit-preserved
loop-bit-preserved c =
    let i = c.loop-bit.invariant in
    let levels : List (Vec ℕ Global) = c.in_ok-levels.levels.items in
    let long = lists_long levels in
    let same = ap length c.deref.ensures.value in
    let made = subst (λ (xs : List (Vec ℕ Global)). IsColumnOf (lists_of xs) c.column_len-len.result c.loop-bit.bit c.in_ok-column_of.field-0.items) c.deref-in-loop-bit.ensures.value c.in_ok-column_of.ensures in
    let column = column_is c.args.edges.now c.args.sets.now (length c.args.sets.now) c.len-first.result c.loop-bit.bit c.column_len-len.result c.in_ok-homes.homes.items (lists_of levels) c.in_ok-column_of.field-0.items
    c.requires.between refl c.in_ok-homes.ensures.long (let a = c.min-bit-end.ensures in let t = c.loop-bit-test.true in omega (arith, a, t)) c.in_ok-homes.ensures.homes c.in_ok-homes.ensures.back
    (λ some. c.in_ok-levels.ensures.levels (omega (arith, some, long))) c.in_ok-levels.ensures.all
    (λ none. c.column_len-len.ensures.none (omega (arith, none, long, same))) (λ some. c.column_len-len.ensures.some (omega (arith, some, long, same))) made in
    let first : c.len-first.result ≡ length c.args.columns.now.items = (let e = c.args.columns.now.ok in omega (arith, e, c.len-first.ensures)) in
    let place : c.len-first.result + c.loop-bit.bit ≡ length c.loop-bit.columns.items = (let m = i.more in omega (arith, first, m)) in
    record {
      more = (let m = i.more in let l = length_push c.loop-bit.columns.items c.in_ok-column_of.field-0 in let e = ap length c.in_ok-push.ensures.items in omega (arith, m, l, e));
      columns = subst (AreColumns c.args.edges.now c.args.sets.now) (sym c.in_ok-push.ensures.items) (columns_more c.args.edges.now c.args.sets.now c.loop-bit.columns.items c.in_ok-column_of.field-0 i.columns
          (subst (λ s. IsColumn c.args.edges.now c.args.sets.now s c.in_ok-column_of.field-0.items) place column));
    }
