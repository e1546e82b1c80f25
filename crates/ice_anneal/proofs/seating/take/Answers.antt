use Rattle.std.proofs.Common.{◌<◌, length, arith}
use Rattle.std.proofs.lemmas.List.Sorted.{IsPermutation-swap}
use Rattle.ice_anneal.proofs.seating.take.Goals as goal

pub returns-then-d-len : goal.returns-then-d-len
returns-then-d-len c =
    let place = c.args.place.now.items in
    let a = c.if-c-len.true in
    let b = c.if-d-len.true in
    let m = c.len.ensures in
    let n = c.len-then-c-len.ensures in
    let lc : c.args.c < length place = omega arith in
    let ld : c.unwrap_or-d.result < length place = omega arith in
    IsPermutation-swap place c.swap.new.self.items c.args.c c.unwrap_or-d.result lc ld c.swap.ensures.items
