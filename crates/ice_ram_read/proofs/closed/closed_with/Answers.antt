use Rattle.std.proofs.Common.{◌≡◌, ◌≤◌, length, Ok, Err, refl, rules, arith}
use Rattle.std.proofs.lemmas.Result.{err_from_is_err_and}
use Rattle.ice_ram_read.specs.ClosedNetlists.{cut_says}
use Rattle.ice_ram_read.proofs.Firsts.{of_parts, closed_stops, all_closed}
use Rattle.ice_ram_read.proofs.closed.closed_with.Goals as goal

pub returns-in_err-cut : goal.returns-in_err-cut
returns-in_err-cut c =
    let p = err_from_is_err_and c.from_residual.result c.from_residual.ensures.1 in
    rw (p.1, p.2)
    (λ rams first known.
    let said : cut_says c.args.netlist c.args.texts.items ≡ Err c.in_err-cut.field-0.0 = rw c.deref.ensures.value at (c.in_err-cut.ensures known) in
    closed_stops c.args.netlist c.in_err-cut.field-0.0 c.args.texts.items rams first said)

pub returns-then-len-gt-MOST_RAMS : goal.returns-then-len-gt-MOST_RAMS
returns-then-len-gt-MOST_RAMS c = λ rams first known. absurd (known refl)

pub returns-in_err-rams : goal.returns-in_err-rams
returns-in_err-rams c =
    let p = err_from_is_err_and c.from_residual-in_err-rams.result c.from_residual-in_err-rams.ensures.1 in
    rw (p.1, p.2) (λ rams first known. absurd (known refl))

pub returns-in_err-closed : goal.returns-in_err-closed
returns-in_err-closed c =
    let p = err_from_is_err_and c.from_residual-in_err-closed.result c.from_residual-in_err-closed.ensures.1 in
    rw (p.1, p.2) (λ rams first known. absurd (known refl))

pub returns : goal.returns
returns c = λ rams first.
    let n = c.args.netlist in
    let m = c.cut.new.netlist in
    let texts = c.args.texts.items in
    let made = c.in_ok-rams.rams.items in
    let few : length texts ≤ 885 = grind arith in
    let said : cut_says n texts ≡ Ok m = rw c.deref.ensures.value at c.in_ok-cut.ensures in
    let is : c.in_ok-closed.closed ≡ of_parts m (length n.ports) made = search rules in
    all_closed n m texts rams made c.in_ok-closed.closed first few said c.in_ok-rams.ensures is
