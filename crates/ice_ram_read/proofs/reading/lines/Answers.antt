use Rattle.std.proofs.Common.{◌<◌, ◌∷◌, ◌++◌, length, bytes_eq, ap, sym, ◌∙◌, arith}
use Rattle.ice_blif.specs.JoinedLines.{FilledLine, filled}
use Rattle.ice_blif.specs.Views.{words_left, lines_left}
use Rattle.ice_ram_read.specs.RamTexts.{listed, rams_said}
use Rattle.ice_ram_read.proofs.RamLines.{lines_more, lines_end, lines_none}
use Rattle.ice_ram_read.proofs.Firsts.{all_read, enough_read}
use Rattle.ice_ram_read.proofs.reading.lines.Goals as goal

pub loop-first-preserved : goal.loop-first-preserved
loop-first-preserved c =
    let loop = c.loop-first in
    let first = c.in-Some.first in
    let l : FilledLine = record { number = first.line; first = first.word.now; others = words_left c.next_filled.new.self } in
    lines_more c.args.netlist.now loop.last c.line.new.last l (filled (lines_left loop.words)) (filled (lines_left c.line.new.words)) loop.rams.items c.line.new.rams.items
    (c.args.rams.now.items ++ rams_said c.args.netlist.now c.args.last.now (filled (lines_left c.args.words.now)))
    (c.in-Some.ensures ∙ ap (λ ls. l ∷ filled ls) (sym c.line.ensures.lines)) (sym (c.eq.ensures ∙ ap (bytes_eq first.word.now) c.as_slice.ensures) ∙ c.if-eq.false) c.in_ok-line.ensures.rams c.in_ok-line.ensures.last loop.invariant

pub returns-then-eq : goal.returns-then-eq
returns-then-eq c =
    let loop = c.loop-first in
    let first = c.in-Some.first in
    let l : FilledLine = record { number = first.line; first = first.word.now; others = words_left c.next_filled.new.self } in
    let all = c.args.rams.now.items ++ rams_said c.args.netlist.now c.args.last.now (filled (lines_left c.args.words.now)) in
    all_read (loop.rams.items ++ listed loop.last) all
    (lines_end c.args.netlist.now loop.last l (filled (lines_left loop.words)) (filled (lines_left c.next_filled.new.self)) loop.rams.items all c.in-Some.ensures (sym (c.eq.ensures ∙ ap (bytes_eq first.word.now) c.as_slice.ensures) ∙ c.if-eq.true) loop.invariant)

pub returns-then-len-gt-MOST_RAMS : goal.returns-then-len-gt-MOST_RAMS
returns-then-len-gt-MOST_RAMS c =
    let loop = c.loop-first in
    let first = c.in-Some.first in
    let l : FilledLine = record { number = first.line; first = first.word.now; others = words_left c.next_filled.new.self } in
    let all = c.args.rams.now.items ++ rams_said c.args.netlist.now c.args.last.now (filled (lines_left c.args.words.now)) in
    let many : 885 < length c.line.new.rams.items = grind arith in
    enough_read c.args.netlist.now c.line.new.last (filled (lines_left c.line.new.words)) c.line.new.rams.items all many
    (lines_more c.args.netlist.now loop.last c.line.new.last l (filled (lines_left loop.words)) (filled (lines_left c.line.new.words)) loop.rams.items c.line.new.rams.items all
    (c.in-Some.ensures ∙ ap (λ ls. l ∷ filled ls) (sym c.line.ensures.lines)) (sym (c.eq.ensures ∙ ap (bytes_eq first.word.now) c.as_slice.ensures) ∙ c.if-eq.false) c.in_ok-line.ensures.rams c.in_ok-line.ensures.last loop.invariant)

pub returns : goal.returns
returns c =
    let loop = c.loop-first in
    let all = c.args.rams.now.items ++ rams_said c.args.netlist.now c.args.last.now (filled (lines_left c.args.words.now)) in
    all_read (loop.rams.items ++ listed loop.last) all (lines_none c.args.netlist.now loop.last (filled (lines_left loop.words)) loop.rams.items all c.in_default.ensures loop.invariant)
