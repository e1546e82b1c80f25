use Rattle.std.proofs.Common.{◌<◌, sym, ap, ◌∙◌, arith}
use Rattle.std.specs.List.{list_any}
use Rattle.ice_anneal.specs.declared.table.Chunk.{Chunk}
use Rattle.ice_anneal.specs.Table.{is_chunk}
use Rattle.ice_anneal.proofs.Tables.{none_before, some_before}
use Rattle.ice_anneal.proofs.free.is_before_there.Goals as goal

pub returns-then-own-eq0 : goal.returns-then-own-eq0
returns-then-own-eq0 c chunks knows = sym (none_before chunks c.args.own.0 c.args.own.1 c.if-own-eq0.true)

pub returns : goal.returns
returns c chunks knows =
    let own = c.args.own in
    let some : 0 < own.1 = let n = c.if-own-eq0.false in omega arith in
    c.is_there.ensures chunks knows ∙ ap (λ (chunk : Chunk). list_any (is_chunk chunk) chunks) c.chunk_at.ensures ∙ some_before chunks own.0 own.1 some
