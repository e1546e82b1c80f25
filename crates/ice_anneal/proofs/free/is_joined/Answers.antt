use Rattle.std.proofs.Common.{◌||◌, ap, ap₂, ◌∙◌}
use Rattle.std.specs.List.{list_any}
use Rattle.ice_anneal.specs.declared.table.Chunk.{Chunk}
use Rattle.ice_anneal.specs.Table.{is_chunk}
use Rattle.ice_anneal.proofs.Tables.{rigid_some}
use Rattle.ice_anneal.proofs.free.is_joined.Goals as goal

pub returns : goal.returns
returns c chunks knows =
    ap₂ (λ a b. a || b) (c.is_there-is_behind.ensures chunks knows ∙ ap (λ (chunk : Chunk). list_any (is_chunk chunk) chunks) c.chunk_behind.ensures) (c.is_before_there.ensures chunks knows)
    ∙ rigid_some chunks c.args.own
