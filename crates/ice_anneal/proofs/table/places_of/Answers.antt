use Rattle.std.proofs.Common.{None, ◌||◌, get_or, ap, sym, ◌∙◌}
use Rattle.std.proofs.lemmas.List.Folds.{list_any_more}
use Rattle.ice_anneal.specs.Table.{is_chunk}
use Rattle.ice_anneal.proofs.table.places_of.Goals as goal

pub loop-c-preserved : goal.loop-c-preserved
loop-c-preserved c chunk =
    let chunks = c.args.chunks.now in
    let k = c.loop-c.c in
    c.in_ok-note.ensures chunk ∙ ap (λ b. b || is_chunk chunk (get_or chunks k None)) (c.loop-c.invariant chunk) ∙ sym (list_any_more (is_chunk chunk) chunks k None c.loop-c-test.true)
