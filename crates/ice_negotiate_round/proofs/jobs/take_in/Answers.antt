use Rattle.std.proofs.Common.{All, List, refl, sym, subst, ap, ◌∙◌}
use Rattle.std.proofs.lemmas.List.Elements.{All-push}
use Rattle.ice_negotiate_round.specs.declared.jobs.Done.{Done}
use Rattle.ice_negotiate_round.specs.Jobs.{main_view}
use Rattle.ice_negotiate_round.specs.Played.{IsLeft, parts_of}
use Rattle.ice_negotiate_round.proofs.Gathering.{joined_view, left_of, worked_part}
use Rattle.ice_negotiate_round.proofs.jobs.take_in.Goals as goal

pub returns-clause-view : goal.returns-clause-view
returns-clause-view c = λ splits out before.
    let board = c.args.words.now in
    let d : Done = record { kit = c.args.job.kit; stop = c.args.job.stop } in
    let job = c.requires.job in
    joined_view board splits out c.args.dones.now.items d job.part c.args.main.now.view c.args.job.hand.view c.join.new.hand.view before job.view
    (worked_part c.args.graph.now c.args.prices.now c.args.tasks.now board c.args.job job c.requires.memory) c.join.ensures.view
    ∙ ap (λ (ds : List Done). main_view board splits out (parts_of board.olds ds)) (sym c.push_reserved.ensures.items)

pub returns-clause-dones : goal.returns-clause-dones
returns-clause-dones c =
    let P : Done → Type 0 = IsLeft c.args.graph.now c.args.prices.now c.args.tasks.now c.args.words.now.olds in
    let d : Done = record { kit = c.args.job.kit; stop = c.args.job.stop } in
    subst (λ (ds : List Done). All P ds) (sym c.push_reserved.ensures.items)
    (All-push P c.args.dones.now.items d c.requires.dones (left_of c.args.graph.now c.args.prices.now c.args.tasks.now c.args.words.now c.args.job d c.requires.job c.requires.memory refl))
