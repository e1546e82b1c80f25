use Rattle.std.proofs.Common.{◌≡◌, ◌≤◌, All, length, vec_len, sym, ap, subst, arith, ◌∙◌}
use Rattle.std.proofs.lemmas.List.Elements.{All-weaker}
use Rattle.ice_words.specs.declared.view.View.{View}
use Rattle.ice_words.specs.Rule.{IsClosing}
use Rattle.ice_words.specs.Views.{total, one, releases_of, holds_of}
use Rattle.ice_worker.specs.Tasks.{IsMade}
use Rattle.ice_worker.specs.Kits.{IsKitOf, made_by}
use Rattle.ice_negotiate_round.specs.declared.jobs.Done.{Done}
use Rattle.ice_negotiate_round.specs.Played.{IsLeft, NoneStopped, soonest}
use Rattle.ice_negotiate_round.proofs.Finishing.{round_done, all_wanted, end_view, many_olds}
use Rattle.ice_negotiate_round.proofs.Stopping.{none_stopped_all, round_stopped}
use Rattle.ice_negotiate_round.proofs.playing.finish.Goals as goal

pub placed-requires-clause-made : goal.placed-requires-clause-made
placed-requires-clause-made c =
    All-weaker (IsLeft c.args.graph.now c.args.prices.now c.args.tasks.now c.args.words.olds) (λ (d : Done). All (IsMade c.args.graph.now c.args.prices.now c.args.tasks.now) (made_by d.kit)) (λ d is. is.made) c.args.dones.items c.requires.dones

pub placed-requires-clause-kits : goal.placed-requires-clause-kits
placed-requires-clause-kits c = All-weaker (IsLeft c.args.graph.now c.args.prices.now c.args.tasks.now c.args.words.olds) (λ (d : Done). IsKitOf c.args.graph.now d.kit) (λ d is. is.kit) c.args.dones.items c.requires.dones

pub returns-clause-played : goal.returns-clause-played
returns-clause-played c =
    let board = c.args.words in
    let dones = c.args.dones.items in
    let splits = vec_len c.args.dones in
    let graph = c.args.graph.now in
    let r = c.args.prices.now in
    let tasks = c.args.tasks.now in
    let shut = c.close-counts.result in
    let none : NoneStopped dones = none_stopped_all dones (ap soonest (sym c.deref.ensures.value) ∙ (sym c.least_stop.ensures ∙ c.in_default.is)) in
    let closing : IsClosing (end_view board splits dones) shut.closed = subst (λ (v : View). IsClosing v shut.closed) c.requires.view c.close-counts.ensures.closing in
    let numbers = subst (λ (v : View). (shut.claims ≡ total one v) × (shut.releases ≡ total releases_of v) × (shut.holds ≡ total holds_of v)) c.requires.view c.close-counts.ensures.numbers in
    let opened : shut.opened ≡ board.counts = c.close-counts.ensures.opened ∙ ap (λ (v : View). v.counts) c.requires.view in
    let some_of : 1 ≤ length dones = omega (arith, c.requires.some_of, c.args.dones.ok) in
    let long : length board.olds ≡ length tasks = ap length c.requires.started.olds ∙ many_olds tasks in
    let trees = c.in_ok-news.ensures.trees (all_wanted board tasks splits dones shut.closed closing long none some_of) in
    round_done graph r tasks board splits dones c.in_ok-news.news.items shut c.requires.started closing opened numbers c.requires.dones none some_of trees

pub returns-in-Some-clause-stop : goal.returns-in-Some-clause-stop
returns-in-Some-clause-stop c =
    let board = c.args.words in
    let dones = c.args.dones.items in
    let splits = vec_len c.args.dones in
    let closed = c.close-counts.result.closed in
    let closing : IsClosing (end_view board splits dones) closed = subst (λ (v : View). IsClosing v closed) c.requires.view c.close-counts.ensures.closing in
    round_stopped c.args.graph.now c.args.prices.now c.args.tasks.now board splits dones closed c.in-Some.stop closing c.requires.dones (ap soonest (sym c.deref.ensures.value) ∙ (sym c.least_stop.ensures ∙ c.in-Some.is))
