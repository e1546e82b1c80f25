use Rattle.std.proofs.Common.{◌≡◌, ◌∙◌, ◌+◌, ◌++◌, ◌∷◌, [], ap}
use Rattle.std.specs.Vec.{with_items}
use Rattle.std.proofs.lemmas.List.{with_items_is}
use Rattle.ice_core.specs.Congestion.{next_history}
use Rattle.ice_core.specs.Moves.{movers_of}
use Rattle.ice_words.specs.Grips.{Shut}
use Rattle.ice_negotiate.proofs.Stating.{before_next, ready_next}
use Rattle.ice_negotiate.proofs.rounds.prepare.Goals as goal

pub returns-clause-ready : goal.returns-clause-ready
returns-clause-ready g c =
    let old = c.args.state.now in
    let items : (with_items old.prices.history c.raise.new.history).items ≡ c.raise.new.history = with_items_is old.prices.history c.raise.new.history (c.raise.auto.history ∙ c.deref_mut.ensures.len) in
    let risen : c.raise.new.history ≡ next_history c.deref_mut.result.now c.args.counts.closed = c.in_ok-raise.ensures in
    let copied : c.copy_from_slice.new.self.items ≡ c.all.result.now = c.copy_from_slice.ensures.items in
    let movers : c.in_ok-state.field-0.items ≡ movers_of (c.args.round + 1) c.deref-2.result.now = c.in_ok-state.ensures in
    ready_next c.args.graph.now c.args.nets.now c.args.round old.prices.round old c.args.counts (with_items old.prices.history c.raise.new.history) c.copy_from_slice.new.self c.in_ok-state.field-0 c.push.new.self
    (items ∙ (risen ∙ ap (λ h. next_history h c.args.counts.closed) c.deref_mut.ensures.value))
    (copied ∙ c.all.ensures)
    (movers ∙ ap (movers_of (c.args.round + 1)) c.deref-2.ensures.value)
    c.requires.few c.requires.played

pub returns-clause-before : goal.returns-clause-before
returns-clause-before g c =
    let old = c.args.state.now in
    let items : (with_items old.prices.history c.raise.new.history).items ≡ c.raise.new.history = with_items_is old.prices.history c.raise.new.history (c.raise.auto.history ∙ c.deref_mut.ensures.len) in
    let risen : c.raise.new.history ≡ next_history c.deref_mut.result.now c.args.counts.closed = c.in_ok-raise.ensures in
    let copied : c.copy_from_slice.new.self.items ≡ c.all.result.now = c.copy_from_slice.ensures.items in
    let movers : c.in_ok-state.field-0.items ≡ movers_of (c.args.round + 1) c.deref-2.result.now = c.in_ok-state.ensures in
    let pushed : c.push.new.self.items ≡ old.tallies.items ++ c.tally.result ∷ [] = c.in_ok-push.ensures.items in
    before_next c.args.graph.now c.args.nets.now c.args.round old.prices.round old c.args.counts (with_items old.prices.history c.raise.new.history) c.copy_from_slice.new.self c.in_ok-state.field-0 c.push.new.self
    (items ∙ (risen ∙ ap (λ h. next_history h c.args.counts.closed) c.deref_mut.ensures.value))
    (copied ∙ c.all.ensures)
    (movers ∙ ap (movers_of (c.args.round + 1)) c.deref-2.ensures.value)
    c.requires.overused
    (pushed ∙ ap (λ (t : Shut). old.tallies.items ++ t ∷ []) c.tally.ensures)
