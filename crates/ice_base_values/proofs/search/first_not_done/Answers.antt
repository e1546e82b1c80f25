use Rattle.std.proofs.Common.{◌≡◌, ℕ, ◌≤◌, get_or, subst, below_more}
use Rattle.std.proofs.lemmas.Option.{slice_get-get_or, get_or_from_slice_get}
use Rattle.ice_base_values.specs.Order.{At}
use Rattle.ice_base_values.specs.declared.search.Mark.TheVariants.{New, Done}
use Rattle.ice_base_values.proofs.search.first_not_done.Goals as goal

pub loop-place-preserved : goal.loop-place-preserved
loop-place-preserved c j point le lt at =
    let reads = c.args.reads.now in
    let marks = c.args.marks.now in
    let place = c.loop-place.place in
    below_more (λ i. (p : ℕ) → c.args.cursor ≤ i → At reads i p → At marks p Done) place
    (λ i before p after here. c.loop-place.invariant i p after before here)
    (λ p after here.
    let done = subst (λ q. get_or marks q New ≡ Done) (get_or_from_slice_get reads place p 0 here) c.in-Done.is in
    subst (λ m. At marks p m) done (slice_get-get_or marks p New (c.requires place p here)))
    j lt point le at
