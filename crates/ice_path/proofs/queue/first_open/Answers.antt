use Rattle.std.proofs.Common.{◌≡◌, subst, arith}
use Rattle.ice_path.specs.declared.queue.Waiting.{Waiting}
use Rattle.ice_path.proofs.Listing.{GoesOn, entry_in, entry_smaller, entry_on, entry_first, goes_home}
use Rattle.ice_path.proofs.queue.first_open.Goals as goal

abbrev none : Waiting
none = record { wire = 0; behind = 0 }

pub bounds-settled-entry : goal.bounds-settled-entry
bounds-settled-entry c = c.requires.within _ (entry_in c.args.entries.now c.args.settled.now c.args.head c.loop-rest.rest none c.loop-rest-test.true c.requires.down c.loop-rest.invariant)

pub returns-then-not-settled-entry-clause-some : goal.returns-then-not-settled-entry-clause-some
returns-then-not-settled-entry-clause-some c = entry_first c.args.entries.now c.args.settled.now c.args.head c.loop-rest.rest none c.loop-rest-test.true c.requires.down c.loop-rest.invariant c.if-not-settled-entry.true

pub loop-rest-smaller : goal.loop-rest-smaller
loop-rest-smaller c = entry_smaller c.args.entries.now c.args.settled.now c.args.head c.loop-rest.rest none c.loop-rest-test.true c.requires.down c.loop-rest.invariant

pub loop-rest-preserved : goal.loop-rest-preserved
loop-rest-preserved c = entry_on c.args.entries.now c.args.settled.now c.args.head c.loop-rest.rest none c.loop-rest-test.true c.requires.down c.loop-rest.invariant c.if-not-settled-entry.false

pub returns-clause-none : goal.returns-clause-none
returns-clause-none c =
    let home : c.loop-rest.rest ≡ 0 = omega (arith, c.loop-rest-test.false) in
    goes_home c.args.entries.now c.args.settled.now c.args.head (subst (GoesOn c.args.entries.now c.args.settled.now c.args.head) home c.loop-rest.invariant)
