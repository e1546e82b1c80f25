use Rattle.std.proofs.Common.{◌≡◌, length, refl, ◌∙◌, subst, arith}
use Rattle.std.proofs.lemmas.Option.{slice_get_read}
use Rattle.ice_anneal_board.specs.Noting.{Noted, Wired}
use Rattle.ice_anneal_board.proofs.Notes.{more_wired}
use Rattle.ice_anneal_board.proofs.wiring.note_nets.Goals as goal

pub loop-k-preserved : goal.loop-k-preserved
loop-k-preserved c =
    let nets = c.args.nets.now in
    let k = c.loop-k.k in
    let net = c.index-nets-k.result in
    let here = slice_get_read nets (length nets) k net refl c.loop-k-test.true c.index-nets-k.is in
    let noted : Noted c.loop-k.touching.items c.note_net.new.touching.items k net.nodes.items =
    subst (λ l. Noted c.loop-k.touching.items c.note_net.new.touching.items k l) c.deref.ensures.value c.in_ok-note_net.ensures in
    record {
      counts = noted.counts ∙ c.loop-k.invariant.counts;
      wired = λ count w. more_wired count nets k net c.loop-k.touching.items c.note_net.new.touching.items here (c.loop-k.invariant.wired count w) noted;
    }

pub returns : goal.returns
returns c = λ count w.
    let e : c.loop-k.k ≡ length c.args.nets.now = omega arith in
    subst (λ n. Wired count c.args.nets.now n c.loop-k.touching.items) e (c.loop-k.invariant.wired count w)
