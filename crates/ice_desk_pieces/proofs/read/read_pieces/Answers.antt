use Rattle.std.proofs.Common.{◌≡◌, true, false, ap, sym, subst, ◌∙◌, ◌++◌, Some, take, arith, length-append, length-take, append_assoc}
use Rattle.ice_desk.proofs.Desks.{reading_trans, same_test_trans}
use Rattle.ice_desk_pieces.proofs.read.read_pieces.Goals as goal

pub loop-count-preserved : goal.loop-count-preserved
loop-count-preserved g c =
    let i = c.loop-count.invariant in
    let p = c.in-Ok.ensures in
    let more = take c.in-Ok.count c.read.new.piece in
    record {
      same = reading_trans _ _ _ i.same p.same;
      names_read = same_test_trans _ _ _ i.names_read p.names_read;
      names_written = same_test_trans _ _ _ i.names_written p.names_written;
      begun = p.begun ∙ i.begun;
      faults = p.ok_faults ∙ i.faults;
      given = omega (arith, p.given, i.given);
      within = omega arith;
      bytes = i.bytes ++ more;
      counted = omega (arith, length-append i.bytes more, length-take c.in-Ok.count c.read.new.piece, i.counted, p.within);
      file = λ t. i.file t ∙ ap (λ x. Some x) (ap (λ x. i.bytes ++ x) (p.bytes (i.same.tells ∙ t)) ∙ sym (append_assoc i.bytes more (g.D.Desk.seen c.read.new.self).left));
      still = λ spent. let failed : false ≡ true = c.in-Ok-take.ensures.still (i.still spent) in absurd (cc);
      taken = λ text s. subst (g.T.Taker.stands c.take.new.self) (append_assoc text i.bytes more) (c.in-Ok-take.ensures.taken (text ++ i.bytes) (i.taken text s));
    }
