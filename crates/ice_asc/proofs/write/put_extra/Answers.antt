use Rattle.ice_asc.proofs.Joining.{extra_joined}
use Rattle.ice_asc.proofs.write.put_extra.Goals as goal

pub returns-clause-written : goal.returns-clause-written
returns-clause-written c =
    extra_joined c.args.extra.now c.args.out.now.items c.extend_from_slice.new.self.items c.put_field.new.out.items c.put_field-2.new.out.items c.put_field-3.new.out.items c.push.new.self.items
    c.in_ok-extend_from_slice.ensures.items c.in_ok-put_field.ensures.written c.in_ok-put_field-2.ensures.written c.in_ok-put_field-3.ensures.written c.in_ok-push.ensures.items
