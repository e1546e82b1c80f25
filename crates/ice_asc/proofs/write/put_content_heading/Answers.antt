use Rattle.std.proofs.Common.{◌∷◌, ◌++◌, ◌∙◌, ap, decimal}
use Rattle.ice_asc.proofs.Joining.{place_joined}
use Rattle.ice_asc.proofs.write.put_content_heading.Goals as goal

pub returns : goal.returns
returns c =
    place_joined c.args.tile c.args.out.now.items c.extend_from_slice.new.self.items c.put_field.new.out.items c.put_field-2.new.out.items c.push.new.self.items c.in_ok-extend_from_slice.ensures.items
    (c.in_ok-put_field.ensures.written ∙ ap (λ n. c.extend_from_slice.new.self.items ++ 32 ∷ decimal n) c.from.ensures)
    (c.in_ok-put_field-2.ensures.written ∙ ap (λ n. c.put_field.new.out.items ++ 32 ∷ decimal n) c.from-2.ensures) c.in_ok-push.ensures.items
