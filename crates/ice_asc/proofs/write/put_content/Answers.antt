use Rattle.ice_bits.specs.ContentViews.{content_view}
use Rattle.ice_asc.proofs.Joining.{content_joined}
use Rattle.ice_asc.proofs.write.put_content.Goals as goal

pub returns : goal.returns
returns c =
    content_joined (content_view c.args.content.now) c.deref.result.now c.args.out.now.items c.put_content_heading.new.out.items c.put_words.new.out.items
    c.in_ok-put_content_heading.ensures c.deref.ensures.value c.in_ok-put_words.ensures
