use Rattle.std.proofs.Common.{◌∙◌, length, ap, arith}
use Rattle.std.proofs.lemmas.List.{with_items_is}
use Rattle.ice_path.specs.Search.{done, label}
use Rattle.ice_path.proofs.scratch.connect_ahead.Goals as goal

pub invariant_of-scratch : goal.invariant_of-scratch
invariant_of-scratch c =
    let i = c.scratch.invariant in
    let f = c.find_ahead-least.ensures in
    let labels_is = with_items_is c.scratch.inside.labels c.find_ahead-least.new.labels (c.find_ahead-least.auto.labels ∙ c.deref_mut.ensures.len) in
    let done_is = with_items_is c.scratch.inside.done c.find_ahead-least.new.settled (c.find_ahead-least.auto.settled ∙ c.deref_mut-2.ensures.len) in
    let near_is = with_items_is c.scratch.inside.ahead.near c.find_ahead-least.new.near (c.find_ahead-least.auto.near ∙ c.deref_mut-3.ensures.len) in
    let beyond_is = with_items_is c.scratch.inside.ahead.beyond c.find_ahead-least.new.beyond (c.find_ahead-least.auto.beyond ∙ c.deref_mut-4.ensures.len) in
    let labels_len = ap length labels_is ∙ (c.find_ahead-least.auto.labels ∙ ap length c.deref_mut.ensures.value) in
    let done_len = ap length done_is ∙ (c.find_ahead-least.auto.settled ∙ ap length c.deref_mut-2.ensures.value) in
    let near_len = ap length near_is ∙ (c.find_ahead-least.auto.near ∙ ap length c.deref_mut-3.ensures.value) in
    let beyond_len = ap length beyond_is ∙ (c.find_ahead-least.auto.beyond ∙ ap length c.deref_mut-4.ensures.value) in
    record {
      long = (let a = i.long in omega (arith, a, labels_len, done_len));
      fresh = λ w. ap (λ ls. label ls w) labels_is ∙ f.labels w;
      open_wires = λ w. ap (λ bs. done bs w) done_is ∙ f.settled w;
      touched = f.touched;
      space = (let a = i.space in let b = f.space in omega (arith, a, b, labels_len));
      queue = f.queue.0;
      len = f.queue.1;
      order = f.queue.2;
      room = (let a = i.room in let b = f.capacity in omega (arith, a, b, labels_len));
      path = (let a = i.path in let b = f.path in omega (arith, a, b, labels_len));
      list = (let a = i.list in let b = f.list in omega (arith, a, b, labels_len));
      near = (let a = i.near in omega (arith, a, labels_len, near_len));
      far = λ w. ap (λ ls. label ls w) near_is ∙ f.near w;
      marked = f.marked;
      marks = (let a = i.marks in let b = f.marks in omega (arith, a, b, labels_len));
      beyond = beyond_len ∙ i.beyond;
    }
