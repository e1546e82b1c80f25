use Rattle.std.proofs.lemmas.List.{drop_more}
use Rattle.ice_bits_rows.proofs.Taken.{taken}
use Rattle.ice_bits_rows.proofs.Known.{alone_row, source_below}
use Rattle.std.proofs.Common.{arith, ℕ, ◌≡◌, ◌<◌, length, ◌+◌, ◌++◌, ◌∷◌, List, append-nil, drop, map, refl, ap, sym, subst, ◌∙◌}
use Rattle.ice_chip.specs.declared.sections.Row.{Row}
use Rattle.ice_chip.specs.Database.{SwitchGroup}
use Rattle.ice_chip.specs.Views.{row_view, group_view}
use Rattle.ice_fabric.specs.Edges.{edges_of, places_of}
use Rattle.ice_fabric.proofs.GroupRows.{none, none_placed, row_more, place_more, all_pieces}
use Rattle.ice_fabric.proofs.usable.add_group.Goals as goal

pub returns-then-not-is_open-clause-edges : goal.returns-then-not-is_open-clause-edges
returns-then-not-is_open-clause-edges c =
    sym (ap (λ xs. c.args.edges.now.items ++ xs) (none c.args.index.now.chip.now (group_view c.args.group.now) c.args.group.now.first.0 (map row_view c.args.group.now.rows.items) (sym c.is_open.ensures ∙ c.if-not-is_open.true))
    ∙ append-nil c.args.edges.now.items)

pub returns-then-not-is_open-clause-places : goal.returns-then-not-is_open-clause-places
returns-then-not-is_open-clause-places c =
    sym (ap (λ xs. c.args.places.now.items ++ xs) (none_placed c.args.index.now.chip.now (group_view c.args.group.now) c.args.group.now.first.0 (map row_view c.args.group.now.rows.items) (sym c.is_open.ensures ∙ c.if-not-is_open.true))
    ∙ append-nil c.args.places.now.items)

pub is_taken-taken-requires-clause-plain : goal.is_taken-taken-requires-clause-plain
is_taken-taken-requires-clause-plain c = λ e.
    let lt : c.loop-k.k < length c.args.group.now.rows.items = omega (arith, c.loop-k-test.true, c.len-k-end.ensures) in
    alone_row c.args.index.now.chip.now.groups c.args.group.now c.loop-k.k c.index-row.result.now c.index-row.result.now (c.is_plain-plain.ensures e) c.index-row.ensures lt

pub is_taken-taken-requires-clause-source : goal.is_taken-taken-requires-clause-source
is_taken-taken-requires-clause-source c =
    let lt : c.loop-k.k < length c.args.group.now.rows.items = omega (arith, c.loop-k-test.true, c.len-k-end.ensures) in
    subst (λ (r : Row). r.source.0 < c.args.index.now.chip.now.wires) (sym c.index-row.ensures) (source_below c.args.index.now.chip.now.wires c.args.group.now.rows.items c.loop-k.k c.index-row.result.now c.requires.wires.sources lt)

pub loop-k-preserved : goal.loop-k-preserved
loop-k-preserved c =
    let i = c.loop-k.invariant in
    let g : SwitchGroup = group_view c.args.group.now in
    let n : ℕ = c.args.group.now.first.0 + c.loop-k.k in
    let row : Row = c.index-row.result.now in
    let lt : c.loop-k.k < length c.args.group.now.rows.items = omega (arith, c.loop-k-test.true, c.len-k-end.ensures) in
    let rest : List Row = drop (c.loop-k.k + 1) c.args.group.now.rows.items in
    let split : drop c.loop-k.k c.args.group.now.rows.items ≡ row ∷ rest = drop_more c.args.group.now.rows.items c.loop-k.k row lt ∙ ap (λ (x : Row). x ∷ rest) (sym c.index-row.ensures) in
    let usable = c.is_taken-taken.ensures ∙ sym (taken c.args.index.now.chip.now g n (row_view row) (sym c.is_open.ensures ∙ c.if-not-is_open.false)) in
    let next : n + 1 ≡ c.args.group.now.first.0 + (c.loop-k.k + 1) = omega arith in
    record {
      edges = subst (λ m. c.add_row.new.edges.items ++ edges_of c.args.index.now.chip.now g m (map row_view rest) ≡ c.args.edges.now.items ++ edges_of c.args.index.now.chip.now g c.args.group.now.first.0 (map row_view c.args.group.now.rows.items)) next
          (row_more c.args.index.now.chip.now g n (row_view row) (map row_view rest) c.loop-k.edges.items c.add_row.new.edges.items c.is_taken-taken.result usable c.in_ok-add_row.ensures.edges
          ∙ subst (λ (xs : List Row). c.loop-k.edges.items ++ edges_of c.args.index.now.chip.now g n (map row_view xs) ≡ c.args.edges.now.items ++ edges_of c.args.index.now.chip.now g c.args.group.now.first.0 (map row_view c.args.group.now.rows.items)) split i.edges);
      places = subst (λ m. c.add_row.new.places.items ++ places_of c.args.index.now.chip.now g m (map row_view rest) ≡ c.args.places.now.items ++ places_of c.args.index.now.chip.now g c.args.group.now.first.0 (map row_view c.args.group.now.rows.items)) next
          (place_more c.args.index.now.chip.now g n (row_view row) (map row_view rest) c.loop-k.places.items c.add_row.new.places.items c.is_taken-taken.result usable c.in_ok-add_row.ensures.places
          ∙ subst (λ (xs : List Row). c.loop-k.places.items ++ places_of c.args.index.now.chip.now g n (map row_view xs) ≡ c.args.places.now.items ++ places_of c.args.index.now.chip.now g c.args.group.now.first.0 (map row_view c.args.group.now.rows.items)) split i.places);
    }

pub loop-k-init : goal.loop-k-init
loop-k-init c =
    let g : SwitchGroup = group_view c.args.group.now in
    let first : c.args.group.now.first.0 + 0 ≡ c.args.group.now.first.0 = omega arith in
    record {
      edges = ap (λ n. c.args.edges.now.items ++ edges_of c.args.index.now.chip.now g n (map row_view c.args.group.now.rows.items)) first;
      places = ap (λ n. c.args.places.now.items ++ places_of c.args.index.now.chip.now g n (map row_view c.args.group.now.rows.items)) first;
    }

pub returns-clause-edges : goal.returns-clause-edges
returns-clause-edges c =
    all_pieces (λ (rows : List Row). edges_of c.args.index.now.chip.now (group_view c.args.group.now) (c.args.group.now.first.0 + c.loop-k.k) (map row_view rows)) c.args.group.now.rows.items c.loop-k.k c.loop-k.edges.items _
    (omega (arith, c.loop-k-test.false, c.len-k-end.ensures)) refl c.loop-k.invariant.edges

pub returns-clause-places : goal.returns-clause-places
returns-clause-places c =
    all_pieces (λ (rows : List Row). places_of c.args.index.now.chip.now (group_view c.args.group.now) (c.args.group.now.first.0 + c.loop-k.k) (map row_view rows)) c.args.group.now.rows.items c.loop-k.k c.loop-k.places.items _
    (omega (arith, c.loop-k-test.false, c.len-k-end.ensures)) refl c.loop-k.invariant.places
