-- A netlist with added carries is well formed, and its names differ.
use Rattle.std.proofs.Common.{◌≡◌, ℕ, zero, suc, ◌+◌, ◌<◌, ◌≤◌, Option, None, Some, List, [], ◌∷◌, ◌++◌, length, map, take, All, refl, sym, subst, arith, length-append, bytes_eq, codes, false}
use Rattle.std.specs.List.{IsDistinct, AllByRecursion}
use Rattle.std.proofs.lemmas.List.{length-map, append_cancel_right}
use Rattle.std.proofs.lemmas.List.Elements.{All-weaker, All-append, All-head, All-tail}
use Rattle.std.proofs.lemmas.Map.Keys.{IsDistinct-head, IsDistinct-tail, IsDistinct-cons, IsDistinct-from_apart}
use Rattle.ice_base.specs.declared.number.SignalNo.{SignalNo}
use Rattle.ice_base.proofs.TextLines.{all_append}
use Rattle.ice_base_values.specs.Order.{At}
use Rattle.ice_net.specs.declared.cell.Cell.{Cell}
use Rattle.ice_net.specs.declared.kind.CellKind.TheVariants.{Carry}
use Rattle.ice_net.specs.declared.port.Port.{Port}
use Rattle.ice_net.specs.NetlistData.{NetlistData}
use Rattle.ice_net.specs.Formed.{IsBelow, IsPortBelow, IsFormedCell, IsFormed}
use Rattle.ice_net.proofs.NetlistLaws.{formed_more}
use Rattle.ice_net_additions.proofs.AddedCells.{added_formed}
use Rattle.ice_net_additions.proofs.AddedNames.{differ, differing, one_below}
use Rattle.ice_carry_tails.specs.Tails.{tail_name, tail_names, tails, read_behind, with_tails}
use Rattle.ice_carry_tails.specs.TailLaws.{CanTakeTails}
use Rattle.ice_carry_tails.specs.Tailable.{IsPlainName}
use Rattle.ice_carry_tails.proofs.Added.{Ins, length_tails}
use Rattle.ice_carry_tails.proofs.Taken.{in_use}

-- ---- cells
below_more : (a b : ℕ) → a ≤ b → (x : Option SignalNo) → IsBelow a x → IsBelow b x
below_more a b le None below = tt
below_more a b le (Some signal) below = omega (arith, le, below)

three_read : (cells : List Cell) (tables : List ℕ) (j : ℕ) (ins : Ins) → At (map (read_behind cells) tables) j ins → length ins ≡ 3
three_read cells [] j ins at = cc at
three_read cells (i ∷ tables) zero ins at = subst (λ (o : Option Ins). length_of o ≡ 3) at refl
  where
    length_of : Option Ins → ℕ
    length_of None = 3
    length_of (Some xs) = length xs
three_read cells (i ∷ tables) (suc j) ins at = three_read cells tables j ins at

pub with_tails_formed : (n : NetlistData) (tables : List ℕ) → IsFormed n → CanTakeTails n tables → length n.cells < 1073000000 → IsFormed (with_tails n tables)
with_tails_formed n tables formed can cells_few =
    let reads_used = in_use n tables formed can in
    let few = can.room in
    let names_few = formed.few in
    let named = reads_used.named in
    let reads = length-map tables (read_behind n.cells) in
    let names = length-append n.names (tail_names n.names (length tables)) in
    let total : length (with_tails n tables).names ≡ length n.names + length tables = omega (arith, names, named, reads) in
    record {
      few = omega (arith, total, few, names_few);
      few_cells =
          (let long = length-append n.cells (tails (length n.names) (map (read_behind n.cells) tables)) in
          let added = length_tails (length n.names) (map (read_behind n.cells) tables) in
          omega (arith, long, added, reads, few, names_few, cells_few));
      ports = subst (λ (k : ℕ). All (IsPortBelow k) n.ports) (sym total)
          (All-weaker (IsPortBelow (length n.names)) (IsPortBelow (length n.names + length tables)) (λ (port : Port) lt. port_more (length n.names) (length tables) port lt) n.ports formed.ports);
      cells = subst (λ (k : ℕ). All (IsFormedCell k) (with_tails n tables).cells) (sym total)
          (All-append (IsFormedCell (length n.names + length tables)) n.cells (tails (length n.names) (map (read_behind n.cells) tables))
          (All-weaker (IsFormedCell (length n.names)) (IsFormedCell (length n.names + length tables))
          (λ (cell : Cell) h. formed_more (length n.names) (length n.names + length tables) (more (length n.names) (length tables)) cell h) n.cells formed.cells)
          (added_formed Carry (length n.names + length tables) (length n.names) (map (read_behind n.cells) tables)
          (λ j out ins at lt. record {
            ins_long = three_read n.cells tables j ins at;
            outs_long = refl;
            ins_below = All-weaker (IsBelow (length n.names)) (IsBelow (length n.names + length tables)) (below_more (length n.names) (length n.names + length tables) (more (length n.names) (length tables))) ins (reads_used.below j ins at);
            outs_below = one_below (length n.names + length tables) out lt;
            kind = tt;
          })
          (omega (arith, reads))));
    }
  where
    port_more : (a b : ℕ) (port : Port) → IsPortBelow a port → IsPortBelow (a + b) port
    port_more a b port lt = omega arith

    more : (a b : ℕ) → a ≤ a + b
    more a b = omega arith

-- ---- names

-- names that differ do so with the same end
ends_differ : (xs ys : List ℕ) → bytes_eq xs ys ≡ false → bytes_eq (tail_name xs) (tail_name ys) ≡ false
ends_differ xs ys f = differ (tail_name xs) (tail_name ys) (λ e. differing xs ys f (append_cancel_right xs ys (codes " tail") e))

others_differ : (x : List ℕ) (xs : List (List ℕ)) (k : ℕ) → AllByRecursion (λ y. bytes_eq x y ≡ false) xs → AllByRecursion (λ y. bytes_eq (tail_name x) y ≡ false) (map tail_name (take k xs))
others_differ x xs zero all = tt
others_differ x [] (suc k) all = tt
others_differ x (y ∷ xs) (suc k) all = (ends_differ x y all.0, others_differ x xs k all.1)

none_twice : IsDistinct bytes_eq []
none_twice = IsDistinct-from_apart bytes_eq [] (λ i j d less lt. absurd (omega (arith, lt)))

news_once : (xs : List (List ℕ)) (k : ℕ) → IsDistinct bytes_eq xs → IsDistinct bytes_eq (map tail_name (take k xs))
news_once xs zero once = none_twice
news_once [] (suc k) once = none_twice
news_once (x ∷ xs) (suc k) once =
    IsDistinct-cons bytes_eq (tail_name x) (map tail_name (take k xs)) (others_differ x xs k (IsDistinct-head bytes_eq x xs once)) (news_once xs k (IsDistinct-tail bytes_eq x xs once))

plain_apart : (name : List ℕ) → IsPlainName name → (xs : List (List ℕ)) → AllByRecursion (λ y. bytes_eq name y ≡ false) (map tail_name xs)
plain_apart name plain [] = tt
plain_apart name plain (x ∷ xs) = (differ name (tail_name x) (plain x), plain_apart name plain xs)

both_once : (xs news : List (List ℕ)) → IsDistinct bytes_eq xs → All IsPlainName xs → IsDistinct bytes_eq (map tail_name news) → IsDistinct bytes_eq (xs ++ map tail_name news)
both_once [] news left all right = right
both_once (x ∷ xs) news left all right =
    IsDistinct-cons bytes_eq x (xs ++ map tail_name news)
    (all_append (λ y. bytes_eq x y ≡ false) xs (map tail_name news) (IsDistinct-head bytes_eq x xs left) (plain_apart x (All-head IsPlainName x xs all) news))
    (both_once xs news (IsDistinct-tail bytes_eq x xs left) (All-tail IsPlainName x xs all) right)

pub names_once : (names : List (List ℕ)) (k : ℕ) → IsDistinct bytes_eq names → All IsPlainName names → IsDistinct bytes_eq (names ++ tail_names names k)
names_once names k once plain = both_once names (take k names) once plain (news_once names k once)
