-- Rounds of the same nets are the same.
use Rattle.std.proofs.Common.{◌≡◌, ℕ, zero, suc, ◌+◌, ◌-◌, ◌*◌, ◌≤◌, ◌<◌, Bool, cond, List, [], ◌∷◌, ◌++◌, Option, None, Some, length, take, slice_get, slice_index, refl, sym, ap, ◌∙◌, subst, arith, inl, inr}
use Rattle.std.proofs.lemmas.Bool.{cases_lt}
use Rattle.std.proofs.Math.Path.{fun_ext}
use Rattle.std.specs.List.{list_any}
use Rattle.std.proofs.lemmas.Option.{slice_get_within}
use Rattle.std.proofs.lemmas.List.Sums.{sum_by-cons}
use Rattle.ice_base.specs.declared.number.WireNo.{WireNo}
use Rattle.ice_base.specs.declared.number.NetNo.{NetNo}
use Rattle.ice_graph.specs.declared.tree.Tree.{Tree}
use Rattle.ice_graph.specs.Network.{Network}
use Rattle.ice_core.specs.declared.net.Net.{Net}
use Rattle.ice_core.specs.declared.log.RoundLog.{RoundLog}
use Rattle.ice_core.specs.declared.prices.Prices.{Prices}
use Rattle.ice_core.specs.Congestion.{price, next_history}
use Rattle.ice_core.specs.Moves.{IsOccupancy, holds, stands_in, occupancy, place, leaves, moves, movers_from, movers_of}
use Rattle.ice_words.specs.Grips.{Shut}
use Rattle.ice_negotiate_defs.specs.Trees.{Route, route_of, bare, IsTree}
use Rattle.ice_negotiate_defs.specs.Rounds.{Past, ArePricesOf, Moves, MoveFirst, IsOneOf, IsRound, IsFirstFrom, Follows, AreAll, AreRoundsFrom, BeginsWith, IsUnreachable, AreReachedBefore}
use Rattle.ice_negotiate_defs.specs.Logs.{AreRoutedFrom, AllEndOverusedFrom}
use Rattle.ice_negotiate_defs.specs.Determined.{AreAlike, AreSame, LeaveSame}
use Rattle.ice_negotiate_defs.specs.declared.fault.Routed.{Routed}
use Rattle.ice_negotiate_defs.proofs.Advancing.{beyond_end}
use Rattle.ice_negotiate_defs.proofs.Joining.{joined_unique}
use Rattle.ice_negotiate_defs.proofs.Openings.{begin_same, begun_kept, stays_kept}
use Rattle.ice_negotiate_defs.proofs.Rounding.{some_same}

-- ---- lists by their places
pub net_at : (xs : List Net) (n : ℕ) → n < length xs → (x : Net) × (slice_get xs n ≡ Some x)
net_at [] n lt = absurd (omega arith)
net_at (x ∷ xs) zero lt = (x, refl)
net_at (x ∷ xs) (suc n) lt = net_at xs n (omega arith)

pub tree_at : (xs : List Tree) (n : ℕ) → n < length xs → (x : Tree) × (slice_get xs n ≡ Some x)
tree_at [] n lt = absurd (omega arith)
tree_at (x ∷ xs) zero lt = (x, refl)
tree_at (x ∷ xs) (suc n) lt = tree_at xs n (omega arith)

pub past_at : (xs : List Past) (n : ℕ) → n < length xs → (x : Past) × (slice_get xs n ≡ Some x)
past_at [] n lt = absurd (omega arith)
past_at (x ∷ xs) zero lt = (x, refl)
past_at (x ∷ xs) (suc n) lt = past_at xs n (omega arith)

cons_same : {X : Type 0} (x y : X) (xs ys : List X) → x ≡ y → xs ≡ ys → x ∷ xs ≡ y ∷ ys
cons_same x y xs ys a b = cc

numbers_same : (xs ys : List ℕ) → length xs ≡ length ys → ((w : ℕ) → w < length xs → slice_index xs w ≡ slice_index ys w) → xs ≡ ys
numbers_same [] [] long h = refl
numbers_same [] (y ∷ ys) long h = absurd (omega arith)
numbers_same (x ∷ xs) [] long h = absurd (omega arith)
numbers_same (x ∷ xs) (y ∷ ys) long h = cons_same x y xs ys (h 0 (omega arith)) (numbers_same xs ys (omega arith) (λ w lt. h (suc w) (omega arith)))

nets_same : (xs ys : List NetNo) → length xs ≡ length ys → ((k : ℕ) → k < length xs → slice_get xs k ≡ slice_get ys k) → xs ≡ ys
nets_same [] [] long h = refl
nets_same [] (y ∷ ys) long h = absurd (omega arith)
nets_same (x ∷ xs) [] long h = absurd (omega arith)
nets_same (x ∷ xs) (y ∷ ys) long h = cons_same x y xs ys (some_same x y (h 0 (omega arith))) (nets_same xs ys (omega arith) (λ k lt. h (suc k) (omega arith)))

all_same : (n : ℕ) (one other : List NetNo) → AreAll n one → AreAll n other → one ≡ other
all_same n one other a b =
    let one_long = a.long in
    let other_long = b.long in
    nets_same one other (omega arith) (λ k lt. a.each k (omega arith) ∙ sym (b.each k (omega arith)))

-- ---- what is counted on trees depends on their routes alone
wires_same : (a b : Tree) → route_of a ≡ route_of b → a.wires.items ≡ b.wires.items
wires_same a b e = ap (λ (r : Route). r.wires) e

holds_same : (a b : Tree) (w : ℕ) → a.wires.items ≡ b.wires.items → holds w a ≡ holds w b
holds_same a b w e = ap (λ ws. stands_in ws w) e

-- the trees have the same wires, net by net
record HaveSameWires (one other : List Tree) : Type 0 where
  long : length one ≡ length other
  each : (n : ℕ) (a b : Tree) → slice_get one n ≡ Some a → slice_get other n ≡ Some b → a.wires.items ≡ b.wires.items

occupancy_by_wires : (one other : List Tree) (w : ℕ) → HaveSameWires one other → occupancy one w ≡ occupancy other w
occupancy_by_wires [] [] w h = refl
occupancy_by_wires [] (b ∷ other) w h = absurd (let long = h.long in omega arith)
occupancy_by_wires (a ∷ one) [] w h = absurd (let long = h.long in omega arith)
occupancy_by_wires (a ∷ one) (b ∷ other) w h =
    let long = h.long in
    let rest = occupancy_by_wires one other w (record { long = omega arith; each = λ n x y at to. h.each (suc n) x y at to }) in
    let left : occupancy (a ∷ one) w ≡ cond (holds w a) 1 0 + occupancy one w = sum_by-cons (λ (y : Tree). cond (holds w y) 1 0) a one in
    let right : occupancy (b ∷ other) w ≡ cond (holds w b) 1 0 + occupancy other w = sum_by-cons (λ (y : Tree). cond (holds w y) 1 0) b other in
    let here : cond {A = ℕ} (holds w a) 1 0 ≡ cond {A = ℕ} (holds w b) 1 0 = ap (λ (c : Bool). cond {A = ℕ} c 1 0) (holds_same a b w (h.each 0 a b refl refl)) in
    omega arith

rest_alike : (a b : Tree) (one other : List Tree) → AreAlike (a ∷ one) (b ∷ other) → AreAlike one other
rest_alike a b one other h = (let long = h.long in record { long = omega arith; each = λ n x y at to. h.each (suc n) x y at to })

occupancy_same : (one other : List Tree) (w : ℕ) → AreAlike one other → occupancy one w ≡ occupancy other w
occupancy_same one other w h = occupancy_by_wires one other w (record { long = h.long; each = λ n a b at to. wires_same a b (h.each n a b at to) })

more_alike : (a b : Tree) (one other : List Tree) → route_of a ≡ route_of b → AreAlike one other → AreAlike (a ∷ one) (b ∷ other)
more_alike a b one other same h = (let long = h.long in record { long = omega arith; each = at_place })
  where
    at_place : (k : ℕ) (x y : Tree) → slice_get (a ∷ one) k ≡ Some x → slice_get (b ∷ other) k ≡ Some y → route_of x ≡ route_of y
    at_place zero x y at to = (let left : a ≡ x = (cc) in let right : b ≡ y = (cc) in subst (λ t. route_of t ≡ route_of y) left (subst (λ t. route_of a ≡ route_of t) right same))
    at_place (suc k) x y at to = h.each k x y at to

take_alike : (n : ℕ) (one other : List Tree) → AreAlike one other → AreAlike (take n one) (take n other)
take_alike zero one other h = record { long = refl; each = λ n a b at to. absurd (let none : slice_get [] n ≡ Some a = at in cc) }
take_alike (suc n) [] [] h = h
take_alike (suc n) [] (b ∷ other) h = absurd (let long = h.long in omega arith)
take_alike (suc n) (a ∷ one) [] h = absurd (let long = h.long in omega arith)
take_alike (suc n) (a ∷ one) (b ∷ other) h =
    more_alike a b (take n one) (take n other) (h.each 0 a b refl refl) (take_alike n one other (rest_alike a b one other h))

moves_same : (round : ℕ) (all others : List Tree) (n : ℕ) (a b : Tree) → AreAlike all others → route_of a ≡ route_of b → moves round all n a ≡ moves round others n b
moves_same round all others n a b h same =
    let test : (λ (v : WireNo). leaves round (occupancy all v.0) (place all n v.0)) ≡ (λ (v : WireNo). leaves round (occupancy others v.0) (place others n v.0)) =
    fun_ext (λ (v : WireNo). leaves_same v.0) in
    ap (λ p. list_any p a.wires.items) test ∙ ap (list_any (λ (v : WireNo). leaves round (occupancy others v.0) (place others n v.0))) (wires_same a b same)
  where
    leaves_same : (w : ℕ) → leaves round (occupancy all w) (place all n w) ≡ leaves round (occupancy others w) (place others n w)
    leaves_same w =
        ap (λ c. leaves round c (place all n w)) (occupancy_same all others w h)
        ∙ ap (λ c. leaves round (occupancy others w) c) (occupancy_same (take n all) (take n others) w (take_alike n all others h))

movers_from_same : (round : ℕ) (all others : List Tree) (n : ℕ) (one other : List Tree) → AreAlike all others → AreAlike one other → movers_from round all n one ≡ movers_from round others n other
movers_from_same round all others n [] [] h k = refl
movers_from_same round all others n [] (b ∷ other) h k = absurd (let long = k.long in omega arith)
movers_from_same round all others n (a ∷ one) [] h k = absurd (let long = k.long in omega arith)
movers_from_same round all others n (a ∷ one) (b ∷ other) h k =
    ap (λ m. cond m (record { 0 = n } ∷ movers_from round all (n + 1) one) (movers_from round all (n + 1) one)) (moves_same round all others n a b h (k.each 0 a b refl refl))
    ∙ ap (λ rest. cond (moves round others n b) (record { 0 = n } ∷ rest) rest) (movers_from_same round all others (n + 1) one other h (rest_alike a b one other k))

counts_by_wires : (wires : ℕ) (one other : List ℕ) (trees others : List Tree) → length one ≡ wires → length other ≡ wires → IsOccupancy one trees → IsOccupancy other others → HaveSameWires trees others → one ≡ other
counts_by_wires wires one other trees others a b h k same =
    numbers_same one other (omega arith) (λ w lt. h.each w lt ∙ (occupancy_by_wires trees others w same ∙ sym (k.each w (omega arith))))

pub counts_same : (wires : ℕ) (one other : List ℕ) (trees others : List Tree) → length one ≡ wires → length other ≡ wires → IsOccupancy one trees → IsOccupancy other others → AreAlike trees others → one ≡ other
counts_same wires one other trees others a b h k alike = counts_by_wires wires one other trees others a b h k (record { long = alike.long; each = λ n x y at to. wires_same x y (alike.each n x y at to) })

-- ---- one round
pub prices_same : (round : ℕ) (history counts : List ℕ) (a b : Tree) (p q : Prices) → a.wires.items ≡ b.wires.items → ArePricesOf round history counts a p → ArePricesOf round history counts b q → price p ≡ price q
prices_same round history counts a b p q same h k = fun_ext (λ w. at w)
  where
    others : (w : ℕ) → slice_index p.others.items w ≡ slice_index q.others.items w
    others w = (let one = h.long in let other = k.long in elim (cases_lt w (length counts)) [
      | inl lt ↦ h.others w lt ∙ (ap (λ c. slice_index counts w - cond c 1 0) (holds_same a b w same) ∙ sym (k.others w lt))
      | inr le ↦ beyond_end p.others.items w (omega arith) ∙ sym (beyond_end q.others.items w (omega arith))
    ])

    histories : (w : ℕ) → slice_index p.history.items w ≡ slice_index q.history.items w
    histories w = ap (λ xs. slice_index xs w) (h.histories ∙ sym k.histories)

    at : (w : ℕ) → price p w ≡ price q w
    at w =
        ap (λ x. (1 + x) * (1 + (p.round - 1) * slice_index p.others.items w)) (histories w)
        ∙ (ap (λ x. (1 + slice_index q.history.items w) * (1 + (x - 1) * slice_index p.others.items w)) (h.number ∙ sym k.number)
        ∙ ap (λ x. (1 + slice_index q.history.items w) * (1 + (q.round - 1) * x)) (others w))

moved_same : (graph : Network) (round : ℕ) (history counts : List ℕ) (net : Net) (old old' new new' : Tree) → old.wires.items ≡ old'.wires.items
    → Moves graph round history counts net old new → Moves graph round history counts net old' new' → route_of new ≡ route_of new'
moved_same graph round history counts net old old' new new' same h k =
    joined_unique graph.edges (price h.prices) (bare net.root) net.sinks.items (route_of new) (route_of new') h.joined
    (subst (λ p. IsTree graph.edges p net.root net.sinks.items (route_of new')) (sym (prices_same round history counts old old' h.prices k.prices same h.are_of k.are_of)) k.joined)

-- before a round the nets hold the same wires, and those that do not move have the same routes
record AreReady (moved : List NetNo) (one other : List Tree) : Type 0 where
  held : (n : ℕ) (a b : Tree) → slice_get one n ≡ Some a → slice_get other n ≡ Some b → a.wires.items ≡ b.wires.items
  kept : (n : ℕ) (a b : Tree) → (IsOneOf moved n → ⊥) → slice_get one n ≡ Some a → slice_get other n ≡ Some b → route_of a ≡ route_of b

round_alike : (graph : Network) (nets : List Net) (round : ℕ) (history counts : List ℕ) (moved : List NetNo) (old old' new new' : List Tree) → AreReady moved old old'
    → IsRound graph nets round history counts moved old new → IsRound graph nets round history counts moved old' new' → AreAlike new new'
round_alike graph nets round history counts moved old old' new new' ready h k =
    let one = h.news in
    let other = k.news in
    record {
      long = omega arith;
      each = λ n x y at to. at_net n x y at to;
    }
  where
    at_net : (n : ℕ) (x y : Tree) → slice_get new n ≡ Some x → slice_get new' n ≡ Some y → route_of x ≡ route_of y
    at_net n x y at to =
        let news = h.news in
        let olds = h.olds in
        let olds' = k.olds in
        let lt = slice_get_within new n x at in
        let net = net_at nets n (omega arith) in
        let a = tree_at old n (omega arith) in
        let b = tree_at old' n (omega arith) in
        elim (h.each n net.0 a.0 x net.1 a.1 at) [
          | inl moves ↦ elim (k.each n net.0 b.0 y net.1 b.1 to) [
            | inl again ↦ moved_same graph round history counts net.0 a.0 b.0 x y (ready.held n a.0 b.0 a.1 b.1) moves.1 again.1
            | inr stays ↦ absurd (stays.0 moves.0)
          ]
          | inr stays ↦ elim (k.each n net.0 b.0 y net.1 b.1 to) [
            | inl moves ↦ absurd (stays.0 moves.0)
            | inr again ↦ ap route_of (sym stays.1) ∙ (ready.kept n a.0 b.0 stays.0 a.1 b.1 ∙ ap route_of again.1)
          ]
        ]

round_as : (graph : Network) (nets : List Net) (round round' : ℕ) (history history' counts counts' : List ℕ) (moved moved' : List NetNo) (old new : List Tree) → round ≡ round' → history ≡ history' → counts ≡ counts' → moved ≡ moved'
    → IsRound graph nets round history counts moved old new → IsRound graph nets round' history' counts' moved' old new
round_as graph nets round round' history history' counts counts' moved moved' old new r h c m is =
    subst (λ x. IsRound graph nets round' history' counts' x old new) m (subst (λ x. IsRound graph nets round' history' x moved old new) c (subst (λ x. IsRound graph nets round' x counts moved old new) h (subst (λ x. IsRound graph nets x history counts moved old new) r is)))

-- ---- all rounds
movers_first : (n : ℕ) (opening : Option (List (Option Tree))) (one other : List NetNo) → MoveFirst n opening one → MoveFirst n opening other → one ≡ other
movers_first n None one other h k = all_same n one other h k
movers_first n (Some kept) one other h k = h.1 ∙ sym k.1

-- two lists of trees from which nets begin, where those that stay have the same routes
begun_ready : (nets : ℕ) (opening : Option (List (Option Tree))) (moved : List NetNo) (before before' : List Tree) → length before ≡ nets → MoveFirst nets opening moved → BeginsWith opening before → BeginsWith opening before' → AreReady moved before before'
begun_ready nets opening moved before before' olds moves one other = record {
  held = λ n a b at to. begin_same opening before before' n a b one other at to;
  kept = λ n a b stays at to. staying opening n a b moves one other stays at to;
}
  where
    staying : (by : Option (List (Option Tree))) (n : ℕ) (a b : Tree) → MoveFirst nets by moved → BeginsWith by before → BeginsWith by before' → (IsOneOf moved n → ⊥) → slice_get before n ≡ Some a → slice_get before' n ≡ Some b → route_of a ≡ route_of b
    staying None n a b moves h k stays at to = absurd (let lt = slice_get_within before n a at in stays (n, moves.each n (omega arith)))
    staying (Some kept) n a b moves h k stays at to =
        let lt = slice_get_within before n a at in
        let long = moves.0 in
        let t = stays_kept kept n (omega arith) (λ here. stays (subst (λ ms. IsOneOf ms n) (sym moves.1) here)) in
        begun_kept kept before n t.0 a h t.1 at ∙ sym (begun_kept kept before' n t.0 b k t.1 to)

first_same : (graph : Network) (nets : List Net) (opening : Option (List (Option Tree))) (one other : Past) → (length one.counts ≡ graph.wires) × IsOccupancy one.counts one.trees → (length other.counts ≡ graph.wires) × IsOccupancy other.counts other.trees
    → IsFirstFrom graph nets opening one → IsFirstFrom graph nets opening other → AreSame one other
first_same graph nets opening one other c d h k =
    let moved : one.moved ≡ other.moved = movers_first (length nets) opening one.moved other.moved h.movers k.movers in
    let history : one.history ≡ other.history = h.fresh ∙ sym k.fresh in
    let olds = h.done.olds in
    let olds' = k.done.olds in
    let counts : h.counts ≡ k.counts = counts_by_wires graph.wires h.counts k.counts h.before k.before h.long k.long h.occupied k.occupied (record { long = omega arith; each = λ n a b at to. begin_same opening h.before k.before n a b h.begins k.begins at to }) in
    let alike : AreAlike one.trees other.trees = round_alike graph nets 1 one.history h.counts one.moved h.before k.before one.trees other.trees (begun_ready (length nets) opening one.moved h.before k.before olds h.movers h.begins k.begins) h.done
    (round_as graph nets 1 1 other.history one.history k.counts h.counts other.moved one.moved k.before other.trees refl (sym history) (sym counts) (sym moved) k.done) in
    record {
      round = h.number ∙ sym k.number;
      history = history;
      moved = moved;
      counts = counts_same graph.wires one.counts other.counts one.trees other.trees c.0 d.0 c.1 d.1 alike;
      routes = alike;
    }

pub but_for_moved : (one other : Past) → AreSame one other → LeaveSame one other
but_for_moved one other same = record { round = same.round; history = same.history; counts = same.counts; routes = same.routes }

pub next_same : (graph : Network) (nets : List Net) (one other next next' : Past) → LeaveSame one other → (length next.counts ≡ graph.wires) × IsOccupancy next.counts next.trees → (length next'.counts ≡ graph.wires) × IsOccupancy next'.counts next'.trees
    → Follows graph nets one next → Follows graph nets other next' → AreSame next next'
next_same graph nets one other next next' same c d h k =
    let round : next.round ≡ next'.round = h.number ∙ (ap (λ n. n + 1) same.round ∙ sym k.number) in
    let history : next.history ≡ next'.history = h.risen ∙ (ap (λ x. next_history x one.counts) same.history ∙ (ap (next_history other.history) same.counts ∙ sym k.risen)) in
    let moved : next.moved ≡ next'.moved = h.movers ∙ (ap (λ r. movers_of r one.trees) same.round ∙ (movers_from_same other.round one.trees other.trees 0 one.trees other.trees same.routes same.routes ∙ sym k.movers)) in
    let alike : AreAlike next.trees next'.trees = round_alike graph nets next.round next.history one.counts next.moved one.trees other.trees next.trees next'.trees ready h.done
    (round_as graph nets next'.round next.round next'.history next.history other.counts one.counts next'.moved next.moved other.trees next'.trees (sym round) (sym history) (sym same.counts) (sym moved) k.done) in
    record {
      round = round;
      history = history;
      moved = moved;
      counts = counts_same graph.wires next.counts next'.counts next.trees next'.trees c.0 d.0 c.1 d.1 alike;
      routes = alike;
    }
  where
    ready : AreReady next.moved one.trees other.trees
    ready = record {
      held = λ n a b at to. wires_same a b (same.routes.each n a b at to);
      kept = λ n a b none at to. same.routes.each n a b at to;
    }

pub rounds_same : (graph : Network) (nets : List Net) (opening : Option (List (Option Tree))) (rounds others : List Past) → AreRoundsFrom graph nets opening rounds → AreRoundsFrom graph nets opening others
    → (k : ℕ) (one other : Past) → slice_get rounds k ≡ Some one → slice_get others k ≡ Some other → AreSame one other
rounds_same graph nets opening rounds others h g zero one other at to = first_same graph nets opening one other (h.counted 0 one at) (g.counted 0 other to) (h.first one at) (g.first other to)
rounds_same graph nets opening rounds others h g (suc k) one other at to =
    let lt = slice_get_within rounds (suc k) one at in
    let lt' = slice_get_within others (suc k) other to in
    let before = past_at rounds k (omega arith) in
    let before' = past_at others k (omega arith) in
    let one_more : suc k ≡ k + 1 = omega arith in
    next_same graph nets before.0 before'.0 one other (but_for_moved before.0 before'.0 (rounds_same graph nets opening rounds others h g k before.0 before'.0 before.1 before'.1)) (h.counted (suc k) one at) (g.counted (suc k) other to)
    (h.follow k before.0 one before.1 (subst (λ n. slice_get rounds n ≡ Some one) one_more at)) (g.follow k before'.0 other before'.1 (subst (λ n. slice_get others n ≡ Some other) one_more to))

-- ---- one answer
pub reached_all : (graph : Network) (nets : List Net) (net : NetNo) (sink : WireNo) → AreReachedBefore graph nets (length nets) → IsUnreachable graph nets net sink → ⊥
reached_all graph nets net sink reached s =
    let cause = s.cause in
    cause.4 (reached net.0 s.the_net (slice_get_within nets net.0 s.the_net s.at) s.at cause.0 cause.1 cause.2)

pub last_at : (earlier : List Past) (last : Past) → slice_get (earlier ++ last ∷ []) (length earlier) ≡ Some last
last_at [] last = refl
last_at (x ∷ earlier) last = last_at earlier last

pub free_not_over : (one other : List ℕ) (w : ℕ) → one ≡ other → slice_index one w ≤ 1 → 1 < slice_index other w → ⊥
free_not_over one other w e le lt = (let same : slice_index one w ≡ slice_index other w = ap (λ xs. slice_index xs w) e in omega arith)

pub routed_free : (graph : Network) (nets : List Net) (opening : Option (List (Option Tree))) (permitted : ℕ) (routed : Routed) (logs : List RoundLog) (tallies : List Shut) → AreRoutedFrom graph nets opening permitted routed → AllEndOverusedFrom graph nets opening permitted logs tallies → ⊥
routed_free graph nets opening permitted routed logs tallies h k =
    let few = h.few in
    let all = k.all in
    let place = length h.earlier in
    let other = past_at k.past place (omega arith) in
    let same = rounds_same graph nets opening (h.earlier ++ h.last ∷ []) k.past h.rounds k.rounds place h.last other.0 (last_at h.earlier h.last) other.1 in
    let over = k.overused place other.0 other.1 in
    free_not_over h.last.counts other.0.counts over.0 same.counts (h.free over.0) over.1
