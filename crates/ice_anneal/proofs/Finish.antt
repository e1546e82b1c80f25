-- From a board to a finished placement.
use Rattle.std.proofs.Common.{◌≡◌, ℕ, ◌+◌, ◌-◌, ◌<◌, ◌≤◌, inl, inr, zero, suc, List, [], ◌∷◌, length, get_or, set, take, map, replicate, not, cond, eqb, Bool, ◌||◌, true, false, Option, None, sum, sym, refl, subst, ap, ap₂, ◌∙◌, arith}
use Rattle.std.specs.List.{All, swap}
use Rattle.std.specs.List.Sorted.{IsPermutation}
use Rattle.std.proofs.lemmas.Bool.{cases_eq, cases_lt, cases_order}
use Rattle.std.proofs.lemmas.Bool.Decides.{nat_tests}
use Rattle.std.proofs.lemmas.List.{same_lists, get_or_append_left, get_or-map, get_or-replicate, get_or-take, get_or-set_same, get_or-set_other, length-take-le, length-map, length-append, length-replicate}
use Rattle.std.proofs.lemmas.List.Edits.{swapped_from_swap, length-swap}
use Rattle.std.proofs.lemmas.List.Folds.{list_any_at}
use Rattle.std.proofs.lemmas.List.Sorted.{IsPermutation-keeps, length_permutation}
use Rattle.std.proofs.Math.Seq.{get_or-append_right}
use Rattle.ice_base.specs.declared.number.TileAt.{TileAt}
use Rattle.ice_anneal_board.specs.declared.net.Node.{Node}
use Rattle.ice_anneal_board.specs.declared.net.Node.TheVariants.{Cluster, Fixed}
use Rattle.ice_anneal_board.specs.declared.net.NetNodes.{NetNodes}
use Rattle.ice_anneal_board.specs.Length.{IsNode, IsNet, tile_of, box_of, net_length, wire_length, origin}
use Rattle.ice_anneal_board.specs.Board.{IsFree, Keeps, IsLeast}
use Rattle.ice_place_defs.specs.Length.{half_perimeter}
use Rattle.ice_sites.specs.Legal.{IsAmong, Follows, is_next, chunk_of, IsLegal}
use Rattle.ice_anneal.specs.Least.{is_rigid, free_of, IsFull, IsSwapLeast}
use Rattle.ice_anneal.specs.Order.{IsLinked}

-- placements that agree on the clusters are of one length
agree_nodes : (n : ℕ) (a b : List TileAt) → ((e : ℕ) → e < n → get_or a e origin ≡ get_or b e origin)
    → (nodes : List Node) → All (IsNode n) nodes → map (tile_of a) nodes ≡ map (tile_of b) nodes
agree_nodes n a b same [] h = refl
agree_nodes n a b same (Fixed t ∷ ns) h = ap (λ xs. t ∷ xs) (agree_nodes n a b same ns (λ k d lt. h (suc k) d (omega arith)))
agree_nodes n a b same (Cluster e ∷ ns) h = ap₂ (λ x xs. x ∷ xs) (same e (h zero (Cluster e) (omega arith))) (agree_nodes n a b same ns (λ k d lt. h (suc k) d (omega arith)))

agree_nets : (n : ℕ) (a b : List TileAt) → ((e : ℕ) → e < n → get_or a e origin ≡ get_or b e origin)
    → (nets : List NetNodes) → All (IsNet n) nets → map (λ (net : NetNodes). net_length a net.nodes.items) nets ≡ map (λ (net : NetNodes). net_length b net.nodes.items) nets
agree_nets n a b same [] h = refl
agree_nets n a b same (m ∷ ms) h =
    let here : All (IsNode n) m.nodes.items = h zero m (omega arith) in
    ap₂ (λ x xs. x ∷ xs) (ap (λ tiles. half_perimeter (box_of tiles)) (agree_nodes n a b same m.nodes.items here)) (agree_nets n a b same ms (λ k d lt. h (suc k) d (omega arith)))

pub agree : (n : ℕ) (a b : List TileAt) → ((e : ℕ) → e < n → get_or a e origin ≡ get_or b e origin)
    → (nets : List NetNodes) → All (IsNet n) nets → wire_length nets a ≡ wire_length nets b
agree n a b same nets h = ap sum (agree_nets n a b same nets h)

-- where the element at a place comes from
turn : ℕ → ℕ → ℕ → ℕ
turn a b k = cond (eqb k a) b (cond (eqb k b) a k)

turn_turn : (a b k : ℕ) → turn a b (turn a b k) ≡ k
unfolding turn
turn_turn a b k = grind (arith, nat_tests)

turn_within : (a b k n : ℕ) → a < n → b < n → k < n → turn a b k < n
unfolding turn
turn_within a b k n la lb lk = grind (arith, nat_tests)

turn_first : (a b : ℕ) → turn a b a ≡ b
unfolding turn
turn_first a b = grind (arith, nat_tests)

turn_second : (a b : ℕ) → turn a b b ≡ a
unfolding turn
turn_second a b = grind (arith, nat_tests)

turn_other : (a b k : ℕ) → (k ≡ a → ⊥) → (k ≡ b → ⊥) → turn a b k ≡ k
unfolding turn
turn_other a b k na nb = grind (arith, nat_tests)

turned : {X : Type 0} (xs : List X) (a b k : ℕ) (d : X) → a < length xs → b < length xs → get_or (swap xs a b) k d ≡ get_or xs (turn a b k) d
turned xs a b k d la lb =
    let s = swapped_from_swap xs (swap xs a b) a b d la lb refl in
    elim (cases_eq k a) [
      | inl e ↦ subst (λ j. get_or (swap xs a b) j d ≡ get_or xs (turn a b j) d) (sym e) (s.0 ∙ ap (λ j. get_or xs j d) (sym (turn_first a b)))
      | inr na ↦ elim (cases_eq k b) [
        | inl e ↦ subst (λ j. get_or (swap xs a b) j d ≡ get_or xs (turn a b j) d) (sym e) (s.1 ∙ ap (λ j. get_or xs j d) (sym (turn_second a b)))
        | inr nb ↦ s.2 k na nb ∙ ap (λ j. get_or xs j d) (sym (turn_other a b k na nb))
      ]
    ]

turn_comm : (a b k : ℕ) → turn a b k ≡ turn b a k
unfolding turn
turn_comm a b k = grind (arith, nat_tests)

turn_same : (a k : ℕ) → turn a a k ≡ k
unfolding turn
turn_same a k = grind (arith, nat_tests)

swap_comm : {X : Type 0} (xs : List X) (a b : ℕ) → a < length xs → b < length xs → swap xs a b ≡ swap xs b a
swap_comm xs a b la lb = same_lists (swap xs a b) (swap xs b a) (length-swap xs a b ∙ sym (length-swap xs b a))
    (λ k d lt. turned xs a b k d la lb ∙ (ap (λ j. get_or xs j d) (turn_comm a b k) ∙ sym (turned xs b a k d lb la)))

swap_same : {X : Type 0} (xs : List X) (a : ℕ) → a < length xs → swap xs a a ≡ xs
swap_same xs a la = same_lists (swap xs a a) xs (length-swap xs a a) (λ k d lt. turned xs a a k d la la ∙ ap (λ j. get_or xs j d) (turn_same a k))

-- an exchange keeps that all sites stand once
full_swap : (stretches : List (List TileAt)) (l : List TileAt) (i j : ℕ) → i < length l → j < length l → IsFull stretches l → IsFull stretches (swap l i j)
full_swap stretches l i j li lj h =
    let n = length-swap l i j in
    record {
      sites = λ c lt. subst (λ (t : TileAt). IsAmong stretches t) (sym (turned l i j c origin li lj)) (h.sites (turn i j c) (turn_within i j c (length l) li lj (omega arith)));
      apart = λ c d lc ld e.
          let a = h.apart (turn i j c) (turn i j d) (turn_within i j c (length l) li lj (omega arith)) (turn_within i j d (length l) li lj (omega arith)) (sym (turned l i j c origin li lj) ∙ (e ∙ turned l i j d origin li lj)) in
          sym (turn_turn i j c) ∙ (ap (turn i j) a ∙ turn_turn i j d);
      covers = λ t s.
          let w = h.covers t s in
          let v = turn_within i j w.0 (length l) li lj w.1 in
          (turn i j w.0, omega arith, turned l i j (turn i j w.0) origin li lj ∙ (ap (λ k. get_or l k origin) (turn_turn i j w.0) ∙ w.2));
    }

pub full_kept : (stretches : List (List TileAt)) (p q : List TileAt) → IsPermutation p q → IsFull stretches p → IsFull stretches q
full_kept stretches p q m h = IsPermutation-keeps p (λ l. IsFull stretches l) h (λ l i j li lj f. full_swap stretches l i j li lj f) q m

or_right : (a b : Bool) → b ≡ true → (a || b) ≡ true
or_right true b h = refl
or_right false b h = h

or_left : (a b : Bool) → a ≡ true → (a || b) ≡ true
or_left true b h = refl
or_left false b h = absurd (cc)

free_at : (chunks : List (Option (ℕ × ℕ))) (extra c : ℕ) → c < length chunks → get_or (free_of chunks extra) c false ≡ not (is_rigid chunks (chunk_of chunks c))
free_at chunks extra c lt =
    let n = length-map chunks (λ own. not (is_rigid chunks own)) in
    get_or_append_left (map (λ own. not (is_rigid chunks own)) chunks) (replicate extra true) false c (omega arith)
    ∙ get_or-map (λ own. not (is_rigid chunks own)) chunks c None false lt

free_behind : (chunks : List (Option (ℕ × ℕ))) (extra d : ℕ) → length chunks ≤ d → d < length chunks + extra → get_or (free_of chunks extra) d false ≡ true
free_behind chunks extra d le lt =
    let n = length-map chunks (λ own. not (is_rigid chunks own)) in
    get_or-append_right (map (λ own. not (is_rigid chunks own)) chunks) (replicate extra true) d false (omega arith)
    ∙ get_or-replicate extra (d - length (map (λ own. not (is_rigid chunks own)) chunks)) true false (omega arith)

low_rigid : (chunks : List (Option (ℕ × ℕ))) (c d : ℕ) → d < length chunks → is_next (chunk_of chunks c) (chunk_of chunks d) ≡ true → is_rigid chunks (chunk_of chunks c) ≡ true
low_rigid chunks c d lt h = list_any_at (λ other. is_next (chunk_of chunks c) other || is_next other (chunk_of chunks c)) chunks d None lt (or_left (is_next (chunk_of chunks c) (chunk_of chunks d)) (is_next (chunk_of chunks d) (chunk_of chunks c)) h)

high_rigid : (chunks : List (Option (ℕ × ℕ))) (c d : ℕ) → c < length chunks → is_next (chunk_of chunks c) (chunk_of chunks d) ≡ true → is_rigid chunks (chunk_of chunks d) ≡ true
high_rigid chunks c d lt h = list_any_at (λ other. is_next (chunk_of chunks d) other || is_next other (chunk_of chunks d)) chunks c None lt (or_right (is_next (chunk_of chunks d) (chunk_of chunks c)) (is_next (chunk_of chunks c) (chunk_of chunks d)) h)

-- the same tiles in another order, with each run on linked sites
pub legal_linked : (stretches : List (List TileAt)) (chunks : List (Option (ℕ × ℕ))) (p q : List TileAt)
    → length chunks ≤ length p → IsPermutation p q → IsFull stretches p → IsLinked stretches chunks q → IsLegal stretches chunks (take (length chunks) q)
legal_linked stretches chunks p q n moved full linked =
    let f = full_kept stretches p q moved full in
    let m = length_permutation p q moved in
    let lq = length-take-le (length chunks) q (omega arith) in
    let at : (c : ℕ) → c < length chunks → get_or (take (length chunks) q) c origin ≡ get_or q c origin = λ c lt. get_or-take (length chunks) q c origin lt in
    record {
      counts = lq;
      sites = λ c lt. subst (λ (t : TileAt). IsAmong stretches t) (sym (at c (omega arith))) (f.sites c (omega arith));
      apart = λ c d lc ld e. f.apart c d (omega arith) (omega arith) (sym (at c (omega arith)) ∙ (e ∙ at d (omega arith)));
      linked = λ c d lc ld h.
          let kc : c < length chunks = omega arith in
          let kd : d < length chunks = omega arith in
          subst (λ (t : TileAt). Follows stretches t (get_or (take (length chunks) q) d origin)) (sym (at c kc))
          (subst (λ (t : TileAt). Follows stretches (get_or q c origin) t) (sym (at d kd)) (linked c d kc kd h));
    }

-- what keeps the rigid clusters keeps the runs on linked sites
linked_kept : (stretches : List (List TileAt)) (chunks : List (Option (ℕ × ℕ))) (extra : ℕ) (p q : List TileAt)
    → length p ≡ length chunks + extra → Keeps (free_of chunks extra) p q → IsLegal stretches chunks (take (length chunks) p) → IsLinked stretches chunks q
linked_kept stretches chunks extra p q n keeps legal c d kc kd h =
    let lp = length-take-le (length chunks) p (omega arith) in
    let same : (c : ℕ) → c < length chunks → is_rigid chunks (chunk_of chunks c) ≡ true → get_or (take (length chunks) p) c origin ≡ get_or q c origin
    = λ c lt r. get_or-take (length chunks) p c origin lt ∙ sym (keeps.rigid c (free_at chunks extra c lt ∙ ap not r)) in
    subst (λ (t : TileAt). Follows stretches t (get_or q d origin)) (same c kc (low_rigid chunks c d kd h))
    (subst (λ (t : TileAt). Follows stretches (get_or (take (length chunks) p) c origin) t) (same d kd (high_rigid chunks c d kc h))
    (legal.linked c d (omega arith) (omega arith) h))

-- and a legal placement
pub legal_kept : (stretches : List (List TileAt)) (chunks : List (Option (ℕ × ℕ))) (extra : ℕ) (p q : List TileAt)
    → length p ≡ length chunks + extra → Keeps (free_of chunks extra) p q → IsFull stretches p → IsLegal stretches chunks (take (length chunks) p) → IsLegal stretches chunks (take (length chunks) q)
legal_kept stretches chunks extra p q n keeps full legal =
    legal_linked stretches chunks p q (omega arith) keeps.moved full (linked_kept stretches chunks extra p q n keeps legal)

least_any : (nets : List NetNodes) (free : List Bool) (p : List TileAt) (count c d : ℕ) → length free ≡ length p → IsLeast nets free p count → c < count → c < length p → d < length p → IsFree free c → IsFree free d
    → wire_length nets p ≤ wire_length nets (swap p c d)
least_any nets free p count c d n least lc kc kd fc fd =
    elim (cases_order c d) [
      | inl e ↦ subst (λ j. wire_length nets p ≤ wire_length nets (swap p c j)) e (let s = ap (wire_length nets) (swap_same p c kc) in omega arith)
      | inr o ↦ elim o [
        | inl lt ↦ least c lc d lt (omega arith) fc fd
        | inr lt ↦ subst (λ (l : List TileAt). wire_length nets p ≤ wire_length nets l) (swap_comm p d c kd kc) (least d (omega arith) c lt (omega arith) fd fc)
      ]
    ]

pub swap_least : (nets : List NetNodes) (stretches : List (List TileAt)) (chunks : List (Option (ℕ × ℕ))) (extra : ℕ) (p : List TileAt)
    → length p ≡ length chunks + extra → length (free_of chunks extra) ≡ length p → All (IsNet (length chunks)) nets → IsFull stretches p
    → IsLeast nets (free_of chunks extra) p (length chunks) → IsSwapLeast (wire_length nets) chunks stretches (take (length chunks) p)
swap_least nets stretches chunks extra p n m within full least =
    let k = length chunks in
    let l = length-take-le k p (omega arith) in
    let short = agree k (take k p) p (λ e lt. get_or-take k p e origin lt) nets within in
    record {
      exchanges = λ c d lc ld rc rd.
          let kc : c < k = omega arith in
          let kd : d < k = omega arith in
          let le = least_any nets (free_of chunks extra) p k c d m least kc (omega arith) (omega arith) (free_at chunks extra c kc ∙ ap not rc) (free_at chunks extra d kd ∙ ap not rd) in
          let e = agree k (swap (take k p) c d) (swap p c d) (λ e lt.
          turned (take k p) c d e origin lc ld ∙ (get_or-take k p (turn c d e) origin (turn_within c d e k kc kd lt) ∙ sym (turned p c d e origin (omega arith) (omega arith)))) nets within in
          omega arith;
      moves = λ c t lc rc site apart.
          let kc : c < k = omega arith in
          let w = full.covers t site in
          let behind : k ≤ w.0 = elim (cases_lt w.0 k) [ inl lt ↦ absurd (apart w.0 (omega arith) (get_or-take k p w.0 origin lt ∙ w.2)) | inr le ↦ le ] in
          let ld = w.1 in
          let kp : c < length p = omega arith in
          let le = least_any nets (free_of chunks extra) p k c w.0 m least kc kp w.1 (free_at chunks extra c kc ∙ ap not rc) (free_behind chunks extra w.0 behind (omega arith)) in
          let s = swapped_from_swap p (swap p c w.0) c w.0 origin kp w.1 refl in
          let e = agree k (set (take k p) c t) (swap p c w.0) (λ e lt. elim (cases_eq e c) [
            | inl same ↦ subst (λ j. get_or (set (take k p) c t) j origin ≡ get_or (swap p c w.0) j origin) (sym same) (get_or-set_same (take k p) c t origin lc ∙ (sym w.2 ∙ sym s.0))
            | inr ne ↦ get_or-set_other (take k p) c e t origin ne ∙ (get_or-take k p e origin lt ∙ sym (s.2 e ne (λ q. absurd (omega arith))))
          ]) nets within in
          omega arith;
    }

pub length_free : (chunks : List (Option (ℕ × ℕ))) (extra : ℕ) → length (free_of chunks extra) ≡ length chunks + extra
length_free chunks extra =
    let n = length-map chunks (λ own. not (is_rigid chunks own)) in
    let a = length-append (map (λ own. not (is_rigid chunks own)) chunks) (replicate extra true) in
    let r = length-replicate extra true in
    omega arith

-- as many may be exchanged or not as there are places
pub free_places : (chunks : List (Option (ℕ × ℕ))) (free : List Bool) (n : ℕ) → length chunks ≤ n → free ≡ free_of chunks (n - length chunks) → length free ≡ n
free_places chunks free n le e = let f = ap length e in let m = length_free chunks (n - length chunks) in omega arith
