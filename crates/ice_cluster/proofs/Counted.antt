-- How often a cell stands in the groups of a design.
use Rattle.std.proofs.Common.{◌≡◌, ◌⊎◌, ℕ, zero, suc, ◌+◌, ◌*◌, ◌/◌, ◌≤◌, Bool, true, false, cond, Option, None, Some, List, [], ◌∷◌, ◌++◌, length, map, take, drop, get_or, refl, ap, sym, ◌∙◌, subst, arith, inl, inr}
use Rattle.std.specs.Prelude.{◌==◌, filter, filter_map, fold, IsPermutation}
use Rattle.std.specs.List.{range_with_len, flat_map, list_any, cons_option}
use Rattle.std.proofs.lemmas.Bool.{eqb-true}
use Rattle.std.proofs.lemmas.Option.{none-some}
use Rattle.std.proofs.lemmas.List.{take-append-drop, drop-drop, drop_all}
use Rattle.std.proofs.lemmas.List.Sorted.{IsPermutation-map}
use Rattle.ice_base_values.specs.Order.{Has, StandOnce}
use Rattle.ice_base_values.proofs.Members.{At_left, Has_cases, any_Has}
use Rattle.ice_base_values.proofs.Places.{At_push_new}
use Rattle.ice_cells.specs.declared.cell.Control.{Control}
use Rattle.ice_cells.specs.declared.cell.LogicCell.{LogicCell}
use Rattle.ice_cells.specs.declared.cluster.TileCells.{TileCells}
use Rattle.ice_cells.specs.declared.design.Run.{Run}
use Rattle.ice_cells.specs.Clusters.{room, filled, left, run_piece, run_pieces, runs_pieces, set_piece, set_pieces, sets_pieces, plain_piece, plain_pieces, run_cells, held_list, flop_if, flop_at, plain_if, plain_at, loose_flops, loose_plains}
use Rattle.ice_cells.specs.Clusterings.{opened_by, groups_by}
use Rattle.ice_cells.specs.Pieces.{pieces_count, piece, control_at}
use Rattle.ice_cells.specs.Same.{same_control}
use Rattle.ice_cells.specs.Sets.{FlopCell, with_set, sets_of, cells_with}
use Rattle.ice_cells.proofs.SameControls.{same_control_is, same_control_self}
use Rattle.ice_cluster.proofs.Grouping.{sets_once, none_once}
use Rattle.ice_cluster.proofs.Tallies.{nothing_before, one_if, tally, tally_append, tally_permuted, before_it, never_next}

abbrev pub group_cells : TileCells → List ℕ
group_cells group = group.cells

abbrev pub members_of : List TileCells → List ℕ
members_of groups = flat_map group_cells groups

-- ---- numbers
both_more : (m x g r : ℕ) → m ≡ x + r → g + m ≡ g + x + r
both_more m x g r e = omega arith

filled_sum : (front t d ps g rest left_ whole gs top : ℕ) → front ≡ g + t → t + d ≡ ps → whole ≡ front + rest → rest + left_ ≡ gs + d → top ≡ g + gs → whole + left_ ≡ top + ps
filled_sum front t d ps g rest left_ whole gs top a b c e f = omega arith

-- ---- groups, one behind the other
pub members_append : (c : ℕ) (a b : List TileCells) → tally c (members_of (a ++ b)) ≡ tally c (members_of a) + tally c (members_of b)
members_append c [] b = nothing_before (tally c (members_of b))
members_append c (g ∷ a) b =
    tally_append c g.cells (members_of (a ++ b)) ∙ both_more (tally c (members_of (a ++ b))) (tally c (members_of a)) (tally c g.cells) (tally c (members_of b)) (members_append c a b)
    ∙ ap (λ n. n + tally c (members_of b)) (sym (tally_append c g.cells (members_of a)))

-- what fills groups, and what is left
pub filled_tally : (c : ℕ) (groups : List TileCells) (plains : List ℕ) → tally c (members_of (filled groups plains)) + tally c (left groups plains) ≡ tally c (members_of groups) + tally c plains
filled_tally c [] plains = refl
filled_tally c (g ∷ groups) plains =
    filled_sum (tally c (g.cells ++ take (room g) plains)) (tally c (take (room g) plains)) (tally c (drop (room g) plains)) (tally c plains) (tally c g.cells)
    (tally c (members_of (filled groups (drop (room g) plains)))) (tally c (left groups (drop (room g) plains))) (tally c (members_of (filled (g ∷ groups) plains))) (tally c (members_of groups))
    (tally c (members_of (g ∷ groups)))
    (tally_append c g.cells (take (room g) plains))
    (sym (tally_append c (take (room g) plains) (drop (room g) plains)) ∙ ap (tally c) (take-append-drop (room g) plains))
    (tally_append c (g.cells ++ take (room g) plains) (members_of (filled groups (drop (room g) plains))))
    (filled_tally c groups (drop (room g) plains))
    (tally_append c g.cells (members_of groups))

-- ---- pieces of eight
one_piece_more : (k : ℕ) → 8 * k + 8 ≡ 8 * (k + 1)
one_piece_more k = omega arith

pub pieces_from : (xs : List ℕ) (m k : ℕ) → length xs ≤ 8 * (k + m) → flat_map (piece xs) (range_with_len k m) ≡ drop (8 * k) xs
pieces_from xs zero k le = sym (drop_all (8 * k) xs (omega arith))
pieces_from xs (suc m) k le =
    ap (λ ys. piece xs k ++ ys) (pieces_from xs m (k + 1) (omega arith) ∙ ap (λ n. drop n xs) (sym (one_piece_more k)) ∙ sym (drop-drop 8 (8 * k) xs))
    ∙ take-append-drop 8 (drop (8 * k) xs)

pub enough_pieces : (n : ℕ) → n ≤ 8 * (0 + (n + 7) / 8)
enough_pieces n = omega arith

pub pieces_all : (xs : List ℕ) → flat_map (piece xs) (range_with_len 0 (pieces_count xs)) ≡ xs
pieces_all xs = pieces_from xs (pieces_count xs) 0 (enough_pieces (length xs))

pub members_pieces : (f : ℕ → TileCells) (xs : List ℕ) → ((k : ℕ) → group_cells (f k) ≡ piece xs k) → (ks : List ℕ) → members_of (map f ks) ≡ flat_map (piece xs) ks
members_pieces f xs same [] = refl
members_pieces f xs same (k ∷ ks) = λ i. same k i ++ members_pieces f xs same ks i

pub members_all : (f : ℕ → TileCells) (xs : List ℕ) → ((k : ℕ) → group_cells (f k) ≡ piece xs k) → members_of (map f (range_with_len 0 (pieces_count xs))) ≡ xs
members_all f xs same = members_pieces f xs same (range_with_len 0 (pieces_count xs)) ∙ pieces_all xs

pub runs_tally : (c : ℕ) (cells : List LogicCell) (r : ℕ) (runs : List Run) → tally c (members_of (runs_pieces cells r runs)) ≡ tally c (flat_map run_cells runs)
runs_tally c cells r [] = refl
runs_tally c cells r (run ∷ runs) =
    members_append c (run_pieces cells r run) (runs_pieces cells (r + 1) runs)
    ∙ (λ i. tally c (members_all (run_piece cells r run.cells) run.cells (λ k. refl) i) + runs_tally c cells (r + 1) runs i)
    ∙ sym (tally_append c run.cells (flat_map run_cells runs))

pub sets_members : (c : ℕ) (f : Control → List ℕ) (sets : List Control) → tally c (members_of (flat_map (λ control. set_pieces control (f control)) sets)) ≡ tally c (flat_map f sets)
sets_members c f [] = refl
sets_members c f (s ∷ sets) =
    members_append c (set_pieces s (f s)) (flat_map (λ control. set_pieces control (f control)) sets)
    ∙ (λ i. tally c (members_all (set_piece s (f s)) (f s) (λ k. refl) i) + sets_members c f sets i)
    ∙ sym (tally_append c (f s) (flat_map f sets))

-- ---- each flip-flop stands with one control set
-- the number once for each control set that is the same
abbrev pub total : Control → ℕ → List Control → ℕ
total control n [] = 0
total control n (s ∷ sets) = cond (same_control control s) n 0 + total control n sets

nothing_more : (b : Bool) (n r : ℕ) → b ≡ false → r ≡ 0 → cond b n 0 + r ≡ 0
nothing_more true n r e f = cc
nothing_more false n r e f = omega arith

that_alone : (b : Bool) (n r : ℕ) → b ≡ true → r ≡ 0 → cond b n 0 + r ≡ n
that_alone true n r e f = omega arith
that_alone false n r e f = cc

later : (b : Bool) (n r : ℕ) → b ≡ false → r ≡ n → cond b n 0 + r ≡ n
later true n r e f = cc
later false n r e f = omega arith

other_set : (control s : Control) → (control ≡ s → ⊥) → same_control control s ≡ false
other_set control s ne = by (same_control control s) refl
  where
    by : (b : Bool) → same_control control s ≡ b → same_control control s ≡ false
    by false e = e
    by true e = absurd (ne (same_control_is control s e))

hit_none : (control : Control) (n : ℕ) (sets : List Control) → (Has sets control → ⊥) → total control n sets ≡ 0
hit_none control n [] none = refl
hit_none control n (s ∷ sets) none =
    nothing_more (same_control control s) n (total control n sets) (other_set control s (λ e. none (0, ap Some (sym e)))) (hit_none control n sets (λ has. none (suc has.0, has.1)))

pub hit_once : (control : Control) (n : ℕ) (sets : List Control) → StandOnce sets → Has sets control → total control n sets ≡ n
hit_once control n [] once has = absurd (none-some control has.1)
hit_once control n (s ∷ sets) once has = by (Has_cases s control sets has) (hit_once control n sets (λ i j p a b. before_it i j (once (suc i) (suc j) p a b)))
  where
    by : (s ≡ control) ⊎ Has sets control → (Has sets control → total control n sets ≡ n) → total control n (s ∷ sets) ≡ n
    by (inl e) rest =
        that_alone (same_control control s) n (total control n sets) (ap (same_control control) e ∙ same_control_self control)
        (hit_none control n sets (λ again. never_next again.0 (once 0 (suc again.0) control (ap Some e) again.1)))
    by (inr more) rest =
        later (same_control control s) n (total control n sets) (other_set control s (λ e. never_next more.0 (once 0 (suc more.0) control (ap Some (sym e)) more.1))) (rest more)

abbrev first_of : FlopCell → ℕ
first_of flop = flop.0

one_set : (c : ℕ) (flop : FlopCell) (flops : List FlopCell) (s : Control)
    → tally c (cells_with (flop ∷ flops) s) ≡ cond (same_control flop.1 s) (one_if (flop.0 == c)) 0 + tally c (cells_with flops s)
one_set c flop flops s = by (same_control flop.1 s)
  where
    by : (b : Bool) → tally c (map first_of (cond b (flop ∷ filter (λ (x : FlopCell). same_control x.1 s) flops) (filter (λ (x : FlopCell). same_control x.1 s) flops)))
        ≡ cond b (one_if (flop.0 == c)) 0 + tally c (cells_with flops s)
    by true = refl
    by false = none_more (tally c (cells_with flops s))
      where
        none_more : (n : ℕ) → n ≡ 0 + n
        none_more n = omega arith

pub four : (a b c d : ℕ) → a + b + (c + d) ≡ a + c + (b + d)
four a b c d = omega arith

one_flop : (c : ℕ) (flop : FlopCell) (flops : List FlopCell) (sets : List Control)
    → tally c (flat_map (cells_with (flop ∷ flops)) sets) ≡ total flop.1 (one_if (flop.0 == c)) sets + tally c (flat_map (cells_with flops) sets)
one_flop c flop flops [] = refl
one_flop c flop flops (s ∷ sets) =
    tally_append c (cells_with (flop ∷ flops) s) (flat_map (cells_with (flop ∷ flops)) sets)
    ∙ (λ i. one_set c flop flops s i + one_flop c flop flops sets i)
    ∙ four (cond (same_control flop.1 s) (one_if (flop.0 == c)) 0) (tally c (cells_with flops s)) (total flop.1 (one_if (flop.0 == c)) sets) (tally c (flat_map (cells_with flops) sets))
    ∙ ap (λ n. total flop.1 (one_if (flop.0 == c)) (s ∷ sets) + n) (sym (tally_append c (cells_with flops s) (flat_map (cells_with flops) sets)))

no_flops : (c : ℕ) (sets : List Control) → tally c (flat_map (cells_with []) sets) ≡ 0
no_flops c [] = refl
no_flops c (s ∷ sets) = no_flops c sets

sets_tally : (c : ℕ) (sets : List Control) → StandOnce sets → (flops : List FlopCell) → ((flop : FlopCell) → Has flops flop → Has sets flop.1)
    → tally c (flat_map (cells_with flops) sets) ≡ tally c (map first_of flops)
sets_tally c sets once [] has = no_flops c sets
sets_tally c sets once (flop ∷ flops) has =
    one_flop c flop flops sets
    ∙ (λ i. hit_once flop.1 (one_if (flop.0 == c)) sets once (has flop (0, refl)) i + sets_tally c sets once flops (λ x there. has x (suc there.0, there.1)) i)

-- ---- each flip-flop's control set is among them
old_set : (sets : List Control) (control x : Control) → Has sets x → Has (with_set sets control) x
old_set sets control x has = by (list_any (same_control control) sets)
  where
    by : (b : Bool) → Has (cond b sets (sets ++ control ∷ [])) x
    by true = has
    by false = (has.0, At_left sets (control ∷ []) has.0 x has.1)

new_set : (sets : List Control) (control : Control) → Has (with_set sets control) control
new_set sets control = by (list_any (same_control control) sets) refl
  where
    by : (b : Bool) → list_any (same_control control) sets ≡ b → Has (cond b sets (sets ++ control ∷ [])) control
    by true e =
        let known = any_Has (same_control control) sets e in
        subst (λ (x : Control). Has sets x) (sym (same_control_is control known.0 known.2)) known.1
    by false e = (length sets, At_push_new sets control)

sets_old : (controls sets : List Control) (x : Control) → Has sets x → Has (fold with_set sets controls) x
sets_old [] sets x has = has
sets_old (control ∷ controls) sets x has = sets_old controls (with_set sets control) x (old_set sets control x has)

pub sets_have : (flops : List FlopCell) (sets : List Control) (flop : FlopCell) → Has flops flop → Has (fold with_set sets (map (λ (x : FlopCell). x.1) flops)) flop.1
sets_have [] sets flop has = absurd (none-some flop has.1)
sets_have (x ∷ flops) sets flop has = by (Has_cases x flop flops has) (sets_have flops (with_set sets x.1) flop)
  where
    by : (x ≡ flop) ⊎ Has flops flop → (Has flops flop → Has (fold with_set (with_set sets x.1) (map (λ (x : FlopCell). x.1) flops)) flop.1)
        → Has (fold with_set (with_set sets x.1) (map (λ (x : FlopCell). x.1) flops)) flop.1
    by (inr more) rest = rest more
    by (inl e) rest =
        sets_old (map (λ (x : FlopCell). x.1) flops) (with_set sets x.1) flop.1 (subst (λ (y : FlopCell). Has (with_set sets x.1) y.1) e (new_set sets x.1))

pub all_sets_tally : (c : ℕ) (flops : List FlopCell) → tally c (members_of (sets_pieces flops)) ≡ tally c (map first_of flops)
all_sets_tally c flops =
    sets_members c (cells_with flops) (sets_of flops)
    ∙ sets_tally c (sets_of flops) (sets_once (map (λ (x : FlopCell). x.1) flops) [] none_once) flops (sets_have flops [])

-- ---- cells that stand in no run
abbrev pub held_at : List Bool → ℕ → Bool
held_at held c = get_or held c false

loose_step : (hk hc e : Bool) → (e ≡ true → hk ≡ hc) → (s t : ℕ) → s ≡ cond hc 0 t → cond hk 0 (one_if e) + s ≡ cond hc 0 (one_if e + t)
loose_step true true e same s t is = omega arith
loose_step true false true same s t is = (let bad = same refl in cc bad)
loose_step true false false same s t is = omega arith
loose_step false true true same s t is = (let bad = same refl in cc bad)
loose_step false true false same s t is = omega arith
loose_step false false e same s t is = omega arith

assoc_one : (o a b : ℕ) → o + a + b ≡ o + (a + b)
assoc_one o a b = omega arith

swap_one : (o a b : ℕ) → a + (o + b) ≡ o + (a + b)
swap_one o a b = omega arith

none_one : (a b : ℕ) → a + b ≡ 0 + (a + b)
none_one a b = omega arith

sorted_one : (c k : ℕ) (h : Bool) (control : Option Control) (fs : List FlopCell) (ps : List ℕ)
    → tally c (map first_of (cons_option (flop_if h k control) fs)) + tally c (cons_option (plain_if h k control) ps) ≡ cond h 0 (one_if (k == c)) + (tally c (map first_of fs) + tally c ps)
sorted_one c k true control fs ps = none_one (tally c (map first_of fs)) (tally c ps)
sorted_one c k false None fs ps = swap_one (one_if (k == c)) (tally c (map first_of fs)) (tally c ps)
sorted_one c k false (Some x) fs ps = assoc_one (one_if (k == c)) (tally c (map first_of fs)) (tally c ps)

loose_tally : (c : ℕ) (held : List Bool) (cells : List LogicCell) (ks : List ℕ)
    → tally c (map first_of (filter_map (flop_at held cells) ks)) + tally c (filter_map (plain_at held cells) ks) ≡ cond (held_at held c) 0 (tally c ks)
loose_tally c held cells [] = by (held_at held c)
  where
    by : (b : Bool) → ◌≡◌ {A = ℕ} 0 (cond b 0 0)
    by true = refl
    by false = refl
loose_tally c held cells (k ∷ ks) =
    sorted_one c k (held_at held k) (control_at cells k) (filter_map (flop_at held cells) ks) (filter_map (plain_at held cells) ks)
    ∙ loose_step (held_at held k) (held_at held c) (k == c) (λ e. ap (held_at held) (eqb-true k c e))
    (tally c (map first_of (filter_map (flop_at held cells) ks)) + tally c (filter_map (plain_at held cells) ks)) (tally c ks) (loose_tally c held cells ks)

-- ---- all groups
all_sum : (filled_ left_ opened_ plains runs flops loose : ℕ) → filled_ + left_ ≡ opened_ + plains → opened_ ≡ runs + flops → flops + plains ≡ loose → filled_ + left_ ≡ runs + loose
all_sum filled_ left_ opened_ plains runs flops loose a b c = omega arith

pub groups_tally : (c : ℕ) (cells : List LogicCell) (runs : List Run) (flops : List FlopCell) (plains : List ℕ) → IsPermutation (loose_flops cells runs) flops → IsPermutation (loose_plains cells runs) plains
    → tally c (members_of (groups_by cells runs flops plains)) ≡ tally c (flat_map run_cells runs) + cond (held_at (held_list runs (length cells)) c) 0 (tally c (range_with_len 0 (length cells)))
groups_tally c cells runs flops plains flops_are plains_are =
    members_append c (filled (opened_by cells runs flops) plains) (plain_pieces (left (opened_by cells runs flops) plains))
    ∙ ap (λ xs. tally c (members_of (filled (opened_by cells runs flops) plains)) + tally c xs)
    (members_all (plain_piece (left (opened_by cells runs flops) plains)) (left (opened_by cells runs flops) plains) (λ k. refl))
    ∙ all_sum (tally c (members_of (filled (opened_by cells runs flops) plains))) (tally c (left (opened_by cells runs flops) plains)) (tally c (members_of (opened_by cells runs flops)))
    (tally c plains) (tally c (flat_map run_cells runs)) (tally c (map first_of flops))
    (cond (held_at (held_list runs (length cells)) c) 0 (tally c (range_with_len 0 (length cells))))
    (filled_tally c (opened_by cells runs flops) plains)
    (members_append c (runs_pieces cells 0 runs) (sets_pieces flops) ∙ (λ i. runs_tally c cells 0 runs i + all_sets_tally c flops i))
    ((λ i. tally_permuted c (map first_of (loose_flops cells runs)) (map first_of flops) (IsPermutation-map first_of (loose_flops cells runs) flops flops_are) i
    + tally_permuted c (loose_plains cells runs) plains plains_are i)
    ∙ loose_tally c (held_list runs (length cells)) cells (range_with_len 0 (length cells)))
