-- From levels to columns, and what columns say of walks.
use Rattle.std.proofs.Common.{◌≡◌, ℕ, zero, suc, ◌+◌, ◌≤◌, ◌<◌, List, [], ◌∷◌, ◌++◌, Bool, true, false, Option, Some, None, length, slice_get, slice_index, eqb, refl, sym, ap, ◌∙◌, subst, arith, inl, inr, ◌⊎◌}
use Rattle.std.specs.Prelude.{if◌then◌else◌}
use Rattle.std.specs.Prelude.{Vec, get_or, option_map}
use Rattle.std.specs.declared.alloc.Global.{Global}
use Rattle.std.specs.Int.{bit_at}
use Rattle.std.proofs.lemmas.Bool.{cases_eq, cases_lt, eqb-true}
use Rattle.std.proofs.lemmas.List.{get_or_append_left, get_or_past, get_or_push, length-map, length_push}
use Rattle.std.proofs.lemmas.Option.{same_Some, slice_get_within, slice_get_cases, slice_get_read, slice_get-get_or, slice_get-map}
use Rattle.ice_base_values.proofs.Places.{At_push_cases}
use Rattle.ice_base.specs.declared.number.WireNo.{WireNo}
use Rattle.ice_graph.specs.declared.edge.Edge.{Edge}
use Rattle.ice_graph.specs.Network.{AreBetween}
use Rattle.ice_graph.specs.Hops.{AreColumns, AreHops, HopsFall, IsColumn, hop, said, set_at}
use Rattle.ice_graph.specs.Levels.{AreAll, AreLevels, Draws, IsColumnOf, IsFirstLevel, Reaches, lists_of}
use Rattle.ice_graph.specs.Walks.{HasEdge, IsTarget, IsWalk}

-- ---- what a number says
pub said_none : (n : ℕ) → n ≡ 255 → said n ≡ None
said_none n is = ap said is

pub said_some : (n : ℕ) → (n ≡ 255 → ⊥) → said n ≡ Some n
said_some n other = by_test (eqb n 255) refl
  where
    by_test : (b : Bool) → eqb n 255 ≡ b → said n ≡ Some n
    by_test true is = absurd (other (eqb-true n 255 is))
    by_test false is = ap (λ b. if b then None else Some n) is

-- a number that says something is what it says, and not 255
pub said_back : (n k : ℕ) → said n ≡ Some k → (n ≡ k) × (k ≡ 255 → ⊥)
said_back n k h = elim (cases_eq n 255) [
  | inl bad ↦ absurd (let e : None ≡ Some k = sym (said_none n bad) ∙ h in cc)
  | inr other ↦ (let e : n ≡ k = same_Some n k (sym (said_some n other) ∙ h) in (e, λ bad. other (e ∙ bad)))
]

-- ---- a walk has at least as many rows
pub least : (edges : List Edge) (targets : List WireNo) (column : List ℕ) (w t : ℕ) (walk : List Edge) → AreHops edges targets column → IsTarget targets t → IsWalk edges w walk t → (k : ℕ) × (hop column w ≡ Some k) × (k ≤ length walk)
least edges targets column w t [] h target is = (0, ap (hop column) is ∙ h.home t target, omega arith)
least edges targets column w t (e ∷ walk) h target is =
    let rest = least edges targets column e.to.0 t walk h target is.2 in
    let step = h.falls e rest.0 is.0 rest.1 in
    (step.0, ap (hop column) (sym is.1) ∙ step.1, (let a = step.2 in let b = rest.2 in omega (arith, a, b)))

-- ---- columns of levels
pub column_none : (levels : List (List ℕ)) (b : ℕ) (column : List ℕ) → column ≡ [] → IsColumnOf levels 0 b column
column_none levels b column is = record { long = ap length is; each = λ w lt. absurd (omega (arith, lt)) }

pub column_more : (levels : List (List ℕ)) (n b : ℕ) (column : List ℕ) (x : ℕ) → IsColumnOf levels n b column → IsFirstLevel levels n b x → IsColumnOf levels (n + 1) b (column ++ x ∷ [])
column_more levels n b column x h first = record {
  long = (let l = length_push column x in let e = h.long in omega (arith, l, e));
  each = λ w lt. elim (cases_eq w n) [
    | inl same ↦ subst (λ v. IsFirstLevel levels w b v) (sym (get_or_push column x 0 w (let e = h.long in omega (arith, e, same)))) (subst (λ v. IsFirstLevel levels v b x) (sym same) first)
    | inr other ↦ (let low : w < n = grind arith in subst (λ v. IsFirstLevel levels w b v) (sym (get_or_append_left column (x ∷ []) 0 w (let e = h.long in omega (arith, e, low)))) (h.each w low))
  ];
}

-- a wire that is reached of a level has no higher number
reached_low : (levels : List (List ℕ)) (w b n k : ℕ) (level : List ℕ) → IsFirstLevel levels w b n → slice_get levels k ≡ Some level → Reaches level w b → n ≤ k
reached_low levels w b n k level h at on = elim (cases_lt k n) [ inl bad ↦ absurd (h.first k level bad at on) | inr le ↦ le ]

module _ (edges : List Edge) (homes : List ℕ) (levels : List (List ℕ)) (wires b : ℕ) (column : List ℕ) (between : AreBetween wires edges) (same : length homes ≡ wires) (h : AreLevels edges homes levels) (all : AreAll edges levels) (c : IsColumnOf levels wires b column) where
  low_hop : (w k : ℕ) (level : List ℕ) → w < wires → slice_get levels k ≡ Some level → Reaches level w b → (l : ℕ) × (hop column w ≡ Some l) × (l ≤ k)
  low_hop w k level lt at on =
      let le = reached_low levels w b (slice_index column w) k level (c.each w lt) at on in
      let within = slice_get_within levels k level at in
      let few = h.few in
      (slice_index column w, said_some (slice_index column w) (λ bad. absurd (omega (arith, le, within, few, bad))), le)

  drawn : (e : Edge) (k : ℕ) (level : List ℕ) → HasEdge edges e → slice_get levels k ≡ Some level → Reaches level e.to.0 b → (l : ℕ) × (hop column e.from.0 ≡ Some l) × (l ≤ k + 1)
  drawn e k level has at on = elim (slice_get_cases levels (k + 1)).1 [
    | inl t ↦ low_hop e.from.0 (k + 1) t.0 (between has.0 e has.1).0 t.2 ((h.next k level t.0 at t.2).drawn has.0 b e (slice_get_within edges has.0 e has.1) has.1 on)
    | inr t ↦ (
        let within = slice_get_within levels k level at in
        let past = t.0 in
        let r = low_hop e.from.0 k level (between has.0 e has.1).0 at ((all k level (omega (arith, within, past)) at).drawn has.0 b e (slice_get_within edges has.0 e has.1) has.1 on) in
        (r.0, r.1, (let le = r.2 in omega (arith, le))))
  ]

  pub falls_by_levels : HopsFall edges column
  falls_by_levels e k has at =
      let t = said_back (slice_index column e.to.0) k at in
      let first = c.each e.to.0 (between has.0 e has.1).1 in
      elim first.there [
        | inl none ↦ absurd (t.1 (sym t.0 ∙ none))
        | inr on ↦ drawn e k on.0 has (ap (λ i. slice_get levels i) (sym t.0) ∙ on.1) on.2
      ]

  pub home_by_levels : (w : ℕ) → w < wires → Reaches homes w b → hop column w ≡ Some 0
  home_by_levels w lt on = let r = low_hop w 0 homes lt h.first on in r.1 ∙ ap (λ n. Some n) (let le = r.2 in omega (arith, le))

-- ---- from each wire that is reached of a level a walk of no more rows leads to the set
module _ (edges : List Edge) (homes : List ℕ) (levels : List (List ℕ)) (b : ℕ) (h : AreLevels edges homes levels) where
  abbrev Walk : ℕ → ℕ → Type 0
  Walk w n = (t : ℕ) × (walk : List Edge) × Reaches homes t b × IsWalk edges w walk t × (length walk ≤ n)

  level_walk : (k w : ℕ) (level : List ℕ) → slice_get levels k ≡ Some level → Reaches level w b → Walk w k
  level_walk zero w level at on =
      let is : level ≡ homes = same_Some level homes (sym at ∙ h.first) in
      (w, [], subst (λ (xs : List ℕ). Reaches xs w b) is on, refl, omega arith)
  level_walk (suc k) w level at on =
      let lt = slice_get_within levels (suc k) level at in
      let before = slice_get-get_or levels k [] (omega (arith, lt)) in
      let e : suc k ≡ k + 1 = omega arith in
      let draws = h.next k (get_or levels k []) level before (ap (λ i. slice_get levels i) (sym e) ∙ at) in
      elim (draws.made w b on) [
        | inl was ↦ (let t = level_walk k w (get_or levels k []) before was in (t.0, t.1, t.2, t.3, (let le = t.4 in omega (arith, le))))
        | inr f ↦ (
            let t = level_walk k f.0.to.0 (get_or levels k []) before f.3 in
            (t.0, f.0 ∷ t.1, t.2, (f.1, f.2, t.3), (let le = t.4 in omega (arith, le))))
      ]

  pub column_walk : (wires : ℕ) (column : List ℕ) → IsColumnOf levels wires b column → (w k : ℕ) → w < length column → hop column w ≡ Some k → Walk w k
  column_walk wires column c w k lt at =
      let t = said_back (slice_index column w) k at in
      let first = c.each w (let long = c.long in omega (arith, lt, long)) in
      elim first.there [
        | inl none ↦ absurd (t.1 (sym t.0 ∙ none))
        | inr on ↦ level_walk k w on.0 (ap (λ i. slice_get levels i) (sym t.0) ∙ on.1) on.2
      ]

-- ---- lists behind vectors
pub list_at : (lists : List (Vec ℕ Global)) (i : ℕ) (v : Vec ℕ Global) → i < length lists → v ≡ get_or lists i v → slice_get (lists_of lists) i ≡ Some v.items
list_at lists i v lt is = slice_get-map (λ (x : Vec ℕ Global). x.items) lists i ∙ ap (option_map (λ (x : Vec ℕ Global). x.items)) (slice_get_read lists (length lists) i v refl lt is)

pub lists_long : (lists : List (Vec ℕ Global)) → length (lists_of lists) ≡ length lists
lists_long lists = length-map lists (λ (x : Vec ℕ Global). x.items)

-- ---- an empty column says 0 of each wire
pub hop_none : (w : ℕ) → hop [] w ≡ Some 0
hop_none w = refl

pub falls_none : (edges : List Edge) → HopsFall edges []
falls_none edges e k has at = (0, refl, omega arith)

nothing : (column : List ℕ) → length column ≡ 0 → column ≡ []
nothing [] long = refl
nothing (x ∷ column) long = absurd (cc)

-- ---- the column of a set
pub column_is : (edges : List Edge) (sets : List (Option ℕ)) (wires first b n : ℕ) (homes : List ℕ) (levels : List (List ℕ)) (column : List ℕ) → AreBetween wires edges → length sets ≡ wires → length homes ≡ length sets → b < 64
    → ((w c : ℕ) → c < 64 → set_at sets w ≡ Some (first + c) → Reaches homes w c) → ((w c : ℕ) → Reaches homes w c → set_at sets w ≡ Some (first + c)) → (0 < length levels → AreLevels edges homes levels) → AreAll edges levels → (length levels ≡ 0 → n ≡ 0) → (0 < length levels → n ≡ length sets)
    → IsColumnOf levels n b column → IsColumn edges sets (first + b) column
column_is edges sets wires first b n homes levels column between long homes_long b_lt home back h all none some c = elim (cases_lt 0 (length levels)) [
  | inl is ↦ (
      let col : IsColumnOf levels wires b column = subst (λ m. IsColumnOf levels m b column) (some is ∙ long) c in
      record {
        home = λ w at. home_by_levels edges homes levels wires b column between (homes_long ∙ long) (h is) all col w (let lt = in_sets sets w (first + b) at in omega (arith, lt, long)) (home w b b_lt at);
        falls = falls_by_levels edges homes levels wires b column between (homes_long ∙ long) (h is) all col;
        met = λ w k lt at. (let t = column_walk edges homes levels b (h is) wires column col w k lt at in (t.0, t.1, back t.0 b t.2, t.3, t.4));
      })
  | inr is ↦ (
      let empty : column ≡ [] = nothing column (c.long ∙ none (omega (arith, is))) in
      record {
        home = λ w at. ap (λ (xs : List ℕ). hop xs w) empty;
        falls = subst (HopsFall edges) (sym empty) (falls_none edges);
        met = λ w k lt at. absurd (let short = ap length empty in omega (arith, lt, short));
      })
]
  where
    in_sets : (sets : List (Option ℕ)) (w s : ℕ) → set_at sets w ≡ Some s → w < length sets
    in_sets sets w s at = elim (cases_lt w (length sets)) [ inl lt ↦ lt | inr past ↦ absurd (let e : None ≡ Some s = sym (get_or_past sets w None past) ∙ at in cc) ]

-- one column more
pub columns_more : (edges : List Edge) (sets : List (Option ℕ)) (columns : List (Vec ℕ Global)) (column : Vec ℕ Global) → AreColumns edges sets columns → IsColumn edges sets (length columns) column.items → AreColumns edges sets (columns ++ column ∷ [])
columns_more edges sets columns column h is s c at = elim (At_push_cases columns column s c at) [
  | inl old ↦ h s c old
  | inr new ↦ subst (λ (x : Vec ℕ Global). IsColumn edges sets s x.items) new.1 (subst (λ n. IsColumn edges sets n column.items) (sym new.0) is)
]

-- ---- the column of the set of all targets
pub hops_of_set : (edges : List Edge) (sets : List (Option ℕ)) (s : ℕ) (targets : List WireNo) (column : List ℕ) → ((k : ℕ) (t : WireNo) → slice_get targets k ≡ Some t → set_at sets t.0 ≡ Some s) → IsColumn edges sets s column → AreHops edges targets column
hops_of_set edges sets s targets column all c = record {
  home = λ w t. c.home w (ap (set_at sets) (sym t.3) ∙ all t.0 t.1 t.2);
  falls = c.falls;
}

pub hops_none : (edges : List Edge) (targets : List WireNo) → AreHops edges targets []
hops_none edges targets = record { home = λ w t. refl; falls = falls_none edges }
