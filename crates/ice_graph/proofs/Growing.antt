-- The boxes of wires grow by one edge after another, and the greatest half perimeter with them.
use Rattle.std.proofs.Common.{◌≡◌, ◌≢◌, ℕ, true, nat_le, ◌+◌, ◌<◌, ◌≤◌, List, Option, Some, None, length, slice_get, slice_set, refl, sym, ap, ◌∙◌, subst, arith, rules, tests, inl, inr, ◌⊎◌, get_or-set_same, get_or-set_other, length-set}
use Rattle.std.specs.Prelude.{◌&&◌, max, min}
use Rattle.std.proofs.lemmas.Bool.{and_parts, cases_eq}
use Rattle.std.proofs.lemmas.List.{set-get_or}
use Rattle.ice_base.specs.declared.number.TileAt.{TileAt}
use Rattle.ice_graph.specs.declared.edge.Edge.{Edge}
use Rattle.ice_graph.specs.declared.extent.Extent.{Extent}
use Rattle.ice_graph.specs.Boxes.{box_at, holds, grown, grown_by, HoldsTile, HoldsAll, LiesIn, Touches, IsBoxOf, AreBoxesUpTo, IsSpreadUpTo, box_of, half_perimeter}

grown_holds : (b : Extent) (tile t : TileAt) → HoldsTile b t → HoldsTile (grown b tile) t
grown_holds b tile t h = (omega (arith, h.0), omega (arith, h.1), omega (arith, h.2), omega (arith, h.3))

grown_new : (b : Extent) (tile : TileAt) → HoldsTile (grown b tile) tile
grown_new b tile = (omega arith, omega arith, omega arith, omega arith)

grown_least : (b c : Extent) (tile : TileAt) → LiesIn b c → HoldsTile c tile → LiesIn (grown b tile) c
grown_least b c tile h k = (omega (arith, h.0, k.0), omega (arith, h.1, k.1), omega (arith, h.2, k.2), omega (arith, h.3, k.3))

-- a box that holds the tile stays as it is
grown_same : (b : Extent) (tile : TileAt) → holds b tile ≡ true → grown b tile ≡ b
grown_same b tile e =
    let three = and_parts (nat_le b.west tile.x && nat_le tile.x b.east && nat_le b.south tile.y) (nat_le tile.y b.north) e in
    let two = and_parts (nat_le b.west tile.x && nat_le tile.x b.east) (nat_le b.south tile.y) three.0 in
    let one = and_parts (nat_le b.west tile.x) (nat_le tile.x b.east) two.0 in
    let low_x : nat_le b.west tile.x ≡ true = one.0 in
    let high_x : nat_le tile.x b.east ≡ true = one.1 in
    let low_y : nat_le b.south tile.y ≡ true = two.1 in
    let high_y : nat_le tile.y b.north ≡ true = three.1 in
    let w : b.west ≤ tile.x = search (rules, tests) in
    let e : tile.x ≤ b.east = search (rules, tests) in
    let s : b.south ≤ tile.y = search (rules, tests) in
    let n : tile.y ≤ b.north = search (rules, tests) in
    let west : min b.west tile.x ≡ b.west = omega (arith, w) in
    let east : max b.east tile.x ≡ b.east = omega (arith, e) in
    let south : min b.south tile.y ≡ b.south = omega (arith, s) in
    let north : max b.north tile.y ≡ b.north = omega (arith, n) in
    λ i. record { west = west i; east = east i; south = south i; north = north i }

pub box_stays : (boxes : List (Option Extent)) (w : ℕ) (b : Extent) (tile : TileAt) → box_of boxes w ≡ Some b → holds b tile ≡ true → boxes ≡ slice_set boxes w (Some (grown_by (box_of boxes w) tile))
box_stays boxes w b tile is held =
    sym (ap (λ o. slice_set boxes w (Some (grown_by o tile))) is
    ∙ ap (λ (x : Extent). slice_set boxes w (Some x)) (grown_same b tile held)
    ∙ ap (slice_set boxes w) (sym is)
    ∙ set-get_or boxes w None)

one_tile : (places : List TileAt) (n k : ℕ) (t tile : TileAt) → slice_get places k ≡ Some t → slice_get places n ≡ Some tile → k ≡ n → t ≡ tile
one_tile places n k t tile a b same = let e : Some t ≡ Some tile = sym a ∙ (ap (λ i. slice_get places i) same ∙ b) in (cc)

one_edge : (edges : List Edge) (n k : ℕ) (d e : Edge) → slice_get edges k ≡ Some d → slice_get edges n ≡ Some e → k ≡ n → d ≡ e
one_edge edges n k d e a b same = let s : Some d ≡ Some e = sym a ∙ (ap (λ i. slice_get edges i) same ∙ b) in (cc)

module _ (edges : List Edge) (places : List TileAt) (n : ℕ) (e : Edge) (tile : TileAt) (at : slice_get edges n ≡ Some e) (there : slice_get places n ≡ Some tile) where
  -- a box of fewer edges holds no less than all of them
  fewer : (w : ℕ) (c : Extent) → HoldsAll edges places (n + 1) w c → HoldsAll edges places n w c
  fewer w c h k d t lt = h k d t (omega arith)

  holds_more : (w : ℕ) (b : Extent) → HoldsAll edges places n w b → HoldsAll edges places (n + 1) w (grown b tile)
  holds_more w b h k d t lt here place touch = elim (cases_eq k n) [
    | inl same ↦ subst (HoldsTile (grown b tile)) (sym (one_tile places n k t tile place there same)) (grown_new b tile)
    | inr other ↦ grown_holds b tile t (h k d t (grind arith) here place touch)
  ]

  -- the edge enters the wire or leaves it
  grows : (w : ℕ) (o : Option Extent) → Touches e w → IsBoxOf edges places n w o → IsBoxOf edges places (n + 1) w (Some (grown_by o tile))
  grows w None touch h = (
    λ k d t lt here place touched. elim (cases_eq k n) [
      | inl same ↦ subst (HoldsTile (box_at tile)) (sym (one_tile places n k t tile place there same)) (omega arith, omega arith, omega arith, omega arith)
      | inr other ↦ absurd (h k d (grind arith) here touched)
    ],
    λ c all. all n e tile (omega arith) at there touch,
  )
  grows w (Some b) touch h = (holds_more w b h.0, λ c all. grown_least b c tile (h.1 c (fewer w c all)) (all n e tile (omega arith) at there touch))

  -- a box that has grown grows no more
  grows_again : (w : ℕ) (b : Extent) → Touches e w → IsBoxOf edges places (n + 1) w (Some b) → IsBoxOf edges places (n + 1) w (Some (grown b tile))
  grows_again w b touch h = (
    λ k d t lt here place touched. grown_holds b tile t (h.0 k d t lt here place touched),
    λ c all. grown_least b c tile (h.1 c all) (all n e tile (omega arith) at there touch),
  )

  -- the edge is at other wires
  stays : (w : ℕ) (o : Option Extent) → (Touches e w → ⊥) → IsBoxOf edges places n w o → IsBoxOf edges places (n + 1) w o
  stays w None other h = λ k d lt here touch. elim (cases_eq k n) [
    | inl same ↦ other (subst (λ (x : Edge). Touches x w) (one_edge edges n k d e here at same) touch)
    | inr less ↦ h k d (grind arith) here touch
  ]
  stays w (Some b) other h = (more b h.0, λ c all. h.1 c (fewer w c all))
    where
      more : (c : Extent) → HoldsAll edges places n w c → HoldsAll edges places (n + 1) w c
      more c all k d t lt here place touch = elim (cases_eq k n) [
        | inl same ↦ absurd (other (subst (λ (x : Edge). Touches x w) (one_edge edges n k d e here at same) touch))
        | inr less ↦ all k d t (grind arith) here place touch
      ]

  -- the boxes of both ends grow
  pub boxes_more : (wires : ℕ) (boxes one two : List (Option Extent)) → e.from.0 < wires → e.to.0 < wires
      → one ≡ slice_set boxes e.from.0 (Some (grown_by (box_of boxes e.from.0) tile)) → two ≡ slice_set one e.to.0 (Some (grown_by (box_of one e.to.0) tile))
      → AreBoxesUpTo wires edges places n boxes → AreBoxesUpTo wires edges places (n + 1) two
  boxes_more wires boxes one two from_lt to_lt first second h =
      let long : length one ≡ wires = ap length first ∙ (length-set boxes e.from.0 (Some (grown_by (box_of boxes e.from.0) tile)) ∙ h.long) in
      let long_boxes : length boxes ≡ wires = h.long in
      let from_now : box_of one e.from.0 ≡ Some (grown_by (box_of boxes e.from.0) tile) = ap (λ bs. box_of bs e.from.0) first ∙ get_or-set_same boxes e.from.0 (Some (grown_by (box_of boxes e.from.0) tile)) None (omega arith) in
      let else_one : (w : ℕ) → w ≢ e.from.0 → box_of one w ≡ box_of boxes w = λ w other. ap (λ bs. box_of bs w) first ∙ get_or-set_other boxes e.from.0 w (Some (grown_by (box_of boxes e.from.0) tile)) None other in
      let to_now : box_of two e.to.0 ≡ Some (grown_by (box_of one e.to.0) tile) = ap (λ bs. box_of bs e.to.0) second ∙ get_or-set_same one e.to.0 (Some (grown_by (box_of one e.to.0) tile)) None (omega arith) in
      let else_two : (w : ℕ) → w ≢ e.to.0 → box_of two w ≡ box_of one w = λ w other. ap (λ bs. box_of bs w) second ∙ get_or-set_other one e.to.0 w (Some (grown_by (box_of one e.to.0) tile)) None other in
      let from_is : IsBoxOf edges places (n + 1) e.from.0 (Some (grown_by (box_of boxes e.from.0) tile)) = grows e.from.0 (box_of boxes e.from.0) (inl refl) (h.each e.from.0 from_lt) in
      record {
        long = ap length second ∙ (length-set one e.to.0 (Some (grown_by (box_of one e.to.0) tile)) ∙ long);
        each = λ w lt. elim (cases_eq w e.to.0) [
          | inl same ↦ subst (λ v. IsBoxOf edges places (n + 1) v (box_of two v)) (sym same) (subst (IsBoxOf edges places (n + 1) e.to.0) (sym to_now) (elim (cases_eq e.to.0 e.from.0) [
            | inl loop' ↦ (
                let was : box_of one e.to.0 ≡ Some (grown_by (box_of boxes e.from.0) tile) = ap (box_of one) loop' ∙ from_now in
                let is : IsBoxOf edges places (n + 1) e.to.0 (Some (grown_by (box_of boxes e.from.0) tile)) = subst (λ v. IsBoxOf edges places (n + 1) v (Some (grown_by (box_of boxes e.from.0) tile))) (sym loop') from_is in
                subst (λ o. IsBoxOf edges places (n + 1) e.to.0 (Some (grown_by o tile))) (sym was) (grows_again e.to.0 (grown_by (box_of boxes e.from.0) tile) (inr refl) is))
            | inr apart ↦ subst (λ o. IsBoxOf edges places (n + 1) e.to.0 (Some (grown_by o tile))) (sym (else_one e.to.0 apart)) (grows e.to.0 (box_of boxes e.to.0) (inr refl) (h.each e.to.0 to_lt))
          ]))
          | inr off ↦ subst (IsBoxOf edges places (n + 1) w) (sym (else_two w off)) (elim (cases_eq w e.from.0) [
            | inl same ↦ subst (λ v. IsBoxOf edges places (n + 1) v (box_of one v)) (sym same) (subst (IsBoxOf edges places (n + 1) e.from.0) (sym from_now) from_is)
            | inr apart ↦ subst (IsBoxOf edges places (n + 1) w) (sym (else_one w apart)) (stays w (box_of boxes w) (λ touch. elim touch [ inl t ↦ apart (sym t) | inr t ↦ off (sym t) ]) (h.each w lt))
          ])
        ];
      }

pub boxes_none : (wires : ℕ) (edges : List Edge) (places : List TileAt) (boxes : List (Option Extent)) → length boxes ≡ wires → ((w : ℕ) → box_of boxes w ≡ None) → AreBoxesUpTo wires edges places 0 boxes
boxes_none wires edges places boxes long none = record {
  long = long;
  each = λ w lt. subst (IsBoxOf edges places 0 w) (sym (none w)) (λ k d less here touch. absurd (omega arith));
}

-- the greatest half perimeter of no edges
pub spread_none : (edges : List Edge) (boxes : List (Option Extent)) → IsSpreadUpTo edges boxes 0 0
spread_none edges boxes = record { most = λ k d b lt. absurd (omega arith); met = inl refl }

module _ (edges : List Edge) (boxes : List (Option Extent)) (n spread : ℕ) (e : Edge) (at : slice_get edges n ≡ Some e) (h : IsSpreadUpTo edges boxes n spread) where
  -- one edge more, into a wire with a box
  pub spread_more : (b : Extent) → box_of boxes e.to.0 ≡ Some b → IsSpreadUpTo edges boxes (n + 1) (max spread (half_perimeter b))
  spread_more b is = record {
    most = λ k d c lt here box. elim (cases_eq k n) [
      | inl same ↦ (
          let edge : d ≡ e = one_edge edges n k d e here at same in
          let both : Some c ≡ Some b = sym box ∙ (ap (λ (x : Edge). box_of boxes x.to.0) edge ∙ is) in
          let eq : c ≡ b = (cc) in
          let half : half_perimeter c ≡ half_perimeter b = ap (λ x. half_perimeter x) eq in
          omega (arith, half))
      | inr other ↦ (let le = h.most k d c (grind arith) here box in omega (arith, le))
    ];
    met = elim (cases_max spread (half_perimeter b)) [
      | inl is_old ↦ elim h.met [
        | inl zero' ↦ inl (is_old ∙ zero')
        | inr t ↦ inr (t.0, t.1, t.2, omega (arith, t.3), t.4, t.5, t.6 ∙ sym is_old)
      ]
      | inr is_new ↦ inr (n, e, b, omega arith, at, is, sym is_new)
    ];
  }
    where
      cases_max : (a c : ℕ) → (max a c ≡ a) ⊎ (max a c ≡ c)
      cases_max a c = elim (cases_eq (max a c) a) [ inl same ↦ inl same | inr other ↦ inr (omega (arith, other)) ]

  -- one edge more, into a wire without a box
  pub spread_same : box_of boxes e.to.0 ≡ None → IsSpreadUpTo edges boxes (n + 1) spread
  spread_same none = record {
    most = λ k d c lt here box. elim (cases_eq k n) [
      | inl same ↦ (
          let edge : d ≡ e = one_edge edges n k d e here at same in
          let bad : Some c ≡ None = sym box ∙ (ap (λ (x : Edge). box_of boxes x.to.0) edge ∙ none) in
          absurd (cc))
      | inr other ↦ h.most k d c (grind arith) here box
    ];
    met = elim h.met [
      | inl zero' ↦ inl zero'
      | inr t ↦ inr (t.0, t.1, t.2, omega (arith, t.3), t.4, t.5, t.6)
    ];
  }
