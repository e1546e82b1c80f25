-- Exchanges that lower the wire length.
use Rattle.std.proofs.Common.{◌≡◌, ℕ, ◌+◌, ◌<◌, ◌≤◌, inl, inr, List, length, get_or, Bool, false, sym, refl, subst, ◌∙◌, below_more, arith}
use Rattle.std.specs.List.{swap}
use Rattle.std.proofs.lemmas.Bool.{cases_eq}
use Rattle.std.proofs.lemmas.List.{same_lists}
use Rattle.std.proofs.lemmas.List.Edits.{swapped_from_swap, length-swap}
use Rattle.std.proofs.lemmas.List.Sorted.{IsPermutation-refl, IsPermutation-trans, IsPermutation-swap}
use Rattle.ice_base.specs.declared.number.TileAt.{TileAt}
use Rattle.ice_anneal_board.specs.declared.net.NetNodes.{NetNodes}
use Rattle.ice_anneal_board.specs.Length.{wire_length, origin}
use Rattle.ice_anneal_board.specs.declared.board.Board.{Board}
use Rattle.ice_anneal_board.specs.Board.{IsFree, Keeps, IsLeastFrom, Attempted, LoweredFrom, Lowered}

-- an exchange is its own inverse
pub swap_swap : {X : Type 0} (xs : List X) (a b : ℕ) → a < length xs → b < length xs → swap (swap xs a b) a b ≡ xs
swap_swap {X} xs a b la lb =
    let n = length-swap xs a b in
    let la2 : a < length (swap xs a b) = omega arith in
    let lb2 : b < length (swap xs a b) = omega arith in
    same_lists (swap (swap xs a b) a b) xs (length-swap (swap xs a b) a b ∙ n) (λ k d lt.
    let s = swapped_from_swap xs (swap xs a b) a b d la lb refl in
    let t = swapped_from_swap (swap xs a b) (swap (swap xs a b) a b) a b d la2 lb2 refl in
    elim (cases_eq k a) [
      | inl e ↦ subst (λ j. get_or (swap (swap xs a b) a b) j d ≡ get_or xs j d) (sym e) (t.0 ∙ s.1)
      | inr na ↦ elim (cases_eq k b) [
        | inl e ↦ subst (λ j. get_or (swap (swap xs a b) a b) j d ≡ get_or xs j d) (sym e) (t.1 ∙ s.0)
        | inr nb ↦ t.2 k na nb ∙ s.2 k na nb
      ]
    ])

pub keeps_refl : (free : List Bool) (p : List TileAt) → Keeps free p p
keeps_refl free p = record { moved = IsPermutation-refl p; rigid = λ c h. refl }

pub keeps_trans : (free : List Bool) (p q r : List TileAt) → Keeps free p q → Keeps free q r → Keeps free p r
keeps_trans free p q r g h = record { moved = IsPermutation-trans p q r g.moved h.moved; rigid = λ c f. h.rigid c f ∙ g.rigid c f }

not_both : (free : List Bool) (c e : ℕ) → IsFree free c → get_or free e false ≡ false → e ≡ c → ⊥
not_both free c e t f h = let g : get_or free c false ≡ false = subst (λ j. get_or free j false ≡ false) h f in absurd (cc)

pub keeps_swap : (free : List Bool) (p q : List TileAt) (c d : ℕ) → c < length p → d < length p → IsFree free c → IsFree free d → q ≡ swap p c d → Keeps free p q
keeps_swap free p q c d lc ld fc fd e =
    record {
      moved = IsPermutation-swap p q c d lc ld e;
      rigid = λ k f. (swapped_from_swap p q c d origin lc ld e).2 k (not_both free c k fc f) (not_both free d k fd f);
    }

-- the start of a sweep
pub from_none : (nets : List NetNodes) (free : List Bool) (b : Board) (c : ℕ) → LoweredFrom nets free b b c (c + 1)
from_none nets free b c = record { keeps = keeps_refl free b.place.items; falls = omega arith; least = λ e. (refl, λ d l m. absurd (omega arith)) }

-- one more exchange
pub from_more : (nets : List NetNodes) (free : List Bool) (old now new : Board) (c d : ℕ)
    → c < length now.place.items → d < length now.place.items → IsFree free c → IsFree free d
    → LoweredFrom nets free old now c d → Attempted nets now new c d → LoweredFrom nets free old new c (d + 1)
from_more nets free old now new c d lc ld fc fd h a =
    elim a [
      | inl made ↦ record {
        keeps = keeps_trans free old.place.items now.place.items new.place.items h.keeps (keeps_swap free now.place.items new.place.items c d lc ld fc fd made.0);
        falls = (let f = h.falls in let g = made.1 in omega arith);
        least = λ e. (let f = h.falls in let g = made.1 in absurd (omega arith));
      }
      | inr not ↦ record {
        keeps = subst (λ (p : List TileAt). Keeps free old.place.items p) (sym not.0) h.keeps;
        falls = (let f = h.falls in let g = not.1 in omega arith);
        least = λ e.
            let l = h.least (sym not.1 ∙ e) in (
              not.0 ∙ l.0,
              λ k m below fc2 fk. subst (λ (p : List TileAt). wire_length nets p ≤ wire_length nets (swap p c k)) (sym not.0)
                  (below_more (λ k. c < k → IsFree free k → wire_length nets now.place.items ≤ wire_length nets (swap now.place.items c k)) d
                  (λ j lt m fj. l.1 j m lt fc fj) (λ m fj. not.2) k below m fk),
            );
      }
    ]

-- one that may not be exchanged
pub from_rigid : (nets : List NetNodes) (free : List Bool) (old now : Board) (c d : ℕ) → get_or free d false ≡ false
    → LoweredFrom nets free old now c d → LoweredFrom nets free old now c (d + 1)
from_rigid nets free old now c d fd h =
    record {
      keeps = h.keeps;
      falls = h.falls;
      least = λ e. (let l = h.least e in (
        l.0,
        λ k m below fc fk.
            below_more (λ k. c < k → IsFree free k → wire_length nets now.place.items ≤ wire_length nets (swap now.place.items c k)) d
            (λ j lt m fj. l.1 j m lt fc fj) (λ m fj. absurd (cc)) k below m fk,
      ));
    }

pub all_none : (nets : List NetNodes) (free : List Bool) (b : Board) → Lowered nets free b b 0
all_none nets free b = record { keeps = keeps_refl free b.place.items; falls = omega arith; least = λ e. (refl, λ c l. absurd (omega arith)) }

-- one more cluster
pub all_more : (nets : List NetNodes) (free : List Bool) (old now new : Board) (c : ℕ)
    → Lowered nets free old now c → LoweredFrom nets free now new c (length free) → Lowered nets free old new (c + 1)
all_more nets free old now new c h g =
    record {
      keeps = keeps_trans free old.place.items now.place.items new.place.items h.keeps g.keeps;
      falls = (let a = h.falls in let b = g.falls in omega arith);
      least = λ e.
          let a = h.falls in
          let b = g.falls in
          let l = h.least (omega arith) in
          let m = g.least (omega arith) in (
            m.0 ∙ l.0,
            below_more (λ k. IsLeastFrom nets free new.place.items k (length free)) c
                (λ k lt. subst (λ (p : List TileAt). IsLeastFrom nets free p k (length free)) (sym m.0) (l.1 k lt)) m.1,
          );
    }

pub all_rigid : (nets : List NetNodes) (free : List Bool) (old now : Board) (c : ℕ) → get_or free c false ≡ false
    → Lowered nets free old now c → Lowered nets free old now (c + 1)
all_rigid nets free old now c fc h =
    record {
      keeps = h.keeps;
      falls = h.falls;
      least = λ e. (let l = h.least e in (l.0, below_more (λ k. IsLeastFrom nets free now.place.items k (length free)) c l.1 (λ k m lt fc2 fk. absurd (cc))));
    }
