-- Points that read behind others: where some inputs read what passes on the value that they read before, each point keeps its value.
use Rattle.std.proofs.Common.{◌≡◌, ◌⊎◌, ℕ, zero, suc, ◌+◌, ◌<◌, Option, None, Some, List, [], ◌∷◌, length, map, inl, inr, refl, sym, ap, ◌∙◌, subst}
use Rattle.std.specs.Prelude.{option_map}
use Rattle.std.proofs.lemmas.Option.{none-some, same_Some}
use Rattle.ice_base.specs.Lists.{all_known}
use Rattle.ice_base.proofs.Options.{option_map_some}
use Rattle.ice_base_values.specs.Order.{At, Has}
use Rattle.ice_base_values.specs.Simulations.{try_reading}
use Rattle.ice_base_values.specs.System.{System, value, present, gapped}
use Rattle.ice_base_values.proofs.Enough.{value_enough}
use Rattle.ice_base_values.proofs.Gaps.{value_gapped}
use Rattle.ice_base_values.proofs.Together.{together_parts}
use Rattle.ice_base_values.proofs.Values.{value_suc}

-- x is y, or the point behind y, where the first of these has the number `next`, and so on
abbrev pub IsBehind : ℕ → List ℕ → ℕ → ℕ → Type 0
IsBehind next clocks x y = (x ≡ y) ⊎ ((j : ℕ) × At clocks j y × (x ≡ next + j))

-- ---- inputs, one beside the other
-- both are bare, or tied
abbrev pub AreTied : (ℕ → ℕ → Type 0) → List (Option ℕ) → List (Option ℕ) → Type 0
AreTied B [] [] = Unit {0}
AreTied B [] (y ∷ ys) = ⊥
AreTied B (x ∷ xs) [] = ⊥
AreTied B (None ∷ xs) (None ∷ ys) = AreTied B xs ys
AreTied B (None ∷ xs) (Some y ∷ ys) = ⊥
AreTied B (Some x ∷ xs) (None ∷ ys) = ⊥
AreTied B (Some x ∷ xs) (Some y ∷ ys) = B x y × AreTied B xs ys

-- the same inputs
pub same_inputs : (B : ℕ → ℕ → Type 0) → ((x : ℕ) → B x x) → (xs : List (Option ℕ)) → AreTied B xs xs
same_inputs B same [] = tt
same_inputs B same (None ∷ xs) = same_inputs B same xs
same_inputs B same (Some x ∷ xs) = (same x, same_inputs B same xs)

turned_round : (B : ℕ → ℕ → Type 0) (xs ys : List (Option ℕ)) → AreTied B xs ys → AreTied (λ y x. B x y) ys xs
turned_round B [] [] tied = tt
turned_round B [] (y ∷ ys) tied = absurd tied
turned_round B (x ∷ xs) [] tied = absurd tied
turned_round B (None ∷ xs) (None ∷ ys) tied = turned_round B xs ys tied
turned_round B (None ∷ xs) (Some y ∷ ys) tied = absurd tied
turned_round B (Some x ∷ xs) (None ∷ ys) tied = absurd tied
turned_round B (Some x ∷ xs) (Some y ∷ ys) tied = (tied.0, turned_round B xs ys tied.1)

-- what is read on one side is tied to what is read on the other
pub tied_at : (B : ℕ → ℕ → Type 0) (xs ys : List (Option ℕ)) → AreTied B xs ys → (i x : ℕ) → At (present xs) i x → (y : ℕ) × Has (present ys) y × B x y
tied_at B [] [] tied i x at = absurd (none-some x at)
tied_at B [] (y ∷ ys) tied i x at = absurd tied
tied_at B (x' ∷ xs) [] tied i x at = absurd tied
tied_at B (None ∷ xs) (None ∷ ys) tied i x at = tied_at B xs ys tied i x at
tied_at B (None ∷ xs) (Some y ∷ ys) tied i x at = absurd tied
tied_at B (Some x' ∷ xs) (None ∷ ys) tied i x at = absurd tied
tied_at B (Some x' ∷ xs) (Some y ∷ ys) tied zero x at = (y, (0, refl), subst (λ z. B z y) (same_Some x' x at) tied.0)
tied_at B (Some x' ∷ xs) (Some y ∷ ys) tied (suc i) x at = let rest = tied_at B xs ys tied.1 i x at in (rest.0, (suc rest.1.0, rest.1.1), rest.2)

-- what all of them read, where w has each value that v has at what is tied
module _ {A : Type 0} (bare : A) (B : ℕ → ℕ → Type 0) (v w : ℕ → Option A) (has : (x y : ℕ) → B x y → (a : A) → v x ≡ Some a → w y ≡ Some a) where
  all_read : (xs ys : List (Option ℕ)) → AreTied B xs ys → (all : List A) → all_known (map (try_reading bare v) xs) ≡ Some all → all_known (map (try_reading bare w) ys) ≡ Some all
  all_read [] [] tied all e = e
  all_read [] (y ∷ ys) tied all e = absurd tied
  all_read (x ∷ xs) [] tied all e = absurd tied
  all_read (None ∷ xs) (None ∷ ys) tied all e =
      let got = together_parts (Some bare) (map (try_reading bare v) xs) all e in
      ap (option_map (λ rest. bare ∷ rest)) (all_read xs ys tied got.1 got.3) ∙ ap (λ a. Some (a ∷ got.1)) (same_Some bare got.0 got.2) ∙ ap Some got.4
  all_read (None ∷ xs) (Some y ∷ ys) tied all e = absurd tied
  all_read (Some x ∷ xs) (None ∷ ys) tied all e = absurd tied
  all_read (Some x ∷ xs) (Some y ∷ ys) tied all e =
      let got = together_parts (v x) (map (try_reading bare v) xs) all e in
      ap (λ o. all_known (o ∷ map (try_reading bare w) ys)) (has x y tied.0 got.0 got.2)
      ∙ ap (option_map (λ rest. got.0 ∷ rest)) (all_read xs ys tied.1 got.1 got.3)
      ∙ ap Some got.4

-- ---- values
-- twice as many steps, for what passes values on
abbrev twice : ℕ → ℕ
twice zero = zero
twice (suc k) = suc (suc (twice k))

-- points with these inputs before and after, where what they make of them is the same, and each point behind another passes on its value
pub record ReadBehind {A : Type 0} (bare : A) (next : ℕ) (clocks : List ℕ) (olds news : ℕ → List (Option ℕ)) (before after : ℕ → List A → A) : Type 0 where
  pub tied : (p : ℕ) → AreTied (IsBehind next clocks) (news p) (olds p)
  pub makes : (p : ℕ) (xs : List A) → after p xs ≡ before p xs
  pub reads : (j clock : ℕ) → At clocks j clock → news (next + j) ≡ Some clock ∷ []
  pub passes : (j clock : ℕ) → At clocks j clock → (x : A) → after (next + j) (x ∷ []) ≡ x

module _ {A : Type 0} (bare : A) (next : ℕ) (clocks : List ℕ) (olds news : ℕ → List (Option ℕ)) (before after : ℕ → List A → A) (r : ReadBehind bare next clocks olds news before after) where
  abbrev old : System ℕ A
  old = gapped olds bare before

  abbrev new : System ℕ A
  new = gapped news bare after

  -- what passes a value on has it a step later
  behind_value : (f j clock : ℕ) → At clocks j clock → value new (suc f) (next + j) ≡ value new f clock
  behind_value f j clock at =
      value_gapped news bare after f (next + j)
      ∙ ap (λ inputs. option_map (after (next + j)) (all_known (map (try_reading bare (λ q. value new f q)) inputs))) (r.reads j clock at)
      ∙ through (value new f clock)
    where
      through : (o : Option A) → option_map (after (next + j)) (all_known (o ∷ [])) ≡ o
      through None = refl
      through (Some x) = ap Some (r.passes j clock at x)

  clock_value : (f j clock : ℕ) (x : A) → At clocks j clock → value new f (next + j) ≡ Some x → value new f clock ≡ Some x
  clock_value zero j clock x at e = absurd (none-some x e)
  clock_value (suc f) j clock x at e = value_suc new f clock x (sym (behind_value f j clock at) ∙ e)

  -- a value that there is now was there before
  input_back : (f : ℕ) → ((p : ℕ) (x : A) → value new f p ≡ Some x → value old f p ≡ Some x) → (a b : ℕ) → IsBehind next clocks a b → (y : A) → value new f a ≡ Some y → value old f b ≡ Some y
  input_back f again a b (inl same) y e = again b y (subst (λ q. value new f q ≡ Some y) same e)
  input_back f again a b (inr (j, at, is)) y e = again b y (clock_value f j b y at (subst (λ q. value new f q ≡ Some y) is e))

  back : (f p : ℕ) (x : A) → value new f p ≡ Some x → value old f p ≡ Some x
  back zero p x e = absurd (none-some x e)
  back (suc f) p x e =
      let got = option_map_some (after p) (all_known (map (try_reading bare (λ q. value new f q)) (news p))) x (sym (value_gapped news bare after f p) ∙ e) in
      value_gapped olds bare before f p
      ∙ ap (option_map (before p)) (all_read bare (IsBehind next clocks) (λ q. value new f q) (λ q. value old f q) (input_back f (λ q y h. back f q y h)) (news p) (olds p) (r.tied p) got.0 got.1)
      ∙ ap Some (sym (r.makes p got.0) ∙ got.2)

  -- and the other way round, with more steps
  input_there : (f : ℕ) → ((p : ℕ) (x : A) → value old f p ≡ Some x → value new (twice f) p ≡ Some x) → (b a : ℕ) → IsBehind next clocks a b → (y : A) → value old f b ≡ Some y → value new (suc (twice f)) a ≡ Some y
  input_there f again b a (inl same) y e = subst (λ q. value new (suc (twice f)) q ≡ Some y) (sym same) (value_suc new (twice f) b y (again b y e))
  input_there f again b a (inr (j, at, is)) y e = subst (λ q. value new (suc (twice f)) q ≡ Some y) (sym is) (behind_value (twice f) j b at ∙ again b y e)

  there : (f p : ℕ) (x : A) → value old f p ≡ Some x → value new (twice f) p ≡ Some x
  there zero p x e = absurd (none-some x e)
  there (suc f) p x e =
      let got = option_map_some (before p) (all_known (map (try_reading bare (λ q. value old f q)) (olds p))) x (sym (value_gapped olds bare before f p) ∙ e) in
      value_gapped news bare after (suc (twice f)) p
      ∙ ap (option_map (after p)) (all_read bare (λ b a. IsBehind next clocks a b) (λ q. value old f q) (λ q. value new (suc (twice f)) q) (input_there f (λ q y h. there f q y h))
      (olds p) (news p) (turned_round (IsBehind next clocks) (news p) (olds p) (r.tied p)) got.0 got.1)
      ∙ ap Some (r.makes p got.0 ∙ got.2)

  -- so with as many steps as there are points, and one more, it is the same
  pub values_same : (points : List ℕ) → ((p q : ℕ) → Has points p → Has (new.depends p) q → Has points q ⊎ (new.depends q ≡ []))
      → (p : ℕ) → Has points p → value new (length points + 1) p ≡ value old (length points + 1) p
  values_same points closed p has = by (value new (length points + 1) p) refl (value old (length points + 1) p) refl
    where
      by : (o : Option A) → value new (length points + 1) p ≡ o → (m : Option A) → value old (length points + 1) p ≡ m → value new (length points + 1) p ≡ value old (length points + 1) p
      by (Some x) e m f = e ∙ sym (back (length points + 1) p x e)
      by None e None f = e ∙ sym f
      by None e (Some x) f =
          absurd (none-some x (sym e ∙ value_enough new points closed (twice (length points + 1)) p x has (there (length points + 1) p x f)))
