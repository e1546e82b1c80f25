-- Bits that are added to others: one, several of a tile, and lists of things that each add some.
use Rattle.std.proofs.Common.{◌≡◌, ℕ, zero, suc, ◌+◌, ◌<◌, ◌≤◌, Bool, true, false, cond, Some, List, [], ◌∷◌, length, map, get_or, drop, add-one, refl, sym, ap, ◌∙◌, arith}
use Rattle.std.specs.Prelude.{◌&&◌, ◌||◌}
use Rattle.std.specs.List.{list_any}
use Rattle.std.proofs.lemmas.Option.{slice_get-get_or}
use Rattle.ice_base.specs.declared.bit.BitAt.{BitAt}
use Rattle.ice_base.specs.declared.number.TileAt.{TileAt}
use Rattle.ice_chip.specs.Database.{Parts, same_tile}
use Rattle.ice_bits.specs.Configuration.{Bits, Configuration, bits_of, same_place}
use Rattle.ice_bits.specs.Grids.{IsOf}
use Rattle.ice_bits.specs.Rewriting.{Rewrites}
use Rattle.ice_bits.specs.Written.{with_bit}
use Rattle.ice_bits_rows.specs.Sound.{value_at}
use Rattle.ice_base_values.specs.Order.{Has}
use Rattle.ice_emit_bits.specs.Adds.{Adds, AreLeft, both, one_bit, values_in}

-- ---- nothing, two lots, and the same in other words
none_or : (x m : Bool) → m ≡ false → x ≡ (x || m)
none_or true m e = refl
none_or false m e = sym e

pub nothing_added : (parts : Parts) (k : Configuration) (more : Bits) → IsOf parts k → ((t : TileAt) (b : BitAt) → more t b ≡ false) → Adds parts k k more
nothing_added parts k more form none = record { form = form; extras = refl; contents = refl; bits = λ t b. none_or (bits_of k t b) (more t b) (none t b) }

pub or_assoc : (a b x : Bool) → ((a || b) || x) ≡ (a || (b || x))
or_assoc true b x = refl
or_assoc false b x = refl

pub both_added : (parts : Parts) (old mid new : Configuration) (one other : Bits) → Adds parts old mid one → Adds parts mid new other → Adds parts old new (both one other)
both_added parts old mid new one other first second = record {
  form = second.form;
  extras = second.extras ∙ first.extras;
  contents = second.contents ∙ first.contents;
  bits = λ t b. second.bits t b ∙ ap (λ x. x || other t b) (first.bits t b) ∙ or_assoc (bits_of old t b) (one t b) (other t b);
}

pub added_as : (parts : Parts) (old new : Configuration) (one other : Bits) → ((t : TileAt) (b : BitAt) → one t b ≡ other t b) → Adds parts old new one → Adds parts old new other
added_as parts old new one other same adds = record { form = adds.form; extras = adds.extras; contents = adds.contents; bits = λ t b. adds.bits t b ∙ ap (λ x. bits_of old t b || x) (same t b) }

-- ---- what is left to be set
pub all_left : (parts : Parts) (k : Configuration) (whole : Bits) → IsOf parts k → AreLeft parts k k whole whole
all_left parts k whole form = record { form = form; extras = refl; contents = refl; bits = λ t b. refl }

pub fewer_left : (parts : Parts) (old mid new : Configuration) (whole rest one more : Bits) → AreLeft parts old mid whole rest → Adds parts mid new one → ((t : TileAt) (b : BitAt) → rest t b ≡ (one t b || more t b))
    → AreLeft parts old new whole more
fewer_left parts old mid new whole rest one more left adds split = record {
  form = adds.form;
  extras = adds.extras ∙ left.extras;
  contents = adds.contents ∙ left.contents;
  bits = λ t b. ap (λ x. x || more t b) (adds.bits t b) ∙ or_assoc (bits_of mid t b) (one t b) (more t b) ∙ ap (λ x. bits_of mid t b || x) (sym (split t b)) ∙ left.bits t b;
}

pub none_left : (parts : Parts) (old now : Configuration) (whole rest : Bits) → AreLeft parts old now whole rest → ((t : TileAt) (b : BitAt) → rest t b ≡ false) → Adds parts old now whole
none_left parts old now whole rest left none = record { form = left.form; extras = left.extras; contents = left.contents; bits = λ t b. none_or (bits_of now t b) (rest t b) (none t b) ∙ left.bits t b }

-- ---- one bit
with_one : (s p o v : Bool) → v ≡ true → cond (s && p) true o ≡ (o || (s && (p && v)))
with_one true true true v is = refl
with_one true true false v is = sym is
with_one true false true v is = refl
with_one true false false v is = refl
with_one false p true v is = refl
with_one false p false v is = refl

pub one_added : (parts : Parts) (old new : Configuration) (tile : TileAt) (place : BitAt) (value : Bool) → value ≡ true → IsOf parts old → Rewrites old new (with_bit tile place true (bits_of old))
    → Adds parts old new (one_bit tile place value)
one_added parts old new tile place value is form writes = record {
  form = writes.form parts form;
  extras = writes.extras;
  contents = writes.contents;
  bits = λ t b. writes.bits t b ∙ with_one (same_tile tile t) (same_place place b) (bits_of old t b) value is;
}

no_value : (s p v : Bool) → v ≡ false → (s && (p && v)) ≡ false
no_value true true v is = is
no_value true false v is = refl
no_value false p v is = refl

pub none_added : (parts : Parts) (k : Configuration) (tile : TileAt) (place : BitAt) (value : Bool) → value ≡ false → IsOf parts k → Adds parts k k (one_bit tile place value)
none_added parts k tile place value is form = nothing_added parts k (one_bit tile place value) form (λ t b. no_value (same_tile tile t) (same_place place b) value is)

-- ---- the values of several bits of a tile
-- what is read at a place of a list is in the list
pub has_read : {X : Type 0} (xs : List X) (k : ℕ) (x : X) → k < length xs → x ≡ get_or xs k x → Has xs x
has_read xs k x lt at = (k, slice_get-get_or xs k x lt ∙ ap Some (sym at))

value_drop : (ps : List BitAt) (vs : List Bool) (k : ℕ) (b p : BitAt) (v : Bool) → k < length ps → length vs ≡ length ps → p ≡ get_or ps k p → v ≡ get_or vs k v
    → value_at (drop k ps) (drop k vs) b ≡ ((same_place p b && v) || value_at (drop (suc k) ps) (drop (suc k) vs) b)
value_drop [] vs k b p v lt same at val = absurd (omega arith)
value_drop (q ∷ ps) [] k b p v lt same at val = absurd (omega arith)
value_drop (q ∷ ps) (w ∷ vs) zero b p v lt same at val = rw (at, val)
value_drop (q ∷ ps) (w ∷ vs) (suc k) b p v lt same at val = value_drop ps vs k b p v (omega arith) (omega arith) at val

one_set : (o t q v : Bool) → ((o || (t && q)) || (t && v)) ≡ (o || (t && (q || v)))
one_set true t q v = refl
one_set false true q v = refl
one_set false false q v = refl

-- one bit of a tile more
pub value_more : (ps : List BitAt) (vs : List Bool) (k : ℕ) (b p : BitAt) (v o n t a : Bool) → k < length ps → length vs ≡ length ps → p ≡ get_or ps k p → v ≡ get_or vs k v
    → n ≡ (o || (t && (same_place p b && v))) → (o || (t && value_at (drop k ps) (drop k vs) b)) ≡ a
    → (n || (t && value_at (drop (k + 1) ps) (drop (k + 1) vs) b)) ≡ a
value_more ps vs k b p v o n t a lt same at val set so_far =
    let here = value_drop ps vs k b p v lt same at val in
    let step = one_set o t (same_place p b && v) (value_at (drop (suc k) ps) (drop (suc k) vs) b) in
    let e : k + 1 ≡ suc k = omega arith in
    rw e (ap (λ z. z || (t && value_at (drop (suc k) ps) (drop (suc k) vs) b)) set ∙ (step ∙ (ap (λ z. o || (t && z)) (sym here) ∙ so_far)))

-- nothing is left behind the last bit
values_end : (ps : List BitAt) (vs : List Bool) (k : ℕ) (b : BitAt) → length ps ≡ k → value_at (drop k ps) (drop k vs) b ≡ false
values_end [] vs zero b e = refl
values_end [] vs (suc k) b e = absurd (omega arith)
values_end (p ∷ ps) vs zero b e = absurd (omega arith)
values_end (p ∷ ps) [] (suc k) b e = nothing (drop k ps)
  where
    nothing : (qs : List BitAt) → value_at qs [] b ≡ false
    nothing [] = refl
    nothing (q ∷ qs) = refl
values_end (p ∷ ps) (v ∷ vs) (suc k) b e = values_end ps vs k b (omega arith)

or_none : (o t v a : Bool) → v ≡ false → (o || (t && v)) ≡ a → o ≡ a
or_none true t v a e f = f
or_none false true v a e f = sym e ∙ f
or_none false false v a e f = f

pub values_all : (ps : List BitAt) (vs : List Bool) (k : ℕ) (b : BitAt) (o t a : Bool) → length ps ≡ k → (o || (t && value_at (drop k ps) (drop k vs) b)) ≡ a → o ≡ a
values_all ps vs k b o t a e f = or_none o t (value_at (drop k ps) (drop k vs) b) a (values_end ps vs k b e) f

pub values_next : (parts : Parts) (old mid new : Configuration) (tile : TileAt) (ps : List BitAt) (vs : List Bool) (k : ℕ) (p : BitAt) (v : Bool) (whole : Bits) → k < length ps → length vs ≡ length ps → p ≡ get_or ps k p → v ≡ get_or vs k v
    → AreLeft parts old mid whole (values_in tile (drop k ps) (drop k vs)) → Adds parts mid new (one_bit tile p v) → AreLeft parts old new whole (values_in tile (drop (k + 1) ps) (drop (k + 1) vs))
values_next parts old mid new tile ps vs k p v whole lt same at val left adds = record {
  form = adds.form;
  extras = adds.extras ∙ left.extras;
  contents = adds.contents ∙ left.contents;
  bits = λ t b. value_more ps vs k b p v (bits_of mid t b) (bits_of new t b) (same_tile tile t) (bits_of old t b || whole t b) lt same at val (adds.bits t b) (left.bits t b);
}

pub values_done : (parts : Parts) (old now : Configuration) (tile : TileAt) (ps : List BitAt) (vs : List Bool) (k : ℕ) (whole : Bits) → length ps ≡ k
    → AreLeft parts old now whole (values_in tile (drop k ps) (drop k vs)) → Adds parts old now whole
values_done parts old now tile ps vs k whole e left = record {
  form = left.form;
  extras = left.extras;
  contents = left.contents;
  bits = λ t b. values_all ps vs k b (bits_of now t b) (same_tile tile t) (bits_of old t b || whole t b) e (left.bits t b);
}

-- ---- lists of things that each add some
any_drop : {X : Type 0} (f : X → Bool) (xs : List X) (k : ℕ) (x : X) → k < length xs → x ≡ get_or xs k x → list_any f (drop k xs) ≡ (f x || list_any f (drop (suc k) xs))
any_drop f [] k x lt at = absurd (omega arith)
any_drop f (y ∷ xs) zero x lt at = rw at
any_drop f (y ∷ xs) (suc k) x lt at = any_drop f xs k x (omega arith) at

pub any_next : {X : Type 0} (f : X → Bool) (xs : List X) (k : ℕ) (x : X) → k < length xs → x ≡ get_or xs k x → list_any f (drop k xs) ≡ (f x || list_any f (drop (k + 1) xs))
any_next f xs k x lt at = any_drop f xs k x lt at ∙ ap (λ n. f x || list_any f (drop n xs)) (sym (add-one k))

pub any_end : {X : Type 0} (f : X → Bool) (xs : List X) (k : ℕ) → length xs ≤ k → list_any f (drop k xs) ≡ false
any_end f [] zero le = refl
any_end f [] (suc k) le = refl
any_end f (x ∷ xs) zero le = absurd (omega arith)
any_end f (x ∷ xs) (suc k) le = any_end f xs k (omega arith)

pub any_map : {X Y : Type 0} (g : X → Y) (f : Y → Bool) (xs : List X) → list_any f (map g xs) ≡ list_any (λ x. f (g x)) xs
any_map g f [] = refl
any_map g f (x ∷ xs) = ap (λ b. f (g x) || b) (any_map g f xs)
