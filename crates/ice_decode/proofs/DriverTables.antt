-- The tables by the numbers of wires.
use Rattle.std.proofs.Common.{◌≡◌, ℕ, zero, suc, ◌+◌, ◌<◌, Bool, true, false, cond, Option, Some, List, [], ◌∷◌, ◌++◌, refl, ap, sym, ◌∙◌, append-nil, length, map, get_or, set, take, eqb, inl, inr, arith, replicate}
use Rattle.std.specs.Prelude.{◌||◌}
use Rattle.std.specs.List.{range_with_len, All}
use Rattle.std.proofs.lemmas.Bool.{cases_eq, eq-eqb, ne_eqb}
use Rattle.std.proofs.lemmas.List.{ext_get_or, length-set, get_or-set_same, get_or-set_other, take_more, get_or-replicate, length-replicate}
use Rattle.std.proofs.lemmas.List.FromFn.{length-map-range_with_len, get_or-map-range_with_len}
use Rattle.std.proofs.lemmas.List.Elements.{filter-append, All-get_or}
use Rattle.std.proofs.lemmas.List.Folds.{list_any-append}
use Rattle.std.proofs.lemmas.Option.{same_Some}
use Rattle.ice_chip.specs.Database.{Parts}
use Rattle.ice_bits.specs.Configuration.{Bits}
use Rattle.ice_decode.specs.declared.driver.Switch.{Switch}
use Rattle.ice_decode.specs.declared.driver.Driver.{Driver}
use Rattle.ice_decode.specs.declared.driver.Driver.TheVariants.{Nothing, By, Several}
use Rattle.ice_decode.specs.Drivers.{into, driver_among, driver}
use Rattle.ice_decode.specs.Tables.{IsBetween, joined, drivers_of, reads_wire, AreSources, contended_among}
use Rattle.ice_decode.specs.FirstFaults.{or_else, contended_by, first_of, contention}
use Rattle.ice_decode.specs.Refusals.{AreDrivers}

-- a table of a function of the wires
module _ {X : Type 0} (f : ℕ → X) (wires : ℕ) (table : List X) (is : table ≡ map f (range_with_len 0 wires)) where
  pub table_long : length table ≡ wires
  table_long = ap length is ∙ length-map-range_with_len f 0 wires

  pub table_at : (w : ℕ) (d : X) → w < wires → get_or table w d ≡ f w
  table_at w d lt = ap (λ xs. get_or xs w d) is ∙ get_or-map-range_with_len f 0 wires w w d lt (omega arith)

-- a table is of a function where each of its entries is
pub table_from : {X : Type 0} (f : ℕ → X) (wires : ℕ) (table : List X) (d : X) → length table ≡ wires → ((w : ℕ) → w < wires → get_or table w d ≡ f w) → table ≡ map f (range_with_len 0 wires)
table_from f wires table d long are =
    ext_get_or d table (map f (range_with_len 0 wires)) (long ∙ sym (length-map-range_with_len f 0 wires))
    (λ w lt. let below : w < wires = omega arith in are w below ∙ sym (get_or-map-range_with_len f 0 wires w w d below (omega arith)))

-- one entry of a table is written
pub table_set : {X : Type 0} (f g : ℕ → X) (wires : ℕ) (table : List X) (v : ℕ) (x : X) → table ≡ map f (range_with_len 0 wires) → v < wires
    → g v ≡ x → ((w : ℕ) → (w ≡ v → ⊥) → g w ≡ f w) → set table v x ≡ map g (range_with_len 0 wires)
table_set f g wires table v x is lt here others =
    let long = table_long f wires table is in
    table_from g wires (set table v x) x (length-set table v x ∙ long)
    (λ w below. elim (cases_eq w v) [
      | inl e ↦ ap (λ k. get_or (set table v x) k x) e ∙ get_or-set_same table v x x (omega arith) ∙ sym here ∙ ap g (sym e)
      | inr ne ↦ get_or-set_other table v w x x ne ∙ table_at f wires table is w x below ∙ sym (others w ne)
    ])

-- ---- drivers
joined_more : (switches : List Switch) (s : Switch) → driver_among (switches ++ s ∷ []) ≡ joined (driver_among switches) s
joined_more [] s = refl
joined_more (a ∷ []) s = refl
joined_more (a ∷ b ∷ others) s = refl

into_more : (w : ℕ) (switches : List Switch) (s : Switch) (b : Bool) → eqb s.target.0 w ≡ b
    → driver_among (into w (switches ++ s ∷ [])) ≡ cond b (joined (driver_among (into w switches)) s) (driver_among (into w switches))
into_more w switches s b e =
    ap driver_among (filter-append (λ (r : Switch). eqb r.target.0 w) switches (s ∷ []) ∙ ap (λ c. into w switches ++ cond c (s ∷ []) []) e) ∙ by b
  where
    by : (c : Bool) → driver_among (into w switches ++ cond c (s ∷ []) []) ≡ cond c (joined (driver_among (into w switches)) s) (driver_among (into w switches))
    by true = joined_more (into w switches) s
    by false = ap driver_among (append-nil (into w switches))

pub drivers_none : (wires : ℕ) (switches : List Switch) (table : List Driver) → table ≡ replicate wires Nothing → table ≡ drivers_of wires (take 0 switches)
drivers_none wires switches table e =
    table_from (λ w. driver_among (into w [])) wires table Nothing (ap length e ∙ length-replicate wires Nothing)
    (λ w lt. ap (λ xs. get_or xs w Nothing) e ∙ get_or-replicate wires w Nothing Nothing lt)

pub drivers_more : (wires : ℕ) (switches : List Switch) (i : ℕ) (e : Switch) (table : List Driver) (d : Driver) → i < length switches
    → All (IsBetween wires) switches → table ≡ drivers_of wires (take i switches) → d ≡ get_or table (get_or switches i e).target.0 d
    → set table (get_or switches i e).target.0 (joined d (get_or switches i e)) ≡ drivers_of wires (take (i + 1) switches)
drivers_more wires switches i e table d lt all is here =
    table_set (λ w. driver_among (into w front)) (λ w. driver_among (into w (front ++ s ∷ []))) wires table s.target.0 (joined d s) is below
    (into_more s.target.0 front s true (eq-eqb s.target.0 s.target.0 refl) ∙ ap (λ x. joined x s) (sym old))
    (λ w ne. into_more w front s false (ne_eqb s.target.0 w (λ f. ne (sym f))))
    ∙ ap (drivers_of wires) (sym (take_more switches i e lt))
  where
    s : Switch
    s = get_or switches i e

    front : List Switch
    front = take i switches

    below : (get_or switches i e).target.0 < wires
    below = (All-get_or (IsBetween wires) switches i e lt all).target

    old : d ≡ driver_among (into (get_or switches i e).target.0 (take i switches))
    old = here ∙ table_at (λ w. driver_among (into w (take i switches))) wires table is (get_or switches i e).target.0 d (All-get_or (IsBetween wires) switches i e lt all).target

pub target_below : (wires : ℕ) (switches : List Switch) (i : ℕ) (e : Switch) → i < length switches → All (IsBetween wires) switches → (get_or switches i e).target.0 < wires
target_below wires switches i e lt all = (All-get_or (IsBetween wires) switches i e lt all).target

-- ---- sources
reads_more : (w : ℕ) (switches : List Switch) (s : Switch) (b : Bool) → eqb s.source.0 w ≡ b → reads_wire (switches ++ s ∷ []) w ≡ cond b true (reads_wire switches w)
reads_more w switches s b e =
    list_any-append (λ (r : Switch). eqb r.source.0 w) switches (s ∷ []) ∙ ap (λ c. reads_wire switches w || (c || false)) e ∙ by b (reads_wire switches w)
  where
    by : (c x : Bool) → (x || (c || false)) ≡ cond c true x
    by true true = refl
    by true false = refl
    by false true = refl
    by false false = refl

pub sources_none : (wires : ℕ) (switches : List Switch) (table : List Bool) → table ≡ replicate wires false → AreSources (take 0 switches) table
sources_none wires switches table e = record { each = λ w. ap (λ xs. get_or xs w false) e ∙ get_or_default-replicate wires w }
  where
    get_or_default-replicate : (n w : ℕ) → get_or (replicate n false) w false ≡ false
    get_or_default-replicate zero w = refl
    get_or_default-replicate (suc n) zero = refl
    get_or_default-replicate (suc n) (suc w) = get_or_default-replicate n w

pub sources_more : (switches : List Switch) (i : ℕ) (e : Switch) (table : List Bool) → i < length switches
    → (get_or switches i e).source.0 < length table → AreSources (take i switches) table → AreSources (take (i + 1) switches) (set table (get_or switches i e).source.0 true)
sources_more switches i e table lt below is = record {
  each = λ w. elim (cases_eq w (get_or switches i e).source.0) [
    | inl f ↦ ap (λ k. get_or (set table (get_or switches i e).source.0 true) k false) f ∙ get_or-set_same table (get_or switches i e).source.0 true false below
        ∙ sym (reads_more w (take i switches) (get_or switches i e) true (eq-eqb (get_or switches i e).source.0 w (sym f))) ∙ ap (λ xs. reads_wire xs w) (sym (take_more switches i e lt))
    | inr ne ↦ get_or-set_other table (get_or switches i e).source.0 w true false ne ∙ is.each w
        ∙ sym (reads_more w (take i switches) (get_or switches i e) false (ne_eqb (get_or switches i e).source.0 w (λ f. ne (sym f)))) ∙ ap (λ xs. reads_wire xs w) (sym (take_more switches i e lt))
  ];
}

pub source_below : (wires : ℕ) (switches : List Switch) (i : ℕ) (e : Switch) → i < length switches → All (IsBetween wires) switches → (get_or switches i e).source.0 < wires
source_below wires switches i e lt all = (All-get_or (IsBetween wires) switches i e lt all).source

-- ---- what drives a wire, by the table of all
pub driver_within : (parts : Parts) (bits : Bits) (drivers : List Driver) (w : ℕ) → AreDrivers parts bits drivers → w < parts.wires → w < length drivers
driver_within parts bits drivers w are lt = let long = table_long (driver parts bits) parts.wires drivers are in omega (arith, long, lt)

pub driver_found : (parts : Parts) (bits : Bits) (drivers : List Driver) (w : ℕ) (d : Driver) → AreDrivers parts bits drivers → w < parts.wires → get_or drivers w d ≡ driver parts bits w
driver_found parts bits drivers w d are lt = table_at (driver parts bits) parts.wires drivers are w d lt

-- ---- contention
firsts_same : {A : Type 0} (f g : ℕ → Option A) (k n : ℕ) → ((w : ℕ) → w < k + n → f w ≡ g w) → first_of f k n ≡ first_of g k n
firsts_same f g k zero same = refl
firsts_same f g k (suc n) same =
    ap (λ o. or_else o (first_of f (k + 1) n)) (same k (omega arith)) ∙ ap (or_else (g k)) (firsts_same f g (k + 1) n (λ w lt. same w (omega arith)))

pub contention_same : (parts : Parts) (bits : Bits) (drivers : List Driver) → AreDrivers parts bits drivers → contended_among drivers ≡ contention parts bits
contention_same parts bits drivers are =
    ap (first_of (λ w. contended_by w (get_or drivers w Nothing)) 0) (table_long (driver parts bits) parts.wires drivers are)
    ∙ firsts_same (λ w. contended_by w (get_or drivers w Nothing)) (λ w. contended_by w (driver parts bits w)) 0 parts.wires
    (λ w lt. ap (contended_by w) (table_at (driver parts bits) parts.wires drivers are w Nothing (omega arith)))

-- a contended wire is below the number of the wires
contended_within : (f : ℕ → Driver) (k n : ℕ) (found : ℕ × ℕ × ℕ) → first_of (λ w. contended_by w (f w)) k n ≡ Some found → found.0 < k + n
contended_within f k zero found e = cc e
contended_within f k (suc n) found e = by (f k) (λ g. contended_within f (k + 1) n found g) e
  where
    by : (d : Driver) → (first_of (λ w. contended_by w (f w)) (k + 1) n ≡ Some found → found.0 < k + 1 + n)
        → or_else (contended_by k d) (first_of (λ w. contended_by w (f w)) (k + 1) n) ≡ Some found → found.0 < k + suc n
    by Nothing later g = let lt = later g in omega arith
    by (By s) later g = let lt = later g in omega arith
    by (Several first second) later g = let same : k ≡ found.0 = ap (λ (x : ℕ × ℕ × ℕ). x.0) (same_Some (k, first.0, second.0) found g) in omega arith

pub contended_below : (drivers : List Driver) (found : ℕ × ℕ × ℕ) → contended_among drivers ≡ Some found → found.0 < length drivers
contended_below drivers found e = let lt = contended_within (λ w. get_or drivers w Nothing) 0 (length drivers) found e in omega arith
