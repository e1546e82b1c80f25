-- Lists that are filled from ports, and RAMs that make a step one after another.
use Rattle.std.proofs.Common.{◌≡◌, ℕ, zero, suc, ◌+◌, ◌*◌, ◌^◌, ◌<◌, List, [], ◌∷◌, ◌++◌, length, map, get_or, set, take, drop, refl, sym, ap, ◌∙◌, arith, if◌then◌else◌, pow-suc}
use Rattle.std.specs.List.{range_with_len}
use Rattle.std.proofs.lemmas.List.{append_assoc, drop_more, take_more_set, drop-set-lt}
use Rattle.std.proofs.lemmas.List.FromFn.{fill_by_all}
use Rattle.ice_net.specs.declared.driver.Drive.{Drive}
use Rattle.ice_net.specs.Meaning.{number_of}
use Rattle.ice_ram.specs.declared.setup.Setup.{Setup}
use Rattle.ice_ram.specs.Ram.{Kept, after}
use Rattle.ice_ram.specs.Ports.{taken_at, taken_from, pins_at, after_all}

map_moved : {X : Type 0} (f : ℕ → X) (a b n : ℕ) → map (λ k. f (a + k)) (range_with_len b n) ≡ map f (range_with_len (a + b) n)
map_moved f a b zero = refl
map_moved f a b (suc n) = ap (λ xs. f (a + b) ∷ xs) (map_moved f a (b + 1) n ∙ ap (λ c. map f (range_with_len c n)) (omega arith))

pub filled_from : {X : Type 0} (f : ℕ → X) (a : ℕ) (xs : List X) (n : ℕ) (x : X) → length xs ≡ n → ((k : ℕ) → k < n → get_or xs k x ≡ f (a + k))
    → xs ≡ map f (range_with_len a n)
filled_from f a xs n x long filled =
    fill_by_all (λ k. f (a + k)) xs n x long filled ∙ map_moved f a 0 n ∙ ap (λ b. map f (range_with_len b n)) (omega arith)

-- one more digit below those of an address
pub number_more : (drives : List Drive) (k n : ℕ) → number_of (taken_from drives k (n + 1)) ≡ 2 * number_of (taken_from drives (k + 1) n) + (if taken_at drives k then 1 else 0)
unfolding taken_from
number_more drives k n =
    let cut : number_of (taken_from drives k (suc n)) ≡ (if taken_at drives k then 1 else 0) + 2 * number_of (taken_from drives (k + 1) n) = refl in
    let last : n + 1 ≡ suc n = omega arith in
    let whole : number_of (taken_from drives k (n + 1)) ≡ number_of (taken_from drives k (suc n)) = ap (λ m. number_of (taken_from drives k m)) last in
    omega (arith, cut, whole)

-- a step of the RAM at place j, where those before it have made theirs
pub stepped_more : (drives : List Drive) (k j : ℕ) (old rams : List (Setup × Kept)) (ram next : Setup × Kept) → j < length rams → ram ≡ get_or rams j ram
    → next ≡ (ram.0, after ram.0 ram.1 (pins_at drives (k + 74 * j)))
    → after_all drives k old ≡ take j rams ++ after_all drives (k + 74 * j) (drop j rams)
    → after_all drives k old ≡ take (j + 1) (set rams j next) ++ after_all drives (k + 74 * (j + 1)) (drop (j + 1) (set rams j next))
stepped_more drives k j old rams ram next lt is made done =
    let seen : drop j rams ≡ ram ∷ drop (j + 1) rams = drop_more rams j ram lt ∙ ap (λ x. x ∷ drop (j + 1) rams) (sym is) in
    let place : k + 74 * j + 74 ≡ k + 74 * (j + 1) = omega arith in
    done
    ∙ ap (λ left. take j rams ++ after_all drives (k + 74 * j) left) seen
    ∙ ap (λ x. take j rams ++ x ∷ after_all drives (k + 74 * j + 74) (drop (j + 1) rams)) (sym made)
    ∙ ap (λ p. take j rams ++ next ∷ after_all drives p (drop (j + 1) rams)) place
    ∙ sym (append_assoc (take j rams) (next ∷ []) (after_all drives (k + 74 * (j + 1)) (drop (j + 1) rams)))
    ∙ ap (λ xs. xs ++ after_all drives (k + 74 * (j + 1)) (drop (j + 1) rams)) (sym (take_more_set rams j next lt))
    ∙ ap (λ left. take (j + 1) (set rams j next) ++ after_all drives (k + 74 * (j + 1)) left) (sym (drop-set-lt (j + 1) rams j next (omega arith)))

pub power_more : (n : ℕ) → 2 ^ (n + 1) ≡ 2 * 2 ^ n
power_more n = ap (λ m. 2 ^ m) (omega arith) ∙ (let e : 2 ^ suc n ≡ 2 * 2 ^ n = omega (arith, pow-suc 2 n) in e)
