-- The globals that global buffers take: different ones. On those of the direct ones the buffers can be direct, and the others can be taken.
use Rattle.std.proofs.Common.{◌≡◌, ℕ, zero, suc, ◌+◌, ◌≤◌, ◌==◌, nat_eq, nat_lt, Bool, true, false, not, ◌&&◌, ◌||◌, is_some, Option, None, Some, List, [], ◌∷◌, ◌++◌, length, map, filter, slice_get, if◌then◌else◌, refl, sym, ap, ◌∙◌, arith, true≢false}
use Rattle.std.specs.Prelude.{slice_index_or}
use Rattle.std.specs.List.{find, list_any, list_all}
use Rattle.std.proofs.lemmas.Bool.{and_parts, false_from_ne_true}
use Rattle.std.proofs.lemmas.List.{length-map}
use Rattle.std.proofs.lemmas.List.Folds.{list_any-append}
use Rattle.ice_base.proofs.Booleans.{not_true}
use Rattle.ice_base.proofs.Keys.{nat_same, nat_self}
use Rattle.ice_chip.specs.Database.{Parts}
use Rattle.ice_chip.specs.Lookups.{global_of, gbufpin_of}
use Rattle.ice_chip.specs.declared.rows.Pad.{Pad}
use Rattle.ice_pads.specs.declared.want.Buffer.{Buffer}
use Rattle.ice_pads.specs.declared.want.Pins.{Pins}
use Rattle.ice_pads.specs.Globals.{numbers, global_wire, is_fed, some_lower, is_global, globals, is_pad, has_own_extra, meets, can_be_direct, has_number, is_taken, is_free_for, direct_on, direct_choices, other_choices, chosen_from, without, left, fed_pins, is_there, TakenData, taken_by}
use Rattle.ice_pads.proofs.GlobalLaws.{Apart, AreDisjoint, somes, nones, neither, left_holds, right_holds, both_hold, filter_less, filter_apart, filter_all, out, one_less, passes, found_in, others_apart, others_pass, others_long, filter_long, is_one, all_chosen, globals_apart, globals_pass, eight_pass}

-- ---- what direct buffers take
find_passes : (p : ℕ → Bool) (xs : List ℕ) (n : ℕ) → find p xs ≡ Some n → p n ≡ true
find_passes p [] n e = absurd (cc)
find_passes p (x ∷ xs) n e = by (p x) refl (find_passes p xs n) e
  where
    by : (b : Bool) → p x ≡ b → (find p xs ≡ Some n → p n ≡ true) → (if b then Some x else find p xs) ≡ Some n → p n ≡ true
    by true is later e = let same : x ≡ n = cc in ap p (sym same) ∙ is
    by false is later e = later e

-- the buffer takes the level of a pad, and can be direct on the global
pub record IsChoice (parts : Parts) (b : Buffer) (n : ℕ) : Type 0 where
  pub pad : Pad
  pub takes : b.pad ≡ Some pad
  pub can : can_be_direct parts b.pins pad n ≡ true
  pub below : nat_lt n 8 ≡ true

free_choice : (parts : Parts) (taken : List (Option ℕ)) (pins : Pins) (o : Option Pad) (n : ℕ) → direct_on parts taken pins o ≡ Some n
    → (pad : Pad) × (o ≡ Some pad) × (is_free_for parts taken pins pad n ≡ true) × (nat_lt n 8 ≡ true)
free_choice parts taken pins None n e = absurd (cc)
free_choice parts taken pins (Some pad) n e = (
  pad,
  refl,
  find_passes (is_free_for parts taken pins pad) numbers n e,
  passes (λ m. nat_lt m 8) numbers n eight_pass (found_in (is_free_for parts taken pins pad) numbers n e),
)

is_choice : (parts : Parts) (taken : List (Option ℕ)) (b : Buffer) (n : ℕ) → direct_on parts taken b.pins b.pad ≡ Some n → IsChoice parts b n
is_choice parts taken b n e =
    let got = free_choice parts taken b.pins b.pad n e in
    record { pad = got.0; takes = got.1; can = (and_parts (not (is_taken taken n)) (can_be_direct parts b.pins got.0 n) got.2).1; below = got.3 }

was_free : (parts : Parts) (taken : List (Option ℕ)) (b : Buffer) (n : ℕ) → direct_on parts taken b.pins b.pad ≡ Some n → is_taken taken n ≡ false
was_free parts taken b n e =
    let got = free_choice parts taken b.pins b.pad n e in
    not_true (is_taken taken n) (and_parts (not (is_taken taken n)) (can_be_direct parts b.pins got.0 n) got.2).0

still : (taken : List (Option ℕ)) (o : Option ℕ) (n : ℕ) → is_taken taken n ≡ true → is_taken (taken ++ o ∷ []) n ≡ true
still taken o n is = list_any-append (has_number n) taken (o ∷ []) ∙ left_holds (is_taken taken n) (is_taken (o ∷ []) n) is

newly : (taken : List (Option ℕ)) (n : ℕ) → is_taken (taken ++ Some n ∷ []) n ≡ true
newly taken n = list_any-append (has_number n) taken (Some n ∷ []) ∙ right_holds (is_taken taken n) (is_taken (Some n ∷ []) n) (left_holds (nat_eq n n) false (nat_self n))

-- none takes what is taken
not_again : (parts : Parts) (taken : List (Option ℕ)) (bs : List Buffer) (n : ℕ) → is_taken taken n ≡ true → list_any (nat_eq n) (somes (direct_choices parts taken bs)) ≡ false
not_again parts taken [] n is = refl
not_again parts taken (b ∷ bs) n is = by (direct_on parts taken b.pins b.pad) refl (λ o. not_again parts (taken ++ o ∷ []) bs n (still taken o n is))
  where
    other : (m : ℕ) → is_taken taken m ≡ false → nat_eq n m ≡ true → ⊥
    other m free same = true≢false (sym is ∙ ap (is_taken taken) (nat_same n m same) ∙ free)

    by : (o : Option ℕ) → direct_on parts taken b.pins b.pad ≡ o → ((p : Option ℕ) → list_any (nat_eq n) (somes (direct_choices parts (taken ++ p ∷ []) bs)) ≡ false)
        → list_any (nat_eq n) (somes (o ∷ direct_choices parts (taken ++ o ∷ []) bs)) ≡ false
    by None e rest = rest None
    by (Some m) e rest =
        neither (nat_eq n m) (list_any (nat_eq n) (somes (direct_choices parts (taken ++ Some m ∷ []) bs))) (false_from_ne_true (nat_eq n m) (other m (was_free parts taken b m e))) (rest (Some m))

pub direct_apart : (parts : Parts) (taken : List (Option ℕ)) (bs : List Buffer) → Apart (somes (direct_choices parts taken bs))
direct_apart parts taken [] = tt
direct_apart parts taken (b ∷ bs) = by (direct_on parts taken b.pins b.pad) (λ o. direct_apart parts (taken ++ o ∷ []) bs)
  where
    by : (o : Option ℕ) → ((p : Option ℕ) → Apart (somes (direct_choices parts (taken ++ p ∷ []) bs))) → Apart (somes (o ∷ direct_choices parts (taken ++ o ∷ []) bs))
    by None rest = rest None
    by (Some n) rest = (not_again parts (taken ++ Some n ∷ []) bs n (newly taken n), rest (Some n))

pub direct_long : (parts : Parts) (taken : List (Option ℕ)) (bs : List Buffer) → length (direct_choices parts taken bs) ≡ length bs
direct_long parts taken [] = refl
direct_long parts taken (b ∷ bs) =
    let rest = direct_long parts (taken ++ direct_on parts taken b.pins b.pad ∷ []) bs in
    omega (arith, rest)

direct_at : (parts : Parts) (taken : List (Option ℕ)) (bs : List Buffer) (k n : ℕ) → slice_get (direct_choices parts taken bs) k ≡ Some (Some n) → (b : Buffer) × (slice_get bs k ≡ Some b) × IsChoice parts b n
direct_at parts taken [] k n e = absurd (cc)
direct_at parts taken (b ∷ bs) zero n e = let same : direct_on parts taken b.pins b.pad ≡ Some n = cc in (b, refl, is_choice parts taken b n same)
direct_at parts taken (b ∷ bs) (suc k) n e = direct_at parts (taken ++ direct_on parts taken b.pins b.pad ∷ []) bs k n e

-- a wire has the name of the global
abbrev pub is_named : Parts → ℕ → Bool
is_named parts n = is_some (global_wire parts n) && nat_lt n 8

choice_named : (parts : Parts) (b : Buffer) (n : ℕ) → IsChoice parts b n → is_named parts n ≡ true
choice_named parts b n is =
    let own = is_pad is.pad (gbufpin_of parts n) && has_own_extra parts n in
    let three = and_parts (own && is_some (global_wire parts n)) (meets parts b.pins n) is.can in
    both_hold (is_some (global_wire parts n)) (nat_lt n 8) (and_parts own (is_some (global_wire parts n)) three.0).1 is.below

pub direct_named : (parts : Parts) (taken : List (Option ℕ)) (bs : List Buffer) → list_all (is_named parts) (somes (direct_choices parts taken bs)) ≡ true
direct_named parts taken [] = refl
direct_named parts taken (b ∷ bs) = by (direct_on parts taken b.pins b.pad) refl (λ o. direct_named parts (taken ++ o ∷ []) bs)
  where
    by : (o : Option ℕ) → direct_on parts taken b.pins b.pad ≡ o → ((p : Option ℕ) → list_all (is_named parts) (somes (direct_choices parts (taken ++ p ∷ []) bs)) ≡ true)
        → list_all (is_named parts) (somes (o ∷ direct_choices parts (taken ++ o ∷ []) bs)) ≡ true
    by None e rest = rest None
    by (Some n) e rest = both_hold (is_named parts n) (list_all (is_named parts) (somes (direct_choices parts (taken ++ Some n ∷ []) bs))) (choice_named parts b n (is_choice parts taken b n e)) (rest (Some n))

-- ---- the globals that are left
without_apart : (o : Option ℕ) (free : List ℕ) → Apart free → Apart (without o free)
without_apart None free apart = apart
without_apart (Some n) free apart = filter_apart (λ m. not (m == n)) free apart

without_pass : (test : ℕ → Bool) (o : Option ℕ) (free : List ℕ) → list_all test free ≡ true → list_all test (without o free) ≡ true
without_pass test None free pass = pass
without_pass test (Some n) free pass = filter_all test (λ m. not (m == n)) free pass

without_less : (p : ℕ → Bool) (o : Option ℕ) (free : List ℕ) → list_any p free ≡ false → list_any p (without o free) ≡ false
without_less p None free none = none
without_less p (Some n) free none = filter_less p (λ m. not (m == n)) free none

pub left_apart : (taken : List (Option ℕ)) (free : List ℕ) → Apart free → Apart (left taken free)
left_apart [] free apart = apart
left_apart (o ∷ taken) free apart = left_apart taken (without o free) (without_apart o free apart)

pub left_pass : (test : ℕ → Bool) (taken : List (Option ℕ)) (free : List ℕ) → list_all test free ≡ true → list_all test (left taken free) ≡ true
left_pass test [] free pass = pass
left_pass test (o ∷ taken) free pass = left_pass test taken (without o free) (without_pass test o free pass)

left_less : (p : ℕ → Bool) (taken : List (Option ℕ)) (free : List ℕ) → list_any p free ≡ false → list_any p (left taken free) ≡ false
left_less p [] free none = none
left_less p (o ∷ taken) free none = left_less p taken (without o free) (without_less p o free none)

-- what is taken is not left
left_without : (taken : List (Option ℕ)) (free : List ℕ) (m : ℕ) → list_any (nat_eq m) (somes taken) ≡ true → list_any (nat_eq m) (left taken free) ≡ false
left_without [] free m is = absurd (true≢false (sym is))
left_without (None ∷ taken) free m is = left_without taken free m is
left_without (Some n ∷ taken) free m is = by (nat_eq m n) refl is (left_without taken (without (Some n) free) m)
  where
    by : (b : Bool) → nat_eq m n ≡ b → (b || list_any (nat_eq m) (somes taken)) ≡ true → (list_any (nat_eq m) (somes taken) ≡ true → list_any (nat_eq m) (left taken (without (Some n) free)) ≡ false)
        → list_any (nat_eq m) (left taken (without (Some n) free)) ≡ false
    by true same is later = ap (λ k. list_any (nat_eq k) (left taken (without (Some n) free))) (nat_same m n same) ∙ left_less (nat_eq n) taken (without (Some n) free) (out n free)
    by false same is later = later is

one_taken : (o : Option ℕ) (free : List ℕ) → Apart free → length free ≤ length (without o free) + length (somes (o ∷ []))
one_taken None free apart = omega arith
one_taken (Some n) free apart = let one : length free ≤ length (filter (λ m. not (m == n)) free) + 1 = one_less n free apart in omega (arith, one)

somes_more : (o : Option ℕ) (taken : List (Option ℕ)) → length (somes (o ∷ taken)) ≡ length (somes (o ∷ [])) + length (somes taken)
somes_more None taken = omega arith
somes_more (Some n) taken = omega arith

-- at most as many fewer as are taken
pub left_long : (taken : List (Option ℕ)) (free : List ℕ) → Apart free → length free ≤ length (left taken free) + length (somes taken)
left_long [] free apart = omega arith
left_long (o ∷ taken) free apart =
    let one = one_taken o free apart in
    let rest = left_long taken (without o free) (without_apart o free apart) in
    let more = somes_more o taken in
    omega (arith, one, rest, more)

-- at most as many as there are
without_few : (o : Option ℕ) (free : List ℕ) → length (without o free) ≤ length free
without_few None free = omega arith
without_few (Some n) free = filter_long (λ m. not (m == n)) free

pub left_few : (taken : List (Option ℕ)) (free : List ℕ) → length (left taken free) ≤ length free
left_few [] free = omega arith
left_few (o ∷ taken) free = let one = without_few o free in let rest = left_few taken (without o free) in omega (arith, one, rest)

-- ---- the buffers that are not direct
pub fed_long : (direct : List (Option ℕ)) (bs : List Buffer) → length direct ≡ length bs → length (fed_pins direct bs) ≡ nones direct
fed_long [] bs long = refl
fed_long (o ∷ direct) [] long = absurd (omega (arith, long))
fed_long (None ∷ direct) (b ∷ bs) long = let rest = fed_long direct bs (omega (arith, long)) in omega (arith, rest)
fed_long (Some n ∷ direct) (b ∷ bs) long = fed_long direct bs (omega (arith, long))

pub fed_beside : (direct : List (Option ℕ)) (bs : List Buffer) → length direct ≡ length bs → length (fed_pins direct bs) + length (somes direct) ≡ length bs
fed_beside [] bs long = omega (arith, long)
fed_beside (o ∷ direct) [] long = absurd (omega (arith, long))
fed_beside (None ∷ direct) (b ∷ bs) long = let rest = fed_beside direct bs (omega (arith, long)) in omega (arith, rest)
fed_beside (Some n ∷ direct) (b ∷ bs) long = let rest = fed_beside direct bs (omega (arith, long)) in omega (arith, rest)

-- ---- all of them
all_weaker : (p q : ℕ → Bool) (xs : List ℕ) → ((n : ℕ) → p n ≡ true → q n ≡ true) → list_all p xs ≡ true → list_all q xs ≡ true
all_weaker p q [] weaker all = refl
all_weaker p q (x ∷ xs) weaker all = let two = and_parts (p x) (list_all p xs) all in both_hold (q x) (list_all q xs) (weaker x two.0) (all_weaker p q xs weaker two.1)

one_named : (parts : Parts) (n : ℕ) → is_one parts n ≡ true → is_named parts n ≡ true
one_named parts n is =
    let wire = is_some (global_wire parts n) in
    let fed = is_fed parts (global_of parts n) in
    let lower = not (some_lower parts n (global_of parts n)) in
    let one = and_parts (is_global parts n) (nat_lt n 8) is in
    let two = and_parts (wire && fed) lower one.0 in
    both_hold wire (nat_lt n 8) (and_parts wire fed two.0).0 one.1

-- a buffer that is direct has its own choice, and one that is not one of the others
direct_there : (direct : List (Option ℕ)) (others : List ℕ) (k n : ℕ) → slice_get (other_choices direct others) k ≡ Some n → slice_index_or (map is_there direct) k false ≡ true → slice_get direct k ≡ Some (Some n)
direct_there [] others k n e is = absurd (cc)
direct_there (Some m ∷ direct) others zero n e is = let same : m ≡ n = cc in ap (λ x. Some (Some x)) same
direct_there (Some m ∷ direct) others (suc k) n e is = direct_there direct others k n e is
direct_there (None ∷ direct) others zero n e is = absurd (true≢false (sym is))
direct_there (None ∷ direct) [] (suc k) n e is = direct_there direct [] k n e is
direct_there (None ∷ direct) (m ∷ others) (suc k) n e is = direct_there direct others k n e is

other_there : (test : ℕ → Bool) (direct : List (Option ℕ)) (others : List ℕ) (k n : ℕ) → nones direct ≤ length others → list_all test others ≡ true
    → slice_get (other_choices direct others) k ≡ Some n → slice_index_or (map is_there direct) k false ≡ false → test n ≡ true
other_there test [] others k n room all e not_direct = absurd (cc)
other_there test (Some m ∷ direct) others zero n room all e not_direct = absurd (true≢false not_direct)
other_there test (Some m ∷ direct) others (suc k) n room all e not_direct = other_there test direct others k n room all e not_direct
other_there test (None ∷ direct) [] k n room all e not_direct = absurd (omega arith)
other_there test (None ∷ direct) (m ∷ others) zero n room all e not_direct = let same : m ≡ n = cc in ap test (sym same) ∙ (and_parts (test m) (list_all test others) all).0
other_there test (None ∷ direct) (m ∷ others) (suc k) n room all e not_direct = other_there test direct others k n (omega arith) (and_parts (test m) (list_all test others) all).1 e not_direct

pub record AreFit (parts : Parts) (bs : List Buffer) (taken : TakenData) : Type 0 where
  pub apart : Apart taken.numbers
  pub pass : list_all (is_named parts) taken.numbers ≡ true
  pub long : length taken.numbers ≡ length bs
  pub directs : length taken.direct ≡ length bs
  pub direct : (k n : ℕ) → slice_get taken.numbers k ≡ Some n → slice_index_or taken.direct k false ≡ true → (b : Buffer) × (slice_get bs k ≡ Some b) × IsChoice parts b n
  pub fed : (k n : ℕ) → slice_get taken.numbers k ≡ Some n → slice_index_or taken.direct k false ≡ false → is_one parts n ≡ true

-- the global is among these
abbrev is_among : List ℕ → ℕ → Bool
is_among free n = list_any (nat_eq n) free

members : (free xs : List ℕ) → ((n : ℕ) → list_any (nat_eq n) xs ≡ true → is_among free n ≡ true) → list_all (is_among free) xs ≡ true
members free [] are = refl
members free (x ∷ xs) are =
    both_hold (is_among free x) (list_all (is_among free) xs) (are x (left_holds (nat_eq x x) (list_any (nat_eq x) xs) (nat_self x)))
    (members free xs (λ n is. are n (right_holds (nat_eq n x) (list_any (nat_eq n) xs) is)))

pub all_fit : (parts : Parts) (bs : List Buffer) → length (fed_pins (direct_choices parts [] bs) bs) ≤ length (left (direct_choices parts [] bs) (globals parts))
    → AreFit parts bs (taken_by parts (direct_choices parts [] bs) (left (direct_choices parts [] bs) (globals parts)) (fed_pins (direct_choices parts [] bs) bs))
all_fit parts bs enough =
    let direct = direct_choices parts [] bs in
    let free = left direct (globals parts) in
    let pins = fed_pins direct bs in
    let long = direct_long parts [] bs in
    let chosen = all_chosen parts (is_among free) free pins (left_apart direct (globals parts) (globals_apart parts)) (members free free (λ n is. is)) enough in
    let others = chosen_from parts free pins in
    let room : nones direct ≤ length others = (let a = fed_long direct bs long in let b = chosen.long in omega (arith, a, b)) in
    let ones = all_weaker (is_among free) (is_one parts) others (λ n is. passes (is_one parts) free n (left_pass (is_one parts) direct (globals parts) (globals_pass parts)) is) chosen.pass in
    let disjoint : AreDisjoint (somes direct) others = λ m is. false_from_ne_true (list_any (nat_eq m) others) (λ also. true≢false (sym (passes (is_among free) others m chosen.pass also) ∙ left_without direct (globals parts) m is)) in
    record {
      apart = others_apart direct others room (direct_apart parts [] bs) chosen.apart disjoint;
      pass = others_pass (is_named parts) direct others room (direct_named parts [] bs) (all_weaker (is_one parts) (is_named parts) others (one_named parts) ones);
      long = others_long direct others ∙ long;
      directs = length-map direct is_there ∙ long;
      direct = λ k n at is. direct_at parts [] bs k n (direct_there direct others k n at is);
      fed = λ k n at not_direct. other_there (is_one parts) direct others k n room ones at not_direct;
    }
