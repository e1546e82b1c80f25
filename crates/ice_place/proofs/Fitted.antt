-- What first fit gives: nothing is lost, each run has as many sites as it has chunks, one above the other in a stretch.
use Rattle.std.proofs.Common.{◌≡◌, ◌≢◌, ◌⊎◌, inl, inr, ℕ, zero, suc, ◌+◌, ◌<◌, ◌≤◌, true, false, eqb, nat_le, Option, Some, None, Ok, List, [], ◌∷◌, length, get_or, set, take, drop, refl, ap, sym, ◌∙◌, subst, arith}
use Rattle.std.proofs.lemmas.Bool.{leb-true, cases_lt}
use Rattle.std.proofs.lemmas.Bool.Decides.{eqb_tells}
use Rattle.std.proofs.lemmas.List.{length-set, length-replicate, length-take-le, get_or-set_same, get_or-set_other, get_or-replicate, get_or_past, drop-drop}
use Rattle.std.proofs.lemmas.List.Quantifiers.{position-Some}
use Rattle.ice_base.specs.declared.number.TileAt.{TileAt}
use Rattle.ice_place.specs.Fit.{Fitting, chunks, with_run, fit_at, first_room, fit, ◌>>=◌}
use Rattle.ice_place.specs.Place.{none_taken}
use Rattle.ice_place.proofs.Weights.{weight, total, weight_none, weight_cut, total_none, total_cons, total_set}
use Rattle.ice_place.proofs.Orders.{Each, each_none, each_head, each_tail, each_cons, each_both, Apart, apart_head, apart_tail}

-- sites of a stretch from a place on
pub record IsPiece (stretches : List (List TileAt)) (sites : List TileAt) : Type 0 where
  pub stretch : ℕ
  pub from : ℕ
  pub count : ℕ
  pub is : sites ≡ take count (drop from (get_or stretches stretch []))

-- what is left of a stretch
pub record IsTail (whole sites : List TileAt) : Type 0 where
  pub from : ℕ
  pub is : sites ≡ drop from whole

abbrev pub in_all : (TileAt → ℕ) → Fitting → ℕ
in_all w f = total w f.left + total w f.taken

pub record IsFitted (stretches : List (List TileAt)) (runs : List ℕ) (f : Fitting) : Type 0 where
  pub count : length f.taken ≡ length runs
  pub weights : (w : TileAt → ℕ) → in_all w f ≡ total w stretches
  pub tails : (i : ℕ) → IsTail (get_or stretches i []) (get_or f.left i [])
  pub pieces : (r : ℕ) → IsPiece stretches (get_or f.taken r [])

-- the run has its sites
abbrev pub Has : List ℕ → Fitting → ℕ → Type 0
Has runs f r = length (get_or f.taken r []) ≡ chunks (get_or runs r 0)

abbrev pub IsFree : Fitting → ℕ → Type 0
IsFree f r = get_or f.taken r [] ≡ []

-- ---- one run
weights_with : (w : TileAt → ℕ) (run size stretch : ℕ) (f : Fitting) → run < length f.taken → stretch < length f.left → IsFree f run → in_all w (with_run run size stretch f) ≡ in_all w f
weights_with w run size stretch f r s free =
    let left = total_set w f.left stretch (drop size (get_or f.left stretch [])) s in
    let taken = total_set w f.taken run (take size (get_or f.left stretch [])) r in
    let cut = weight_cut w size (get_or f.left stretch []) in
    let none : weight w (get_or f.taken run []) ≡ 0 = ap (weight w) free ∙ weight_none w in
    omega arith

tail_with : (stretches : List (List TileAt)) (run size stretch : ℕ) (f : Fitting) → stretch < length f.left → ((i : ℕ) → IsTail (get_or stretches i []) (get_or f.left i [])) → (i : ℕ)
    → IsTail (get_or stretches i []) (get_or (set f.left stretch (drop size (get_or f.left stretch []))) i [])
tail_with stretches run size stretch f s tails i = by (eqb_tells i stretch)
  where
    by : ((eqb i stretch ≡ true) × (i ≡ stretch)) ⊎ ((eqb i stretch ≡ false) × (i ≢ stretch)) → IsTail (get_or stretches i []) (get_or (set f.left stretch (drop size (get_or f.left stretch []))) i [])
    by (inl (t, same)) = record {
      from = (tails stretch).from + size;
      is = ap (λ j. get_or (set f.left stretch (drop size (get_or f.left stretch []))) j []) same ∙ get_or-set_same f.left stretch (drop size (get_or f.left stretch [])) [] s
          ∙ ap (drop size) (tails stretch).is ∙ drop-drop size (tails stretch).from (get_or stretches stretch []) ∙ ap (λ j. drop ((tails stretch).from + size) (get_or stretches j [])) (sym same);
    }
    by (inr (e, other)) = record { from = (tails i).from; is = get_or-set_other f.left stretch i (drop size (get_or f.left stretch [])) [] other ∙ (tails i).is }

piece_with : (stretches : List (List TileAt)) (run size stretch : ℕ) (f : Fitting) → run < length f.taken → ((i : ℕ) → IsTail (get_or stretches i []) (get_or f.left i [])) → ((r : ℕ) → IsPiece stretches (get_or f.taken r [])) → (r : ℕ)
    → IsPiece stretches (get_or (set f.taken run (take size (get_or f.left stretch []))) r [])
piece_with stretches run size stretch f lt tails pieces r = by (eqb_tells r run)
  where
    by : ((eqb r run ≡ true) × (r ≡ run)) ⊎ ((eqb r run ≡ false) × (r ≢ run)) → IsPiece stretches (get_or (set f.taken run (take size (get_or f.left stretch []))) r [])
    by (inl (t, same)) = record {
      stretch = stretch;
      from = (tails stretch).from;
      count = size;
      is = ap (λ j. get_or (set f.taken run (take size (get_or f.left stretch []))) j []) same ∙ get_or-set_same f.taken run (take size (get_or f.left stretch [])) [] lt ∙ ap (take size) (tails stretch).is;
    }
    by (inr (e, other)) = record {
      stretch = (pieces r).stretch;
      from = (pieces r).from;
      count = (pieces r).count;
      is = get_or-set_other f.taken run r (take size (get_or f.left stretch [])) [] other ∙ (pieces r).is;
    }

fitted_with : (stretches : List (List TileAt)) (runs : List ℕ) (run size stretch : ℕ) (f : Fitting) → IsFitted stretches runs f → run < length runs → stretch < length f.left → IsFree f run
    → IsFitted stretches runs (with_run run size stretch f)
fitted_with stretches runs run size stretch f h r s free =
    let lt : run < length f.taken = (let count = h.count in omega arith) in
    record {
      count = length-set f.taken run (take size (get_or f.left stretch [])) ∙ h.count;
      weights = λ w. weights_with w run size stretch f lt s free ∙ h.weights w;
      tails = tail_with stretches run size stretch f s h.tails;
      pieces = piece_with stretches run size stretch f lt h.tails h.pieces;
    }

free_with : (run size stretch r : ℕ) (f : Fitting) → r ≢ run → IsFree f r → IsFree (with_run run size stretch f) r
free_with run size stretch r f other free = get_or-set_other f.taken run r (take size (get_or f.left stretch [])) [] other ∙ free

has_with : (runs : List ℕ) (run stretch : ℕ) (f : Fitting) → run < length f.taken → chunks (get_or runs run 0) ≤ length (get_or f.left stretch []) → Has runs (with_run run (chunks (get_or runs run 0)) stretch f) run
has_with runs run stretch f lt room =
    ap length (get_or-set_same f.taken run (take (chunks (get_or runs run 0)) (get_or f.left stretch [])) [] lt) ∙ length-take-le (chunks (get_or runs run 0)) (get_or f.left stretch []) room

has_still : (runs : List ℕ) (run stretch : ℕ) (f : Fitting) → run < length f.taken → chunks (get_or runs run 0) ≤ length (get_or f.left stretch []) → (r : ℕ) → Has runs f r → Has runs (with_run run (chunks (get_or runs run 0)) stretch f) r
has_still runs run stretch f lt room r has = by (eqb_tells r run)
  where
    by : ((eqb r run ≡ true) × (r ≡ run)) ⊎ ((eqb r run ≡ false) × (r ≢ run)) → Has runs (with_run run (chunks (get_or runs run 0)) stretch f) r
    by (inl (t, same)) = subst (λ j. Has runs (with_run run (chunks (get_or runs run 0)) stretch f) j) (sym same) (has_with runs run stretch f lt room)
    by (inr (e, other)) = ap length (get_or-set_other f.taken run r (take (chunks (get_or runs run 0)) (get_or f.left stretch [])) [] other) ∙ has

-- ---- all runs
pub record Ends (stretches : List (List TileAt)) (runs order : List ℕ) (f g : Fitting) : Type 0 where
  pub fitted : IsFitted stretches runs g
  pub still : (r : ℕ) → Has runs f r → Has runs g r
  pub has : Each (Has runs g) order

pub all_fitted : (stretches : List (List TileAt)) (runs order : List ℕ) (f g : Fitting) → IsFitted stretches runs f → Each (λ r. r < length runs) order → Apart order → Each (IsFree f) order → fit runs order f ≡ Ok g
    → Ends stretches runs order f g
all_fitted stretches runs [] f g h within apart free e =
    let same : f ≡ g = cc in
    record { fitted = subst (IsFitted stretches runs) same h; still = λ r has. subst (λ x. Has runs x r) same has; has = each_none (Has runs g) }
all_fitted stretches runs (run ∷ order) f g h within apart free e =
    by (first_room (chunks (get_or runs run 0)) f.left) refl (λ next. all_fitted stretches runs order next g) e
  where
    by : (o : Option ℕ) → first_room (chunks (get_or runs run 0)) f.left ≡ o
        → ((next : Fitting) → IsFitted stretches runs next → Each (λ r. r < length runs) order → Apart order → Each (IsFree next) order → fit runs order next ≡ Ok g → Ends stretches runs order next g)
        → (fit_at run (get_or runs run 0) f o >>= fit runs order) ≡ Ok g → Ends stretches runs (run ∷ order) f g
    by None is rest said = absurd (cc)
    by (Some stretch) is rest said =
        let w = position-Some (λ sites. nat_le (chunks (get_or runs run 0)) (length sites)) f.left stretch [] is in
        let room = leb-true (chunks (get_or runs run 0)) (length (get_or f.left stretch [])) w.1 in
        let here = each_head (λ r. r < length runs) run order within in
        let lt : run < length f.taken = (let count = h.count in omega arith) in
        let next : Fitting = with_run run (chunks (get_or runs run 0)) stretch f in
        let ends = rest next (fitted_with stretches runs run (chunks (get_or runs run 0)) stretch f h here w.0 (each_head (IsFree f) run order free)) (each_tail (λ r. r < length runs) run order within) (apart_tail run order apart)
        (each_both (λ r. r ≢ run) (IsFree f) (IsFree next) order (λ r other was. free_with run (chunks (get_or runs run 0)) stretch r f other was) (apart_head run order apart) (each_tail (IsFree f) run order free)) said in
        record {
          fitted = ends.fitted;
          still = λ r has. ends.still r (has_still runs run stretch f lt room r has);
          has = each_cons (Has runs g) run order (ends.still run (has_with runs run stretch f lt room)) ends.has;
        }

-- ---- the beginning
none_get : (n r : ℕ) → get_or (none_taken n) r [] ≡ []
none_get n r = by (cases_lt r n)
  where
    by : (r < n) ⊎ (n ≤ r) → get_or (none_taken n) r [] ≡ []
    by (inl lt) = get_or-replicate n r [] [] lt
    by (inr le) = get_or_past (none_taken n) r [] (let l = length-replicate {A = List TileAt} n [] in omega arith)

none_total : (w : TileAt → ℕ) (n : ℕ) → total w (none_taken n) ≡ 0
none_total w zero = total_none w
none_total w (suc n) = total_cons w [] (none_taken n) ∙ (let none = weight_none w in let rest = none_total w n in omega arith)

pub begins : (stretches : List (List TileAt)) (runs : List ℕ) → IsFitted stretches runs (record { left = stretches; taken = none_taken (length runs) })
begins stretches runs = record {
  count = length-replicate (length runs) [];
  weights = λ w. (let none = none_total w (length runs) in omega arith);
  tails = λ i. record { from = 0; is = refl };
  pieces = λ r. record { stretch = 0; from = 0; count = 0; is = none_get (length runs) r };
}

pub all_free : (runs order : List ℕ) (stretches : List (List TileAt)) → Each (IsFree (record { left = stretches; taken = none_taken (length runs) })) order
all_free runs [] stretches = each_none (IsFree (record { left = stretches; taken = none_taken (length runs) }))
all_free runs (r ∷ order) stretches =
    each_cons (IsFree (record { left = stretches; taken = none_taken (length runs) })) r order (none_get (length runs) r) (all_free runs order stretches)

-- a run without cells has no sites
pub none_has : (runs : List ℕ) (r : ℕ) (stretches : List (List TileAt)) → chunks (get_or runs r 0) ≡ 0 → Has runs (record { left = stretches; taken = none_taken (length runs) }) r
none_has runs r stretches e = ap length (none_get (length runs) r) ∙ sym e
