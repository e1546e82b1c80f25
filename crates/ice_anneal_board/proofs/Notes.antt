-- Nets that are noted for clusters.
use Rattle.std.proofs.Common.{◌≡◌, ◌≢◌, ℕ, zero, suc, ◌+◌, ◌<◌, ◌≤◌, ◌⊎◌, inl, inr, Bool, true, false, ◌||◌, List, [], ◌∷◌, ◌++◌, length, get_or, set, refl, ap, sym, subst, ◌∙◌, below_more, true≢false, arith}
use Rattle.std.specs.Prelude.{◌^◌, Result, Ok, Err, OnOk}
use Rattle.std.specs.Option.{option_map_or}
use Rattle.std.specs.List.{All, Contains}
use Rattle.std.proofs.lemmas.Bool.{cases_eq, cases_lt, ne_eqb}
use Rattle.std.proofs.lemmas.List.{length-set, get_or-set_same, get_or-set_other}
use Rattle.std.proofs.lemmas.List.Elements.{All-nil}
use Rattle.std.proofs.lemmas.List.Folds.{list_any-append}
use Rattle.std.proofs.lemmas.Option.{slice_get-get_or, slice_get_past, same_Some, slice_get_within}
use Rattle.ice_base.specs.declared.number.TileAt.{TileAt}
use Rattle.ice_anneal_board.specs.declared.net.Node.{Node}
use Rattle.ice_anneal_board.specs.declared.net.Node.TheVariants.{Cluster as of_cluster, Fixed as of_tile}
use Rattle.ice_anneal_board.specs.declared.net.NetNodes.{NetNodes}
use Rattle.ice_anneal_board.specs.declared.wiring.Touched.{Touched}
use Rattle.ice_anneal_board.specs.declared.wiring.Wiring.{Wiring}
use Rattle.ice_anneal_board.specs.Length.{IsNet}
use Rattle.ice_anneal_board.specs.Wiring.{At, is_of, touches, IsWiring}
use Rattle.ice_anneal_board.specs.Noting.{nets_at, Noted, Wired}

-- ---- what is noted for one cluster
at_within : (xs : List Touched) (c : ℕ) (d : Touched) → c < length xs → nets_at xs c ≡ (get_or xs c d).nets.items
at_within xs c d lt = ap (λ o. option_map_or (λ (t : Touched). t.nets.items) o []) (slice_get-get_or xs c d lt)

at_past : (xs : List Touched) (c : ℕ) → length xs ≤ c → nets_at xs c ≡ []
at_past xs c le = ap (λ o. option_map_or (λ (t : Touched). t.nets.items) o []) (slice_get_past xs c le)

at_set_same : (xs : List Touched) (c : ℕ) (t : Touched) → c < length xs → nets_at (set xs c t) c ≡ t.nets.items
at_set_same xs c t lt =
    let long : c < length (set xs c t) = let e = length-set xs c t in omega arith in
    at_within (set xs c t) c t long ∙ ap (λ (u : Touched). u.nets.items) (get_or-set_same xs c t t lt)

at_set_other : (xs : List Touched) (c e : ℕ) (t : Touched) → e ≢ c → nets_at (set xs c t) e ≡ nets_at xs e
at_set_other xs c e t ne = by (cases_lt e (length xs))
  where
    by : (e < length xs) ⊎ (length xs ≤ e) → nets_at (set xs c t) e ≡ nets_at xs e
    by (inl lt) =
        let long : e < length (set xs c t) = let n = length-set xs c t in omega arith in
        at_within (set xs c t) e t long ∙ ap (λ (u : Touched). u.nets.items) (get_or-set_other xs c e t t ne) ∙ sym (at_within xs e t lt)
    by (inr ge) =
        let past : length (set xs c t) ≤ e = let n = length-set xs c t in omega arith in
        at_past (set xs c t) e past ∙ sym (at_past xs e ge)

pub at_push : (xs : List Touched) (t : Touched) → ((c : ℕ) → nets_at xs c ≡ []) → t.nets.items ≡ [] → (c : ℕ) → nets_at (xs ++ t ∷ []) c ≡ []
at_push [] t h e zero = e
at_push [] t h e (suc c) = refl
at_push (x ∷ xs) t h e zero = h 0
at_push (x ∷ xs) t h e (suc c) = at_push xs t (λ i. h (suc i)) e c

-- ---- one net
pub none_noted : (xs : List Touched) (k : ℕ) → Noted xs xs k []
none_noted xs k = record { counts = refl; kept = λ c j h. h; within = λ limit c lt h. h; noted = λ c h. absurd (true≢false (sym h)) }

pub fixed_noted : (xs : List Touched) (k : ℕ) (t : TileAt) → Noted xs xs k (of_tile t ∷ [])
fixed_noted xs k t = record { counts = refl; kept = λ c j h. h; within = λ limit c lt h. h; noted = λ c h. absurd (true≢false (sym h)) }

either : (a b : Bool) → (a || b) ≡ true → (a ≡ true) ⊎ (b ≡ true)
either true b h = inl refl
either false b h = inr h

pub more_noted : (old mid new : List Touched) (k : ℕ) (nodes : List Node) (node : Node) → Noted old mid k nodes → Noted mid new k (node ∷ []) → Noted old new k (nodes ++ node ∷ [])
more_noted old mid new k nodes node a b =
    record {
      counts = b.counts ∙ a.counts;
      kept = λ c j h. b.kept c j (a.kept c j h);
      within = λ limit c lt h. b.within limit c lt (a.within limit c lt h);
      noted = λ c h. elim (either (touches c nodes) (touches c (node ∷ [])) (sym (list_any-append (is_of c) nodes (node ∷ [])) ∙ h)) [
        | inl here ↦ b.kept c k (a.noted c here)
        | inr here ↦ b.noted c here
      ];
    }

pub set_noted : (xs : List Touched) (k c : ℕ) (t d : Touched) → c < length xs → Contains t.nets.items k
    → ((j : ℕ) → Contains (get_or xs c d).nets.items j → Contains t.nets.items j)
    → ((limit : ℕ) → k < limit → All (λ j. j < limit) (get_or xs c d).nets.items → All (λ j. j < limit) t.nets.items)
    → Noted xs (set xs c t) k (of_cluster c ∷ [])
set_noted xs k c t d lt has keeps within =
    let here = at_set_same xs c t lt in
    let before = at_within xs c d lt in
    record {
      counts = length-set xs c t;
      kept = λ e j h. elim (cases_eq e c) [
        | inl is ↦ subst (λ i. Contains (nets_at (set xs c t) i) j) (sym is) (subst (λ l. Contains l j) (sym here) (keeps j (subst (λ l. Contains l j) before (subst (λ i. Contains (nets_at xs i) j) is h))))
        | inr ne ↦ subst (λ l. Contains l j) (sym (at_set_other xs c e t ne)) h
      ];
      within = λ limit e below h. elim (cases_eq e c) [
        | inl is ↦ subst (λ i. All (λ j. j < limit) (nets_at (set xs c t) i)) (sym is)
            (subst (λ l. All (λ j. j < limit) l) (sym here) (within limit below (subst (λ l. All (λ j. j < limit) l) before (subst (λ i. All (λ j. j < limit) (nets_at xs i)) is h))))
        | inr ne ↦ subst (λ l. All (λ j. j < limit) l) (sym (at_set_other xs c e t ne)) h
      ];
      noted = λ e h. elim (cases_eq e c) [
        | inl is ↦ subst (λ i. Contains (nets_at (set xs c t) i) k) (sym is) (subst (λ l. Contains l k) (sym here) has)
        | inr ne ↦ absurd (true≢false (sym h ∙ ap (λ b. b || false) (ne_eqb c e (λ x. ne (sym x)))))
      ];
    }

pub noted_or_not : {T E : Type 0} (r : Result T E) (xs : List Touched) (k c : ℕ) (t before : Touched) → c < length xs → before ≡ get_or xs c before → OnOk r (Contains t.nets.items k)
    → OnOk r ((j : ℕ) → Contains before.nets.items j → Contains t.nets.items j)
    → OnOk r ((limit : ℕ) → k < limit → All (λ j. j < limit) before.nets.items → All (λ j. j < limit) t.nets.items)
    → OnOk r (Noted xs (set xs c t) k (of_cluster c ∷ []))
noted_or_not (Ok x) xs k c t before lt is has keeps within =
    set_noted xs k c t before lt has (subst (λ (u : Touched). (j : ℕ) → Contains u.nets.items j → Contains t.nets.items j) is keeps)
    (subst (λ (u : Touched). (limit : ℕ) → k < limit → All (λ j. j < limit) u.nets.items → All (λ j. j < limit) t.nets.items) is within)
noted_or_not (Err e) xs k c t before lt is has keeps within = tt

-- ---- all nets
pub more_wired : (count : ℕ) (nets : List NetNodes) (k : ℕ) (net : NetNodes) (old new : List Touched) → At nets k net → Wired count nets k old → Noted old new k net.nodes.items → Wired count nets (k + 1) new
more_wired count nets k net old new at w n =
    let below : k < length nets = slice_get_within nets k net at in
    record {
      counts = n.counts ∙ w.counts;
      within = λ c. n.within (length nets) c below (w.within c);
      each = λ c j m lt. below_more (λ i. (m : NetNodes) → At nets i m → touches c m.nodes.items ≡ true → Contains (nets_at new c) i) k
          (λ i l m a t. n.kept c i (w.each c i m l a t))
          (λ m a t. n.noted c (subst (λ (q : NetNodes). touches c q.nodes.items ≡ true) (same_Some m net (sym a ∙ at)) t))
          j lt m;
    }

pub none_wired : (count : ℕ) (nets : List NetNodes) (touching : List Touched) → length touching ≡ count → ((c : ℕ) → nets_at touching c ≡ []) → Wired count nets 0 touching
none_wired count nets touching e none =
    record {
      counts = e;
      within = λ c. subst (All (λ k. k < length nets)) (sym (none c)) (All-nil (λ k. k < length nets));
      each = λ c k net lt. absurd (omega arith);
    }

at_is : (touching : List Touched) (c : ℕ) (t : Touched) → At touching c t → nets_at touching c ≡ t.nets.items
at_is touching c t at = ap (λ o. option_map_or (λ (u : Touched). u.nets.items) o []) at

pub whole_wiring : (count : ℕ) (w : Wiring) → All (IsNet count) w.nets.items → length w.nets.items < 2 ^ 32 → Wired count w.nets.items (length w.nets.items) w.touching.items → IsWiring count w
whole_wiring count w fit few all =
    record {
      nets = fit;
      few = few;
      counts = all.counts;
      within = λ c t at. subst (All (λ k. k < length w.nets.items)) (at_is w.touching.items c t at) (all.within c);
      each = λ c t k net at here touched. subst (λ l. Contains l k) (at_is w.touching.items c t at) (all.each c k net (slice_get_within w.nets.items k net here) here touched);
    }
