-- The extra bits of direct global buffers, one more at a time.
use Rattle.std.proofs.Common.{◌≡◌, ◌⊎◌, inl, inr, ℕ, ◌+◌, ◌<◌, ◌≤◌, Bool, true, false, cond, Option, None, Some, List, [], ◌∷◌, ◌++◌, length, get_or, drop, filter, refl, sym, ap, ◌∙◌, append_assoc, append-nil, arith}
use Rattle.std.specs.Prelude.{◌&&◌, ◌||◌, min, nat_eq, filter_map}
use Rattle.std.specs.List.{cons_option}
use Rattle.std.proofs.lemmas.Bool.{cases_lt}
use Rattle.std.proofs.lemmas.List.{at_drop_more, at_drop_all}
use Rattle.ice_chip.specs.Database.{Parts}
use Rattle.ice_chip.specs.Lookups.{padin_of}
use Rattle.ice_bits.specs.Configuration.{Configuration}
use Rattle.ice_emit_defs.specs.Written.{takes_direct, extras_among}
use Rattle.ice_emit.specs.Views.{with_extras}

-- ---- buffers
both_drop : (globals : List ℕ) (direct : List Bool) (n k d : ℕ) (e : Bool) → k < length globals → k < length direct
    → takes_direct (drop k globals) (drop k direct) n ≡ ((get_or direct k e && nat_eq n (get_or globals k d)) || takes_direct (drop (k + 1) globals) (drop (k + 1) direct) n)
both_drop globals direct n k d e lt below =
    at_drop_more (λ xs. takes_direct xs (drop k direct) n) globals k d lt ∙ at_drop_more (λ ys. takes_direct (get_or globals k d ∷ drop (k + 1) globals) ys n) direct k e below

pub taken_here : (globals : List ℕ) (direct : List Bool) (n k d : ℕ) (e : Bool) (whole : Bool) → k < length globals → k < length direct → (get_or direct k e && nat_eq n (get_or globals k d)) ≡ true
    → takes_direct (drop k globals) (drop k direct) n ≡ whole → true ≡ whole
taken_here globals direct n k d e whole lt below is were = sym (both_drop globals direct n k d e lt below ∙ ap (λ b. b || takes_direct (drop (k + 1) globals) (drop (k + 1) direct) n) is) ∙ were

pub taken_next : (globals : List ℕ) (direct : List Bool) (n k d : ℕ) (e : Bool) (whole : Bool) → k < length globals → k < length direct → (get_or direct k e && nat_eq n (get_or globals k d)) ≡ false
    → takes_direct (drop k globals) (drop k direct) n ≡ whole → takes_direct (drop (k + 1) globals) (drop (k + 1) direct) n ≡ whole
taken_next globals direct n k d e whole lt below is were = sym (both_drop globals direct n k d e lt below ∙ ap (λ b. b || takes_direct (drop (k + 1) globals) (drop (k + 1) direct) n) is) ∙ were

no_buffer : (globals : List ℕ) (n : ℕ) → takes_direct globals [] n ≡ false
no_buffer [] n = refl
no_buffer (m ∷ globals) n = refl

pub taken_none : (globals : List ℕ) (direct : List Bool) (n k : ℕ) (whole : Bool) → min (length globals) (length direct) ≤ k → takes_direct (drop k globals) (drop k direct) n ≡ whole → false ≡ whole
taken_none globals direct n k whole le were = sym (by (cases_lt k (length globals))) ∙ were
  where
    by : (k < length globals) ⊎ (length globals ≤ k) → takes_direct (drop k globals) (drop k direct) n ≡ false
    by (inl lt) = at_drop_all (λ ys. takes_direct (drop k globals) ys n) direct k (omega arith) ∙ no_buffer (drop k globals) n
    by (inr ge) = at_drop_all (λ xs. takes_direct xs (drop k direct) n) globals k ge

-- ---- extra bits
pub nothing_more : (k : Configuration) → k ≡ with_extras [] k
nothing_more k = ap (λ (es : List (ℕ × ℕ × ℕ)). record k { extras = es }) (sym (append-nil k.extras))

one_more : (o : Option (ℕ × ℕ × ℕ)) (rest : List (ℕ × ℕ × ℕ)) (k : Configuration) → with_extras rest (with_extras (cons_option o []) k) ≡ with_extras (cons_option o rest) k
one_more None rest k = ap (λ (es : List (ℕ × ℕ × ℕ)). record k { extras = es ++ rest }) (append-nil k.extras)
one_more (Some e) rest k = ap (λ (es : List (ℕ × ℕ × ℕ)). record k { extras = es }) (append_assoc k.extras (e ∷ []) rest)

pub extras_more : (parts : Parts) (globals : List ℕ) (direct : List Bool) (ns : List ℕ) (i d : ℕ) (old new whole : Configuration) → i < length ns → takes_direct globals direct (get_or ns i d) ≡ true
    → new ≡ with_extras (cons_option (padin_of parts (get_or ns i d)) []) old → with_extras (extras_among parts globals direct (drop i ns)) old ≡ whole → with_extras (extras_among parts globals direct (drop (i + 1) ns)) new ≡ whole
extras_more parts globals direct ns i d old new whole lt takes is were =
    let rest = filter (takes_direct globals direct) (drop (i + 1) ns) in
    ap (with_extras (extras_among parts globals direct (drop (i + 1) ns))) is
    ∙ one_more (padin_of parts (get_or ns i d)) (extras_among parts globals direct (drop (i + 1) ns)) old
    ∙ sym (ap (λ xs. with_extras (filter_map (padin_of parts) xs) old) (at_drop_more (filter (takes_direct globals direct)) ns i d lt ∙ ap (λ b. cond b (get_or ns i d ∷ rest) rest) takes))
    ∙ were

pub extras_same : (parts : Parts) (globals : List ℕ) (direct : List Bool) (ns : List ℕ) (i d : ℕ) (old whole : Configuration) → i < length ns → takes_direct globals direct (get_or ns i d) ≡ false
    → with_extras (extras_among parts globals direct (drop i ns)) old ≡ whole → with_extras (extras_among parts globals direct (drop (i + 1) ns)) old ≡ whole
extras_same parts globals direct ns i d old whole lt takes were =
    let rest = filter (takes_direct globals direct) (drop (i + 1) ns) in
    sym (ap (λ xs. with_extras (filter_map (padin_of parts) xs) old) (at_drop_more (filter (takes_direct globals direct)) ns i d lt ∙ ap (λ b. cond b (get_or ns i d ∷ rest) rest) takes))
    ∙ were

pub extras_end : (parts : Parts) (globals : List ℕ) (direct : List Bool) (ns : List ℕ) (i : ℕ) (made whole : Configuration) → length ns ≤ i → with_extras (extras_among parts globals direct (drop i ns)) made ≡ whole → made ≡ whole
extras_end parts globals direct ns i made whole le were =
    sym (ap (λ (es : List (ℕ × ℕ × ℕ)). record made { extras = es }) (append-nil made.extras))
    ∙ sym (ap (λ xs. with_extras xs made) (at_drop_all (extras_among parts globals direct) ns i le))
    ∙ were
