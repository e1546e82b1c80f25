-- Passes are split off and taken in.
use Rattle.std.proofs.Common.{◌≡◌, ℕ, ◌+◌, ◌-◌, ◌≤◌, List, [], ◌++◌, refl, sym, ap, subst, arith}
use Rattle.std.proofs.lemmas.List.Sums.{sum_by-append}
use Rattle.ice_core.proofs.Sums.{each_append}
use Rattle.ice_claim.specs.declared.view.ClaimPart.{ClaimPart}
use Rattle.ice_claim.specs.declared.view.ClaimView.{ClaimView}
use Rattle.ice_claim.specs.Claims.{total, nets_by, takes_pair, ends_of, with_worker, with_parts}
use Rattle.ice_claim_opening.specs.declared.notes.Note.{Note}
use Rattle.ice_claim_opening.specs.Notes.{kept_on, AreNotes, IsLossNoted}
use Rattle.ice_claim_opening.specs.Workers.{IsGathered, IsSplit}

-- one pass more is split off
pub split_more : (n : ℕ) (v after : ClaimView) → IsSplit n v → after ≡ with_worker v → IsSplit (n + 1) after
split_more n v after h is = subst (IsSplit (n + 1)) (sym is) (record { main = h.main; out = omega (arith, h.out); splits = omega (arith, h.splits); fresh = h.fresh })

-- notes of two lists of parts
pub notes_of_both : (lists : List (List ℕ)) (parts others : List ClaimPart) (notes more : List Note) → AreNotes lists parts notes → AreNotes lists others more → AreNotes lists (parts ++ others) (notes ++ more)
notes_of_both lists parts others notes more h also = record {
  nets = λ f. omega (arith, sum_by-append (nets_by f) parts others, sum_by-append (λ (note : Note). f note.net) notes more, h.nets f, also.nets f);
  taken = λ n w. omega (arith, sum_by-append (takes_pair n w) parts others, sum_by-append (kept_on lists n w) notes more, h.taken n w, also.taken n w);
  losses = each_append (IsLossNoted lists) notes more h.losses also.losses;
}

-- one pass more is taken in
pub gathered_more : (lists : List (List ℕ)) (out : ℕ) (v u after : ClaimView) (notes more both : List Note) → IsGathered lists (out + 1) v notes → AreNotes lists u.parts more → after ≡ with_parts v u → both ≡ notes ++ more → IsGathered lists out after both
gathered_more lists out v u after notes more both h also is joined = subst (λ (w : ClaimView). IsGathered lists out w both) (sym is) (subst (IsGathered lists out (with_parts v u)) (sym joined) (record {
  main = h.main;
  out_is = omega (arith, h.out_is);
  of_all = notes_of_both lists v.parts u.parts notes more h.of_all also;
}))

pub ends_more : (v u after : ClaimView) → after ≡ with_parts v u → 1 ≤ total ends_of u → 1 ≤ total ends_of after
ends_more v u after is some_of = omega (arith, ap (total ends_of) is, sum_by-append ends_of v.parts u.parts, some_of)

pub ends_stay : (v u after : ClaimView) → after ≡ with_parts v u → 1 ≤ total ends_of v → 1 ≤ total ends_of after
ends_stay v u after is some_of = omega (arith, ap (total ends_of) is, sum_by-append ends_of v.parts u.parts, some_of)

-- nothing is taken in yet
pub gathered_none : (lists : List (List ℕ)) (n : ℕ) (v : ClaimView) (notes : List Note) → notes ≡ [] → IsSplit n v → IsGathered lists n v notes
gathered_none lists n v notes none h = record {
  main = h.main;
  out_is = h.out;
  of_all = subst (AreNotes lists v.parts) (sym none) (subst (λ (ps : List ClaimPart). AreNotes lists ps []) (sym h.fresh) (record { nets = λ f. refl; taken = λ n w. refl; losses = tt }));
}
