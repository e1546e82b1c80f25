use Rattle.std.proofs.Common.{◌≡◌, ◌+◌, All, length, vec_len}
use Rattle.ice_worker.specs.Tasks.{IsMade}
use Rattle.ice_worker.specs.Kits.{IsKitOf, made_by}
use Rattle.ice_negotiate_round.specs.declared.jobs.Done.{Done}
use Rattle.ice_negotiate_round.specs.Played.{Covers, made_in}
use Rattle.ice_negotiate_round.proofs.placing.place_all.Given as goal

abbrev pub invariant-loop-done : goal.invariant-loop-done
invariant-loop-done l = record {
  long : length l.news ≡ length l.fn.news;
  made : All (λ (d : Done). All (IsMade l.graph l.prices l.tasks) (made_by d.kit)) l.dones.items;
  of : All (λ (d : Done). IsKitOf l.graph d.kit) l.dones.items;
  covers : Covers l.graph l.prices l.tasks (λ t. made_in t l.fn.dones.items) l.fn.news → Covers l.graph l.prices l.tasks (λ t. made_in t l.dones.items) l.news;
  many : vec_len l.kits + vec_len l.dones ≡ vec_len l.fn.dones;
  kits : All (IsKitOf l.graph) l.kits.items;
}

abbrev pub decreases-loop-done : goal.decreases-loop-done
decreases-loop-done l = vec_len l.dones
