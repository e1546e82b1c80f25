use Rattle.std.proofs.Common.{◌≡◌, [], ◌∷◌, ◌++◌, length, rules}
use Rattle.ice_base_values.specs.Graph.{rows_of, AreEnds}
use Rattle.ice_base_values.proofs.Rows.{rows_pushed}
use Rattle.ice_base_values.proofs.graph.Graph.push.Goals as goal
use Rattle.ice_base_values.proofs.graph.Graph.push.Goals.{In_ok-push}

-- what the vectors are after the pushes
parts : (c : In_ok-push) → AreEnds 0 c.push.new.self.items (length c.extend_from_slice.new.self.items)
    × (rows_of 0 c.push.new.self.items c.extend_from_slice.new.self.items ≡ c.args.self.now ++ c.args.depends.now ∷ [])
parts c = rw (← c.self.view_is)
    (rows_pushed c.push.new.self.items c.self.inside.ends.items c.extend_from_slice.new.self.items c.self.inside.flat.items c.args.depends.now c.len.result
    (search rules) (search rules) (search rules) c.self.invariant)

pub invariant_of-self-2 : goal.invariant_of-self-2
invariant_of-self-2 c = (parts c).0

pub returns-clause-ok : goal.returns-clause-ok
returns-clause-ok c = (parts c).1
