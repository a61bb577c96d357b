-- `node::grounded::risen` meets its contract. The loop's invariant: unless something is found, each entry passed is held up. The measure is the number of entries left.
use Rattle.bitset.specs.Bits.{count}
use Rattle.node.proofs.Grounding.{Rising}
use Rattle.node.proofs.grounded.risen.Given as goal

abbrev pub invariant-loop-rest : goal.invariant-loop-rest
invariant-loop-rest l = Rising l.spans.first l.choices l.ban l.footing l.found l.rest

abbrev pub decreases-loop-rest : goal.decreases-loop-rest
decreases-loop-rest l = count l.rest
