-- What a node can afford: a plan that is sought pays the floor and its members' prices out of what it is worth, which stays below the ceiling.
use mathlib.Core.List.{List}
use Rattle.std.specs.Prelude.{Option}
use Prim.Native.Nat.{ℕ, ◌+◌}
use native.Mathlib.Omega.{arith}
use Rattle.bitset.specs.Bits.{Member}
use Rattle.pacsolve.specs.Problem.{Problem}
use Rattle.pacsolve.specs.Listing.{Asked}
use Rattle.pacsolve.specs.Plan.{Plan, chosen, MemberOf}
use Rattle.catalogue.proofs.Spanned.{span_owner}
use Rattle.plan.specs.declared.Problem.{Problem as LentProblem}
use Rattle.plan.specs.Posing.{problem_by}
use Rattle.price.specs.declared.floor.Ground.{Ground}
use Rattle.price.specs.Prices.{Serves}
use Rattle.price.specs.Floor.{Floors}
use Rattle.price.proofs.Drawing.{member_price}
use Rattle.node.specs.declared.Facts.{Facts}
use Rattle.node.specs.declared.Node.{Node}
use Rattle.node.specs.Banning.{Bans}
use Rattle.node.specs.Facts.{FactsFor, Beyond, Ceils}
use Rattle.node.specs.Sought.{Limit, Sought}
use Rattle.node.specs.Narrowing.{Narrowed}
use Rattle.node.proofs.Banning.{banned_fewer, banned_kept}
use Rattle.node.proofs.Left.{gained_none}
use Rattle.node.proofs.Slotted.{Slotted, tabled_slotted}

module _ (problem : LentProblem) (facts : Facts) (of : FactsFor problem facts) (q : Asked) (lim : Limit) (node : Node) (choices : List ℕ) where
  abbrev p : Problem
  p = problem_by problem

  slotted : Slotted p problem.slots.now
  slotted = tabled_slotted problem.entries.now problem.slots.now problem.settings problem.objectives.now problem.fits.now

  -- a plan inside the node has a choice of every slot of a member
  serves : (P : Plan) → Sought p q lim node.must node.ban choices P → Serves facts.spans.first P.set choices P.set
  serves P x e s small m low high =
      let its = span_owner of.spans e s small low high in
      let owned : MemberOf P (p.owner s) = rw (slotted.owner s its.0, its.1) m in
      (chosen P s, x.inside.names s its.0 owned, x.good.sound.named.filled s its.0 owned)

  pub afforded : {ground : Ground} {price : List ℕ} {top out : ℕ} {r : Option Node} → Floors facts.rates facts.spans.first node.must choices price ground
      → Ceils p facts.rates.scale lim node choices top → Beyond price ground.sum (top + ground.credit) out → Bans node out r
      → Narrowed p q lim node choices r choices
  afforded {ground} {price} {top} {out} {r} floors ceils beyond bans =
      record {
        less = gained_none;
        fewer = banned_fewer bans gained_none;
        keeps = λ P x. banned_kept p bans P x.inside (lacks P x) x.inside.names;
      }
    where
      lacks : (P : Plan) → Sought p q lim node.must node.ban choices P → (e : ℕ) → Member out e → ¬ MemberOf P e
      lacks P x e m o =
          let there = x.good.sound.rooted.existing in
          let paid =
          floors.below problem.entries.now problem.objectives.now problem.slots.now problem.fits.now problem.settings of.alikes of.scaled of.priced of.few P.set there
          x.inside.has (serves P x) in
          let its = member_price price P.set e (omega (arith, there e o, of.few)) o in
          omega (arith, paid, its, ceils.over P x.good x.below x.inside, beyond e m)
