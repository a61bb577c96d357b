-- Why banning the clashes of must entries loses no plan: a plan has every must entry, and nothing that may not stand beside it.
use mathlib.Core.Path.{◌≡◌}
use mathlib.Core.List.{List}
use mathlib.Core.Logic.{◌⊎◌, inl, inr}
use Prim.Native.Nat.{ℕ}
use lib.Bits.{bit_or}
use lib.ListN.{get_or}
use Rattle.bitset.specs.Bits.{Member}
use Rattle.bitset.proofs.Made.{join_members}
use Rattle.pacsolve.specs.Problem.{Problem}
use Rattle.pacsolve.specs.Plan.{Plan, MemberOf}
use Rattle.pacsolve.specs.Listing.{Good}
use Rattle.node.specs.Clashing.{Banned}
use Rattle.node.specs.Sought.{Inside}

-- one must entry more
pub banned_more : {ban must all : ℕ} {rows : List ℕ} (e : ℕ) → Member must e → Banned ban must rows all → Banned ban must rows (bit_or all (get_or rows e 0))
banned_more {ban} {must} {all} {rows} e m b = record { only = λ f x. go f ((join_members all (get_or rows e 0) f).0 x) }
  where
    go : (f : ℕ) → Member all f ⊎ Member (get_or rows e 0) f → Member ban f ⊎ ((d : ℕ) × Member must d × Member (get_or rows d 0) f)
    go f (inl y) = b.only f y
    go f (inr y) = inr (e, m, y)

-- the rows hold pairs of which no sound plan has both
pub clash_unused : (p : Problem) {choices rows : List ℕ} {must ban out : ℕ}
    → ((e f : ℕ) → Member (get_or rows e 0) f → ¬ (e ≡ f) × ¬ (p.kind e ≡ p.kind f → p.together e f)) → Banned ban must rows out
    → (P : Plan) → Good p P → Inside p must ban choices P → (f : ℕ) → Member out f → ¬ MemberOf P f
clash_unused p {rows = rows} {must = must} {ban = ban} apart banned P good inside f m there = go (banned.only f m)
  where
    go : Member ban f ⊎ ((e : ℕ) × Member must e × Member (get_or rows e 0) f) → ⊥
    go (inl b) = inside.lacks f b there
    go (inr (e, m, clash)) = let x = apart e f clash in x.1 (good.sound.consistent e f (inside.has e m) there x.0)
